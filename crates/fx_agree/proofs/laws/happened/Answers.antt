use Rattle.fx_ballot.specs.World.{plain}
use Rattle.fx_ballot.proofs.Happenings as laws
use Rattle.fx_agree.proofs.laws.happened.Goals as goal

pub returns : goal.returns
returns c = record {
  under_names = λ n name moves apart. laws.happened n name moves apart;
  of_plain_members = λ n moves. laws.happened n plain moves (λ i j a b e. e);
}
