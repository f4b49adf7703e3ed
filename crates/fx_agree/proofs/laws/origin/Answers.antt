use Rattle.fx_ballot.specs.World.{plain}
use Rattle.fx_ballot.proofs.Runs as laws
use Rattle.fx_agree.proofs.laws.origin.Goals as goal

pub returns : goal.returns
returns c = record {
  under_names = λ n name moves apart. laws.origin n name moves apart;
  of_plain_members = λ n moves. laws.origin n plain moves (λ i j a b e. e);
  of_what_is_said = λ n name moves apart. laws.origin_of_said n name moves apart;
}
