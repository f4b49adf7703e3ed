use Rattle.fx_ballot.specs.World.{plain}
use Rattle.fx_ballot.proofs.Runs as laws
use Rattle.fx_agree.proofs.laws.rounds_name_their_sender.Goals as goal

pub returns : goal.returns
returns c = record {
  under_names = λ n name moves apart. laws.rounds_name_their_sender n name moves apart;
  of_plain_members = λ n moves. laws.rounds_name_their_sender n plain moves (λ i j a b e. e);
}
