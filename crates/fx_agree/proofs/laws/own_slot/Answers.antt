use Rattle.fx_ballot.specs.World.{plain}
use Rattle.fx_ballot.proofs.Runs as laws
use Rattle.fx_agree.proofs.laws.own_slot.Goals as goal

pub returns : goal.returns
returns c = record {
  under_names = λ n name moves apart. laws.own_slots n name moves apart;
  of_plain_members = λ n moves. laws.own_slots n plain moves (λ i j a b e. e);
}
