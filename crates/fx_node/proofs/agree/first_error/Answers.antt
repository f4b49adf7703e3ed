use Rattle.std.proofs.Common.{inl, inr}
use Rattle.fx_node.proofs.Agreeing.{no_places_left, no_slots_left}
use Rattle.fx_node.proofs.agree.first_error.Goals as goal

pub returns : goal.returns
returns c = elim c.in-None.ensures.steps [
  | inl w ↦ no_places_left _ _ _ w.1.0 c.loop-seat.invariant
  | inr w ↦ no_slots_left _ _ _ w.1.0 c.loop-seat.invariant
]
