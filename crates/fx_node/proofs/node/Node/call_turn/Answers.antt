use Rattle.std.proofs.Common.{◌≡◌, ◌≤◌, ℕ, List, length, refl, sym, ap, subst, take, ◌∙◌}
use Rattle.std.proofs.lemmas.List.{length-map}
use Rattle.fx_comm.specs.Seats.{Seat}
use Rattle.fx_inbox.specs.Turns.{phase_of}
use Rattle.fx_machine.specs.Nodes.{procs_of}
use Rattle.fx_node.proofs.Agreeing.{all_among, takes_call}
use Rattle.fx_node.proofs.Telling.{both_ok}
use Rattle.fx_node.specs.declared.stage.Stage.TheVariants as stage
use Rattle.fx_node.specs.Standing.{IsNodeOf, Standing}
use Rattle.fx_node.proofs.node.Node.call_turn.Goals as goal

pub returns-clause-turned : goal.returns-clause-turned
returns-clause-turned c = both_ok c.turn.result _ _ _ (λ said takes stays. record {
  before = c.in-Balloting.phase;
  later = c.turn.new.phase;
  at = ap (λ (s : Standing). s.stage) (sym c.self.view_is) ∙ c.in-Balloting.is;
  same = ap (λ (s : Standing). record s { stage = stage.Balloting c.turn.new.phase }) c.self.view_is;
  takes = λ job n flag is.
      let w = subst (λ (s : Standing). IsNodeOf job s n) (sym c.self.view_is) is in
      let members : List ℕ = take c.from-places.result c.processes_of-members.result in
      let all : members ≡ procs_of c.self.inside.comm = ap (λ (k : ℕ). take k c.processes_of-members.result) (c.from-places.ensures ∙ c.size.ensures.size) ∙ c.processes_of-members.ensures in
      takes_call n _ c.self.inside.epoch (record { 0 = c.self.inside.calls }) members c.self.inside.present flag (phase_of c.in-Balloting.phase) said c.turn.new.phase
      refl refl c.as_slice.ensures w.epoch w.calls (ap (λ (l : List Seat). procs_of l) w.comm ∙ sym all) w.present (takes n w.knows);
  stays = stays;
}) c.turn.ensures.takes c.turn.ensures.stays

pub turn-requires-clause-few : goal.turn-requires-clause-few
turn-requires-clause-few c =
    let few : length (procs_of c.self.inside.comm) ≤ 32 = rw (length-map c.self.inside.comm (λ (s : Seat). s.1.0)) c.size.ensures.comm.at_most_32 in
    subst (λ (l : List ℕ). length l ≤ 32)
    (sym (ap (λ (k : ℕ). take k c.processes_of-members.result) (c.from-places.ensures ∙ c.size.ensures.size) ∙ c.processes_of-members.ensures)) few

pub turn-requires-clause-known : goal.turn-requires-clause-known
turn-requires-clause-known c =
    all_among _ _ _ c.self.invariant.seats (ap (λ (k : ℕ). take k c.processes_of-members.result) (c.from-places.ensures ∙ c.size.ensures.size) ∙ c.processes_of-members.ensures)
