use Rattle.std.proofs.Common.{◌≡◌, ◌<◌, ◌+◌, ◌++◌, ◌∷◌, [], List, drop, length, slice_index_or, sym, ap, ◌∙◌}
use Rattle.std.proofs.lemmas.List.{append-nil}
use Rattle.std.proofs.Math.ListN.{drop_of_length-le}
use Rattle.std.specs.FinSet as set
use Rattle.fx_base.specs.Sets.{members_of}
use Rattle.fx_base.proofs.Bits.{length_members}
use Rattle.fx_comm.specs.Seats.{Seat, seat, filled, repaired}
use Rattle.fx_comm.proofs.Repairs.{repaired_comm}
use Rattle.fx_comm.proofs.Steps.{below_at, seats_at, stay_step, fill_step, leave_step, members_first, members_none}
use Rattle.fx_comm.proofs.comm.repair.Goals as goal
use Rattle.fx_comm.proofs.comm.repair.Goals.{then-has+in_ok-push, else-has+in-Some+in_ok-push-2, else-has+in_default}

pub has-requires : goal.has-requires
has-requires c =
    below_at c.as_slice-seat-items.result.now c.loop-seat.seat-index (seat 0 0) (rw c.as_slice-seat-items.ensures c.old.invariant.below) c.loop-seat-test.true

pub loop-seat-preserved : goal.loop-seat-preserved
loop-seat-preserved c =
    let items : List Seat = c.as_slice-seat-items.result.now in
    let s : Seat = slice_index_or items c.loop-seat.seat-index (seat 0 0) in
    let rest : List Seat = drop (c.loop-seat.seat-index + 1) items in
    let before : c.loop-seat.seats ++ filled (set.contains c.args.present) (s ∷ rest) (members_of c.loop-seat.spares) ≡ repaired items (set.contains c.args.present) =
    rw (seats_at items c.loop-seat.seat-index (seat 0 0) c.loop-seat-test.true) at c.loop-seat.invariant in
    elim c.if-has.branch [
      | then-has+in_ok-push w ↦
          rw (w.seats-is, w.spares-is, w.in_ok-push.ensures.ok)
          (stay_step (set.contains c.args.present) c.loop-seat.seats s rest (members_of c.loop-seat.spares) (sym c.has.ensures.member ∙ w.if-has.true) ∙ before)
      | else-has+in-Some+in_ok-push-2 w ↦
          rw (w.seats-is, w.spares-is, w.in_ok-push-2.ensures.ok, w.remove.ensures)
          (fill_step (set.contains c.args.present) c.loop-seat.seats s rest (members_of c.loop-seat.spares) w.in-Some.spare (members_of (set.remove c.loop-seat.spares w.in-Some.spare)) (sym c.has.ensures.member ∙ w.if-has.false)
          (members_first c.loop-seat.spares w.in-Some.spare w.in-Some.ensures.below w.in-Some.ensures.least) ∙ before)
      | else-has+in_default w ↦
          rw (w.seats-is, w.spares-is)
          (leave_step (set.contains c.args.present) c.loop-seat.seats s rest (members_of c.loop-seat.spares) (sym c.has.ensures.member ∙ w.if-has.false) (ap members_of w.in_default.ensures.none ∙ members_none) ∙ before)
    ]

pub invariant_of-result : goal.invariant_of-result
invariant_of-result c =
    let items : List Seat = c.as_slice-seat-items.result.now in
    let gone : drop c.loop-seat.seat-index items ≡ [] = drop_of_length-le items c.loop-seat-test.false in
    let all : c.loop-seat.seats ++ [] ≡ repaired items (set.contains c.args.present) = rw gone at c.loop-seat.invariant in
    let done : c.loop-seat.seats ≡ repaired items (set.contains c.args.present) = sym (append-nil c.loop-seat.seats) ∙ all in
    let some : 0 < length (members_of c.args.present) = rw (length_members c.args.present c.spares_of-spares.ensures.below) c.requires in
    rw (done, c.as_slice-seat-items.ensures) (repaired_comm (set.contains c.args.present) c.old.inside.seats c.old.invariant some)
