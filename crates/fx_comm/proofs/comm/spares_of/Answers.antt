use Rattle.std.proofs.Common.{refl, ap, ◌∙◌, ◌&&◌, not}
use Rattle.std.specs.Ordering.{nat_cmp}
use Rattle.std.specs.Cmp.{nat_cmp_total}
use Rattle.std.specs.FinSet as set
use Rattle.fx_comm.specs.Seats.{seat}
use Rattle.fx_comm.proofs.Steps.{below_at, placed_step, placed_all}
use Rattle.fx_comm.proofs.comm.spares_of.Goals as goal

pub insert-requires : goal.insert-requires
insert-requires c =
    below_at c.as_slice-seat-items.result.now c.loop-seat.seat-index (seat 0 0) (rw c.as_slice-seat-items.ensures c.requires) c.loop-seat-test.true

pub loop-seat-init : goal.loop-seat-init
loop-seat-init c = λ proc. rw (c.new-placed.ensures, set.contains-empty nat_cmp proc) refl

pub loop-seat-preserved : goal.loop-seat-preserved
loop-seat-preserved c = λ proc.
    rw c.insert.ensures (placed_step c.loop-seat.placed c.as_slice-seat-items.result.now c.loop-seat.seat-index (seat 0 0) proc c.loop-seat-test.true)
    ∙ c.loop-seat.invariant proc

pub returns-clause-spares : goal.returns-clause-spares
returns-clause-spares c = λ proc.
    rw (c.difference.ensures.difference, ← c.as_slice-seat-items.ensures)
    (set.contains-difference nat_cmp_total c.args.present c.loop-seat.placed proc
    ∙ ap (λ b. set.contains c.args.present proc && not b) (placed_all c.loop-seat.placed c.as_slice-seat-items.result.now c.loop-seat.seat-index proc c.loop-seat-test.false (c.loop-seat.invariant proc)))
