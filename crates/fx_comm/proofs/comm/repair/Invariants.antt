-- the new seats so far, joined with what the seats that are left and the spares give, are all
use Rattle.std.proofs.Common.{◌≡◌, ◌++◌, drop}
use Rattle.std.specs.FinSet as set
use Rattle.fx_base.specs.Sets.{members_of}
use Rattle.fx_comm.specs.Seats.{filled, repaired}
use Rattle.fx_comm.proofs.comm.repair.Given as goal

abbrev pub invariant-loop-seat : goal.invariant-loop-seat
invariant-loop-seat l =
    l.seats ++ filled (set.contains l.present) (drop l.seat-index l.seat-items) (members_of l.spares) ≡ repaired l.seat-items (set.contains l.present)
