-- the first error of those that are left is that of all
use Rattle.std.proofs.Common.{◌≡◌}
use Rattle.fx_machine.specs.Nodes.{procs_of}
use Rattle.fx_machine.specs.Waits.{first_error}
use Rattle.fx_node.proofs.agree.first_error.Given as goal

abbrev pub invariant-loop-seat : goal.invariant-loop-seat
invariant-loop-seat l = first_error (procs_of l.seat-iterator.a.rest.now) l.seat-iterator.b.rest.now ≡ first_error (procs_of l.seats) l.slots
