-- What is written so far, with the seats that are left, is the whole.
use Rattle.std.proofs.Common.{◌≡◌, ◌++◌, map, drop}
use Rattle.fx_text.specs.Written.{Keeps, spaced}
use Rattle.fx_lines.specs.Fields.{a_seat}
use Rattle.fx_trace.proofs.list.put_seats.Given as goal

abbrev pub invariant-loop-seat : goal.invariant-loop-seat
invariant-loop-seat l = (l.out ++ spaced (map a_seat.spell (drop l.seat-index l.seats)) ≡ l.fn.out ++ spaced (map a_seat.spell l.seats)) × Keeps l.fn.out l.out
