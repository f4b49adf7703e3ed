-- What is written so far, with the seats that are left, is the whole.
use Rattle.std.proofs.Common.{◌≡◌, ◌++◌, map, drop}
use Rattle.fx_text.specs.Written.{Keeps}
use Rattle.fx_lines.specs.Fields.{a_seat}
use Rattle.fx_trace.specs.Pieces.{each_behind}
use Rattle.fx_trace.proofs.field.push_other_seats.Given as goal

abbrev pub invariant-loop-seat : goal.invariant-loop-seat
invariant-loop-seat l = (l.out ++ each_behind 44 (map a_seat.spell (drop l.seat-index l.seats)) ≡ l.fn.out ++ each_behind 44 (map a_seat.spell l.seats)) × Keeps l.fn.out l.out
