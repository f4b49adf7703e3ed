-- What is written so far, with the stamps that are left, is the whole.
use Rattle.std.proofs.Common.{◌≡◌, ◌++◌, map, drop}
use Rattle.fx_text.specs.Written.{Keeps, spaced}
use Rattle.fx_lines.specs.Fields.{a_stamp}
use Rattle.fx_trace.proofs.list.put_stamps.Given as goal

abbrev pub invariant-loop-stamp : goal.invariant-loop-stamp
invariant-loop-stamp l = (l.out ++ spaced (map a_stamp.spell (drop l.stamp-index l.stamps)) ≡ l.fn.out ++ spaced (map a_stamp.spell l.stamps)) × Keeps l.fn.out l.out
