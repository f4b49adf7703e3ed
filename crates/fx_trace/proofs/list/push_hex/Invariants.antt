-- What is written so far, with the digits of the bytes that are left, is the whole.
use Rattle.std.proofs.Common.{◌≡◌, ◌++◌, length}
use Rattle.fx_text.specs.Written.{Keeps}
use Rattle.fx_lines.specs.Hex.{hex_of}
use Rattle.fx_trace.proofs.list.push_hex.Given as goal

abbrev pub invariant-loop-rest : goal.invariant-loop-rest
invariant-loop-rest l = (l.out ++ hex_of l.rest ≡ l.fn.out ++ hex_of l.bytes) × Keeps l.fn.out l.out

abbrev pub decreases-loop-rest : goal.decreases-loop-rest
decreases-loop-rest l = length l.rest
