-- What is written so far, with the digits of the bytes that are left, is the whole.
use Rattle.std.proofs.Common.{◌≡◌, ◌++◌, drop}
use Rattle.fx_text.specs.Written.{Keeps}
use Rattle.fx_lines.specs.Hex.{hex_of}
use Rattle.fx_trace.proofs.list.push_bytes.Given as goal

abbrev pub invariant-loop-byte : goal.invariant-loop-byte
invariant-loop-byte l = (l.out ++ hex_of (drop l.byte-index l.bytes) ≡ l.fn.out ++ hex_of l.bytes) × Keeps l.fn.out l.out
