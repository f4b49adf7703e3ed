-- What is read so far, in front of what the digits that are left say, is what all of them say.
use Rattle.std.proofs.Common.{◌≡◌, ◌++◌, length}
use Rattle.std.specs.Option.{option_map}
use Rattle.fx_lines.specs.Hex.{bytes_in}
use Rattle.fx_trace.proofs.read_word.read_hex.Given as goal

abbrev pub invariant-loop-rest : goal.invariant-loop-rest
invariant-loop-rest l = bytes_in l.fn.digits ≡ option_map (λ more. l.bytes ++ more) (bytes_in l.rest)

abbrev pub decreases-loop-rest : goal.decreases-loop-rest
decreases-loop-rest l = length l.rest
