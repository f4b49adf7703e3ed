-- A front of the text was written, and the rest is left; each turn writes one byte at least.
use Rattle.std.proofs.Common.{length}
use Rattle.fx_io.proofs.Written.{SoFar}
use Rattle.fx_cli.proofs.lines.put_lines.Given as goal

abbrev pub invariant-loop-line : goal.invariant-loop-line
invariant-loop-line g l = SoFar (g.K.Sink.state l.fn.sink) (g.K.Sink.state l.sink) l.text l.rest

abbrev pub decreases-loop-line : goal.decreases-loop-line
decreases-loop-line g l = length l.rest
