-- A front of the piece was written, and the rest is left; each turn writes one byte at least.
use Rattle.std.proofs.Common.{◌≡◌, ◌≤◌, List, ℕ, ◌++◌, length}
use Rattle.fx_io.specs.Told.{Gains}
use Rattle.fx_io.proofs.whole.write_whole.Given as goal

abbrev pub invariant-loop-rest : goal.invariant-loop-rest
invariant-loop-rest g l = record {
  added : (front : List ℕ) × (l.piece ≡ front ++ l.rest) × Gains (g.K.Sink.state l.fn.sink).written (g.K.Sink.state l.sink).written front;
  counts : (g.K.Sink.state l.fn.sink).faults ≤ (g.K.Sink.state l.sink).faults;
}

abbrev pub decreases-loop-rest : goal.decreases-loop-rest
decreases-loop-rest g l = length l.rest
