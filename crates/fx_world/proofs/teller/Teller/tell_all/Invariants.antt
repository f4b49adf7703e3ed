-- The items so far were counted, and the lines of those that are shown were written.
use Rattle.std.proofs.Common.{◌≡◌, drop}
use Rattle.fx_io.proofs.Written.{SoFar}
use Rattle.fx_world.specs.Counting.{counted}
use Rattle.fx_world.specs.Texts.{shown_text}
use Rattle.fx_world.proofs.teller.Teller.tell_all.Given as goal

abbrev pub invariant-loop-item : goal.invariant-loop-item
invariant-loop-item g l = record {
  counts : counted l.self (drop l.item-index l.items) ≡ counted l.initial.self l.items;
  written : SoFar (g.K.Sink.state l.fn.sink) (g.K.Sink.state l.sink) (shown_text l.shown l.items) (shown_text l.shown (drop l.item-index l.items));
}
