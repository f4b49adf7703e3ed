-- What was sent so far is told and on the links, and the others are left.
use Rattle.std.proofs.Common.{◌≡◌, ◌++◌, map}
use Rattle.fx_io.proofs.Written.{SoFar}
use Rattle.fx_world.specs.Counting.{counted}
use Rattle.fx_world.specs.Sends.{sent_all, sent_item}
use Rattle.fx_world.specs.Texts.{shown_text}
use Rattle.fx_world.proofs.world.World.send_all.Given as goal

abbrev pub invariant-loop-q : goal.invariant-loop-q
invariant-loop-q g l = record {
  next : (goal.iterator-loop-q g).can_next l.q-iterator;
  finite : (goal.iterator-loop-q g).is_finite l.q-iterator;
  same : l.self ≡ record l.initial.self { links = sent_all l.fn.p.0 l.yielded l.initial.self.links; counts = counted l.initial.self.counts (map (sent_item l.fn.p) l.yielded) };
  left : l.yielded ++ l.q-iterator.rest.items ≡ l.fn.sends;
  written : SoFar (g.K.Sink.state l.fn.sink) (g.K.Sink.state l.sink) (shown_text l.shown (map (sent_item l.fn.p) l.fn.sends)) (shown_text l.shown (map (sent_item l.fn.p) l.q-iterator.rest.items));
}
