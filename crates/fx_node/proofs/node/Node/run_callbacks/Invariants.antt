-- The callbacks so far were written.
use Rattle.std.proofs.Common.{◌≡◌, ◌++◌}
use Rattle.std.specs.List.{flat_map}
use Rattle.fx_node.specs.Stepping.{called_items}
use Rattle.fx_node.proofs.node.Node.run_callbacks.Given as goal

abbrev pub invariant-loop-called : goal.invariant-loop-called
invariant-loop-called l = (l.items ≡ l.initial.items ++ flat_map (called_items l.initial.self.me l.initial.self.epoch) l.yielded) × (l.self ≡ l.initial.self)
