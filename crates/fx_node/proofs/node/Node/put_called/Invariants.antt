-- The callback's name was written, and its prints so far.
use Rattle.std.proofs.Common.{◌≡◌, ◌++◌, ◌∷◌}
use Rattle.std.specs.Prelude.{map}
use Rattle.fx_item.specs.declared.item.Item.TheVariants as item
use Rattle.fx_machine.specs.Numbers.{epoch_no, proc}
use Rattle.fx_node.specs.Stepping.{print_item}
use Rattle.fx_node.proofs.node.Node.put_called.Given as goal

abbrev pub invariant-loop-printed : goal.invariant-loop-printed
invariant-loop-printed l = l.items ≡ l.fn.items ++ item.Callback (proc l.self.me) (epoch_no l.self.epoch) l.fn.called.name ∷ map (print_item l.self.me l.self.epoch) l.yielded
