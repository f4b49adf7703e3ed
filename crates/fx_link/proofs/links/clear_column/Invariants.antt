-- the rows that were gone over are emptied at the receiver, and the others are as they were
use Rattle.std.proofs.Common.{◌≡◌, ◌++◌, [], map, take, drop, slice_set}
use Rattle.fx_link.proofs.links.clear_column.Given as goal

abbrev pub invariant-loop-from : goal.invariant-loop-from
invariant-loop-from l = l.rows.items ≡ map (λ row. slice_set row l.to []) (take l.from l.initial.rows.items) ++ drop l.from l.initial.rows.items
