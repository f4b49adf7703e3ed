-- the pairs so far, and those behind them
use Rattle.std.proofs.Common.{◌≡◌, ◌-◌}
use Rattle.fx_script.specs.Fields.{pairs_from}
use Rattle.fx_script.proofs.cursor.Cursor.more_pairs.Given as goal

abbrev pub invariant-loop : goal.invariant-loop
invariant-loop l = pairs_from (15 - l.counter) l.pairs l.self ≡ pairs_from 15 l.fn.before l.fn.self
