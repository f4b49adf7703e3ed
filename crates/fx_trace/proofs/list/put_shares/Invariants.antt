-- What is written so far, with the shares that are left, is the whole.
use Rattle.std.proofs.Common.{◌≡◌, ◌++◌, map, drop}
use Rattle.std.specs.FinMap.{entries}
use Rattle.fx_text.specs.Written.{Keeps, spaced}
use Rattle.fx_lines.specs.Lists.{a_share}
use Rattle.fx_trace.proofs.list.put_shares.Given as goal

abbrev pub invariant-loop-k : goal.invariant-loop-k
invariant-loop-k l = (l.out ++ spaced (map a_share.spell (drop l.k (entries l.shares))) ≡ l.fn.out ++ spaced (map a_share.spell (entries l.shares))) × Keeps l.fn.out l.out
