-- none of the rows so far has one
use Rattle.std.proofs.Common.{◌≡◌, ◌<◌, ℕ, false, []}
use Rattle.std.specs.Prelude.{slice_index_or}
use Rattle.std.specs.List.{list_any}
use Rattle.fx_inbox.specs.Joins.{tells_join}
use Rattle.fx_inbox.proofs.inbox.has_joins.Given as goal

abbrev pub invariant-loop-row : goal.invariant-loop-row
invariant-loop-row l = (q : ℕ) → q < l.row-index → list_any tells_join (slice_index_or l.rows q []) ≡ false
