use Rattle.std.proofs.Common.{sym, subst, lit≤}
use Rattle.fx_base.specs.Bounds.{HasIndicesBelow256}
use Rattle.fx_store.proofs.Indices.{none_above, insert_below}
use Rattle.fx_snap.proofs.tests.at_0.Goals as goal

pub returns : goal.returns
returns c =
    subst HasIndicesBelow256 (sym c.in_ok-put.ensures.ok)
    (insert_below c.new-piece.result 0 _ (lit≤ tt) (subst HasIndicesBelow256 (sym c.new-piece.ensures) none_above))
