-- Indices stay below 256.
use Rattle.std.proofs.Common.{◌≡◌, refl, sym, ◌∙◌, ℕ, ℤ, ◌<◌, Bool, true, false, cond, Some, arith}
use Rattle.std.specs.Ordering.{nat_cmp, eq_by_cmp}
use Rattle.std.specs.Cmp.{nat_cmp_total, unsigned_tied}
use Rattle.std.specs.FinMap.{insert, empty, get, get-insert, get-empty}
use Rattle.std.proofs.lemmas.Bool.{eqb-true}
use Rattle.std.proofs.lemmas.Option.{none-some}
use Rattle.fx_base.specs.Bounds.{HasIndicesBelow256}
use Rattle.fx_base.specs.declared.sparse.Sparse.{Sparse}

pub none_above : HasIndicesBelow256 empty
none_above index element is = absurd (none-some element (sym (get-empty nat_cmp index) ∙ is))

pub insert_below : (m : Sparse) (index : ℕ) (x : ℤ) → index < 256 → HasIndicesBelow256 m → HasIndicesBelow256 (insert m index x)
insert_below m index x below old q element is = go (eq_by_cmp nat_cmp q index) refl (sym (get-insert nat_cmp_total m index x q) ∙ is)
  where
    go : (b : Bool) → eq_by_cmp nat_cmp q index ≡ b → cond b (Some x) (get m q) ≡ Some element → q < 256
    go true same found = let e : q ≡ index = eqb-true q index (sym (unsigned_tied q index) ∙ same) in omega (arith, e, below)
    go false other found = old q element found
