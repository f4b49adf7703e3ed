-- What is found in elements that were put over others.
use Rattle.std.proofs.Common.{◌≡◌, refl, sym, ap, ◌∙◌, ℕ, Bool, true, false, cond, List, [], ◌∷◌, ◌++◌, Option, Some}
use Rattle.std.specs.Option.{option_or}
use Rattle.std.specs.Ordering.{nat_cmp, eq_by_cmp}
use Rattle.std.specs.Cmp.{nat_cmp_total}
use Rattle.std.specs.FinMap.{find, entries, empty, get, get-entries, get-from_entries, entries-from_sorted}
use Rattle.std.specs.declared.cmp.Ordering.{Ordering}
use Rattle.fx_base.proofs.Maps.{none_is_empty}
use Rattle.fx_base.specs.declared.sparse.Sparse.{Sparse}
use Rattle.fx_store.specs.Store.{put_over}

module _ {K X : Type 0} (R : K → K → Ordering) where
  pub entries-empty : entries (empty {X = X} {R = R}) ≡ []
  entries-empty = sym (ap entries (none_is_empty {X = X} R)) ∙ entries-from_sorted {X = X} R [] tt

  -- the first of two lists that has the key
  pub find_joined : (q : K) (a b : List (K × X)) → find R q (a ++ b) ≡ option_or (find R q a) (find R q b)
  find_joined q [] b = refl
  find_joined q (e ∷ a) b = either (eq_by_cmp R q e.0) (Some e.1) _ _ _ refl (find_joined q a b)
    where
      either : (t : Bool) (x y z w : Option X) → option_or x w ≡ x → y ≡ option_or z w → cond t x y ≡ option_or (cond t x z) w
      either true x y z w same later = sym same
      either false x y z w same later = later

-- the elements of the piece come first
pub get-put_over : (piece old : Sparse) (q : ℕ) → get (put_over piece old) q ≡ option_or (get piece q) (get old q)
get-put_over piece old q =
    get-from_entries nat_cmp_total (entries piece ++ entries old) q
    ∙ find_joined nat_cmp q (entries piece) (entries old)
    ∙ (λ i. option_or (sym (get-entries piece q) i) (sym (get-entries old q) i))
