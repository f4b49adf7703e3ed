-- What the edits of a list of entries in rising key are to the finite map that it is seen as.
use Rattle.std.proofs.Common.{◌≡◌, Bool, true, false, cond, not, T, List, [], length, None, refl, sym, ap, ◌∙◌, IsTrue}
use Rattle.std.specs.Ordering.{eq_by_cmp, is_eq}
use Rattle.std.specs.Cmp.{IsTotalOrder, alike_right, eq_by_cmp_equiv}
use Rattle.std.specs.FinMap.{FinMap, IsAntisymmetric, is_sorted, find, put, entries, from_sorted, empty, len, get, insert, remove, entries-from_sorted, len-entries, empty_of_len, same_entries_map, entries-insert, get-from_sorted, get-remove, same_map}
use Rattle.std.specs.FinMap.Entries.{where_key, is_sorted-put, is_sorted-where_key, find-where_key}
use Rattle.std.specs.declared.cmp.Ordering.{Ordering}
use Rattle.fx_base.proofs.Entries.{holds}

shown : (b : Bool) → T b → IsTrue b
shown true h = refl
shown false h = absurd h

turned : {A : Type 0} (b : Bool) (x y : A) → cond (not b) x y ≡ cond b y x
turned true x y = refl
turned false x y = refl

module _ {K X : Type 0} (R : K → K → Ordering) where
  pub entries_of : (es : List (K × X)) → IsTrue (is_sorted R es) → entries (from_sorted {R = R} es) ≡ es
  entries_of es h = entries-from_sorted R es (holds _ h)

  pub len_of : (es : List (K × X)) → IsTrue (is_sorted R es) → len (from_sorted {R = R} es) ≡ length es
  len_of es h = len-entries (from_sorted {R = R} es) ∙ ap length (entries_of es h)

  pub get_of : (es : List (K × X)) (q : K) → IsTrue (is_sorted R es) → get (from_sorted {R = R} es) q ≡ find R q es
  get_of es q h = get-from_sorted R es q (holds _ h)

  pub none_is_empty : ◌≡◌ {A = FinMap R X} (from_sorted []) empty
  none_is_empty = empty_of_len _ (len_of [] refl)

  pub take_keeps : (p : K → Bool) (es : List (K × X)) → IsTrue (is_sorted R es) → IsTrue (is_sorted R (where_key R p es))
  take_keeps p es h = shown _ (is_sorted-where_key R p es (holds _ h))

  module _ (o : IsTotalOrder R) where
    pub put_keeps : (es : List (K × X)) (k : K) (v : X) → IsTrue (is_sorted R es) → IsTrue (is_sorted R (put R k v es))
    put_keeps es k v h = shown _ (is_sorted-put R o k v es (holds _ h))

    pub put_is_insert : (es : List (K × X)) (k : K) (v : X) → IsTrue (is_sorted R es) → from_sorted {R = R} (put R k v es) ≡ insert (from_sorted es) k v
    put_is_insert es k v h =
        same_entries_map _ _ (entries_of (put R k v es) (put_keeps es k v h) ∙ ap (put R k v) (sym (entries_of es h)) ∙ sym (entries-insert o (from_sorted es) k v))

    pub take_is_remove : IsAntisymmetric R → (es : List (K × X)) (k : K) → IsTrue (is_sorted R es) → from_sorted {R = R} (where_key R (λ x. not (eq_by_cmp R k x)) es) ≡ remove (from_sorted es) k
    take_is_remove same es k h =
        same_map o same _ _ (λ q.
        get_of (where_key R (λ x. not (eq_by_cmp R k x)) es) q (take_keeps _ es h)
        ∙ find-where_key R (λ x. not (eq_by_cmp R k x)) q (λ x t. ap (λ r. not (is_eq r)) (sym (alike_right o q x k t))) es
        ∙ turned (eq_by_cmp R k q) _ _
        ∙ ap (λ b. cond b None (find R q es)) ((eq_by_cmp_equiv o).symm k q)
        ∙ ap (λ found. cond (eq_by_cmp R q k) None found) (sym (get_of es q h))
        ∙ sym (get-remove o (from_sorted es) k q))
