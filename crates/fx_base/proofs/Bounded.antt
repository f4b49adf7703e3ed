-- A snapshot keeps its bounds where a member within them is put.
use Rattle.std.proofs.Common.{◌≡◌, ℕ, ℤ, ◌<◌, Bool, true, false, cond, Some, refl, sym, ◌∙◌, subst}
use Rattle.std.specs.Ordering.{nat_cmp, eq_by_cmp, is_eq}
use Rattle.std.specs.Cmp.{nat_cmp_total}
use Rattle.std.specs.FinMap.{FinMap, nat_cmp-IsAntisymmetric, empty, get, insert, get-empty, get-insert}
use Rattle.std.specs.declared.cmp.Ordering.{Ordering}
use Rattle.std.specs.declared.cmp.Ordering.TheVariants.{Less, Equal, Greater}
use Rattle.fx_base.specs.Keys.{by_number, by_number_total, by_number_same}
use Rattle.fx_base.specs.Bounds.{HasIndicesBelow256, IsBounded}
use Rattle.fx_base.specs.declared.names.MemberId.{MemberId}

tied : (o : Ordering) → is_eq o ≡ true → o ≡ Equal
tied Less h = cc
tied Equal h = refl
tied Greater h = cc

pub none_bounded : IsBounded empty
none_bounded member held at =
    let none = get-empty {X = FinMap nat_cmp ℤ} by_number member in
    cc

module _ (s : FinMap by_number (FinMap nat_cmp ℤ)) (key : MemberId) (value : FinMap nat_cmp ℤ) where
  put_at : IsBounded s → key.0 < 8 → HasIndicesBelow256 value → (member : MemberId) (held : FinMap nat_cmp ℤ) (here : Bool)
      → eq_by_cmp by_number member key ≡ here → cond here (Some value) (get s member) ≡ Some held → (member.0 < 8) × HasIndicesBelow256 held
  put_at bounded below inside member held true same at =
      let is : member ≡ key = by_number_same member key (tied (by_number member key) same) in
      let value_is : value ≡ held = cc in
      (subst (λ m. m.0 < 8) (sym is) below, subst HasIndicesBelow256 value_is inside)
  put_at bounded below inside member held false same at = bounded member held at

  pub put_bounded : IsBounded s → key.0 < 8 → HasIndicesBelow256 value → IsBounded (insert s key value)
  put_bounded bounded below inside member held at =
      put_at bounded below inside member held (eq_by_cmp by_number member key) refl (sym (get-insert by_number_total s key value member) ∙ at)

-- the indices of a member stay below 256 where one below it is put

pub none_below : HasIndicesBelow256 empty
none_below index element at =
    let none = get-empty {X = ℤ} nat_cmp index in
    cc

module _ (held : FinMap nat_cmp ℤ) (key : ℕ) (value : ℤ) where
  put_below_at : HasIndicesBelow256 held → key < 256 → (index : ℕ) (element : ℤ) (here : Bool)
      → eq_by_cmp nat_cmp index key ≡ here → cond here (Some value) (get held index) ≡ Some element → index < 256
  put_below_at inside below index element true same at =
      subst (λ n. n < 256) (sym (nat_cmp-IsAntisymmetric index key (tied (nat_cmp index key) same))) below
  put_below_at inside below index element false same at = inside index element at

  pub put_below : HasIndicesBelow256 held → key < 256 → HasIndicesBelow256 (insert held key value)
  put_below inside below index element at =
      put_below_at inside below index element (eq_by_cmp nat_cmp index key) refl (sym (get-insert nat_cmp_total held key value index) ∙ at)
