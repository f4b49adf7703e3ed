-- What stands behind the end of a list.
use Rattle.std.proofs.Common.{◌≡◌, ℕ, List, None, get_or, slice_get, inl, inr}
use Rattle.std.proofs.lemmas.List.{get_or_past}
use Rattle.std.proofs.lemmas.Option.{slice_get_cases}

-- behind a list's end its default stands
pub none_is_past : {X : Type 0} (xs : List X) (i : ℕ) (d : X) → slice_get xs i ≡ None → get_or xs i d ≡ d
none_is_past xs i d none = elim (slice_get_cases xs i).1 [ inl s ↦ absurd cc | inr s ↦ get_or_past xs i d s.0 ]
