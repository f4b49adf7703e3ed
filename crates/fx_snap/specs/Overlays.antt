-- Elements that move from the entries that are left to a map.
use Rattle.std.specs.Prelude.{◌≡◌, ℕ, ℤ, ◌+◌, ◌≤◌, List, [], ◌∷◌}
use Rattle.std.specs.Option.{option_or}
use Rattle.std.specs.Ordering.{nat_cmp}
use Rattle.std.specs.FinMap.{find, get}
use Rattle.fx_base.specs.declared.sparse.Sparse.{Sparse}

-- each index finds the same in the entries that are left over the map as before
abbrev pub Moves : (old new : Sparse) (left next : List (ℕ × ℤ)) → Type 0
Moves old new left next = (q : ℕ) → option_or (find nat_cmp q next) (get new q) ≡ option_or (find nat_cmp q left) (get old q)

-- indices rise, the first of which is `least` or more
abbrev pub KeysFrom : ℕ → List (ℕ × ℤ) → Type 0
KeysFrom least [] = Unit {0}
KeysFrom least (entry ∷ entries) = (least ≤ entry.0) × KeysFrom (entry.0 + 1) entries
