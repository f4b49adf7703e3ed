-- The first run of elements in rising index, and what is behind it.
use Rattle.std.specs.Prelude.{◌≡◌, refl, ℕ, ◌+◌, ℤ, pos, Bool, true, if◌then◌else◌, ◌==◌, List, [], ◌∷◌}
use Rattle.std.specs.List.{list_all}
use Rattle.fx_store.specs.Packed.{Run, is_element}

-- there is a first entry, of which the fact holds, together with the entries behind it
abbrev pub OfFirst : List (ℕ × ℤ) → (ℕ × ℤ → List (ℕ × ℤ) → Type 0) → Type 0
OfFirst [] P = ⊥
OfFirst (entry ∷ entries) P = P entry entries

-- the elements that go on at the index
abbrev pub going_on : ℕ → List (ℕ × ℤ) → List ℤ
going_on index [] = []
going_on index (entry ∷ entries) = if entry.0 == index then entry.1 ∷ going_on (index + 1) entries else []

-- the entries behind them
abbrev pub behind : ℕ → List (ℕ × ℤ) → List (ℕ × ℤ)
behind index [] = []
behind index (entry ∷ entries) = if entry.0 == index then behind (index + 1) entries else entry ∷ entries

-- the first run of an entry and those after it
abbrev pub first_run : ℕ × ℤ → List (ℕ × ℤ) → Run
first_run entry entries = record { start = entry.0; elements = entry.1 ∷ going_on (entry.0 + 1) entries }

-- each element has 64 bits
abbrev pub have_64_bits : List (ℕ × ℤ) → Bool
have_64_bits entries = list_all (λ entry. is_element entry.1) entries

-- no element goes on at the index
pub record EndsAt (index : ℕ) (entries : List (ℕ × ℤ)) : Type 0 where
  pub elements : going_on index entries ≡ []
  pub left : behind index entries ≡ entries

-- the element goes on at the index, and then the others
pub record GoesOn (index : ℕ) (element : ℤ) (entries others : List (ℕ × ℤ)) : Type 0 where
  pub elements : going_on index entries ≡ element ∷ going_on (index + 1) others
  pub left : behind index entries ≡ behind (index + 1) others
  pub bits : have_64_bits others ≡ true → have_64_bits entries ≡ true

goes_on_at_2 : going_on 2 ((2, pos 20) ∷ (3, pos 30) ∷ (5, pos 50) ∷ []) ≡ pos 20 ∷ pos 30 ∷ []
goes_on_at_2 = refl

behind_2_and_3 : behind 2 ((2, pos 20) ∷ (3, pos 30) ∷ (5, pos 50) ∷ []) ≡ (5, pos 50) ∷ []
behind_2_and_3 = refl
