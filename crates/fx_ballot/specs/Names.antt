-- The names of seats from a list of processes: the member at seat k is process number k of the list, from 0.
use Rattle.std.specs.Prelude.{◌≡◌, ◌<◌, ℕ, suc, Bool, true, false, ◌||◌, if◌then◌else◌, ◌==◌, List, [], ◌∷◌, length, slice_index_or, refl}
use Rattle.fx_ballot.specs.World.{Apart, among}

-- the process at a seat
abbrev pub seat_at : List ℕ → ℕ → ℕ
seat_at who k = slice_index_or who k 0

-- the seat of a process that has one
abbrev pub seat_of : List ℕ → ℕ → ℕ
seat_of [] p = 0
seat_of (q ∷ qs) p = if q == p then 0 else suc (seat_of qs p)

-- the process has a seat
abbrev pub has : List ℕ → ℕ → Bool
has [] p = false
has (q ∷ qs) p = (q == p) || has qs p

-- no process stands in the list twice
abbrev pub Distinct : List ℕ → Type 0
Distinct [] = Unit {0}
Distinct (q ∷ qs) = (has qs q ≡ false) × Distinct qs

-- what a ballot asks of names, of those that the list gives; and a process has one seat, a seat one process
pub record NamesSeats (who : List ℕ) : Type 0 where
  pub apart : Apart (length who) (seat_at who)
  pub members : (p : ℕ) → among (length who) (seat_at who) p ≡ has who p
  pub seat : (p : ℕ) → has who p ≡ true → (seat_of who p < length who) × (seat_at who (seat_of who p) ≡ p)
  pub process : (k : ℕ) → k < length who → (has who (seat_at who k) ≡ true) × (seat_of who (seat_at who k) ≡ k)

pub the_second_seat : seat_at (9 ∷ 4 ∷ 7 ∷ []) 1 ≡ 4
the_second_seat = refl

pub the_seat_of_the_last : seat_of (9 ∷ 4 ∷ 7 ∷ []) 7 ≡ 2
the_seat_of_the_last = refl
