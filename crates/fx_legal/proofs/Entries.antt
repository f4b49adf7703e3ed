-- What is so of all seats of a communicator is so of each process that has a place in it, and back.
use Rattle.std.proofs.Common.{◌≡◌, ℕ, Bool, true, false, ◌||◌, ◌==◌, List, [], ◌∷◌, is_some, refl, subst, arith}
use Rattle.std.specs.Prelude.{Option}
use Rattle.fx_comm.specs.Seats.{Seat, has_place}
use Rattle.fx_walk.specs.declared.wanted.Wanted.{Wanted}
use Rattle.fx_walk.specs.Plan.{Common}
use Rattle.fx_legal.specs.Calls.{IsLike, AreLike, AllAsked}

first_has_place : (s : Seat) (seats : List Seat) → has_place (s ∷ seats) s.1.0 ≡ true
first_has_place s seats = grind (arith)

other_has_place : (s : Seat) (seats : List Seat) (q : ℕ) → has_place seats q ≡ true → has_place (s ∷ seats) q ≡ true
other_has_place s seats q e = grind (arith, e)

-- who has a place has the first one or another
by_place : (P : ℕ → Type 0) (s : Seat) (seats : List Seat) (q : ℕ) → has_place (s ∷ seats) q ≡ true → P s.1.0 → (has_place seats q ≡ true → P q) → P q
by_place P s seats q e first others = here (s.1.0 == q) refl e
  where
    here : (b : Bool) → (s.1.0 == q) ≡ b → (b || has_place seats q) ≡ true → P q
    here true same e = subst P (grind (arith, same)) first
    here false other e = others e

-- ---- all places have asked

pub all_asked : (entered : ℕ → Option Wanted) (seats : List Seat) → ((q : ℕ) → has_place seats q ≡ true → is_some (entered q) ≡ true) → AllAsked entered seats
all_asked entered [] asked = tt
all_asked entered (s ∷ seats) asked = (asked s.1.0 (first_has_place s seats), all_asked entered seats (λ q e. asked q (other_has_place s seats q e)))

pub has_asked : (entered : ℕ → Option Wanted) (seats : List Seat) → AllAsked entered seats → (q : ℕ) → has_place seats q ≡ true → is_some (entered q) ≡ true
has_asked entered [] all q e = absurd cc
has_asked entered (s ∷ seats) all q e = by_place (λ n. is_some (entered n) ≡ true) s seats q e all.0 (has_asked entered seats all.1 q)

-- ---- and alike

pub are_like : (common : Common) (entered : ℕ → Option Wanted) (seats : List Seat) → ((q : ℕ) → has_place seats q ≡ true → IsLike common (entered q)) → AreLike common entered seats
are_like common entered [] like = tt
are_like common entered (s ∷ seats) like = (like s.1.0 (first_has_place s seats), are_like common entered seats (λ q e. like q (other_has_place s seats q e)))

pub is_like : (common : Common) (entered : ℕ → Option Wanted) (seats : List Seat) → AreLike common entered seats → (q : ℕ) → has_place seats q ≡ true → IsLike common (entered q)
is_like common entered [] all q e = absurd cc
is_like common entered (s ∷ seats) all q e = by_place (λ n. IsLike common (entered n)) s seats q e all.0 (is_like common entered seats all.1 q)
