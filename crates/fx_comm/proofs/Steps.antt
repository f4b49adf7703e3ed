-- One seat of a loop over the seats.
use Rattle.std.proofs.Common.{◌≡◌, ℕ, ◌+◌, ◌-◌, ◌<◌, ◌≤◌, zero, suc, Bool, true, false, not, ◌&&◌, ◌||◌, ◌==◌, inl, inr, List, [], ◌∷◌, ◌++◌, length, drop, slice_index_or, refl, sym, ap, ◌∙◌, arith, append_assoc, add-one, drop-cons}
use Rattle.std.proofs.lemmas.List.{append-nil}
use Rattle.std.proofs.Math.ListN.{drop_of_length-le}
use Rattle.std.proofs.lemmas.Bool.{eq-eqb, ne_eqb, cases_eq}
use Rattle.std.specs.Ordering.{nat_cmp}
use Rattle.std.specs.Cmp.{nat_cmp_total, unsigned_tied}
use Rattle.std.specs.FinSet as set
use Rattle.fx_base.specs.Sets.{members_of, IsLeastOf}
use Rattle.fx_comm.specs.Seats.{Seat, seat, seats_from, has_place, filled, AllBelow32}
use Rattle.fx_comm.proofs.Lists.{those_first, those_none, those_same, without, not_true}
use Rattle.fx_comm.proofs.Firsts.{next_seat, no_seat}

-- a seat of those that are all below 32
pub below_at : (seats : List Seat) (k : ℕ) (d : Seat) → AllBelow32 seats → k < length seats → (slice_index_or seats k d).1.0 < 32
below_at [] k d below within = absurd (omega arith)
below_at (s ∷ seats) zero d below within = below.1
below_at (s ∷ seats) (suc k) d below within = below_at seats k d below.2 (omega arith)

-- the seats from k on
pub seats_at : (seats : List Seat) (k : ℕ) (d : Seat) → k < length seats → drop k seats ≡ slice_index_or seats k d ∷ drop (k + 1) seats
seats_at seats k d within = rw (add-one k) (drop-cons seats k d within)

-- ---- the first communicator

pub first_step : (seats : List Seat) (n ranks : ℕ) → n < ranks → (seats ++ seat n n ∷ []) ++ seats_from (n + 1) (ranks - (n + 1)) ≡ seats ++ seats_from n (ranks - n)
first_step seats n ranks within =
    let left : ranks - n ≡ suc (ranks - (n + 1)) = omega arith in
    append_assoc seats (seat n n ∷ []) (seats_from (n + 1) (ranks - (n + 1)))
    ∙ ap (λ rest. seats ++ rest) (sym (ap (seats_from n) left ∙ next_seat n (ranks - (n + 1))))

pub first_end : (seats : List Seat) (n ranks : ℕ) → ranks ≤ n → seats ++ seats_from n (ranks - n) ≡ seats
first_end seats n ranks past =
    let left : ranks - n ≡ 0 = omega arith in
    ap (λ k. seats ++ seats_from n k) left ∙ ap (λ rest. seats ++ rest) (no_seat n) ∙ append-nil seats

-- ---- the spares

turned : (a b : ℕ) → (a == b) ≡ (b == a)
turned a b = elim (cases_eq a b) [
  | inl same ↦ eq-eqb a b same ∙ sym (eq-eqb b a (sym same))
  | inr apart ↦ ne_eqb a b apart ∙ sym (ne_eqb b a (λ same. apart (sym same)))
]

put_in : (e c r : Bool) → ((e || c) || r) ≡ (c || (e || r))
put_in true true r = refl
put_in true false r = refl
put_in false true r = refl
put_in false false r = refl

pub placed_step : (placed : set.FinSet nat_cmp) (seats : List Seat) (k : ℕ) (d : Seat) (proc : ℕ) → k < length seats → (set.contains (set.insert placed (slice_index_or seats k d).1.0) proc || has_place (drop (k + 1) seats) proc) ≡ (set.contains placed proc || has_place (drop k seats) proc)
placed_step placed seats k d proc within =
    let s : Seat = slice_index_or seats k d in
    rw (seats_at seats k d within, set.contains-insert nat_cmp_total placed s.1.0 proc, unsigned_tied proc s.1.0, turned proc s.1.0)
    (put_in (s.1.0 == proc) (set.contains placed proc) (has_place (drop (k + 1) seats) proc))

either_none : (b : Bool) → (b || false) ≡ b
either_none true = refl
either_none false = refl

pub placed_all : (placed : set.FinSet nat_cmp) (seats : List Seat) (k proc : ℕ) → length seats ≤ k → (set.contains placed proc || has_place (drop k seats) proc) ≡ has_place seats proc → set.contains placed proc ≡ has_place seats proc
placed_all placed seats k proc past all =
    let gone : drop k seats ≡ [] = drop_of_length-le seats past in
    sym (either_none (set.contains placed proc)) ∙ (rw gone at all)

-- the least of a set is the first of its members
pub members_first : (s : set.FinSet nat_cmp) (n : ℕ) → n < 32 → IsLeastOf s n → members_of s ≡ n ∷ members_of (set.remove s n)
members_first s n within least =
    those_first (set.contains s) n 32 within least.0 (λ m below. not_true (set.contains s m) (λ is_in. let at_least : n ≤ m = least.1 m is_in in omega arith))
    ∙ ap (λ rest. n ∷ rest) (those_same (without (set.contains s) n) (set.contains (set.remove s n)) 32 (λ m below.
    sym (rw (set.contains-remove nat_cmp_total s n m, unsigned_tied m n) (swapped (not (m == n)) (set.contains s m)))))
  where
    swapped : (a b : Bool) → (a && b) ≡ (b && a)
    swapped true true = refl
    swapped true false = refl
    swapped false true = refl
    swapped false false = refl

pub members_none : members_of set.empty ≡ []
members_none = those_none (set.contains set.empty) 32 (λ m below. set.contains-empty nat_cmp m)

-- ---- the new seats

module _ (present : ℕ → Bool) (made : List Seat) (s : Seat) (rest : List Seat) (spares : List ℕ) where
  pub stay_step : present s.1.0 ≡ true → (made ++ s ∷ []) ++ filled present rest spares ≡ made ++ filled present (s ∷ rest) spares
  stay_step here = append_assoc made (s ∷ []) (filled present rest spares) ∙ rw here refl

  pub fill_step : (n : ℕ) (left : List ℕ) → present s.1.0 ≡ false → spares ≡ n ∷ left → (made ++ (s.0, record { 0 = n }) ∷ []) ++ filled present rest left ≡ made ++ filled present (s ∷ rest) spares
  fill_step n left lost some = append_assoc made ((s.0, record { 0 = n }) ∷ []) (filled present rest left) ∙ rw (some, lost) refl

  pub leave_step : present s.1.0 ≡ false → spares ≡ [] → made ++ filled present rest spares ≡ made ++ filled present (s ∷ rest) spares
  leave_step lost none = rw (none, lost) refl
