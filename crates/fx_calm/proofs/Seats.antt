-- The first communicator, all processes, and a repair behind which all are present.
use Rattle.std.proofs.lemmas.Bool.Decides.{nat_tests}
use Rattle.std.proofs.Common.{arith, ◌≡◌, ◌<◌, ℕ, zero, suc, ◌+◌, Bool, true, false, cond, ◌||◌, ◌==◌, List, [], ◌∷◌, ◌++◌, length, Option, Some, None, refl, sym, ap, subst, ◌∙◌}
use Rattle.std.specs.Prelude.{if◌then◌else◌, nat_lt, slice_index_or}
use Rattle.std.specs.List.{list_all}
use Rattle.std.specs.Option.{option_map}
use Rattle.fx_base.specs.Sets.{those_below}
use Rattle.fx_ballot.specs.Names.{seat_at, seat_of, has}
use Rattle.fx_ballot.proofs.Names.{seat_found}
use Rattle.fx_comm.specs.Seats.{Seat, seats_from, first_seats, has_place, place_in, idents_of, filled, spares_of, repaired}
use Rattle.fx_link.specs.declared.slot.Slot.{Slot}
use Rattle.fx_machine.specs.Nodes.{procs_of}
use Rattle.fx_machine.specs.Numbers.{of_each_below}
use Rattle.fx_machine.specs.Ballots.{voters}
use Rattle.fx_legal.specs.Rules.{HasSeat}
use Rattle.fx_calm.proofs.Lists.{Each, equal, same_number, length_of_each, of_each_at}

or_first : (a b : Bool) → a ≡ true → (a || b) ≡ true
or_first a b e = grind (arith, nat_tests)

or_second : (a b : Bool) → b ≡ true → (a || b) ≡ true
or_second a b e = grind (arith, nat_tests)

-- ---- places

here_or_past : (next n q : ℕ) (rest : Bool) → (rest ≡ true → q < (next + 1) + n) → (b : Bool) → (next == q) ≡ b → (b || rest) ≡ true → q < next + suc n
here_or_past next n q rest past true is e = let same = equal next q is in omega (arith, same)
here_or_past next n q rest past false is e = let less = past e in omega (arith, less)

no_place_past : (next n q : ℕ) → has_place (seats_from next n) q ≡ true → q < next + n
unfolding seats_from
no_place_past next zero q e = absurd cc
no_place_past next (suc n) q e = here_or_past next n q (has_place (seats_from (next + 1) n) q) (no_place_past (next + 1) n q) (next == q) refl e

pub place_below : (ranks q : ℕ) → has_place (first_seats ranks) q ≡ true → q < ranks
place_below ranks q e = let past = no_place_past 0 ranks q e in omega (arith, past)

-- who has a place has its seat there
abbrev SeatOf : List Seat → ℕ → Type 0
SeatOf seats q = HasSeat seats (seat_of (procs_of seats) q) (record { 0 = slice_index_or (idents_of seats) (seat_of (procs_of seats) q) 0 }, record { 0 = q })

here_or_later : (s : Seat) (seats : List Seat) (q : ℕ) → (has_place seats q ≡ true → SeatOf seats q) → (b : Bool) → (s.1.0 == q) ≡ b → (b || has_place seats q) ≡ true
    → HasSeat (s ∷ seats) (if b then 0 else suc (seat_of (procs_of seats) q))
    (record { 0 = slice_index_or (s.0.0 ∷ idents_of seats) (if b then 0 else suc (seat_of (procs_of seats) q)) 0 }, record { 0 = q })
here_or_later s seats q later true is e = λ i. (s.0, record { 0 = equal s.1.0 q is i })
here_or_later s seats q later false is e = later e

pub seat_is : (seats : List Seat) (q : ℕ) → has_place seats q ≡ true → SeatOf seats q
seat_is [] q e = absurd cc
seat_is (s ∷ seats) q e = here_or_later s seats q (seat_is seats q) (s.1.0 == q) refl e

abbrev next_place : Option ℕ → Option ℕ
next_place found = option_map (λ place. place + 1) found

placed_here : (seats : List Seat) (q : ℕ) → (has_place seats q ≡ true → (k : ℕ) × (place_in seats q ≡ Some k)) → (b : Bool) → (b || has_place seats q) ≡ true
    → (k : ℕ) × (cond b (Some 0) (next_place (place_in seats q)) ≡ Some k)
placed_here seats q later true e = (0, refl)
placed_here seats q later false e = let found = later e in (found.0 + 1, ap next_place found.1)

pub placed : (seats : List Seat) (q : ℕ) → has_place seats q ≡ true → (k : ℕ) × (place_in seats q ≡ Some k)
placed [] q e = absurd cc
placed (s ∷ seats) q e = placed_here seats q (placed seats q) (s.1.0 == q) e

unplaced_here : (seats : List Seat) (q : ℕ) → (has_place seats q ≡ false → place_in seats q ≡ None) → (b : Bool) → (b || has_place seats q) ≡ false
    → cond b (Some 0) (next_place (place_in seats q)) ≡ None
unplaced_here seats q later true e = absurd cc
unplaced_here seats q later false e = ap next_place (later e)

pub unplaced : (seats : List Seat) (q : ℕ) → has_place seats q ≡ false → place_in seats q ≡ None
unplaced [] q e = refl
unplaced (s ∷ seats) q e = unplaced_here seats q (unplaced seats q) (s.1.0 == q) e

-- a test that all pass that have a place
pub all_seated : (test : ℕ → Bool) (seats : List Seat) → ((q : ℕ) → has_place seats q ≡ true → test q ≡ true) → list_all test (procs_of seats) ≡ true
all_seated test [] all = refl
all_seated test (s ∷ seats) all =
    rw (all s.1.0 (or_first (s.1.0 == s.1.0) (has_place seats s.1.0) (same_number s.1.0)))
    (all_seated test seats (λ q e. all q (or_second (s.1.0 == q) (has_place seats q) e)))

-- where all are present nothing is filled
pub filled_none : (present : ℕ → Bool) (seats : List Seat) (spares : List ℕ) → ((q : ℕ) → has_place seats q ≡ true → present q ≡ true)
    → filled present seats spares ≡ seats
filled_none present [] spares all = refl
filled_none present (s ∷ seats) spares all =
    rw (all s.1.0 (or_first (s.1.0 == s.1.0) (has_place seats s.1.0) (same_number s.1.0)))
    (ap (λ (rest : List Seat). s ∷ rest) (filled_none present seats spares (λ q e. all q (or_second (s.1.0 == q) (has_place seats q) e))))

pub repairs_none : (present : ℕ → Bool) (seats : List Seat) → ((q : ℕ) → has_place seats q ≡ true → present q ≡ true) → repaired seats present ≡ seats
repairs_none present seats all = filled_none present seats (spares_of seats present) all

-- ---- all processes

-- they are the numbers below one
pub those_are : (n : ℕ) → those_below (λ q. true) n ≡ of_each_below n (λ q. q)
unfolding those_below
those_are zero = refl
those_are (suc n) = ap (λ (l : List ℕ). l ++ n ∷ []) (those_are n)

has_append : (xs : List ℕ) (n q : ℕ) → has (xs ++ n ∷ []) q ≡ (has xs q || (n == q))
has_append [] n q = grind (arith, nat_tests)
has_append (x ∷ xs) n q = grind (arith, nat_tests, has_append xs n q)

has_each : (n q : ℕ) → has (of_each_below n (λ q. q)) q ≡ nat_lt q n
has_each zero q = grind (arith, nat_tests)
has_each (suc n) q = has_append (of_each_below n (λ q. q)) n q ∙ grind (arith, nat_tests, has_each n q)

pub has_all : (n q : ℕ) → has (those_below (λ q. true) n) q ≡ nat_lt q n
has_all n q = ap (λ (l : List ℕ). has l q) (those_are n) ∙ has_each n q

pub length_all : (n : ℕ) → length (those_below (λ q. true) n) ≡ n
length_all n = ap length (those_are n) ∙ length_of_each n (λ q. q)

-- each has the seat of its number
pub seat_all : (n k : ℕ) → k < n → seat_at (those_below (λ q. true) n) k ≡ k
seat_all n k few = ap (λ (l : List ℕ). seat_at l k) (those_are n) ∙ of_each_at n (λ q. q) 0 k few

pub seat_of_all : (n q : ℕ) → q < n → seat_of (those_below (λ q. true) n) q ≡ q
seat_of_all n q few =
    let found = seat_found (those_below (λ q. true) n) q (has_all n q ∙ grind (arith, nat_tests, few)) in
    sym (seat_all n (seat_of (those_below (λ q. true) n) q) (subst (λ (m : ℕ). seat_of (those_below (λ q. true) n) q < m) (length_all n) found.0)) ∙ found.1

-- where all have voted all are voters
pub all_vote : (test : Slot → Bool) (qs : List ℕ) (xs : List Slot) → length qs ≡ length xs → Each (λ x. test x ≡ true) xs → voters test qs xs ≡ qs
all_vote test [] xs same all = refl
all_vote test (q ∷ qs) [] same all = absurd cc
all_vote test (q ∷ qs) (x ∷ xs) same all =
    let fewer : suc (length qs) ≡ suc (length xs) = same in
    rw all.0 (ap (λ (l : List ℕ). q ∷ l) (all_vote test qs xs (omega (arith, fewer)) all.1))
