-- The voters of a ballot, and processes as a list and as a set.
use Rattle.std.proofs.Common.{◌≡◌, ℕ, ◌+◌, ◌<◌, ◌≤◌, suc, Bool, true, false, ◌||◌, ◌==◌, List, [], ◌∷◌, ◌++◌, inl, inr, length, drop, slice_index_or, refl, sym, ap, ◌∙◌, arith, add-one, drop-cons, All}
use Rattle.std.specs.Prelude.{if◌then◌else◌}
use Rattle.std.proofs.Math.ListN.{drop_of_length-le}
use Rattle.std.proofs.lemmas.Bool.{cases_eq, eq-eqb, ne_eqb, or_from, or_parts}
use Rattle.std.proofs.lemmas.List.{append-nil}
use Rattle.std.proofs.lemmas.List.Elements.{All-append, All-weaker, All-cons, All-nil, All-head, All-tail}
use Rattle.std.specs.Ordering.{nat_cmp}
use Rattle.std.specs.Cmp.{nat_cmp_total, unsigned_tied}
use Rattle.std.specs.FinSet as set
use Rattle.fx_ballot.specs.Names.{Distinct, has}
use Rattle.fx_base.specs.Sets.{those_below}
use Rattle.fx_comm.proofs.Lists.{IsApart, is_in, those_apart}
use Rattle.fx_link.specs.declared.slot.Slot.{Slot}
use Rattle.fx_machine.specs.Ballots.{voters}

-- ---- voters

either_length : (b : Bool) (q n : ℕ) (qs : List ℕ) → length qs ≤ n → length (if b then q ∷ qs else qs) ≤ suc n
either_length true q n qs le = omega (arith, le)
either_length false q n qs le = omega (arith, le)

pub voters_fewer : (test : Slot → Bool) (qs : List ℕ) (xs : List Slot) → length (voters test qs xs) ≤ length qs
voters_fewer test [] xs = omega arith
voters_fewer test (q ∷ qs) [] = omega arith
voters_fewer test (q ∷ qs) (x ∷ xs) = either_length (test x) q (length qs) (voters test qs xs) (voters_fewer test qs xs)

either_all : (P : ℕ → Type 0) (b : Bool) (q : ℕ) (qs : List ℕ) → P q → All P qs → All P (if b then q ∷ qs else qs)
either_all P true q qs one all = All-cons P q qs one all
either_all P false q qs one all = all

pub voters_among : (P : ℕ → Type 0) (test : Slot → Bool) (qs : List ℕ) (xs : List Slot) → All P qs → All P (voters test qs xs)
voters_among P test [] xs all = All-nil P
voters_among P test (q ∷ qs) [] all = All-nil P
voters_among P test (q ∷ qs) (x ∷ xs) all = either_all P (test x) q (voters test qs xs) (All-head P q qs all) (voters_among P test qs xs (All-tail P q qs all))

no_slots : (test : Slot → Bool) (qs : List ℕ) → voters test qs [] ≡ []
no_slots test [] = refl
no_slots test (q ∷ qs) = refl

no_members : (test : Slot → Bool) (qs : List ℕ) (xs : List Slot) → length qs ≡ 0 → voters test qs xs ≡ []
no_members test [] xs none = refl
no_members test (q ∷ qs) xs none = absurd (omega (arith, none))

no_more_slots : (test : Slot → Bool) (qs : List ℕ) (xs : List Slot) → length xs ≡ 0 → voters test qs xs ≡ []
no_more_slots test qs [] none = no_slots test qs
no_more_slots test qs (x ∷ xs) none = absurd (omega (arith, none))

-- a loop over members and slots has gone over all members, or over all slots
pub all_voted : (test : Slot → Bool) (found qs : List ℕ) (xs : List Slot) (all : List ℕ) → length qs ≡ 0 → found ++ voters test qs xs ≡ all → found ≡ all
all_voted test found qs xs all none so = sym (append-nil found) ∙ ap (λ (l : List ℕ). found ++ l) (sym (no_members test qs xs none)) ∙ so

pub all_counted : (test : Slot → Bool) (found qs : List ℕ) (xs : List Slot) (all : List ℕ) → length xs ≡ 0 → found ++ voters test qs xs ≡ all → found ≡ all
all_counted test found qs xs all none so = sym (append-nil found) ∙ ap (λ (l : List ℕ). found ++ l) (sym (no_more_slots test qs xs none)) ∙ so

-- who isn't among the members isn't among the voters
either_lacks : (b : Bool) (p q : ℕ) (v : List ℕ) → (p == q) ≡ false → has v q ≡ false → has (if b then p ∷ v else v) q ≡ false
either_lacks true p q v other none = or_from (p == q) (has v q) other none
either_lacks false p q v other none = none

voters_lack : (test : Slot → Bool) (qs : List ℕ) (xs : List Slot) (q : ℕ) → has qs q ≡ false → has (voters test qs xs) q ≡ false
voters_lack test [] xs q none = refl
voters_lack test (p ∷ qs) [] q none = refl
voters_lack test (p ∷ qs) (x ∷ xs) q none =
    let parts = or_parts (p == q) (has qs q) none in
    either_lacks (test x) p q (voters test qs xs) parts.0 (voters_lack test qs xs q parts.1)

either_apart : (b : Bool) (q : ℕ) (v : List ℕ) → has v q ≡ false → Distinct v → Distinct (if b then q ∷ v else v)
either_apart true q v none apart = (none, apart)
either_apart false q v none apart = apart

pub voters_apart : (test : Slot → Bool) (qs : List ℕ) (xs : List Slot) → Distinct qs → Distinct (voters test qs xs)
voters_apart test [] xs apart = tt
voters_apart test (q ∷ qs) [] apart = tt
voters_apart test (q ∷ qs) (x ∷ xs) apart = either_apart (test x) q (voters test qs xs) (voters_lack test qs xs q apart.0) (voters_apart test qs xs apart.1)

-- ---- a list of processes as a set

members_at : (qs : List ℕ) (k d : ℕ) → k < length qs → drop k qs ≡ slice_index_or qs k d ∷ drop (k + 1) qs
members_at qs k d within = rw add-one (drop-cons qs k d within)

turned : (a b : ℕ) → (a == b) ≡ (b == a)
turned a b = elim (cases_eq a b) [
  | inl same ↦ eq-eqb a b same ∙ sym (eq-eqb b a (sym same))
  | inr apart ↦ ne_eqb a b apart ∙ sym (ne_eqb b a (λ same. apart (sym same)))
]

put_in : (e c r : Bool) → ((e || c) || r) ≡ (c || (e || r))
put_in true true r = refl
put_in true false r = refl
put_in false true r = refl
put_in false false r = refl

-- one more of the list was put into the set
pub inserted_step : (s : set.FinSet nat_cmp) (qs : List ℕ) (k d q : ℕ) → k < length qs
    → (set.contains (set.insert s (slice_index_or qs k d)) q || has (drop (k + 1) qs) q) ≡ (set.contains s q || has (drop k qs) q)
inserted_step s qs k d q within =
    rw (members_at qs k d within, set.contains-insert nat_cmp_total s (slice_index_or qs k d) q, unsigned_tied q (slice_index_or qs k d), turned q (slice_index_or qs k d))
    (put_in (slice_index_or qs k d == q) (set.contains s q) (has (drop (k + 1) qs) q))

either_none : (b : Bool) → (b || false) ≡ b
either_none true = refl
either_none false = refl

pub all_inserted : (s : set.FinSet nat_cmp) (qs : List ℕ) (k q : ℕ) → length qs ≤ k → (set.contains s q || has (drop k qs) q) ≡ has qs q → set.contains s q ≡ has qs q
all_inserted s qs k q past all =
    let gone : drop k qs ≡ [] = drop_of_length-le qs past in
    sym (either_none (set.contains s q)) ∙ (rw gone at all)

-- ---- the processes below a number

pub none_below : those_below (λ q. true) 0 ≡ []
unfolding those_below
none_below = refl

next_below : (n : ℕ) → those_below (λ q. true) (suc n) ≡ those_below (λ q. true) n ++ n ∷ []
unfolding those_below
next_below n = refl

pub one_more_below : (n : ℕ) → those_below (λ q. true) (n + 1) ≡ those_below (λ q. true) n ++ n ∷ []
one_more_below n = rw add-one (next_below n)

pub one_more_all : (all : List ℕ) (n : ℕ) → All (λ q. q < n) all → All (λ q. q < n + 1) (all ++ n ∷ [])
one_more_all all n below =
    All-append (λ q. q < n + 1) all (n ∷ []) (All-weaker (λ q. q < n) (λ q. q < n + 1) (λ q lt. omega (arith, lt)) all below)
    (All-cons (λ q. q < n + 1) n [] (omega arith) (All-nil (λ q. q < n + 1)))

lacks_so : (qs : List ℕ) (q : ℕ) → is_in q qs ≡ false → has qs q ≡ false
lacks_so [] q e = refl
lacks_so (p ∷ qs) q e = let parts = or_parts (p == q) (is_in q qs) e in or_from (p == q) (has qs q) parts.0 (lacks_so qs q parts.1)

distinct_so : (qs : List ℕ) → IsApart qs → Distinct qs
distinct_so [] apart = tt
distinct_so (q ∷ qs) apart = (lacks_so qs q apart.0, distinct_so qs apart.1)

pub below_apart : (n : ℕ) → Distinct (those_below (λ q. true) n)
below_apart n = distinct_so (those_below (λ q. true) n) (those_apart (λ q. true) n)
