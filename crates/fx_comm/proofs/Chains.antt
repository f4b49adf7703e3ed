-- Communicators that come of each other by repairs.
use Rattle.std.proofs.Common.{◌≡◌, ℕ, ◌<◌, ◌≤◌, zero, suc, Bool, true, inl, inr, List, [], ◌∷◌, sym, ap, subst, ◌∙◌, arith, add-one}
use Rattle.std.proofs.lemmas.Bool.{cases_eq, cases_lt}
use Rattle.fx_comm.specs.Seats.{Seat, spares_of, repaired, after_repairs, NobodyComesBack, NoTwoPlaces, AllPresent, IsSeated}
use Rattle.fx_comm.proofs.Repairs.{keeps, repaired_apart, repaired_present}
use Rattle.fx_comm.proofs.Places.{one_seat}

seated_present : (present : ℕ → Bool) (seats : List Seat) (member : Seat) → AllPresent present seats → IsSeated member seats → present member.1.0 ≡ true
seated_present present [] member all is_seated = absurd is_seated
seated_present present (s ∷ seats) member all (inl same) = ap (λ (x : Seat). present x.1.0) (sym same) ∙ all.0
seated_present present (s ∷ seats) member all (inr later) = seated_present present seats member all.1 later

module _ (first : List Seat) (present : ℕ → ℕ → Bool) where
  chain_apart : (n : ℕ) → NoTwoPlaces first → NoTwoPlaces (after_repairs first present n)
  chain_apart zero apart = apart
  chain_apart (suc n) apart = repaired_apart (present n) (after_repairs first present n) (chain_apart n apart)

  module _ (nobody : NobodyComesBack present) where
    -- who is present was so before
    before : (n k proc : ℕ) → k ≤ n → present n proc ≡ true → present k proc ≡ true
    before zero k proc within here = let same : 0 ≡ k = omega arith in subst (λ m. present m proc ≡ true) same here
    before (suc n) k proc within here = elim (cases_eq k (suc n)) [
      | inl same ↦ subst (λ m. present m proc ≡ true) (sym same) here
      | inr less ↦ before n k proc (omega arith) (nobody n proc (subst (λ m. present m proc ≡ true) (sym (add-one n)) here))
    ]

    -- who has a place after n repairs was present at each
    was_present : (n : ℕ) (member : Seat) → IsSeated member (after_repairs first present n) → (k : ℕ) → k < n → present k member.1.0 ≡ true
    was_present zero member is_seated k within = absurd (omega arith)
    was_present (suc n) member is_seated k within =
        before n k member.1.0 (omega arith)
        (seated_present (present n) (repaired (after_repairs first present n) (present n)) member (repaired_present (present n) (after_repairs first present n)) is_seated)

    -- who is present at each repair keeps its seat
    stays : (a b : ℕ) (member : Seat) → a ≤ b → IsSeated member (after_repairs first present a) → ((k : ℕ) → k < b → present k member.1.0 ≡ true) → IsSeated member (after_repairs first present b)
    stays a zero member within is_seated here = let same : a ≡ 0 = omega arith in subst (λ m. IsSeated member (after_repairs first present m)) same is_seated
    stays a (suc b) member within is_seated here = elim (cases_eq a (suc b)) [
      | inl same ↦ subst (λ m. IsSeated member (after_repairs first present m)) same is_seated
      | inr less ↦
          keeps (present b) (after_repairs first present b) (spares_of (after_repairs first present b) (present b)) member
          (stays a b member (omega arith) is_seated (λ k below. here k (omega arith))) (here b (omega arith))
    ]

    same_later : (a b : ℕ) (one other : Seat) → NoTwoPlaces first → a ≤ b → IsSeated one (after_repairs first present a) → IsSeated other (after_repairs first present b) → one.1 ≡ other.1 → one ≡ other
    same_later a b one other apart within is_one is_other same =
        one_seat (after_repairs first present b) one other (chain_apart b apart)
        (stays a b one within is_one (λ k below. ap (λ p. present k p.0) same ∙ was_present b other is_other k below))
        is_other same

    pub one_identity : (a b : ℕ) (one other : Seat) → NoTwoPlaces first → IsSeated one (after_repairs first present a) → IsSeated other (after_repairs first present b) → one.1 ≡ other.1 → one.0 ≡ other.0
    one_identity a b one other apart is_one is_other same = elim (cases_lt a b) [
      | inl less ↦ ap (λ (x : Seat). x.0) (same_later a b one other apart (omega arith) is_one is_other same)
      | inr more ↦ ap (λ (x : Seat). x.0) (sym (same_later b a other one apart more is_other is_one (sym same)))
    ]
