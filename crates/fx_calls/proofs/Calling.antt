-- What a process asks in a call, as its walk, its stand and its errors show it.
use Rattle.std.proofs.Common.{◌≡◌, ℕ, ◌<◌, zero, suc, Bool, true, false, ◌&&◌, List, [], ◌∷◌, Option, Some, None, arith, refl, ap, sym, subst, ◌∙◌}
use Rattle.std.specs.Prelude.{if◌then◌else◌, is_none}
use Rattle.std.specs.Option.{option_or, option_map}
use Rattle.fx_ballot.specs.Names.{has}
use Rattle.fx_ballot.proofs.Names.{has_seat}
use Rattle.fx_comm.specs.Seats.{Seat, has_place}
use Rattle.fx_walk.specs.declared.wanted.Wanted.{Wanted}
use Rattle.fx_walk.specs.declared.wanted.Wanted.TheVariants as wanted
use Rattle.fx_walk.specs.Plan.{Common, common_of}
use Rattle.fx_walk.specs.State.{State}
use Rattle.fx_walk.specs.Walk.{TextPlace, Walk, Ends, Passes, Prints, Asks, Reply}
use Rattle.fx_machine.specs.Gathering.{part_of, missing, gathering_error}
use Rattle.fx_machine.specs.Nodes.{Node, Gathering, members, size, proc_at}
use Rattle.fx_machine.specs.Numbers.{first_below}
use Rattle.fx_machine.specs.Reading.{has_left}
use Rattle.fx_machine.specs.Local.{Refusal, refusal_of}
use Rattle.fx_machine.specs.Setup.{Setup}
use Rattle.fx_machine.specs.Waits.{Error, ByLoss, ByLeaving}
use Rattle.fx_legal.specs.Calls.{IsLike, AreLike, is_agreed}
use Rattle.fx_legal.specs.Groups.{Group}
use Rattle.fx_legal.specs.Rules as rules
use Rattle.fx_legal.specs.Stands as stand
use Rattle.fx_legal.specs.Stands.{Stay, Stand}
use Rattle.fx_losses.proofs.Tests.{second_of}
use Rattle.fx_calls.specs.Bodies.{IsOfNoGroup, IsOfParts}
use Rattle.fx_calls.proofs.Stepped.{CoreFits}
use Rattle.fx_calls.proofs.Hearings.{Polls}
use Rattle.fx_calls.proofs.Polled.{IsTold}
use Rattle.fx_item.specs.declared.item.Item.{Item}
use Rattle.fx_legal.specs.Ledger.{Ledger}
use Rattle.fx_calls.proofs.Places as places
use Rattle.fx_calls.proofs.Places.{same_length}

-- ---- walks that ask

abbrev asked_or : Wanted → Walk → Wanted
asked_or other (Asks place asked state rest) = asked
asked_or other (Ends state) = other
asked_or other (Passes rest) = other
asked_or other (Prints printed rest) = other

pub asks_same : (place at : TextPlace) (v asked : Wanted) (state other : State) (rest left : Reply → Walk) → Asks place v state rest ≡ Asks at asked other left → v ≡ asked
asks_same place at v asked state other rest left e = ap (asked_or v) e

-- the stand in a call that this walk asks for
abbrev pub calling_of : Stay → Walk → Stand
calling_of stay (Asks place asked state rest) = stand.Calling stay asked state rest
calling_of stay (Ends state) = stand.New
calling_of stay (Passes rest) = stand.New
calling_of stay (Prints printed rest) = stand.New

-- no call of no group is refused
pub granted : (e : ℕ) (groups : ℕ → Group) (x : Stand) (v : Wanted) → IsOfNoGroup v → rules.refusal_of e groups x v ≡ None
granted e groups x wanted.Barrier is = refl
granted e groups x (wanted.Reduce op own) is = refl
granted e groups x (wanted.Shift by elements) is = refl
granted e groups x (wanted.Agree flag) is = refl
granted e groups x (wanted.Group g start depth) is = absurd is
granted e groups x (wanted.Attach g m) is = absurd is
granted e groups x (wanted.Store g m piece) is = absurd is
granted e groups x (wanted.Commit g) is = absurd is
granted e groups x (wanted.Close g) is = absurd is
granted e groups x (wanted.Restore g m stamp) is = absurd is
granted e groups x (wanted.Delete g stamp) is = absurd is

-- all that entered a call entered it alike
pub are_like : (c : Common) (entered : ℕ → Option Wanted) (seats : List Seat) → ((q : ℕ) (v : Wanted) → entered q ≡ Some v → common_of v ≡ c) → AreLike c entered seats
are_like c entered [] all = tt
are_like c entered (s ∷ seats) all = (of (entered s.1.0) refl, are_like c entered seats all)
  where
    of : (o : Option Wanted) → entered s.1.0 ≡ o → IsLike c o
    of None e = tt
    of (Some v) e = all s.1.0 v e

-- ---- errors

pub first_is : (n : ℕ) (test : ℕ → Bool) (k : ℕ) → first_below n test ≡ Some k → (k < n) × (test k ≡ true)
first_is zero test k e = absurd (let bad : None ≡ Some k = e in cc)
first_is (suc n) test k e = of (λ i. first_is n test k i) (first_below n test) refl e
  where
    last : (b : Bool) → test n ≡ b → (if b then Some n else None) ≡ Some k → (k < suc n) × (test k ≡ true)
    last true is e = let same : n ≡ k = some_number n k e in (omega (arith, same), ap test (sym same) ∙ is)
      where
        some_number : (a b : ℕ) → Some a ≡ Some b → a ≡ b
        some_number a b e = cc
    last false is e = absurd (let bad : None ≡ Some k = e in cc)

    of : (first_below n test ≡ Some k → (k < n) × (test k ≡ true)) → (o : Option ℕ) → first_below n test ≡ o → option_or o (if test n then Some n else None) ≡ Some k → (k < suc n) × (test k ≡ true)
    of before None is e = last (test n) refl e
    of before (Some j) is e = let r = before (is ∙ e) in let less = r.0 in (omega (arith, less), r.1)

-- a process that is missing has a place and passes the test
pub missing_is : (n : Node) (v : Wanted) (test : ℕ → Bool) (q : ℕ) → missing n v test ≡ Some q → (has_place n.comm q ≡ true) × (test q ≡ true)
missing_is n v test q e = of (first_below (size n) (λ x. is_none (part_of n v x) && test (proc_at n x))) refl e
  where
    same_proc : (a b : ℕ) → Some a ≡ Some b → a ≡ b
    same_proc a b e = cc

    of : (o : Option ℕ) → first_below (size n) (λ x. is_none (part_of n v x) && test (proc_at n x)) ≡ o → option_map (proc_at n) o ≡ Some q → (has_place n.comm q ≡ true) × (test q ≡ true)
    of None is e = absurd (let bad : None ≡ Some q = e in cc)
    of (Some x) is e =
        let r = first_is (size n) (λ x. is_none (part_of n v x) && test (proc_at n x)) x is in
        let at : proc_at n x ≡ q = same_proc (proc_at n x) q e in
        let less = r.0 in
        let long = same_length n.comm in (
          sym (places.has_seat n.comm q) ∙ ap (has (members n)) (sym at) ∙ has_seat (members n) x (omega (arith, less, long)),
          ap test (sym at) ∙ second_of (is_none (part_of n v x)) (test (proc_at n x)) r.1,
        )

-- a call of parts fails by a lost place, or is revoked by one that left
abbrev pub IsCause : Node → Error → Type 0
IsCause n (ByLoss q) = (has_place n.comm q ≡ true) × (n.lost q ≡ true)
IsCause n (ByLeaving q) = (has_place n.comm q ≡ true) × (has_left n q ≡ true)

pub has_cause : (n : Node) (v : Wanted) (error : Error) → gathering_error n v ≡ Some error → IsCause n error
has_cause n v error e = of (missing n v n.lost) refl (missing n v (has_left n)) refl e
  where
    of : (a : Option ℕ) → missing n v n.lost ≡ a → (b : Option ℕ) → missing n v (has_left n) ≡ b → option_or (option_map ByLoss a) (option_map ByLeaving b) ≡ Some error → IsCause n error
    of (Some q) is b left e = subst (IsCause n) (let same : Some (ByLoss q) ≡ Some error = e in the_same (ByLoss q) error same) (missing_is n v n.lost q is)
      where
        the_same : (a b : Error) → Some a ≡ Some b → a ≡ b
        the_same a b e = cc
    of None is (Some q) left e = subst (IsCause n) (let same : Some (ByLeaving q) ≡ Some error = e in the_same (ByLeaving q) error same) (missing_is n v (has_left n) q left)
      where
        the_same : (a b : Error) → Some a ≡ Some b → a ≡ b
        the_same a b e = cc
    of None is None left e = absurd (let bad : None ≡ Some error = e in cc)

-- calls of parts aren't decided together
pub parts_apart : (v : Wanted) → IsOfParts v → is_agreed (Some v) ≡ false
parts_apart wanted.Barrier is = refl
parts_apart (wanted.Reduce op own) is = refl
parts_apart (wanted.Shift by elements) is = refl
parts_apart (wanted.Agree flag) is = absurd is
parts_apart (wanted.Group g start depth) is = absurd is
parts_apart (wanted.Attach g m) is = absurd is
parts_apart (wanted.Store g m piece) is = absurd is
parts_apart (wanted.Commit g) is = absurd is
parts_apart (wanted.Close g) is = absurd is
parts_apart (wanted.Restore g m stamp) is = absurd is
parts_apart (wanted.Delete g stamp) is = absurd is

-- the machine refuses none of them
pub none_refused : (s : Setup) (n : Node) (v : Wanted) (r : Refusal) → IsOfNoGroup v → refusal_of s n v ≡ Some r → ⊥
none_refused s n wanted.Barrier r is e = let bad : None ≡ Some r = e in cc
none_refused s n (wanted.Reduce op own) r is e = let bad : None ≡ Some r = e in cc
none_refused s n (wanted.Shift by elements) r is e = let bad : None ≡ Some r = e in cc
none_refused s n (wanted.Agree flag) r is e = let bad : None ≡ Some r = e in cc
none_refused s n (wanted.Group g start depth) r is e = is
none_refused s n (wanted.Attach g m) r is e = is
none_refused s n (wanted.Store g m piece) r is e = is
none_refused s n (wanted.Commit g) r is e = is
none_refused s n (wanted.Close g) r is e = is
none_refused s n (wanted.Restore g m stamp) r is e = is
none_refused s n (wanted.Delete g stamp) r is e = is

-- what is gathered are parts
pub gathers_parts : (v : Wanted) → CoreFits v Gathering → IsOfParts v
gathers_parts wanted.Barrier is = tt
gathers_parts (wanted.Reduce op own) is = tt
gathers_parts (wanted.Shift by elements) is = tt
gathers_parts (wanted.Agree flag) is = absurd is
gathers_parts (wanted.Group g start depth) is = absurd is
gathers_parts (wanted.Attach g m) is = absurd is
gathers_parts (wanted.Store g m piece) is = absurd is
gathers_parts (wanted.Commit g) is = absurd is
gathers_parts (wanted.Close g) is = absurd is
gathers_parts (wanted.Restore g m stamp) is = absurd is
gathers_parts (wanted.Delete g stamp) is = absurd is

-- of a return from a call of parts nothing is told
pub no_told : (l : Ledger) (polls : Polls) (e k : ℕ) (it : Item) (v : Wanted) → IsOfParts v → IsTold l polls e k it v
no_told l polls e k it wanted.Barrier is = tt
no_told l polls e k it (wanted.Reduce op own) is = tt
no_told l polls e k it (wanted.Shift by elements) is = tt
no_told l polls e k it (wanted.Agree flag) is = absurd is
no_told l polls e k it (wanted.Group g start depth) is = absurd is
no_told l polls e k it (wanted.Attach g m) is = absurd is
no_told l polls e k it (wanted.Store g m piece) is = absurd is
no_told l polls e k it (wanted.Commit g) is = absurd is
no_told l polls e k it (wanted.Close g) is = absurd is
no_told l polls e k it (wanted.Restore g m stamp) is = absurd is
no_told l polls e k it (wanted.Delete g stamp) is = absurd is
