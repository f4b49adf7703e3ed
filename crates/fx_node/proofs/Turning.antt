-- A turn in the ballot of the next epoch: its own vote stands in what a member holds.
use Rattle.std.proofs.Common.{◌≡◌, ℕ, ◌<◌, zero, suc, Bool, true, false, ◌&&◌, ◌||◌, ◌==◌, List, [], ◌∷◌, ◌++◌, length, length-append, Option, Some, None, inl, inr, refl, sym, ap, subst, ◌∙◌, arith}
use Rattle.std.specs.Prelude.{if◌then◌else◌, nat_lt, slice_get}
use Rattle.std.specs.List.{list_all}
use Rattle.std.specs.Option.{option_or}
use Rattle.std.proofs.lemmas.Bool.{ne_eqb, eqb-false, ltb-true, and_parts, cases_eq}
use Rattle.std.proofs.lemmas.Bool.Decides.{nat_tests}
use Rattle.fx_ballot.specs.declared.heard.Heard.{Heard}
use Rattle.fx_ballot.specs.declared.poll.Poll.TheVariants as poll
use Rattle.fx_ballot.specs.Names.{Distinct, has, seat_at, seat_of}
use Rattle.fx_ballot.specs.Turn.{Phase, Outside, Voting, Round, Decided, Turn, follow, form, slot_of, slots_of, with_slot}
use Rattle.fx_ballot.proofs.Names.{names_seats, seat_found}
use Rattle.fx_link.specs.declared.slot.Slot.{Slot}
use Rattle.fx_machine.specs.Nodes.{Node}
use Rattle.fx_machine.specs.Reading.{Ballot, are_same, estimate_in, estimate_of, first_read, fits, given_that, is_join, may_stand, next_ballot, only, same_slot, seen, turn_in, vote_of}
use Rattle.fx_machine.specs.Texts.{Text}

-- ---- the slots of all

get_front : (xs ys : List Slot) (k : ℕ) → k < length xs → slice_get (xs ++ ys) k ≡ slice_get xs k
get_front [] ys k l = absurd (omega (arith, l))
get_front (x ∷ xs) ys zero l = refl
get_front (x ∷ xs) ys (suc k) l = get_front xs ys k (let m : suc k < suc (length xs) = l in omega (arith, m))

get_last : (xs : List Slot) (x : Slot) → slice_get (xs ++ x ∷ []) (length xs) ≡ Some x
get_last [] x = refl
get_last (y ∷ xs) x = get_last xs x

pub record AreOf (votes : ℕ → Heard) (n : ℕ) (slots : List Slot) : Type 0 where
  pub long : length slots ≡ n
  pub holds : (k : ℕ) (x : Slot) → k < n → (votes k).vote ≡ Some x → slice_get slots k ≡ Some x

some_same : {X : Type 0} (x y : X) → Some x ≡ Some y → x ≡ y
some_same x y e = cc

of_vote : (vote : Option Slot) (lost left : Bool) (x y : Slot) → vote ≡ Some x → slot_of vote lost left ≡ Some y → y ≡ x
of_vote (Some z) lost left x y e f = let one : Some z ≡ Some x = e in let two : Some z ≡ Some y = f in cc
of_vote None lost left x y e f = absurd cc

one_more : (votes : ℕ → Heard) (n : ℕ) (xs : List Slot) (x : Slot) → AreOf votes n xs → slot_of (votes n).vote (votes n).lost (votes n).left ≡ Some x → AreOf votes (suc n) (xs ++ x ∷ [])
one_more votes n xs x are is = record {
  long = let l : length xs ≡ n = are.long in rw (length-append xs (x ∷ [])) (omega (arith, l));
  holds = λ k v within e. elim (cases_eq k n) [
    | inl same ↦
        let there : slice_get (xs ++ x ∷ []) k ≡ Some x = ap (slice_get (xs ++ x ∷ [])) (same ∙ sym are.long) ∙ get_last xs x in
        there ∙ ap Some (of_vote (votes n).vote (votes n).lost (votes n).left v x (ap (λ j. (votes j).vote) (sym same) ∙ e) is)
    | inr ne ↦
        let low : k < n = omega (arith, within, ne) in
        let l : length xs ≡ n = are.long in
        get_front xs (x ∷ []) k (omega (arith, low, l)) ∙ are.holds k v low e
  ];
}

pub all_slots : (votes : ℕ → Heard) (n : ℕ) (slots : List Slot) → slots_of votes n ≡ Some slots → AreOf votes n slots
all_slots votes zero slots e =
    let none : [] ≡ slots = some_same [] slots e in
    subst (λ (l : List Slot). AreOf votes 0 l) none (record { long = refl; holds = λ k x within is. absurd (omega (arith, within)) })
all_slots votes (suc n) slots e = go (slots_of votes n) refl (slot_of (votes n).vote (votes n).lost (votes n).left) refl e (λ xs. all_slots votes n xs)
  where
    go : (a : Option (List Slot)) → slots_of votes n ≡ a → (b : Option Slot) → slot_of (votes n).vote (votes n).lost (votes n).left ≡ b → with_slot a b ≡ Some slots
        → ((xs : List Slot) → slots_of votes n ≡ Some xs → AreOf votes n xs) → AreOf votes (suc n) slots
    go None ea b eb e before = absurd cc
    go (Some xs) ea None eb e before = absurd cc
    go (Some xs) ea (Some x) eb e before = subst (λ (l : List Slot). AreOf votes (suc n) l) (some_same (xs ++ x ∷ []) slots e) (one_more votes n xs x (before xs ea) eb)

-- ---- an estimate of another fits

pub first_passes : (test : List Slot → Bool) (read : Text → Option (List Slot)) (ts : List Text) (slots : List Slot) → first_read (λ t. only test (read t)) ts ≡ Some slots → test slots ≡ true
first_passes test read [] slots e = absurd cc
first_passes test read (t ∷ ts) slots e = go (read t) e (λ f. first_passes test read ts slots f)
  where
    chosen : (b : Bool) (found : List Slot) → test found ≡ b → option_or (given_that b found) (first_read (λ t. only test (read t)) ts) ≡ Some slots
        → (first_read (λ t. only test (read t)) ts ≡ Some slots → test slots ≡ true) → test slots ≡ true
    chosen true found is e later = ap test (sym (some_same found slots e)) ∙ is
    chosen false found is e later = later e

    go : (o : Option (List Slot)) → option_or (only test o) (first_read (λ t. only test (read t)) ts) ≡ Some slots
        → (first_read (λ t. only test (read t)) ts ≡ Some slots → test slots ≡ true) → test slots ≡ true
    go None e later = later e
    go (Some found) e later = chosen (test found) found refl e later

pub same_join : (e : ℕ) (x vote : Slot) → is_join e vote ≡ true → same_slot x vote ≡ true → x ≡ vote
same_join e x vote is same = grind (arith, nat_tests)

are_one : (e : ℕ) (found : Option Slot) (vote : Slot) → is_join e vote ≡ true → are_same found (Some vote) ≡ true → found ≡ Some vote
are_one e None vote is same = absurd cc
are_one e (Some x) vote is same = ap Some (same_join e x vote is same)

-- the estimate of another has one's own vote at one's own seat
pub adopted_holds : (n : Node) (vote : Slot) (q : ℕ) (slots : List Slot) → (q ≡ n.me → ⊥) → is_join (suc n.epoch) vote ≡ true → vote_of (next_ballot n) n n.me ≡ Some vote
    → estimate_of (next_ballot n) n q ≡ Some slots → slice_get slots (seat_of n.present n.me) ≡ Some vote
adopted_holds n vote q slots other valid own e =
    let b : Ballot = next_ballot n in
    let is : ((q == n.me) || fits b n slots) ≡ true = first_passes (λ s. (q == n.me) || fits b n s) (estimate_in b.about (seat_of b.members q)) (n.texts q) slots e in
    let fitting : fits b n slots ≡ true = (let no : (q == n.me) ≡ false = ne_eqb q n.me other in rw no at is) in
    let parts = and_parts (length slots == length b.members) (list_all (may_stand b) slots && are_same (slice_get slots (seat_of b.members n.me)) (vote_of b n n.me)) fitting in
    let same = and_parts (list_all (may_stand b) slots) (are_same (slice_get slots (seat_of b.members n.me)) (vote_of b n n.me)) parts.1 in
    are_one (suc n.epoch) (slice_get slots (seat_of n.present n.me)) vote valid (ap (are_same (slice_get slots (seat_of n.present n.me))) (sym own) ∙ same.1)

-- ---- a turn

-- in what is held stands one's own vote
abbrev pub Holds : Node → Slot → Phase → Type 0
Holds n vote (Round r slots) = slice_get slots (seat_of n.present n.me) ≡ Some vote
Holds n vote (Decided slots) = slice_get slots (seat_of n.present n.me) ≡ Some vote
Holds n vote other = Unit {0}

formed_holds : (n : Node) (vote : Slot) → has n.present n.me ≡ true → Distinct n.present → vote_of (next_ballot n) n n.me ≡ Some vote → (o : Option (List Slot))
    → slots_of (λ k. seen (next_ballot n) n (seat_at n.present k)) (length n.present) ≡ o → Holds n vote (form o).phase
formed_holds n vote there apart own None e = tt
formed_holds n vote there apart own (Some slots) e =
    let mine = seat_found n.present n.me there in
    (all_slots (λ k. seen (next_ballot n) n (seat_at n.present k)) (length n.present) slots e).holds (seat_of n.present n.me) vote mine.0 (ap (vote_of (next_ballot n) n) mine.1 ∙ own)

followed_holds : (n : Node) (vote : Slot) (r : ℕ) (held : List Slot) → slice_get held (seat_of n.present n.me) ≡ Some vote → (o : Option (List Slot)) (away : Bool)
    → ((slots : List Slot) → o ≡ Some slots → slice_get slots (seat_of n.present n.me) ≡ Some vote) → Holds n vote (follow r held o away).phase
followed_holds n vote r held keeps (Some slots) away adopts = adopts slots refl
followed_holds n vote r held keeps None true adopts = keeps
followed_holds n vote r held keeps None false adopts = keeps

of_both : {X : Type 0} (P : X → Type 0) (b : Bool) (x y : X) → (b ≡ true → P x) → (b ≡ false → P y) → P (if b then x else y)
of_both P true x y p q = p refl
of_both P false x y p q = q refl

pub turn_holds : (n : Node) (vote : Slot) (phase : Phase) → has n.present n.me ≡ true → Distinct n.present → is_join (suc n.epoch) vote ≡ true → vote_of (next_ballot n) n n.me ≡ Some vote
    → Holds n vote phase → Holds n vote (turn_in (next_ballot n) n phase).phase
turn_holds n vote Outside there apart valid own holds = tt
turn_holds n vote Voting there apart valid own holds = formed_holds n vote there apart own (slots_of (λ k. seen (next_ballot n) n (seat_at n.present k)) (length n.present)) refl
turn_holds n vote (Round r held) there apart valid own holds =
    let i : ℕ = seat_of n.present n.me in
    let q : ℕ = seat_at n.present r in
    of_both (λ (t : Turn). Holds n vote t.phase) (nat_lt r (length n.present)) _ _
    (λ low. of_both (λ (t : Turn). Holds n vote t.phase) (r == i) _ _ (λ mine. holds)
    (λ other. followed_holds n vote r held holds _ _ (λ slots e.
    adopted_holds n vote q slots (λ me. eqb-false r i other (sym ((names_seats n.present apart).process r (ltb-true r (length n.present) low)).1 ∙ ap (seat_of n.present) me)) valid own e)))
    (λ past. holds)
turn_holds n vote (Decided held) there apart valid own holds = holds

-- what is decided was held

formed_not : (o : Option (List Slot)) (slots : List Slot) → (form o).poll ≡ poll.Decided slots → ⊥
formed_not None slots e = absurd cc
formed_not (Some found) slots e = absurd cc

followed_not : (r : ℕ) (held : List Slot) (o : Option (List Slot)) (away : Bool) (slots : List Slot) → (follow r held o away).poll ≡ poll.Decided slots → ⊥
followed_not r held (Some found) away slots e = absurd cc
followed_not r held None true slots e = absurd cc
followed_not r held None false slots e = absurd cc

same_held : (held slots : List Slot) → poll.Decided held ≡ poll.Decided slots → held ≡ slots
same_held held slots e = cc

pub decided_holds : (n : Node) (vote : Slot) (phase : Phase) (slots : List Slot) → (turn_in (next_ballot n) n phase).poll ≡ poll.Decided slots → Holds n vote phase → slice_get slots (seat_of n.present n.me) ≡ Some vote
decided_holds n vote Outside slots e holds = absurd cc
decided_holds n vote Voting slots e holds = absurd (formed_not (slots_of (λ k. seen (next_ballot n) n (seat_at n.present k)) (length n.present)) slots e)
decided_holds n vote (Round r held) slots e holds =
    of_both (λ (t : Turn). t.poll ≡ poll.Decided slots → slice_get slots (seat_of n.present n.me) ≡ Some vote) (nat_lt r (length n.present)) _ _
    (λ low. of_both (λ (t : Turn). t.poll ≡ poll.Decided slots → slice_get slots (seat_of n.present n.me) ≡ Some vote) (r == seat_of n.present n.me) _ _ (λ mine f. absurd cc)
    (λ other f. absurd (followed_not r held _ _ slots f)))
    (λ past f. subst (λ (l : List Slot). slice_get l (seat_of n.present n.me) ≡ Some vote) (same_held held slots f) holds) e
decided_holds n vote (Decided held) slots e holds = subst (λ (l : List Slot). slice_get l (seat_of n.present n.me) ≡ Some vote) (same_held held slots e) holds
