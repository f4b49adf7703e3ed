-- A turn of a calm ballot: what is formed, said, adopted and decided are the votes of all.
use Rattle.std.proofs.lemmas.Bool.{cases_lt}
use Rattle.std.proofs.Common.{arith, ◌≡◌, ◌<◌, ℕ, zero, suc, Bool, true, false, ◌||◌, ◌&&◌, ◌==◌, List, [], ◌∷◌, ◌++◌, length, Option, Some, None, refl, sym, ap, subst, ◌∙◌, inl, inr}
use Rattle.std.specs.Prelude.{if◌then◌else◌, nat_lt}
use Rattle.std.specs.Option.{option_or}
use Rattle.fx_ballot.specs.declared.heard.Heard.{Heard}
use Rattle.fx_ballot.specs.declared.poll.Poll.{Poll}
use Rattle.fx_ballot.specs.declared.poll.Poll.TheVariants as poll
use Rattle.fx_ballot.specs.Names.{seat_at, seat_of}
use Rattle.fx_ballot.specs.Turn.{Phase, Outside, Voting, Round, Decided, Turn, turn, form, follow, speak, decide, slots_of, slot_of, with_slot}
use Rattle.fx_link.specs.declared.slot.Slot.{Slot}
use Rattle.fx_script.specs.declared.job.Job.{Job}
use Rattle.fx_machine.specs.Nodes.{Node}
use Rattle.fx_machine.specs.Numbers.{of_each_below}
use Rattle.fx_machine.specs.Reading.{OfEpoch, given_that, only, first_read, vote_in, estimate_in, next_ballot, vote_of, estimate_of, seen, turn_in, fits, is_join}
use Rattle.fx_machine.specs.Texts.{Text, Join, Jest, Part, Vote, Est, Share, Tell, Help, Give}
use Rattle.fx_legal.specs.Ledger.{Ledger, procs_of}
use Rattle.fx_calm.specs.Calm as calm
use Rattle.fx_calm.specs.Calm.{all_procs, votes_in}
use Rattle.fx_calm.proofs.Lists.{Each, equal}
use Rattle.fx_calm.proofs.Seats.{length_all, seat_all}
use Rattle.fx_calm.proofs.Standing.{HasJoined, IsTrue, Agreed, InPhase, IsCalm}

-- ---- what is read

-- what is read of texts that are all true is true
read_is : {X : Type 0} (Is : Text → Type 0) (Has : X → Type 0) (read : Text → Option X) → ((t : Text) (x : X) → Is t → read t ≡ Some x → Has x)
    → (ts : List Text) (x : X) → Each Is ts → first_read read ts ≡ Some x → Has x
read_is Is Has read each [] x all e = absurd cc
read_is Is Has read each (t ∷ ts) x all e = first_or Has (read t) (first_read read ts) x (λ is. each t x all.0 is) (read_is Is Has read each ts x all.1) e
  where
    first_or : {X : Type 0} (Has : X → Type 0) (a b : Option X) (x : X) → (a ≡ Some x → Has x) → (b ≡ Some x → Has x) → option_or a b ≡ Some x → Has x
    first_or Has None b x one other e = other e
    first_or Has (Some y) b x one other e = one e

passed : {X : Type 0} (b : Bool) (y x : X) → given_that b y ≡ Some x → (b ≡ true) × (y ≡ x)
passed true y x e = (refl, grind (arith, e))
passed false y x e = absurd cc

only_is : {X : Type 0} (test : X → Bool) (o : Option X) (x : X) → only test o ≡ Some x → o ≡ Some x
only_is test None x e = absurd cc
only_is test (Some y) x e = ap Some (passed (test y) y x e).1

-- a vote that is read
abbrev IsVote : Job → Ledger → (e q : ℕ) → Slot → Type 0
IsVote job l e q x = (x ≡ calm.vote_in job e q) × HasJoined job l e q

vote_text_is : (job : Job) (l : Ledger) (e q : ℕ) (t : Text) (x : Slot) → IsTrue job l q t → vote_in (OfEpoch e) t ≡ Some x → IsVote job l e q x
vote_text_is job l e q (Join d kind) x is read =
    let both = passed (d == e) kind x read in
    subst (λ (f : ℕ). IsVote job l f q x) (equal d e both.0) (sym both.1 ∙ is.0, is.1)
vote_text_is job l e q (Jest d r slots) x is read = absurd cc
vote_text_is job l e q (Part d k values) x is read = absurd cc
vote_text_is job l e q (Vote d k y) x is read = absurd cc
vote_text_is job l e q (Est d k r slots) x is read = absurd cc
vote_text_is job l e q (Share d k packed) x is read = absurd cc
vote_text_is job l e q (Tell d k known) x is read = absurd cc
vote_text_is job l e q (Help d k packed) x is read = absurd cc
vote_text_is job l e q (Give d k packed) x is read = absurd cc

and_first : (a b : Bool) → (a && b) ≡ true → a ≡ true
and_first true b e = refl
and_first false b e = absurd cc

estimate_text_is : (job : Job) (l : Ledger) (e r q : ℕ) (t : Text) (x : List Slot) → IsTrue job l q t → estimate_in (OfEpoch e) r t ≡ Some x → x ≡ votes_in job e
estimate_text_is job l e r q (Jest d s slots) x is read =
    let both = passed ((d == e) && (s == r)) slots x read in
    subst (λ (f : ℕ). x ≡ votes_in job f) (equal d e (and_first (d == e) (s == r) both.0)) (sym both.1 ∙ is)
estimate_text_is job l e r q (Join d kind) x is read = absurd cc
estimate_text_is job l e r q (Part d k values) x is read = absurd cc
estimate_text_is job l e r q (Vote d k y) x is read = absurd cc
estimate_text_is job l e r q (Est d k s slots) x is read = absurd cc
estimate_text_is job l e r q (Share d k packed) x is read = absurd cc
estimate_text_is job l e r q (Tell d k known) x is read = absurd cc
estimate_text_is job l e r q (Help d k packed) x is read = absurd cc
estimate_text_is job l e r q (Give d k packed) x is read = absurd cc

pub vote_is : (job : Job) (l : Ledger) (n : Node) → IsCalm job l n → (q : ℕ) (x : Slot) → vote_of (next_ballot n) n q ≡ Some x → IsVote job l (suc n.epoch) q x
vote_is job l n is q x e =
    read_is (IsTrue job l q) (IsVote job l (suc n.epoch) q) (λ t. only (λ x. (q == n.me) || is_join (suc n.epoch) x) (vote_in (OfEpoch (suc n.epoch)) t))
    (λ t y true_is read. vote_text_is job l (suc n.epoch) q t y true_is (only_is (λ x. (q == n.me) || is_join (suc n.epoch) x) (vote_in (OfEpoch (suc n.epoch)) t) y read))
    (n.texts q) x (is.texts q) e

estimate_is : (job : Job) (l : Ledger) (n : Node) → IsCalm job l n → (q : ℕ) (x : List Slot) → estimate_of (next_ballot n) n q ≡ Some x → x ≡ votes_in job (suc n.epoch)
estimate_is job l n is q x e =
    read_is (IsTrue job l q) (λ x. x ≡ votes_in job (suc n.epoch))
    (λ t. only (λ slots. (q == n.me) || fits (next_ballot n) n slots) (estimate_in (OfEpoch (suc n.epoch)) (seat_of n.present q) t))
    (λ t y true_is read. estimate_text_is job l (suc n.epoch) (seat_of n.present q) q t y true_is
    (only_is (λ slots. (q == n.me) || fits (next_ballot n) n slots) (estimate_in (OfEpoch (suc n.epoch)) (seat_of n.present q) t) y read))
    (n.texts q) x (is.texts q) e

-- ---- the first estimate

-- a list of slots with one more, where each is as it should be
abbrev AreFirst : (ℕ → Slot) → (ℕ → Type 0) → ℕ → List Slot → Type 0
AreFirst kind Has n slots = (slots ≡ of_each_below n kind) × ((k : ℕ) → k < n → Has k)

one_more : (kind : ℕ → Slot) (Has : ℕ → Type 0) (n : ℕ) (vote : Option Slot) → ((x : Slot) → vote ≡ Some x → (x ≡ kind n) × Has n) → (o : Option (List Slot))
    → ((slots : List Slot) → o ≡ Some slots → AreFirst kind Has n slots) → (slots : List Slot) → with_slot o (slot_of vote false false) ≡ Some slots → AreFirst kind Has (suc n) slots
one_more kind Has n None is None before slots e = absurd cc
one_more kind Has n None is (Some xs) before slots e = absurd cc
one_more kind Has n (Some x) is None before slots e = absurd cc
one_more kind Has n (Some x) is (Some xs) before slots e =
    let front = before xs refl in
    let last = is x refl in
    let whole : xs ++ x ∷ [] ≡ slots = grind (arith, e) in (
      sym whole ∙ ap (λ (l : List Slot). l ++ x ∷ []) front.0 ∙ ap (λ (y : Slot). of_each_below n kind ++ y ∷ []) last.0,
      λ k few. elim (cases_lt k n) [ inl less ↦ front.1 k less | inr more ↦ let same : n ≡ k = omega (arith, few, more) in subst Has same last.1 ],
    )

slots_are : (kind : ℕ → Slot) (Has : ℕ → Type 0) (seen : ℕ → Heard) (n : ℕ) → ((k : ℕ) → (seen k).lost ≡ false) → ((k : ℕ) → (seen k).left ≡ false)
    → ((k : ℕ) (x : Slot) → k < n → (seen k).vote ≡ Some x → (x ≡ kind k) × Has k) → (slots : List Slot) → slots_of seen n ≡ Some slots → AreFirst kind Has n slots
slots_are kind Has seen zero lost left is slots e = (grind (arith, e), λ k few. absurd (omega (arith, few)))
slots_are kind Has seen (suc n) lost left is slots e =
    one_more kind Has n (seen n).vote (λ x. is n x (omega arith)) (slots_of seen n)
    (λ xs. slots_are kind Has seen n lost left (λ k x few. is k x (omega (arith, few))) xs) slots
    (subst (λ (b : Bool). with_slot (slots_of seen n) (slot_of (seen n).vote b false) ≡ Some slots) (lost n)
    (subst (λ (b : Bool). with_slot (slots_of seen n) (slot_of (seen n).vote (seen n).lost b) ≡ Some slots) (left n) e))

-- ---- turns

-- what a turn owes
abbrev pub Agrees : Job → Ledger → ℕ → Phase → Poll → Type 0
Agrees job l e phase poll.NotYet = Unit {0}
Agrees job l e phase poll.Moved = InPhase job l e phase
Agrees job l e phase (poll.SendEstimate slots) = Agreed job l e slots × InPhase job l e phase
Agrees job l e phase (poll.Decided slots) = Agreed job l e slots

abbrev TurnAgrees : Job → Ledger → ℕ → Turn → Type 0
TurnAgrees job l e t = Agrees job l e t.phase t.poll

form_agrees : (job : Job) (l : Ledger) (e : ℕ) (o : Option (List Slot)) → ((slots : List Slot) → o ≡ Some slots → Agreed job l e slots) → TurnAgrees job l e (form o)
form_agrees job l e None is = tt
form_agrees job l e (Some slots) is = is slots refl

follow_agrees : (job : Job) (l : Ledger) (e r : ℕ) (held : List Slot) → Agreed job l e held → (o : Option (List Slot)) → ((slots : List Slot) → o ≡ Some slots → slots ≡ votes_in job e)
    → (away : Bool) → away ≡ false → TurnAgrees job l e (follow r held o away)
follow_agrees job l e r held h None is true none = absurd cc
follow_agrees job l e r held h None is false none = tt
follow_agrees job l e r held h (Some slots) is away none = record { votes = is slots refl; joined = h.joined }

round_agrees : (job : Job) (l : Ledger) (e n i r : ℕ) (held : List Slot) (o : Option (List Slot)) (away : Bool) → Agreed job l e held
    → ((slots : List Slot) → o ≡ Some slots → slots ≡ votes_in job e) → away ≡ false → (a b : Bool)
    → TurnAgrees job l e (if a then (if b then speak r held else follow r held o away) else decide held)
round_agrees job l e n i r held o away h is none true true = (h, h)
round_agrees job l e n i r held o away h is none true false = follow_agrees job l e r held h o is away none
round_agrees job l e n i r held o away h is none false b = h

turn_agrees : (job : Job) (l : Ledger) (e n i : ℕ) (seen : ℕ → Heard) → ((slots : List Slot) → slots_of seen n ≡ Some slots → Agreed job l e slots)
    → ((k : ℕ) (slots : List Slot) → (seen k).estimate ≡ Some slots → slots ≡ votes_in job e) → ((k : ℕ) → ((seen k).lost || (seen k).left) ≡ false)
    → (phase : Phase) → InPhase job l e phase → TurnAgrees job l e (turn n i seen phase)
turn_agrees job l e n i seen forms says here Outside h = tt
turn_agrees job l e n i seen forms says here Voting h = form_agrees job l e (slots_of seen n) forms
turn_agrees job l e n i seen forms says here (Round r held) h =
    round_agrees job l e n i r held (seen r).estimate ((seen r).lost || (seen r).left) h (says r) (here r) (nat_lt r n) (r == i)
turn_agrees job l e n i seen forms says here (Decided held) h = h

-- the turn of a node of a calm run
pub agrees : (job : Job) (l : Ledger) (n : Node) → IsCalm job l n → (phase : Phase) → InPhase job l (suc n.epoch) phase
    → Agrees job l (suc n.epoch) (turn_in (next_ballot n) n phase).phase (turn_in (next_ballot n) n phase).poll
agrees job l n is phase h =
    turn_agrees job l (suc n.epoch) (length n.present) (seat_of n.present n.me) seen_at
    (λ slots e.
    let found = slots_are (calm.vote_in job (suc n.epoch)) (HasJoined job l (suc n.epoch)) seen_at (procs_of job) (λ k. is.lost (seat_at n.present k)) (λ k. refl)
    (λ k x few e. subst (λ (q : ℕ). IsVote job l (suc n.epoch) q x) (ap (λ (who : List ℕ). seat_at who k) is.present ∙ seat_all (procs_of job) k few)
    (vote_is job l n is (seat_at n.present k) x e)) slots
    (subst (λ (m : ℕ). slots_of seen_at m ≡ Some slots) (ap length is.present ∙ length_all (procs_of job)) e) in
    record { votes = found.0; joined = found.1 })
    (λ k slots e. estimate_is job l n is (seat_at n.present k) slots e)
    (λ k. ap (λ (b : Bool). b || false) (is.lost (seat_at n.present k)))
    phase h
  where
    seen_at : ℕ → Heard
    seen_at k = seen (next_ballot n) n (seat_at n.present k)
