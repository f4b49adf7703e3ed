-- What a process says anew in the ballot of a call it sends to each other place.
use Rattle.std.proofs.Common.{◌≡◌, ◌≢◌, ◌⊎◌, ℕ, ◌==◌, Bool, true, false, ◌||◌, List, [], ◌∷◌, ◌++◌, map, Option, Some, None, inl, inr, arith, refl, ap, sym, ◌∙◌}
use Rattle.std.specs.Prelude.{if◌then◌else◌, not, is_some}
use Rattle.std.proofs.lemmas.Bool.Decides.{nat_tests}
use Rattle.std.specs.List.{filter}
use Rattle.std.specs.Option.{option_or}
use Rattle.fx_ballot.specs.Laws.{vote_of, estimate_of}
use Rattle.fx_ballot.specs.Names.{has, seat_of}
use Rattle.fx_ballot.specs.World as ballot
use Rattle.fx_comm.specs.Seats.{has_place}
use Rattle.fx_link.specs.declared.slot.Slot.{Slot}
use Rattle.fx_machine.specs.Nodes.{Act, procs_of, to_others}
use Rattle.fx_machine.specs.Reading.{OfCall, first_read, vote_in, estimate_in}
use Rattle.fx_machine.specs.Texts as text
use Rattle.fx_machine.specs.Texts.{Text}
use Rattle.fx_fleet.specs.World.{sent_to}
use Rattle.fx_legal.specs.Ledger.{Ledger, comm_in}
use Rattle.fx_calm.proofs.Lists.{chosen, equal, other_number}
use Rattle.fx_calls.proofs.Places.{has_seat}

-- ---- votes and estimates among texts

-- a vote of this call
abbrev pub has_vote : (e k : ℕ) → List Text → Bool
has_vote e k ts = is_some (first_read (vote_in (OfCall e k)) ts)

-- an estimate of this round of the call
abbrev pub has_estimate : (e k r : ℕ) → List Text → Bool
has_estimate e k r ts = is_some (first_read (estimate_in (OfCall e k) r) ts)

-- the seat of a process in the ballots of this epoch's calls
abbrev pub seat_in : Ledger → (e a : ℕ) → ℕ
seat_in l e a = seat_of (procs_of (comm_in l e)) a

pub read_stays : {X : Type 0} (read : Text → Option X) (xs ys : List Text) → is_some (first_read read xs) ≡ true → is_some (first_read read (xs ++ ys)) ≡ true
read_stays read [] ys is = absurd (let bad : false ≡ true = is in cc)
read_stays {X} read (x ∷ xs) ys is = of (read x) is (λ i. read_stays read xs ys i)
  where
    of : (o : Option X) → is_some (option_or o (first_read read xs)) ≡ true → (is_some (first_read read xs) ≡ true → is_some (first_read read (xs ++ ys)) ≡ true) → is_some (option_or o (first_read read (xs ++ ys))) ≡ true
    of None is later = later is
    of (Some y) is later = refl

pub read_comes : {X : Type 0} (read : Text → Option X) (xs ys : List Text) → is_some (first_read read ys) ≡ true → is_some (first_read read (xs ++ ys)) ≡ true
read_comes read [] ys is = is
read_comes {X} read (x ∷ xs) ys is = of (read x) (read_comes read xs ys is)
  where
    of : (o : Option X) → is_some (first_read read (xs ++ ys)) ≡ true → is_some (option_or o (first_read read (xs ++ ys))) ≡ true
    of None is = is
    of (Some y) is = refl

-- what goes to all others comes to each of them
module _ {X : Type 0} (read : Text → Option X) (t : Text) (b me : ℕ) (is : is_some (read t) ≡ true) (far : (b == me) ≡ false) where
  abbrev others : List ℕ → List ℕ
  others qs = filter (λ q. not (q == me)) qs

  abbrev comes : List ℕ → Bool
  comes qs = is_some (first_read read (sent_to b (map (λ q. (q, t)) qs)))

  first_some : (o later : Option X) → is_some o ≡ true → is_some (option_or o later) ≡ true
  first_some None later e = absurd (let bad : false ≡ true = e in cc)
  first_some (Some x) later e = refl

  others_come : (all : List ℕ) → has all b ≡ true → comes (others all) ≡ true
  others_come [] place = absurd (let bad : false ≡ true = place in cc)
  others_come (q ∷ qs) place = of (q == b) refl place (λ later. others_come qs later)
    where
      of : (o : Bool) → (q == b) ≡ o → (o || has qs b) ≡ true → (has qs b ≡ true → comes (others qs) ≡ true) → comes (if not (q == me) then q ∷ others qs else others qs) ≡ true
      of true same there later =
          ap (λ (o : Bool). comes (if not o then q ∷ others qs else others qs)) (ap (λ (o : ℕ). o == me) (equal q b same) ∙ far)
          ∙ ap (λ (o : Bool). is_some (first_read read (if o then t ∷ sent_to b (map (λ x. (x, t)) (others qs)) else sent_to b (map (λ x. (x, t)) (others qs))))) same
          ∙ first_some (read t) (first_read read (sent_to b (map (λ x. (x, t)) (others qs)))) is
      of false apart there later = chosen (λ (xs : List ℕ). comes xs ≡ true) (not (q == me)) (q ∷ others qs) (others qs)
          (λ e. ap (λ (o : Bool). is_some (first_read read (if o then t ∷ sent_to b (map (λ x. (x, t)) (others qs)) else sent_to b (map (λ x. (x, t)) (others qs))))) apart ∙ later there) (λ e. later there)

  pub others_read : (all : List ℕ) → has all b ≡ true → is_some (first_read read (sent_to b (to_others me all t))) ≡ true
  others_read all place = others_come all place

own_vote : (e k : ℕ) (v : Slot) → is_some (vote_in (OfCall e k) (text.Vote e k v)) ≡ true
own_vote e k v = grind (arith, nat_tests)

own_estimate : (e k r : ℕ) (slots : List Slot) → is_some (estimate_in (OfCall e k) r (text.Est e k r slots)) ≡ true
own_estimate e k r slots = grind (arith, nat_tests)

-- ---- a step in the ballot of one call

-- process p says no more there than it sends to each other place; x is the ballot before, and y behind
pub record SaysIn (p : ℕ) (act : Act) (l : Ledger) (e k : ℕ) (x y : ballot.World) : Type 0 where
  pub vote : (b : ℕ) → b ≢ p → has_place (comm_in l e) b ≡ true → is_some (vote_of y p) ≡ true → (is_some (vote_of x p) ≡ true) ⊎ (has_vote e k (sent_to b act.sends) ≡ true)
  pub estimate : (b : ℕ) → b ≢ p → has_place (comm_in l e) b ≡ true → is_some (estimate_of y p) ≡ true → (is_some (estimate_of x p) ≡ true) ⊎ (has_estimate e k (seat_in l e p) (sent_to b act.sends) ≡ true)

module _ (p : ℕ) (act : Act) (l : Ledger) (e k : ℕ) (x y : ballot.World) where
  pub says_none : vote_of y p ≡ vote_of x p → estimate_of y p ≡ estimate_of x p → SaysIn p act l e k x y
  says_none votes estimates = record { vote = λ b ne place is. inl (sym (ap is_some votes) ∙ is); estimate = λ b ne place is. inl (sym (ap is_some estimates) ∙ is) }

  module _ (me : ℕ) (own : me ≡ p) (all : List ℕ) (who : procs_of (comm_in l e) ≡ all) where
    not_me : (b : ℕ) → b ≢ p → (b == me) ≡ false
    not_me b ne = other_number b me (λ i. ne (i ∙ own))

    member : (b : ℕ) → has_place (comm_in l e) b ≡ true → has all b ≡ true
    member b place = ap (λ (qs : List ℕ). has qs b) (sym who) ∙ has_seat (comm_in l e) b ∙ place

    -- a vote that goes to all others
    pub says_vote : (v : Slot) → act.sends ≡ to_others me all (text.Vote e k v) → estimate_of y p ≡ estimate_of x p → SaysIn p act l e k x y
    says_vote v sent estimates = record {
      vote = λ b ne place is. inr (ap (λ (o : List (ℕ × Text)). has_vote e k (sent_to b o)) sent ∙ others_read (vote_in (OfCall e k)) (text.Vote e k v) b me (own_vote e k v) (not_me b ne) all (member b place));
      estimate = λ b ne place is. inl (sym (ap is_some estimates) ∙ is);
    }

    -- an estimate that goes to all others
    pub says_estimate : (slots : List Slot) → act.sends ≡ to_others me all (text.Est e k (seat_of all me) slots) → vote_of y p ≡ vote_of x p → SaysIn p act l e k x y
    says_estimate slots sent votes = record {
      vote = λ b ne place is. inl (sym (ap is_some votes) ∙ is);
      estimate = λ b ne place is. inr
          (ap (λ (o : List (ℕ × Text)). has_estimate e k (seat_in l e p) (sent_to b o)) sent
          ∙ others_read (estimate_in (OfCall e k) (seat_in l e p)) (text.Est e k (seat_of all me) slots) b me
          (ap (λ (r : ℕ). is_some (estimate_in (OfCall e k) (seat_in l e p) (text.Est e k r slots))) ((λ i. seat_of (sym who i) (own i))) ∙ own_estimate e k (seat_in l e p) slots) (not_me b ne) all (member b place));
    }
