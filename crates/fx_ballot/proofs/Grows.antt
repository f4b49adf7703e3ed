-- What no move takes back: a vote cast, an estimate sent, that one left, that one was killed.
use Rattle.std.proofs.Common.{◌≡◌, ℕ, Bool, true, false, List, Option, Some, None, arith}
use Rattle.std.proofs.lemmas.Bool.Decides.{nat_tests}
use Rattle.fx_link.specs.declared.slot.Slot.{Slot}
use Rattle.fx_ballot.specs.Turn.{earliest, Phase, Outside, Message, Vote, Estimate, Leaving}
use Rattle.fx_ballot.specs.World.{World, put, after, enters, leaves, kills, tells}
use Rattle.fx_ballot.specs.Laws.{vote_of, estimate_of}

pub record Grows (w v : World) : Type 0 where
  pub vote : (c : ℕ) (s : Slot) → vote_of w c ≡ Some s → vote_of v c ≡ Some s
  pub estimate : (c : ℕ) (s : List Slot) → estimate_of w c ≡ Some s → estimate_of v c ≡ Some s
  pub gone : (c : ℕ) → (w.member c).gone ≡ true → (v.member c).gone ≡ true
  pub killed : (c : ℕ) → (w.member c).living ≡ false → (v.member c).living ≡ false
  pub outside : (c : ℕ) → (w.member c).gone ≡ true → (w.member c).phase ≡ Outside → (v.member c).phase ≡ Outside

pub grows_kill : (p : ℕ) (w : World) → Grows w (kills p w)
grows_kill p w = grind (arith, nat_tests)

pub grows_tell : (p q : ℕ) (w : World) → Grows w (tells p q w)
grows_tell p q w = grind (arith, nat_tests)

pub grows_leave : (to : ℕ → Bool) (p : ℕ) (w : World) → Grows w (leaves to p w)
grows_leave to p w = grind (arith, nat_tests)

pub grows_enter : (to : ℕ → Bool) (p : ℕ) (vote : Slot) (w : World) → vote_of w p ≡ None → (w.member p).gone ≡ false → Grows w (enters to p vote w)
grows_enter to p vote w none here = grind (arith, nat_tests)

-- process p goes on to a phase and says nothing; it goes on and says its estimate
abbrev pub goes : (ℕ → ℕ → List Message) → ℕ → Phase → World → World
goes link p phase w = record {
  member = put w.member p (record (w.member p) { phase = phase; heard = put (w.member p).heard p ((w.member p).heard p) });
  link = link;
}

abbrev pub says : (ℕ → ℕ → List Message) → ℕ → Phase → List Slot → World → World
says link p phase slots w = record {
  member = put w.member p (record (w.member p) { phase = phase; heard = put (w.member p).heard p (record ((w.member p).heard p) { estimate = Some slots }) });
  link = link;
}

-- a message of a is heard by b
abbrev pub heard_by : (ℕ → ℕ → List Message) → ℕ → ℕ → Message → World → World
heard_by link a b x w = record { member = put w.member b (after a x (w.member b)); link = link }

pub grows_go : (link : ℕ → ℕ → List Message) (p : ℕ) (phase : Phase) (w : World) → (w.member p).gone ≡ false → Grows w (goes link p phase w)
grows_go link p phase w here = grind (arith, nat_tests)

pub grows_say : (link : ℕ → ℕ → List Message) (p : ℕ) (phase : Phase) (slots : List Slot) (w : World)
    → (w.member p).gone ≡ false → ((s : List Slot) → estimate_of w p ≡ Some s → ⊥) → Grows w (says link p phase slots w)
grows_say link p phase slots w here none = record {
  vote = λ c s e. grind (arith, nat_tests);
  estimate = λ c s e. grind (arith, nat_tests, none s);
  gone = λ c e. grind (arith, nat_tests);
  killed = λ c e. grind (arith, nat_tests);
  outside = λ c g e. grind (arith, nat_tests);
}

earliest_stays : {X : Type 0} (o : Option X) (x s : X) → o ≡ Some s → earliest o x ≡ Some s
earliest_stays None x s e = absurd (cc)
earliest_stays (Some y) x s e = e

pub grows_hear : (link : ℕ → ℕ → List Message) (a b : ℕ) (x : Message) (w : World)
    → ((s : Slot) → x ≡ Vote s → vote_of w a ≡ Some s) → Grows w (heard_by link a b x w)
grows_hear link a b (Vote t) w said = record {
  vote = λ c s e. grind (arith, nat_tests, earliest_stays (vote_of w a) t s);
  estimate = λ c s e. grind (arith, nat_tests);
  gone = λ c e. grind (arith, nat_tests);
  killed = λ c e. grind (arith, nat_tests);
  outside = λ c g e. grind (arith, nat_tests);
}
grows_hear link a b (Estimate r t) w said = record {
  vote = λ c s e. grind (arith, nat_tests);
  estimate = λ c s e. grind (arith, nat_tests, earliest_stays (estimate_of w a) t s);
  gone = λ c e. grind (arith, nat_tests);
  killed = λ c e. grind (arith, nat_tests);
  outside = λ c g e. grind (arith, nat_tests);
}
grows_hear link a b Leaving w said = grind (arith, nat_tests)
