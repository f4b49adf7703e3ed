-- What worlds above need of the ballot world: what its states meet, that each move keeps it, and what follows from it.
use Rattle.std.proofs.Common.{◌≡◌, ℕ, ◌<◌, Bool, true, false, List, [], ◌∷◌, length, get_or, Some, None, inl, inr, arith, refl, subst, sym, ◌∙◌, ap}
use Rattle.std.specs.Prelude.{slice_get, nat_lt}
use Rattle.std.proofs.lemmas.Bool.Decides.{nat_tests}
use Rattle.std.proofs.lemmas.Option.{slice_get-get_or}
use Rattle.fx_link.specs.declared.slot.Slot.{Slot}
use Rattle.fx_ballot.specs.Turn.{Phase, Outside, Voting, Round, Decided, Message, Estimate}
use Rattle.fx_ballot.specs.World.{World, stays, may_leave, start, enters, hears, leaves, kills, tells, put_link}
use Rattle.fx_ballot.specs.Laws.{vote_of, estimate_of, held, past, Reaches, StandsIn, OneDecision, OriginOfSaid, PastHasSent, IsTrueSlot, TrueSlots, Settled}
use Rattle.fx_ballot.proofs.Lists.{Each, each_in}
use Rattle.fx_ballot.proofs.Messages.{Said, Knows, messages_kill, messages_tell, messages_leave, messages_enter, messages_hear}
use Rattle.fx_ballot.proofs.Rounds.{Rounds, rounds_kill, rounds_tell, rounds_leave, rounds_enter, rounds_hear}
use Rattle.fx_ballot.proofs.Origins.{Genuine, genuine_kill, genuine_tell, genuine_leave, genuine_enter, genuine_hear}
use Rattle.fx_ballot.proofs.Spoken.{spoken_kill, spoken_tell, spoken_leave, spoken_enter, spoken_hear}
use Rattle.fx_ballot.proofs.Trails.{LeavingLast, hear_all}
pub use Rattle.fx_ballot.proofs.Trails.{Caught, caught_kill, caught_tell, caught_hear, caught_enter, caught_leave, left_heard}
pub use Rattle.fx_ballot.proofs.Turns.{Sound, sound_act, caught_act}

-- nobody has entered and nothing was said; some may be killed, and some told of them
pub record Blank (w : World) : Type 0 where
  pub phase : (p : ℕ) → (w.member p).phase ≡ Outside
  pub vote : (p c : ℕ) → ((w.member p).heard c).vote ≡ None
  pub estimate : (p c : ℕ) → ((w.member p).heard c).estimate ≡ None
  pub left : (p c : ℕ) → ((w.member p).heard c).left ≡ false
  pub lost : (p c : ℕ) → ((w.member p).heard c).lost ≡ true → (w.member c).living ≡ false
  pub gone : (p : ℕ) → (w.member p).gone ≡ false
  pub link : (a b : ℕ) → w.link a b ≡ []

pub blank_start : Blank start
blank_start = record {
  phase = λ p. refl;
  vote = λ p c. refl;
  estimate = λ p c. refl;
  left = λ p c. refl;
  lost = λ p c e. absurd (cc);
  gone = λ p. refl;
  link = λ a b. refl;
}

pub blank_kill : (p : ℕ) (w : World) → Blank w → Blank (kills p w)
blank_kill p w h = record {
  phase = λ q. grind (arith, nat_tests, h.phase q, h.phase p);
  vote = λ q c. grind (arith, nat_tests, h.vote q c);
  estimate = λ q c. grind (arith, nat_tests, h.estimate q c);
  left = λ q c. grind (arith, nat_tests, h.left q c);
  lost = λ q c e. grind (arith, nat_tests, h.lost q c);
  gone = λ q. grind (arith, nat_tests, h.gone q, h.gone p);
  link = λ a b. h.link a b;
}

pub blank_tell : (p q : ℕ) (w : World) → (w.member p).living ≡ false → Blank w → Blank (tells p q w)
blank_tell p q w dead h = record {
  phase = λ o. grind (arith, nat_tests, h.phase o, h.phase q);
  vote = λ o c. grind (arith, nat_tests, h.vote o c);
  estimate = λ o c. grind (arith, nat_tests, h.estimate o c);
  left = λ o c. grind (arith, nat_tests, h.left o c);
  lost = λ o c e. grind (arith, nat_tests, dead, h.lost o c);
  gone = λ o. grind (arith, nat_tests, h.gone o, h.gone q);
  link = λ a b. grind (arith, nat_tests, h.link a b);
}

blank_knows : (w : World) → Blank w → Knows w
blank_knows w h = record {
  votes = λ p c s e. grind (arith, h.vote p c);
  estimates = λ p c s e. grind (arith, h.estimate p c);
  lost = λ p c e. h.lost p c e;
  left = λ p c e. grind (arith, h.left p c);
  outside = λ c e. h.vote c c;
  entered = λ c e. h.phase c;
}

blank_rounds : (n : ℕ) (name : ℕ → ℕ) (w : World) → Blank w → Rounds n name w
blank_rounds n name w h = record {
  spoke = λ c s l e. grind (arith, h.estimate (name c) (name c));
  agree = λ b p l st e. grind (arith, h.phase p);
  one = λ p q f g a b. grind (arith, h.phase p);
}

blank_genuine : (n : ℕ) (name : ℕ → ℕ) (w : World) → Blank w → Genuine n name w
blank_genuine n name w h = record {
  lists = λ p slots e. let bad : None ≡ Some slots = sym (ap held (h.phase p)) ∙ e in absurd (cc);
  parted = λ p e. grind (arith, h.gone p);
}

pub sound_blank : (n : ℕ) (name : ℕ → ℕ) (w : World) → Blank w → Sound n name w
sound_blank n name w h = record {
  messages = record { knows = blank_knows w h; links = λ a b. subst (Each (Said n name w a)) (sym (h.link a b)) tt };
  rounds = blank_rounds n name w h;
  genuine = blank_genuine n name w h;
  spoken = record { said = λ c l e. absurd (let bad : false ≡ true = sym (ap (past c) (h.phase (name c))) ∙ e in cc) };
}

pub caught_blank : (sees : ℕ → Bool) (w : World) → Blank w → Caught sees w
caught_blank sees w h = record {
  trail = λ p c s ne e. record {
    vote = ap (λ (xs : List Message). (hear_all xs ((w.member p).heard c)).vote) (h.link c p) ∙ h.vote p c ∙ sym (h.vote c c);
    estimate = ap (λ (xs : List Message). (hear_all xs ((w.member p).heard c)).estimate) (h.link c p) ∙ h.estimate p c ∙ sym (h.estimate c c);
    left = ap (λ (xs : List Message). (hear_all xs ((w.member p).heard c)).left) (h.link c p) ∙ h.left p c ∙ sym (h.gone c);
    last = subst LeavingLast (sym (h.link c p)) tt;
    seen = λ t. h.link c p;
  };
}

pub sound_kill : (n : ℕ) (name : ℕ → ℕ) (p : ℕ) (w : World) → Sound n name w → Sound n name (kills p w)
sound_kill n name p w h =
    record {
      messages = messages_kill n name p w h.messages;
      rounds = rounds_kill n name p w h.rounds;
      genuine = genuine_kill n name p w h.genuine;
      spoken = spoken_kill n name p w h.spoken;
    }

pub sound_tell : (n : ℕ) (name : ℕ → ℕ) (p q : ℕ) (w : World) → (w.member p).living ≡ false → Sound n name w → Sound n name (tells p q w)
sound_tell n name p q w dead h = record {
  messages = messages_tell n name p q w dead h.messages;
  rounds = rounds_tell n name p q w h.rounds;
  genuine = genuine_tell n name p q w h.genuine;
  spoken = spoken_tell n name p q w h.spoken;
}

pub sound_leave : (n : ℕ) (name : ℕ → ℕ) (to : ℕ → Bool) (p : ℕ) (w : World) → may_leave (w.member p).phase ≡ true
    → Sound n name w → Sound n name (leaves to p w)
sound_leave n name to p w may h = record {
  messages = messages_leave n name to p w h.messages;
  rounds = rounds_leave n name to p w h.rounds;
  genuine = genuine_leave n name to p w may h.genuine;
  spoken = spoken_leave n name to p w h.spoken;
}

pub sound_enter : (n : ℕ) (name : ℕ → ℕ) (to : ℕ → Bool) (p : ℕ) (vote : Slot) (w : World) → (w.member p).phase ≡ Outside
    → (w.member p).gone ≡ false → Sound n name w → Sound n name (enters to p vote w)
sound_enter n name to p vote w out here h = record {
  messages = messages_enter n name to p vote w out here h.messages;
  rounds = rounds_enter n name to p vote w out h.rounds;
  genuine = genuine_enter n name to p vote w (h.messages.knows.outside p out) here h.genuine;
  spoken = spoken_enter n name to p vote w h.spoken;
}

pub sound_hear : (n : ℕ) (name : ℕ → ℕ) (a b : ℕ) (x : Message) (rest : List Message) (w : World) → w.link a b ≡ x ∷ rest
    → Sound n name w → Sound n name (hears a b (x ∷ rest) w)
sound_hear n name a b x rest w front h =
    let both : Each (Said n name w a) (x ∷ rest) = subst (Each (Said n name w a)) front (h.messages.links a b) in
    record {
      messages = messages_hear n name a b x rest w front h.messages;
      rounds = rounds_hear (put_link w.link a b rest) n name a b x w both.0 h.rounds;
      genuine = genuine_hear (put_link w.link a b rest) n name a b x w both.0 h.genuine;
      spoken = spoken_hear (put_link w.link a b rest) n name a b x w both.0 h.spoken;
    }

-- two members that decided hold the same
pub sound_one : (n : ℕ) (name : ℕ → ℕ) (w : World) → Sound n name w → OneDecision w
sound_one n name w h p q f g a b = h.rounds.one p q f g a b

-- every list that is held has true slots
pub sound_origin : (n : ℕ) (name : ℕ → ℕ) (w : World) → Sound n name w → (p : ℕ) (slots : List Slot)
    → held (w.member p).phase ≡ Some slots → TrueSlots n name w slots
sound_origin n name w h p slots e = h.genuine.lists p slots e

-- who hasn't entered has cast no vote
pub sound_silent : (n : ℕ) (name : ℕ → ℕ) (w : World) → Sound n name w → (p : ℕ) → (w.member p).phase ≡ Outside → vote_of w p ≡ None
sound_silent n name w h p out = h.messages.knows.outside p out

-- who has cast no vote hasn't entered
pub sound_entered : (n : ℕ) (name : ℕ → ℕ) (w : World) → Sound n name w → (p : ℕ) → vote_of w p ≡ None → (w.member p).phase ≡ Outside
sound_entered n name w h p none = h.messages.knows.entered p none

-- what was heard of a member is what it said, who was told as lost was killed, and who was seen to leave has left
pub sound_vote : (n : ℕ) (name : ℕ → ℕ) (w : World) → Sound n name w → (p c : ℕ) (vote : Slot) → ((w.member p).heard c).vote ≡ Some vote
    → vote_of w c ≡ Some vote
sound_vote n name w h p c vote e = h.messages.knows.votes p c vote e

pub sound_heard : (n : ℕ) (name : ℕ → ℕ) (w : World) → Sound n name w → (p c : ℕ) (slots : List Slot)
    → ((w.member p).heard c).estimate ≡ Some slots → estimate_of w c ≡ Some slots
sound_heard n name w h p c slots e = h.messages.knows.estimates p c slots e

pub sound_lost : (n : ℕ) (name : ℕ → ℕ) (w : World) → Sound n name w → (p c : ℕ) → ((w.member p).heard c).lost ≡ true
    → (w.member c).living ≡ false
sound_lost n name w h p c e = h.messages.knows.lost p c e

pub sound_left : (n : ℕ) (name : ℕ → ℕ) (w : World) → Sound n name w → (p c : ℕ) → ((w.member p).heard c).left ≡ true
    → (w.member c).gone ≡ true
sound_left n name w h p c e = h.messages.knows.left p c e

-- who is past its own round has sent its estimate
pub sound_spoken : (n : ℕ) (name : ℕ → ℕ) (w : World) → Sound n name w → PastHasSent n name w
sound_spoken n name w h c low e = h.spoken.said c low e

-- a member that sent its estimate is past its own round, and holds that estimate
pub sound_holds : (n : ℕ) (name : ℕ → ℕ) (w : World) → Sound n name w → (c : ℕ) (slots : List Slot) → c < n
    → estimate_of w (name c) ≡ Some slots → (past c (w.member (name c)).phase ≡ true) × (held (w.member (name c)).phase ≡ Some slots)
sound_holds n name w h c slots low e = h.rounds.spoke c slots low e

-- an estimate that is under way is its sender's, and its round is the sender's seat
pub sound_sender : (n : ℕ) (name : ℕ → ℕ) (w : World) → Sound n name w → (a q r : ℕ) (slots : List Slot)
    → StandsIn (Estimate r slots) (w.link a q) → (estimate_of w a ≡ Some slots) × (r < n) × (name r ≡ a)
sound_sender n name w h a q r slots e = each_in (Said n name w a) (Estimate r slots) (w.link a q) (h.messages.links a q) e

-- an estimate that reaches a process is what the member of its round sent
pub sound_sent : (n : ℕ) (name : ℕ → ℕ) (w : World) → Sound n name w → (q r : ℕ) (slots : List Slot)
    → Reaches w name q r slots → estimate_of w (name r) ≡ Some slots
sound_sent n name w h q r slots (inl e) = h.messages.knows.estimates q (name r) slots e
sound_sent n name w h q r slots (inr e) =
    let said : Said n name w e.0 (Estimate r slots) = each_in (Said n name w e.0) (Estimate r slots) (w.link e.0 q) (h.messages.links e.0 q) e.1 in
    subst (λ (k : ℕ). estimate_of w k ≡ Some slots) (sym said.2) said.0

-- each estimate that was sent has true slots
pub sound_estimate : (n : ℕ) (name : ℕ → ℕ) (w : World) → Sound n name w → (r : ℕ) (slots : List Slot) → r < n
    → estimate_of w (name r) ≡ Some slots → TrueSlots n name w slots
sound_estimate n name w h r slots low e = h.genuine.lists (name r) slots (h.rounds.spoke r slots low e).1

-- each estimate that was heard or is under way has true slots
pub sound_reaches : (n : ℕ) (name : ℕ → ℕ) (w : World) → Sound n name w → OriginOfSaid n name w
sound_reaches n name w h q r slots low reach = sound_estimate n name w h r slots low (sound_sent n name w h q r slots reach)

-- a member that voted and lives has its own vote in its own slot
pub own_slot : (w : World) (p : ℕ) (slot vote : Slot) → ((w.member p).phase ≡ Outside → vote_of w p ≡ None)
    → vote_of w p ≡ Some vote → (w.member p).living ≡ true → IsTrueSlot w p slot → slot ≡ vote
own_slot w p slot vote silent voted living (inl e) = cc
own_slot w p slot vote silent voted living (inr (inl e)) = absurd (let bad : true ≡ false = sym living ∙ e.1 in cc)
own_slot w p slot vote silent voted living (inr (inr e)) = absurd (let bad : Some vote ≡ None = sym voted ∙ silent e.2 in cc)

pub sound_own_slot : (n : ℕ) (name : ℕ → ℕ) (w : World) → Sound n name w → (i r : ℕ) (slots : List Slot) (vote : Slot) → i < n → r < n
    → vote_of w (name i) ≡ Some vote → (w.member (name i)).living ≡ true → Reaches w name (name i) r slots → slice_get slots i ≡ Some vote
sound_own_slot n name w h i r slots vote low lower voted living reach =
    let t : TrueSlots n name w slots = sound_estimate n name w h r slots lower (sound_sent n name w h (name i) r slots reach) in
    let inside : i < length slots = subst (λ (k : ℕ). i < k) (sym t.size) low in
    let at : slice_get slots i ≡ Some (get_or slots i vote) = slice_get-get_or slots i vote inside in
    at ∙ ap (λ (s : Slot). Some s) (own_slot w (name i) (get_or slots i vote) vote (h.messages.knows.outside (name i)) voted living (t.each i (get_or slots i vote) at))

-- once somebody decided
round_between : (i r k : ℕ) → nat_lt i k ≡ true → nat_lt r k ≡ false → i < r
round_between i r k a b = grind (arith, nat_tests)

round_before : (i r k : ℕ) → i < r → nat_lt r k ≡ true → nat_lt i k ≡ true
round_before i r k l a = grind (arith, nat_tests)

later_round : (i r : ℕ) (phase : Phase) → past i phase ≡ true → past r phase ≡ false → i < r
later_round i r Outside a b = absurd (cc)
later_round i r Voting a b = absurd (cc)
later_round i r (Round k slots) a b = round_between i r k a b
later_round i r (Decided slots) a b = absurd (cc)

past_before : (i r : ℕ) (phase : Phase) → i < r → past r phase ≡ true → past i phase ≡ true
past_before i r Outside l a = absurd (cc)
past_before i r Voting l a = absurd (cc)
past_before i r (Round k slots) l a = round_before i r k l a
past_before i r (Decided slots) l a = refl

held_now : (n : ℕ) (name : ℕ → ℕ) (w : World) → Rounds n name w → (p : ℕ) (decided : List Slot) → (w.member p).phase ≡ Decided decided
    → (i : ℕ) → i < n → stays (w.member (name i)) ≡ true
    → (past i (w.member (name i)).phase ≡ true) × (held (w.member (name i)).phase ≡ Some decided)
held_now n name w h p decided at i low here = grind (arith, at, h.agree i p low here)

adopts_now : (n : ℕ) (name : ℕ → ℕ) (w : World) → Rounds n name w → (decided : List Slot) (i r : ℕ) (slots : List Slot) → i < n → r < n
    → stays (w.member (name i)) ≡ true → past i (w.member (name i)).phase ≡ true → held (w.member (name i)).phase ≡ Some decided
    → past r (w.member (name i)).phase ≡ false → estimate_of w (name r) ≡ Some slots → slots ≡ decided
adopts_now n name w h decided i r slots low lower here own holds ahead said =
    let sent : (past r (w.member (name r)).phase ≡ true) × (held (w.member (name r)).phase ≡ Some slots) = h.spoke r slots lower said in
    let later : i < r = later_round i r (w.member (name i)).phase own ahead in
    let agreed : (past i (w.member (name i)).phase ≡ true) × (held (w.member (name r)).phase ≡ held (w.member (name i)).phase) =
    h.agree i (name r) low here (past_before i r (w.member (name r)).phase later sent.0) in
    let same : Some slots ≡ Some decided = sym sent.1 ∙ agreed.1 ∙ holds in cc

pub sound_settled : (n : ℕ) (name : ℕ → ℕ) (w : World) → Sound n name w → (p : ℕ) (decided : List Slot) → (w.member p).phase ≡ Decided decided
    → (i : ℕ) → i < n → stays (w.member (name i)) ≡ true → Settled n name w decided i
sound_settled n name w h p decided at i low here =
    let now : (past i (w.member (name i)).phase ≡ true) × (held (w.member (name i)).phase ≡ Some decided) =
    held_now n name w h.rounds p decided at i low here in
    record {
      own_round = now.0;
      holds = now.1;
      adopts = λ r slots lower ahead reach.
          adopts_now n name w h.rounds decided i r slots low lower here now.0 now.1 ahead (sound_sent n name w h (name i) r slots reach);
    }
