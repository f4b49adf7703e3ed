-- A member's turn keeps all that is kept.
use Rattle.std.proofs.Common.{◌≡◌, ℕ, ◌<◌, ◌≤◌, ◌≢◌, ◌==◌, suc, Bool, true, false, cond, ◌||◌, List, [], ◌∷◌, Option, Some, None, arith, refl, subst, sym, ◌∙◌, ap}
use Rattle.std.specs.Prelude.{nat_lt}
use Rattle.std.proofs.lemmas.Bool.Decides.{nat_tests}
use Rattle.std.proofs.lemmas.Bool.{cond_both}
use Rattle.fx_link.specs.declared.slot.Slot.{Slot}
use Rattle.fx_ballot.specs.Turn.{Phase, Outside, Voting, Round, Decided, Message, Estimate, Turn, turn, form, speak, follow, decide, slots_of}
use Rattle.fx_ballot.specs.World.{Member, World, stays, Apart, told_all, among, acts}
use Rattle.fx_ballot.specs.Laws.{estimate_of, held, TrueSlots}
use Rattle.fx_ballot.proofs.Grows.{goes, says, grows_go, grows_say}
use Rattle.fx_ballot.proofs.Messages.{Messages, messages_go, messages_say}
use Rattle.fx_ballot.proofs.Rounds.{Rounds, rounds_wait, rounds_form, rounds_speak, rounds_pass, rounds_adopt, rounds_decide}
use Rattle.fx_ballot.proofs.Trails.{Caught, caught_go, caught_say}
use Rattle.fx_ballot.proofs.Spoken.{Spoken, spoken_act}
pub use Rattle.fx_ballot.proofs.Spoken.{stepped, seen_by}
use Rattle.fx_ballot.proofs.Origins.{Genuine, genuine_turn, turned_go, turned_say, slots_true, slot_true}

-- what every state that a list of moves leads to meets
pub record Sound (n : ℕ) (name : ℕ → ℕ) (w : World) : Type 0 where
  pub messages : Messages n name w
  pub rounds : Rounds n name w
  pub genuine : Genuine n name w
  pub spoken : Spoken n name w

-- the part of it that is shown turn by turn
record Turned (n : ℕ) (name : ℕ → ℕ) (w : World) : Type 0 where
  pub messages : Messages n name w
  pub rounds : Rounds n name w
  pub genuine : Genuine n name w

-- the links where nothing new was said
abbrev quiet : ℕ → (ℕ → ℕ) → ℕ → World → ℕ → ℕ → List Message
quiet n name i w = told_all (among n name) w.link (name i) []

not_gone : (m : Member) → stays m ≡ true → m.gone ≡ false
not_gone m e = grind (arith, nat_tests)

-- a turn after which the member holds what it held, or true slots
sound_go : (n : ℕ) (name : ℕ → ℕ) (i : ℕ) (phase : Phase) (w : World) → stays (w.member (name i)) ≡ true
    → (phase ≡ Outside → (w.member (name i)).phase ≡ Outside) → ((w.member (name i)).phase ≡ Outside → phase ≡ Outside)
    → ((slots : List Slot) → held phase ≡ Some slots → TrueSlots n name w slots)
    → Rounds n name (goes (quiet n name i w) (name i) phase w) → Sound n name w → Turned n name (goes (quiet n name i w) (name i) phase w)
sound_go n name i phase w here out still true_slots rounds h = record {
  messages = messages_go n name (among n name) (name i) phase w (not_gone (w.member (name i)) here) out still h.messages;
  rounds = rounds;
  genuine =
      genuine_turn n name (name i) phase w (goes (quiet n name i w) (name i) phase w) (grows_go (quiet n name i w) (name i) phase w (not_gone (w.member (name i)) here))
      (turned_go (quiet n name i w) (name i) phase w) (not_gone (w.member (name i)) here) true_slots h.genuine;
}

sound_wait : (n : ℕ) (name : ℕ → ℕ) (i : ℕ) (phase : Phase) (w : World) → stays (w.member (name i)) ≡ true → (w.member (name i)).phase ≡ phase
    → Sound n name w → Turned n name (goes (quiet n name i w) (name i) phase w)
sound_wait n name i phase w here at h =
    sound_go n name i phase w here (λ e. at ∙ e) (λ e. sym at ∙ e)
    (λ slots e. h.genuine.lists (name i) slots (ap held at ∙ e))
    (rounds_wait (quiet n name i w) n name (name i) phase w at h.rounds) h

sound_form : (n : ℕ) (name : ℕ → ℕ) (i : ℕ) (w : World) → i < n → stays (w.member (name i)) ≡ true → (w.member (name i)).phase ≡ Voting
    → Sound n name w → (slots : Option (List Slot)) → slots_of (seen_by name i w) n ≡ slots → Turned n name (stepped n name i w (form slots))
sound_form n name i w low here at h None e = sound_wait n name i Voting w here at h
sound_form n name i w low here at h (Some slots) e =
    sound_go n name i (Round 0 slots) w here (λ bad. absurd (cc)) (λ bad. absurd (let outside : Voting ≡ Outside = sym at ∙ bad in cc))
    (λ others same.
    let known : TrueSlots n name w slots =
    slots_true name w (seen_by name i w) n
    (λ k slot l s.
    slot_true n name w i k slot low here at h.messages.knows h.rounds h.genuine
    (seen_by name i w k).vote (seen_by name i w k).lost (seen_by name i w k).left refl refl refl s)
    slots e in
    let equal : slots ≡ others = cc in
    subst (TrueSlots n name w) equal known)
    (rounds_form (quiet n name i w) n name i slots w low here at h.rounds) h

-- before its own round a member has said no estimate
unsaid : (n : ℕ) (name : ℕ → ℕ) (i : ℕ) (s slots : List Slot) (w : World) → i < n → (w.member (name i)).phase ≡ Round i slots
    → Rounds n name w → estimate_of w (name i) ≡ Some s → ⊥
unsaid n name i s slots w low at h e = grind (arith, nat_tests, at, h.spoke i s low e)

sound_speak : (n : ℕ) (name : ℕ → ℕ) (i r : ℕ) (slots : List Slot) (w : World) → Apart n name → i < n → stays (w.member (name i)) ≡ true
    → (w.member (name i)).phase ≡ Round r slots → r ≡ i → Sound n name w → Turned n name (stepped n name i w (speak r slots))
sound_speak n name i r slots w apart low here at own h =
    let now : (w.member (name i)).phase ≡ Round i slots = at ∙ ap (λ (k : ℕ). Round k slots) own in
    let none : (s : List Slot) → estimate_of w (name i) ≡ Some s → ⊥ = λ s e. unsaid n name i s slots w low now h.rounds e in
    let link : ℕ → ℕ → List Message = told_all (among n name) w.link (name i) (Estimate i slots ∷ []) in
    let v : World = says link (name i) (Round (suc i) slots) slots w in
    subst (λ (k : ℕ). Turned n name (stepped n name i w (speak k slots))) (sym own)
    (record {
      messages = messages_say n name (among n name) i (Round (suc i) slots) slots w low (not_gone (w.member (name i)) here) (λ bad. absurd (cc)) (λ bad. let no_phase : Round i slots ≡ Outside = sym now ∙ bad in cc) none h.messages;
      rounds = rounds_speak link n name i slots w apart low here now h.rounds;
      genuine =
          genuine_turn n name (name i) (Round (suc i) slots) w v (grows_say link (name i) (Round (suc i) slots) slots w (not_gone (w.member (name i)) here) none)
          (turned_say link (name i) (Round (suc i) slots) slots w) (not_gone (w.member (name i)) here)
          (λ s e. h.genuine.lists (name i) s (ap held now ∙ e)) h.genuine;
    })

away : (n : ℕ) (name : ℕ → ℕ) (i r : ℕ) (w : World) (lost left : Bool) → Messages n name w
    → (seen_by name i w r).lost ≡ lost → (seen_by name i w r).left ≡ left → (lost || left) ≡ true → stays (w.member (name r)) ≡ false
away n name i r w lost left h a b e = grind (arith, nat_tests, h.knows.lost (name i) (name r), h.knows.left (name i) (name r))

sound_follow : (n : ℕ) (name : ℕ → ℕ) (i r : ℕ) (slots : List Slot) (w : World) → Apart n name → i < n → r < n → i ≢ r
    → stays (w.member (name i)) ≡ true → (w.member (name i)).phase ≡ Round r slots → Sound n name w
    → (estimate : Option (List Slot)) (absent : Bool) → (seen_by name i w r).estimate ≡ estimate
    → ((seen_by name i w r).lost || (seen_by name i w r).left) ≡ absent → Turned n name (stepped n name i w (follow r slots estimate absent))
sound_follow n name i r slots w apart low lower other here at h (Some new) absent e a =
    let said : estimate_of w (name r) ≡ Some new = h.messages.knows.estimates (name i) (name r) new e in
    sound_go n name i (Round (suc r) new) w here (λ bad. absurd (cc)) (λ bad. absurd (let outside : Round r slots ≡ Outside = sym at ∙ bad in cc))
    (λ s same. h.genuine.lists (name r) s ((h.rounds.spoke r new lower said).1 ∙ same))
    (rounds_adopt (quiet n name i w) n name i r slots new w apart low lower other here said at h.rounds) h
sound_follow n name i r slots w apart low lower other here at h None true e a =
    sound_go n name i (Round (suc r) slots) w here (λ bad. absurd (cc)) (λ bad. absurd (let outside : Round r slots ≡ Outside = sym at ∙ bad in cc))
    (λ s same. h.genuine.lists (name i) s (ap held at ∙ same))
    (rounds_pass (quiet n name i w) n name i r slots w apart low lower other here
    (away n name i r w (seen_by name i w r).lost (seen_by name i w r).left h.messages refl refl a) at h.rounds)
    h
sound_follow n name i r slots w apart low lower other here at h None false e a = sound_wait n name i (Round r slots) w here at h

sound_decide : (n : ℕ) (name : ℕ → ℕ) (i r : ℕ) (slots : List Slot) (w : World) → Apart n name → i < n → n ≤ r → stays (w.member (name i)) ≡ true
    → (w.member (name i)).phase ≡ Round r slots → Sound n name w → Turned n name (stepped n name i w (decide slots))
sound_decide n name i r slots w apart low all here at h =
    sound_go n name i (Decided slots) w here (λ bad. absurd (cc)) (λ bad. absurd (let outside : Round r slots ≡ Outside = sym at ∙ bad in cc))
    (λ s same. h.genuine.lists (name i) s (ap held at ∙ same))
    (rounds_decide (quiet n name i w) n name i r slots w apart low all here at h.rounds) h

is_below : (r n : ℕ) → nat_lt r n ≡ true → r < n
is_below r n e = grind (arith, nat_tests)

is_past : (r n : ℕ) → nat_lt r n ≡ false → n ≤ r
is_past r n e = grind (arith, nat_tests)

is_same : (r i : ℕ) → (r == i) ≡ true → r ≡ i
is_same r i e = grind (arith, nat_tests)

is_other : (r i : ℕ) → (r == i) ≡ false → i ≢ r
is_other r i e = grind (arith, nat_tests)

turned : (n : ℕ) (name : ℕ → ℕ) (i : ℕ) (w : World) → Apart n name → i < n → stays (w.member (name i)) ≡ true → Sound n name w
    → (phase : Phase) → (w.member (name i)).phase ≡ phase → Turned n name (stepped n name i w (turn n i (seen_by name i w) phase))
turned n name i w apart low here h Outside at = sound_wait n name i Outside w here at h
turned n name i w apart low here h Voting at = sound_form n name i w low here at h (slots_of (seen_by name i w) n) refl
turned n name i w apart low here h (Round r slots) at =
    cond_both {A = Turn} (nat_lt r n)
    (cond (r == i) (speak r slots) (follow r slots (seen_by name i w r).estimate ((seen_by name i w r).lost || (seen_by name i w r).left)))
    (decide slots) (λ (t : Turn). Turned n name (stepped n name i w t))
    (λ below.
    cond_both {A = Turn} (r == i) (speak r slots)
    (follow r slots (seen_by name i w r).estimate ((seen_by name i w r).lost || (seen_by name i w r).left))
    (λ (t : Turn). Turned n name (stepped n name i w t))
    (λ own. sound_speak n name i r slots w apart low here at (is_same r i own) h)
    (λ other.
    sound_follow n name i r slots w apart low (is_below r n below) (is_other r i other) here at h
    (seen_by name i w r).estimate ((seen_by name i w r).lost || (seen_by name i w r).left) refl refl))
    (λ beyond. sound_decide n name i r slots w apart low (is_past r n beyond) here at h)
turned n name i w apart low here h (Decided slots) at = sound_wait n name i (Decided slots) w here at h

pub sound_act : (n : ℕ) (name : ℕ → ℕ) (i : ℕ) (w : World) → Apart n name → i < n → stays (w.member (name i)) ≡ true
    → Sound n name w → Sound n name (acts n name i w)
sound_act n name i w apart low here h =
    let t : Turned n name (acts n name i w) = turned n name i w apart low here h (w.member (name i)).phase refl in
    record { messages = t.messages; rounds = t.rounds; genuine = t.genuine; spoken = spoken_act n name i w apart low h.spoken }

-- the same for what is under way
caught_quiet : (n : ℕ) (name : ℕ → ℕ) (i : ℕ) (phase : Phase) (w : World) → Caught (among n name) w
    → Caught (among n name) (goes (quiet n name i w) (name i) phase w)
caught_quiet n name i phase w c = caught_go (among n name) (among n name) (name i) phase w c

caught_form : (n : ℕ) (name : ℕ → ℕ) (i : ℕ) (w : World) → Caught (among n name) w → (slots : Option (List Slot))
    → Caught (among n name) (stepped n name i w (form slots))
caught_form n name i w c None = caught_quiet n name i Voting w c
caught_form n name i w c (Some slots) = caught_quiet n name i (Round 0 slots) w c

caught_follow : (n : ℕ) (name : ℕ → ℕ) (i r : ℕ) (slots : List Slot) (w : World) → Caught (among n name) w → (estimate : Option (List Slot)) (absent : Bool)
    → Caught (among n name) (stepped n name i w (follow r slots estimate absent))
caught_follow n name i r slots w c (Some new) absent = caught_quiet n name i (Round (suc r) new) w c
caught_follow n name i r slots w c None true = caught_quiet n name i (Round (suc r) slots) w c
caught_follow n name i r slots w c None false = caught_quiet n name i (Round r slots) w c

none_from : (o : Option (List Slot)) → ((s : List Slot) → o ≡ Some s → ⊥) → o ≡ None
none_from None no_value = refl
none_from (Some s) no_value = absurd (no_value s refl)

caught_speak : (n : ℕ) (name : ℕ → ℕ) (i r : ℕ) (slots : List Slot) (w : World) → i < n → stays (w.member (name i)) ≡ true
    → (w.member (name i)).phase ≡ Round r slots → r ≡ i → Sound n name w → Caught (among n name) w
    → Caught (among n name) (stepped n name i w (speak r slots))
caught_speak n name i r slots w low here at own h c =
    let now : (w.member (name i)).phase ≡ Round i slots = at ∙ ap (λ (k : ℕ). Round k slots) own in
    let none : estimate_of w (name i) ≡ None = none_from (estimate_of w (name i)) (λ s e. unsaid n name i s slots w low now h.rounds e) in
    caught_say (among n name) n name (among n name) (name i) i (Round (suc r) slots) slots w (λ p e. e) none (not_gone (w.member (name i)) here) h.messages c

caught_turned : (n : ℕ) (name : ℕ → ℕ) (i : ℕ) (w : World) → i < n → stays (w.member (name i)) ≡ true → Sound n name w → Caught (among n name) w
    → (phase : Phase) → (w.member (name i)).phase ≡ phase → Caught (among n name) (stepped n name i w (turn n i (seen_by name i w) phase))
caught_turned n name i w low here h c Outside at = caught_quiet n name i Outside w c
caught_turned n name i w low here h c Voting at = caught_form n name i w c (slots_of (seen_by name i w) n)
caught_turned n name i w low here h c (Round r slots) at =
    cond_both {A = Turn} (nat_lt r n)
    (cond (r == i) (speak r slots) (follow r slots (seen_by name i w r).estimate ((seen_by name i w r).lost || (seen_by name i w r).left)))
    (decide slots) (λ (t : Turn). Caught (among n name) (stepped n name i w t))
    (λ below.
    cond_both {A = Turn} (r == i) (speak r slots)
    (follow r slots (seen_by name i w r).estimate ((seen_by name i w r).lost || (seen_by name i w r).left))
    (λ (t : Turn). Caught (among n name) (stepped n name i w t))
    (λ own. caught_speak n name i r slots w low here at (is_same r i own) h c)
    (λ other. caught_follow n name i r slots w c (seen_by name i w r).estimate ((seen_by name i w r).lost || (seen_by name i w r).left)))
    (λ beyond. caught_quiet n name i (Decided slots) w c)
caught_turned n name i w low here h c (Decided slots) at = caught_quiet n name i (Decided slots) w c

pub caught_act : (n : ℕ) (name : ℕ → ℕ) (i : ℕ) (w : World) → i < n → stays (w.member (name i)) ≡ true
    → Sound n name w → Caught (among n name) w → Caught (among n name) (acts n name i w)
caught_act n name i w low here h c = caught_turned n name i w low here h c (w.member (name i)).phase refl
