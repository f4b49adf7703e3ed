-- The laws, for every list of moves from the start.
use Rattle.std.proofs.Common.{Some, ◌≡◌, ℕ, ◌<◌, ◌==◌, Bool, true, false, not, ◌&&◌, List, [], ◌∷◌, arith, refl, sym, ap, ◌∙◌}
use Rattle.std.specs.Prelude.{nat_lt, slice_get, Option, None, IsSome}
use Rattle.fx_link.specs.declared.slot.Slot.{Slot}
use Rattle.std.proofs.lemmas.Bool.Decides.{nat_tests}
use Rattle.std.proofs.lemmas.Bool.{cond_both}
use Rattle.fx_ballot.specs.Turn.{Phase, Outside, Voting, Round, Decided, Message}
use Rattle.fx_ballot.specs.World.{Member, World, Move, Enter, Act, Hear, Leave, Kill, Tell, stays, is_outside, may_leave, among, Apart, start, enters, hears, leaves, kills, tells, acts, happens, run}
use Rattle.fx_ballot.specs.Laws.{OneDecision, Origin, OriginOfSaid, PastHasSent, StillOpen, LeavingTellsAll, OwnSlot, RoundsNameTheirSender, estimate_of, vote_of}
use Rattle.fx_ballot.proofs.Trails.{Caught, caught_kill, caught_tell, caught_hear, caught_enter, caught_leave, left_heard}
use Rattle.fx_ballot.proofs.Turns.{Sound, sound_act, caught_act}
use Rattle.fx_ballot.proofs.Face.{blank_start, sound_blank, caught_blank, sound_kill, sound_tell, sound_leave, sound_enter, sound_hear, sound_one, sound_origin, sound_reaches, sound_spoken, sound_own_slot, sound_settled, sound_sender, sound_entered}

-- what is kept by every move
pub record Kept (n : ℕ) (name : ℕ → ℕ) (w : World) : Type 0 where
  pub sound : Sound n name w
  pub caught : Caught (among n name) w

record Two (a b : Bool) : Type 0 where
  pub first : a ≡ true
  pub second : b ≡ true

both : (a b : Bool) → (a && b) ≡ true → Two a b
both a b e = record { first = grind (arith, nat_tests); second = grind (arith, nat_tests) }

below : (i n : ℕ) → nat_lt i n ≡ true → i < n
below i n e = grind (arith, nat_tests)

outside : (phase : Phase) → is_outside phase ≡ true → phase ≡ Outside
outside Outside e = refl
outside Voting e = absurd (cc)
outside (Round r slots) e = absurd (cc)
outside (Decided slots) e = absurd (cc)

here : (m : Member) → stays m ≡ true → m.gone ≡ false
here m e = grind (arith, nat_tests)

denied : (b : Bool) → not b ≡ true → b ≡ false
denied b e = grind (arith, nat_tests)

heard : (n : ℕ) (name : ℕ → ℕ) (a b : ℕ) (w : World) → Kept n name w → (xs : List Message) → w.link a b ≡ xs → Kept n name (hears a b xs w)
heard n name a b w h [] front = h
heard n name a b w h (x ∷ rest) front = record {
  sound = sound_hear n name a b x rest w front h.sound;
  caught = caught_hear (among n name) n name a b x rest w front h.sound.messages h.caught;
}

pub keeps : (n : ℕ) (name : ℕ → ℕ) (w : World) (move : Move) → Apart n name → Kept n name w → Kept n name (happens n name w move)
keeps n name w (Enter i vote) apart h =
    cond_both {A = World} (nat_lt i n && (stays (w.member (name i)) && is_outside (w.member (name i)).phase)) (enters (among n name) (name i) vote w) w (Kept n name)
    (λ e.
    let rest : Two (stays (w.member (name i))) (is_outside (w.member (name i)).phase) =
    both (stays (w.member (name i))) (is_outside (w.member (name i)).phase)
    (both (nat_lt i n) (stays (w.member (name i)) && is_outside (w.member (name i)).phase) e).second in
    let out : (w.member (name i)).phase ≡ Outside = outside (w.member (name i)).phase rest.second in
    let stay : (w.member (name i)).gone ≡ false = here (w.member (name i)) rest.first in
    record {
      sound = sound_enter n name (among n name) (name i) vote w out stay h.sound;
      caught =
          caught_enter (among n name) n name (among n name) (name i) vote w (λ p s. s) (h.sound.messages.knows.outside (name i) out) stay
          h.sound.messages h.caught;
    })
    (λ e. h)
keeps n name w (Act i) apart h =
    cond_both {A = World} (nat_lt i n && stays (w.member (name i))) (acts n name i w) w (Kept n name)
    (λ e.
    let t : Two (nat_lt i n) (stays (w.member (name i))) = both (nat_lt i n) (stays (w.member (name i))) e in
    record {
      sound = sound_act n name i w apart (below i n t.first) t.second h.sound;
      caught = caught_act n name i w (below i n t.first) t.second h.sound h.caught;
    })
    (λ e. h)
keeps n name w (Hear i j) apart h =
    cond_both {A = World} (nat_lt i n && (nat_lt j n && (w.member (name j)).living)) (hears (name i) (name j) (w.link (name i) (name j)) w) w (Kept n name)
    (λ e. heard n name (name i) (name j) w h (w.link (name i) (name j)) refl)
    (λ e. h)
keeps n name w (Leave i) apart h =
    cond_both {A = World} (nat_lt i n && (stays (w.member (name i)) && may_leave (w.member (name i)).phase)) (leaves (among n name) (name i) w) w (Kept n name)
    (λ e.
    let rest : Two (stays (w.member (name i))) (may_leave (w.member (name i)).phase) =
    both (stays (w.member (name i))) (may_leave (w.member (name i)).phase)
    (both (nat_lt i n) (stays (w.member (name i)) && may_leave (w.member (name i)).phase) e).second in
    let stay : (w.member (name i)).gone ≡ false = here (w.member (name i)) rest.first in
    record {
      sound = sound_leave n name (among n name) (name i) w rest.second h.sound;
      caught = caught_leave (among n name) n name (among n name) (name i) w (λ p s. s) stay h.sound.messages h.caught;
    })
    (λ e. h)
keeps n name w (Kill i) apart h =
    cond_both {A = World} (nat_lt i n) (kills (name i) w) w (Kept n name)
    (λ e. record { sound = sound_kill n name (name i) w h.sound; caught = caught_kill (among n name) (name i) w h.caught })
    (λ e. h)
keeps n name w (Tell i j) apart h =
    cond_both {A = World} (nat_lt i n && (nat_lt j n && (not (i == j) && not (w.member (name i)).living))) (tells (name i) (name j) w) w (Kept n name)
    (λ e.
    let one : Two (nat_lt j n) (not (i == j) && not (w.member (name i)).living) =
    both (nat_lt j n) (not (i == j) && not (w.member (name i)).living)
    (both (nat_lt i n) (nat_lt j n && (not (i == j) && not (w.member (name i)).living)) e).second in
    let dead : (w.member (name i)).living ≡ false =
    denied (w.member (name i)).living (both (not (i == j)) (not (w.member (name i)).living) one.second).second in
    record {
      sound = sound_tell n name (name i) (name j) w dead h.sound;
      caught = caught_tell (among n name) (name i) (name j) w h.caught;
    })
    (λ e. h)

pub runs : (n : ℕ) (name : ℕ → ℕ) (moves : List Move) (w : World) → Apart n name → Kept n name w → Kept n name (run n name moves w)
runs n name [] w apart h = h
runs n name (move ∷ moves) w apart h = runs n name moves (happens n name w move) apart (keeps n name w move apart h)

pub kept : (n : ℕ) (name : ℕ → ℕ) (moves : List Move) → Apart n name → Kept n name (run n name moves start)
kept n name moves apart =
    runs n name moves start apart (record { sound = sound_blank n name start blank_start; caught = caught_blank (among n name) start blank_start })

pub one_decision : (n : ℕ) (name : ℕ → ℕ) (moves : List Move) → Apart n name → OneDecision (run n name moves start)
one_decision n name moves apart = sound_one n name (run n name moves start) (kept n name moves apart).sound

pub origin : (n : ℕ) (name : ℕ → ℕ) (moves : List Move) → Apart n name → Origin n name (run n name moves start)
origin n name moves apart = sound_origin n name (run n name moves start) (kept n name moves apart).sound

pub origin_of_said : (n : ℕ) (name : ℕ → ℕ) (moves : List Move) → Apart n name → OriginOfSaid n name (run n name moves start)
origin_of_said n name moves apart = sound_reaches n name (run n name moves start) (kept n name moves apart).sound

pub past_has_sent : (n : ℕ) (name : ℕ → ℕ) (moves : List Move) → Apart n name → PastHasSent n name (run n name moves start)
past_has_sent n name moves apart = sound_spoken n name (run n name moves start) (kept n name moves apart).sound

pub still_open : (n : ℕ) (name : ℕ → ℕ) (moves : List Move) → Apart n name → StillOpen n name (run n name moves start)
still_open n name moves apart = sound_settled n name (run n name moves start) (kept n name moves apart).sound

pub leaving_tells_all : (n : ℕ) (name : ℕ → ℕ) (moves : List Move) → Apart n name → LeavingTellsAll n name (run n name moves start)
leaving_tells_all n name moves apart p c member left lost =
    left_heard (among n name) (run n name moves start) p c (kept n name moves apart).caught member left lost

-- one that isn't outside has cast a vote
has_voted : (phase : Phase) (o : Option Slot) → (o ≡ None → phase ≡ Outside) → is_outside phase ≡ false → IsSome o
has_voted phase None none inside = absurd (let bad : true ≡ false = sym (ap is_outside (none refl)) ∙ inside in cc)
has_voted phase (Some vote) none inside = refl

own_found : (o : Option Slot) (found : Option Slot) → IsSome o → ((vote : Slot) → o ≡ Some vote → found ≡ Some vote) → found ≡ o
own_found None found some each = absurd (let bad : false ≡ true = some in cc)
own_found (Some vote) found some each = each vote refl

pub own_slots : (n : ℕ) (name : ℕ → ℕ) (moves : List Move) → Apart n name → OwnSlot n name (run n name moves start)
own_slots n name moves apart i r slots low lower inside living reach =
    let w : World = run n name moves start in
    let h : Sound n name w = (kept n name moves apart).sound in
    let some : IsSome (vote_of w (name i)) = has_voted (w.member (name i)).phase (vote_of w (name i)) (sound_entered n name w h (name i)) inside in
    (own_found (vote_of w (name i)) (slice_get slots i) some (λ vote voted. sound_own_slot n name w h i r slots vote low lower voted living reach), some)

pub rounds_name_their_sender : (n : ℕ) (name : ℕ → ℕ) (moves : List Move) → Apart n name → RoundsNameTheirSender n name (run n name moves start)
rounds_name_their_sender n name moves apart a q r slots e =
    let said : (estimate_of (run n name moves start) a ≡ Some slots) × (r < n) × (name r ≡ a) =
    sound_sender n name (run n name moves start) (kept n name moves apart).sound a q r slots e in
    (said.1, said.2)
