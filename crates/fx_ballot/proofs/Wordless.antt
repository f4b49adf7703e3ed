-- A process that cast no vote and said no estimate, also one that left: of it nothing is under way but leavings.
use Rattle.std.proofs.Common.{◌≡◌, ℕ, ◌<◌, ◌≢◌, Bool, true, false, ◌&&◌, List, [], ◌∷◌, Option, Some, None, arith, refl, subst, sym, ◌∙◌, ap}
use Rattle.std.specs.Prelude.{nat_lt}
use Rattle.std.proofs.lemmas.Bool.Decides.{nat_tests}
use Rattle.std.proofs.lemmas.Bool.{cond_both}
use Rattle.fx_link.specs.declared.slot.Slot.{Slot}
use Rattle.fx_ballot.specs.Turn.{Message, Vote, Estimate, Leaving, Turn}
use Rattle.fx_ballot.specs.World.{World, Move, Enter, Act, Hear, Leave, Kill, Tell, start, stays, is_outside, may_leave, Apart, put_link, among, enters, hears, leaves, kills, tells, acts, turn_of, enabled, happens, run}
use Rattle.fx_ballot.specs.Laws.{vote_of, estimate_of, Wordless, OnlyLeavings, OnlyLeft, StrangersOnlyLeave}
use Rattle.fx_ballot.proofs.Lists.{Each}
use Rattle.fx_ballot.proofs.Messages.{Said, Messages}
use Rattle.fx_ballot.proofs.Trails.{own_kept}
use Rattle.fx_ballot.proofs.Turns.{Sound, stepped}
use Rattle.fx_ballot.proofs.Face.{Blank, blank_start, sound_vote, sound_heard, sound_leave}
use Rattle.fx_ballot.proofs.Strangers.{Stranger, Strangers, heard_phase, among_seat, strangers_blank, strangers_kill, strangers_tell, strangers_hear, strangers_enter, strangers_leave, strangers_act}
use Rattle.fx_ballot.proofs.Runs.{Kept, keeps, kept}

-- in a blank world all are so, and a stranger always is
pub wordless_blank : (w : World) → Blank w → (p : ℕ) → Wordless w p
wordless_blank w h p = record { phase = h.phase p; vote = h.vote p p; estimate = h.estimate p p }

pub wordless_stranger : (n : ℕ) (name : ℕ → ℕ) (w : World) → Sound n name w → (p : ℕ) → Stranger w p → Wordless w p
wordless_stranger n name w h p s = record { phase = s.phase; vote = h.messages.knows.outside p s.phase; estimate = s.estimate }

-- one that hasn't left is a stranger
pub stranger_wordless : (w : World) (p : ℕ) → (w.member p).gone ≡ false → Wordless w p → Stranger w p
stranger_wordless w p here s = record { phase = s.phase; estimate = s.estimate; gone = here }

stays_wordless : (w v : World) (p : ℕ) → (v.member p).phase ≡ (w.member p).phase → vote_of v p ≡ vote_of w p → estimate_of v p ≡ estimate_of w p
    → Wordless w p → Wordless v p
stays_wordless w v p a b c h = record { phase = a ∙ h.phase; vote = b ∙ h.vote; estimate = c ∙ h.estimate }

-- it stays so by each move but its own entering and its own turn
pub wordless_kill : (o : ℕ) (w : World) (p : ℕ) → Wordless w p → Wordless (kills o w) p
wordless_kill o w p h = stays_wordless w (kills o w) p (grind (arith, nat_tests)) (grind (arith, nat_tests)) (grind (arith, nat_tests)) h

pub wordless_tell : (o q : ℕ) (w : World) (p : ℕ) → Wordless w p → Wordless (tells o q w) p
wordless_tell o q w p h = stays_wordless w (tells o q w) p (grind (arith, nat_tests)) (grind (arith, nat_tests)) (grind (arith, nat_tests)) h

pub wordless_leave : (to : ℕ → Bool) (o : ℕ) (w : World) (p : ℕ) → Wordless w p → Wordless (leaves to o w) p
wordless_leave to o w p h = stays_wordless w (leaves to o w) p (grind (arith, nat_tests)) (grind (arith, nat_tests)) (grind (arith, nat_tests)) h

pub wordless_enter : (to : ℕ → Bool) (o : ℕ) (vote : Slot) (w : World) (p : ℕ) → p ≢ o → Wordless w p → Wordless (enters to o vote w) p
wordless_enter to o vote w p ne h =
    stays_wordless w (enters to o vote w) p (grind (arith, nat_tests)) (grind (arith, nat_tests)) (grind (arith, nat_tests)) h

pub wordless_hear : (n : ℕ) (name : ℕ → ℕ) (a b : ℕ) (x : Message) (rest : List Message) (w : World) → w.link a b ≡ x ∷ rest
    → Messages n name w → (p : ℕ) → Wordless w p → Wordless (hears a b (x ∷ rest) w) p
wordless_hear n name a b x rest w front m p h =
    let both : Each (Said n name w a) (x ∷ rest) = subst (Each (Said n name w a)) front (m.links a b) in
    let link : ℕ → ℕ → List Message = put_link w.link a b rest in
    stays_wordless w (hears a b (x ∷ rest) w) p (heard_phase a b x rest w p) (own_kept link n name a b p x w both.0).0
    (own_kept link n name a b p x w both.0).1 h

pub wordless_act : (n : ℕ) (name : ℕ → ℕ) (i : ℕ) (w : World) (p : ℕ) → p ≢ name i → Wordless w p → Wordless (acts n name i w) p
wordless_act n name i w p ne h = acted n name i w (turn_of n name i (w.member (name i))) p ne h
  where
    acted : (n : ℕ) (name : ℕ → ℕ) (i : ℕ) (w : World) (t : Turn) (p : ℕ) → p ≢ name i → Wordless w p → Wordless (stepped n name i w t) p
    acted n name i w t p ne h =
        stays_wordless w (stepped n name i w t) p (grind (arith, nat_tests)) (grind (arith, nat_tests)) (grind (arith, nat_tests)) h

-- what is under way of it, and what was heard
none_of : {X : Type 0} → (o : Option X) → ((x : X) → o ≡ Some x → ⊥) → o ≡ None
none_of None f = refl
none_of (Some x) f = absurd (f x refl)

pub only_leavings : (n : ℕ) (name : ℕ → ℕ) (w : World) → (p : ℕ) → Wordless w p → (xs : List Message) → Each (Said n name w p) xs → OnlyLeavings xs
only_leavings n name w p s [] e = tt
only_leavings n name w p s (Vote slot ∷ xs) e = let bad : None ≡ Some slot = sym s.vote ∙ e.0 in absurd (cc)
only_leavings n name w p s (Estimate r slots ∷ xs) e = let bad : None ≡ Some slots = sym s.estimate ∙ e.0.0 in absurd (cc)
only_leavings n name w p s (Leaving ∷ xs) e = only_leavings n name w p s xs e.1

pub only_left : (n : ℕ) (name : ℕ → ℕ) (w : World) → Sound n name w → (p : ℕ) → Wordless w p → OnlyLeft w p
only_left n name w h p s = record {
  wordless = s;
  under_way = λ q. only_leavings n name w p s (w.link p q) (h.messages.links p q);
  vote = λ q. none_of ((w.member q).heard p).vote (λ x e. let bad : None ≡ Some x = sym s.vote ∙ sound_vote n name w h q p x e in absurd (cc));
  estimate = λ q. none_of ((w.member q).heard p).estimate (λ x e. let bad : None ≡ Some x = sym s.estimate ∙ sound_heard n name w h q p x e in absurd (cc));
}

-- no move of the members makes a stranger speak or leave
heard_strangers : (n : ℕ) (name : ℕ → ℕ) (a b : ℕ) (w : World) → Messages n name w → Strangers n name w → (xs : List Message) → w.link a b ≡ xs
    → Strangers n name (hears a b xs w)
heard_strangers n name a b w m h [] front = h
heard_strangers n name a b w m h (x ∷ rest) front = strangers_hear n name a b x rest w front m h

low_seat : (i n : ℕ) (t : Bool) → (nat_lt i n && t) ≡ true → i < n
low_seat i n t e = grind (arith, nat_tests)

strangers_move : (n : ℕ) (name : ℕ → ℕ) (w : World) (move : Move) → Messages n name w → Strangers n name w → Strangers n name (happens n name w move)
strangers_move n name w (Enter i vote) m h =
    cond_both {A = World} (enabled n name w (Enter i vote)) (enters (among n name) (name i) vote w) w (Strangers n name)
    (λ e.
    strangers_enter n name (among n name) (name i) vote w
    (among_seat n name i (low_seat i n (stays (w.member (name i)) && is_outside (w.member (name i)).phase) e)) h)
    (λ e. h)
strangers_move n name w (Act i) m h =
    cond_both {A = World} (enabled n name w (Act i)) (acts n name i w) w (Strangers n name)
    (λ e. strangers_act n name i w (low_seat i n (stays (w.member (name i))) e) h) (λ e. h)
strangers_move n name w (Hear i j) m h =
    cond_both {A = World} (enabled n name w (Hear i j)) (hears (name i) (name j) (w.link (name i) (name j)) w) w (Strangers n name)
    (λ e. heard_strangers n name (name i) (name j) w m h (w.link (name i) (name j)) refl) (λ e. h)
strangers_move n name w (Leave i) m h =
    cond_both {A = World} (enabled n name w (Leave i)) (leaves (among n name) (name i) w) w (Strangers n name)
    (λ e.
    strangers_leave n name (among n name) (name i) w
    (among_seat n name i (low_seat i n (stays (w.member (name i)) && may_leave (w.member (name i)).phase) e)) h)
    (λ e. h)
strangers_move n name w (Kill i) m h =
    cond_both {A = World} (enabled n name w (Kill i)) (kills (name i) w) w (Strangers n name) (λ e. strangers_kill n name (name i) w h) (λ e. h)
strangers_move n name w (Tell i j) m h =
    cond_both {A = World} (enabled n name w (Tell i j)) (tells (name i) (name j) w) w (Strangers n name)
    (λ e. strangers_tell n name (name i) (name j) w h) (λ e. h)

strangers_run : (n : ℕ) (name : ℕ → ℕ) (moves : List Move) (w : World) → Apart n name → Kept n name w → Strangers n name w
    → Strangers n name (run n name moves w)
strangers_run n name [] w apart k h = h
strangers_run n name (move ∷ moves) w apart k h =
    strangers_run n name moves (happens n name w move) apart (keeps n name w move apart k) (strangers_move n name w move k.sound.messages h)

pub strangers_only_leave : (n : ℕ) (name : ℕ → ℕ) (moves : List Move) → Apart n name → StrangersOnlyLeave n name (run n name moves start)
strangers_only_leave n name moves apart p to a =
    let w : World = run n name moves start in
    let k : Kept n name w = kept n name moves apart in
    let all : Strangers n name w = strangers_run n name moves start apart (kept n name [] apart) (strangers_blank n name start blank_start) in
    let s : Wordless w p = wordless_stranger n name w k.sound p (all.each p a) in
    let left : Sound n name (leaves to p w) = sound_leave n name to p w (ap may_leave s.phase) k.sound in
    (only_left n name w k.sound p s, only_left n name (leaves to p w) left p (wordless_leave to p w p s))
