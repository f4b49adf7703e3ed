-- A member whose lists have one slot for each member keeps them so.
use Rattle.std.proofs.Common.{◌≡◌, ℕ, ◌<◌, ◌==◌, ◌+◌, zero, suc, length, replicate, Bool, true, false, cond, ◌||◌, List, [], ◌∷◌, ◌++◌, Option, Some, None, inl, inr, arith, refl, subst, sym, ◌∙◌, ap, length-set, get_or-set_other}
use Rattle.std.specs.Prelude.{nat_lt}
use Rattle.std.proofs.lemmas.Bool.{cond_both, cases_eq}
use Rattle.std.proofs.lemmas.Grind.{get_or-set_at}
use Rattle.std.proofs.lemmas.List.{length-replicate}
use Rattle.fx_link.specs.declared.slot.Slot.{Slot}
use Rattle.fx_ballot.specs.declared.heard.Heard.{Heard}
use Rattle.fx_ballot.specs.declared.poll.Poll.{Poll}
use Rattle.fx_ballot.specs.declared.poll.Poll.TheVariants as poll
use Rattle.fx_ballot.specs.Turn.{earliest, Phase, Outside, Voting, Round, Decided, Message, Vote, Estimate, Leaving, hear, learn_loss, unheard, slot_of, slots_of, with_slot, Turn, turn, form, speak, follow, decide}
use Rattle.fx_ballot.specs.Seats.{Seated, at_seat, with_seat, seated, hears_seat, told_seat, seat_turn, noting, polled, spent, WholeEstimate, WholePhase, WholePoll, Whole}

-- what is known of one seat changes, and its estimate is whole
pub whole_with : (b : Seated) (k : ℕ) (h : Heard) → k < b.members → WholeEstimate b.members h.estimate → Whole b → Whole (with_seat k h b)
whole_with b k h low e w = record {
  seats = length-set b.heard k h ∙ w.seats;
  phase = w.phase;
  heard = λ j.
      elim (cases_eq j k) [
        | inl same ↦
            subst (λ (x : Heard). WholeEstimate b.members x.estimate)
            (sym (get_or-set_at b.heard k j h unheard same (subst (λ (m : ℕ). k < m) (sym w.seats) low))) e
        | inr ne ↦ subst (λ (x : Heard). WholeEstimate b.members x.estimate) (sym (get_or-set_other b.heard k j h unheard ne)) (w.heard j)
      ];
}

whole_hear : (n : ℕ) (x : Message) (h : Heard) → ((r : ℕ) (slots : List Slot) → x ≡ Estimate r slots → length slots ≡ n)
    → WholeEstimate n h.estimate → WholeEstimate n (hear x h).estimate
whole_hear n (Vote slot) h f e = e
whole_hear n (Estimate r slots) h f e = first h.estimate e
  where
    first : (o : Option (List Slot)) → WholeEstimate n o → WholeEstimate n (earliest o slots)
    first None w = f r slots refl
    first (Some s) w = w
whole_hear n Leaving h f e = e

-- entering, hearing and being told
pub whole_seated : (members me : ℕ) (vote : Slot) → me < members → Whole (seated members me vote)
whole_seated members me vote low =
    whole_with (record { members = members; me = me; phase = Voting; heard = replicate members unheard; failed = false }) me
    (record unheard { vote = Some vote }) low tt
    (record { seats = length-replicate members unheard; phase = tt; heard = λ k. none members k })
  where
    none : (n k : ℕ) → WholeEstimate members (at_seat (replicate n unheard) k).estimate
    none zero k = tt
    none (suc n) zero = tt
    none (suc n) (suc k) = none n k

pub whole_hears : (b : Seated) (k : ℕ) (x : Message) → k < b.members → ((r : ℕ) (slots : List Slot) → x ≡ Estimate r slots → length slots ≡ b.members)
    → Whole b → Whole (hears_seat k x b)
whole_hears b k x low f w = whole_with b k (hear x (at_seat b.heard k)) low (whole_hear b.members x (at_seat b.heard k) f (w.heard k)) w

pub whole_told : (b : Seated) (k : ℕ) → k < b.members → Whole b → Whole (told_seat k b)
whole_told b k low w = whole_with b k (learn_loss (at_seat b.heard k)) low (w.heard k) w

pub whole_spent : (b : Seated) → Whole b → Whole (spent b)
whole_spent b w = record { seats = w.seats; phase = w.phase; heard = w.heard }

-- a turn leaves whole lists
record WholeTurn (n : ℕ) (t : Turn) : Type 0 where
  pub phase : WholePhase n t.phase
  pub poll : WholePoll n t.poll

slots_length : (seen : ℕ → Heard) (n : ℕ) (slots : List Slot) → slots_of seen n ≡ Some slots → length slots ≡ n
slots_length seen zero slots e = let same : [] ≡ slots = cc in ap (λ (xs : List Slot). length xs) (sym same)
slots_length seen (suc n) slots e = last (slots_of seen n) refl (slot_of (seen n).vote (seen n).lost (seen n).left) e (λ xs f. slots_length seen n xs f)
  where
    one_more : (xs : List Slot) (x : Slot) → length (xs ++ x ∷ []) ≡ length xs + 1
    one_more [] x = refl
    one_more (y ∷ xs) x = omega (arith, one_more xs x)

    last : (a : Option (List Slot)) → slots_of seen n ≡ a → (b : Option Slot) → with_slot a b ≡ Some slots
        → ((xs : List Slot) → slots_of seen n ≡ Some xs → length xs ≡ n) → length slots ≡ suc n
    last None ea b e before = absurd (cc)
    last (Some xs) ea None e before = absurd (cc)
    last (Some xs) ea (Some x) e before =
        let same : xs ++ x ∷ [] ≡ slots = cc in
        let front : length xs ≡ n = before xs ea in
        let long : length (xs ++ x ∷ []) ≡ suc n = omega (arith, one_more xs x, front) in
        subst (λ (ys : List Slot). length ys ≡ suc n) same long

whole_form : (seen : ℕ → Heard) (n : ℕ) (o : Option (List Slot)) → slots_of seen n ≡ o → WholeTurn n (form o)
whole_form seen n None e = record { phase = tt; poll = tt }
whole_form seen n (Some slots) e = record { phase = slots_length seen n slots e; poll = tt }

whole_follow : (n r : ℕ) (held : List Slot) (o : Option (List Slot)) (away : Bool) → length held ≡ n → WholeEstimate n o → WholeTurn n (follow r held o away)
whole_follow n r held (Some slots) away h e = record { phase = e; poll = tt }
whole_follow n r held None true h e = record { phase = h; poll = tt }
whole_follow n r held None false h e = record { phase = h; poll = tt }

whole_turn : (n i : ℕ) (seen : ℕ → Heard) (phase : Phase) → WholePhase n phase → ((k : ℕ) → WholeEstimate n (seen k).estimate)
    → WholeTurn n (turn n i seen phase)
whole_turn n i seen Outside w e = record { phase = tt; poll = tt }
whole_turn n i seen Voting w e = whole_form seen n (slots_of seen n) refl
whole_turn n i seen (Round r held) w e =
    cond_both {A = Turn} (nat_lt r n)
    (cond (r == i) (speak r held) (follow r held (seen r).estimate ((seen r).lost || (seen r).left))) (decide held) (WholeTurn n)
    (λ below.
    cond_both {A = Turn} (r == i) (speak r held) (follow r held (seen r).estimate ((seen r).lost || (seen r).left)) (WholeTurn n)
    (λ own. record { phase = w; poll = w })
    (λ other. whole_follow n r held (seen r).estimate ((seen r).lost || (seen r).left) w (e r)))
    (λ beyond. record { phase = w; poll = w })
whole_turn n i seen (Decided held) w e = record { phase = w; poll = w }

pub whole_answer : (b : Seated) → Whole b → WholePoll b.members (seat_turn b).poll
whole_answer b w = (whole_turn b.members b.me (at_seat b.heard) b.phase w.phase w.heard).poll

pub whole_polled : (b : Seated) → b.me < b.members → Whole b → Whole (polled b)
whole_polled b low w = noted (seat_turn b).phase (seat_turn b).poll (whole_turn b.members b.me (at_seat b.heard) b.phase w.phase w.heard)
  where
    noted : (phase : Phase) (answer : Poll) → WholeTurn b.members (record { phase = phase; poll = answer }) → Whole (noting answer (record b { phase = phase }))
    noted phase poll.NotYet t = record { seats = w.seats; phase = t.phase; heard = w.heard }
    noted phase poll.Moved t = record { seats = w.seats; phase = t.phase; heard = w.heard }
    noted phase (poll.SendEstimate slots) t =
        whole_with (record b { phase = phase }) b.me (record (at_seat b.heard b.me) { estimate = Some slots }) low t.poll
        (record { seats = w.seats; phase = t.phase; heard = w.heard })
    noted phase (poll.Decided slots) t = record { seats = w.seats; phase = t.phase; heard = w.heard }

-- the same for what a call leaves
pub whole_after_hearing : (old new : Seated) (k : ℕ) (x : Message) → new ≡ hears_seat k x old → k < old.members
    → ((r : ℕ) (slots : List Slot) → x ≡ Estimate r slots → length slots ≡ old.members) → Whole old → Whole new
whole_after_hearing old new k x e low f w = subst Whole (sym e) (whole_hears old k x low f w)

pub whole_after_telling : (old new : Seated) (k : ℕ) → new ≡ told_seat k old → k < old.members → Whole old → Whole new
whole_after_telling old new k e low w = subst Whole (sym e) (whole_told old k low w)

pub whole_after_turn : (old new : Seated) → new ≡ polled old → old.me < old.members → Whole old → Whole new
whole_after_turn old new e low w = subst Whole (sym e) (whole_polled old low w)

pub whole_after_entering : (new : Seated) (members me : ℕ) (vote : Slot) → new ≡ seated members me vote → me < members → Whole new
whole_after_entering new members me vote e low = subst Whole (sym e) (whole_seated members me vote low)

pub whole_given : (b : Seated) (answer : Poll) → answer ≡ (seat_turn b).poll → Whole b → WholePoll b.members answer
whole_given b answer e w = subst (WholePoll b.members) (sym e) (whole_answer b w)

pub no_estimate_vote : (n : ℕ) (vote : Slot) (r : ℕ) (slots : List Slot) → Vote vote ≡ Estimate r slots → length slots ≡ n
no_estimate_vote n vote r slots e = absurd (cc)

pub no_estimate_leaving : (n r : ℕ) (slots : List Slot) → Leaving ≡ Estimate r slots → length slots ≡ n
no_estimate_leaving n r slots e = absurd (cc)

pub that_estimate : (n round : ℕ) (given : List Slot) → length given ≡ n → (r : ℕ) (slots : List Slot) → Estimate round given ≡ Estimate r slots → length slots ≡ n
that_estimate n round given l r slots e = let same : given ≡ slots = cc in subst (λ (ys : List Slot). length ys ≡ n) same l
