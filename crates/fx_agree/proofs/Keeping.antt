-- Each call leaves a ballot as every ballot is.
use Rattle.std.proofs.Common.{◌≡◌, ℕ, ◌<◌, ◌≤◌, ◌∙◌, List, length, replicate, Some, sym, subst, length-set}
use Rattle.std.proofs.lemmas.List.{length-replicate}
use Rattle.fx_link.specs.declared.slot.Slot.{Slot}
use Rattle.fx_ballot.specs.declared.heard.Heard.{Heard}
use Rattle.fx_ballot.specs.declared.poll.Poll.{Poll}
use Rattle.fx_ballot.specs.declared.poll.Poll.TheVariants as poll
use Rattle.fx_ballot.specs.Turn.{Message, Estimate, hear, learn_loss, unheard}
use Rattle.fx_ballot.specs.Seats.{Seated, at_seat, with_seat, seated, hears_seat, told_seat, spent, seat_turn, noting, polled, WholeEstimate, Whole}
use Rattle.fx_ballot.proofs.Wholes.{whole_with, whole_seated, whole_hears, whole_polled, whole_spent}
use Rattle.fx_agree.specs.Stages.{IsKept}

pub kept_seat : (b : Seated) (k : ℕ) (h : Heard) → k < b.members → WholeEstimate b.members h.estimate → IsKept b → IsKept (with_seat k h b)
kept_seat b k h low e kept = (length-set b.heard k h ∙ kept.0, kept.1, kept.2, whole_with b k h low e kept.3)

pub kept_spent : (b : Seated) → IsKept b → IsKept (spent b)
kept_spent b k = (k.0, k.1, k.2, whole_spent b k.3)

pub kept_failing : (old new : Seated) → new ≡ spent old → IsKept old → IsKept new
kept_failing old new e k = subst IsKept (sym e) (kept_spent old k)

pub kept_entering : (new : Seated) (members me : ℕ) (vote : Slot) → new ≡ seated members me vote → me < members → members ≤ 32 → IsKept new
kept_entering new members me vote e low few =
    subst IsKept (sym e)
    (length-set (replicate members unheard) me (record unheard { vote = Some vote }) ∙ length-replicate members unheard, low, few, whole_seated members me vote low)

pub kept_hearing : (old new : Seated) (k : ℕ) (x : Message) → new ≡ hears_seat k x old → k < old.members
    → ((r : ℕ) (slots : List Slot) → x ≡ Estimate r slots → length slots ≡ old.members) → IsKept old → IsKept new
kept_hearing old new k x e low fits kept = subst IsKept (sym e) (heard old k x low fits kept)
  where
    heard : (b : Seated) (k : ℕ) (x : Message) → k < b.members → ((r : ℕ) (slots : List Slot) → x ≡ Estimate r slots → length slots ≡ b.members)
        → IsKept b → IsKept (hears_seat k x b)
    heard b k x low fits kept = (length-set b.heard k (hear x (at_seat b.heard k)) ∙ kept.0, kept.1, kept.2, whole_hears b k x low fits kept.3)

pub kept_telling : (old new : Seated) (k : ℕ) → new ≡ told_seat k old → k < old.members → IsKept old → IsKept new
kept_telling old new k e low kept = subst IsKept (sym e) (kept_seat old k (learn_loss (at_seat old.heard k)) low (kept.3.heard k) kept)

pub kept_turned : (old new : Seated) → new ≡ polled old → IsKept old → IsKept new
kept_turned old new e k =
    let w : Whole (polled old) = whole_polled old k.1 k.3 in
    let turned : Seated = record old { phase = (seat_turn old).phase } in
    subst IsKept (sym e) (w.seats, mine (seat_turn old).poll turned k.1, few (seat_turn old).poll turned k.2, w)
  where
    mine : (answer : Poll) (b : Seated) → b.me < b.members → (noting answer b).me < (noting answer b).members
    mine poll.NotYet b l = l
    mine poll.Moved b l = l
    mine (poll.SendEstimate slots) b l = l
    mine (poll.Decided slots) b l = l

    few : (answer : Poll) (b : Seated) → b.members ≤ 32 → (noting answer b).members ≤ 32
    few poll.NotYet b l = l
    few poll.Moved b l = l
    few (poll.SendEstimate slots) b l = l
    few (poll.Decided slots) b l = l
