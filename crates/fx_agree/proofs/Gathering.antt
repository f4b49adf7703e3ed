-- One unknown slot makes the whole unknown, and where the whole is known each slot is.
use Rattle.std.proofs.lemmas.List.{get_or_read}
use Rattle.fx_ballot.specs.Seats.{at_seat}
use Rattle.std.proofs.Common.{◌≡◌, sym, length, get_or, ℕ, ◌<◌, List, Option, Some, None, refl, ap, ◌∙◌}
use Rattle.std.specs.Prelude.{IsSome}
use Rattle.fx_ballot.proofs.Readings.{slots_none}
use Rattle.fx_link.specs.declared.slot.Slot.{Slot}
use Rattle.fx_ballot.specs.declared.heard.Heard.{Heard}
use Rattle.fx_ballot.specs.Turn.{unheard, slot_of, slots_of}

pub none_at : (heard : List Heard) (k : ℕ) (h : Heard) → k < length heard → h ≡ get_or heard k h → slot_of h.vote h.lost h.left ≡ None
    → slots_of (at_seat heard) (length heard) ≡ None
none_at heard k h l is e =
    let here : h ≡ at_seat heard k = get_or_read heard k h l is unheard in
    slots_none (at_seat heard) (length heard) k l (ap (λ (o : Heard). slot_of o.vote o.lost o.left) (sym here) ∙ e)

pub some_at : (heard : List Heard) (k : ℕ) (h : Heard) → k < length heard → h ≡ get_or heard k h → IsSome (slots_of (at_seat heard) (length heard))
    → IsSome (slot_of h.vote h.lost h.left)
some_at heard k h l is known = cases (slot_of h.vote h.lost h.left) refl
  where
    none : (o : Option (List Slot)) → IsSome o → o ≡ None → ⊥
    none None s e = absurd (cc)
    none (Some x) s e = absurd (cc)

    cases : (o : Option Slot) → slot_of h.vote h.lost h.left ≡ o → IsSome o
    cases None e = absurd (none (slots_of (at_seat heard) (length heard)) known (none_at heard k h l is e))
    cases (Some x) e = refl
