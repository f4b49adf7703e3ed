-- What decided slots tell of votes.
use Rattle.std.proofs.Common.{◌≡◌, ℕ, true, false, List, length, Some, inl, inr, subst, sym, ◌∙◌, ap}
use Rattle.std.specs.Prelude.{slice_get}
use Rattle.fx_ballot.specs.Laws.{vote_of, IsTrueSlot, TrueSlots}
use Rattle.fx_ballot.specs.Names.{seat_at, seat_of, has, Distinct}
use Rattle.fx_ballot.specs.World as ballot
use Rattle.fx_ballot.proofs.Names.{seat_found}
use Rattle.fx_link.specs.declared.slot.Slot.{Slot}
use Rattle.fx_machine.specs.Ballots.{voters}
use Rattle.fx_machine.specs.Reading.{is_join}
use Rattle.fx_losses.proofs.Eras.{slot_at, voter_by, voter_slot, voters_among}

pub record Slotted (who : List ℕ) (slots : List Slot) (z : ballot.World) (q : ℕ) : Type 0 where
  pub slot : Slot
  pub at : slice_get slots (seat_of who q) ≡ Some slot
  pub vote : vote_of z q ≡ Some slot

-- the slot of one that lives is its vote
pub alive_slot : (who : List ℕ) (slots : List Slot) (z : ballot.World) (q : ℕ) → TrueSlots (length who) (seat_at who) z slots → has who q ≡ true
    → (z.member q).living ≡ true → (z.member q).gone ≡ false → Slotted who slots z q
alive_slot who slots z q t h live stay =
    let a : (s : Slot) × (slice_get slots (seat_of who q) ≡ Some s) = slot_at who slots q h t.size in
    record { slot = a.0; at = a.1; vote = of a.0 (subst (λ o. IsTrueSlot z o a.0) (seat_found who q h).1 (t.each (seat_of who q) a.0 a.1)) }
  where
    of : (s : Slot) → IsTrueSlot z q s → vote_of z q ≡ Some s
    of s (inl v) = v
    of s (inr (inl v)) = absurd (let bad : true ≡ false = sym live ∙ v.1 in cc)
    of s (inr (inr v)) = absurd (let bad : false ≡ true = sym stay ∙ v.1 in cc)

pub alive_voter : (e : ℕ) (who : List ℕ) (slots : List Slot) (z : ballot.World) (q : ℕ) → TrueSlots (length who) (seat_at who) z slots → has who q ≡ true
    → (z.member q).living ≡ true → (z.member q).gone ≡ false → ((v : Slot) → vote_of z q ≡ Some v → is_join e v ≡ true) → has (voters (is_join e) who slots) q ≡ true
alive_voter e who slots z q t h live stay votes =
    let a : Slotted who slots z q = alive_slot who slots z q t h live stay in
    voter_by (is_join e) who slots q a.slot h a.at (votes a.slot a.vote)

-- who is a voter has voted
pub voter_voted : (e : ℕ) (who : List ℕ) (slots : List Slot) (z : ballot.World) (q : ℕ) → Distinct who → TrueSlots (length who) (seat_at who) z slots
    → has (voters (is_join e) who slots) q ≡ true → Slotted who slots z q
voter_voted e who slots z q d t h =
    let a : (s : Slot) × (slice_get slots (seat_of who q) ≡ Some s) × (is_join e s ≡ true) = voter_slot (is_join e) who slots q d h in
    record { slot = a.0; at = a.1; vote = of a.0 a.2 (subst (λ o. IsTrueSlot z o a.0) (seat_found who q (voters_among (is_join e) who slots q h)).1 (t.each (seat_of who q) a.0 a.1)) }
  where
    of : (s : Slot) → is_join e s ≡ true → IsTrueSlot z q s → vote_of z q ≡ Some s
    of s i (inl v) = v
    of s i (inr (inl v)) = absurd (let bad : true ≡ false = sym i ∙ ap (is_join e) v.0 in cc)
    of s i (inr (inr v)) = absurd (let bad : true ≡ false = sym i ∙ ap (is_join e) v.0 in cc)
