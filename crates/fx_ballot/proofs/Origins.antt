-- Each slot of each list that is held has a true origin.
use Rattle.std.proofs.Common.{◌≡◌, ℕ, ◌<◌, ◌≢◌, ◌+◌, zero, suc, length, Bool, true, false, List, [], ◌∷◌, ◌++◌, Option, Some, None, ◌⊎◌, inl, inr, arith, refl, subst, sym, ◌∙◌, ap}
use Rattle.std.specs.Prelude.{slice_get}
use Rattle.std.proofs.lemmas.Bool.Decides.{nat_tests}
use Rattle.fx_link.specs.declared.slot.Slot.{Slot}
use Rattle.fx_link.specs.declared.slot.Slot.TheVariants.{Lost, Left}
use Rattle.fx_ballot.specs.declared.heard.Heard.{Heard}
use Rattle.fx_ballot.specs.Turn.{Outside, Phase, Voting, Message, slots_of, slot_of, with_slot}
use Rattle.fx_ballot.specs.World.{World, stays, may_leave, enters, leaves, kills, tells}
use Rattle.fx_ballot.specs.Laws.{vote_of, held, IsTrueSlot, TrueSlots}
use Rattle.std.proofs.lemmas.Bool.{cases_eq}
use Rattle.fx_ballot.proofs.Grows.{Grows, goes, says, heard_by, grows_kill, grows_tell, grows_leave, grows_enter, grows_hear}
use Rattle.fx_ballot.proofs.Messages.{Knows, Said, said_vote}
use Rattle.fx_ballot.proofs.Rounds.{Rounds, Still, still_hear, still_kill, still_tell, still_leave}

pub true_grows : (w v : World) → Grows w v → (p : ℕ) (slot : Slot) → IsTrueSlot w p slot → IsTrueSlot v p slot
true_grows w v g p slot (inl e) = inl (g.vote p slot e)
true_grows w v g p slot (inr (inl e)) = inr (inl (e.0, g.killed p e.1))
true_grows w v g p slot (inr (inr e)) = inr (inr (e.0, g.gone p e.1, g.outside p e.1 e.2))

pub record Genuine (n : ℕ) (name : ℕ → ℕ) (w : World) : Type 0 where
  pub lists : (p : ℕ) (slots : List Slot) → held (w.member p).phase ≡ Some slots → TrueSlots n name w slots
  pub parted : (p : ℕ) → (w.member p).gone ≡ true → may_leave (w.member p).phase ≡ true

pub slots_grow : (n : ℕ) (name : ℕ → ℕ) (w v : World) (slots : List Slot) → Grows w v → TrueSlots n name w slots → TrueSlots n name v slots
slots_grow n name w v slots g h = record { size = h.size; each = λ k slot e. true_grows w v g (name k) slot (h.each k slot e) }

-- a move after which every list that is held was held before
pub genuine_grows : (n : ℕ) (name : ℕ → ℕ) (w v : World) → Grows w v
    → ((p : ℕ) (slots : List Slot) → held (v.member p).phase ≡ Some slots → (q : ℕ) × (held (w.member q).phase ≡ Some slots))
    → ((p : ℕ) → (v.member p).gone ≡ true → may_leave (v.member p).phase ≡ true)
    → Genuine n name w → Genuine n name v
genuine_grows n name w v g old left h = record {
  lists = λ p slots e. let o : (q : ℕ) × (held (w.member q).phase ≡ Some slots) = old p slots e in slots_grow n name w v slots g (h.lists o.0 slots o.1);
  parted = left;
}

got_last : {X : Type 0} (xs : List X) (y : X) (k : ℕ) (x : X) → slice_get (xs ++ y ∷ []) k ≡ Some x → (slice_get xs k ≡ Some x) ⊎ ((k ≡ length xs) × (x ≡ y))
got_last [] y zero x e = let same : y ≡ x = cc in inr (refl, sym same)
got_last [] y (suc k) x e = absurd (cc)
got_last (z ∷ xs) y zero x e = inl e
got_last (z ∷ xs) y (suc k) x e =
    elim (got_last xs y k x e) [ inl h ↦ inl h | inr h ↦ inr (ap (λ (m : ℕ). suc m) h.0, h.1) ]

with_slot_both : (a : Option (List Slot)) (b : Option Slot) (slots : List Slot) → with_slot a b ≡ Some slots
    → (xs : List Slot) × (x : Slot) × (a ≡ Some xs) × (b ≡ Some x) × (slots ≡ xs ++ x ∷ [])
with_slot_both None b slots e = absurd (cc)
with_slot_both (Some xs) None slots e = absurd (cc)
with_slot_both (Some xs) (Some x) slots e = (xs, x, refl, refl, cc)

length_one : (xs : List Slot) (x : Slot) → length (xs ++ x ∷ []) ≡ length xs + 1
length_one [] x = refl
length_one (y ∷ xs) x = omega (arith, length_one xs x)

-- one that left, seen by a member that gathers votes, left without having entered
outside_left : (n : ℕ) (name : ℕ → ℕ) (w : World) (i k : ℕ) → i < n → stays (w.member (name i)) ≡ true → (w.member (name i)).phase ≡ Voting
    → Knows w → Rounds n name w → (w.member (name k)).gone ≡ true → may_leave (w.member (name k)).phase ≡ true → (w.member (name k)).phase ≡ Outside
outside_left n name w i k low here at kn ro gone may = grind (arith, nat_tests, at, may, ro.agree i (name k) low here)

pub slots_true : (name : ℕ → ℕ) (w : World) (seen : ℕ → Heard) (n : ℕ)
    → ((k : ℕ) (slot : Slot) → k < n → slot_of (seen k).vote (seen k).lost (seen k).left ≡ Some slot → IsTrueSlot w (name k) slot)
    → (slots : List Slot) → slots_of seen n ≡ Some slots → TrueSlots n name w slots
slots_true name w seen zero each slots e = let same : [] ≡ slots = cc in subst (TrueSlots 0 name w) same (record { size = refl; each = λ k slot x. absurd (cc) })
slots_true name w seen (suc n) each slots e =
    let b : (xs : List Slot) × (x : Slot) × (slots_of seen n ≡ Some xs) × (slot_of (seen n).vote (seen n).lost (seen n).left ≡ Some x) × (slots ≡ xs ++ x ∷ []) =
    with_slot_both (slots_of seen n) (slot_of (seen n).vote (seen n).lost (seen n).left) slots e in
    let front : TrueSlots n name w b.0 = slots_true name w seen n (λ k slot l s. each k slot (omega arith) s) b.0 b.2 in
    let size : length b.0 ≡ n = front.size in
    subst (TrueSlots (suc n) name w) (sym b.4)
    (record {
      size = omega (arith, length_one b.0 b.1, size);
      each = λ k slot x.
          elim (got_last b.0 b.1 k slot x) [
            | inl h ↦ front.each k slot h
            | inr h ↦
                let last : IsTrueSlot w (name n) b.1 = each n b.1 (omega arith) b.3 in
                let here : IsTrueSlot w (name n) slot = subst (IsTrueSlot w (name n)) (sym h.1) last in
                subst (λ (m : ℕ). IsTrueSlot w (name m) slot) (sym (h.0 ∙ size)) here
          ];
    })

pub genuine_still : (n : ℕ) (name : ℕ → ℕ) (w v : World) → Grows w v → Still w v → ((p : ℕ) → (v.member p).gone ≡ true → may_leave (v.member p).phase ≡ true)
    → Genuine n name w → Genuine n name v
genuine_still n name w v g t left h =
    genuine_grows n name w v g (λ p slots e. (p, subst (λ (x : Phase). held x ≡ Some slots) (t.phase p) e)) left h

pub genuine_kill : (n : ℕ) (name : ℕ → ℕ) (p : ℕ) (w : World) → Genuine n name w → Genuine n name (kills p w)
genuine_kill n name p w h =
    genuine_still n name w (kills p w) (grows_kill p w) (still_kill p w) (λ q e. grind (arith, nat_tests, h.parted q)) h

pub genuine_tell : (n : ℕ) (name : ℕ → ℕ) (p q : ℕ) (w : World) → Genuine n name w → Genuine n name (tells p q w)
genuine_tell n name p q w h =
    genuine_still n name w (tells p q w) (grows_tell p q w) (still_tell p q w) (λ o e. grind (arith, nat_tests, h.parted o)) h

pub genuine_leave : (n : ℕ) (name : ℕ → ℕ) (to : ℕ → Bool) (p : ℕ) (w : World)
    → may_leave (w.member p).phase ≡ true → Genuine n name w → Genuine n name (leaves to p w)
genuine_leave n name to p w may h =
    genuine_still n name w (leaves to p w) (grows_leave to p w) (still_leave to p w) (λ o e. grind (arith, nat_tests, h.parted o)) h

hear_parted : (link : ℕ → ℕ → List Message) (a b : ℕ) (x : Message) (w : World) (p : ℕ)
    → ((w.member p).gone ≡ true → may_leave (w.member p).phase ≡ true)
    → ((heard_by link a b x w).member p).gone ≡ true → may_leave ((heard_by link a b x w).member p).phase ≡ true
hear_parted link a b x w p h e = grind (arith, nat_tests)

pub genuine_hear : (link : ℕ → ℕ → List Message) (n : ℕ) (name : ℕ → ℕ) (a b : ℕ) (x : Message) (w : World)
    → Said n name w a x → Genuine n name w → Genuine n name (heard_by link a b x w)
genuine_hear link n name a b x w said h =
    genuine_still n name w (heard_by link a b x w) (grows_hear link a b x w (said_vote n name w a x said)) (still_hear link n name a b x w said)
    (λ p. hear_parted link a b x w p (h.parted p)) h

held_enters : (to : ℕ → Bool) (p q : ℕ) (vote : Slot) (w : World) (slots : List Slot)
    → held ((enters to p vote w).member q).phase ≡ Some slots → held (w.member q).phase ≡ Some slots
held_enters to p q vote w slots e = grind (arith, nat_tests)

pub genuine_enter : (n : ℕ) (name : ℕ → ℕ) (to : ℕ → Bool) (p : ℕ) (vote : Slot) (w : World)
    → vote_of w p ≡ None → (w.member p).gone ≡ false → Genuine n name w → Genuine n name (enters to p vote w)
genuine_enter n name to p vote w none here h =
    genuine_grows n name w (enters to p vote w) (grows_enter to p vote w none here)
    (λ q slots e. (q, held_enters to p q vote w slots e)) (λ q e. grind (arith, nat_tests, here, h.parted q)) h

-- process p changed to a phase whose list has true slots; all other phases are as they were
pub record Turned (p : ℕ) (phase : Phase) (w v : World) : Type 0 where
  pub here : (v.member p).phase ≡ phase
  pub other : (q : ℕ) → q ≢ p → (v.member q).phase ≡ (w.member q).phase
  pub gone : (q : ℕ) → (v.member q).gone ≡ (w.member q).gone

pub turned_go : (link : ℕ → ℕ → List Message) (p : ℕ) (phase : Phase) (w : World) → Turned p phase w (goes link p phase w)
turned_go link p phase w = record { here = grind (arith, nat_tests); other = λ q ne. grind (arith, nat_tests); gone = λ q. grind (arith, nat_tests) }

pub turned_say : (link : ℕ → ℕ → List Message) (p : ℕ) (phase : Phase) (slots : List Slot) (w : World)
    → Turned p phase w (says link p phase slots w)
turned_say link p phase slots w =
    record { here = grind (arith, nat_tests); other = λ q ne. grind (arith, nat_tests); gone = λ q. grind (arith, nat_tests) }

pub genuine_turn : (n : ℕ) (name : ℕ → ℕ) (p : ℕ) (phase : Phase) (w v : World) → Grows w v → Turned p phase w v → (w.member p).gone ≡ false
    → ((slots : List Slot) → held phase ≡ Some slots → TrueSlots n name w slots) → Genuine n name w → Genuine n name v
genuine_turn n name p phase w v g t stay new h = record {
  lists = λ q slots e.
      slots_grow n name w v slots g
      (elim (cases_eq q p) [
        | inl same ↦ new slots (subst (λ (x : Phase). held x ≡ Some slots) (ap (λ (o : ℕ). (v.member o).phase) same ∙ t.here) e)
        | inr ne ↦ h.lists q slots (subst (λ (x : Phase). held x ≡ Some slots) (t.other q ne) e)
      ]);
  parted = λ q e. grind (arith, nat_tests, stay, t.gone q, t.gone p, t.other q, h.parted q);
}

pub slot_true : (n : ℕ) (name : ℕ → ℕ) (w : World) (i k : ℕ) (slot : Slot) → i < n → stays (w.member (name i)) ≡ true → (w.member (name i)).phase ≡ Voting
    → Knows w → Rounds n name w → Genuine n name w
    → (vote : Option Slot) (lost left : Bool) → ((w.member (name i)).heard (name k)).vote ≡ vote
    → ((w.member (name i)).heard (name k)).lost ≡ lost → ((w.member (name i)).heard (name k)).left ≡ left
    → slot_of vote lost left ≡ Some slot → IsTrueSlot w (name k) slot
slot_true n name w i k slot low here at kn ro ge (Some v) lost left ev el ef e = inl (kn.votes (name i) (name k) slot (ev ∙ e))
slot_true n name w i k slot low here at kn ro ge None true left ev el ef e =
    let same : slot ≡ Lost = cc in inr (inl (same, kn.lost (name i) (name k) el))
slot_true n name w i k slot low here at kn ro ge None false true ev el ef e =
    let same : slot ≡ Left = cc in
    inr (inr (same, kn.left (name i) (name k) ef, outside_left n name w i k low here at kn ro (kn.left (name i) (name k) ef) (ge.parted (name k) (kn.left (name i) (name k) ef))))
slot_true n name w i k slot low here at kn ro ge None false false ev el ef e = absurd (cc)
