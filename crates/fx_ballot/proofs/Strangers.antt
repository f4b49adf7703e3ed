-- A process that has no seat stays outside and says nothing.
use Rattle.std.proofs.Common.{◌≡◌, ℕ, ◌<◌, ◌≢◌, ◌==◌, zero, suc, Bool, true, false, cond, List, [], ◌∷◌, Some, None, inl, inr, arith, refl, subst, sym, ◌∙◌, ap}
use Rattle.std.proofs.lemmas.Bool.Decides.{nat_tests}
use Rattle.std.proofs.lemmas.Bool.{cases_eq}
use Rattle.fx_link.specs.declared.slot.Slot.{Slot}
use Rattle.fx_ballot.specs.Turn.{Outside, Message, Vote, Estimate, Leaving, Turn}
use Rattle.fx_ballot.specs.World.{World, put_link, among, enters, hears, leaves, kills, tells, acts, turn_of}
use Rattle.fx_ballot.specs.Laws.{estimate_of}
use Rattle.fx_ballot.proofs.Lists.{Each}
use Rattle.fx_ballot.proofs.Messages.{Said, Messages}
use Rattle.fx_ballot.proofs.Trails.{own_kept, gone_kept}
use Rattle.fx_ballot.proofs.Turns.{Sound, stepped}
use Rattle.fx_ballot.proofs.Face.{Blank}

pub record Stranger (w : World) (p : ℕ) : Type 0 where
  pub phase : (w.member p).phase ≡ Outside
  pub estimate : estimate_of w p ≡ None
  pub gone : (w.member p).gone ≡ false

pub record Strangers (n : ℕ) (name : ℕ → ℕ) (w : World) : Type 0 where
  pub each : (p : ℕ) → among n name p ≡ false → Stranger w p

pub among_seat : (n : ℕ) (name : ℕ → ℕ) (i : ℕ) → i < n → among n name (name i) ≡ true
among_seat zero name i l = absurd (omega arith)
among_seat (suc n) name i l =
    elim (cases_eq i n) [
      | inl same ↦ this (name i) (name n) (among n name (name i)) (ap name same)
      | inr ne ↦ that (name i == name n) (among n name (name i)) (among_seat n name i (omega (arith, ne)))
    ]
  where
    this : (a b : ℕ) (rest : Bool) → a ≡ b → cond (a == b) true rest ≡ true
    this a b rest e = grind (arith, nat_tests)

    that : (b rest : Bool) → rest ≡ true → cond b true rest ≡ true
    that true rest e = refl
    that false rest e = e

-- who has a seat is another process
pub another : (n : ℕ) (name : ℕ → ℕ) (p q : ℕ) → among n name p ≡ false → among n name q ≡ true → p ≢ q
another n name p q a b e = let bad : false ≡ true = sym a ∙ ap (among n name) e ∙ b in cc

pub strangers_blank : (n : ℕ) (name : ℕ → ℕ) (w : World) → Blank w → Strangers n name w
strangers_blank n name w h = record { each = λ p a. record { phase = h.phase p; estimate = h.estimate p p; gone = h.gone p } }

stays_strange : (w v : World) (p : ℕ) → (v.member p).phase ≡ (w.member p).phase → estimate_of v p ≡ estimate_of w p
    → (v.member p).gone ≡ (w.member p).gone → Stranger w p → Stranger v p
stays_strange w v p a b c h = record { phase = a ∙ h.phase; estimate = b ∙ h.estimate; gone = c ∙ h.gone }

pub strangers_kill : (n : ℕ) (name : ℕ → ℕ) (o : ℕ) (w : World) → Strangers n name w → Strangers n name (kills o w)
strangers_kill n name o w h =
    record { each = λ p a. stays_strange w (kills o w) p (grind (arith, nat_tests)) (grind (arith, nat_tests)) (grind (arith, nat_tests)) (h.each p a) }

pub strangers_tell : (n : ℕ) (name : ℕ → ℕ) (o q : ℕ) (w : World) → Strangers n name w → Strangers n name (tells o q w)
strangers_tell n name o q w h =
    record { each = λ p a. stays_strange w (tells o q w) p (grind (arith, nat_tests)) (grind (arith, nat_tests)) (grind (arith, nat_tests)) (h.each p a) }

pub heard_phase : (a b : ℕ) (x : Message) (rest : List Message) (w : World) (p : ℕ) → ((hears a b (x ∷ rest) w).member p).phase ≡ (w.member p).phase
heard_phase a b x rest w p = grind (arith, nat_tests)

pub strangers_hear : (n : ℕ) (name : ℕ → ℕ) (a b : ℕ) (x : Message) (rest : List Message) (w : World) → w.link a b ≡ x ∷ rest
    → Messages n name w → Strangers n name w → Strangers n name (hears a b (x ∷ rest) w)
strangers_hear n name a b x rest w front m h =
    let both : Each (Said n name w a) (x ∷ rest) = subst (Each (Said n name w a)) front (m.links a b) in
    let link : ℕ → ℕ → List Message = put_link w.link a b rest in
    record {
      each = λ p s.
          stays_strange w (hears a b (x ∷ rest) w) p (heard_phase a b x rest w p) (own_kept link n name a b p x w both.0).1 (gone_kept link a b p x w)
          (h.each p s);
    }

pub strangers_enter : (n : ℕ) (name : ℕ → ℕ) (to : ℕ → Bool) (o : ℕ) (vote : Slot) (w : World) → among n name o ≡ true
    → Strangers n name w → Strangers n name (enters to o vote w)
strangers_enter n name to o vote w seat h = record { each = λ p a. entered to o vote w p (another n name p o a seat) (h.each p a) }
  where
    entered : (to : ℕ → Bool) (o : ℕ) (vote : Slot) (w : World) (p : ℕ) → p ≢ o → Stranger w p → Stranger (enters to o vote w) p
    entered to o vote w p ne h =
        stays_strange w (enters to o vote w) p (grind (arith, nat_tests)) (grind (arith, nat_tests)) (grind (arith, nat_tests)) h

pub strangers_leave : (n : ℕ) (name : ℕ → ℕ) (to : ℕ → Bool) (o : ℕ) (w : World) → among n name o ≡ true
    → Strangers n name w → Strangers n name (leaves to o w)
strangers_leave n name to o w seat h = record { each = λ p a. left to o w p (another n name p o a seat) (h.each p a) }
  where
    left : (to : ℕ → Bool) (o : ℕ) (w : World) (p : ℕ) → p ≢ o → Stranger w p → Stranger (leaves to o w) p
    left to o w p ne h = stays_strange w (leaves to o w) p (grind (arith, nat_tests)) (grind (arith, nat_tests)) (grind (arith, nat_tests)) h

pub strangers_act : (n : ℕ) (name : ℕ → ℕ) (i : ℕ) (w : World) → i < n → Strangers n name w → Strangers n name (acts n name i w)
strangers_act n name i w low h =
    record { each = λ p a. acted n name i w (turn_of n name i (w.member (name i))) p (another n name p (name i) a (among_seat n name i low)) (h.each p a) }
  where
    acted : (n : ℕ) (name : ℕ → ℕ) (i : ℕ) (w : World) (t : Turn) (p : ℕ) → p ≢ name i → Stranger w p → Stranger (stepped n name i w t) p
    acted n name i w t p ne h =
        stays_strange w (stepped n name i w t) p (grind (arith, nat_tests)) (grind (arith, nat_tests)) (grind (arith, nat_tests)) h

-- nothing of a stranger is under way
pub stranger_silent : (n : ℕ) (name : ℕ → ℕ) (w : World) → Sound n name w → (p q : ℕ) → Stranger w p → among n name p ≡ false
    → (xs : List Message) → w.link p q ≡ xs → xs ≡ []
stranger_silent n name w h p q s a [] e = refl
stranger_silent n name w h p q s a (x ∷ rest) e = absurd (unsaid x (subst (Each (Said n name w p)) e (h.messages.links p q)).0)
  where
    unsaid : (y : Message) → Said n name w p y → ⊥
    unsaid (Vote slot) said = let bad : None ≡ Some slot = sym (h.messages.knows.outside p s.phase) ∙ said in cc
    unsaid (Estimate r slots) said = let bad : None ≡ Some slots = sym s.estimate ∙ said.0 in cc
    unsaid Leaving said = let bad : false ≡ true = sym s.gone ∙ said in cc
