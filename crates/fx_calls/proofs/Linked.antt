-- The ledger tells what the world shows.
use Rattle.std.proofs.Common.{◌≡◌, ℕ, ◌<◌, ◌≢◌, suc, true, false, List, length, Option, Some, None, inl, inr, refl, subst, sym, ◌∙◌, ap}
use Rattle.std.specs.Prelude.{not}
use Rattle.std.proofs.lemmas.Bool.{cases_eq}
use Rattle.fx_ballot.specs.Laws.{vote_of, held, TrueSlots}
use Rattle.fx_ballot.specs.Names.{seat_at, has}
use Rattle.fx_ballot.specs.Turn.{Outside, Decided}
use Rattle.fx_ballot.specs.World.{Member}
use Rattle.fx_ballot.specs.World as ballot
use Rattle.fx_ballot.proofs.Runs.{Kept}
use Rattle.fx_link.specs.declared.slot.Slot.{Slot}
use Rattle.fx_script.specs.declared.job.Job.{Job}
use Rattle.fx_machine.specs.Nodes.{Node, Act, has_ended}
use Rattle.fx_machine.specs.Setup.{Setup}
use Rattle.fx_fleet.specs.Runs.{job_setup}
use Rattle.fx_fleet.specs.World.{World, up, does}
use Rattle.fx_legal.specs.Ledger.{Ledger}
use Rattle.fx_legal.specs.Stands.{Stand, is_killed}
use Rattle.fx_losses.specs.Eras.{Era, first_era, era_of, next_era, era}
use Rattle.fx_losses.proofs.Eras.{next_none}
use Rattle.fx_losses.proofs.Moves.{at_one, one_here, one_far, each_node}
use Rattle.fx_losses.proofs.Shows.{phase_of, Shows, up_parts, now_at}
use Rattle.fx_losses.proofs.Standing.{Like, Liked, liked, unliked}
use Rattle.fx_calls.proofs.Standing.{AtStage, lives}
use Rattle.fx_losses.proofs.Votes.{Slotted, alive_slot}

pub record Linked (job : Job) (w : World) (z : ℕ → ballot.World) (fate : ℕ → Option (List Slot)) (l : Ledger) : Type 0 where
  pub killed : (p : ℕ) → is_killed (l.stands p) ≡ w.killed p
  pub joined : (d p : ℕ) → l.joined (suc d) p ≡ vote_of (z d) p
  pub eras : (d : ℕ) → Like l d (era (first_era (job_setup job)) fate d) (l.chapters d)
  pub stands : (p : ℕ) → w.killed p ≡ false → AtStage job (l.stands p) (w.node p)

-- one that lives and hasn't joined keeps the ballot open
pub unjoined : (s : Setup) (w : World) (z : ℕ → ballot.World) (fate : ℕ → Option (List Slot)) (q d : ℕ) (x : Era) → Shows s w z fate → era (first_era s) fate d ≡ Some x → has x.who q ≡ true
    → w.killed q ≡ false → ((z d).member q).phase ≡ Outside → fate d ≡ None
unjoined s w z fate q d x h e m k out = of (fate d) refl
  where
    kept : Kept (length x.who) (seat_at x.who) (z d)
    kept = (h.owes d).kept x e

    bad : (g : List Slot) → fate d ≡ Some g → ⊥
    bad g f =
        let b : (p : ℕ) × (((z d).member p).phase ≡ Decided g) = (h.owes d).by g f in
        let t : TrueSlots (length x.who) (seat_at x.who) (z d) g = kept.sound.genuine.lists b.0 g (ap held b.1) in
        let v : Slotted x.who g (z d) q = alive_slot x.who g (z d) q t m ((h.at d).living q ∙ ap not k) ((h.at d).gone q) in
        let no_vote : vote_of (z d) q ≡ None = kept.sound.messages.knows.outside q out in
        let wrong : None ≡ Some v.slot = sym no_vote ∙ v.vote in cc

    of : (o : Option (List Slot)) → fate d ≡ o → fate d ≡ None
    of None f = f
    of (Some g) f = absurd (bad g f)

-- one that is up, in no ballot of an epoch: the epoch of its node is the last one that the journal has
pub record Stance (l : Ledger) (n : Node) : Type 0 where
  pub chapter : Liked l n.epoch (era_of n) (l.chapters n.epoch)
  pub current : l.chapters (suc n.epoch) ≡ None

pub own_chapter : (job : Job) (w : World) (z : ℕ → ballot.World) (fate : ℕ → Option (List Slot)) (l : Ledger) (p : ℕ) → Shows (job_setup job) w z fate → Linked job w z fate l → w.killed p ≡ false
    → Liked l (w.node p).epoch (era_of (w.node p)) (l.chapters (w.node p).epoch)
own_chapter job w z fate l p h t k =
    liked l (w.node p).epoch (era_of (w.node p)) (era (first_era (job_setup job)) fate (w.node p).epoch) (l.chapters (w.node p).epoch) (t.eras (w.node p).epoch) (h.here p k)

pub stance : (job : Job) (w : World) (z : ℕ → ballot.World) (fate : ℕ → Option (List Slot)) (l : Ledger) (p : ℕ) → Shows (job_setup job) w z fate → Linked job w z fate l
    → up (job_setup job) w p ≡ true → phase_of (w.node p).stage ≡ Outside → Stance l (w.node p)
stance job w z fate l p h t here out = record {
  chapter = own_chapter job w z fate l p h t k.1;
  current = unliked l (suc (w.node p).epoch) (era (first_era (job_setup job)) fate (suc (w.node p).epoch)) (l.chapters (suc (w.node p).epoch)) (t.eras (suc (w.node p).epoch)) none;
}
  where
    k : (p < (job_setup job).procs) × (w.killed p ≡ false) × (has_ended (w.node p) ≡ false)
    k = up_parts (job_setup job) w p here

    outside : ((z (w.node p).epoch).member p).phase ≡ Outside
    outside = now_at (job_setup job) (w.node p).epoch w (z (w.node p).epoch) (h.at (w.node p).epoch) p here refl ∙ out

    none : era (first_era (job_setup job)) fate (suc (w.node p).epoch) ≡ None
    none = ap (λ (f : Option (List Slot)). next_era (w.node p).epoch (era (first_era (job_setup job)) fate (w.node p).epoch) f)
        (unjoined (job_setup job) w z fate p (w.node p).epoch (era_of (w.node p)) h (h.here p k.1) ((h.sane p k.1).mine k.0) k.1 outside)
        ∙ next_none (w.node p).epoch (era (first_era (job_setup job)) fate (w.node p).epoch)

-- a step of p, and what it makes of the ledger
pub record Links (job : Job) (p : ℕ) (act : Act) (w : World) (fate : ℕ → Option (List Slot)) (y : ballot.World) (l m : Ledger) : Type 0 where
  pub stands : (q : ℕ) → q ≢ p → m.stands q ≡ l.stands q
  pub mine : AtStage job (m.stands p) act.node
  pub joined_here : (q : ℕ) → m.joined (suc (w.node p).epoch) q ≡ vote_of y q
  pub joined : (d q : ℕ) → d ≢ (w.node p).epoch → m.joined (suc d) q ≡ l.joined (suc d) q
  pub eras : (d : ℕ) → Like m d (era (first_era (job_setup job)) fate d) (m.chapters d)

pub linked_step : (job : Job) (p : ℕ) (act : Act) (w : World) (z : ℕ → ballot.World) (old fate : ℕ → Option (List Slot)) (y : ballot.World) (l m : Ledger) → w.killed p ≡ false
    → Links job p act w fate y l m → Linked job w z old l → Linked job (does (job_setup job) p act w) (at_one (w.node p).epoch y z) fate m
linked_step job p act w z old fate y l m living k h = record {
  killed = λ q. elim (cases_eq q p) [
    | inl same ↦ subst (λ o. is_killed (m.stands o) ≡ w.killed o) (sym same) (lives job (m.stands p) act.node k.mine ∙ sym living)
    | inr ne ↦ ap is_killed (k.stands q ne) ∙ h.killed q
  ];
  joined = λ d q. elim (cases_eq d (w.node p).epoch) [
    | inl same ↦ subst (λ e. m.joined (suc e) q ≡ vote_of (at_one (w.node p).epoch y z e) q) (sym same) (k.joined_here q ∙ ap (λ (x : ballot.World). vote_of x q) (sym (one_here (w.node p).epoch y z)))
    | inr ne ↦ k.joined d q ne ∙ h.joined d q ∙ ap (λ (x : ballot.World). vote_of x q) (sym (one_far (w.node p).epoch d y z ne))
  ];
  eras = k.eras;
  stands = λ q. each_node (job_setup job) p act w (λ o n. w.killed o ≡ false → AtStage job (m.stands o) n) (λ e. k.mine) (λ o ne e. subst (λ x. AtStage job x (w.node o)) (sym (k.stands o ne)) (h.stands o e)) q;
}

-- events that change no ballot's votes and write nothing
pub linked_same : (job : Job) (w v : World) (z y : ℕ → ballot.World) (fate : ℕ → Option (List Slot)) (l : Ledger) → ((q : ℕ) → v.killed q ≡ w.killed q)
    → ((d q : ℕ) → vote_of (y d) q ≡ vote_of (z d) q) → ((q : ℕ) (x : Stand) → AtStage job x (w.node q) → AtStage job x (v.node q)) → Linked job w z fate l → Linked job v y fate l
linked_same job w v z y fate l k vo n h = record {
  killed = λ q. h.killed q ∙ sym (k q);
  joined = λ d q. h.joined d q ∙ sym (vo d q);
  eras = h.eras;
  stands = λ q e. n q (l.stands q) (h.stands q (sym (k q) ∙ e));
}
