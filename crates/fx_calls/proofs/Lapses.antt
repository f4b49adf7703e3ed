-- Behind a repaired epoch from 1 on: one that had a place in it was killed before it could join the second epoch behind it, and never will.
use Rattle.std.proofs.Common.{◌≡◌, ◌≢◌, ◌⊎◌, ◌<◌, ℕ, zero, suc, Bool, true, false, List, [], ◌∷◌, ◌++◌, Option, Some, None, inl, inr, arith, refl, ap, sym, subst, ◌∙◌}
use Rattle.std.specs.Prelude.{if◌then◌else◌, is_some}
use Rattle.std.proofs.lemmas.Bool.{cases_eq}
use Rattle.fx_ballot.specs.World.{Member}
use Rattle.fx_check.specs.Parts.{KeepsByParts}
use Rattle.fx_comm.specs.Seats.{Seat, has_place}
use Rattle.fx_item.specs.declared.item.Item.{Item}
use Rattle.fx_item.specs.declared.item.Item.TheVariants as item
use Rattle.fx_link.specs.declared.slot.Slot.{Slot}
use Rattle.fx_script.specs.declared.job.Job.{Job}
use Rattle.fx_machine.specs.Nodes.{Node, Act}
use Rattle.fx_machine.specs.Setup.{Setup}
use Rattle.fx_machine.specs.Steps.{next, inits}
use Rattle.fx_machine.specs.Waits.{ByLoss, ByLeaving}
use Rattle.fx_deeds.specs.Deeds.{Deed, Repairs, Inits, GathersNoMore, ReturnsError}
use Rattle.fx_deeds.proofs.Every.{is_deed}
use Rattle.fx_fleet.specs.Rounds.{is_of_journal}
use Rattle.fx_fleet.specs.Runs.{job_setup}
use Rattle.fx_fleet.specs.World.{World, up, does}
use Rattle.fx_calm.proofs.Lists.{Each, written_more}
use Rattle.fx_calm.proofs.Standing.{noted}
use Rattle.fx_calm.proofs.Steps.{key_other}
use Rattle.fx_legal.specs.Effects.{written}
use Rattle.fx_legal.specs.Ledger.{Chapter, Ledger, first_ledger, comm_in}
use Rattle.fx_legal.specs.Legal.{written_all, ledger_of}
use Rattle.fx_legal.specs.Stands.{is_killed}
use Rattle.fx_losses.specs.Losses.{HasLoss, RepairsLoss, RepairLosses}
use Rattle.fx_losses.proofs.Shows.{up_parts}
use Rattle.fx_calls.specs.Bodies.{AsksNoGroups}
use Rattle.fx_calls.proofs.Causes.{Caused, place_begun}
use Rattle.fx_calls.proofs.Deeds.{deed_does}
use Rattle.fx_calls.proofs.Legally.{Legally, noted_more}
use Rattle.fx_calls.proofs.Owed.{Does, is_opening, inits_open}
use Rattle.fx_calls.proofs.Plans.{Grows, HavePlans, same_comm}

-- a process that had a place in the epoch was killed, and hasn't joined the second epoch behind it
pub record Lapse (l : Ledger) (d : ℕ) : Type 0 where
  pub who : ℕ
  pub place : has_place (comm_in l d) who ≡ true
  pub killed : is_killed (l.stands who) ≡ true
  pub never : l.joined (suc (suc d)) who ≡ None

-- there is one for each epoch from 1 on behind which another has begun
abbrev pub HaveLapses : Ledger → Type 0
HaveLapses l = (d : ℕ) → 0 < d → is_some (l.chapters (suc d)) ≡ true → Lapse l d

-- where each epoch that begins has its loss, nobody has joined it before it began, and the killed join no more
pub lapses_grow : (l m : Ledger) → Grows l m → ((x q : ℕ) (v : Slot) → l.joined (suc x) q ≡ Some v → is_some (l.chapters x) ≡ true)
    → ((x q : ℕ) → is_killed (m.stands q) ≡ true → m.joined (suc x) q ≡ l.joined (suc x) q)
    → ((d : ℕ) → 0 < d → is_some (m.chapters (suc d)) ≡ true → l.chapters (suc d) ≡ None → HasLoss l d) → HaveLapses l → HaveLapses m
lapses_grow l m g begun same loss have d pos some = of (l.chapters (suc d)) refl
  where
    -- a loss that the ledger had
    lapse : (h : HasLoss l d) → l.joined (suc (suc d)) h.0 ≡ None → Lapse m d
    lapse h none =
        let dead : is_killed (m.stands h.0) ≡ true = g.killed h.0 h.2 in
        record { who = h.0; place = ap (λ (seats : List Seat). has_place seats h.0) (same_comm l m g d (place_begun l d h.0 h.1)) ∙ h.1; killed = dead; never = same (suc d) h.0 dead ∙ none }

    unjoined : l.chapters (suc d) ≡ None → (q : ℕ) (o : Option Slot) → l.joined (suc (suc d)) q ≡ o → l.joined (suc (suc d)) q ≡ None
    unjoined none q None at = at
    unjoined none q (Some v) at = absurd (let bad : false ≡ true = sym (ap is_some none) ∙ begun (suc d) q v at in cc)

    of : (o : Option Chapter) → l.chapters (suc d) ≡ o → Lapse m d
    of (Some c) at = let k = have d pos (ap is_some at) in lapse (k.who, k.place, k.killed) k.never
    of None at = let h = loss d pos some at in lapse h (unjoined at h.0 (l.joined (suc (suc d)) h.0) refl)

-- ---- which epoch a step begins

chapters_none : (job : Job) (l : Ledger) (it : Item) → is_opening it ≡ true → (written job l it).chapters ≡ l.chapters
chapters_none job l (item.Callback p e name) is = refl
chapters_none job l (item.Init p e role id rank size warn) is = refl
chapters_none job l (item.Print p e name list) is = refl
chapters_none job l other is = absurd (let bad : false ≡ true = is in cc)

chapters_same : (job : Job) (l : Ledger) (items : List Item) → Each (λ it. is_opening it ≡ true) items → (written_all job l (noted items)).chapters ≡ l.chapters
chapters_same job l [] all = refl
chapters_same job l (it ∷ items) all = of (is_of_journal it) (λ m. chapters_same job m items all.1)
  where
    of : (b : Bool) → ((m : Ledger) → (written_all job m (noted items)).chapters ≡ m.chapters) → (written_all job l (if b then it ∷ noted items else noted items)).chapters ≡ l.chapters
    of true later = later (written job l it) ∙ chapters_none job l it all.0
    of false later = later l

-- none; or the next, which has its loss
abbrev BeginsSo : Ledger → Ledger → ℕ → Type 0
BeginsSo l m d = (m.chapters ≡ l.chapters) ⊎ (((e : ℕ) → e ≢ suc d → m.chapters e ≡ l.chapters e) × RepairsLoss l (suc d))

how_begun : (job : Job) (l : Ledger) (n : Node) (act : Act) → Deed (job_setup job) n act → RepairLosses job l (noted act.items) → BeginsSo l (written_all job l (noted act.items)) n.epoch
how_begun job l n act (Repairs phase slots at e goes) losses = inr (λ x ne. key_other (suc n.epoch) _ l.chapters x ne, losses.0)
how_begun job l n act (Inits at place) losses = inl (chapters_same job l (inits (job_setup job) n).items (inits_open (job_setup job) n))
how_begun job l n act (GathersNoMore v rest (ByLoss x) kind i some t) losses = inl refl
how_begun job l n act (GathersNoMore v rest (ByLeaving x) kind i some t) losses = inl refl
how_begun job l n act (ReturnsError v rest phase slots (ByLoss x) i decided t) losses = inl refl
how_begun job l n act (ReturnsError v rest phase slots (ByLeaving x) i decided t) losses = inl refl
how_begun job l n act other losses = inl refl

losses_behind : (job : Job) (l : Ledger) (xs ys : List Item) → RepairLosses job l (xs ++ ys) → RepairLosses job (written_all job l xs) ys
losses_behind job l [] ys all = all
losses_behind job l (x ∷ xs) ys all = losses_behind job (written job l x) xs ys all.1

-- ---- a step

module _ (job : Job) (rules : KeepsByParts job) (planned : HavePlans job) (asks : AsksNoGroups job) (ps : List ℕ) (p : ℕ) (w : World) (act : Act)
    (on : up (job_setup job) w p ≡ true) (e : next (job_setup job) (w.node p) ≡ Some act) (caused : Caused job ps w) (later : Caused job ps (does (job_setup job) p act w)) where
  abbrev s : Setup
  s = job_setup job

  abbrev d : ℕ
  d = (w.node p).epoch

  abbrev is : Legally job ps w
  is = caused.legally

  abbrev l : Ledger
  l = ledger_of job (noted w.items)

  abbrev m : Ledger
  m = written_all job l (noted act.items)

  o : Does job p act w is.worlds is.fate l is.polls
  o = deed_does job w is.worlds is.fate l is.polls p
      (record { rules = rules; planned = planned; asks = asks; here = on; shows = is.shows; truthful = is.truthful; linked = is.linked; stepped = is.stepped; spoken = is.spoken; polled = is.polled; delivered = is.delivered }) act (is_deed s (w.node p) act e)

  more : noted (does s p act w).items ≡ noted w.items ++ noted act.items
  more = noted_more p w.items act.items act.sends

  ledger_now : ledger_of job (noted (does s p act w).items) ≡ m
  ledger_now = ap (ledger_of job) more ∙ written_more job (first_ledger job) (noted w.items) (noted act.items)

  losses : RepairLosses job l (noted act.items)
  losses = losses_behind job (first_ledger job) (noted w.items) (noted act.items) (subst (RepairLosses job (first_ledger job)) more later.losses)

  -- nobody but p joins
  far_joined : (x q : ℕ) → q ≢ p → m.joined (suc x) q ≡ l.joined (suc x) q
  far_joined x q ne = elim (cases_eq x d) [
    | inl same ↦ subst (λ (y : ℕ). m.joined (suc y) q ≡ l.joined (suc y) q) (sym same)
        (o.links.joined_here q ∙ ap (λ (y : Member). (y.heard q).vote) (o.plays.steps.here.other q ne) ∙ sym (is.linked.joined d q))
    | inr far ↦ o.links.joined x q far
  ]

  dead_joined : (x q : ℕ) → is_killed (m.stands q) ≡ true → m.joined (suc x) q ≡ l.joined (suc x) q
  dead_joined x q dead = elim (cases_eq q p) [
    | inl same ↦ absurd (let bad : true ≡ false = sym dead ∙ ap (λ (y : Ledger). is_killed (y.stands q)) (sym ledger_now) ∙ later.legally.linked.killed q ∙ ap w.killed same ∙ (up_parts s w p on).1 in cc)
    | inr ne ↦ far_joined x q ne
  ]

  has_loss : (x : ℕ) → 0 < x → is_some (m.chapters (suc x)) ≡ true → l.chapters (suc x) ≡ None → HasLoss l x
  has_loss x pos some none = elim (how_begun job l (w.node p) act (is_deed s (w.node p) act e) losses) [
    | inl same ↦ absurd (let bad : true ≡ false = sym some ∙ ap (λ (f : ℕ → Option Chapter). is_some (f (suc x))) same ∙ ap is_some none in cc)
    | inr begins ↦ elim (cases_eq x d) [
      | inl here ↦ owed x pos (subst (λ (y : ℕ). RepairsLoss l (suc y)) (sym here) begins.1)
      | inr ne ↦ absurd (let bad : true ≡ false = sym some ∙ ap is_some (begins.0 (suc x) (λ i. ne (omega (arith, i)))) ∙ ap is_some none in cc)
    ]
  ]
    where
      owed : (y : ℕ) → 0 < y → RepairsLoss l (suc y) → HasLoss l y
      owed zero pos loss = absurd (omega (arith, pos))
      owed (suc y) pos loss = loss

  pub step_lapses : HaveLapses (ledger_of job (noted w.items)) → HaveLapses (ledger_of job (noted (does (job_setup job) p act w).items))
  step_lapses have = subst HaveLapses (sym ledger_now) (lapses_grow l m o.adds.grows caused.causes.begun dead_joined has_loss have)
