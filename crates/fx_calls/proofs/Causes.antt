-- Each epoch has its loss, where the body asks nothing but barriers, reductions and agreements: whoever joins as an error does so behind a loss.
use Rattle.std.proofs.Common.{◌≡◌, ◌⊎◌, ◌<◌, ◌==◌, ℕ, suc, Bool, true, false, ◌||◌, List, [], ◌∷◌, ◌++◌, Option, Some, None, inl, inr, refl, ap, sym, subst, ◌∙◌}
use Rattle.std.specs.Prelude.{ℤ, is_some}
use Rattle.fx_check.specs.Parts.{KeepsByParts}
use Rattle.fx_comm.specs.Seats.{Seat, has_place}
use Rattle.fx_link.specs.declared.slot.Slot.{Slot}
use Rattle.fx_link.specs.declared.slot.Slot.TheVariants as slot
use Rattle.fx_script.specs.declared.job.Job.{Job}
use Rattle.fx_ballot.specs.Laws.{vote_of}
use Rattle.fx_walk.specs.declared.wanted.Wanted.{Wanted}
use Rattle.fx_walk.specs.declared.wanted.Wanted.TheVariants as wanted
use Rattle.fx_walk.specs.Plan.{Plan, Stops, Meets, StopsAs}
use Rattle.fx_walk.specs.State.{State}
use Rattle.fx_walk.specs.Walk.{Walk}
use Rattle.fx_machine.specs.Nodes.{Node, Act, Stage, Walking, Calling, Failed, has_ended}
use Rattle.fx_machine.specs.Setup.{Setup}
use Rattle.fx_machine.specs.Steps.{next}
use Rattle.fx_deeds.proofs.Every.{is_deed}
use Rattle.fx_fleet.specs.Runs.{job_setup}
use Rattle.fx_fleet.specs.World.{World, up, does}
use Rattle.fx_calm.proofs.Lists.{written_more, equal}
use Rattle.fx_calm.proofs.Standing.{noted}
use Rattle.fx_legal.specs.Calls.{AllAsked}
use Rattle.fx_legal.specs.Ledger.{Ledger, first_ledger, comm_in, comm_of, Chapter}
use Rattle.fx_legal.specs.Legal.{written_all, ledger_of}
use Rattle.fx_losses.specs.Losses.{HasLoss, RepairLosses}
use Rattle.fx_losses.proofs.Moves.{each_node}
use Rattle.fx_losses.proofs.Shows.{up_parts}
use Rattle.fx_losses.proofs.Voted.{losses_more}
use Rattle.fx_calls.specs.Bodies.{IsOfNoGroup, OnlyAsks, AsksNoGroups}
use Rattle.fx_calls.proofs.Deeds.{deed_does}
use Rattle.fx_calls.proofs.Legally.{Legally, noted_more, acts_legally, acts_polls, acts_said}
use Rattle.fx_calls.proofs.Hearings.{Polls, PollsGrow}
use Rattle.fx_calls.proofs.Owed.{Does}
use Rattle.fx_calls.proofs.Saying.{Said}
use Rattle.fx_calls.proofs.Plans.{PlanAt, HavePlans, Grows, plan_grows, same_comm, still_begun, some_of}

-- ---- causes

-- the plan of the epoch is at its end behind so many calls
pub record Finished (job : Job) (l : Ledger) (d : ℕ) : Type 0 where
  pub calls : ℕ
  pub counters : List ℤ
  pub at : PlanAt job l d calls (Stops counters)

-- why a process that has a place joined the next epoch
abbrev pub IsCaused : Job → Ledger → ℕ → Slot → Type 0
IsCaused job l d v = ((v ≡ slot.Final) × Finished job l d) ⊎ HasLoss l d

-- what is left of its walk asks nothing of data groups
abbrev pub AsksAt : Stage → Walk → Type 0
AsksAt Walking walk = OnlyAsks IsOfNoGroup walk
AsksAt (Calling core) walk = OnlyAsks IsOfNoGroup walk
AsksAt other walk = Unit {0}

-- who entered an agreement has voted there
abbrev pub HaveVoted : Ledger → Polls → Type 0
HaveVoted l polls = (e k q : ℕ) (flag : ℤ) → l.entered e k q ≡ Some (wanted.Agree flag) → is_some (vote_of (polls e k) q) ≡ true

pub record Causes (job : Job) (w : World) (l : Ledger) : Type 0 where
  pub begun : (d q : ℕ) (v : Slot) → l.joined (suc d) q ≡ Some v → is_some (l.chapters d) ≡ true
  pub kinds : (d q : ℕ) (v : Slot) → 0 < d → l.joined (suc d) q ≡ Some v → has_place (comm_in l d) q ≡ true → IsCaused job l d v
  pub failures : (q : ℕ) → w.killed q ≡ false → (w.node q).stage ≡ Failed → HasLoss l (w.node q).epoch
  pub asks : (q : ℕ) → w.killed q ≡ false → AsksAt (w.node q).stage (w.node q).walk

-- the world of a body that asks nothing of data groups
pub record Caused (job : Job) (ps : List ℕ) (w : World) : Type 0 where
  pub legally : Legally job ps w
  pub causes : Causes job w (ledger_of job (noted w.items))
  pub voted : HaveVoted (ledger_of job (noted w.items)) legally.polls
  pub losses : RepairLosses job (first_ledger job) (noted w.items)
  pub said : Said (job_setup job) w (ledger_of job (noted w.items)) legally.polls

-- an epoch of which somebody has a place has begun
pub place_begun : (l : Ledger) (e q : ℕ) → has_place (comm_in l e) q ≡ true → is_some (l.chapters e) ≡ true
place_begun l e q place = of (l.chapters e) refl
  where
    of : (o : Option Chapter) → l.chapters e ≡ o → is_some (l.chapters e) ≡ true
    of (Some c) is = ap is_some is
    of None is = absurd (let bad : false ≡ true = sym (ap (λ (o : Option Chapter). has_place (comm_of o) q) is) ∙ place in cc)

pub loss_grows : (l m : Ledger) → Grows l m → (e : ℕ) → HasLoss l e → HasLoss m e
loss_grows l m g e h = (h.0, ap (λ (seats : List Seat). has_place seats h.0) (same_comm l m g e (place_begun l e h.0 h.1)) ∙ h.1, g.killed h.0 h.2)

pub caused_grows : (job : Job) (l m : Ledger) → Grows l m → (d : ℕ) (v : Slot) → IsCaused job l d v → IsCaused job m d v
caused_grows job l m g d v (inl h) = inl (h.0, record { calls = h.1.calls; counters = h.1.counters; at = plan_grows job l m g d h.1.calls (Stops h.1.counters) h.1.at })
caused_grows job l m g d v (inr h) = inr (loss_grows l m g d h)

-- who has a place has entered a call that all have entered
pub asked_at : (entered : ℕ → Option Wanted) (seats : List Seat) (q : ℕ) → AllAsked entered seats → has_place seats q ≡ true → is_some (entered q) ≡ true
asked_at entered [] q all place = absurd (let bad : false ≡ true = place in cc)
asked_at entered (s ∷ seats) q all place = of (s.1.0 == q) refl place (λ i. asked_at entered seats q all.1 i)
  where
    of : (b : Bool) → (s.1.0 == q) ≡ b → (b || has_place seats q) ≡ true → (has_place seats q ≡ true → is_some (entered q) ≡ true) → is_some (entered q) ≡ true
    of true same i later = ap (λ (o : ℕ). is_some (entered o)) (sym (equal s.1.0 q same)) ∙ all.0
    of false far i later = later i

-- a walk at its end is at the end of the plan
pub finished_at : (job : Job) (l : Ledger) (d k : ℕ) (state : State) (u : Plan) → PlanAt job l d k u → StopsAs u state → Finished job l d
finished_at job l d k state (Stops counters) at stops = record { calls = k; counters = counters; at = at }
finished_at job l d k state (Meets spot common source counters rest) at stops = absurd stops

-- ---- a step

module _ (job : Job) (rules : KeepsByParts job) (planned : HavePlans job) (asks : AsksNoGroups job) (ps : List ℕ) (p : ℕ) (w : World) (act : Act)
    (on : up (job_setup job) w p ≡ true) (e : next (job_setup job) (w.node p) ≡ Some act) (caused : Caused job ps w) where
  abbrev s : Setup
  s = job_setup job

  abbrev n : Node
  n = w.node p

  abbrev d : ℕ
  d = n.epoch

  abbrev is : Legally job ps w
  is = caused.legally

  abbrev l : Ledger
  l = ledger_of job (noted w.items)

  abbrev m : Ledger
  m = written_all job l (noted act.items)

  abbrev causes : Causes job w l
  causes = caused.causes

  k : (p < s.procs) × (w.killed p ≡ false) × (has_ended n ≡ false)
  k = up_parts s w p on

  o : Does job p act w is.worlds is.fate l is.polls
  o = deed_does job w is.worlds is.fate l is.polls p
      (record { rules = rules; planned = planned; asks = asks; here = on; shows = is.shows; truthful = is.truthful; linked = is.linked; stepped = is.stepped; spoken = is.spoken; polled = is.polled; delivered = is.delivered }) act (is_deed s (w.node p) act e)

  more : noted (does s p act w).items ≡ noted w.items ++ noted act.items
  more = noted_more p w.items act.items act.sends

  ledger_now : ledger_of job (noted (does s p act w).items) ≡ m
  ledger_now = ap (ledger_of job) more ∙ written_more job (first_ledger job) (noted w.items) (noted act.items)

  -- who joined, and why
  abbrev JoinsSo : Type 0
  JoinsSo = (x q : ℕ) (v : Slot) → m.joined (suc x) q ≡ Some v → (l.joined (suc x) q ≡ Some v) ⊎ ((is_some (l.chapters x) ≡ true) × (0 < x → has_place (comm_in l x) q ≡ true → IsCaused job l x v))

  abbrev pub later : Legally job ps (does (job_setup job) p act w)
  later = acts_legally job rules planned asks ps p w act on e is

  -- who enters an agreement votes there
  abbrev VotesSo : Type 0
  VotesSo = (x j q : ℕ) (flag : ℤ) → m.entered x j q ≡ Some (wanted.Agree flag) → (l.entered x j q ≡ Some (wanted.Agree flag)) ⊎ (is_some (vote_of (later.polls x j) q) ≡ true)

  pub build : JoinsSo → VotesSo → (act.node.stage ≡ Failed → HasLoss l act.node.epoch) → AsksAt act.node.stage act.node.walk → RepairLosses job l (noted act.items) → Caused job ps (does (job_setup job) p act w)
  build joins votes failed asked losses = record {
    legally = acts_legally job rules planned asks ps p w act on e is;
    voted = subst (λ (x : Ledger). HaveVoted x later.polls) (sym ledger_now) (λ x j q flag at. elim (votes x j q flag at) [
      | inl old ↦ (let v = some_of (vote_of (is.polls x j) q) (caused.voted x j q flag old) in ap is_some (grown.vote x j q v.0 v.1))
      | inr now ↦ now
    ]);
    causes = subst (Causes job (does s p act w)) (sym ledger_now) (record {
      begun = λ x q v at. elim (joins x q v at) [ inl old ↦ still_begun l m g x (causes.begun x q v old) | inr new ↦ still_begun l m g x new.0 ];
      kinds = λ x q v pos at place. elim (joins x q v at) [
        | inl old ↦ caused_grows job l m g x v (causes.kinds x q v pos old (back x q (causes.begun x q v old) place))
        | inr new ↦ caused_grows job l m g x v (new.1 pos (back x q new.0 place))
      ];
      failures = λ q. each_node s p act w (λ y node. w.killed y ≡ false → node.stage ≡ Failed → HasLoss m node.epoch) (λ alive at. loss_grows l m g act.node.epoch (failed at))
          (λ y ne alive at. loss_grows l m g (w.node y).epoch (causes.failures y alive at)) q;
      asks = λ q. each_node s p act w (λ y node. w.killed y ≡ false → AsksAt node.stage node.walk) (λ alive. asked) (λ y ne alive. causes.asks y alive) q;
    });
    said = acts_said job rules planned asks ps p w act on e is caused.said;
    losses = subst (RepairLosses job (first_ledger job)) (sym more) (losses_more job (first_ledger job) (noted w.items) (noted act.items) caused.losses losses);
  }
    where
      g : Grows l m
      g = o.adds.grows

      grown : PollsGrow is.polls later.polls
      grown = acts_polls job rules planned asks ps p w act on e is

      back : (x q : ℕ) → is_some (l.chapters x) ≡ true → has_place (comm_in m x) q ≡ true → has_place (comm_in l x) q ≡ true
      back x q begun place = ap (λ (seats : List Seat). has_place seats q) (sym (same_comm l m g x begun)) ∙ place

  -- where nobody joins
  pub none_join : m.joined ≡ l.joined → JoinsSo
  none_join same x q v at = inl (sym (ap (λ (f : ℕ → ℕ → Option Slot). f (suc x) q) same) ∙ at)

  -- where nothing is entered
  pub none_enter : m.entered ≡ l.entered → VotesSo
  none_enter same x j q flag at = inl (sym (ap (λ (f : ℕ → ℕ → ℕ → Option Wanted). f x j q) same) ∙ at)
