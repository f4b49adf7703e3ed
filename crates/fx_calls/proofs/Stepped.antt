-- All processes of an epoch walk in step: each node has what the plan has left behind as many calls as it made.
use Rattle.std.proofs.Common.{◌≡◌, ◌≢◌, ◌⊎◌, ℕ, ◌<◌, ◌≤◌, suc, Bool, true, false, List, [], ◌∷◌, map, length, Option, Some, None, inl, inr, refl, ap, sym, subst, ◌∙◌}
use Rattle.std.specs.Prelude.{ℤ, negsuc, replicate, if◌then◌else◌}
use Rattle.std.proofs.lemmas.Bool.{cases_eq}
use Rattle.fx_base.specs.declared.spot.Spot.{Spot}
use Rattle.fx_script.specs.declared.job.Decl.{Decl}
use Rattle.fx_script.specs.declared.job.Job.{Job}
use Rattle.fx_value.specs.Shape.{IsShaped, StaysShaped}
use Rattle.fx_value.proofs.Shapes.{shaped_length}
use Rattle.fx_walk.specs.declared.wanted.Wanted.{Wanted}
use Rattle.fx_walk.specs.declared.wanted.Wanted.TheVariants as wanted
use Rattle.fx_walk.specs.Callbacks.{no_latest}
use Rattle.fx_walk.specs.Plan.{Common, common_of, number_set, Plan, Stops, Meets, Keeps, AsksBy, GivesFrom}
use Rattle.fx_walk.specs.State.{State}
use Rattle.fx_walk.specs.Walk.{TextPlace, Walk, Asks, Reply, Given}
use Rattle.fx_machine.specs.Groups.{Group, newest_stamp}
use Rattle.fx_machine.specs.Nodes.{Node, Act, Stage, Core, Begins, Joining, Arrived, Walking, Calling, Failed, Over, Gathering, Balloting, latest}
use Rattle.fx_machine.specs.Numbers.{of_each_below}
use Rattle.fx_machine.specs.Setup.{Setup}
use Rattle.fx_machine.specs.Texts.{Text}
use Rattle.fx_fleet.specs.World.{World, does}
use Rattle.fx_legal.specs.Groups as tables
use Rattle.fx_legal.specs.Ledger.{Ledger, newest_or_none, latest_of, all_latest}
use Rattle.fx_legal.specs.Stands.{Stay}
use Rattle.fx_losses.proofs.Moves.{each_node}
use Rattle.fx_calls.specs.Bodies.{IsOfNoGroup, OnlyAsks}
use Rattle.fx_calls.proofs.Plans.{PlanAt, IsBehind, MeetsIt, IsOfLength, number_due, given_length, Grows, EntryAt, plan_grows, entry_grows}

-- what is left of a walk behind so many calls
pub record Keeping (job : Job) (l : Ledger) (n : Node) (k : ℕ) : Type 0 where
  pub plan : Plan
  pub at : PlanAt job l n.epoch k plan
  pub keeps : Keeps n.walk plan no_latest
  pub only : OnlyAsks IsOfNoGroup n.walk

-- parts are gathered, and an agreement is a ballot
abbrev pub CoreFits : Wanted → Core → Type 0
CoreFits (wanted.Agree flag) (Balloting phase) = Unit {0}
CoreFits wanted.Barrier Gathering = Unit {0}
CoreFits (wanted.Reduce op own) Gathering = Unit {0}
CoreFits (wanted.Shift by elements) Gathering = Unit {0}
CoreFits other core = ⊥

-- inside a call it does what its walk asks, and has entered it with that
pub record Inside (job : Job) (l : Ledger) (q : ℕ) (n : Node) (core : Core) : Type 0 where
  pub before : ℕ
  pub calls : n.calls ≡ suc before
  pub keeping : Keeping job l n before
  pub fits : (place : TextPlace) (asked : Wanted) (state : State) (rest : Reply → Walk) → n.walk ≡ Asks place asked state rest → CoreFits asked core
  pub entered : (place : TextPlace) (asked : Wanted) (state : State) (rest : Reply → Walk) → n.walk ≡ Asks place asked state rest → l.entered n.epoch n.calls q ≡ Some asked

abbrev pub AtPlan : Job → Ledger → ℕ → Node → Stage → Type 0
AtPlan job l q n Begins = Unit {0}
AtPlan job l q n (Joining phase) = Unit {0}
AtPlan job l q n Arrived = n.calls ≡ 0
AtPlan job l q n Walking = Keeping job l n n.calls
AtPlan job l q n (Calling core) = Inside job l q n core
AtPlan job l q n Failed = Unit {0}
AtPlan job l q n Over = Unit {0}

-- a node whose process lives: its walk stops in states of the declared shape, no group of it is created, and it entered no later
-- call than its own
pub record InStep (job : Job) (l : Ledger) (q : ℕ) (n : Node) : Type 0 where
  pub shaped : StaysShaped job.names n.walk
  pub uncreated : (g : ℕ) → (n.groups g).created ≡ false
  pub past : (e k : ℕ) (v : Wanted) → l.entered e k q ≡ Some v → (e < n.epoch) ⊎ ((e ≡ n.epoch) × (k ≤ n.calls))
  pub at : AtPlan job l q n n.stage

pub record Stepped (job : Job) (w : World) (l : Ledger) : Type 0 where
  pub entries : (e k q : ℕ) (v : Wanted) → l.entered e k q ≡ Some v → EntryAt job l e k v
  pub nodes : (q : ℕ) → w.killed q ≡ false → InStep job l q (w.node q)

-- ---- the ledger grows

pub keeping_grows : (job : Job) (l m : Ledger) → Grows l m → (n : Node) (k : ℕ) → Keeping job l n k → Keeping job m n k
keeping_grows job l m g n k h = record { plan = h.plan; at = plan_grows job l m g n.epoch k h.plan h.at; keeps = h.keeps; only = h.only }

plan_grows_at : (job : Job) (l m : Ledger) → Grows l m → (q : ℕ) (n : Node) (a : Stage) → AtPlan job l q n a → AtPlan job m q n a
plan_grows_at job l m g q n Begins h = tt
plan_grows_at job l m g q n (Joining phase) h = tt
plan_grows_at job l m g q n Arrived h = h
plan_grows_at job l m g q n Walking h = keeping_grows job l m g n n.calls h
plan_grows_at job l m g q n (Calling core) h = record {
  before = h.before;
  calls = h.calls;
  keeping = keeping_grows job l m g n h.before h.keeping;
  fits = h.fits;
  entered = λ place asked state rest e. g.entered n.epoch n.calls q asked (h.entered place asked state rest e);
}
plan_grows_at job l m g q n Failed h = tt
plan_grows_at job l m g q n Over h = tt

-- where the process itself entered nothing more
pub step_grows : (job : Job) (l m : Ledger) → Grows l m → (q : ℕ) → ((e k : ℕ) → m.entered e k q ≡ l.entered e k q) → (n : Node) → InStep job l q n → InStep job m q n
step_grows job l m g q same n h = record {
  shaped = h.shaped;
  uncreated = h.uncreated;
  past = λ e k v is. h.past e k v (sym (same e k) ∙ is);
  at = plan_grows_at job l m g q n n.stage h.at;
}

-- and it is in step as before
pub still_in_step : (job : Job) (l : Ledger) (q : ℕ) (n : Node) (texts : ℕ → List Text) (lost : ℕ → Bool) → InStep job l q n → InStep job l q (record n { texts = texts; lost = lost })
still_in_step job l q n texts lost is = record { shaped = is.shaped; uncreated = is.uncreated; past = is.past; at = of n.stage is.at }
  where
    of : (a : Stage) → AtPlan job l q n a → AtPlan job l q (record n { texts = texts; lost = lost }) a
    of Begins h = tt
    of (Joining phase) h = tt
    of Arrived h = h
    of Walking h = record { plan = h.plan; at = h.at; keeps = h.keeps; only = h.only }
    of (Calling core) h = record {
      before = h.before;
      calls = h.calls;
      keeping = record { plan = h.keeping.plan; at = h.keeping.at; keeps = h.keeping.keeps; only = h.keeping.only };
      fits = h.fits;
      entered = h.entered;
    }
    of Failed h = tt
    of Over h = tt

-- ---- a step

-- what a step of process p owes to what all processes entered
pub record Adds (job : Job) (p : ℕ) (n : Node) (l m : Ledger) : Type 0 where
  pub grows : Grows l m
  pub far : (e k q : ℕ) → q ≢ p → m.entered e k q ≡ l.entered e k q
  pub entries : (e k : ℕ) (v : Wanted) → m.entered e k p ≡ Some v → EntryAt job m e k v
  pub mine : InStep job m p n

pub stepped_step : (job : Job) (s : Setup) (p : ℕ) (act : Act) (w : World) (l m : Ledger) → Adds job p act.node l m → Stepped job w l → Stepped job (does s p act w) m
stepped_step job s p act w l m a h = record {
  entries = λ e k q v is. elim (cases_eq q p) [
    | inl same ↦ a.entries e k v (subst (λ (o : ℕ). m.entered e k o ≡ Some v) same is)
    | inr ne ↦ entry_grows job l m a.grows e k v (h.entries e k q v (sym (a.far e k q ne) ∙ is))
  ];
  nodes = λ q. each_node s p act w (λ o n. w.killed o ≡ false → InStep job m o n) (λ alive. a.mine) (λ o ne alive. step_grows job l m a.grows o (λ e k. a.far e k o ne) (w.node o) (h.nodes o alive)) q;
}

-- a step by which nothing is entered
pub adds_none : (job : Job) (p : ℕ) (n : Node) (l m : Ledger) → m.entered ≡ l.entered → Grows l m → ((e k : ℕ) (v : Wanted) → l.entered e k p ≡ Some v → EntryAt job l e k v)
    → InStep job l p n → Adds job p n l m
adds_none job p n l m same g entries mine = record {
  grows = g;
  far = λ e k q ne. ap (λ (f : ℕ → ℕ → ℕ → Option Wanted). f e k q) same;
  entries = λ e k v is. entry_grows job l m g e k v (entries e k v (sym (ap (λ (f : ℕ → ℕ → ℕ → Option Wanted). f e k p) same) ∙ is));
  mine = step_grows job l m g p (λ e k. ap (λ (f : ℕ → ℕ → ℕ → Option Wanted). f e k p) same) n mine;
}

-- ---- no stamps

pub node_latest : (n : Node) → ((g : ℕ) → (n.groups g).created ≡ false) → latest n ≡ no_latest
node_latest n none = ap (λ (f : ℕ → ℤ). of_each_below 8 f) (λ i g. one g i)
  where
    one : (g : ℕ) → newest_stamp (n.groups g) ≡ negsuc 0
    one g = none_of (n.groups g) (n.groups g).created (none g)
      where
        none_of : (x : Group) (b : Bool) → x.created ≡ false → newest_stamp x ≡ negsuc 0
        none_of x b e = rw e refl

pub ledger_latest : (groups : ℕ → tables.Group) (stay : Stay) → ((g : ℕ) → stay.has_created g ≡ false) → all_latest groups stay ≡ no_latest
ledger_latest groups stay none = all (0 ∷ 1 ∷ 2 ∷ 3 ∷ 4 ∷ 5 ∷ 6 ∷ 7 ∷ [])
  where
    all : (xs : List ℕ) → map (latest_of groups stay) xs ≡ replicate (length xs) (negsuc 0)
    all [] = refl
    all (x ∷ xs) = λ i. (if none x i then newest_or_none (groups x).stamps else negsuc 0) ∷ all xs i

-- ---- what a statement is to the plan

in_no_when : (v : Wanted) → IsOfNoGroup v → (b : Bool) (plan : Plan) (place : TextPlace) (state : State) (rest : Reply → Walk)
    → AsksBy b plan place.spot v state no_latest (λ left reply. Keeps (rest reply) left reply.latest) → AsksBy false plan place.spot v state no_latest (λ left reply. Keeps (rest reply) left reply.latest)
in_no_when v is false plan place state rest h = h
in_no_when wanted.Barrier is true plan place state rest h = absurd (let bad : false ≡ true = h.0 in cc)
in_no_when (wanted.Reduce op own) is true plan place state rest h = absurd (let bad : false ≡ true = h.0 in cc)
in_no_when (wanted.Shift by elements) is true plan place state rest h = absurd (let bad : false ≡ true = h.0 in cc)
in_no_when (wanted.Agree flag) is true plan place state rest h = absurd (let bad : false ≡ true = h.0 in cc)
in_no_when (wanted.Group g start depth) is true plan place state rest h = absurd is
in_no_when (wanted.Attach g m) is true plan place state rest h = absurd is
in_no_when (wanted.Store g m piece) is true plan place state rest h = absurd is
in_no_when (wanted.Commit g) is true plan place state rest h = absurd is
in_no_when (wanted.Close g) is true plan place state rest h = absurd is
in_no_when (wanted.Restore g m stamp) is true plan place state rest h = absurd is
in_no_when (wanted.Delete g stamp) is true plan place state rest h = absurd is

-- the plan meets what the walk asks
pub meets_next : (place : TextPlace) (v : Wanted) (state : State) (rest : Reply → Walk) (plan : Plan) → IsOfNoGroup v → Keeps (Asks place v state rest) plan no_latest → MeetsIt plan (common_of v)
meets_next place v state rest plan is keeps = of plan (in_no_when v is place.in_when plan place state rest keeps)
  where
    of : (plan : Plan) → AsksBy false plan place.spot v state no_latest (λ left reply. Keeps (rest reply) left reply.latest) → MeetsIt plan (common_of v)
    of (Stops counters) h = absurd h
    of (Meets at due source counters left) h = sym h.1

-- and a shift gives away as many elements as are declared
pub gives_next : (names : List Decl) (place : TextPlace) (v : Wanted) (state : State) (rest : Reply → Walk) (plan : Plan) → IsOfNoGroup v → IsShaped names state → Keeps (Asks place v state rest) plan no_latest
    → IsOfLength (given_length names plan) v
gives_next names place v state rest plan is shaped keeps = of plan (in_no_when v is place.in_when plan place state rest keeps)
  where
    long : (source : Option ℕ) (v : Wanted) (spot : Spot) (common : Common) (counters : List ℤ) (left : Option ℤ → List ℤ → Plan) → GivesFrom source v state → IsOfLength (given_length names (Meets spot common source counters left)) v
    long (Some slot) (wanted.Shift by elements) spot common counters left gives = ap (λ (xs : List ℤ). length xs) gives ∙ shaped_length names state slot shaped
    long None (wanted.Shift by elements) spot common counters left gives = absurd gives
    long source wanted.Barrier spot common counters left gives = tt
    long source (wanted.Reduce op own) spot common counters left gives = tt
    long source (wanted.Agree flag) spot common counters left gives = tt
    long source (wanted.Group g start depth) spot common counters left gives = tt
    long source (wanted.Attach g m) spot common counters left gives = tt
    long source (wanted.Store g m piece) spot common counters left gives = tt
    long source (wanted.Commit g) spot common counters left gives = tt
    long source (wanted.Close g) spot common counters left gives = tt
    long source (wanted.Restore g m stamp) spot common counters left gives = tt
    long source (wanted.Delete g stamp) spot common counters left gives = tt

    of : (plan : Plan) → AsksBy false plan place.spot v state no_latest (λ left reply. Keeps (rest reply) left reply.latest) → IsOfLength (given_length names plan) v
    of (Stops counters) h = absurd h
    of (Meets at due source counters left) h = long source v at due counters left h.3

-- and what is left of both behind what it gives
pub record Behind (rest : Reply → Walk) (given : Given) (plan : Plan) (numbers : List ℤ) : Type 0 where
  pub left : Plan
  pub behind : IsBehind plan numbers left
  pub keeps : Keeps (rest (record { given = given; latest = no_latest })) left no_latest

pub keeps_behind : (place : TextPlace) (v : Wanted) (state : State) (rest : Reply → Walk) (plan : Plan) (given : Given) (numbers : List ℤ) → IsOfNoGroup v → Keeps (Asks place v state rest) plan no_latest
    → number_set (common_of v) given ≡ number_due (common_of v) numbers → Behind rest given plan numbers
keeps_behind place v state rest plan given numbers is keeps set = of plan (in_no_when v is place.in_when plan place state rest keeps)
  where
    of : (plan : Plan) → AsksBy false plan place.spot v state no_latest (λ left reply. Keeps (rest reply) left reply.latest) → Behind rest given plan numbers
    of (Stops counters) h = absurd h
    of (Meets at due source counters left) h = record {
      left = left (number_set (common_of v) given) no_latest;
      behind = ap (λ (o : Option ℤ). left o no_latest) (set ∙ ap (λ (c : Common). number_due c numbers) h.1);
      keeps = h.4 (record { given = given; latest = no_latest });
    }
