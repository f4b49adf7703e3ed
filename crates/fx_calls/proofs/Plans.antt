-- What all ranks have left of their walks, epoch by epoch and call by call, by what was entered so far.
use Rattle.std.proofs.Common.{◌≡◌, ℕ, zero, suc, true, false, List, [], ◌∷◌, map, length, Option, Some, None, refl, ap, sym, subst, ◌∙◌}
use Rattle.std.specs.Prelude.{ℤ, is_some, get_or}
use Rattle.fx_check.specs.Facts.{facts_of}
use Rattle.fx_comm.specs.Seats.{Seat}
use Rattle.fx_script.specs.declared.job.Decl.{Decl}
use Rattle.fx_script.specs.declared.job.Job.{Job}
use Rattle.fx_link.specs.declared.slot.Slot.{Slot}
use Rattle.fx_walk.specs.declared.wanted.Wanted.{Wanted}
use Rattle.fx_walk.specs.declared.wanted.Wanted.TheVariants as wanted
use Rattle.fx_walk.specs.Callbacks.{no_latest}
use Rattle.fx_walk.specs.InStep.{job_walk, job_plan}
use Rattle.fx_walk.specs.declared.action.View.{View}
use Rattle.fx_walk.specs.Plan.{shared_of, Common, Reduce, Agree, common_of, Plan, Stops, Meets, Keeps}
use Rattle.fx_walk.specs.State.{State, zero_arrays, zero_counters}
use Rattle.fx_walk.specs.Values.{reduced}
use Rattle.fx_legal.specs.Calls.{AllAsked, own_number, common_bits}
use Rattle.fx_legal.specs.Ledger.{Chapter, Ledger, comm_in, comm_of}
use Rattle.fx_legal.specs.Stands.{is_killed}

-- ---- plans

abbrev pub first_plan : Job → ℕ → Plan
first_plan job size = job_plan job (record { size = size; latest = no_latest; counters = zero_counters (facts_of job).names })

-- the number that a call gives to all alike
abbrev pub number_due : Common → List ℤ → Option ℤ
number_due (Reduce op) numbers = Some (reduced op numbers)
number_due Agree numbers = Some (common_bits numbers)
number_due other numbers = None

abbrev pub IsBehind : Plan → List ℤ → Plan → Type 0
IsBehind (Stops counters) numbers u = ⊥
IsBehind (Meets spot common source counters rest) numbers u = u ≡ rest (number_due common numbers) no_latest

-- what the processes of these seats entered a call with
abbrev pub numbers_of : (ℕ → Option Wanted) → List Seat → List ℤ
numbers_of entered seats = map (λ s. own_number (entered s.1.0)) seats

-- what is left behind so many calls of an epoch, all of which all places have entered
abbrev pub PlanAt : Job → Ledger → (e k : ℕ) → Plan → Type 0
PlanAt job l e zero u = (is_some (l.chapters e) ≡ true) × (u ≡ first_plan job (length (comm_in l e)))
PlanAt job l e (suc k) u = (before : Plan) × PlanAt job l e k before × AllAsked (l.entered e (suc k)) (comm_in l e) × IsBehind before (numbers_of (l.entered e (suc k)) (comm_in l e)) u

-- the plan meets this statement next
abbrev pub MeetsIt : Plan → Common → Type 0
MeetsIt (Stops counters) c = ⊥
MeetsIt (Meets spot common source counters rest) c = common ≡ c

pub same_behind : (a b : Plan) → a ≡ b → (numbers : List ℤ) (u v : Plan) → IsBehind a numbers u → IsBehind b numbers v → u ≡ v
same_behind a b same numbers u v x y = of b (subst (λ (o : Plan). IsBehind o numbers u) same x) y
  where
    of : (b : Plan) → IsBehind b numbers u → IsBehind b numbers v → u ≡ v
    of (Stops counters) x y = absurd x
    of (Meets spot common source counters rest) x y = x ∙ sym y

pub plan_same : (job : Job) (l : Ledger) (e k : ℕ) (u v : Plan) → PlanAt job l e k u → PlanAt job l e k v → u ≡ v
plan_same job l e zero u v x y = x.1 ∙ sym y.1
plan_same job l e (suc k) u v x y = same_behind x.0 y.0 (plan_same job l e k x.0 y.0 x.1 y.1) (numbers_of (l.entered e (suc k)) (comm_in l e)) u v x.3 y.3

pub met_same : (a b : Plan) (c d : Common) → a ≡ b → MeetsIt a c → MeetsIt b d → c ≡ d
met_same a b c d same x y = of b (subst (λ (o : Plan). MeetsIt o c) same x) y
  where
    of : (b : Plan) → MeetsIt b c → MeetsIt b d → c ≡ d
    of (Stops counters) x y = absurd x
    of (Meets spot common source counters rest) x y = sym x ∙ y

pub has_begun : (job : Job) (l : Ledger) (e k : ℕ) (u : Plan) → PlanAt job l e k u → is_some (l.chapters e) ≡ true
has_begun job l e zero u x = x.0
has_begun job l e (suc k) u x = has_begun job l e k x.0 x.1

-- ---- the ledger grows

-- what was told stays told
pub record Grows (l m : Ledger) : Type 0 where
  pub chapters : (e : ℕ) (c : Chapter) → l.chapters e ≡ Some c → m.chapters e ≡ Some c
  pub entered : (e k q : ℕ) (v : Wanted) → l.entered e k q ≡ Some v → m.entered e k q ≡ Some v
  pub joined : (e q : ℕ) (v : Slot) → l.joined e q ≡ Some v → m.joined e q ≡ Some v
  pub killed : (q : ℕ) → is_killed (l.stands q) ≡ true → is_killed (m.stands q) ≡ true

pub grows_none : (l : Ledger) → Grows l l
grows_none l = record { chapters = λ e c is. is; entered = λ e k q v is. is; joined = λ e q v is. is; killed = λ q is. is }

pub some_of : {X : Type 0} (o : Option X) → is_some o ≡ true → (x : X) × (o ≡ Some x)
some_of None e = absurd (let bad : false ≡ true = e in cc)
some_of (Some x) e = (x, refl)

pub same_comm : (l m : Ledger) → Grows l m → (e : ℕ) → is_some (l.chapters e) ≡ true → comm_in m e ≡ comm_in l e
same_comm l m g e begun = let c = some_of (l.chapters e) begun in ap comm_of (g.chapters e c.0 c.1) ∙ sym (ap comm_of c.1)

pub still_begun : (l m : Ledger) → Grows l m → (e : ℕ) → is_some (l.chapters e) ≡ true → is_some (m.chapters e) ≡ true
still_begun l m g e begun = let c = some_of (l.chapters e) begun in ap is_some (g.chapters e c.0 c.1)

pub all_still : (a b : ℕ → Option Wanted) → ((q : ℕ) (v : Wanted) → a q ≡ Some v → b q ≡ Some v) → (seats : List Seat) → AllAsked a seats → AllAsked b seats
all_still a b g [] all = tt
all_still a b g (s ∷ seats) all = let v = some_of (a s.1.0) all.0 in (ap is_some (g s.1.0 v.0 v.1), all_still a b g seats all.1)

pub numbers_stay : (a b : ℕ → Option Wanted) → ((q : ℕ) (v : Wanted) → a q ≡ Some v → b q ≡ Some v) → (seats : List Seat) → AllAsked a seats → numbers_of b seats ≡ numbers_of a seats
numbers_stay a b g [] all = refl
numbers_stay a b g (s ∷ seats) all =
    let v = some_of (a s.1.0) all.0 in
    let same : own_number (b s.1.0) ≡ own_number (a s.1.0) = ap own_number (g s.1.0 v.0 v.1) ∙ sym (ap own_number v.1) in
    λ i. same i ∷ numbers_stay a b g seats all.1 i

pub plan_grows : (job : Job) (l m : Ledger) → Grows l m → (e k : ℕ) (u : Plan) → PlanAt job l e k u → PlanAt job m e k u
plan_grows job l m g e zero u x = (still_begun l m g e x.0, x.1 ∙ ap (λ (seats : List Seat). first_plan job (length seats)) (sym (same_comm l m g e x.0)))
plan_grows job l m g e (suc k) u x =
    let begun : is_some (l.chapters e) ≡ true = has_begun job l e k x.0 x.1 in
    let comm : comm_in m e ≡ comm_in l e = same_comm l m g e begun in
    let all : AllAsked (m.entered e (suc k)) (comm_in l e) = all_still (l.entered e (suc k)) (m.entered e (suc k)) (g.entered e (suc k)) (comm_in l e) x.2 in (
      x.0,
      plan_grows job l m g e k x.0 x.1,
      subst (AllAsked (m.entered e (suc k))) (sym comm) all,
      subst (λ (seats : List Seat). IsBehind x.0 (numbers_of (m.entered e (suc k)) seats) u) (sym comm)
          (subst (λ (numbers : List ℤ). IsBehind x.0 numbers u) (sym (numbers_stay (l.entered e (suc k)) (m.entered e (suc k)) (g.entered e (suc k)) (comm_in l e) x.2)) x.3),
    )

-- ---- entries

-- how long the array is declared that the plan gives away next
abbrev pub given_length : List Decl → Plan → ℕ
given_length names (Meets spot common (Some slot) counters rest) = length (get_or (zero_arrays names) slot [])
given_length names other = 0

-- a shift gives away so many elements
abbrev pub IsOfLength : ℕ → Wanted → Type 0
IsOfLength len (wanted.Shift by elements) = length elements ≡ len
IsOfLength len other = Unit {0}

-- behind so many calls of an epoch the plan meets what was entered
pub record IsEntry (job : Job) (l : Ledger) (e k : ℕ) (v : Wanted) : Type 0 where
  pub before : Plan
  pub at : PlanAt job l e k before
  pub meets : MeetsIt before (common_of v)
  pub long : IsOfLength (given_length job.names before) v

abbrev pub EntryAt : Job → Ledger → (e k : ℕ) → Wanted → Type 0
EntryAt job l e zero v = ⊥
EntryAt job l e (suc k) v = IsEntry job l e k v

pub entry_grows : (job : Job) (l m : Ledger) → Grows l m → (e k : ℕ) (v : Wanted) → EntryAt job l e k v → EntryAt job m e k v
entry_grows job l m g e zero v x = x
entry_grows job l m g e (suc k) v x = record { before = x.before; at = plan_grows job l m g e k x.before x.at; meets = x.meets; long = x.long }

-- two that entered a call entered it alike
pub entered_alike : (job : Job) (l : Ledger) (e k : ℕ) (v w : Wanted) → EntryAt job l e k v → EntryAt job l e k w → common_of v ≡ common_of w
entered_alike job l e zero v w x y = absurd x
entered_alike job l e (suc k) v w x y = met_same x.before y.before (common_of v) (common_of w) (plan_same job l e k x.before y.before x.at y.at) x.meets y.meets

-- two shifts give away as many elements
abbrev pub AsLong : Wanted → Wanted → Type 0
AsLong (wanted.Shift by own) (wanted.Shift other theirs) = length theirs ≡ length own
AsLong v u = Unit {0}

-- two that entered a call do
pub entered_as_long : (job : Job) (l : Ledger) (e k : ℕ) (v u : Wanted) → EntryAt job l e k v → EntryAt job l e k u → AsLong v u
entered_as_long job l e zero v u x y = absurd x
entered_as_long job l e (suc k) (wanted.Shift by own) (wanted.Shift other theirs) x y =
    y.long ∙ ap (λ (u : Plan). given_length job.names u) (plan_same job l e k y.before x.before y.at x.at) ∙ sym x.long
entered_as_long job l e (suc k) v u x y = tt

-- the walk of the body keeps to the plan of what all ranks see alike
abbrev pub HavePlans : Job → Type 0
HavePlans job = (view : View) (state : State) → Keeps (job_walk job view state) (job_plan job (shared_of view state)) view.latest
