-- A body begins: its place, its view, its walk and what is written of that.
use Rattle.std.proofs.lemmas.List.{append-nil}
use Rattle.std.proofs.Common.{arith, append_assoc, subst, ◌≡◌, ◌≤◌, ◌++◌, ◌∷◌, ◌==◌, [], ℕ, zero, suc, ◌+◌, Bool, inl, inr, ◌⊎◌, List, length, slice_get, refl, ap, sym, ◌∙◌, add-one}
use Rattle.std.specs.Prelude.{nat_lt, slice_index_or, is_some}
use Rattle.std.specs.List.{flat_map}
use Rattle.std.specs.Option.{option_map}
use Rattle.std.specs.declared.option.Option.{Option}
use Rattle.std.specs.declared.option.Option.TheVariants.{None, Some}
use Rattle.fx_ballot.specs.Names.{seat_of}
use Rattle.fx_base.specs.declared.names.Ident.{Ident}
use Rattle.fx_base.specs.declared.names.Role.{Role}
use Rattle.fx_base.specs.declared.names.Role.TheVariants as role
use Rattle.fx_check.specs.Facts.{facts_of}
use Rattle.fx_check.specs.Rules.{count_of}
use Rattle.fx_comm.specs.Seats.{Seat, idents_of, place_in}
use Rattle.fx_comm.proofs.Lists.{tells}
use Rattle.fx_comm.proofs.Places.{has_place_in}
use Rattle.fx_check.specs.Work.{work_of}
use Rattle.fx_walk.proofs.Lengths.{is_within_its_work}
use Rattle.fx_fleet.specs.Runs.{job_setup}
use Rattle.fx_flow.specs.Flowing.{DoesRest, Flowing, IsFlowOf, state_of}
use Rattle.fx_item.specs.declared.item.Item.{Item}
use Rattle.fx_item.specs.declared.item.Item.TheVariants as item
use Rattle.fx_link.specs.declared.message.Message.{Message}
use Rattle.fx_base.specs.declared.names.Proc.{Proc}
use Rattle.fx_machine.specs.Nodes as node
use Rattle.fx_machine.specs.Nodes.{Node, ident_at, my_place, procs_of, size}
use Rattle.fx_machine.specs.Numbers.{epoch_no, proc}
use Rattle.fx_machine.specs.Steps.{begun, init_item, inits}
use Rattle.fx_node.specs.declared.node.Moved.TheVariants as moved
use Rattle.fx_node.specs.declared.stage.Stage.TheVariants as stage
use Rattle.fx_node.specs.Standing.{IsNodeOf, IsStill, Standing, StandsAs}
use Rattle.fx_node.specs.Asking.{AsksCarried}
use Rattle.fx_node.specs.Stepping.{Steps, called_items}
use Rattle.fx_script.specs.declared.job.Job.{Job}
use Rattle.fx_value.specs.Shape.{IsShaped}
use Rattle.fx_value.proofs.Staying.{stays_shaped}
use Rattle.fx_walk.specs.Callbacks.{body_start, callback_run, callbacks_at_init, state_behind_callbacks, view_at_init}
use Rattle.fx_walk.specs.InStep.{job_walk}
use Rattle.fx_walk.specs.State.{State, at_init}
use Rattle.fx_walk.specs.declared.action.View.{View}

-- ---- places

one_further : (found : Option ℕ) (place : ℕ) → option_map (λ k. k + 1) found ≡ Some place → (k : ℕ) × (found ≡ Some k) × (place ≡ suc k)
one_further None place e = absurd (cc)
one_further (Some k) place e = (k, refl, (let same : k + 1 ≡ place = cc in sym same ∙ add-one k))

pub seat_is_place : (seats : List Seat) (p place : ℕ) → place_in seats p ≡ Some place → seat_of (procs_of seats) p ≡ place
seat_is_place [] p place e = absurd (cc)
seat_is_place (s ∷ seats) p place e = elim (tells (s.1.0 == p)) [
  | inl here ↦ let first : Some 0 ≡ Some place = rw here at e in let same : 0 ≡ place = cc in rw here same
  | inr later ↦
      let w = one_further (place_in seats p) place (rw later at e) in
      let rest = seat_is_place seats p w.0 w.1 in
      rw (later, w.2, rest) refl
]

pub ident_there : (seats : List Seat) (place : ℕ) (id : Ident) → option_map (λ seat. seat.0) (slice_get seats place) ≡ Some id
    → slice_index_or (idents_of seats) place 0 ≡ id.0
ident_there [] place id e = absurd (cc)
ident_there (s ∷ seats) zero id e = let same : s.0 ≡ id = cc in ap (λ (i : Ident). i.0) same
ident_there (s ∷ seats) (suc place) id e = ident_there seats place id e

-- ---- the state of the body

still_state : (c : Standing) (n : Node) → IsStill c n → node.state_of n ≡ state_of c.flow
still_state c n still = still

-- ---- the step

-- the return from `Init`, of this identity and place
abbrev pub returned : Standing → Ident → ℕ → Item
returned c id place = item.Init (proc c.me) (epoch_no c.epoch) c.role id place (length c.comm) (nat_lt (length c.comm) c.ranks)

-- the standing in the body
abbrev pub in_body : Standing → View → Flowing → Standing
in_body c view flow = record c { view = view; flow = flow; stage = stage.Walking }

-- the same of parts that are the same
starts : (job : Job) (role role' : Role) (place place' count count' : ℕ) (state state' : State) → role ≡ role' → place ≡ place' → count ≡ count' → state ≡ state'
    → body_start (facts_of job) role place count state ≡ body_start (facts_of job) role' place' count' state'
starts job role role' place place' count count' state state' a b d e = rw (a, b, d, e) refl

calls : (job : Job) (me me' epoch epoch' : ℕ) (role role' : Role) (place place' count count' : ℕ) (state state' : State)
    → me ≡ me' → epoch ≡ epoch' → role ≡ role' → place ≡ place' → count ≡ count' → state ≡ state'
    → flat_map (called_items me epoch) (callbacks_at_init (facts_of job) role place count state)
    ≡ flat_map (called_items me' epoch') (callbacks_at_init (facts_of job) role' place' count' state')
calls job me me' epoch epoch' role role' place place' count count' state state' x y a b d e = rw (x, y, a, b, d, e) refl

views : (role role' : Role) (place place' count count' : ℕ) → role ≡ role' → place ≡ place' → count ≡ count' → view_at_init role place count ≡ view_at_init role' place' count'
views role role' place place' count count' a b d = rw (a, b, d) refl

returns_so : (me me' epoch epoch' : ℕ) (role role' : Role) (id id' place place' count count' ranks ranks' : ℕ)
    → me ≡ me' → epoch ≡ epoch' → role ≡ role' → id ≡ id' → place ≡ place' → count ≡ count' → ranks ≡ ranks'
    → item.Init (proc me) (epoch_no epoch) role (record { 0 = id }) place count (nat_lt count ranks)
    ≡ item.Init (proc me') (epoch_no epoch') role' (record { 0 = id' }) place' count' (nat_lt count' ranks')
returns_so me me' epoch epoch' role role' id id' place place' count count' ranks ranks' x y a i b d r = rw (x, y, a, i, b, d, r) refl

pub my_place_is : (n : Node) (comm : List Seat) (me place : ℕ) → n.comm ≡ comm → n.me ≡ me → place_in comm me ≡ Some place → my_place n ≡ place
my_place_is n comm me place same own there = rw (same, own) (seat_is_place comm me place there)

ident_is : (n : Node) (comm : List Seat) (place : ℕ) (id : Ident) → n.comm ≡ comm → my_place n ≡ place → option_map (λ seat. seat.0) (slice_get comm place) ≡ Some id
    → ident_at n (my_place n) ≡ id.0
ident_is n comm place id same at there = ap (λ x. ident_at n x) at ∙ ap (λ (seats : List Seat). slice_index_or (idents_of seats) place 0) same ∙ ident_there comm place id there

-- what is given when the place was found
pub record Beginning (job : Job) (c : Standing) (place : ℕ) (id : Ident) (view : View) (flow : Flowing) : Type 0 where
  pub there : place_in c.comm c.me ≡ Some place
  pub ident : option_map (λ seat. seat.0) (slice_get c.comm place) ≡ Some id
  pub sees : view ≡ view_at_init c.role place (length c.comm)
  pub of_job : IsFlowOf job flow
  pub keeps : state_of flow ≡ body_start (facts_of job) c.role place (length c.comm) (state_of c.flow)
  pub does : (view : View) → DoesRest view (job_walk job view (body_start (facts_of job) c.role place (length c.comm) (state_of c.flow))) flow

node_begins : (job : Job) (c : Standing) (n : Node) (place : ℕ) (id : Ident) (view : View) (flow : Flowing) → AsksCarried job → IsNodeOf job c n → c.stage ≡ stage.Arrived
    → Beginning job c place id view flow → IsNodeOf job (in_body c view flow) (begun (job_setup job) n)
node_begins job c n place id view flow asks h at b =
    let arrived = subst (λ s. StandsAs job s c n) at h.stands in
    let at_place = my_place_is n c.comm c.me place h.comm h.me b.there in
    let state = starts job n.role c.role (my_place n) place (size n) (length c.comm) (node.state_of n) (state_of c.flow) h.role at_place (ap length h.comm) (still_state c n arrived.1) in
    let sees = b.sees ∙ sym (views n.role c.role (my_place n) place (size n) (length c.comm) h.role at_place (ap length h.comm)) in
    let does = subst (λ s. DoesRest view (job_walk job view s) flow) (sym state) (b.does view) in
    let shaped : IsShaped job.names (body_start (facts_of job) n.role (my_place n) (size n) (node.state_of n)) = subst (λ (s : State). IsShaped job.names s) (b.keeps ∙ sym state) b.of_job.shaped in
    record {
      me = h.me;
      ranks = h.ranks;
      epoch = h.epoch;
      comm = h.comm;
      present = h.present;
      member = h.member;
      role = h.role;
      calls = h.calls;
      bare = h.bare;
      is_flow = b.of_job;
      knows = h.knows;
      stands = (
        refl,
        record {
          sees = sees;
          does = subst (λ v. DoesRest view (job_walk job v (body_start (facts_of job) n.role (my_place n) (size n) (node.state_of n))) flow) sees does;
          carried = asks (view_at_init n.role (my_place n) (size n)) (body_start (facts_of job) n.role (my_place n) (size n) (node.state_of n));
          shaped = stays_shaped (facts_of job) job.body b.of_job.accepted.body (body_start (facts_of job) n.role (my_place n) (size n) (node.state_of n)) shaped (view_at_init n.role (my_place n) (size n));
          placed = rw (h.comm, h.me) (has_place_in c.comm c.me ∙ ap is_some b.there);
          left = work_of job.body;
          within = is_within_its_work (facts_of job) job.body (view_at_init n.role (my_place n) (size n)) (body_start (facts_of job) n.role (my_place n) (size n) (node.state_of n));
          few = let none : n.calls ≡ 0 = arrived.4 in let work : work_of job.body ≤ 20000 = b.of_job.accepted.work in omega (arith, none, work);
        },
        arrived.2,
        arrived.3,
      );
    }

begins : (job : Job) (c : Standing) (n : Node) (place : ℕ) (id : Ident) (view : View) (flow : Flowing) (sends : List (Proc × Message)) (before written : List Item)
    → AsksCarried job → IsNodeOf job c n → c.stage ≡ stage.Arrived → Beginning job c place id view flow
    → written ≡ before ++ flat_map (called_items c.me c.epoch) (callbacks_at_init (facts_of job) c.role place (length c.comm) (state_of c.flow))
    → Steps job n (Some (inits (job_setup job) n)) moved.Acted (in_body c view flow) sends sends before (written ++ returned c id place ∷ [])
begins job c n place id view flow sends before written asks h at b wrote =
    let arrived = subst (λ s. StandsAs job s c n) at h.stands in
    let at_place = my_place_is n c.comm c.me place h.comm h.me b.there in
    let called = calls job n.me c.me n.epoch c.epoch n.role c.role (my_place n) place (size n) (length c.comm) (node.state_of n) (state_of c.flow)
    h.me h.epoch h.role at_place (ap length h.comm) (still_state c n arrived.1) in
    let init = returns_so n.me c.me n.epoch c.epoch n.role c.role (ident_at n (my_place n)) id.0 (my_place n) place (size n) (length c.comm) (count_of job.ranks) c.ranks
    h.me h.epoch h.role (ident_is n c.comm place id h.comm at_place b.ident) at_place (ap length h.comm) (sym h.ranks) in
    record {
      says = refl;
      node = node_begins job c n place id view flow asks h at b;
      sends = sym (append-nil sends);
      items = ap (λ (w : List Item). w ++ returned c id place ∷ []) wrote
          ∙ append_assoc before (flat_map (called_items c.me c.epoch) (callbacks_at_init (facts_of job) c.role place (length c.comm) (state_of c.flow))) (returned c id place ∷ [])
          ∙ sym (ap (λ (w : List Item). before ++ w) (ap (λ (w : List Item). w ++ init_item (job_setup job) n ∷ []) called
          ∙ ap (λ (i : Item). flat_map (called_items c.me c.epoch) (callbacks_at_init (facts_of job) c.role place (length c.comm) (state_of c.flow)) ++ i ∷ []) init));
    }

-- what was found of the standing behind the flow's beginning, and the item that was written
pub record Found (s : Standing) (place : ℕ) (id : Ident) (places : ℕ) (depleted : Bool) : Type 0 where
  pub ident : option_map (λ seat. seat.0) (slice_get s.comm place) ≡ Some id
  pub count : places ≡ length s.comm
  pub warns : depleted ≡ nat_lt (length s.comm) s.ranks

found_in : (c : Standing) (id : Ident) (place count : ℕ) (warn : Bool) (written new : List Item) → count ≡ length c.comm → warn ≡ nat_lt (length c.comm) c.ranks
    → new ≡ written ++ item.Init (proc c.me) (epoch_no c.epoch) c.role id place count warn ∷ [] → new ≡ written ++ returned c id place ∷ []
found_in c id place count warn written new a b e = e ∙ ap (λ (k : ℕ). written ++ item.Init (proc c.me) (epoch_no c.epoch) c.role id place k warn ∷ []) a
    ∙ ap (λ (w : Bool). written ++ item.Init (proc c.me) (epoch_no c.epoch) c.role id place (length c.comm) w ∷ []) b

pub begins_from : (job : Job) (c s : Standing) (n : Node) (place size count : ℕ) (id : Ident) (warn : Bool) (flow : Flowing) (sends : List (Proc × Message)) (before written new : List Item)
    → AsksCarried job → IsNodeOf job c n → c.stage ≡ stage.Arrived → place_in c.comm c.me ≡ Some place → size ≡ length c.comm
    → record c { view = view_at_init c.role place size; flow = flow } ≡ s → Found s place id count warn
    → (IsFlowOf job c.flow → IsFlowOf job flow)
    → (IsFlowOf job c.flow → (view : View) → DoesRest view (job_walk job view (body_start (facts_of job) c.role place size (state_of c.flow))) flow)
    → (IsFlowOf job c.flow → state_of flow ≡ body_start (facts_of job) c.role place size (state_of c.flow))
    → (IsFlowOf job c.flow → written ≡ before ++ flat_map (called_items c.me c.epoch) (callbacks_at_init (facts_of job) c.role place size (state_of c.flow)))
    → new ≡ written ++ item.Init (proc s.me) (epoch_no s.epoch) s.role id place count warn ∷ []
    → Steps job n (Some (inits (job_setup job) n)) moved.Acted (record s { stage = stage.Walking }) sends sends before new
begins_from job c s n place size count id warn flow sends before written new asks h at there sized same found of_job does keeps wrote pushed =
    let flow_of = h.is_flow in
    let kept : (s.comm ≡ c.comm) × (s.ranks ≡ c.ranks) = (sym (ap (λ (x : Standing). x.comm) same), sym (ap (λ (x : Standing). x.ranks) same)) in
    let ident = subst (λ (seats : List Seat). option_map (λ seat. seat.0) (slice_get seats place) ≡ Some id) kept.0 found.ident in
    let counted = found.count ∙ ap length kept.0 in
    let warned = found.warns ∙ (ap (λ (seats : List Seat). nat_lt (length seats) s.ranks) kept.0 ∙ ap (λ (ranks : ℕ). nat_lt (length c.comm) ranks) kept.1) in
    let last = subst (λ (x : Standing). new ≡ written ++ item.Init (proc x.me) (epoch_no x.epoch) x.role id place count warn ∷ []) (sym same) pushed in
    let all = found_in c id place count warn written new counted warned last in
    let b : Beginning job c place id (view_at_init c.role place size) flow = record {
      there = there;
      ident = ident;
      sees = ap (λ (k : ℕ). view_at_init c.role place k) sized;
      of_job = of_job flow_of;
      keeps = subst (λ (k : ℕ). state_of flow ≡ body_start (facts_of job) c.role place k (state_of c.flow)) sized (keeps flow_of);
      does = λ view. subst (λ (k : ℕ). DoesRest view (job_walk job view (body_start (facts_of job) c.role place k (state_of c.flow))) flow) sized (does flow_of view);
    } in
    let wrote' = subst (λ (k : ℕ). written ≡ before ++ flat_map (called_items c.me c.epoch) (callbacks_at_init (facts_of job) c.role place k (state_of c.flow))) sized (wrote flow_of) in
    let step = begins job c n place id (view_at_init c.role place size) flow sends before written asks h at b wrote' in
    subst (λ (x : Standing). Steps job n (Some (inits (job_setup job) n)) moved.Acted (record x { stage = stage.Walking }) sends sends before new) same
    (subst (λ (w : List Item). Steps job n (Some (inits (job_setup job) n)) moved.Acted (in_body c (view_at_init c.role place size) flow) sends sends before w) (sym all) step)

-- ---- where the flow begins

pub others_call_nothing : (job : Job) (r r' : Role) (place count : ℕ) (before : State) → r' ≡ r → (r ≡ role.Initial) ⊎ (r ≡ role.Recovered)
    → callbacks_at_init (facts_of job) r' place count before ≡ []
others_call_nothing job r r' place count before same (inl e) = rw (same, e) refl
others_call_nothing job r r' place count before same (inr e) = rw (same, e) refl

pub others_start : (job : Job) (r r' : Role) (place count : ℕ) (before : State) → r' ≡ r → (r ≡ role.Initial) ⊎ (r ≡ role.Recovered)
    → at_init (facts_of job) r before ≡ body_start (facts_of job) r' place count before
others_start job r r' place count before same (inl e) = rw (same, e) refl
others_start job r r' place count before same (inr e) = rw (same, e) refl

pub others_begin : (job : Job) (r r' : Role) (place count : ℕ) (old old' new : Flowing) (view : View) → r' ≡ r → old' ≡ old → (r ≡ role.Initial) ⊎ (r ≡ role.Recovered)
    → DoesRest view (job_walk job view (at_init (facts_of job) r (state_of old))) new
    → DoesRest view (job_walk job view (body_start (facts_of job) r' place count (state_of old'))) new
others_begin job r r' place count old old' new view same from other does =
    subst (λ (s : State). DoesRest view (job_walk job view s) new) (others_start job r r' place count (state_of old) same other ∙ ap (λ (f : Flowing). body_start (facts_of job) r' place count (state_of f)) (sym from)) does

pub survivor_starts : (job : Job) (r r' : Role) (place count : ℕ) (sees : View) (old old' back : Flowing) → r' ≡ r → old' ≡ old → r ≡ role.Survivor
    → sees ≡ view_at_init r' place count → state_of back ≡ at_init (facts_of job) r (state_of old)
    → state_behind_callbacks (facts_of job) sees (state_of back) ≡ body_start (facts_of job) r' place count (state_of old')
survivor_starts job r r' place count sees old old' back same from is seen kept = rw (seen, kept, from, same, is) refl

pub survivor_begins : (job : Job) (r r' : Role) (place count : ℕ) (sees : View) (old old' back new : Flowing) (view : View) → r' ≡ r → old' ≡ old → r ≡ role.Survivor
    → sees ≡ view_at_init r' place count → state_of back ≡ at_init (facts_of job) r (state_of old)
    → DoesRest view (job_walk job view (state_behind_callbacks (facts_of job) sees (state_of back))) new
    → DoesRest view (job_walk job view (body_start (facts_of job) r' place count (state_of old'))) new
survivor_begins job r r' place count sees old old' back new view same from is seen kept does =
    subst (λ (s : State). DoesRest view (job_walk job view s) new) (survivor_starts job r r' place count sees old old' back same from is seen kept) does

pub survivor_calls : (job : Job) (r r' : Role) (place count : ℕ) (sees : View) (old old' back : Flowing) → r' ≡ r → old' ≡ old → r ≡ role.Survivor
    → sees ≡ view_at_init r' place count → state_of back ≡ at_init (facts_of job) r (state_of old)
    → callback_run (facts_of job) sees (state_of back) ≡ callbacks_at_init (facts_of job) r' place count (state_of old')
survivor_calls job r r' place count sees old old' back same from is seen kept = rw (seen, kept, from, same, is) refl
