-- Two walks that keep to one plan are in step.
use Rattle.std.proofs.Common.{◌≡◌, Bool, true, false, List, [], ◌∷◌, refl, ap, sym, subst, ◌∙◌}
use Rattle.std.specs.Prelude.{ℤ}
use Rattle.fx_base.specs.declared.spot.Spot.{Spot}
use Rattle.fx_script.specs.declared.job.Stmt.{Stmt}
use Rattle.fx_check.specs.Acceptance.{stmts_lines}
use Rattle.fx_check.specs.Facts.{Facts}
use Rattle.fx_check.specs.Parts.{KeepRules}
use Rattle.fx_check.specs.Rules.{body_place}
use Rattle.fx_walk.specs.declared.action.View.{View}
use Rattle.fx_walk.specs.declared.wanted.Wanted.{Wanted}
use Rattle.fx_walk.specs.State.{State}
use Rattle.fx_walk.specs.Walk.{Reply, Walk, Ends, Passes, Prints, Asks, walk_of}
use Rattle.fx_walk.specs.Along.{rest_after}
use Rattle.fx_walk.specs.Plan.{Shared, shared_of, Common, common_of, number_set, Plan, Stops, Meets, plan_of, AsksBy, Keeps}
use Rattle.fx_walk.specs.InStep.{Met, Effect, effect_of, unless_inside, met, effects, StampsStay, latest_after, plan_met, plan_after, Next, End, Meeting, next_at, next_of, is_outside}
use Rattle.fx_walk.proofs.InStep.{keeps_to_plan}

-- ---- a plan along effects

abbrev plan_next : Plan → Next
plan_next (Stops counters) = End counters
plan_next (Meets spot common source counters rest) = Meeting (record { spot = spot; common = common; counters = counters })

none_met : (plan : Plan) → [] ≡ plan_met plan []
none_met (Stops counters) = refl
none_met (Meets spot common source counters rest) = refl

none_after : (plan : Plan) → plan ≡ plan_after plan []
none_after (Stops counters) = refl
none_after (Meets spot common source counters rest) = refl

-- ---- a walk along replies

-- with these replies a walk has met what its plan has with their effects, and keeps to what is left of the plan
pub record IsAlong (w : Walk) (plan : Plan) (latest : List ℤ) (replies : List Reply) : Type 0 where
  pub past : met w replies ≡ plan_met plan (effects w replies)
  pub keeps : Keeps (rest_after w replies) (plan_after plan (effects w replies)) (latest_after w latest replies)

nothing_yet : (w : Walk) (plan : Plan) (latest : List ℤ) → Keeps w plan latest → (m : List Met) (es : List Effect) → m ≡ [] → es ≡ [] → (m ≡ plan_met plan es) × Keeps w (plan_after plan es) latest
nothing_yet w plan latest keeps m es none nothing =
    (none ∙ none_met plan ∙ ap (plan_met plan) (sym nothing), subst (λ (p : Plan). Keeps w p latest) (none_after plan ∙ ap (plan_after plan) (sym nothing)) keeps)

module _ (spot : Spot) (wanted : Wanted) (state : State) (rest : Reply → Walk) (reply : Reply) (replies : List Reply)
    (later : (plan : Plan) (latest : List ℤ) → Keeps (rest reply) plan latest → StampsStay (rest reply) latest replies → IsAlong (rest reply) plan latest replies) where
  abbrev here : Met
  here = record { spot = spot; common = common_of wanted; counters = state.counters }

  abbrev Came : Bool → Plan → Type 0
  Came inside plan =
      (unless_inside inside here (met (rest reply) replies) ≡ plan_met plan (unless_inside inside (effect_of (common_of wanted) reply) (effects (rest reply) replies)))
      × Keeps (rest_after (rest reply) replies) (plan_after plan (unless_inside inside (effect_of (common_of wanted) reply) (effects (rest reply) replies))) (latest_after (rest reply) reply.latest replies)

  came : (inside : Bool) (plan : Plan) (latest : List ℤ) → AsksBy inside plan spot wanted state latest (λ left r. Keeps (rest r) left r.latest)
      → (inside ≡ true → reply.latest ≡ latest) → StampsStay (rest reply) reply.latest replies → Came inside plan
  came true plan latest asks same stay =
      let along = later plan reply.latest (subst (λ (l : List ℤ). Keeps (rest (record { given = reply.given; latest = l })) plan l) (sym (same refl)) (asks.1 reply.given)) stay in
      (along.past, along.keeps)
  came false (Stops counters) latest asks same stay = absurd asks
  came false (Meets at due source counters left) latest asks same stay =
      let along = later (left (number_set (common_of wanted) reply.given) reply.latest) reply.latest (asks.4 reply) stay in
      (cc (asks.0, asks.1, asks.2, along.past), along.keeps)

along : (w : Walk) (plan : Plan) (latest : List ℤ) → Keeps w plan latest → (replies : List Reply) → StampsStay w latest replies → IsAlong w plan latest replies
along (Ends state) plan latest keeps replies stay =
    let so = nothing_yet (Ends state) plan latest keeps [] [] refl refl in record { past = so.0; keeps = so.1 }
along (Passes rest) plan latest keeps replies stay = let so = along rest plan latest keeps replies stay in record { past = so.past; keeps = so.keeps }
along (Prints printed rest) plan latest keeps replies stay = let so = along rest plan latest keeps replies stay in record { past = so.past; keeps = so.keeps }
along (Asks place wanted state rest) plan latest keeps [] stay =
    let so = nothing_yet (Asks place wanted state rest) plan latest keeps [] [] refl refl in record { past = so.0; keeps = so.1 }
along (Asks place wanted state rest) plan latest keeps (reply ∷ replies) stay =
    let so = came place.spot wanted state rest reply replies (λ left l kept stays. along (rest reply) left l kept replies stays) place.in_when plan latest keeps stay.0 stay.1 in
    record { past = so.0; keeps = so.1 }

-- ---- where it next has to do with others

next_asked : (inside : Bool) (plan : Plan) (spot : Spot) (asked : Wanted) (state : State) (latest : List ℤ) (Goes : Plan → Reply → Type 0)
    → AsksBy inside plan spot asked state latest Goes → is_outside (next_at inside (record { spot = spot; common = common_of asked; counters = state.counters })) ≡ true
    → next_at inside (record { spot = spot; common = common_of asked; counters = state.counters }) ≡ plan_next plan
next_asked true plan spot asked state latest Goes asks outside = absurd cc
next_asked false (Stops counters) spot asked state latest Goes asks outside = absurd asks
next_asked false (Meets at due source counters rest) spot asked state latest Goes asks outside = cc (asks.0, asks.1, asks.2)

next_ends : (plan : Plan) (state : State) → Keeps (Ends state) plan [] → End state.counters ≡ plan_next plan
next_ends (Stops counters) state keeps = ap End keeps
next_ends (Meets spot common source counters rest) state keeps = absurd keeps

next_kept : (w : Walk) (plan : Plan) (latest : List ℤ) → Keeps w plan latest → is_outside (next_of w) ≡ true → next_of w ≡ plan_next plan
next_kept (Ends state) plan latest keeps outside = next_ends plan state keeps
next_kept (Passes rest) plan latest keeps outside = next_kept rest plan latest keeps outside
next_kept (Prints printed rest) plan latest keeps outside = next_kept rest plan latest keeps outside
next_kept (Asks place wanted state rest) plan latest keeps outside = next_asked place.in_when plan place.spot wanted state latest _ keeps outside

-- ---- the newest stamps

abbrev stamps_after : List ℤ → List Effect → List ℤ
stamps_after latest [] = latest
stamps_after latest (e ∷ es) = stamps_after e.latest es

stamp_step : (inside : Bool) (common : Common) (reply : Reply) (latest last : List ℤ) (es : List Effect) → (inside ≡ true → reply.latest ≡ latest)
    → last ≡ stamps_after reply.latest es → last ≡ stamps_after latest (unless_inside inside (effect_of common reply) es)
stamp_step true common reply latest last es same is = is ∙ ap (λ (l : List ℤ). stamps_after l es) (same refl)
stamp_step false common reply latest last es same is = is

stamps : (w : Walk) (latest : List ℤ) (replies : List Reply) → StampsStay w latest replies → latest_after w latest replies ≡ stamps_after latest (effects w replies)
stamps (Ends state) latest replies stay = refl
stamps (Passes rest) latest replies stay = stamps rest latest replies stay
stamps (Prints printed rest) latest replies stay = stamps rest latest replies stay
stamps (Asks place wanted state rest) latest [] stay = refl
stamps (Asks place wanted state rest) latest (reply ∷ replies) stay = stamp_step place.in_when (common_of wanted) reply latest _ (effects (rest reply) replies) stay.0 (stamps (rest reply) reply.latest replies stay.1)

-- ---- one rank

pub along_plan : (f : Facts) (body : List Stmt) → KeepRules (stmts_lines f body body_place) → (view : View) (state : State) (replies : List Reply) → StampsStay (walk_of f body view state) view.latest replies
    → IsAlong (walk_of f body view state) (plan_of f body (shared_of view state)) view.latest replies
along_plan f body rules view state replies stay = along (walk_of f body view state) (plan_of f body (shared_of view state)) view.latest (keeps_to_plan f body rules view state) replies stay

-- ---- two ranks

module _ (f : Facts) (body : List Stmt) (rules : KeepRules (stmts_lines f body body_place)) (view other : View) (state beside : State) (alike : shared_of view state ≡ shared_of other beside)
    (replies others : List Reply) (stay : StampsStay (walk_of f body view state) view.latest replies) (stays : StampsStay (walk_of f body other beside) other.latest others)
    (same : effects (walk_of f body view state) replies ≡ effects (walk_of f body other beside) others) where
  abbrev one_plan : Plan
  one_plan = plan_of f body (shared_of view state)

  one : IsAlong (walk_of f body view state) one_plan view.latest replies
  one = along_plan f body rules view state replies stay

  two : IsAlong (walk_of f body other beside) one_plan other.latest others
  two = along (walk_of f body other beside) one_plan other.latest
      (subst (λ (shared : Shared). Keeps (walk_of f body other beside) (plan_of f body shared) other.latest) (sym alike) (keeps_to_plan f body rules other beside)) others stays

  pub same_past : met (walk_of f body view state) replies ≡ met (walk_of f body other beside) others
  same_past = one.past ∙ ap (plan_met one_plan) same ∙ sym two.past

  pub same_next : is_outside (next_of (rest_after (walk_of f body view state) replies)) ≡ true → is_outside (next_of (rest_after (walk_of f body other beside) others)) ≡ true
      → next_of (rest_after (walk_of f body view state) replies) ≡ next_of (rest_after (walk_of f body other beside) others)
  same_next outside outsides =
      next_kept (rest_after (walk_of f body view state) replies) _ _ one.keeps outside
      ∙ ap (λ (es : List Effect). plan_next (plan_after one_plan es)) same
      ∙ sym (next_kept (rest_after (walk_of f body other beside) others) _ _ two.keeps outsides)

  pub same_stamps : latest_after (walk_of f body view state) view.latest replies ≡ latest_after (walk_of f body other beside) other.latest others
  same_stamps =
      stamps (walk_of f body view state) view.latest replies stay
      ∙ ap (λ (shared : Shared). stamps_after shared.latest (effects (walk_of f body view state) replies)) alike
      ∙ ap (stamps_after other.latest) same
      ∙ sym (stamps (walk_of f body other beside) other.latest others stays)
