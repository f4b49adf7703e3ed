-- What two ranks that are in step have in common, blocks of `when` aside.
use Rattle.std.specs.Prelude.{◌≡◌, ℤ, Bool, true, false, List, [], ◌∷◌, Option}
use Rattle.fx_base.specs.declared.spot.Spot.{Spot}
use Rattle.fx_script.specs.declared.job.Job.{Job}
use Rattle.fx_check.specs.Facts.{facts_of}
use Rattle.fx_walk.specs.declared.action.View.{View}
use Rattle.fx_walk.specs.State.{State}
use Rattle.fx_walk.specs.Walk.{Reply, Walk, Ends, Passes, Prints, Asks, walk_of}
use Rattle.fx_walk.specs.Plan.{Shared, shared_of, Common, common_of, number_set, Plan, Stops, Meets, plan_of}

-- A statement that a rank has come past: its spot, what all ranks ask there, and the counters there. The spot is its place in the text
-- where each statement has a spot of its own; what is left of the plan tells the place in any job.
pub record Met : Type 0 where
  pub spot : Spot
  pub common : Common
  pub counters : List ℤ

-- what a reply sets that all ranks see: the number in a counter, if it sets one, and the newest stamps
pub record Effect : Type 0 where
  pub number : Option ℤ
  pub latest : List ℤ

-- what this statement's reply sets
abbrev pub effect_of : Common → Reply → Effect
effect_of common reply = record { number = number_set common reply.given; latest = reply.latest }

-- with this one in front, unless it stands inside `when`
abbrev pub unless_inside : {A : Type 0} → Bool → A → List A → List A
unless_inside true x xs = xs
unless_inside false x xs = x ∷ xs

-- the statements outside `when` that a walk has come past with these replies
abbrev pub met : Walk → List Reply → List Met
met (Ends state) replies = []
met (Passes rest) replies = met rest replies
met (Prints printed rest) replies = met rest replies
met (Asks place wanted state rest) [] = []
met (Asks place wanted state rest) (reply ∷ replies) =
    unless_inside place.in_when (record { spot = place.spot; common = common_of wanted; counters = state.counters }) (met (rest reply) replies)

-- what the replies to those set
abbrev pub effects : Walk → List Reply → List Effect
effects (Ends state) replies = []
effects (Passes rest) replies = effects rest replies
effects (Prints printed rest) replies = effects rest replies
effects (Asks place wanted state rest) [] = []
effects (Asks place wanted state rest) (reply ∷ replies) = unless_inside place.in_when (effect_of (common_of wanted) reply) (effects (rest reply) replies)

-- a reply to a statement inside `when` leaves the newest stamps as they were
abbrev pub StampsStay : Walk → List ℤ → List Reply → Type 0
StampsStay (Ends state) latest replies = Unit {0}
StampsStay (Passes rest) latest replies = StampsStay rest latest replies
StampsStay (Prints printed rest) latest replies = StampsStay rest latest replies
StampsStay (Asks place wanted state rest) latest [] = Unit {0}
StampsStay (Asks place wanted state rest) latest (reply ∷ replies) = (place.in_when ≡ true → reply.latest ≡ latest) × StampsStay (rest reply) reply.latest replies

-- the newest stamps where the replies run out
abbrev pub latest_after : Walk → List ℤ → List Reply → List ℤ
latest_after (Ends state) latest replies = latest
latest_after (Passes rest) latest replies = latest_after rest latest replies
latest_after (Prints printed rest) latest replies = latest_after rest latest replies
latest_after (Asks place wanted state rest) latest [] = latest
latest_after (Asks place wanted state rest) latest (reply ∷ replies) = latest_after (rest reply) reply.latest replies

-- what a plan has come past with these effects, and what is left of it
abbrev pub plan_met : Plan → List Effect → List Met
plan_met (Stops counters) effects = []
plan_met (Meets spot common source counters rest) [] = []
plan_met (Meets spot common source counters rest) (e ∷ es) = record { spot = spot; common = common; counters = counters } ∷ plan_met (rest e.number e.latest) es

abbrev pub plan_after : Plan → List Effect → Plan
plan_after (Stops counters) effects = Stops counters
plan_after (Meets spot common source counters rest) [] = Meets spot common source counters rest
plan_after (Meets spot common source counters rest) (e ∷ es) = plan_after (rest e.number e.latest) es

-- where a walk next has to do with others: at its end or at a statement outside `when`, if it doesn't wait inside one
pub data Next : Type 0 where
  Inside : Next
  End : (counters : List ℤ) → Next
  Meeting : (here : Met) → Next

abbrev pub next_at : Bool → Met → Next
next_at true here = Inside
next_at false here = Meeting here

-- past its plain actions
abbrev pub next_of : Walk → Next
next_of (Ends state) = End state.counters
next_of (Passes rest) = next_of rest
next_of (Prints printed rest) = next_of rest
next_of (Asks place wanted state rest) = next_at place.in_when (record { spot = place.spot; common = common_of wanted; counters = state.counters })

abbrev pub is_outside : Next → Bool
is_outside Inside = false
is_outside (End counters) = true
is_outside (Meeting here) = true

-- ---- two ranks of a job

abbrev pub job_walk : Job → View → State → Walk
job_walk job view state = walk_of (facts_of job) job.body view state

abbrev pub job_plan : Job → Shared → Plan
job_plan job shared = plan_of (facts_of job) job.body shared

-- two ranks began alike, and were given alike what all ranks see of it
pub record AreGivenAlike (job : Job) (one other : View) (state beside : State) (replies others : List Reply) : Type 0 where
  pub begun : shared_of one state ≡ shared_of other beside
  pub one_stays : StampsStay (job_walk job one state) one.latest replies
  pub other_stays : StampsStay (job_walk job other beside) other.latest others
  pub same : effects (job_walk job one state) replies ≡ effects (job_walk job other beside) others
