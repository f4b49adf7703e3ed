-- A rest comes to rest: its steps are enough, so more of them change nothing.
use Rattle.std.proofs.Common.{◌≡◌, ◌<◌, ◌≤◌, ℕ, zero, suc, ◌+◌, ◌*◌, Bool, true, false, List, [], ◌∷◌, ◌++◌, arith, refl, sym, ap, subst, ◌∙◌}
use Rattle.std.specs.Prelude.{if◌then◌else◌}
use Rattle.std.proofs.lemmas.Nat.{mul-le}
use Rattle.fx_check.specs.Acceptance.{IsAccepted}
use Rattle.fx_check.specs.Work.{work_of}
use Rattle.fx_script.specs.declared.job.Job.{Job}
use Rattle.fx_machine.specs.Setup.{Setup}
use Rattle.fx_deeds.proofs.Whole.{rising_keep}
use Rattle.fx_fleet.specs.Rounds.{until, in_rising_order, is_quiet, rests, attends, fair_turn, fair_round, fair_rounds, Moment, Step, Rest, Deliver, Kill, Notice, Run, happens, all_happen, all_over, tail, whole}
use Rattle.fx_fleet.specs.Runs.{AsksNothing, job_setup, moments_of, rest_bound, rest_bound_of}
use Rattle.fx_fleet.specs.World.{World, first_world, up, steps}
use Rattle.fx_calm.proofs.Lists.{Each}
use Rattle.fx_losses.proofs.Accepted.{kills_processes}
use Rattle.fx_losses.proofs.Ends.{until_done, epochs_times}
use Rattle.fx_losses.proofs.Fair.{step_rises}
use Rattle.fx_losses.proofs.Legality.{begins}
use Rattle.fx_losses.proofs.Moments.{step_keeps, turn_keeps, round_keeps, attend_keeps, moment_keeps, fewer, moments_keep, behind_front}
use Rattle.fx_losses.proofs.Rising.{level, top, Good, level_few, Ahead, ahead_kept}
use Rattle.fx_losses.proofs.Schedule.{kills_of}

-- once it is done, more steps change nothing
until_more : {X : Type 0} (done : X → Bool) (step : X → X) (f m : ℕ) (x : X) → f ≤ m → done (until done step f x) ≡ true → until done step m x ≡ until done step f x
until_more done step zero m x less e = until_done done step m x e
until_more done step (suc f) zero x less e = absurd (omega (arith, less))
until_more {X} done step (suc f) (suc m) x less e = of (until_more done step f m (step x) (omega (arith, less))) (done x) e
  where
    of : (done (until done step f (step x)) ≡ true → until done step m (step x) ≡ until done step f (step x)) → (b : Bool)
        → done (elim b as (λ c. X) [ true ↦ x | false ↦ until done step f (step x) ]) ≡ true
        → (elim b as (λ c. X) [ true ↦ x | false ↦ until done step m (step x) ]) ≡ (elim b as (λ c. X) [ true ↦ x | false ↦ until done step f (step x) ])
    of next true i = refl
    of next false i = next i

module _ (job : Job) (asks : AsksNothing job) where
  abbrev s : Setup
  s = job_setup job

  self_ahead : (ps : List ℕ) (w : World) → Good job ps w → Ahead job w ps w
  self_ahead ps w is = (is, λ q. omega arith)

  pub comes_to_rest : (ps : List ℕ) (fuel q : ℕ) (w : World) → Good job ps w → top job ≤ fuel + level job w q → is_quiet s q (rests s fuel q w) ≡ true
  comes_to_rest ps zero q w is enough = of (is_quiet s q w) refl
    where
      of : (b : Bool) → is_quiet s q w ≡ b → is_quiet s q w ≡ true
      of true e = e
      of false e =
          let rises = step_rises job asks ps q w is e in
          let low = level_few job ps (steps s q w) (step_keeps s (Ahead job w) (ahead_kept job asks w) ps q w (self_ahead ps w is)).0 q in
          absurd (omega (arith, rises, low, enough))
  comes_to_rest ps (suc fuel) q w is enough = of (comes_to_rest ps fuel q (steps s q w) (step_keeps s (Ahead job w) (ahead_kept job asks w) ps q w (self_ahead ps w is)).0) (is_quiet s q w) refl
    where
      of : (top job ≤ fuel + level job (steps s q w) q → is_quiet s q (rests s fuel q (steps s q w)) ≡ true) → (b : Bool) → is_quiet s q w ≡ b
          → is_quiet s q (elim b as (λ c. World) [ true ↦ w | false ↦ rests s fuel q (steps s q w) ]) ≡ true
      of next true e = e
      of next false e = let rises = step_rises job asks ps q w is e in next (omega (arith, rises, enough))

  module _ (f m : ℕ) (more : f ≤ m) (enough : top job ≤ f) where
    rest_same : (ps : List ℕ) (q : ℕ) (w : World) → Good job ps w → rests s m q w ≡ rests s f q w
    rest_same ps q w is = until_more (is_quiet s q) (steps s q) f m w more (comes_to_rest ps f q w is (omega (arith, enough)))

    turn_same : (ps : List ℕ) (q : ℕ) (w : World) → Good job ps w → fair_turn s m q w ≡ fair_turn s f q w
    turn_same ps q w is = of (up s w q) refl
      where
        of : (b : Bool) → up s w q ≡ b → (if b then rests s m q (attends s q w) else w) ≡ (if b then rests s f q (attends s q w) else w)
        of true e = rest_same ps q (attends s q w) (attend_keeps s (Ahead job w) (ahead_kept job asks w) ps q w e (self_ahead ps w is)).0
        of false e = refl

    turns_same : (ps : List ℕ) (n : ℕ) (w : World) → Good job ps w → in_rising_order (fair_turn s m) n w ≡ in_rising_order (fair_turn s f) n w
    turns_same ps zero w is = refl
    turns_same ps (suc n) w is =
        ap (fair_turn s m n) (turns_same ps n w is)
        ∙ turn_same ps n (in_rising_order (fair_turn s f) n w) (rising_keep (Ahead job w ps) (fair_turn s f) (λ o x. turn_keeps s (Ahead job w) (ahead_kept job asks w) ps f o x) n w (self_ahead ps w is)).0

    round_good : (ps : List ℕ) (w : World) → Good job ps w → Good job ps (fair_round s f w)
    round_good ps w is = (round_keeps s (Ahead job w) (ahead_kept job asks w) ps f w (self_ahead ps w is)).0

    rounds_same : (ps : List ℕ) (n : ℕ) (w : World) → Good job ps w → fair_rounds s m n w ≡ fair_rounds s f n w
    rounds_same ps zero w is = refl
    rounds_same ps (suc n) w is =
        ap (fair_round s m) (rounds_same ps n w is) ∙ turns_same ps s.procs (fair_rounds s f n w) (rising_keep (Good job ps) (λ i. fair_round s f) (λ i x. round_good ps x) n w is)

    moment_same : (ps : List ℕ) (o : Moment) (w : World) → Good job ps w → happens s m o w ≡ happens s f o w
    moment_same ps (Step p) w is = refl
    moment_same ps (Rest p) w is = rest_same ps p w is
    moment_same ps (Deliver p q) w is = refl
    moment_same ps (Kill p) w is = refl
    moment_same ps (Notice p q) w is = refl
    moment_same ps (Run count) w is = rounds_same ps count w is

    moments_same : (ms : List Moment) (w : World) → Each (λ p. p < s.procs) (kills_of ms) → Good job (kills_of ms) w → all_happen s m ms w ≡ all_happen s f ms w
    moments_same [] w few is = refl
    moments_same (o ∷ ms) w few is =
        ap (all_happen s m ms) (moment_same (kills_of (o ∷ ms)) o w is)
        ∙ moments_same ms (happens s f o w) (fewer s (Ahead job w) (ahead_kept job asks w) o ms few) (moment_keeps s (Ahead job w) (ahead_kept job asks w) f o ms w few (self_ahead (kills_of (o ∷ ms)) w is)).0

    tail_same : (bound : ℕ) (w : World) → Good job [] w → tail s m bound w ≡ tail s f bound w
    tail_same zero w is = refl
    tail_same (suc bound) w is =
        ap (λ (v : World). elim (all_over s w) as (λ c. World) [ true ↦ w | false ↦ tail s m bound v ]) (turns_same [] s.procs w is)
        ∙ ap (λ (v : World). elim (all_over s w) as (λ c. World) [ true ↦ w | false ↦ v ]) (tail_same bound (fair_round s f w) (round_good [] w is))

  module _ (accepted : IsAccepted job) where
    first_good : Good job (kills_of (moments_of job)) (first_world s)
    first_good = record { legally = begins job; within = λ p e. tt }

    behind : (fuel : ℕ) (front more : List Moment) → moments_of job ≡ front ++ more → Good job (kills_of more) (all_happen s fuel front (first_world s))
    behind fuel front more same =
        (behind_front s (Ahead job (first_world s)) (ahead_kept job asks (first_world s)) fuel front more (first_world s)
        (subst (λ (l : List Moment). Each (λ p. p < s.procs) (kills_of l)) same (kills_processes job accepted))
        (subst (λ (l : List Moment). Ahead job (first_world s) (kills_of l) (first_world s)) same (self_ahead (kills_of (moments_of job)) (first_world s) first_good))).0

    whole_same : (f m : ℕ) → f ≤ m → top job ≤ f → (bound : ℕ) → whole s m bound (moments_of job) ≡ whole s f bound (moments_of job)
    whole_same f m more enough bound =
        ap (tail s m bound) (moments_same f m more enough (moments_of job) (first_world s) (kills_processes job accepted) first_good)
        ∙ tail_same f m more enough bound (all_happen s f (moments_of job) (first_world s))
        (moments_keep s (Ahead job (first_world s)) (ahead_kept job asks (first_world s)) f (moments_of job) (first_world s) (kills_processes job accepted) (self_ahead (kills_of (moments_of job)) (first_world s) first_good)).0

-- ---- the steps of a rest

rest_enough : (procs work : ℕ) → (procs + 2) * (work + procs + 4) ≤ rest_bound procs work
rest_enough procs work =
    let wide : (work + 2) * (procs + 8) ≡ work * procs + 8 * work + 2 * procs + 16 = grind arith in
    let less : (procs + 2) * (work + procs + 4) ≤ (2 * procs + 2) * ((work + 2) * (procs + 8)) = mul-le (procs + 2) (work + procs + 4) (2 * procs + 2) ((work + 2) * (procs + 8)) (omega arith) (omega (arith, wide)) in
    let right : (2 * procs + 2) * (work + 2) * (procs + 8) ≡ (2 * procs + 2) * ((work + 2) * (procs + 8)) = grind arith in
    omega (arith, less, right)

top_enough : (job : Job) → top job ≤ rest_bound_of job
top_enough job =
    let procs : ℕ = (job_setup job).procs in
    let work : ℕ = work_of job.body in
    subst (λ (o : ℕ). o ≤ rest_bound_of job) (sym (epochs_times work procs (suc (suc procs)) ∙ ap (λ (o : ℕ). o * (work + procs + 4)) (two_more procs))) (rest_enough procs work)
  where
    two_more : (n : ℕ) → suc (suc n) ≡ n + 2
    two_more n = omega arith

-- behind each front of the schedule a rest leaves its process quiet
pub rests_are_quiet : (job : Job) → IsAccepted job → AsksNothing job → (fuel : ℕ) (front more : List Moment) → moments_of job ≡ front ++ more → (p : ℕ)
    → is_quiet (job_setup job) p (rests (job_setup job) (rest_bound_of job) p (all_happen (job_setup job) fuel front (first_world (job_setup job)))) ≡ true
rests_are_quiet job accepted asks fuel front more same p =
    let enough = top_enough job in
    comes_to_rest job asks (kills_of more) (rest_bound_of job) p (all_happen (job_setup job) fuel front (first_world (job_setup job))) (behind job asks accepted fuel front more same) (omega (arith, enough))

-- and in the whole run more steps of a rest would change nothing
pub more_changes_nothing : (job : Job) → IsAccepted job → AsksNothing job → (fuel : ℕ) → rest_bound_of job ≤ fuel → (bound : ℕ)
    → whole (job_setup job) fuel bound (moments_of job) ≡ whole (job_setup job) (rest_bound_of job) bound (moments_of job)
more_changes_nothing job accepted asks fuel more bound = whole_same job asks accepted (rest_bound_of job) fuel more (top_enough job) bound
