-- A rest comes to rest: its steps are enough, so more of them change nothing.
use Rattle.std.proofs.Common.{◌≡◌, ◌<◌, ◌≤◌, ℕ, zero, suc, ◌+◌, ◌*◌, Bool, true, false, List, [], ◌∷◌, ◌++◌, Some, None, arith, refl, sym, ap, subst, ◌∙◌}
use Rattle.std.specs.Prelude.{if◌then◌else◌, is_some}
use Rattle.std.proofs.lemmas.Nat.{mul-le}
use Rattle.fx_check.specs.Work.{work_of}
use Rattle.fx_script.specs.declared.job.Job.{Job}
use Rattle.fx_machine.specs.Setup.{Setup}
use Rattle.fx_deeds.proofs.Whole.{rising_keep}
use Rattle.fx_fleet.specs.Rounds.{until, in_rising_order, is_quiet, rests, attends, fair_turn, fair_round, fair_rounds, Moment, Step, Rest, Deliver, Kill, Notice, Run, happens, all_happen, all_over, tail, whole}
use Rattle.fx_fleet.specs.Runs.{job_setup, moments_of, rest_bound, rest_bound_of}
use Rattle.fx_fleet.specs.World.{World, first_world, up, steps}
use Rattle.fx_calm.proofs.Lists.{Each}
use Rattle.fx_legal.specs.Ledger.{first_chapter}
use Rattle.fx_losses.proofs.Accepted.{kills_processes}
use Rattle.fx_losses.proofs.Ends.{until_done}
use Rattle.fx_losses.proofs.Moments.{turn_keeps, round_keeps, attend_keeps, moment_keeps, fewer, moments_keep, behind_front}
use Rattle.fx_losses.proofs.Schedule.{kills_of}
use Rattle.fx_losses.proofs.Tests.{apart_zero}
use Rattle.fx_losses.proofs.Texts.{put_same}
use Rattle.fx_calls.proofs.Fair.{step_further}
use Rattle.fx_calls.proofs.Heights.{walked, all_epochs}
use Rattle.fx_calls.proofs.Losses.{begins_so}
use Rattle.fx_calls.proofs.Rising.{Asking, one_more, top, Far, comes_few, far_kept}

-- ---- as far as anybody comes

walked_times : (work procs done : ℕ) → walked work procs done ≡ done * (procs + 4)
walked_times work procs zero = grind arith
walked_times work procs (suc done) =
    let rest = walked_times work procs done in
    let all : suc done * (procs + 4) ≡ (procs + 4) + done * (procs + 4) = grind arith in
    omega (arith, rest, all)

epochs_times : (work procs e : ℕ) → all_epochs work procs e ≡ e * (work * (procs + 4) + procs + 5)
epochs_times work procs zero = grind arith
epochs_times work procs (suc e) =
    let rest = epochs_times work procs e in
    let walk = walked_times work procs work in
    let all : suc e * (work * (procs + 4) + procs + 5) ≡ (work * (procs + 4) + procs + 5) + e * (work * (procs + 4) + procs + 5) = grind arith in
    omega (arith, rest, walk, all)

pub top_is : (job : Job) → top job ≡ (2 * (job_setup job).procs + 2) * (work_of job.body * ((job_setup job).procs + 4) + (job_setup job).procs + 5)
top_is job =
    let procs : ℕ = (job_setup job).procs in
    let work : ℕ = work_of job.body in
    epochs_times work procs (suc (2 * procs + 1)) ∙ ap (λ (o : ℕ). o * (work * (procs + 4) + procs + 5)) (one_behind (2 * procs))
  where
    one_behind : (n : ℕ) → suc (n + 1) ≡ n + 2
    one_behind n = omega arith

-- the bound has room for it
pub room : (procs work : ℕ) → work * (procs + 4) + procs + 6 ≤ (work + 2) * (procs + 8)
room procs work =
    let narrow : work * (procs + 4) ≡ work * procs + 4 * work = grind arith in
    let wide : (work + 2) * (procs + 8) ≡ work * procs + 8 * work + 2 * procs + 16 = grind arith in
    omega (arith, narrow, wide)

rest_enough : (procs work : ℕ) → (2 * procs + 2) * (work * (procs + 4) + procs + 5) ≤ rest_bound procs work
rest_enough procs work =
    let fits = room procs work in
    let less : (2 * procs + 2) * (work * (procs + 4) + procs + 5) ≤ (2 * procs + 2) * ((work + 2) * (procs + 8)) = mul-le (2 * procs + 2) (work * (procs + 4) + procs + 5) (2 * procs + 2) ((work + 2) * (procs + 8)) (omega arith) (omega (arith, fits)) in
    let right : (2 * procs + 2) * (work + 2) * (procs + 8) ≡ (2 * procs + 2) * ((work + 2) * (procs + 8)) = grind arith in
    omega (arith, less, right)

top_enough : (job : Job) → top job ≤ rest_bound_of job
top_enough job = subst (λ (o : ℕ). o ≤ rest_bound_of job) (sym (top_is job)) (rest_enough (job_setup job).procs (work_of job.body))

-- ---- rests

-- once it is done, more steps change nothing
until_more : {X : Type 0} (done : X → Bool) (step : X → X) (f m : ℕ) (x : X) → f ≤ m → done (until done step f x) ≡ true → until done step m x ≡ until done step f x
until_more done step zero m x less e = until_done done step m x e
until_more done step (suc f) zero x less e = absurd (omega (arith, less))
until_more {X} done step (suc f) (suc m) x less e = of (until_more done step f m (step x) (omega (arith, less))) (done x) e
  where
    of : (done (until done step f (step x)) ≡ true → until done step m (step x) ≡ until done step f (step x)) → (b : Bool)
        → done (elim b as (λ c. X) [ true ↦ x | false ↦ until done step f (step x) ]) ≡ true
        → (elim b as (λ c. X) [ true ↦ x | false ↦ until done step m (step x) ]) ≡ (elim b as (λ c. X) [ true ↦ x | false ↦ until done step f (step x) ])
    of next true i = refl
    of next false i = next i

-- where nobody has come anywhere yet, each has come to the begin
abbrev pub nowhere : ℕ → ℕ
nowhere q = 0

pub first_far : (job : Job) → Far job nowhere (kills_of (moments_of job)) (first_world (job_setup job))
first_far job = (
  record { caused = begins_so job; lapses = λ d pos some. absurd (let bad : true ≡ false = sym some ∙ ap (λ (b : Bool). is_some (if b then Some (first_chapter job) else None)) (apart_zero d) in cc) },
  λ q. record { dead = λ e. omega arith; alive = λ e. record { done = 0; left = 0; few = omega arith; is_left = tt; come = omega arith } },
)

module _ (job : Job) (asking : Asking job) where
  abbrev s : Setup
  s = job_setup job

  pub comes_to_rest : (f : ℕ → ℕ) (ps : List ℕ) (fuel q : ℕ) (w : World) → Far job f ps w → top job ≤ fuel + f q → is_quiet (job_setup job) q (rests (job_setup job) fuel q w) ≡ true
  comes_to_rest f ps zero q w is enough = of (is_quiet s q w) refl
    where
      of : (b : Bool) → is_quiet s q w ≡ b → is_quiet s q w ≡ true
      of true e = e
      of false e =
          let further : Far job (one_more q f) ps (steps s q w) = step_further job asking f ps q w is e in
          let low : one_more q f q ≤ top job = comes_few job ps (steps s q w) further.0 q (one_more q f q) (further.1 q) in
          let now : one_more q f q ≡ suc (f q) = put_same f q (suc (f q)) in
          absurd (omega (arith, low, now, enough))
  comes_to_rest f ps (suc fuel) q w is enough = of (λ further less. comes_to_rest (one_more q f) ps fuel q (steps s q w) further less) (is_quiet s q w) refl
    where
      of : (Far job (one_more q f) ps (steps s q w) → top job ≤ fuel + one_more q f q → is_quiet s q (rests s fuel q (steps s q w)) ≡ true) → (b : Bool) → is_quiet s q w ≡ b
          → is_quiet s q (elim b as (λ c. World) [ true ↦ w | false ↦ rests s fuel q (steps s q w) ]) ≡ true
      of later true e = e
      of later false e = let now : one_more q f q ≡ suc (f q) = put_same f q (suc (f q)) in later (step_further job asking f ps q w is e) (omega (arith, now, enough))

  -- whatever has come anywhere
  abbrev Here : List ℕ → World → Type 0
  Here ps w = Far job nowhere ps w

  module _ (f m : ℕ) (more : f ≤ m) (enough : top job ≤ f) where
    rest_same : (ps : List ℕ) (q : ℕ) (w : World) → Here ps w → rests s m q w ≡ rests s f q w
    rest_same ps q w is = until_more (is_quiet s q) (steps s q) f m w more (comes_to_rest nowhere ps f q w is (omega (arith, enough)))

    turn_same : (ps : List ℕ) (q : ℕ) (w : World) → Here ps w → fair_turn s m q w ≡ fair_turn s f q w
    turn_same ps q w is = of (up s w q) refl
      where
        of : (b : Bool) → up s w q ≡ b → (if b then rests s m q (attends s q w) else w) ≡ (if b then rests s f q (attends s q w) else w)
        of true e = rest_same ps q (attends s q w) (attend_keeps s (Far job nowhere) (far_kept job asking nowhere) ps q w e is)
        of false e = refl

    turns_same : (ps : List ℕ) (n : ℕ) (w : World) → Here ps w → in_rising_order (fair_turn s m) n w ≡ in_rising_order (fair_turn s f) n w
    turns_same ps zero w is = refl
    turns_same ps (suc n) w is =
        ap (fair_turn s m n) (turns_same ps n w is)
        ∙ turn_same ps n (in_rising_order (fair_turn s f) n w) (rising_keep (Far job nowhere ps) (fair_turn s f) (λ o x. turn_keeps s (Far job nowhere) (far_kept job asking nowhere) ps f o x) n w is)

    round_here : (ps : List ℕ) (w : World) → Here ps w → Here ps (fair_round s f w)
    round_here ps w is = round_keeps s (Far job nowhere) (far_kept job asking nowhere) ps f w is

    rounds_same : (ps : List ℕ) (n : ℕ) (w : World) → Here ps w → fair_rounds s m n w ≡ fair_rounds s f n w
    rounds_same ps zero w is = refl
    rounds_same ps (suc n) w is =
        ap (fair_round s m) (rounds_same ps n w is) ∙ turns_same ps s.procs (fair_rounds s f n w) (rising_keep (Far job nowhere ps) (λ i. fair_round s f) (λ i x. round_here ps x) n w is)

    moment_same : (ps : List ℕ) (o : Moment) (w : World) → Here ps w → happens s m o w ≡ happens s f o w
    moment_same ps (Step p) w is = refl
    moment_same ps (Rest p) w is = rest_same ps p w is
    moment_same ps (Deliver p q) w is = refl
    moment_same ps (Kill p) w is = refl
    moment_same ps (Notice p q) w is = refl
    moment_same ps (Run count) w is = rounds_same ps count w is

    moments_same : (ms : List Moment) (w : World) → Each (λ p. p < s.procs) (kills_of ms) → Here (kills_of ms) w → all_happen s m ms w ≡ all_happen s f ms w
    moments_same [] w few is = refl
    moments_same (o ∷ ms) w few is =
        ap (all_happen s m ms) (moment_same (kills_of (o ∷ ms)) o w is)
        ∙ moments_same ms (happens s f o w) (fewer s (Far job nowhere) (far_kept job asking nowhere) o ms few) (moment_keeps s (Far job nowhere) (far_kept job asking nowhere) f o ms w few is)

    tail_same : (bound : ℕ) (w : World) → Here [] w → tail s m bound w ≡ tail s f bound w
    tail_same zero w is = refl
    tail_same (suc bound) w is =
        ap (λ (v : World). elim (all_over s w) as (λ c. World) [ true ↦ w | false ↦ tail s m bound v ]) (turns_same [] s.procs w is)
        ∙ ap (λ (v : World). elim (all_over s w) as (λ c. World) [ true ↦ w | false ↦ v ]) (tail_same bound (fair_round s f w) (round_here [] w is))

  -- ---- the schedule

  -- behind a front of the schedule, and behind all of it
  behind : (fuel : ℕ) (front more : List Moment) → moments_of job ≡ front ++ more → Far job nowhere (kills_of more) (all_happen s fuel front (first_world s))
  behind fuel front more same =
      behind_front s (Far job nowhere) (far_kept job asking nowhere) fuel front more (first_world s)
      (subst (λ (l : List Moment). Each (λ p. p < s.procs) (kills_of l)) same (kills_processes job asking.accepted))
      (subst (λ (l : List Moment). Far job nowhere (kills_of l) (first_world s)) same (first_far job))

  pub behind_all : (fuel : ℕ) → Far job nowhere [] (all_happen (job_setup job) fuel (moments_of job) (first_world (job_setup job)))
  behind_all fuel = moments_keep s (Far job nowhere) (far_kept job asking nowhere) fuel (moments_of job) (first_world s) (kills_processes job asking.accepted) (first_far job)

  -- behind each front of the schedule a rest leaves its process quiet
  pub rests_are_quiet : (fuel : ℕ) (front more : List Moment) → moments_of job ≡ front ++ more → (p : ℕ)
      → is_quiet (job_setup job) p (rests (job_setup job) (rest_bound_of job) p (all_happen (job_setup job) fuel front (first_world (job_setup job)))) ≡ true
  rests_are_quiet fuel front more same p =
      let enough = top_enough job in
      comes_to_rest nowhere (kills_of more) (rest_bound_of job) p (all_happen s fuel front (first_world s)) (behind fuel front more same) (omega (arith, enough))

  -- and in the whole run more steps of a rest would change nothing
  pub more_changes_nothing : (fuel : ℕ) → rest_bound_of job ≤ fuel → (bound : ℕ) → whole (job_setup job) fuel bound (moments_of job) ≡ whole (job_setup job) (rest_bound_of job) bound (moments_of job)
  more_changes_nothing fuel more bound =
      ap (tail s fuel bound) (moments_same (rest_bound_of job) fuel more (top_enough job) (moments_of job) (first_world s) (kills_processes job asking.accepted) (first_far job))
      ∙ tail_same (rest_bound_of job) fuel more (top_enough job) bound (all_happen s (rest_bound_of job) (moments_of job) (first_world s)) (behind_all (rest_bound_of job))
