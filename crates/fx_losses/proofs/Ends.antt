-- Each process ends: the tail of the run of an accepted job whose body asks nothing is long enough.
use Rattle.std.proofs.Common.{◌≡◌, ◌<◌, ◌≤◌, inl, inr, ℕ, zero, suc, ◌+◌, ◌*◌, Bool, true, false, [], arith, refl, sym, ap, subst, ◌∙◌}
use Rattle.std.specs.Prelude.{not}
use Rattle.std.proofs.lemmas.Bool.{cases_lt}
use Rattle.std.proofs.lemmas.Nat.{mul-le, mul-lt}
use Rattle.fx_check.specs.Acceptance.{IsAccepted}
use Rattle.fx_check.specs.Work.{work_of, bound_with, bound_of}
use Rattle.fx_script.specs.declared.job.Job.{Job}
use Rattle.fx_machine.specs.Setup.{Setup}
use Rattle.fx_store.proofs.Mirrors.{each_from}
use Rattle.fx_fleet.specs.Rounds.{until, fair_round, all_happen, all_over, tail, whole}
use Rattle.fx_fleet.specs.Runs.{AsksNothing, job_setup, moments_of, rest_bound, rest_bound_of}
use Rattle.fx_fleet.specs.World.{World, first_world, up}
use Rattle.fx_calm.proofs.Standing.{noted}
use Rattle.fx_legal.specs.Ledger.{procs_of, ranks_of}
use Rattle.fx_legal.specs.Legal.{AllHaveEnded}
use Rattle.fx_fleet.specs.Runs as runs
use Rattle.fx_losses.specs.Losses.{IsStill}
use Rattle.fx_losses.proofs.Accepted.{kills_processes}
use Rattle.fx_losses.proofs.Fair.{still_round, round_ahead}
use Rattle.fx_losses.proofs.Heights.{all_epochs}
use Rattle.fx_losses.proofs.Legality.{begins, shows_all_ends}
use Rattle.fx_losses.proofs.Moments.{moments_keep}
use Rattle.fx_losses.proofs.Rising.{level, top, Good, level_few, Ahead, ahead_kept}
use Rattle.fx_losses.proofs.Sizes.{accepted_numbers, legal_sized}
use Rattle.fx_losses.proofs.Still.{nobody_up}

-- ---- sums

abbrev sum_below : ℕ → (ℕ → ℕ) → ℕ
sum_below zero f = 0
sum_below (suc n) f = f n + sum_below n f

sum_rises : (n : ℕ) (f g : ℕ → ℕ) → ((q : ℕ) → f q ≤ g q) → sum_below n f ≤ sum_below n g
sum_rises zero f g less = omega arith
sum_rises (suc n) f g less = let rest = sum_rises n f g less in let one = less n in omega (arith, rest, one)

-- where the sum doesn't rise nothing does
sum_stays : (n : ℕ) (f g : ℕ → ℕ) → ((q : ℕ) → f q ≤ g q) → sum_below n g ≤ sum_below n f → (q : ℕ) → q < n → g q ≤ f q
sum_stays zero f g less same q low = absurd (omega (arith, low))
sum_stays (suc n) f g less same q low = elim (cases_lt q n) [
  | inl below ↦ sum_stays n f g less (let one = less n in omega (arith, one, same)) q below
  | inr not_below ↦ subst (λ (o : ℕ). g o ≤ f o) (last q n (omega (arith, not_below)) low) (let rest = sum_rises n f g less in omega (arith, rest, same))
]
  where
    last : (q n : ℕ) → n ≤ q → q < suc n → n ≡ q
    last q n a b = omega (arith, a, b)

sum_few : (n : ℕ) (f : ℕ → ℕ) (most : ℕ) → ((q : ℕ) → f q ≤ most) → sum_below n f ≤ n * most
sum_few zero f most few = omega arith
sum_few (suc n) f most few =
    let rest = sum_few n f most few in
    let one = few n in
    let all : suc n * most ≡ most + n * most = grind arith in
    omega (arith, rest, one, all)

-- ---- the tail

pub until_done : {X : Type 0} (done : X → Bool) (step : X → X) (n : ℕ) (x : X) → done x ≡ true → until done step n x ≡ x
until_done done step zero x e = refl
until_done {X} done step (suc n) x e = ap (λ (b : Bool). elim b as (λ c. X) [ true ↦ x | false ↦ until done step n (step x) ]) e

module _ (job : Job) (accepted : IsAccepted job) (asks : AsksNothing job) where
  abbrev s : Setup
  s = job_setup job

  -- what all processes have come to
  abbrev total : World → ℕ
  total w = sum_below s.procs (level job w)

  over_where_still : (w : World) → Good job [] w → IsStill s w → all_over s w ≡ true
  over_where_still w is still =
      let numbers = accepted_numbers job accepted in
      each_from (procs_of job) (λ q. not (up s w q)) (λ q few. ap not (nobody_up job [] w is.legally numbers.1 still numbers.0 (legal_sized job accepted (noted w.items) is.legally.goes) q))

  tail_over : (more bound : ℕ) (w : World) → Good job [] w → s.procs * top job < bound + total w → all_over s (tail s (suc more) bound w) ≡ true
  tail_over more zero w is enough = absurd (let few = sum_few s.procs (level job w) (top job) (level_few job [] w is) in omega (arith, few, enough))
  tail_over more (suc bound) w is enough = of (tail_over more bound (fair_round s (suc more) w) (round_ahead job asks (suc more) w is).0) (all_over s w) refl
    where
      ahead : Ahead job w [] (fair_round s (suc more) w)
      ahead = round_ahead job asks (suc more) w is

      later : (s.procs * top job < bound + total (fair_round s (suc more) w) → all_over s (tail s (suc more) bound (fair_round s (suc more) w)) ≡ true) → all_over s (tail s (suc more) bound (fair_round s (suc more) w)) ≡ true
      later next = elim (cases_lt (total w) (total (fair_round s (suc more) w))) [
        | inl rises ↦ next (omega (arith, rises, enough))
        | inr stays ↦
            let still = still_round job asks more w is (sum_stays s.procs (level job w) (level job (fair_round s (suc more) w)) ahead.1 (omega (arith, stays))) in
            let over = over_where_still (fair_round s (suc more) w) ahead.0 still in
            ap (all_over s) (until_done (all_over s) (fair_round s (suc more)) bound (fair_round s (suc more) w) over) ∙ over
      ]

      of : (s.procs * top job < bound + total (fair_round s (suc more) w) → all_over s (tail s (suc more) bound (fair_round s (suc more) w)) ≡ true) → (b : Bool) → all_over s w ≡ b → all_over s (elim b as (λ c. World) [ true ↦ w | false ↦ tail s (suc more) bound (fair_round s (suc more) w) ]) ≡ true
      of next true e = e
      of next false e = later next

  behind_schedule : (fuel : ℕ) → Good job [] (all_happen s fuel (moments_of job) (first_world s))
  behind_schedule fuel =
      (moments_keep s (Ahead job (first_world s)) (ahead_kept job asks (first_world s)) fuel (moments_of job) (first_world s) (kills_processes job accepted)
      (record { legally = begins job; within = λ p e. tt }, λ q. omega arith)).0

  all_end_within : (more bound : ℕ) → s.procs * top job < bound → all_over s (whole s (suc more) bound (moments_of job)) ≡ true
  all_end_within more bound enough = tail_over more bound (all_happen s (suc more) (moments_of job) (first_world s)) (behind_schedule (suc more)) (omega (arith, enough))

-- ---- the bound

pub epochs_times : (work procs e : ℕ) → all_epochs work procs e ≡ e * (work + procs + 4)
epochs_times work procs zero = grind arith
epochs_times work procs (suc e) =
    let rest = epochs_times work procs e in
    let all : suc e * (work + procs + 4) ≡ (work + procs + 4) + e * (work + procs + 4) = grind arith in
    omega (arith, rest, all)

bound_enough : (procs work : ℕ) → 1 ≤ procs → procs * ((procs + 2) * (work + procs + 4)) < bound_with procs work
bound_enough procs work some =
    let one : 1 * 1 ≤ procs * procs = mul-le 1 1 procs procs some some in
    let split : procs * (2 * procs + 2) ≡ procs * (procs + 2) + procs * procs = grind arith in
    let wide : (work + 2) * (procs + 8) ≡ work * procs + 8 * work + 2 * procs + 16 = grind arith in
    let less : procs * (procs + 2) * (work + procs + 4) < procs * (2 * procs + 2) * ((work + 2) * (procs + 8)) =
    mul-lt (procs * (procs + 2)) (work + procs + 4) (procs * (2 * procs + 2)) ((work + 2) * (procs + 8)) (omega (arith, one, split)) (omega (arith, wide)) in
    let left : procs * ((procs + 2) * (work + procs + 4)) ≡ procs * (procs + 2) * (work + procs + 4) = grind arith in
    let right : procs * (2 * procs + 2) * (work + 2) * (procs + 8) ≡ procs * (2 * procs + 2) * ((work + 2) * (procs + 8)) = grind arith in
    omega (arith, less, left, right)

some_fuel : (procs work : ℕ) → 1 ≤ rest_bound procs work
some_fuel procs work =
    let first : 1 * 1 ≤ (2 * procs + 2) * (work + 2) = mul-le 1 1 (2 * procs + 2) (work + 2) (omega arith) (omega arith) in
    let all : 1 * 1 ≤ (2 * procs + 2) * (work + 2) * (procs + 8) = mul-le 1 1 ((2 * procs + 2) * (work + 2)) (procs + 8) (omega (arith, first)) (omega arith) in
    omega (arith, all)

predecessor : (n : ℕ) → 1 ≤ n → (m : ℕ) × (n ≡ suc m)
predecessor zero some = absurd (omega (arith, some))
predecessor (suc n) some = (n, refl)

-- with any fuel for a rest but none, the bound of the tail is enough
pub all_end : (job : Job) → IsAccepted job → AsksNothing job → (fuel : ℕ) → 1 ≤ fuel → (bound : ℕ) → bound_of job ≤ bound → all_over (job_setup job) (whole (job_setup job) fuel bound (moments_of job)) ≡ true
all_end job accepted asks fuel some bound enough =
    let m = predecessor fuel some in
    subst (λ (o : ℕ). all_over (job_setup job) (whole (job_setup job) o bound (moments_of job)) ≡ true) (sym m.1) (all_end_within job accepted asks m.0 bound (all job accepted bound enough))
  where
    all : (job : Job) → IsAccepted job → (bound : ℕ) → bound_of job ≤ bound → (job_setup job).procs * top job < bound
    all job accepted bound enough =
        let procs : ℕ = (job_setup job).procs in
        let work : ℕ = work_of job.body in
        let numbers = accepted_numbers job accepted in
        let same : top job ≡ (procs + 2) * (work + procs + 4) = epochs_times work procs (suc (suc procs)) ∙ ap (λ (o : ℕ). o * (work + procs + 4)) (two_more procs) in
        let less : procs * ((procs + 2) * (work + procs + 4)) < bound_of job = bound_enough procs work (some_procs job numbers.0) in
        subst (λ (o : ℕ). procs * o < bound) (sym same) (omega (arith, less, enough))
      where
        two_more : (n : ℕ) → suc (suc n) ≡ n + 2
        two_more n = omega arith

        some_procs : (job : Job) → 1 ≤ ranks_of job → 1 ≤ (job_setup job).procs
        some_procs job e = omega (arith, e)

pub run_ends : (job : Job) → IsAccepted job → AsksNothing job → all_over (job_setup job) (whole (job_setup job) (rest_bound_of job) (bound_of job) (moments_of job)) ≡ true
run_ends job accepted asks = all_end job accepted asks (rest_bound_of job) (some_fuel (job_setup job).procs (work_of job.body)) (bound_of job) (omega arith)

pub journal_ends : (job : Job) → IsAccepted job → AsksNothing job → AllHaveEnded job (runs.journal_of job)
journal_ends job accepted asks = shows_all_ends job asks (kills_processes job accepted) (run_ends job accepted asks)
