-- Each process ends: the tail of the run of an accepted job whose body asks nothing but barriers, reductions and agreements is long enough.
use Rattle.std.proofs.Common.{◌≡◌, ◌⊎◌, ◌<◌, ◌≤◌, inl, inr, ℕ, zero, suc, ◌+◌, ◌*◌, Bool, true, false, [], arith, refl, sym, ap, subst, ◌∙◌}
use Rattle.std.proofs.lemmas.Bool.{cases_lt}
use Rattle.std.proofs.lemmas.Nat.{mul-le}
use Rattle.fx_check.specs.Work.{work_of, bound_with, bound_of}
use Rattle.fx_script.specs.declared.job.Job.{Job}
use Rattle.fx_machine.specs.Setup.{Setup}
use Rattle.fx_fleet.specs.Rounds.{fair_round, all_happen, all_over, tail, whole}
use Rattle.fx_fleet.specs.Runs as runs
use Rattle.fx_fleet.specs.Runs.{job_setup, moments_of, rest_bound, rest_bound_of}
use Rattle.fx_fleet.specs.World.{World, first_world}
use Rattle.fx_legal.specs.Ledger.{ranks_of}
use Rattle.fx_legal.specs.Legal.{AllHaveEnded}
use Rattle.fx_losses.specs.Losses.{IsStill}
use Rattle.fx_losses.proofs.Accepted.{kills_processes}
use Rattle.fx_losses.proofs.Ends.{until_done}
use Rattle.fx_losses.proofs.Moments.{always_along}
use Rattle.fx_losses.proofs.Sizes.{accepted_numbers}
use Rattle.fx_losses.proofs.Texts.{put_same, put_other}
use Rattle.fx_calls.proofs.Fair.{round_further, round_far}
use Rattle.fx_calls.proofs.Legality.{shows_all_ends}
use Rattle.fx_calls.proofs.Over.{still_is_over}
use Rattle.fx_calls.proofs.Rests.{top_is, room, nowhere, first_far, behind_all}
use Rattle.fx_calls.proofs.Rising.{Asking, one_more, top, Good, Far, epoch_few, comes_few, far_kept}

-- ---- sums

abbrev sum_below : ℕ → (ℕ → ℕ) → ℕ
sum_below zero f = 0
sum_below (suc n) f = f n + sum_below n f

sum_few : (n : ℕ) (f : ℕ → ℕ) (most : ℕ) → ((q : ℕ) → f q ≤ most) → sum_below n f ≤ n * most
sum_few zero f most few = omega arith
sum_few (suc n) f most few =
    let rest = sum_few n f most few in
    let one = few n in
    let all : suc n * most ≡ most + n * most = grind arith in
    omega (arith, rest, one, all)

sum_beyond : (n q : ℕ) (f : ℕ → ℕ) → n ≤ q → sum_below n (one_more q f) ≡ sum_below n f
sum_beyond zero q f beyond = refl
sum_beyond (suc n) q f beyond =
    let here : one_more q f n ≡ f n = put_other f q n (suc (f q)) (λ e. omega (arith, e, beyond)) in
    let rest = sum_beyond n q f (omega (arith, beyond)) in
    omega (arith, here, rest)

sum_more : (n q : ℕ) (f : ℕ → ℕ) → q < n → sum_below n (one_more q f) ≡ suc (sum_below n f)
sum_more zero q f low = absurd (omega (arith, low))
sum_more (suc n) q f low = elim (cases_lt q n) [
  | inl below ↦
      let here : one_more q f n ≡ f n = put_other f q n (suc (f q)) (λ e. omega (arith, e, below)) in
      let rest = sum_more n q f below in
      omega (arith, here, rest)
  | inr not_below ↦ subst (λ (o : ℕ). sum_below (suc n) (one_more o f) ≡ suc (sum_below (suc n) f)) (last q n (omega (arith, not_below)) low) (at_last n f)
]
  where
    last : (q n : ℕ) → n ≤ q → q < suc n → n ≡ q
    last q n a b = omega (arith, a, b)

    at_last : (n : ℕ) (f : ℕ → ℕ) → sum_below (suc n) (one_more n f) ≡ suc (sum_below (suc n) f)
    at_last n f =
        let here : one_more n f n ≡ suc (f n) = put_same f n (suc (f n)) in
        let rest = sum_beyond n n f (omega arith) in
        omega (arith, here, rest)

sum_none : (n : ℕ) → sum_below n nowhere ≡ 0
sum_none zero = refl
sum_none (suc n) = let rest = sum_none n in omega (arith, rest)

-- ---- the bound

bound_enough : (procs work : ℕ) → 1 ≤ procs → procs * ((2 * procs + 2) * (work * (procs + 4) + procs + 5)) < bound_with procs work
bound_enough procs work some =
    let some_turns : 1 * 1 ≤ procs * (2 * procs + 2) = mul-le 1 1 procs (2 * procs + 2) some (omega arith) in
    let less : procs * (2 * procs + 2) * (work * (procs + 4) + procs + 6) ≤ procs * (2 * procs + 2) * ((work + 2) * (procs + 8)) =
    mul-le (procs * (2 * procs + 2)) (work * (procs + 4) + procs + 6) (procs * (2 * procs + 2)) ((work + 2) * (procs + 8)) (omega arith) (room procs work) in
    let one_less : procs * (2 * procs + 2) * (work * (procs + 4) + procs + 6) ≡ procs * ((2 * procs + 2) * (work * (procs + 4) + procs + 5)) + procs * (2 * procs + 2) = grind arith in
    let right : procs * (2 * procs + 2) * (work + 2) * (procs + 8) ≡ procs * (2 * procs + 2) * ((work + 2) * (procs + 8)) = grind arith in
    omega (arith, some_turns, less, one_less, right)

some_fuel : (procs work : ℕ) → 1 ≤ rest_bound procs work
some_fuel procs work =
    let first : 1 * 1 ≤ (2 * procs + 2) * (work + 2) = mul-le 1 1 (2 * procs + 2) (work + 2) (omega arith) (omega arith) in
    let all : 1 * 1 ≤ (2 * procs + 2) * (work + 2) * (procs + 8) = mul-le 1 1 ((2 * procs + 2) * (work + 2)) (procs + 8) (omega (arith, first)) (omega arith) in
    omega (arith, all)

predecessor : (n : ℕ) → 1 ≤ n → (m : ℕ) × (n ≡ suc m)
predecessor zero some = absurd (omega (arith, some))
predecessor (suc n) some = (n, refl)

-- ---- the tail

module _ (job : Job) (asking : Asking job) where
  abbrev s : Setup
  s = job_setup job

  over_where_still : (w : World) → Good job [] w → IsStill s w → all_over s w ≡ true
  over_where_still w is still = still_is_over job asking [] w is.caused (early (accepted_numbers job asking.accepted).1) still
    where
      early : (job_setup job).procs ≤ 32 → (q : ℕ) → w.killed q ≡ false → (w.node q).epoch < 4294967295
      early low q lives = let few = epoch_few job [] w is q lives in omega (arith, few, low)

  -- what holds of the tail behind a round in which one came further
  abbrev Later : (ℕ → ℕ) → ℕ → ℕ → World → Type 0
  Later f more bound v = (q : ℕ) → Far job (one_more q f) [] v → s.procs * top job < bound + sum_below s.procs (one_more q f) → all_over s (tail s (suc more) bound v) ≡ true

  tail_goes_on : (f : ℕ → ℕ) (more bound : ℕ) (w : World) → Far job f [] w → s.procs * top job < suc bound + sum_below s.procs f → Later f more bound (fair_round s (suc more) w)
      → (IsStill s (fair_round s (suc more) w) ⊎ ((q : ℕ) × (q < s.procs) × Far job (one_more q f) [] (fair_round s (suc more) w))) → all_over s (tail s (suc more) bound (fair_round s (suc more) w)) ≡ true
  tail_goes_on f more bound w is enough later (inl still) =
      let over = over_where_still (fair_round s (suc more) w) (round_far job asking f (suc more) w is).0 still in
      ap (all_over s) (until_done (all_over s) (fair_round s (suc more)) bound (fair_round s (suc more) w) over) ∙ over
  tail_goes_on f more bound w is enough later (inr further) = later further.0 further.2 (let risen = sum_more s.procs further.0 f further.1 in omega (arith, risen, enough))

  tail_over : (f : ℕ → ℕ) (more bound : ℕ) (w : World) → Far job f [] w → s.procs * top job < bound + sum_below s.procs f → all_over s (tail s (suc more) bound w) ≡ true
  tail_over f more zero w is enough = absurd (let few = sum_few s.procs f (top job) (λ q. comes_few job [] w is.0 q (f q) (is.1 q)) in omega (arith, few, enough))
  tail_over f more (suc bound) w is enough = of (λ q. tail_over (one_more q f) more bound (fair_round s (suc more) w)) (all_over s w) refl
    where
      of : Later f more bound (fair_round s (suc more) w) → (b : Bool) → all_over s w ≡ b → all_over s (elim b as (λ c. World) [ true ↦ w | false ↦ tail s (suc more) bound (fair_round s (suc more) w) ]) ≡ true
      of later true e = e
      of later false e = tail_goes_on f more bound w is enough later (round_further job asking f more w is)

  all_end_within : (more bound : ℕ) → s.procs * top job < bound → all_over s (whole s (suc more) bound (moments_of job)) ≡ true
  all_end_within more bound enough =
      tail_over nowhere more bound (all_happen s (suc more) (moments_of job) (first_world s)) (behind_all job asking (suc more))
      (let none = sum_none s.procs in omega (arith, none, enough))

  top_within : (bound : ℕ) → bound_of job ≤ bound → s.procs * top job < bound
  top_within bound enough =
      let procs : ℕ = s.procs in
      let work : ℕ = work_of job.body in
      let numbers = accepted_numbers job asking.accepted in
      let less : procs * ((2 * procs + 2) * (work * (procs + 4) + procs + 5)) < bound_of job = bound_enough procs work (some_procs numbers.0) in
      subst (λ (o : ℕ). procs * o < bound) (sym (top_is job)) (omega (arith, less, enough))
    where
      some_procs : 1 ≤ ranks_of job → 1 ≤ (job_setup job).procs
      some_procs e = omega (arith, e)

  -- with any fuel for a rest but none, the bound of the tail is enough
  pub all_end : (fuel : ℕ) → 1 ≤ fuel → (bound : ℕ) → bound_of job ≤ bound → all_over (job_setup job) (whole (job_setup job) fuel bound (moments_of job)) ≡ true
  all_end fuel some bound enough =
      let m = predecessor fuel some in
      subst (λ (o : ℕ). all_over s (whole s o bound (moments_of job)) ≡ true) (sym m.1) (all_end_within m.0 bound (top_within bound enough))

  pub run_ends : all_over (job_setup job) (whole (job_setup job) (rest_bound_of job) (bound_of job) (moments_of job)) ≡ true
  run_ends = all_end (rest_bound_of job) (some_fuel s.procs (work_of job.body)) (bound_of job) (omega arith)

  pub journal_ends : AllHaveEnded job (runs.journal_of job)
  journal_ends = shows_all_ends job asking.rules asking.planned asking.asks (kills_processes job asking.accepted) run_ends

  -- where nothing more can happen in the run, it is over
  pub is_over : (fuel bound : ℕ) → IsStill (job_setup job) (whole (job_setup job) fuel bound (moments_of job)) → all_over (job_setup job) (whole (job_setup job) fuel bound (moments_of job)) ≡ true
  is_over fuel bound still =
      over_where_still (whole s fuel bound (moments_of job)) (always_along s (Far job nowhere) (far_kept job asking nowhere) (moments_of job) (kills_processes job asking.accepted) (first_far job) fuel bound).0 still
