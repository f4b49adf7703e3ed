-- A fair round leaves a still world, or somebody has come further in it.
use Rattle.std.proofs.Common.{◌≡◌, ◌⊎◌, ◌<◌, inl, inr, ℕ, zero, suc, Bool, true, false, ◌||◌, List, [], Option, Some, None, arith, refl, sym, subst, ◌∙◌}
use Rattle.std.specs.Prelude.{if◌then◌else◌, not, is_none}
use Rattle.std.proofs.lemmas.Bool.{cases_eq}
use Rattle.fx_script.specs.declared.job.Job.{Job}
use Rattle.fx_machine.specs.Nodes.{Act}
use Rattle.fx_machine.specs.Setup.{Setup}
use Rattle.fx_machine.specs.Steps.{next}
use Rattle.fx_deeds.proofs.Whole.{rising_keep}
use Rattle.fx_fleet.specs.Rounds.{in_rising_order, is_quiet, rests, attends, fair_turn, fair_round}
use Rattle.fx_fleet.specs.Runs.{job_setup}
use Rattle.fx_fleet.specs.World.{World, up, does_if, steps}
use Rattle.fx_losses.specs.Losses.{IsStill}
use Rattle.fx_losses.proofs.Fair.{Attended, StillAt}
use Rattle.fx_losses.proofs.Moments.{rest_keeps, turn_keeps, round_keeps, attend_keeps}
use Rattle.fx_losses.proofs.Shows.{up_parts}
use Rattle.fx_calls.proofs.Attended.{attended_not, attended_up, still_there, attends_attended}
use Rattle.fx_calls.proofs.Rising.{Asking, one_more, Far, acts_further, far_kept}

module _ (job : Job) (asking : Asking job) where
  abbrev s : Setup
  s = job_setup job

  -- one that isn't quiet is up, and an action of it is enabled
  not_quiet : (q : ℕ) (w : World) → is_quiet (job_setup job) q w ≡ false → (up (job_setup job) w q ≡ true) × (is_none (next (job_setup job) (w.node q)) ≡ false)
  not_quiet q w e = of (up s w q) (is_none (next s (w.node q))) e
    where
      of : (a b : Bool) → (not a || b) ≡ false → (a ≡ true) × (b ≡ false)
      of true b e = (refl, e)
      of false b e = absurd (let bad : true ≡ false = e in cc)

  pub step_further : (f : ℕ → ℕ) (ps : List ℕ) (q : ℕ) (w : World) → Far job f ps w → is_quiet (job_setup job) q w ≡ false → Far job (one_more q f) ps (steps (job_setup job) q w)
  step_further f ps q w is e =
      let k = not_quiet q w e in
      subst (λ (b : Bool). Far job (one_more q f) ps (if b then does_if s q (next s (w.node q)) w else w)) (sym k.0) (of (next s (w.node q)) refl k.1 k.0)
    where
      of : (o : Option Act) → next s (w.node q) ≡ o → is_none o ≡ false → up s w q ≡ true → Far job (one_more q f) ps (does_if s q o w)
      of None i some on = absurd (let bad : true ≡ false = some in cc)
      of (Some act) i some on = acts_further job asking ps q w act on i is.0 f is.1

  rest_further : (f : ℕ → ℕ) (more q : ℕ) (w : World) → Far job f [] w
      → ((rests (job_setup job) (suc more) q w ≡ w) × (is_quiet (job_setup job) q w ≡ true)) ⊎ Far job (one_more q f) [] (rests (job_setup job) (suc more) q w)
  rest_further f more q w is = of (is_quiet s q w) refl
    where
      of : (b : Bool) → is_quiet s q w ≡ b
          → (((elim b as (λ c. World) [ true ↦ w | false ↦ rests s more q (steps s q w) ]) ≡ w) × (b ≡ true)) ⊎ Far job (one_more q f) [] (elim b as (λ c. World) [ true ↦ w | false ↦ rests s more q (steps s q w) ])
      of true e = inl (refl, refl)
      of false e = inr (rest_keeps s (Far job (one_more q f)) (far_kept job asking (one_more q f)) [] more q (steps s q w) (step_further f [] q w is e))

  -- in its turn a process only attends, and then nothing more can happen to it; or it comes further
  abbrev OnlyAttends : ℕ → World → World → Type 0
  OnlyAttends q w v = Attended q w v × (up (job_setup job) v q ≡ true → StillAt (job_setup job) q v)

  turn_further : (f : ℕ → ℕ) (more q : ℕ) (w : World) → Far job f [] w → OnlyAttends q w (fair_turn (job_setup job) (suc more) q w) ⊎ Far job (one_more q f) [] (fair_turn (job_setup job) (suc more) q w)
  turn_further f more q w is = of (up s w q) refl
    where
      of : (b : Bool) → up s w q ≡ b → OnlyAttends q w (if b then rests s (suc more) q (attends s q w) else w) ⊎ Far job (one_more q f) [] (if b then rests s (suc more) q (attends s q w) else w)
      of false e = inl (attended_not q w, λ on. absurd (let bad : true ≡ false = sym on ∙ e in cc))
      of true e = elim (rest_further f more q (attends s q w) (attend_keeps s (Far job f) (far_kept job asking f) [] q w e is)) [
        | inr further ↦ inr further
        | inl stays ↦
            let a = attends_attended s q w e in
            inl (subst (Attended q w) (sym stays.0) a.0, λ on. subst (StillAt s q) (sym stays.0) (record { clear = a.1; told = a.2; quiet = stays.1 }))
      ]

  -- the turns of the first n
  abbrev AllStill : ℕ → World → Type 0
  AllStill n v = (q : ℕ) → q < n → up (job_setup job) v q ≡ true → StillAt (job_setup job) q v

  abbrev OneFurther : (ℕ → ℕ) → ℕ → World → Type 0
  OneFurther f n v = (q : ℕ) × (q < n) × Far job (one_more q f) [] v

  turns_further : (f : ℕ → ℕ) (more n : ℕ) (w : World) → Far job f [] w → AllStill n (in_rising_order (fair_turn (job_setup job) (suc more)) n w) ⊎ OneFurther f n (in_rising_order (fair_turn (job_setup job) (suc more)) n w)
  turns_further f more zero w is = inl (λ q less on. absurd (omega (arith, less)))
  turns_further f more (suc n) w is = elim (turns_further f more n w is) [
    | inr further ↦ inr (
      further.0,
      (let low = further.1 in omega (arith, low)),
      turn_keeps s (Far job (one_more further.0 f)) (far_kept job asking (one_more further.0 f)) [] (suc more) n v further.2,
    )
    | inl still ↦ elim (turn_further f more n v before) [
      | inr further ↦ inr (n, omega arith, further)
      | inl turn ↦ inl (both still turn)
    ]
  ]
    where
      v : World
      v = in_rising_order (fair_turn s (suc more)) n w

      before : Far job f [] (in_rising_order (fair_turn (job_setup job) (suc more)) n w)
      before = rising_keep (Far job f []) (fair_turn s (suc more)) (λ o x. turn_keeps s (Far job f) (far_kept job asking f) [] (suc more) o x) n w is

      both : AllStill n (in_rising_order (fair_turn (job_setup job) (suc more)) n w)
          → OnlyAttends n (in_rising_order (fair_turn (job_setup job) (suc more)) n w) (fair_turn (job_setup job) (suc more) n (in_rising_order (fair_turn (job_setup job) (suc more)) n w))
          → AllStill (suc n) (fair_turn (job_setup job) (suc more) n (in_rising_order (fair_turn (job_setup job) (suc more)) n w))
      both still turn q less on = elim (cases_eq q n) [
        | inl same ↦ subst (λ (o : ℕ). StillAt s o (fair_turn s (suc more) n v)) (sym same) (turn.1 (subst (λ (o : ℕ). up s (fair_turn s (suc more) n v) o ≡ true) same on))
        | inr ne ↦ still_there s n q v (fair_turn s (suc more) n v) ne turn.0
            (still q (omega (arith, less, ne)) (sym (attended_up s n v (fair_turn s (suc more) n v) turn.0 q) ∙ on))
      ]

  pub round_further : (f : ℕ → ℕ) (more : ℕ) (w : World) → Far job f [] w
      → IsStill (job_setup job) (fair_round (job_setup job) (suc more) w) ⊎ ((q : ℕ) × (q < (job_setup job).procs) × Far job (one_more q f) [] (fair_round (job_setup job) (suc more) w))
  round_further f more w is = elim (turns_further f more s.procs w is) [
    | inr further ↦ inr further
    | inl at ↦ inl (record {
      clear = λ p q small ne on. (at q (up_parts s (fair_round s (suc more) w) q on).0 on).clear p small ne;
      told = λ p q small dead on. (at q (up_parts s (fair_round s (suc more) w) q on).0 on).told p small dead;
      quiet = λ p on. (at p (up_parts s (fair_round s (suc more) w) p on).0 on).quiet;
    })
  ]

  pub round_far : (f : ℕ → ℕ) (fuel : ℕ) (w : World) → Far job f [] w → Far job f [] (fair_round (job_setup job) fuel w)
  round_far f fuel w is = round_keeps s (Far job f) (far_kept job asking f) [] fuel w is
