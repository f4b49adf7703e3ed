-- A whole run.
use Rattle.std.proofs.Common.{◌≡◌, Bool, true, false, Ok, Err, refl, sym, ◌∙◌}
use Rattle.fx_fleet.specs.Rounds.{all_over}
use Rattle.fx_fleet.specs.Runs.{job_setup}
use Rattle.fx_fleet.specs.World.{World}
use Rattle.fx_io.specs.States.{SinkState}
use Rattle.fx_script.specs.declared.job.Job.{Job}
use Rattle.fx_world.specs.declared.counts.Counts.{Counts}
use Rattle.fx_world.specs.declared.end.RunEnd.{RunEnd}
use Rattle.fx_world.specs.declared.end.RunEnd.TheVariants as end
use Rattle.fx_world.specs.declared.shown.Shown.{Shown}
use Rattle.fx_world.specs.Goes.{Goes, GoesWhole}
use Rattle.fx_world.specs.Standings.{Standings, IsWorldOf}

module _ (a b : Standings) (shown : Shown) (i j : SinkState) (f : Job → World → World) where
  pub whole_done : (over : Bool) (counts : Counts) → Goes (Unit {0}) a b shown i j f (Ok tt) → ((job : Job) (w : World) → IsWorldOf job b w → over ≡ all_over (job_setup job) w) → over ≡ true → counts ≡ b.counts
      → GoesWhole a b shown i j f (Ok counts)
  whole_done over counts goes tells is same = record {
    leads = λ job w start asks is_it told_all.
        let now = goes.leads job w start asks is_it told_all in
        (now.0, now.1, sym (tells job (f job w) now.0) ∙ is, same);
    count_never_falls = goes.count_never_falls;
    failed_only_if_count_rose = λ e. absurd cc;
  }

  pub whole_unfinished : (over : Bool) → Goes (Unit {0}) a b shown i j f (Ok tt) → ((job : Job) (w : World) → IsWorldOf job b w → over ≡ all_over (job_setup job) w) → over ≡ false
      → GoesWhole a b shown i j f (Err end.Unfinished)
  whole_unfinished over goes tells is = record {
    leads = λ job w start asks is_it told_all.
        let now = goes.leads job w start asks is_it told_all in
        (now.0, now.1, sym (tells job (f job w) now.0) ∙ is);
    count_never_falls = goes.count_never_falls;
    failed_only_if_count_rose = λ e. absurd cc;
  }

  pub whole_cut : (e : RunEnd) → Goes (Unit {0}) a b shown i j f (Err e) → GoesWhole a b shown i j f (Err e)
  whole_cut end.WriteFault goes = record { leads = goes.leads; count_never_falls = goes.count_never_falls; failed_only_if_count_rose = λ e. goes.failed_only_if_count_rose refl }
  whole_cut end.Unfinished goes = absurd (goes.never_unfinished refl)
  whole_cut end.NoMemory goes = record { leads = goes.leads; count_never_falls = goes.count_never_falls; failed_only_if_count_rose = λ e. absurd cc }
