-- The kills of an accepted job are of its processes.
use Rattle.std.proofs.Common.{◌≡◌, ◌<◌, ℕ, ◌+◌, ℤ, pos, negsuc, true, List, [], ◌∷◌, ◌++◌, map, arith}
use Rattle.std.specs.List.{AllByRecursion}
use Rattle.std.proofs.lemmas.Bool.Decides.{nat_tests}
use Rattle.fx_check.specs.Acceptance.{Line, IsAccepted, head_lines, decl_lines, callbacks_lines, stmts_lines, event_lines}
use Rattle.fx_check.specs.Facts.{facts_of}
use Rattle.fx_check.specs.Parts.{KeepsRules, KeepRules}
use Rattle.fx_check.specs.Rules.{body_place, count_of, procs_of, is_process, is_event_in_range}
use Rattle.fx_check.proofs.Accepting.{all_named}
use Rattle.fx_script.specs.declared.job.Event.{Event}
use Rattle.fx_script.specs.declared.job.EventKind.{EventKind}
use Rattle.fx_script.specs.declared.job.EventKind.TheVariants as event
use Rattle.fx_script.specs.declared.job.Job.{Job}
use Rattle.fx_fleet.specs.Runs.{moment_of}
use Rattle.fx_calm.proofs.Lists.{Each, each_append}
use Rattle.fx_losses.proofs.Schedule.{killed_by, kills_of}
use Rattle.fx_losses.proofs.Legality.{KillsProcesses}

last_part : (Is : Line → Type 0) (xs ys : List Line) → AllByRecursion Is (xs ++ ys) → AllByRecursion Is ys
last_part Is [] ys all = all
last_part Is (x ∷ xs) ys all = last_part Is xs ys all.1

is_below : (procs : ℕ) (n : ℤ) → is_process procs n ≡ true → count_of n < procs
is_below procs (pos n) is = grind (arith, nat_tests, is)
is_below procs (negsuc n) is = absurd cc

one_below : (procs : ℕ) (kind : EventKind) → is_event_in_range procs kind ≡ true → Each (λ p. p < procs) (killed_by (moment_of kind))
one_below procs (event.Step p) is = tt
one_below procs (event.Rest p) is = tt
one_below procs (event.Deliver p q) is = tt
one_below procs (event.Kill p) is = (is_below procs p is, tt)
one_below procs (event.Notice p q) is = tt
one_below procs (event.Run count) is = tt

all_below : (procs before : ℕ) (events : List Event) → KeepRules (event_lines procs before events) → Each (λ p. p < procs) (kills_of (map (λ (e : Event). moment_of e.kind) events))
all_below procs before [] keep = tt
all_below procs before (e ∷ events) keep =
    each_append (λ p. p < procs) (killed_by (moment_of e.kind)) (kills_of (map (λ (e : Event). moment_of e.kind) events)) (one_below procs e.kind keep.0.in_range) (all_below procs (before + 1) events keep.1)

pub kills_processes : (job : Job) → IsAccepted job → KillsProcesses job
kills_processes job is =
    all_below (procs_of job) 0 job.events
    (last_part KeepsRules (stmts_lines (facts_of job) job.body body_place) _
    (last_part KeepsRules (callbacks_lines (facts_of job) [] job.callbacks) _ (last_part KeepsRules (decl_lines [] job.names) _ (last_part KeepsRules (head_lines job) _ (all_named job is)))))
