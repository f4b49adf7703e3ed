-- The journal of a calm run is legal, and shows all ends.
use Rattle.std.proofs.lemmas.Bool.Decides.{nat_tests}
use Rattle.std.proofs.Common.{arith, ◌≡◌, ◌≤◌, ◌<◌, ℕ, zero, suc, Bool, true, false, not, ◌&&◌, List, [], ◌∷◌, map, refl, sym, ap, subst, ◌∙◌}
use Rattle.std.specs.Prelude.{nat_lt}
use Rattle.std.specs.List.{list_all}
use Rattle.fx_script.specs.declared.job.Event.{Event}
use Rattle.fx_script.specs.declared.job.EventKind.{EventKind}
use Rattle.fx_script.specs.declared.job.EventKind.TheVariants as event
use Rattle.fx_script.specs.declared.job.Job.{Job}
use Rattle.fx_script.specs.Spelling.{IsWritable}
use Rattle.fx_check.specs.Facts.{facts_of}
use Rattle.fx_check.specs.Work.{bound_of}
use Rattle.fx_ballot.specs.Turn.{Phase, Round}
use Rattle.fx_store.proofs.Mirrors.{each_at, each_from}
use Rattle.fx_walk.specs.Lengths.{is_plain}
use Rattle.fx_walk.specs.Walk.{Walk}
use Rattle.fx_walk.proofs.Plain.{only_prints}
use Rattle.fx_machine.specs.Nodes.{Node, Stage, Begins, Joining, Arrived, Walking, Calling, Failed, Over, has_ended}
use Rattle.fx_machine.specs.Reading.{next_ballot, turn_in}
use Rattle.fx_fleet.specs.World.{World, first_world, up}
use Rattle.fx_fleet.specs.Rounds.{all_over, whole}
use Rattle.fx_fleet.specs.Runs.{AsksNothing, job_setup, moment_of, moments_of, rest_bound_of, journal_of}
use Rattle.fx_legal.specs.Effects.{due_kills}
use Rattle.fx_legal.specs.Ledger.{Ledger, procs_of, kills_in}
use Rattle.fx_legal.specs.Legal.{IsLegalWhole, AllHaveEnded, ledger_of}
use Rattle.fx_legal.specs.Stands.{is_gone}
use Rattle.fx_calm.specs.Calm.{is_calm, IsPeaceful, HoldsAllVotes}
use Rattle.fx_calm.proofs.Standing.{InPhase, IsEarly, AtStage, IsCalm, Tied, Legally, gone_where_over}
use Rattle.fx_calm.proofs.Turns.{Agrees, agrees}
use Rattle.fx_calm.proofs.Events.{acts_legally, hears_legally}
use Rattle.fx_calm.proofs.Moments.{IsCalmlyKept, calm_always}

both_true : (a b : Bool) → (a && b) ≡ true → (a ≡ true) × (b ≡ true)
both_true true b e = (refl, e)
both_true false b e = absurd cc

-- calm events kill nobody
no_kills : (events : List Event) → list_all is_calm (map (λ e. moment_of e.kind) events) ≡ true → kills_in events ≡ []
no_kills [] calm = refl
no_kills (e ∷ events) calm =
    let both = both_true (is_calm (moment_of e.kind)) (list_all is_calm (map (λ (e : Event). moment_of e.kind) events)) calm in
    none e.kind both.0 (no_kills events both.1)
  where
    none : (k : EventKind) → is_calm (moment_of k) ≡ true → kills_in events ≡ [] → kills_in (record e { kind = k } ∷ events) ≡ []
    none (event.Kill process) calm rest = absurd cc
    none (event.Step process) calm rest = rest
    none (event.Rest process) calm rest = rest
    none (event.Deliver from to) calm rest = rest
    none (event.Notice lost to) calm rest = rest
    none (event.Run rounds) calm rest = rest

pub kept : (job : Job) → AsksNothing job → IsCalmlyKept (job_setup job) (Legally job)
kept job asks = record {
  living = λ w is p. is.tied.killed p;
  acts = λ p w act on e is. acts_legally job asks p w act on e is;
  hears = λ p q t rest w e is. hears_legally job p q t rest w e is;
}

begins : (job : Job) → kills_in job.events ≡ [] → Legally job (first_world (job_setup job))
begins job none = record {
  goes = tt;
  tied = record {
    killed = λ p. refl;
    me = λ p. refl;
    each = λ p. record { lost = λ q. refl; comm = refl; present = refl; named = refl; at = (refl, refl); texts = λ q. tt };
    links = λ a b. tt;
    book = record {
      kills = none;
      first = refl;
      comm = λ c e. absurd cc;
      there = λ c e q is. absurd cc;
      all = λ c e q few. absurd cc;
      later = refl;
    };
  };
}

pub calmly : (job : Job) → AsksNothing job → list_all is_calm (moments_of job) ≡ true → (fuel bound : ℕ) → Legally job (whole (job_setup job) fuel bound (moments_of job))
calmly job asks calm fuel bound = calm_always (job_setup job) (Legally job) (kept job asks) (begins job (no_kills job.events calm)) fuel bound (moments_of job) calm

pub is_legal : (job : Job) → AsksNothing job → list_all is_calm (moments_of job) ≡ true → IsLegalWhole job (journal_of job)
is_legal job asks calm =
    let is = calmly job asks calm (rest_bound_of job) (bound_of job) in
    (is.goes, ap (due_kills (ledger_of job (journal_of job)).stands) is.tied.book.kills)

-- ---- what holds of the world

is_early : (job : Job) (l : Ledger) (p e : ℕ) (walk : Walk) (x : Stage) → AtStage job l p e walk x → e ≤ 1
is_early job l p e walk Begins h = let first = h.0 in omega (arith, first)
is_early job l p e walk (Joining phase) h = below e h.early
  where
    below : (e : ℕ) → IsEarly l e → e ≤ 1
    below zero early = omega arith
    below (suc zero) early = omega arith
    below (suc (suc e)) early = absurd early
is_early job l p e walk Arrived h = let first = h.first in omega (arith, first)
is_early job l p e walk Walking h = let first = h.first in omega (arith, first)
is_early job l p e walk (Calling core) h = absurd h
is_early job l p e walk Failed h = absurd h
is_early job l p e walk Over h = let first = h.first in omega (arith, first)

pub is_peaceful : (job : Job) (l : Ledger) (w : World) → Tied job l w → IsPeaceful job w
is_peaceful job l w tied = record {
  living = tied.killed;
  lost_none = λ p q. (tied.each p).lost q;
  early = λ p. is_early job l (w.node p).me (w.node p).epoch (w.node p).walk (w.node p).stage (tied.each p).at;
  seated = λ p. (tied.each p).comm;
  present = λ p. (tied.each p).present;
}

-- the phase of a node that joins
phase_is : (job : Job) (l : Ledger) (n : Node) → IsCalm job l n → (phase : Phase) → n.stage ≡ Joining phase → InPhase job l (suc n.epoch) phase
phase_is job l n is phase e = (subst (AtStage job l n.me n.epoch n.walk) e is.at).holds

pub holds_all_votes : (job : Job) (l : Ledger) (w : World) → Tied job l w → HoldsAllVotes job w
holds_all_votes job l w tied = record {
  held = λ p round slots e. (phase_is job l (w.node p) (tied.each p) (Round round slots) e).votes;
  decided = λ p phase slots e decides.
      let here = agrees job l (w.node p) (tied.each p) phase (phase_is job l (w.node p) (tied.each p) phase e) in
      (subst (Agrees job l (suc (w.node p).epoch) (turn_in (next_ballot (w.node p)) (w.node p) phase).phase) decides here).votes;
}

-- ---- who has ended

-- a process of the job is gone by the ledger just where it isn't up
gone_where_not_up : (job : Job) (l : Ledger) (w : World) → Tied job l w → (p : ℕ) → p < procs_of job → is_gone (l.stands p) ≡ not (up (job_setup job) w p)
gone_where_not_up job l w tied p few =
    subst (λ (m : ℕ). is_gone (l.stands m) ≡ has_ended (w.node p)) (tied.me p)
    (gone_where_over job l (w.node p).me (w.node p).epoch (w.node p).walk (w.node p).stage (tied.each p).at)
    ∙ down (nat_lt p (procs_of job)) (w.killed p) (has_ended (w.node p)) (less_true p (procs_of job) few) (tied.killed p)
  where
    less_true : (a b : ℕ) → a < b → nat_lt a b ≡ true
    less_true a b e = grind (arith, nat_tests, e)

    down : (a b c : Bool) → a ≡ true → b ≡ false → c ≡ not (a && (not b && not c))
    down true false true few living = refl
    down true false false few living = refl
    down true true c few living = absurd cc
    down false b c few living = absurd cc

-- the world behind the whole run
abbrev last : Job → World
last job = whole (job_setup job) (rest_bound_of job) (bound_of job) (moments_of job)

pub shows_all_ends : (job : Job) → AsksNothing job → list_all is_calm (moments_of job) ≡ true → all_over (job_setup job) (last job) ≡ true → AllHaveEnded job (journal_of job)
shows_all_ends job asks calm over p few =
    gone_where_not_up job (ledger_of job (journal_of job)) (last job) (calmly job asks calm (rest_bound_of job) (bound_of job)).tied p few
    ∙ each_at (procs_of job) (λ q. not (up (job_setup job) (last job) q)) p over few

pub shows_true_ends : (job : Job) → AsksNothing job → list_all is_calm (moments_of job) ≡ true → AllHaveEnded job (journal_of job) → all_over (job_setup job) (last job) ≡ true
shows_true_ends job asks calm ended =
    each_from (procs_of job) (λ q. not (up (job_setup job) (last job) q))
    (λ q few. sym (gone_where_not_up job (ledger_of job (journal_of job)) (last job) (calmly job asks calm (rest_bound_of job) (bound_of job)).tied q few) ∙ ended q few)

-- ---- bodies

-- statements that a rank carries out by itself ask nothing
pub plain_asks_nothing : (job : Job) → IsWritable job → list_all is_plain job.body ≡ true → AsksNothing job
plain_asks_nothing job writable plain = only_prints (facts_of job) job.body 64 writable.body plain
