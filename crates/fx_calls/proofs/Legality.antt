-- The journal of a run with any events is legal, and shows all ends, where the body asks nothing of data groups.
use Rattle.std.proofs.lemmas.Bool.Decides.{nat_tests}
use Rattle.std.specs.List.{filter}
use Rattle.std.proofs.Common.{arith, ◌≡◌, ◌<◌, ℕ, zero, suc, Bool, true, false, List, [], ◌∷◌, ◌++◌, Option, Some, None, refl, sym, ap, subst, ◌∙◌}
use Rattle.std.specs.Prelude.{nat_lt, not, if◌then◌else◌}
use Rattle.fx_ballot.specs.World.{start}
use Rattle.fx_check.specs.Work.{bound_of}
use Rattle.fx_link.specs.declared.slot.Slot.{Slot}
use Rattle.fx_script.specs.declared.job.Job.{Job}
use Rattle.fx_value.proofs.Shapes.{shaped_blank}
use Rattle.fx_store.proofs.Mirrors.{each_at, each_from}
use Rattle.fx_fleet.specs.Rounds.{Moment, is_of_journal, all_happen, journal, all_over, whole}
use Rattle.fx_check.specs.Parts.{KeepsByParts}
use Rattle.fx_calls.specs.Bodies.{AsksNoGroups}
use Rattle.fx_calls.proofs.Plans.{HavePlans}
use Rattle.fx_calls.proofs.Polling.{none_polled, polled_first}
use Rattle.fx_calls.proofs.Speaking.{spoken_first}
use Rattle.fx_fleet.specs.Runs.{job_setup, moments_of, rest_bound_of, journal_of}
use Rattle.fx_fleet.specs.World.{World, first_world, up}
use Rattle.fx_calm.proofs.Lists.{Each}
use Rattle.fx_calm.proofs.Seats.{has_all}
use Rattle.fx_calm.proofs.Standing.{noted}
use Rattle.fx_legal.specs.Effects.{due_kills}
use Rattle.fx_legal.specs.Ledger.{Chapter, first_ledger, first_chapter, procs_of}
use Rattle.fx_legal.specs.Legal.{ledger_of, IsLegal, IsLegalWhole, AllHaveEnded}
use Rattle.fx_losses.specs.Eras.{Era, first_era, era}
use Rattle.fx_losses.proofs.Eras.{next_none}
use Rattle.fx_losses.proofs.Legality.{KillsProcesses}
use Rattle.fx_losses.proofs.Losses.{start_shows}
use Rattle.fx_losses.proofs.Moments.{IsKeptAlong, behind_front, always_along}
use Rattle.fx_losses.proofs.Schedule.{kills_of, kills_are, due_past}
use Rattle.fx_losses.proofs.Standing.{Like}
use Rattle.fx_losses.proofs.Truths.{truthful_first}
use Rattle.fx_calls.proofs.Legally.{Legally, gone_where_not_up}
use Rattle.fx_calls.proofs.Legally.{acts_legally}
use Rattle.fx_calls.proofs.Hearing.{hears_legally, tells_legally}
use Rattle.fx_calls.proofs.Losing.{loses_legally}
use Rattle.fx_calls.proofs.Saying.{Said, said_first}
use Rattle.fx_losses.proofs.Tests.{apart_zero}

-- a kill of who isn't up any more is passed over
pub passes_legally : (job : Job) (ps : List ℕ) (p : ℕ) (w : World) → p < procs_of job → up (job_setup job) w p ≡ false → Legally job (p ∷ ps) w → Legally job ps w
passes_legally job ps p w few off is = record {
  worlds = is.worlds;
  fate = is.fate;
  shows = is.shows;
  truthful = is.truthful;
  goes = is.goes;
  linked = is.linked;
  stepped = is.stepped;
  spoken = is.spoken;
  polls = is.polls;
  delivered = is.delivered;
  polled = is.polled;
  due = due_past (ledger_of job (noted w.items)).stands p (ledger_of job (noted w.items)).kills ps (gone_where_not_up job (ledger_of job (noted w.items)) w is.worlds is.fate is.linked p few ∙ ap not off) is.due;
}

pub passes_polls : (job : Job) (ps : List ℕ) (p : ℕ) (w : World) (few : p < procs_of job) (off : up (job_setup job) w p ≡ false) (is : Legally job (p ∷ ps) w) → (passes_legally job ps p w few off is).polls ≡ is.polls
unfolding passes_legally
passes_polls job ps p w few off is = refl

-- ---- the start

abbrev none_yet : ℕ → Option (List Slot)
none_yet d = None

pub begins : (job : Job) → Legally job (kills_of (moments_of job)) (first_world (job_setup job))
begins job = record {
  worlds = λ d. start;
  fate = none_yet;
  shows = start_shows (job_setup job);
  truthful = truthful_first (job_setup job) (λ d. start) none_yet;
  goes = tt;
  linked = record {
    killed = λ p. refl;
    joined = λ d p. refl;
    eras = eras;
    stands = λ p e. record { stand = refl; empty = refl };
  };
  stepped = record {
    entries = λ e k q v is. absurd (let bad : None ≡ Some v = is in cc);
    nodes = λ q alive. record { shaped = shaped_blank job.names; uncreated = λ g. refl; past = λ e k v is. absurd (let bad : None ≡ Some v = is in cc); at = tt };
  };
  spoken = spoken_first (job_setup job) (first_ledger job);
  polls = none_polled;
  delivered = record { there = λ a b e k v living u ne at is_parts place. absurd (let bad : None ≡ Some v = at in cc); ordered = λ a b u ne. tt };
  polled = polled_first job (job_setup job);
  due = ap (due_kills (first_ledger job).stands) (kills_are job.events);
}
  where
    below : (a b : ℕ) → nat_lt a b ≡ true → a < b
    below a b e = grind (arith, nat_tests)

    eras : (d : ℕ) → Like (first_ledger job) d (era (first_era (job_setup job)) none_yet d) ((first_ledger job).chapters d)
    eras zero = record {
      comm = refl;
      part = λ p e. has_all (procs_of job) p ∙ e;
      rest = λ p a b. absurd (let bad : true ≡ false = sym a ∙ has_all (procs_of job) p ∙ b in cc);
    }
    eras (suc d) =
        subst (λ (o : Option Chapter). Like (first_ledger job) (suc d) (era (first_era (job_setup job)) none_yet (suc d)) o) (ap (λ (b : Bool). if b then Some (first_chapter job) else None) (sym (apart_zero d)))
        (subst (λ (o : Option Era). Like (first_ledger job) (suc d) o None) (sym (next_none d (era (first_era (job_setup job)) none_yet d))) tt)

pub begins_said : (job : Job) → Said (job_setup job) (first_world (job_setup job)) (ledger_of job (noted (first_world (job_setup job)).items)) (begins job).polls
unfolding begins
begins_said job = said_first job (job_setup job)

-- ---- the law

pub kept : (job : Job) → KeepsByParts job → HavePlans job → AsksNoGroups job → IsKeptAlong (job_setup job) (Legally job)
kept job parts planned asks = record {
  acts = λ ps p w act on e is. acts_legally job parts planned asks ps p w act on e is;
  hears = λ ps p q t rest w on e is. hears_legally job ps p q t rest w on e is;
  tells = λ ps p q w dead is. tells_legally job ps p q w dead is;
  loses = λ ps p w on is. loses_legally job ps p w on is;
  passes = λ ps p w few off is. passes_legally job ps p w few off is;
}

pub legally : (job : Job) → KeepsByParts job → HavePlans job → AsksNoGroups job → KillsProcesses job → (fuel bound : ℕ) → Legally job [] (whole (job_setup job) fuel bound (moments_of job))
legally job parts planned asks few fuel bound = always_along (job_setup job) (Legally job) (kept job parts planned asks) (moments_of job) few (begins job) fuel bound

-- behind a front of the schedule too
pub is_legal_so_far : (job : Job) → KeepsByParts job → HavePlans job → AsksNoGroups job → KillsProcesses job → (fuel : ℕ) (front more : List Moment) → moments_of job ≡ front ++ more
    → IsLegal job (filter is_of_journal (all_happen (job_setup job) fuel front (first_world (job_setup job))).items)
is_legal_so_far job parts planned asks few fuel front more same =
    (behind_front (job_setup job) (Legally job) (kept job parts planned asks) fuel front more (first_world (job_setup job)) (subst (λ (l : List Moment). Each (λ p. p < procs_of job) (kills_of l)) same few)
    (subst (λ (l : List Moment). Legally job (kills_of l) (first_world (job_setup job))) same (begins job))).goes

pub is_legal_within : (job : Job) → KeepsByParts job → HavePlans job → AsksNoGroups job → KillsProcesses job → (fuel bound : ℕ) → IsLegalWhole job (journal (job_setup job) fuel bound (moments_of job))
is_legal_within job parts planned asks few fuel bound = let is = legally job parts planned asks few fuel bound in (is.goes, is.due)

pub is_legal : (job : Job) → KeepsByParts job → HavePlans job → AsksNoGroups job → KillsProcesses job → IsLegalWhole job (journal_of job)
is_legal job parts planned asks few = is_legal_within job parts planned asks few (rest_bound_of job) (bound_of job)

-- the world behind the whole run
abbrev last : Job → World
last job = whole (job_setup job) (rest_bound_of job) (bound_of job) (moments_of job)

pub shows_all_ends : (job : Job) → KeepsByParts job → HavePlans job → AsksNoGroups job → KillsProcesses job → all_over (job_setup job) (last job) ≡ true → AllHaveEnded job (journal_of job)
shows_all_ends job parts planned asks few over p below =
    let is = legally job parts planned asks few (rest_bound_of job) (bound_of job) in
    gone_where_not_up job (ledger_of job (journal_of job)) (last job) is.worlds is.fate is.linked p below ∙ each_at (procs_of job) (λ q. not (up (job_setup job) (last job) q)) p over below

pub shows_true_ends : (job : Job) → KeepsByParts job → HavePlans job → AsksNoGroups job → KillsProcesses job → AllHaveEnded job (journal_of job) → all_over (job_setup job) (last job) ≡ true
shows_true_ends job parts planned asks few ended =
    each_from (procs_of job) (λ q. not (up (job_setup job) (last job) q))
    (λ q below.
    let is = legally job parts planned asks few (rest_bound_of job) (bound_of job) in
    sym (gone_where_not_up job (ledger_of job (journal_of job)) (last job) is.worlds is.fate is.linked q below) ∙ ended q below)
