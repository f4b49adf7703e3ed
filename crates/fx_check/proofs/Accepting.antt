-- A job is accepted exactly where it is refused for nothing.
use Rattle.std.proofs.Common.{◌≡◌, ℕ, ◌≤◌, Bool, true, false, nat_lt, min, if◌then◌else◌, List, [], ◌∷◌, Option, Some, None, refl, arith}
use Rattle.std.specs.List.{AllByRecursion}
use Rattle.std.proofs.lemmas.Bool.Decides.{nat_tests}
use Rattle.fx_base.specs.declared.spot.Spot.{Spot}
use Rattle.fx_script.specs.declared.job.Job.{Job}
use Rattle.fx_check.specs.declared.fault.StaticFault.{StaticFault}
use Rattle.fx_check.specs.Work.{work_of}
use Rattle.fx_check.specs.Parts.{KeepsRules, KeepRules}
use Rattle.fx_check.specs.Acceptance.{Line, lines_of, Rule, rules_of, IsKept, IsAccepted, first_broken, fault_of, Refused, first_or, first_refused, work_refused, refusal_of}

-- a rule that is no reason is kept, and no later one is a reason
no_reason : (kept : Bool) (fault : StaticFault) (later : Option StaticFault) → (if kept then later else Some fault) ≡ None → (kept ≡ true) × (later ≡ None)
no_reason true fault later e = (refl, e)
no_reason false fault later e = absurd cc

none_broken : (rules : List Rule) → first_broken rules ≡ None → AllByRecursion IsKept rules
none_broken [] e = tt
none_broken (rule ∷ rules) e =
    let parts = no_reason rule.0 rule.1 (first_broken rules) e in
    (parts.0, none_broken rules parts.1)

-- the rules that are kept, by their names
named : (l : Line) → AllByRecursion IsKept (rules_of l) → KeepsRules l
named l k = record {
  known = k.0;
  once = k.1.0;
  in_range = k.1.1.0;
  roomy = k.1.1.1.0;
  uniform = k.1.1.1.1.0;
  placed = k.1.1.1.1.1.0;
  same_group = k.1.1.1.1.1.1.0;
  same_member = k.1.1.1.1.1.1.1.0;
  inside = k.1.1.1.1.1.1.1.1.0;
}

unnamed : (l : Line) → KeepsRules l → AllByRecursion IsKept (rules_of l)
unnamed l k = (k.known, (k.once, (k.in_range, (k.roomy, (k.uniform, (k.placed, (k.same_group, (k.same_member, (k.inside, tt)))))))))

pub keeps : (l : Line) → fault_of l ≡ None → KeepsRules l
keeps l e = named l (none_broken (rules_of l) e)

all_kept : (rules : List Rule) → AllByRecursion IsKept rules → first_broken rules ≡ None
all_kept [] all = refl
all_kept (rule ∷ rules) all =
    let e : rule.0 ≡ true = all.0 in
    rw e (all_kept rules all.1)

pub no_fault : (l : Line) → KeepsRules l → fault_of l ≡ None
no_fault l k = all_kept (rules_of l) (unnamed l k)

-- of all lines
pub none_or : (spot : Spot) (fault : Option StaticFault) (later : Option Refused) → first_or spot fault later ≡ None → (fault ≡ None) × (later ≡ None)
none_or spot None later e = (refl, e)
none_or spot (Some fault) later e = absurd cc

pub all_keep : (ls : List Line) → first_refused ls ≡ None → AllByRecursion KeepsRules ls
all_keep [] e = tt
all_keep (l ∷ ls) e =
    let parts = none_or l.spot (fault_of l) (first_refused ls) e in
    (keeps l parts.0, all_keep ls parts.1)

pub none_refused : (ls : List Line) → AllByRecursion KeepsRules ls → first_refused ls ≡ None
none_refused [] all = refl
none_refused (l ∷ ls) all = rw (no_fault l all.0) (none_refused ls all.1)

all_so : (P Q : Line → Type 0) → ((l : Line) → P l → Q l) → (ls : List Line) → AllByRecursion P ls → AllByRecursion Q ls
all_so P Q so [] all = tt
all_so P Q so (l ∷ ls) all = (so l all.0, all_so P Q so ls all.1)

-- and of the work
pub work_by : (job : Job) (o : Option Refused) (b : Bool) → nat_lt 20000 (work_of job.body) ≡ b → work_refused job o ≡ None → (o ≡ None) × (b ≡ false)
work_by job (Some refused) b is e = absurd cc
work_by job None true is e = absurd cc
work_by job None false is e = (refl, refl)

pub at_most : (n : ℕ) → nat_lt 20000 n ≡ false → n ≤ 20000
at_most n e = grind (arith, nat_tests)

not_above : (n : ℕ) → n ≤ 20000 → nat_lt 20000 n ≡ false
not_above n le = grind (arith, nat_tests)

-- no line is refused, and the work isn't too much
apart : (job : Job) (o : Option Refused) → o ≡ None → nat_lt 20000 (work_of job.body) ≡ false → work_refused job o ≡ None
apart job None e is = rw is refl
apart job (Some refused) e is = absurd cc

pub all_named : (job : Job) → IsAccepted job → KeepRules (lines_of job)
all_named job is = all_so (λ l. AllByRecursion IsKept (rules_of l)) KeepsRules named (lines_of job) is.kept

pub accepted_if_none : (job : Job) → refusal_of job ≡ None → IsAccepted job
accepted_if_none job e =
    let parts = work_by job (first_refused (lines_of job)) (nat_lt 20000 (work_of job.body)) refl e in
    record {
      kept = all_so KeepsRules (λ l. AllByRecursion IsKept (rules_of l)) unnamed (lines_of job) (all_keep (lines_of job) parts.0);
      work = at_most (work_of job.body) parts.1;
    }

pub none_if_accepted : (job : Job) → IsAccepted job → refusal_of job ≡ None
none_if_accepted job is = apart job (first_refused (lines_of job)) (none_refused (lines_of job) (all_named job is)) (not_above (work_of job.body) is.work)

-- no line names what isn't there
pub lines_known : (job : Job) → IsAccepted job → AllByRecursion (λ l. l.known ≡ true) (lines_of job)
lines_known job is = all_so KeepsRules (λ l. l.known ≡ true) (λ l k. k.known) (lines_of job) (all_named job is)

pub accepted_by : (job : Job) → first_refused (lines_of job) ≡ None → work_of job.body ≤ 20000 → IsAccepted job
accepted_by job fine le = accepted_if_none job (apart job (first_refused (lines_of job)) fine (not_above (work_of job.body) le))

-- a number that is capped at more than a limit
pub not_capped : (n : ℕ) → min n 20001 ≤ 20000 → n ≤ 20000
not_capped n le = omega (arith, le)
