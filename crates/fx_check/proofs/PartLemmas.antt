-- What an accepted job keeps, part by part, and what a refusal says.
use Rattle.std.proofs.Common.{◌≡◌, ℕ, ◌≤◌, Bool, true, false, not, if◌then◌else◌, List, [], ◌∷◌, ◌++◌, Option, Some, None, refl, sym, ap, ◌∙◌, inl, inr, arith}
use Rattle.std.specs.Prelude.{nat_lt}
use Rattle.std.specs.List.{AllByRecursion, find}
use Rattle.std.specs.Option.{option_map}
use Rattle.std.proofs.lemmas.Bool.{cases_Bool, and_parts, ltb-true, lt-ltb}
use Rattle.std.proofs.lemmas.Bool.Decides.{nat_tests}
use Rattle.fx_base.specs.declared.spot.Spot.{Spot}
use Rattle.fx_script.specs.declared.job.Job.{Job}
use Rattle.fx_check.specs.declared.fault.StaticFault.{StaticFault}
use Rattle.fx_check.specs.declared.fault.StaticFault.TheVariants.{TooMuchWork}
use Rattle.fx_check.specs.Acceptance.{Line, Rule, Refused, IsAccepted, rules_of, first_broken, decl_lines, callbacks_lines, stmts_lines, event_lines, head_lines, lines_of, fault_of, first_or, first_refused, work_refused, refusal_of}
use Rattle.fx_check.specs.Facts.{facts_of, or_first}
use Rattle.fx_check.specs.Parts.{KeepsRules, KeepRules, KeepsByParts, is_broken, reason_of, IsFirstRefused, IsTooMuch, IsRefusal}
use Rattle.fx_check.specs.Rules.{body_place, is_between, procs_of}
use Rattle.fx_check.specs.Work.{work_of}
use Rattle.fx_check.proofs.Accepting.{keeps, all_keep, all_named, none_refused}
use Rattle.fx_check.proofs.Walks.{refused_append}

-- ---- parts

all_front : (P : Line → Type 0) (a b : List Line) → AllByRecursion P (a ++ b) → AllByRecursion P a
all_front P [] b all = tt
all_front P (l ∷ a) b all = (all.0, all_front P a b all.1)

all_behind : (P : Line → Type 0) (a b : List Line) → AllByRecursion P (a ++ b) → AllByRecursion P b
all_behind P [] b all = all
all_behind P (l ∷ a) b all = all_behind P a b all.1

not_more : (n : ℕ) → not (nat_lt 16 n) ≡ true → n ≤ 16
not_more n e = grind (arith, nat_tests)

pub by_parts : (job : Job) → IsAccepted job → KeepsByParts job
by_parts job is =
    let all : KeepRules (lines_of job) = all_named job is in
    let names = decl_lines [] job.names in
    let callbacks = callbacks_lines (facts_of job) [] job.callbacks in
    let body = stmts_lines (facts_of job) job.body body_place in
    let events = event_lines (procs_of job) 0 job.events in
    let behind_head = all_behind KeepsRules (head_lines job) (names ++ (callbacks ++ (body ++ events))) all in
    let behind_names = all_behind KeepsRules names (callbacks ++ (body ++ events)) behind_head in
    let behind_callbacks = all_behind KeepsRules callbacks (body ++ events) behind_names in
    let second = and_parts (is_between 0 16 job.spares) (not (nat_lt 16 (procs_of job))) all.1.0.in_range in
    record {
      ranks = all.0.in_range;
      spares = second.0;
      procs = not_more (procs_of job) second.1;
      separation = all.1.1.0.in_range;
      names = all_front KeepsRules names (callbacks ++ (body ++ events)) behind_head;
      callbacks = all_front KeepsRules callbacks (body ++ events) behind_names;
      body = all_front KeepsRules body events behind_callbacks;
      events = all_behind KeepsRules body events behind_callbacks;
      work = is.work;
    }

-- ---- refusals

-- the reason that is told is that of the first rule that is broken
first_found : (rules : List Rule) → first_broken rules ≡ option_map reason_of (find is_broken rules)
first_found [] = refl
first_found (rule ∷ rules) = elim (cases_Bool rule.0) [
  | inl kept ↦ rw kept (first_found rules)
  | inr broken ↦ rw broken refl
]

least_reason : (l : Line) → fault_of l ≡ option_map reason_of (find is_broken (rules_of l))
least_reason l = first_found (rules_of l)

-- of a line that is refused or isn't, and the lines behind it
first_by : (l : Line) (ls : List Line) (r : Refused) (o : Option StaticFault) → fault_of l ≡ o → first_or l.spot o (first_refused ls) ≡ Some r
    → (first_refused ls ≡ Some r → IsFirstRefused ls r) → IsFirstRefused (l ∷ ls) r
first_by l ls r (Some fault) told e later =
    let same : record { fault = fault; spot = l.spot } ≡ r = cc in
    record {
      front = [];
      line = l;
      behind = ls;
      are = refl;
      kept = tt;
      spot = ap (λ (x : Refused). x.spot) same;
      fault = sym (least_reason l) ∙ told ∙ ap (λ (x : Refused). Some x.fault) same;
    }
first_by l ls r None told e later =
    let f = later e in
    record {
      front = l ∷ f.front;
      line = f.line;
      behind = f.behind;
      are = ap (λ (x : List Line). l ∷ x) f.are;
      kept = (keeps l told, f.kept);
      spot = f.spot;
      fault = f.fault;
    }

first_of : (ls : List Line) (r : Refused) → first_refused ls ≡ Some r → IsFirstRefused ls r
first_of [] r e = absurd cc
first_of (l ∷ ls) r e = first_by l ls r (fault_of l) refl e (first_of ls r)

much_by : (job : Job) (r : Refused) (b : Bool) → nat_lt 20000 (work_of job.body) ≡ b → KeepRules (lines_of job)
    → (if b then Some (record { fault = TooMuchWork; spot = job.begin_spot }) else None) ≡ Some r → IsTooMuch job r
much_by job r true much kept e = record { kept = kept; much = ltb-true 20000 (work_of job.body) much; is = cc }
much_by job r false much kept e = absurd cc

refusal_by : (job : Job) (r : Refused) (o : Option Refused) → first_refused (lines_of job) ≡ o → work_refused job o ≡ Some r → IsRefusal job r
refusal_by job r (Some first) is e = inl (first_of (lines_of job) r (is ∙ e))
refusal_by job r None is e = inr (much_by job r (nat_lt 20000 (work_of job.body)) refl (all_keep (lines_of job) is) e)

pub is_refusal : (job : Job) (r : Refused) → refusal_of job ≡ Some r → IsRefusal job r
is_refusal job r e = refusal_by job r (first_refused (lines_of job)) refl e

-- ---- and back

refused_behind : (front rest : List Line) → KeepRules front → first_refused (front ++ rest) ≡ first_refused rest
refused_behind front rest kept = refused_append front rest ∙ ap (λ (o : Option Refused). or_first o (first_refused rest)) (none_refused front kept)

first_told : (ls : List Line) (r : Refused) → IsFirstRefused ls r → first_refused ls ≡ Some r
first_told ls r f =
    ap first_refused f.are ∙ refused_behind f.front (f.line ∷ f.behind) f.kept
    ∙ ap (λ (o : Option StaticFault). first_or f.line.spot o (first_refused f.behind)) (least_reason f.line ∙ f.fault)
    ∙ ap (λ (spot : Spot). Some (record { fault = r.fault; spot = spot })) f.spot

much_told : (job : Job) (r : Refused) → IsTooMuch job r → work_refused job None ≡ Some r
much_told job r m = rw (lt-ltb 20000 (work_of job.body) m.much) (ap Some (sym m.is))

pub is_told : (job : Job) (r : Refused) → IsRefusal job r → refusal_of job ≡ Some r
is_told job r is = elim is [
  | inl f ↦ ap (work_refused job) (first_told (lines_of job) r f)
  | inr m ↦ ap (work_refused job) (none_refused (lines_of job) m.kept) ∙ much_told job r m
]
