-- What an accepted job keeps, part by part, and what a refusal says.
use Rattle.std.specs.Prelude.{◌≡◌, ◌≤◌, ◌<◌, ◌⊎◌, Bool, true, false, not, List, ◌∷◌, ◌++◌, [], Some, refl}
use Rattle.std.specs.List.{AllByRecursion, find}
use Rattle.std.specs.Option.{option_map}
use Rattle.fx_script.specs.declared.job.Job.{Job}
use Rattle.fx_check.specs.declared.fault.StaticFault.{StaticFault}
use Rattle.fx_check.specs.declared.fault.StaticFault.TheVariants.{OutOfRange, TooMuchWork}
use Rattle.fx_check.specs.Acceptance.{Line, Rule, Refused, plain_line, decl_lines, callbacks_lines, stmts_lines, event_lines, lines_of, rules_of, fault_of}
use Rattle.fx_check.specs.Facts.{facts_of}
use Rattle.fx_check.specs.Rules.{body_place, is_between, procs_of}
use Rattle.fx_check.specs.Work.{work_of}

-- a line that keeps every rule, by the rules' names
pub record KeepsRules (l : Line) : Type 0 where
  pub known : l.known ≡ true
  pub once : l.once ≡ true
  pub in_range : l.in_range ≡ true
  pub roomy : l.roomy ≡ true
  pub uniform : l.uniform ≡ true
  pub placed : l.placed ≡ true
  pub same_group : l.same_group ≡ true
  pub same_member : l.same_member ≡ true
  pub inside : l.inside ≡ true

abbrev pub KeepRules : List Line → Type 0
KeepRules lines = AllByRecursion KeepsRules lines

-- the parts of an accepted job, each of which keeps every rule
pub record KeepsByParts (job : Job) : Type 0 where
  pub ranks : is_between 1 16 job.ranks ≡ true
  pub spares : is_between 0 16 job.spares ≡ true
  pub procs : procs_of job ≤ 16
  pub separation : is_between 1 15 job.separation ≡ true
  pub names : KeepRules (decl_lines [] job.names)
  pub callbacks : KeepRules (callbacks_lines (facts_of job) [] job.callbacks)
  pub body : KeepRules (stmts_lines (facts_of job) job.body body_place)
  pub events : KeepRules (event_lines (procs_of job) 0 job.events)
  pub work : work_of job.body ≤ 20000

-- a rule that a line breaks
abbrev pub is_broken : Rule → Bool
is_broken rule = not rule.0

-- the reason of a rule
abbrev pub reason_of : Rule → StaticFault
reason_of rule = rule.1

-- a refusal at the first of the lines that breaks a rule, for the reason of the first rule that it breaks
pub record IsFirstRefused (lines : List Line) (r : Refused) : Type 0 where
  pub front : List Line
  pub line : Line
  pub behind : List Line
  pub are : lines ≡ front ++ line ∷ behind
  pub kept : KeepRules front
  pub spot : line.spot ≡ r.spot
  pub fault : option_map reason_of (find is_broken (rules_of line)) ≡ Some r.fault

-- too much work, where no line breaks a rule
pub record IsTooMuch (job : Job) (r : Refused) : Type 0 where
  pub kept : KeepRules (lines_of job)
  pub much : 20000 < work_of job.body
  pub is : r ≡ record { fault = TooMuchWork; spot = job.begin_spot }

-- what a refusal of a job is
abbrev pub IsRefusal : Job → Refused → Type 0
IsRefusal job r = IsFirstRefused (lines_of job) r ⊎ IsTooMuch job r

-- of two reasons the first in order is given
two_reasons : fault_of (record (plain_line (record { line = 9; column = 1 }) true false true) { uniform = false }) ≡ Some OutOfRange
two_reasons = refl
