-- Which jobs are accepted, and at which line and for which reason any other is refused.
use Rattle.std.specs.Prelude.{◌≡◌, ℕ, ◌+◌, ◌≤◌, Bool, true, not, ◌&&◌, ◌||◌, nat_lt, if◌then◌else◌, List, [], ◌∷◌, ◌++◌, length, map, Option, Some, None, Result, Ok, Err, codes, pos, refl}
use Rattle.std.specs.List.{AllByRecursion, filter, list_any}
use Rattle.fx_base.specs.declared.spot.Spot.{Spot}
use Rattle.fx_script.specs.declared.job.Callback.{Callback}
use Rattle.fx_script.specs.declared.job.Decl.{Decl}
use Rattle.fx_script.specs.declared.job.Decl.TheVariants as decl
use Rattle.fx_script.specs.declared.job.Event.{Event}
use Rattle.fx_script.specs.declared.job.Job.{Job}
use Rattle.fx_script.specs.declared.job.Stmt.{Stmt}
use Rattle.fx_script.specs.declared.job.Stmt.TheOpen.{Stmt-F}
use Rattle.fx_script.specs.declared.job.Stmt.TheFolds.{fold-Stmt}
use Rattle.fx_script.specs.declared.job.Stmt.TheViews.{out-Stmt}
use Rattle.fx_script.specs.Spelling.{chained}
use Rattle.fx_script.specs.Spots.{spot_level}
use Rattle.fx_check.specs.declared.fault.CheckJob.{CheckJob}
use Rattle.fx_check.specs.declared.fault.CheckJob.TheVariants as check
use Rattle.fx_check.specs.declared.fault.StaticFault.{StaticFault}
use Rattle.fx_check.specs.declared.fault.StaticFault.TheVariants.{UnknownName, NameTwice, OutOfRange, NotUniform, Misplaced, GroupDiffers, MemberDiffers, SubsetOutside, TooMuchWork}
use Rattle.fx_check.specs.declared.surroundings.Surroundings.{Surroundings}
use Rattle.fx_check.specs.Facts.{Facts, facts_of, name_of, decl_spot, is_of, is_array_decl, is_counter_decl, is_call_of}
use Rattle.fx_check.specs.Rules.{body_place, callback_place, inside_when, inside_if, inside_for, is_between, procs_of, is_event_in_range, is_known, is_in_range, has_room, is_uniform, is_placed, agrees_on_group, agrees_on_member, stores_inside}
use Rattle.fx_check.specs.Work.{work_of}

-- ---- the lines of a job

-- a line: its spot, and which of the rules it keeps
pub record Line : Type 0 where
  pub spot : Spot
  pub known : Bool
  pub once : Bool
  pub in_range : Bool
  pub roomy : Bool
  pub uniform : Bool
  pub placed : Bool
  pub same_group : Bool
  pub same_member : Bool
  pub inside : Bool

-- a line of which the other rules don't speak
abbrev pub plain_line : Spot → Bool → Bool → Bool → Line
plain_line spot once in_range roomy = record {
  spot = spot;
  known = true;
  once = once;
  in_range = in_range;
  roomy = roomy;
  uniform = true;
  placed = true;
  same_group = true;
  same_member = true;
  inside = true;
}

-- a line that has numbers alone
abbrev pub number_line : Spot → Bool → Line
number_line spot in_range = plain_line spot true in_range true

-- 1 to 16 ranks, with the spares at most 16 processes, and a separation of 1 to 15
abbrev pub head_lines : Job → List Line
head_lines job =
    number_line job.ranks_spot (is_between 1 16 job.ranks)
    ∷ number_line job.spares_spot (is_between 0 16 job.spares && not (nat_lt 16 (procs_of job)))
    ∷ number_line job.separation_spot (is_between 1 15 job.separation)
    ∷ []

-- an array has 1 to 256 elements
abbrev pub is_decl_in_range : Decl → Bool
is_decl_in_range (decl.Array spot name len) = is_between 1 256 len
is_decl_in_range (decl.Counter spot name) = true

-- behind these declarations: one of the first 8 arrays, or of the first 16 counters
abbrev pub has_decl_room : List Decl → Decl → Bool
has_decl_room before (decl.Array spot name len) = nat_lt (length (filter is_array_decl before)) 8
has_decl_room before (decl.Counter spot name) = nat_lt (length (filter is_counter_decl before)) 16

-- a new name
abbrev pub decl_line : List Decl → Decl → Line
decl_line before d = plain_line (decl_spot d) (not (list_any (is_of (name_of d)) before)) (is_decl_in_range d) (has_decl_room before d)

-- the lines of declarations behind these
abbrev pub decl_lines : List Decl → List Decl → List Line
decl_lines before [] = []
decl_lines before (d ∷ ds) = decl_line before d ∷ decl_lines (before ++ d ∷ []) ds

-- the first line of a statement that stands there
abbrev pub stmt_line : {X : Type 0} → Facts → Surroundings → Stmt-F X → Line
stmt_line f p s = record {
  spot = spot_level s;
  known = is_known f s;
  once = true;
  in_range = is_in_range f s;
  roomy = has_room p s;
  uniform = is_uniform f p s;
  placed = is_placed p s;
  same_group = agrees_on_group f s;
  same_member = agrees_on_member f s;
  inside = stores_inside f s;
}

-- the first line of a statement of its own
abbrev pub judged_line : Facts → Surroundings → Stmt → Line
judged_line f p s = stmt_line f p (out-Stmt s)

-- the lines of a list of statements, each of which gives its own at a place
abbrev pub lines_at : {L : Type 0} → List (Surroundings → List L) → Surroundings → List L
lines_at body p = chained (map (λ lines. lines p) body)

abbrev pub other_lines_at : {L : Type 0} → Option (List (Surroundings → List L)) → Surroundings → List L
other_lines_at None p = []
other_lines_at (Some body) p = lines_at body p

-- the lines of the statements in a statement
abbrev pub inner_lines : {L : Type 0} → Stmt-F (Surroundings → List L) → Surroundings → List L
inner_lines (Stmt-F.RoleOnly spot role body) p = lines_at body (inside_when p)
inner_lines (Stmt-F.Branch spot test left right body other) p = lines_at body (inside_if p) ++ other_lines_at other (inside_if p)
inner_lines (Stmt-F.Loop spot counter first last body) p = lines_at body (inside_for p)
inner_lines simple p = []

abbrev pub stmt_lines_level : Facts → Stmt-F (Surroundings → List Line) → Surroundings → List Line
stmt_lines_level f s p = stmt_line f p s ∷ inner_lines s p

abbrev pub stmt_lines : Facts → Stmt → Surroundings → List Line
stmt_lines f = fold-Stmt (Surroundings → List Line) (stmt_lines_level f)

abbrev pub stmts_lines : Facts → List Stmt → Surroundings → List Line
stmts_lines f ss p = chained (map (λ s. stmt_lines f s p) ss)

-- the lines of a callback's statements behind so many
abbrev pub callback_body_lines : Facts → ℕ → List Stmt → List Line
callback_body_lines f before [] = []
callback_body_lines f before (s ∷ ss) = stmt_lines f s (callback_place before) ++ callback_body_lines f (before + 1) ss

-- a new name, one of the first 8 callbacks
abbrev pub callback_line : Facts → List Callback → Callback → Line
callback_line f before c = plain_line c.spot (not (list_any (is_of c.name) f.names || list_any (is_call_of c.name) before)) true (nat_lt (length before) 8)

-- the lines of callbacks behind these
abbrev pub callbacks_lines : Facts → List Callback → List Callback → List Line
callbacks_lines f before [] = []
callbacks_lines f before (c ∷ cs) = callback_line f before c ∷ (callback_body_lines f 0 c.body ++ callbacks_lines f (before ++ c ∷ []) cs)

-- the lines of events behind so many: at most 100,000
abbrev pub event_lines : ℕ → ℕ → List Event → List Line
event_lines procs before [] = []
event_lines procs before (e ∷ es) = plain_line e.spot true (is_event_in_range procs e.kind) (nat_lt before 100000) ∷ event_lines procs (before + 1) es

-- the lines of a job of which a rule speaks, in their order
abbrev pub lines_of : Job → List Line
lines_of job =
    head_lines job ++ (decl_lines [] job.names ++ (callbacks_lines (facts_of job) [] job.callbacks
    ++ (stmts_lines (facts_of job) job.body body_place ++ event_lines (procs_of job) 0 job.events)))

-- ---- acceptance

-- whether a line keeps a rule, and the reason for which the line is refused where it doesn't
abbrev pub Rule : Type 0
Rule = Bool × StaticFault

-- the rules, in the order of the reasons
abbrev pub rules_of : Line → List Rule
rules_of l =
    (l.known, UnknownName)
    ∷ (l.once, NameTwice)
    ∷ (l.in_range, OutOfRange)
    ∷ (l.roomy, OutOfRange)
    ∷ (l.uniform, NotUniform)
    ∷ (l.placed, Misplaced)
    ∷ (l.same_group, GroupDiffers)
    ∷ (l.same_member, MemberDiffers)
    ∷ (l.inside, SubsetOutside)
    ∷ []

abbrev pub IsKept : Rule → Type 0
IsKept rule = rule.0 ≡ true

-- a job is accepted: each of its lines keeps each rule, and one pass takes at most 20,000 statements
pub record IsAccepted (job : Job) : Type 0 where
  pub kept : AllByRecursion (λ l. AllByRecursion IsKept (rules_of l)) (lines_of job)
  pub work : work_of job.body ≤ 20000

-- the reason of the first rule that isn't kept
abbrev pub first_broken : List Rule → Option StaticFault
first_broken [] = None
first_broken (rule ∷ rules) = if rule.0 then first_broken rules else Some rule.1

-- the first reason for which a line is refused
abbrev pub fault_of : Line → Option StaticFault
fault_of l = first_broken (rules_of l)

-- a reason and the place of its line
pub record Refused : Type 0 where
  pub fault : StaticFault
  pub spot : Spot

-- the first line that is refused
abbrev pub first_or : Spot → Option StaticFault → Option Refused → Option Refused
first_or spot None later = later
first_or spot (Some fault) later = Some (record { fault = fault; spot = spot })

abbrev pub first_refused : List Line → Option Refused
first_refused [] = None
first_refused (l ∷ ls) = first_or l.spot (fault_of l) (first_refused ls)

-- the refusal of a job: of the first line that breaks a rule, or, where none does, of too much work
abbrev pub work_refused : Job → Option Refused → Option Refused
work_refused job (Some refused) = Some refused
work_refused job None = if nat_lt 20000 (work_of job.body) then Some (record { fault = TooMuchWork; spot = job.begin_spot }) else None

abbrev pub refusal_of : Job → Option Refused
refusal_of job = work_refused job (first_refused (lines_of job))

-- this refusal, or memory ran out
abbrev pub Tells : CheckJob → Option Refused → Type 0
Tells (check.Refused fault spot) refusal = refusal ≡ Some (record { fault = fault; spot = spot })
Tells check.NoMemory refusal = Unit {0}

-- the answer is what this refusal is: Ok exactly where there is none
abbrev pub RefusesAs : {X : Type 0} → Result X CheckJob → Option Refused → Type 0
RefusesAs (Ok x) refusal = refusal ≡ None
RefusesAs (Err e) refusal = Tells e refusal

-- the answer isn't a refusal
abbrev pub IsUnrefused : {X : Type 0} → Result X CheckJob → Type 0
IsUnrefused (Ok x) = Unit {0}
IsUnrefused (Err (check.Refused fault spot)) = ⊥
IsUnrefused (Err check.NoMemory) = Unit {0}

-- a job that declares an array twice
abbrev twice : Job
twice = record {
  ranks = pos 1;
  spares = pos 0;
  separation = pos 1;
  ranks_spot = record { line = 2; column = 1 };
  spares_spot = record { line = 3; column = 1 };
  separation_spot = record { line = 4; column = 1 };
  begin_spot = record { line = 7; column = 1 };
  names = decl.Array (record { line = 5; column = 1 }) (codes "a") (pos 3) ∷ decl.Array (record { line = 6; column = 1 }) (codes "a") (pos 999) ∷ [];
  callbacks = [];
  body = [];
  events = [];
}

-- the second line is refused, for its name before its length
refused_twice : refusal_of twice ≡ Some (record { fault = NameTwice; spot = record { line = 6; column = 1 } })
refused_twice = refl
