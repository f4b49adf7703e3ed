-- The first refusal of lists of lines, and the lines of blocks.
use Rattle.std.proofs.Common.{◌≡◌, ℕ, ◌+◌, ◌<◌, true, ◌&&◌, List, [], ◌∷◌, ◌++◌, map, length, drop, get_or, add-one, drop-cons, Option, Some, None, Result, refl, sym, ap, subst, ◌∙◌}
use Rattle.std.proofs.lemmas.Bool.{and_parts, ltb-true}
use Rattle.std.proofs.lemmas.List.{append-nil}
use Rattle.fx_base.specs.declared.names.Role.{Role}
use Rattle.fx_base.specs.declared.spot.Spot.{Spot}
use Rattle.std.specs.Prelude.{ℤ, nat_lt}
use Rattle.fx_script.specs.declared.expr.Expr.{Expr}
use Rattle.fx_script.specs.declared.job.Stmt.{Stmt}
use Rattle.fx_script.specs.declared.job.Stmt.TheVariants as stmt
use Rattle.fx_script.specs.declared.job.Stmt.TheOpen.{Stmt-F}
use Rattle.fx_script.specs.declared.job.Stmt.TheFolds.{fold-roll-Stmt, fold_out-Stmt, map-Stmt}
use Rattle.fx_script.specs.declared.job.Stmt.TheViews.{out-Stmt, out-roll-Stmt}
use Rattle.fx_script.specs.declared.job.Test.{Test}
use Rattle.fx_script.specs.Spots.{spot_level, stmt_spot}
use Rattle.fx_check.specs.declared.fault.CheckJob.{CheckJob}
use Rattle.fx_check.specs.declared.fault.CheckJob.TheVariants as check
use Rattle.fx_check.specs.declared.fault.StaticFault.{StaticFault}
use Rattle.fx_check.specs.declared.surroundings.Surroundings.{Surroundings}
use Rattle.fx_check.specs.Acceptance.{Line, Refused, stmt_line, judged_line, lines_at, stmt_lines_level, stmt_lines, stmts_lines, fault_of, first_or, first_refused, Tells, RefusesAs}
use Rattle.fx_check.specs.Facts.{Facts, or_first}
use Rattle.fx_check.proofs.Accepting.{keeps}
use Rattle.fx_check.specs.Rules.{inside_when, inside_if, inside_for}

-- ---- refusals

or_of_or : (spot : Spot) (o : Option StaticFault) (a b : Option Refused) → first_or spot o (or_first a b) ≡ or_first (first_or spot o a) b
or_of_or spot None a b = refl
or_of_or spot (Some fault) a b = refl

pub refused_append : (a b : List Line) → first_refused (a ++ b) ≡ or_first (first_refused a) (first_refused b)
refused_append [] b = refl
refused_append (l ∷ a) b = ap (first_or l.spot (fault_of l)) (refused_append a b) ∙ or_of_or l.spot (fault_of l) (first_refused a) (first_refused b)

-- where the first lines give no refusal, the others do
pub answers_on : {X : Type 0} (r : Result X CheckJob) (a b : List Line) → first_refused a ≡ None → RefusesAs r (first_refused b) → RefusesAs r (first_refused (a ++ b))
answers_on r a b none then =
    let same : first_refused (a ++ b) ≡ first_refused b = refused_append a b ∙ ap (λ (o : Option Refused). or_first o (first_refused b)) none in
    subst (λ (o : Option Refused). RefusesAs r o) (sym same) then

-- a refusal of the first lines is that of all
pub answers_stop : (e : CheckJob) (a b : List Line) → Tells e (first_refused a) → Tells e (first_refused (a ++ b))
answers_stop (check.Refused fault spot) a b is = refused_append a b ∙ ap (λ (o : Option Refused). or_first o (first_refused b)) is
answers_stop check.NoMemory a b is = tt

pub refuses_on : (e : CheckJob) (a b : List Line) → first_refused a ≡ None → Tells e (first_refused b) → Tells e (first_refused (a ++ b))
refuses_on e a b none then =
    let same : first_refused (a ++ b) ≡ first_refused b = refused_append a b ∙ ap (λ (o : Option Refused). or_first o (first_refused b)) none in
    subst (λ (o : Option Refused). Tells e o) (sym same) then

pub none_append : (a b : List Line) → first_refused a ≡ None → first_refused b ≡ None → first_refused (a ++ b) ≡ None
none_append a b first then = refused_append a b ∙ ap (λ (o : Option Refused). or_first o (first_refused b)) first ∙ then

-- one line
pub one_fine : (l : Line) → fault_of l ≡ None → first_refused (l ∷ []) ≡ None
one_fine l none = ap (λ (o : Option StaticFault). first_or l.spot o None) none

-- a loop over lines: what is left is refused as all are
pub loop_stops : (e : CheckJob) (a b whole all : List Line) → whole ≡ a ++ b → first_refused whole ≡ first_refused all → Tells e (first_refused a) → Tells e (first_refused all)
loop_stops e a b whole all is same refuses = subst (λ (o : Option Refused). Tells e o) (ap first_refused (sym is) ∙ same) (answers_stop e a b refuses)

pub loop_goes_on : (a b whole all : List Line) → whole ≡ a ++ b → first_refused whole ≡ first_refused all → first_refused a ≡ None → first_refused b ≡ first_refused all
loop_goes_on a b whole all is same none =
    sym (ap (λ (o : Option Refused). or_first o (first_refused b)) none) ∙ sym (refused_append a b) ∙ ap first_refused (sym is) ∙ same

-- ---- the spot of a statement

spot_bare : (x : Stmt-F Stmt) → spot_level (map-Stmt Stmt Spot stmt_spot x) ≡ spot_level x
spot_bare (Stmt-F.Barrier spot) = refl
spot_bare other = refl

pub told_spot : (s : Stmt) → stmt_spot s ≡ spot_level (out-Stmt s)
told_spot s = fold_out-Stmt Spot spot_level s ∙ spot_bare (out-Stmt s)

-- ---- the lines of blocks

lines_map : (f : Facts) (ss : List Stmt) (p : Surroundings) → lines_at (map (stmt_lines f) ss) p ≡ stmts_lines f ss p
lines_map f [] p = refl
lines_map f (s ∷ ss) p = ap (λ (l : List Line). stmt_lines f s p ++ l) (lines_map f ss p)

pub when_lines : (f : Facts) (p : Surroundings) (s : Stmt) (spot : Spot) (role : Role) (body : List Stmt) → s ≡ stmt.RoleOnly spot role body → stmt_lines f s p ≡ judged_line f p s ∷ stmts_lines f body (inside_when p)
when_lines f p s spot role body is =
    let x : Stmt-F Stmt = Stmt-F.RoleOnly spot role body in
    let rolled = is ∙ sym (stmt.rolls-RoleOnly spot role body) in
    ap (λ (t : Stmt). stmt_lines f t p) rolled ∙ ap (λ (l : Surroundings → List Line). l p) (fold-roll-Stmt (Surroundings → List Line) (stmt_lines_level f) x)
    ∙ ap (λ (l : List Line). stmt_line f p x ∷ l) (lines_map f body (inside_when p))
    ∙ ap (λ (l : Line). l ∷ stmts_lines f body (inside_when p)) (sym (ap (judged_line f p) rolled ∙ ap (λ (y : Stmt-F Stmt). stmt_line f p y) (out-roll-Stmt x)))

pub for_lines : (f : Facts) (p : Surroundings) (s : Stmt) (spot : Spot) (counter : List ℕ) (first : Expr) (last : ℤ) (body : List Stmt) → s ≡ stmt.Loop spot counter first last body
    → stmt_lines f s p ≡ judged_line f p s ∷ stmts_lines f body (inside_for p)
for_lines f p s spot counter first last body is =
    let x : Stmt-F Stmt = Stmt-F.Loop spot counter first last body in
    let rolled = is ∙ sym (stmt.rolls-Loop spot counter first last body) in
    ap (λ (t : Stmt). stmt_lines f t p) rolled ∙ ap (λ (l : Surroundings → List Line). l p) (fold-roll-Stmt (Surroundings → List Line) (stmt_lines_level f) x)
    ∙ ap (λ (l : List Line). stmt_line f p x ∷ l) (lines_map f body (inside_for p))
    ∙ ap (λ (l : Line). l ∷ stmts_lines f body (inside_for p)) (sym (ap (judged_line f p) rolled ∙ ap (λ (y : Stmt-F Stmt). stmt_line f p y) (out-roll-Stmt x)))

pub if_lines : (f : Facts) (p : Surroundings) (s : Stmt) (spot : Spot) (t : Test) (left right : Expr) (chosen other : List Stmt) (o : Option (List Stmt)) → s ≡ stmt.Branch spot t left right chosen o → o ≡ Some other
    → stmt_lines f s p ≡ judged_line f p s ∷ (stmts_lines f chosen (inside_if p) ++ stmts_lines f other (inside_if p))
if_lines f p s spot t left right chosen other o is some =
    let x : Stmt-F Stmt = Stmt-F.Branch spot t left right chosen (Some other) in
    let rolled = is ∙ ap (λ (y : Option (List Stmt)). stmt.Branch spot t left right chosen y) some ∙ sym (stmt.rolls-Branch spot t left right chosen (Some other)) in
    ap (λ (y : Stmt). stmt_lines f y p) rolled ∙ ap (λ (l : Surroundings → List Line). l p) (fold-roll-Stmt (Surroundings → List Line) (stmt_lines_level f) x)
    ∙ ap (λ (l : List Line). stmt_line f p x ∷ (l ++ lines_at (map (stmt_lines f) other) (inside_if p))) (lines_map f chosen (inside_if p))
    ∙ ap (λ (l : List Line). stmt_line f p x ∷ (stmts_lines f chosen (inside_if p) ++ l)) (lines_map f other (inside_if p))
    ∙ ap (λ (l : Line). l ∷ (stmts_lines f chosen (inside_if p) ++ stmts_lines f other (inside_if p))) (sym (ap (judged_line f p) rolled ∙ ap (λ (y : Stmt-F Stmt). stmt_line f p y) (out-roll-Stmt x)))

-- what is behind the first line of a statement, which isn't refused, answers for all
pub answers_behind : {X : Type 0} (r : Result X CheckJob) (l : Line) (ls all : List Line) → all ≡ l ∷ ls → fault_of l ≡ None → RefusesAs r (first_refused ls) → RefusesAs r (first_refused all)
answers_behind r l ls all is none then =
    let same : first_refused all ≡ first_refused ls = ap first_refused is ∙ ap (λ (o : Option StaticFault). first_or l.spot o (first_refused ls)) none in
    subst (λ (o : Option Refused). RefusesAs r o) (sym same) then

pub refuses_behind : (e : CheckJob) (l : Line) (ls all : List Line) → all ≡ l ∷ ls → fault_of l ≡ None → Tells e (first_refused ls) → Tells e (first_refused all)
refuses_behind e l ls all is none then =
    let same : first_refused all ≡ first_refused ls = ap first_refused is ∙ ap (λ (o : Option StaticFault). first_or l.spot o (first_refused ls)) none in
    subst (λ (o : Option Refused). Tells e o) (sym same) then

-- the lines of what is left of a list of statements
pub lines_from : (f : Facts) (p : Surroundings) (ss : List Stmt) (i : ℕ) (s : Stmt) → i < length ss → s ≡ get_or ss i s → stmts_lines f (drop i ss) p ≡ stmt_lines f s p ++ stmts_lines f (drop (i + 1) ss) p
lines_from f p ss i s within is =
    let from : drop i ss ≡ s ∷ drop (i + 1) ss = drop-cons ss i s within ∙ rw (← is, add-one) refl in
    ap (λ (l : List Stmt). stmts_lines f l p) from

pub if_alone_lines : (f : Facts) (p : Surroundings) (s : Stmt) (spot : Spot) (t : Test) (left right : Expr) (chosen : List Stmt) (o : Option (List Stmt)) → s ≡ stmt.Branch spot t left right chosen o → o ≡ None
    → stmt_lines f s p ≡ judged_line f p s ∷ stmts_lines f chosen (inside_if p)
if_alone_lines f p s spot t left right chosen o is none =
    let x : Stmt-F Stmt = Stmt-F.Branch spot t left right chosen None in
    let rolled = is ∙ ap (λ (y : Option (List Stmt)). stmt.Branch spot t left right chosen y) none ∙ sym (stmt.rolls-Branch spot t left right chosen None) in
    ap (λ (y : Stmt). stmt_lines f y p) rolled ∙ ap (λ (l : Surroundings → List Line). l p) (fold-roll-Stmt (Surroundings → List Line) (stmt_lines_level f) x)
    ∙ ap (λ (l : List Line). stmt_line f p x ∷ l) (append-nil (lines_at (map (stmt_lines f) chosen) (inside_if p)) ∙ lines_map f chosen (inside_if p))
    ∙ ap (λ (l : Line). l ∷ stmts_lines f chosen (inside_if p)) (sym (ap (judged_line f p) rolled ∙ ap (λ (y : Stmt-F Stmt). stmt_line f p y) (out-roll-Stmt x)))

-- a branch's lines begin with those of its first list
pub if_begins : (f : Facts) (p : Surroundings) (s : Stmt) (spot : Spot) (t : Test) (left right : Expr) (chosen : List Stmt) (o : Option (List Stmt)) → s ≡ stmt.Branch spot t left right chosen o
    → (rest : List Line) × (stmt_lines f s p ≡ judged_line f p s ∷ (stmts_lines f chosen (inside_if p) ++ rest))
if_begins f p s spot t left right chosen None is =
    ([], if_alone_lines f p s spot t left right chosen None is refl ∙ ap (λ (l : List Line). judged_line f p s ∷ l) (sym (append-nil (stmts_lines f chosen (inside_if p)))))
if_begins f p s spot t left right chosen (Some other) is =
    (stmts_lines f other (inside_if p), if_lines f p s spot t left right chosen other (Some other) is refl)

-- ---- room

none_roomy : (l : Line) → fault_of l ≡ None → l.roomy ≡ true
none_roomy l none = (keeps l none).roomy

pub if_room : (f : Facts) (p : Surroundings) (s : Stmt) (spot : Spot) (t : Test) (left right : Expr) (chosen : List Stmt) (o : Option (List Stmt)) → s ≡ stmt.Branch spot t left right chosen o
    → fault_of (judged_line f p s) ≡ None → p.blocks < 8
if_room f p s spot t left right chosen o is none =
    let x : Stmt-F Stmt = Stmt-F.Branch spot t left right chosen o in
    let rolled = is ∙ sym (stmt.rolls-Branch spot t left right chosen o) in
    let roomy : (nat_lt p.before 16 && nat_lt p.blocks 8) ≡ true = sym (ap (λ (y : Stmt). (judged_line f p y).roomy) rolled ∙ ap (λ (l : Line). l.roomy) (ap (λ (y : Stmt-F Stmt). stmt_line f p y) (out-roll-Stmt x))) ∙ none_roomy (judged_line f p s) none in
    ltb-true p.blocks 8 (and_parts (nat_lt p.before 16) (nat_lt p.blocks 8) roomy).1

pub for_room : (f : Facts) (p : Surroundings) (s : Stmt) (spot : Spot) (counter : List ℕ) (first : Expr) (last : ℤ) (body : List Stmt) → s ≡ stmt.Loop spot counter first last body
    → fault_of (judged_line f p s) ≡ None → (p.blocks < 8) × (p.loops < 4)
for_room f p s spot counter first last body is none =
    let x : Stmt-F Stmt = Stmt-F.Loop spot counter first last body in
    let rolled = is ∙ sym (stmt.rolls-Loop spot counter first last body) in
    let roomy : (nat_lt p.before 16 && nat_lt p.blocks 8 && nat_lt p.loops 4) ≡ true = sym (ap (λ (y : Stmt). (judged_line f p y).roomy) rolled ∙ ap (λ (l : Line). l.roomy) (ap (λ (y : Stmt-F Stmt). stmt_line f p y) (out-roll-Stmt x))) ∙ none_roomy (judged_line f p s) none in
    let both = and_parts (nat_lt p.before 16 && nat_lt p.blocks 8) (nat_lt p.loops 4) roomy in
    (ltb-true p.blocks 8 (and_parts (nat_lt p.before 16) (nat_lt p.blocks 8) both.0).1, ltb-true p.loops 4 both.1)

pub when_room : (f : Facts) (p : Surroundings) (s : Stmt) (spot : Spot) (role : Role) (body : List Stmt) → s ≡ stmt.RoleOnly spot role body → fault_of (judged_line f p s) ≡ None → p.blocks < 8
when_room f p s spot role body is none =
    let x : Stmt-F Stmt = Stmt-F.RoleOnly spot role body in
    let rolled = is ∙ sym (stmt.rolls-RoleOnly spot role body) in
    let roomy : (nat_lt p.before 16 && nat_lt p.blocks 8) ≡ true = sym (ap (λ (y : Stmt). (judged_line f p y).roomy) rolled ∙ ap (λ (l : Line). l.roomy) (ap (λ (y : Stmt-F Stmt). stmt_line f p y) (out-roll-Stmt x))) ∙ none_roomy (judged_line f p s) none in
    ltb-true p.blocks 8 (and_parts (nat_lt p.before 16) (nat_lt p.blocks 8) roomy).1
