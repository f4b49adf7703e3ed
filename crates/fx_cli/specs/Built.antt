-- Which accepted jobs are run so far.
use Rattle.std.specs.Prelude.{◌≡◌, pos, Bool, true, false, if◌then◌else◌, List, [], ◌∷◌, ◌++◌, map, codes, Option, Some, None, refl}
use Rattle.fx_base.specs.declared.spot.Spot.{Spot}
use Rattle.fx_check.specs.Facts.{in_other}
use Rattle.fx_script.specs.declared.job.Job.{Job}
use Rattle.fx_script.specs.declared.job.Stmt.{Stmt}
use Rattle.fx_script.specs.declared.job.Stmt.TheOpen.{Stmt-F}
use Rattle.fx_script.specs.declared.job.Stmt.TheFolds.{fold-Stmt}
use Rattle.fx_script.specs.Spelling.{chained}
use Rattle.fx_script.specs.Spots.{spot_level}

-- a line of a body: its place, and whether what it says can be run
pub record Mark : Type 0 where
  pub spot : Spot
  pub built : Bool

-- a line at this place
abbrev pub mark : Spot → Bool → Mark
mark spot built = record { spot = spot; built = built }

-- the place of the first line that can't
abbrev pub first_in : List Mark → Option Spot
first_in [] = None
first_in (m ∷ marks) = if m.built then first_in marks else Some m.spot

-- a statement can be run that speaks of no data group; the lines of those in it are lines of their own
abbrev pub is_built : {X : Type 0} → Stmt-F X → Bool
is_built (Stmt-F.Let spot array value) = true
is_built (Stmt-F.Set spot counter value) = true
is_built (Stmt-F.Print spot name) = true
is_built (Stmt-F.Register spot name) = true
is_built (Stmt-F.RoleOnly spot role body) = true
is_built (Stmt-F.Branch spot test left right body other) = true
is_built (Stmt-F.Loop spot counter first last body) = true
is_built (Stmt-F.Barrier spot) = true
is_built (Stmt-F.Reduce spot o counter array) = true
is_built (Stmt-F.Agree spot counter array index) = true
is_built (Stmt-F.Shift spot source target by) = true
is_built other = false

-- what stands in a statement
abbrev pub inside : {X : Type 0} → Stmt-F (List X) → List X
inside (Stmt-F.RoleOnly spot role body) = chained body
inside (Stmt-F.Branch spot test left right body other) = chained body ++ in_other other
inside (Stmt-F.Loop spot counter first last body) = chained body
inside simple = []

abbrev pub stmt_marks_level : Stmt-F (List Mark) → List Mark
stmt_marks_level s = mark (spot_level s) (is_built s) ∷ inside s

-- the lines of a statement, in the order of its text
abbrev pub stmt_marks : Stmt → List Mark
stmt_marks = fold-Stmt (List Mark) stmt_marks_level

abbrev pub body_marks : List Stmt → List Mark
body_marks body = chained (map stmt_marks body)

-- the place of the first line of an accepted job that can't be run yet: it stands in the body, since all events can
abbrev pub first_unbuilt : Job → Option Spot
first_unbuilt job = first_in (body_marks job.body)

-- a data group inside a loop, behind a barrier
in_a_loop : first_in (stmt_marks_level (Stmt-F.Loop (record { line = 8; column = 1 }) (codes "c") (Rattle.fx_script.specs.declared.expr.Expr.TheVariants.Number (pos 0)) (pos 1)
    (stmt_marks_level (Stmt-F.Barrier (record { line = 9; column = 3 })) ∷ stmt_marks_level (Stmt-F.Commit (record { line = 10; column = 3 }) (pos 0)) ∷ []))) ≡ Some (record { line = 10; column = 3 })
in_a_loop = refl
