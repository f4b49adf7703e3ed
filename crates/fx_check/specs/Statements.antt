-- The statements of a body in the order of their lines, those in one another included.
use Rattle.std.specs.Prelude.{List, [], ◌∷◌, map}
use Rattle.fx_script.specs.declared.job.Stmt.{Stmt}
use Rattle.fx_script.specs.declared.job.Stmt.TheOpen.{Stmt-F}
use Rattle.fx_script.specs.declared.job.Stmt.TheFolds.{fold-Stmt, map-Stmt}
use Rattle.fx_script.specs.Spelling.{chained}
use Rattle.fx_check.specs.declared.surroundings.Surroundings.{Surroundings}
use Rattle.fx_check.specs.declared.tables.Attached.{Attached}
use Rattle.fx_check.specs.declared.tables.Created.{Created}
use Rattle.fx_check.specs.Acceptance.{Line, stmt_line, inner_lines}
use Rattle.fx_check.specs.Facts.{Facts}

-- a statement where it stands, without the statements in it
pub record Standing : Type 0 where
  pub place : Surroundings
  pub bare : Stmt-F (Unit {0})

-- nothing of a statement
abbrev pub unit_of : {X : Type 0} → X → Unit {0}
unit_of x = tt

abbrev pub standing_at : {X : Type 0} → Surroundings → Stmt-F X → Standing
standing_at {X = X} p s = record { place = p; bare = map-Stmt X (Unit {0}) unit_of s }

abbrev pub standing_level : Stmt-F (Surroundings → List Standing) → Surroundings → List Standing
standing_level s p = standing_at p s ∷ inner_lines s p

-- a statement that stands there, and behind it those in it
abbrev pub standing : Stmt → Surroundings → List Standing
standing = fold-Stmt (Surroundings → List Standing) standing_level

abbrev pub standing_in : List Stmt → Surroundings → List Standing
standing_in ss p = chained (map (λ s. standing s p) ss)

-- the line of a statement
abbrev pub line_at : Facts → Standing → Line
line_at f s = stmt_line f s.place s.bare

-- the group that a statement creates, the statements in it aside
abbrev pub creation_in : {X : Type 0} → Stmt-F X → List Created
creation_in (Stmt-F.Group spot group start depth) = record { group = group; start = start; depth = depth } ∷ []
creation_in other = []

-- the member that a statement attaches
abbrev pub attachment_in : {X : Type 0} → Stmt-F X → List Attached
attachment_in (Stmt-F.Member spot group member array) = record { group = group; member = member; array = array } ∷ []
attachment_in other = []
