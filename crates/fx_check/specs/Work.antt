-- How many statements one pass over a job may take, and the bound on the rounds of its tail.
use Rattle.std.specs.Prelude.{◌≡◌, ℕ, ◌+◌, ◌*◌, pos, codes, List, [], ◌∷◌, map, sum, Option, Some, None, refl}
use Rattle.fx_script.specs.declared.expr.Expr.TheVariants as expr
use Rattle.fx_script.specs.declared.job.Job.{Job}
use Rattle.fx_script.specs.declared.job.Stmt.{Stmt}
use Rattle.fx_script.specs.declared.job.Stmt.TheOpen.{Stmt-F}
use Rattle.fx_script.specs.declared.job.Stmt.TheFolds.{fold-Stmt}
use Rattle.fx_check.specs.Rules.{count_of, procs_of}

-- the work of the other list of a branch
abbrev pub other_work : Option (List ℕ) → ℕ
other_work None = 0
other_work (Some body) = sum body

-- a statement without a block is 1; a block is 1 and what its lists are; a loop is 1 and, for each of its turns, the
-- test and its list
abbrev pub work_level : Stmt-F ℕ → ℕ
work_level (Stmt-F.RoleOnly spot role body) = 1 + sum body
work_level (Stmt-F.Branch spot test left right body other) = 1 + (sum body + other_work other)
work_level (Stmt-F.Loop spot counter first last body) = 1 + (count_of last + 1) * (1 + sum body)
work_level simple = 1

abbrev pub work_of_stmt : Stmt → ℕ
work_of_stmt = fold-Stmt ℕ work_level

abbrev pub work_of : List Stmt → ℕ
work_of ss = sum (map work_of_stmt ss)

-- with P processes and the work W of the body
abbrev pub bound_with : ℕ → ℕ → ℕ
bound_with procs work = procs * (2 * procs + 2) * (work + 2) * (procs + 8)

abbrev pub bound_of : Job → ℕ
bound_of job = bound_with (procs_of job) (work_of job.body)

-- a loop of 9,999 turns with one statement
long_loop : work_level (Stmt-F.Loop (record { line = 8; column = 1 }) (codes "c") (expr.Number (pos 0)) (pos 9998) (1 ∷ [])) ≡ 19999
long_loop = refl

-- the greatest bound
most_rounds : bound_with 16 20000 ≡ 261146112
most_rounds = refl
