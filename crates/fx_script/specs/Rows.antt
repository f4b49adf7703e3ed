-- Worked rows: what the definitions give, by computation.
use Rattle.std.specs.Prelude.{◌≡◌, ℕ, pos, List, [], ◌∷◌, ◌++◌, codes, Some, Result, Ok, Err, refl}
use Rattle.fx_base.specs.declared.names.Role.TheVariants as role
use Rattle.fx_base.specs.declared.spot.Spot.{Spot}
use Rattle.fx_script.specs.declared.expr.Expr.{Expr}
use Rattle.fx_script.specs.declared.expr.Expr.TheVariants as expr
use Rattle.fx_script.specs.declared.expr.Expr.TheOpen.{Expr-F}
use Rattle.fx_script.specs.declared.job.Decl.TheVariants as decl
use Rattle.fx_script.specs.declared.job.EventKind.TheVariants as event
use Rattle.fx_script.specs.declared.job.Job.{Job}
use Rattle.fx_script.specs.declared.job.Stmt.{Stmt}
use Rattle.fx_script.specs.declared.job.Stmt.TheVariants as stmt
use Rattle.fx_script.specs.declared.job.Stmt.TheOpen.{Stmt-F}
use Rattle.fx_script.specs.declared.job.Test.TheVariants as test
use Rattle.fx_script.specs.declared.refusal.JobFault.{JobFault}
use Rattle.fx_script.specs.declared.refusal.JobFault.TheVariants.{BadLine, BadNumber, MissingPart, TrailingText}
use Rattle.fx_script.specs.Exprs.{words_of_level}
use Rattle.fx_script.specs.Reading.{Refusal, job_in}
use Rattle.fx_script.specs.Spelling.{anywhere, kept_at, stmt_level}

-- a text of these lines, each with its line end
abbrev pub text : List (List ℕ) → List ℕ
text [] = []
text (line ∷ lines) = line ++ (10 ∷ text lines)

abbrev pub at : ℕ → ℕ → Spot
at line column = record { line = line; column = column }

abbrev pub refused : JobFault → ℕ → ℕ → Result Job Refusal
refused fault line column = Err (record { fault = fault; spot = at line column })

pub an_empty_text : job_in [] ≡ refused MissingPart 1 1
an_empty_text = refl

pub the_version_is_fixed : job_in (text (codes "fenix 2" ∷ [])) ≡ refused BadLine 1 7
the_version_is_fixed = refl

pub a_number_has_one_form : job_in (text (codes "# ranks" ∷ codes "fenix 1" ∷ codes " ranks 01" ∷ [])) ≡ refused BadNumber 3 8
a_number_has_one_form = refl

-- the least job, with a comment and spaces
abbrev pub least : List (List ℕ)
least =
    codes "fenix 1" ∷ codes "ranks 1" ∷ codes "# none" ∷ codes "spares 0" ∷ codes "  separation  1" ∷ []
    ++ codes "begin" ∷ codes "end" ∷ codes "schedule" ∷ codes "stop" ∷ []

pub the_least_job_is_read : job_in (text least) ≡ Ok (record {
  ranks = pos 1;
  spares = pos 0;
  separation = pos 1;
  ranks_spot = at 2 1;
  spares_spot = at 4 1;
  separation_spot = at 5 3;
  begin_spot = at 6 1;
  names = [];
  callbacks = [];
  body = [];
  events = [];
})
the_least_job_is_read = refl

pub nothing_stands_behind_stop : job_in (text (least ++ codes "# more" ∷ codes "stop" ∷ [])) ≡ refused TrailingText 11 1
nothing_stands_behind_stop = refl

-- rank times (index + 7)
abbrev pub product : Expr
product = expr.Mul expr.Rank (expr.Add expr.Index (expr.Number (pos 7)))

-- a branch whose first list is empty: `a` is set where `rank` isn't below 1
abbrev pub branch : Stmt
branch = stmt.Branch (at 7 1) test.Lt expr.Rank (expr.Number (pos 1)) [] (Some (stmt.Let (at 9 3) (codes "a") product ∷ []))

abbrev pub branching : List (List ℕ)
branching =
    codes "fenix 1" ∷ codes "ranks 2" ∷ codes "spares 0" ∷ codes "separation 1" ∷ codes "array a 3" ∷ codes "begin" ∷ []
    ++ codes "if lt rank 1" ∷ codes "else" ∷ codes "  let a * rank + index 7" ∷ codes "endif" ∷ []
    ++ codes "end" ∷ codes "schedule" ∷ codes "kill 1" ∷ codes "stop" ∷ []

pub a_branch_is_read : job_in (text branching) ≡ Ok (record {
  ranks = pos 2;
  spares = pos 0;
  separation = pos 1;
  ranks_spot = at 2 1;
  spares_spot = at 3 1;
  separation_spot = at 4 1;
  begin_spot = at 6 1;
  names = decl.Array (at 5 1) (codes "a") (pos 3) ∷ [];
  callbacks = [];
  body = branch ∷ [];
  events = record { spot = at 13 1; kind = event.Kill (pos 1) } ∷ [];
})
a_branch_is_read = refl

-- the words of a sum, those of its two expressions given
pub a_sign_stands_in_front : words_of_level (Expr-F.Add (codes "index" ∷ []) (codes "7" ∷ [])) ≡ codes "+" ∷ codes "index" ∷ codes "7" ∷ []
a_sign_stands_in_front = refl

-- the lines of a block, those of the statement in it given
pub a_block_has_a_last_line : stmt_level (Stmt-F.RoleOnly (at 7 1) role.Initial ((kept_at (at 8 3) (codes "print" ∷ codes "a" ∷ []) ∷ []) ∷ []))
    ≡ kept_at (at 7 1) (codes "when" ∷ codes "initial" ∷ []) ∷ kept_at (at 8 3) (codes "print" ∷ codes "a" ∷ []) ∷ anywhere (codes "endwhen") ∷ []
a_block_has_a_last_line = refl
