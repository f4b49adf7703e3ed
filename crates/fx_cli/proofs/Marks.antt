-- The first line that can't be run, of two lists of lines.
use Rattle.std.proofs.Common.{◌≡◌, ℕ, ◌+◌, ◌<◌, Bool, true, false, if◌then◌else◌, List, [], ◌∷◌, ◌++◌, append-nil, length, drop, get_or, add-one, Option, Some, None, refl, sym, ap, ◌∙◌}
use Rattle.std.specs.Prelude.{ℤ, is_some}
use Rattle.std.proofs.Math.Seq.{drop-cons}
use Rattle.fx_base.specs.declared.names.Role.{Role}
use Rattle.fx_base.specs.declared.spot.Spot.{Spot}
use Rattle.fx_check.specs.Facts.{or_first}
use Rattle.fx_script.specs.declared.expr.Expr.{Expr}
use Rattle.fx_script.specs.declared.job.Stmt.{Stmt}
use Rattle.fx_script.specs.declared.job.Stmt.TheVariants as stmt
use Rattle.fx_script.specs.declared.job.Stmt.TheOpen.{Stmt-F}
use Rattle.fx_script.specs.declared.job.Stmt.TheFolds.{fold-roll-Stmt}
use Rattle.fx_script.specs.declared.job.Test.{Test}
use Rattle.fx_cli.specs.Built.{Mark, first_in, stmt_marks_level, stmt_marks, body_marks}

-- ---- the first of two

or_absent : {X : Type 0} (a b : Option X) → is_some a ≡ false → or_first a b ≡ b
or_absent None b e = refl
or_absent (Some x) b e = absurd cc

or_there : {X : Type 0} (a b : Option X) → is_some a ≡ true → a ≡ or_first a b
or_there None b e = absurd cc
or_there (Some x) b e = refl

first_by : (b : Bool) (spot : Spot) (rest whole other : Option Spot) → whole ≡ or_first rest other → (if b then whole else Some spot) ≡ or_first (if b then rest else Some spot) other
first_by true spot rest whole other e = e
first_by false spot rest whole other e = refl

first_append : (a b : List Mark) → first_in (a ++ b) ≡ or_first (first_in a) (first_in b)
first_append [] b = refl
first_append (m ∷ a) b = first_by m.built m.spot (first_in a) (first_in (a ++ b)) (first_in b) (first_append a b)

-- ---- statements

-- the first in what is left of a list
from : (ss : List Stmt) (i : ℕ) (s : Stmt) → i < length ss → s ≡ get_or ss i s → first_in (body_marks (drop i ss)) ≡ or_first (first_in (stmt_marks s)) (first_in (body_marks (drop (i + 1) ss)))
from ss i s within is =
    let split : drop i ss ≡ s ∷ drop (i + 1) ss = drop-cons ss i s within ∙ rw (← is, add-one) refl in
    ap (λ (l : List Stmt). first_in (body_marks l)) split ∙ first_append (stmt_marks s) (body_marks (drop (i + 1) ss))

pub found_here : (ss : List Stmt) (i : ℕ) (s : Stmt) (found : Option Spot) → i < length ss → s ≡ get_or ss i s → found ≡ first_in (stmt_marks s) → is_some found ≡ true
    → first_in (body_marks (drop i ss)) ≡ first_in (body_marks ss) → found ≡ first_in (body_marks ss)
found_here ss i s found within is by_s there same =
    or_there found (first_in (body_marks (drop (i + 1) ss))) there ∙ ap (λ (o : Option Spot). or_first o (first_in (body_marks (drop (i + 1) ss)))) by_s ∙ sym (from ss i s within is) ∙ same

pub goes_on : (ss : List Stmt) (i : ℕ) (s : Stmt) (found : Option Spot) → i < length ss → s ≡ get_or ss i s → found ≡ first_in (stmt_marks s) → is_some found ≡ false
    → first_in (body_marks (drop i ss)) ≡ first_in (body_marks ss) → first_in (body_marks (drop (i + 1) ss)) ≡ first_in (body_marks ss)
goes_on ss i s found within is by_s absent same =
    sym (or_absent found (first_in (body_marks (drop (i + 1) ss))) absent) ∙ ap (λ (o : Option Spot). or_first o (first_in (body_marks (drop (i + 1) ss)))) by_s ∙ sym (from ss i s within is) ∙ same

-- a block has what is in it
pub in_when : (s : Stmt) (spot : Spot) (role : Role) (body : List Stmt) → s ≡ stmt.RoleOnly spot role body → first_in (stmt_marks s) ≡ first_in (body_marks body)
in_when s spot role body is =
    ap (λ (s : Stmt). first_in (stmt_marks s)) (is ∙ sym (stmt.rolls-RoleOnly spot role body)) ∙ ap first_in (fold-roll-Stmt (List Mark) stmt_marks_level (Stmt-F.RoleOnly spot role body))

pub in_loop : (s : Stmt) (spot : Spot) (counter : List ℕ) (first : Expr) (last : ℤ) (body : List Stmt) → s ≡ stmt.Loop spot counter first last body → first_in (stmt_marks s) ≡ first_in (body_marks body)
in_loop s spot counter first last body is =
    ap (λ (s : Stmt). first_in (stmt_marks s)) (is ∙ sym (stmt.rolls-Loop spot counter first last body)) ∙ ap first_in (fold-roll-Stmt (List Mark) stmt_marks_level (Stmt-F.Loop spot counter first last body))

pub in_branch : (s : Stmt) (spot : Spot) (t : Test) (left right : Expr) (body : List Stmt) (o : Option (List Stmt)) → s ≡ stmt.Branch spot t left right body o → o ≡ None → first_in (stmt_marks s) ≡ first_in (body_marks body)
in_branch s spot t left right body o is none =
    ap (λ (s : Stmt). first_in (stmt_marks s)) (is ∙ ap (λ (x : Option (List Stmt)). stmt.Branch spot t left right body x) none ∙ sym (stmt.rolls-Branch spot t left right body None))
    ∙ ap first_in (fold-roll-Stmt (List Mark) stmt_marks_level (Stmt-F.Branch spot t left right body None)) ∙ ap first_in (append-nil (body_marks body))

in_both : (s : Stmt) (spot : Spot) (t : Test) (left right : Expr) (body other : List Stmt) (o : Option (List Stmt)) → s ≡ stmt.Branch spot t left right body o → o ≡ Some other
    → first_in (stmt_marks s) ≡ or_first (first_in (body_marks body)) (first_in (body_marks other))
in_both s spot t left right body other o is some =
    ap (λ (s : Stmt). first_in (stmt_marks s)) (is ∙ ap (λ (x : Option (List Stmt)). stmt.Branch spot t left right body x) some ∙ sym (stmt.rolls-Branch spot t left right body (Some other)))
    ∙ ap first_in (fold-roll-Stmt (List Mark) stmt_marks_level (Stmt-F.Branch spot t left right body (Some other))) ∙ first_append (body_marks body) (body_marks other)

pub in_first : (s : Stmt) (spot : Spot) (t : Test) (left right : Expr) (body other : List Stmt) (o : Option (List Stmt)) (found : Option Spot) → s ≡ stmt.Branch spot t left right body o → o ≡ Some other
    → found ≡ first_in (body_marks body) → is_some found ≡ true → found ≡ first_in (stmt_marks s)
in_first s spot t left right body other o found is some by_body there =
    or_there found (first_in (body_marks other)) there ∙ ap (λ (x : Option Spot). or_first x (first_in (body_marks other))) by_body ∙ sym (in_both s spot t left right body other o is some)

pub in_other : (s : Stmt) (spot : Spot) (t : Test) (left right : Expr) (body other : List Stmt) (o : Option (List Stmt)) (found : Option Spot) → s ≡ stmt.Branch spot t left right body o → o ≡ Some other
    → found ≡ first_in (body_marks body) → is_some found ≡ false → first_in (body_marks other) ≡ first_in (stmt_marks s)
in_other s spot t left right body other o found is some by_body absent =
    sym (or_absent found (first_in (body_marks other)) absent) ∙ ap (λ (x : Option Spot). or_first x (first_in (body_marks other))) by_body ∙ sym (in_both s spot t left right body other o is some)
