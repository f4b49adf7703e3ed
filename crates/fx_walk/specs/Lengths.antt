-- How long a walk is, and which statements only print.
use Rattle.std.specs.Prelude.{◌≡◌, ℕ, zero, suc, Bool, true, false, ◌&&◌, List, [], ◌∷◌, Option, Some, None, refl}
use Rattle.std.specs.List.{list_all}
use Rattle.fx_script.specs.declared.job.Stmt.{Stmt}
use Rattle.fx_script.specs.declared.job.Stmt.TheOpen.{Stmt-F}
use Rattle.fx_script.specs.declared.job.Stmt.TheFolds.{fold-Stmt}
use Rattle.fx_text.specs.Names.{is_name}
use Rattle.fx_walk.specs.declared.printed.Printed.{Printed}
use Rattle.fx_walk.specs.State.{State}
use Rattle.fx_walk.specs.Walk.{Reply, Walk, Ends, Passes, Prints, Asks}

-- at most so many actions are left, whatever is replied
abbrev pub IsWithin : Walk → ℕ → Type 0
IsWithin (Ends state) n = Unit {0}
IsWithin (Passes rest) zero = ⊥
IsWithin (Passes rest) (suc n) = IsWithin rest n
IsWithin (Prints printed rest) zero = ⊥
IsWithin (Prints printed rest) (suc n) = IsWithin rest n
IsWithin (Asks place wanted state rest) zero = ⊥
IsWithin (Asks place wanted state rest) (suc n) = (reply : Reply) → IsWithin (rest reply) n

-- nothing is asked, and what is printed has a name
abbrev pub OnlyPrints : Walk → Type 0
OnlyPrints (Ends state) = Unit {0}
OnlyPrints (Passes rest) = OnlyPrints rest
OnlyPrints (Prints printed rest) = (is_name printed.name ≡ true) × OnlyPrints rest
OnlyPrints (Asks place wanted state rest) = ⊥

-- all of a list, of a list that may be missing
abbrev pub all_true : List Bool → Bool
all_true bs = list_all (λ b. b) bs

abbrev pub all_true_if : Option (List Bool) → Bool
all_true_if None = true
all_true_if (Some bs) = all_true bs

-- a statement that a rank carries out by itself, those in it included
abbrev pub plain_level : Stmt-F Bool → Bool
plain_level (Stmt-F.Let spot array value) = true
plain_level (Stmt-F.Set spot counter value) = true
plain_level (Stmt-F.Print spot name) = true
plain_level (Stmt-F.Register spot name) = true
plain_level (Stmt-F.RoleOnly spot role body) = all_true body
plain_level (Stmt-F.Branch spot test left right body other) = all_true body && all_true_if other
plain_level (Stmt-F.Loop spot counter first last body) = all_true body
plain_level outward = false

abbrev pub is_plain : Stmt → Bool
is_plain = fold-Stmt Bool plain_level

-- two actions are within two, and not within one
two_within_two : (printed : Printed) (state : State) → IsWithin (Passes (Prints printed (Ends state))) 2 ≡ Unit {0}
two_within_two printed state = refl

two_beyond_one : (printed : Printed) (state : State) → IsWithin (Passes (Prints printed (Ends state))) 1 ≡ ⊥
two_beyond_one printed state = refl
