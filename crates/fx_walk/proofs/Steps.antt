-- One level of the walk of each statement, and of the value of each expression.
use Rattle.std.proofs.Common.{◌≡◌, ℕ, Bool, List, map, Some, None, ap, sym, ◌∙◌}
use Rattle.std.specs.Prelude.{ℤ}
use Rattle.fx_base.specs.declared.names.Op.{Op}
use Rattle.fx_base.specs.declared.names.Role.{Role}
use Rattle.fx_base.specs.declared.spot.Spot.{Spot}
use Rattle.fx_script.specs.declared.expr.Expr.{Expr}
use Rattle.fx_script.specs.declared.expr.Expr.TheVariants as expr
use Rattle.fx_script.specs.declared.expr.Expr.TheOpen.{Expr-F}
use Rattle.fx_script.specs.declared.expr.Expr.TheViews.{roll-Expr}
use Rattle.fx_script.specs.declared.expr.Expr.TheFolds.{fold-roll-Expr, map-Expr}
use Rattle.fx_script.specs.declared.job.Picked.{Picked}
use Rattle.fx_script.specs.declared.job.Test.{Test}
use Rattle.fx_script.specs.declared.job.Stmt.{Stmt}
use Rattle.fx_script.specs.declared.job.Stmt.TheVariants as stmt
use Rattle.fx_script.specs.declared.job.Stmt.TheOpen.{Stmt-F}
use Rattle.fx_script.specs.declared.job.Stmt.TheViews.{roll-Stmt}
use Rattle.fx_script.specs.declared.job.Stmt.TheFolds.{fold-roll-Stmt, map-Stmt}
use Rattle.fx_check.specs.Facts.{Facts}
use Rattle.fx_walk.specs.declared.action.View.{View}
use Rattle.fx_walk.specs.State.{State}
use Rattle.fx_walk.specs.Values.{Sight, value_level, value_of}
use Rattle.fx_walk.specs.Walk.{Onward, Meaning, walk_level, walk}

walking : (f : Facts) (x : Stmt-F Stmt) (s : Stmt) → roll-Stmt x ≡ s → (inside : Bool) (k : Onward) (view : View) (state : State) → walk f s inside k view state ≡ walk_level f (map-Stmt Stmt Meaning (walk f) x) inside k view state
walking f x s is inside k view state = ap (λ (t : Meaning). t inside k view state) (ap (walk f) (sym is) ∙ fold-roll-Stmt Meaning (walk_level f) x)

pub let_at : (f : Facts) (spot : Spot) (array : List ℕ) (value : Expr) (inside : Bool) (k : Onward) (view : View) (state : State)
    → walk f (stmt.Let spot array value) inside k view state ≡ walk_level f (Stmt-F.Let spot array value) inside k view state
let_at f spot array value inside k view state = walking f (Stmt-F.Let spot array value) (stmt.Let spot array value) (stmt.rolls-Let spot array value) inside k view state

pub set_at : (f : Facts) (spot : Spot) (counter : List ℕ) (value : Expr) (inside : Bool) (k : Onward) (view : View) (state : State)
    → walk f (stmt.Set spot counter value) inside k view state ≡ walk_level f (Stmt-F.Set spot counter value) inside k view state
set_at f spot counter value inside k view state = walking f (Stmt-F.Set spot counter value) (stmt.Set spot counter value) (stmt.rolls-Set spot counter value) inside k view state

pub print_at : (f : Facts) (spot : Spot) (name : List ℕ) (inside : Bool) (k : Onward) (view : View) (state : State)
    → walk f (stmt.Print spot name) inside k view state ≡ walk_level f (Stmt-F.Print spot name) inside k view state
print_at f spot name inside k view state = walking f (Stmt-F.Print spot name) (stmt.Print spot name) (stmt.rolls-Print spot name) inside k view state

pub register_at : (f : Facts) (spot : Spot) (name : List ℕ) (inside : Bool) (k : Onward) (view : View) (state : State)
    → walk f (stmt.Register spot name) inside k view state ≡ walk_level f (Stmt-F.Register spot name) inside k view state
register_at f spot name inside k view state = walking f (Stmt-F.Register spot name) (stmt.Register spot name) (stmt.rolls-Register spot name) inside k view state

pub when_at : (f : Facts) (spot : Spot) (role : Role) (body : List Stmt) (inside : Bool) (k : Onward) (view : View) (state : State)
    → walk f (stmt.RoleOnly spot role body) inside k view state ≡ walk_level f (Stmt-F.RoleOnly spot role (map (walk f) body)) inside k view state
when_at f spot role body inside k view state = walking f (Stmt-F.RoleOnly spot role body) (stmt.RoleOnly spot role body) (stmt.rolls-RoleOnly spot role body) inside k view state

pub if_at : (f : Facts) (spot : Spot) (test : Test) (left : Expr) (right : Expr) (body : List Stmt) (other : List Stmt) (inside : Bool) (k : Onward) (view : View) (state : State)
    → walk f (stmt.Branch spot test left right body (Some other)) inside k view state ≡ walk_level f (Stmt-F.Branch spot test left right (map (walk f) body) (Some (map (walk f) other))) inside k view state
if_at f spot test left right body other inside k view state = walking f (Stmt-F.Branch spot test left right body (Some other)) (stmt.Branch spot test left right body (Some other)) (stmt.rolls-Branch spot test left right body (Some other)) inside k view state

pub if_alone_at : (f : Facts) (spot : Spot) (test : Test) (left : Expr) (right : Expr) (body : List Stmt) (inside : Bool) (k : Onward) (view : View) (state : State)
    → walk f (stmt.Branch spot test left right body None) inside k view state ≡ walk_level f (Stmt-F.Branch spot test left right (map (walk f) body) None) inside k view state
if_alone_at f spot test left right body inside k view state = walking f (Stmt-F.Branch spot test left right body None) (stmt.Branch spot test left right body None) (stmt.rolls-Branch spot test left right body None) inside k view state

pub for_at : (f : Facts) (spot : Spot) (counter : List ℕ) (first : Expr) (last : ℤ) (body : List Stmt) (inside : Bool) (k : Onward) (view : View) (state : State)
    → walk f (stmt.Loop spot counter first last body) inside k view state ≡ walk_level f (Stmt-F.Loop spot counter first last (map (walk f) body)) inside k view state
for_at f spot counter first last body inside k view state = walking f (Stmt-F.Loop spot counter first last body) (stmt.Loop spot counter first last body) (stmt.rolls-Loop spot counter first last body) inside k view state

pub barrier_at : (f : Facts) (spot : Spot) (inside : Bool) (k : Onward) (view : View) (state : State)
    → walk f (stmt.Barrier spot) inside k view state ≡ walk_level f (Stmt-F.Barrier spot) inside k view state
barrier_at f spot inside k view state = walking f (Stmt-F.Barrier spot) (stmt.Barrier spot) (stmt.rolls-Barrier spot) inside k view state

pub reduce_at : (f : Facts) (spot : Spot) (o : Op) (counter : List ℕ) (array : List ℕ) (inside : Bool) (k : Onward) (view : View) (state : State)
    → walk f (stmt.Reduce spot o counter array) inside k view state ≡ walk_level f (Stmt-F.Reduce spot o counter array) inside k view state
reduce_at f spot o counter array inside k view state = walking f (Stmt-F.Reduce spot o counter array) (stmt.Reduce spot o counter array) (stmt.rolls-Reduce spot o counter array) inside k view state

pub agree_at : (f : Facts) (spot : Spot) (counter : List ℕ) (array : List ℕ) (index : ℤ) (inside : Bool) (k : Onward) (view : View) (state : State)
    → walk f (stmt.Agree spot counter array index) inside k view state ≡ walk_level f (Stmt-F.Agree spot counter array index) inside k view state
agree_at f spot counter array index inside k view state = walking f (Stmt-F.Agree spot counter array index) (stmt.Agree spot counter array index) (stmt.rolls-Agree spot counter array index) inside k view state

pub shift_at : (f : Facts) (spot : Spot) (source : List ℕ) (target : List ℕ) (by : ℤ) (inside : Bool) (k : Onward) (view : View) (state : State)
    → walk f (stmt.Shift spot source target by) inside k view state ≡ walk_level f (Stmt-F.Shift spot source target by) inside k view state
shift_at f spot source target by inside k view state = walking f (Stmt-F.Shift spot source target by) (stmt.Shift spot source target by) (stmt.rolls-Shift spot source target by) inside k view state

pub group_at : (f : Facts) (spot : Spot) (group : ℤ) (start : ℤ) (depth : ℤ) (inside : Bool) (k : Onward) (view : View) (state : State)
    → walk f (stmt.Group spot group start depth) inside k view state ≡ walk_level f (Stmt-F.Group spot group start depth) inside k view state
group_at f spot group start depth inside k view state = walking f (Stmt-F.Group spot group start depth) (stmt.Group spot group start depth) (stmt.rolls-Group spot group start depth) inside k view state

pub member_at : (f : Facts) (spot : Spot) (group : ℤ) (member : ℤ) (array : List ℕ) (inside : Bool) (k : Onward) (view : View) (state : State)
    → walk f (stmt.Member spot group member array) inside k view state ≡ walk_level f (Stmt-F.Member spot group member array) inside k view state
member_at f spot group member array inside k view state = walking f (Stmt-F.Member spot group member array) (stmt.Member spot group member array) (stmt.rolls-Member spot group member array) inside k view state

pub store_at : (f : Facts) (spot : Spot) (group : ℤ) (member : ℤ) (subset : Picked) (inside : Bool) (k : Onward) (view : View) (state : State)
    → walk f (stmt.Store spot group member subset) inside k view state ≡ walk_level f (Stmt-F.Store spot group member subset) inside k view state
store_at f spot group member subset inside k view state = walking f (Stmt-F.Store spot group member subset) (stmt.Store spot group member subset) (stmt.rolls-Store spot group member subset) inside k view state

pub commit_at : (f : Facts) (spot : Spot) (group : ℤ) (inside : Bool) (k : Onward) (view : View) (state : State)
    → walk f (stmt.Commit spot group) inside k view state ≡ walk_level f (Stmt-F.Commit spot group) inside k view state
commit_at f spot group inside k view state = walking f (Stmt-F.Commit spot group) (stmt.Commit spot group) (stmt.rolls-Commit spot group) inside k view state

pub commit_barrier_at : (f : Facts) (spot : Spot) (group : ℤ) (inside : Bool) (k : Onward) (view : View) (state : State)
    → walk f (stmt.CommitBarrier spot group) inside k view state ≡ walk_level f (Stmt-F.CommitBarrier spot group) inside k view state
commit_barrier_at f spot group inside k view state = walking f (Stmt-F.CommitBarrier spot group) (stmt.CommitBarrier spot group) (stmt.rolls-CommitBarrier spot group) inside k view state

pub restore_at : (f : Facts) (spot : Spot) (group : ℤ) (member : ℤ) (stamp : Expr) (inside : Bool) (k : Onward) (view : View) (state : State)
    → walk f (stmt.Restore spot group member stamp) inside k view state ≡ walk_level f (Stmt-F.Restore spot group member stamp) inside k view state
restore_at f spot group member stamp inside k view state = walking f (Stmt-F.Restore spot group member stamp) (stmt.Restore spot group member stamp) (stmt.rolls-Restore spot group member stamp) inside k view state

pub drop_at : (f : Facts) (spot : Spot) (group : ℤ) (stamp : Expr) (inside : Bool) (k : Onward) (view : View) (state : State)
    → walk f (stmt.Drop spot group stamp) inside k view state ≡ walk_level f (Stmt-F.Drop spot group stamp) inside k view state
drop_at f spot group stamp inside k view state = walking f (Stmt-F.Drop spot group stamp) (stmt.Drop spot group stamp) (stmt.rolls-Drop spot group stamp) inside k view state

-- ---- expressions

valuing : (f : Facts) (x : Expr-F Expr) (e : Expr) → roll-Expr x ≡ e → (s : Sight) → value_of f e s ≡ value_level f (map-Expr Expr (Sight → ℤ) (value_of f) x) s
valuing f x e is s = ap (λ (v : Sight → ℤ). v s) (ap (value_of f) (sym is) ∙ fold-roll-Expr (Sight → ℤ) (value_level f) x)

pub number_value : (f : Facts) (n : ℤ) (s : Sight) → value_of f (expr.Number n) s ≡ value_level f (Expr-F.Number n) s
number_value f n s = valuing f (Expr-F.Number n) (expr.Number n) (expr.rolls-Number n) s

pub name_value : (f : Facts) (name : List ℕ) (s : Sight) → value_of f (expr.Name name) s ≡ value_level f (Expr-F.Name name) s
name_value f name s = valuing f (Expr-F.Name name) (expr.Name name) (expr.rolls-Name name) s

pub index_value : (f : Facts) (s : Sight) → value_of f expr.Index s ≡ value_level f Expr-F.Index s
index_value f s = valuing f Expr-F.Index expr.Index expr.rolls-Index s

pub rank_value : (f : Facts) (s : Sight) → value_of f expr.Rank s ≡ value_level f Expr-F.Rank s
rank_value f s = valuing f Expr-F.Rank expr.Rank expr.rolls-Rank s

pub size_value : (f : Facts) (s : Sight) → value_of f expr.Size s ≡ value_level f Expr-F.Size s
size_value f s = valuing f Expr-F.Size expr.Size expr.rolls-Size s

pub latest_value : (f : Facts) (group : ℤ) (s : Sight) → value_of f (expr.Latest group) s ≡ value_level f (Expr-F.Latest group) s
latest_value f group s = valuing f (Expr-F.Latest group) (expr.Latest group) (expr.rolls-Latest group) s

pub sum_value : (f : Facts) (left right : Expr) (s : Sight) → value_of f (expr.Add left right) s ≡ value_level f (Expr-F.Add (value_of f left) (value_of f right)) s
sum_value f left right s = valuing f (Expr-F.Add left right) (expr.Add left right) (expr.rolls-Add left right) s

pub difference_value : (f : Facts) (left right : Expr) (s : Sight) → value_of f (expr.Sub left right) s ≡ value_level f (Expr-F.Sub (value_of f left) (value_of f right)) s
difference_value f left right s = valuing f (Expr-F.Sub left right) (expr.Sub left right) (expr.rolls-Sub left right) s

pub product_value : (f : Facts) (left right : Expr) (s : Sight) → value_of f (expr.Mul left right) s ≡ value_level f (Expr-F.Mul (value_of f left) (value_of f right)) s
product_value f left right s = valuing f (Expr-F.Mul left right) (expr.Mul left right) (expr.rolls-Mul left right) s

pub ruleset levels = (let_at, set_at, print_at, register_at, when_at, if_at, if_alone_at, for_at, barrier_at, reduce_at, agree_at, shift_at, group_at, member_at, store_at, commit_at, commit_barrier_at, restore_at, drop_at, number_value, name_value, index_value, rank_value, size_value, latest_value, sum_value, difference_value, product_value)
