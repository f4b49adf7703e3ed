-- Bodies that ask nothing of data groups.
use Rattle.std.specs.Prelude.{◌≡◌, Bool, true, false, ◌&&◌}
use Rattle.fx_script.specs.declared.job.Stmt.{Stmt}
use Rattle.fx_script.specs.declared.job.Stmt.TheOpen.{Stmt-F}
use Rattle.fx_script.specs.declared.job.Stmt.TheFolds.{fold-Stmt}
use Rattle.fx_walk.specs.Lengths.{all_true, all_true_if}
use Rattle.fx_check.specs.Facts.{facts_of}
use Rattle.fx_script.specs.declared.job.Job.{Job}
use Rattle.fx_text.specs.Names.{is_name}
use Rattle.fx_walk.specs.declared.action.View.{View}
use Rattle.fx_walk.specs.declared.wanted.Wanted.{Wanted}
use Rattle.fx_walk.specs.declared.wanted.Wanted.TheVariants as wanted
use Rattle.fx_walk.specs.State.{State}
use Rattle.fx_walk.specs.Walk.{Reply, Walk, Ends, Passes, Prints, Asks, walk_of}

-- a statement on no data group
abbrev pub IsOfNoGroup : Wanted → Type 0
IsOfNoGroup wanted.Barrier = Unit {0}
IsOfNoGroup (wanted.Reduce op own) = Unit {0}
IsOfNoGroup (wanted.Agree flag) = Unit {0}
IsOfNoGroup (wanted.Shift by elements) = Unit {0}
IsOfNoGroup other = ⊥

-- a call in which each place gives each other a part
abbrev pub IsOfParts : Wanted → Type 0
IsOfParts wanted.Barrier = Unit {0}
IsOfParts (wanted.Reduce op own) = Unit {0}
IsOfParts (wanted.Shift by elements) = Unit {0}
IsOfParts other = ⊥

-- whatever is replied, only such things are asked, and what is printed has a name
abbrev pub OnlyAsks : (Wanted → Type 0) → Walk → Type 0
OnlyAsks May (Ends state) = Unit {0}
OnlyAsks May (Passes rest) = OnlyAsks May rest
OnlyAsks May (Prints printed rest) = (is_name printed.name ≡ true) × OnlyAsks May rest
OnlyAsks May (Asks place wanted state rest) = May wanted × ((reply : Reply) → OnlyAsks May (rest reply))

-- the body asks nothing of data groups, whatever it sees and whatever state it begins in
abbrev pub AsksNoGroups : Job → Type 0
AsksNoGroups job = (view : View) (state : State) → OnlyAsks IsOfNoGroup (walk_of (facts_of job) job.body view state)

-- ---- statements

-- a statement on no data group, those in it included
abbrev pub groupless_level : Stmt-F Bool → Bool
groupless_level (Stmt-F.Let spot array value) = true
groupless_level (Stmt-F.Set spot counter value) = true
groupless_level (Stmt-F.Print spot name) = true
groupless_level (Stmt-F.Register spot name) = true
groupless_level (Stmt-F.RoleOnly spot role body) = all_true body
groupless_level (Stmt-F.Branch spot test left right body other) = all_true body && all_true_if other
groupless_level (Stmt-F.Loop spot counter first last body) = all_true body
groupless_level (Stmt-F.Barrier spot) = true
groupless_level (Stmt-F.Reduce spot o counter array) = true
groupless_level (Stmt-F.Agree spot counter array index) = true
groupless_level (Stmt-F.Shift spot source target by) = true
groupless_level other = false

abbrev pub is_groupless : Stmt → Bool
is_groupless = fold-Stmt Bool groupless_level
