-- Bodies written out statement by statement, so that their walks compute, and the setups of jobs with such bodies.
use Rattle.std.specs.Prelude.{ℕ, ◌+◌, ℤ, false, List, [], ◌∷◌}
use Rattle.fx_base.specs.declared.names.Op.{Op}
use Rattle.fx_base.specs.declared.names.Role.{Role}
use Rattle.fx_base.specs.declared.names.Role.TheVariants as role
use Rattle.fx_base.specs.declared.spot.Spot.{Spot}
use Rattle.fx_check.specs.Facts.{Facts}
use Rattle.fx_check.specs.declared.tables.Attached.{Attached}
use Rattle.fx_script.specs.declared.job.Decl.{Decl}
use Rattle.fx_script.specs.declared.job.Decl.TheVariants as decl
use Rattle.fx_script.specs.declared.job.Picked.{Picked}
use Rattle.fx_script.specs.declared.job.Stmt.TheOpen.{Stmt-F}
use Rattle.fx_store.specs.Mirror.{mirror}
use Rattle.fx_walk.specs.Along.{outputs}
use Rattle.fx_walk.specs.Callbacks.{callbacks_at_init, body_start, prints_of, view_at_init}
use Rattle.fx_walk.specs.declared.action.View.{View}
use Rattle.fx_walk.specs.declared.printed.Called.{Called}
use Rattle.fx_walk.specs.declared.wanted.Wanted.TheVariants as wanted
use Rattle.fx_walk.specs.State.{State, at_init, blank, elements_of, with_elements}
use Rattle.fx_walk.specs.Values.{Sight, sight}
use Rattle.fx_walk.specs.Walk.{Walk, Passes, Meaning, in_turn, ended, asks, group_id, member_id, stamp_at, member_array, sets_entries, unchanged, walk_level}
use Rattle.fx_fleet.specs.Runs.{attached_len}
use Rattle.fx_machine.specs.Packings.{spelling}
use Rattle.fx_machine.specs.Setup.{Setup}

-- all statements of a row stand at one spot
abbrev pub here : Spot
here = record { line = 9; column = 1 }

abbrev pub array : List ℕ → ℤ → Decl
array name len = decl.Array here name len

abbrev pub counter : List ℕ → Decl
counter name = decl.Counter here name

-- member m of group g has this array
abbrev pub attached : (g m : ℤ) → List ℕ → Attached
attached g m name = record { group = g; member = m; array = name }

abbrev pub facts : List Decl → List Attached → Facts
facts names attachments = record { names = names; callbacks = []; created = []; attached = attachments }

-- ---- statements

abbrev pub barriers : Facts → Meaning
barriers f = walk_level f (Stmt-F.Barrier here)

abbrev pub prints : Facts → List ℕ → Meaning
prints f name = walk_level f (Stmt-F.Print here name)

abbrev pub registers : Facts → List ℕ → Meaning
registers f name = walk_level f (Stmt-F.Register here name)

abbrev pub reduces : Facts → Op → (counter array : List ℕ) → Meaning
reduces f op counter array = walk_level f (Stmt-F.Reduce here op counter array)

abbrev pub agrees : Facts → (counter array : List ℕ) → ℤ → Meaning
agrees f counter array index = walk_level f (Stmt-F.Agree here counter array index)

abbrev pub shifts : Facts → (source target : List ℕ) → ℤ → Meaning
shifts f source target by = walk_level f (Stmt-F.Shift here source target by)

abbrev pub groups : Facts → (g start depth : ℤ) → Meaning
groups f g start depth = walk_level f (Stmt-F.Group here g start depth)

abbrev pub members : Facts → (g m : ℤ) → List ℕ → Meaning
members f g m name = walk_level f (Stmt-F.Member here g m name)

abbrev pub stores : Facts → (g m : ℤ) → Picked → Meaning
stores f g m picked = walk_level f (Stmt-F.Store here g m picked)

abbrev pub commits : Facts → ℤ → Meaning
commits f g = walk_level f (Stmt-F.Commit here g)

abbrev pub commit_barriers : Facts → ℤ → Meaning
commit_barriers f g = walk_level f (Stmt-F.CommitBarrier here g)

-- with the stamp as a number
abbrev pub restores : Facts → (g m t : ℤ) → Meaning
restores f g m t inside onward view state =
    asks here (wanted.Restore (group_id g) (member_id m) (stamp_at t)) (sets_entries f (member_array f g m) state) inside onward view state

abbrev pub drops : (g t : ℤ) → Meaning
drops g t inside onward view state = asks here (wanted.Delete (group_id g) (stamp_at t)) (unchanged state) inside onward view state

-- values at each index from this one on
abbrev pub values_by : (Sight → ℤ) → Sight → ℕ → List ℤ → List ℤ
values_by value x i [] = []
values_by value x i (old ∷ olds) = value (record x { index = i }) ∷ values_by value x (i + 1) olds

-- with the expression as a function
abbrev pub lets : Facts → List ℕ → (Sight → ℤ) → Meaning
lets f name value inside onward view state = Passes (onward view (with_elements f state name (values_by value (sight view state) 0 (elements_of f state name))))

-- ---- bodies

abbrev pub body_of : List Meaning → View → State → Walk
body_of meanings = in_turn meanings false ended

-- so many ranks and spares, at separation 1, with this body and no callbacks
abbrev pub setup_of : (ranks spares : ℕ) → Facts → (View → State → Walk) → Setup
setup_of ranks spares f body = record {
  ranks = ranks;
  procs = ranks + spares;
  redundancy = mirror 1;
  packing = spelling;
  member_len = attached_len f;
  blank = blank f;
  callbacks = callbacks_at_init f;
  body_state = body_start f;
  body = body;
}

abbrev pub row_setup : (ranks spares : ℕ) → Facts → List Meaning → Setup
row_setup ranks spares f meanings = setup_of ranks spares f (body_of meanings)

abbrev pub two_ranks : Facts → (View → State → Walk) → Setup
two_ranks = setup_of 2 0

-- a callback that runs
abbrev pub called_as : List ℕ → List Meaning → View → State → Called
called_as name meanings view state = record { name = name; prints = prints_of (outputs (body_of meanings view state) []) }

-- what survivors run where their bodies register one callback
abbrev pub one_callback : Facts → List ℕ → List Meaning → Role → (rank size : ℕ) → State → List Called
one_callback f name meanings role.Survivor rank size before = called_as name meanings (view_at_init role.Survivor rank size) (at_init f role.Survivor before) ∷ []
one_callback f name meanings other rank size before = []

-- a row with one callback, which changes nothing
abbrev pub with_callback : Facts → List ℕ → List Meaning → Setup → Setup
with_callback f name meanings s = record s { callbacks = one_callback f name meanings; body_state = at_start }
  where
    at_start : Role → (rank size : ℕ) → State → State
    at_start role rank size before = at_init f role before
