-- What the words behind the keyword of a statement without a block say.
use Rattle.std.specs.Prelude.{Result, Ok}
use Rattle.fx_base.specs.declared.names.Op.{Op}
use Rattle.fx_base.specs.declared.names.Op.TheVariants as op
use Rattle.fx_base.specs.declared.spot.Spot.{Spot}
use Rattle.fx_script.specs.declared.job.Stmt.{Stmt}
use Rattle.fx_script.specs.declared.job.Stmt.TheVariants as stmt
use Rattle.fx_script.specs.declared.keyword.SimpleWord.{SimpleWord}
use Rattle.fx_script.specs.declared.keyword.SimpleWord.TheVariants as word
use Rattle.fx_script.specs.declared.refusal.Wrong.{Wrong}
use Rattle.fx_script.specs.Left.{Left}
use Rattle.fx_script.specs.Outcome.{◌>>=◌}
use Rattle.fx_script.specs.Exprs.{expr_at}
use Rattle.fx_script.specs.Fields.{name_at, number_at, picked_at}

-- a counter and an array
abbrev pub reduce_at : Op → Spot → Left → Result (Stmt × Left) Wrong
reduce_at o spot left = do
  counter ← name_at left
  array ← name_at counter.1
  Ok (stmt.Reduce spot o counter.0 array.0, array.1)

-- a counter, an array and an index
abbrev pub agree_at : Spot → Left → Result (Stmt × Left) Wrong
agree_at spot left = do
  counter ← name_at left
  array ← name_at counter.1
  index ← number_at array.1
  Ok (stmt.Agree spot counter.0 array.0 index.0, index.1)

-- an array, the array that it is shifted to, and how far
abbrev pub shift_at : Spot → Left → Result (Stmt × Left) Wrong
shift_at spot left = do
  source ← name_at left
  target ← name_at source.1
  by ← number_at target.1
  Ok (stmt.Shift spot source.0 target.0 by.0, by.1)

-- a group, its start stamp and its depth
abbrev pub group_at : Spot → Left → Result (Stmt × Left) Wrong
group_at spot left = do
  group ← number_at left
  start ← number_at group.1
  depth ← number_at start.1
  Ok (stmt.Group spot group.0 start.0 depth.0, depth.1)

-- a group, a member and an array
abbrev pub member_at : Spot → Left → Result (Stmt × Left) Wrong
member_at spot left = do
  group ← number_at left
  member ← number_at group.1
  array ← name_at member.1
  Ok (stmt.Member spot group.0 member.0 array.0, array.1)

-- a group, a member and which elements
abbrev pub store_at : Spot → Left → Result (Stmt × Left) Wrong
store_at spot left = do
  group ← number_at left
  member ← number_at group.1
  subset ← picked_at member.1
  Ok (stmt.Store spot group.0 member.0 subset.0, subset.1)

-- a group, a member and a stamp
abbrev pub restore_at : Spot → Left → Result (Stmt × Left) Wrong
restore_at spot left = do
  group ← number_at left
  member ← number_at group.1
  stamp ← expr_at member.1
  Ok (stmt.Restore spot group.0 member.0 stamp.0, stamp.1)

-- the words of each statement
abbrev pub simple_at : SimpleWord → Spot → Left → Result (Stmt × Left) Wrong
simple_at word.Let spot left = do
  array ← name_at left
  value ← expr_at array.1
  Ok (stmt.Let spot array.0 value.0, value.1)
simple_at word.Set spot left = do
  counter ← name_at left
  value ← expr_at counter.1
  Ok (stmt.Set spot counter.0 value.0, value.1)
simple_at word.Print spot left = do
  name ← name_at left
  Ok (stmt.Print spot name.0, name.1)
simple_at word.Register spot left = do
  name ← name_at left
  Ok (stmt.Register spot name.0, name.1)
simple_at word.Barrier spot left = Ok (stmt.Barrier spot, left)
simple_at word.Sum spot left = reduce_at op.Sum spot left
simple_at word.Min spot left = reduce_at op.Min spot left
simple_at word.Max spot left = reduce_at op.Max spot left
simple_at word.Agree spot left = agree_at spot left
simple_at word.Shift spot left = shift_at spot left
simple_at word.Group spot left = group_at spot left
simple_at word.Member spot left = member_at spot left
simple_at word.Store spot left = store_at spot left
simple_at word.Commit spot left = do
  group ← number_at left
  Ok (stmt.Commit spot group.0, group.1)
simple_at word.CommitBarrier spot left = do
  group ← number_at left
  Ok (stmt.CommitBarrier spot group.0, group.1)
simple_at word.Restore spot left = restore_at spot left
simple_at word.Drop spot left = do
  group ← number_at left
  stamp ← expr_at group.1
  Ok (stmt.Drop spot group.0 stamp.0, stamp.1)
