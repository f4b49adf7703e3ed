-- Where a statement stands in its text.
use Rattle.std.specs.Prelude.{◌≡◌, codes, refl}
use Rattle.fx_base.specs.declared.spot.Spot.{Spot}
use Rattle.fx_script.specs.declared.job.Stmt.{Stmt}
use Rattle.fx_script.specs.declared.job.Stmt.TheOpen.{Stmt-F}
use Rattle.fx_script.specs.declared.job.Stmt.TheFolds.{fold-Stmt}

-- the spot of a statement: that of the first word of its line, of a block's first line
abbrev pub spot_level : {X : Type 0} → Stmt-F X → Spot
spot_level (Stmt-F.Let spot array value) = spot
spot_level (Stmt-F.Set spot counter value) = spot
spot_level (Stmt-F.Print spot name) = spot
spot_level (Stmt-F.Register spot name) = spot
spot_level (Stmt-F.RoleOnly spot role body) = spot
spot_level (Stmt-F.Branch spot test left right body other) = spot
spot_level (Stmt-F.Loop spot counter first last body) = spot
spot_level (Stmt-F.Barrier spot) = spot
spot_level (Stmt-F.Reduce spot op counter array) = spot
spot_level (Stmt-F.Agree spot counter array index) = spot
spot_level (Stmt-F.Shift spot source target by) = spot
spot_level (Stmt-F.Group spot group start depth) = spot
spot_level (Stmt-F.Member spot group member array) = spot
spot_level (Stmt-F.Store spot group member subset) = spot
spot_level (Stmt-F.Commit spot group) = spot
spot_level (Stmt-F.CommitBarrier spot group) = spot
spot_level (Stmt-F.Restore spot group member stamp) = spot
spot_level (Stmt-F.Drop spot group stamp) = spot

abbrev pub stmt_spot : Stmt → Spot
stmt_spot = fold-Stmt Spot spot_level

-- a print in line 7, behind two spaces
a_print : spot_level {X = Stmt} (Stmt-F.Print (record { line = 7; column = 3 }) (codes "a")) ≡ record { line = 7; column = 3 }
a_print = refl
