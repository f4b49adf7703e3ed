-- What the lines of a job do to its draft, one after another.
use Rattle.std.specs.Prelude.{pos, List, [], ◌∷◌, ◌++◌, Some, None}
use Rattle.fx_base.specs.declared.spot.Spot.{Spot}
use Rattle.fx_script.specs.declared.draft.Block.{Block}
use Rattle.fx_script.specs.declared.draft.Block.TheVariants as block
use Rattle.fx_script.specs.declared.draft.Draft.{Draft}
use Rattle.fx_script.specs.declared.draft.DuePart.TheVariants as due_part
use Rattle.fx_script.specs.declared.head.EdgeHead.{EdgeHead}
use Rattle.fx_script.specs.declared.head.EdgeHead.TheVariants as edge
use Rattle.fx_script.specs.declared.head.Head.{Head}
use Rattle.fx_script.specs.declared.head.Head.TheVariants as head
use Rattle.fx_script.specs.declared.head.PartHead.{PartHead}
use Rattle.fx_script.specs.declared.head.PartHead.TheVariants as part
use Rattle.fx_script.specs.declared.job.Callback.{Callback}
use Rattle.fx_script.specs.declared.job.Decl.TheVariants as decl
use Rattle.fx_script.specs.declared.job.Job.{Job}
use Rattle.fx_script.specs.declared.job.Stmt.{Stmt}
use Rattle.fx_script.specs.declared.job.Stmt.TheVariants as stmt

-- the spot of a line that wasn't read yet
abbrev pub nowhere : Spot
nowhere = record { line = 0; column = 0 }

-- before the first line
abbrev pub empty_job : Job
empty_job = record {
  ranks = pos 0;
  spares = pos 0;
  separation = pos 0;
  ranks_spot = nowhere;
  spares_spot = nowhere;
  separation_spot = nowhere;
  begin_spot = nowhere;
  names = [];
  callbacks = [];
  body = [];
  events = [];
}

abbrev pub no_callback : Callback
no_callback = record { spot = nowhere; name = []; body = [] }

abbrev pub empty_draft : Draft
empty_draft = record { due_part = due_part.Fenix; job = empty_job; callback = no_callback; blocks = []; now = [] }

-- a line between the parts of a job
abbrev pub part_moved : Draft → Spot → PartHead → Draft
part_moved d spot part.Fenix = record d { due_part = due_part.Ranks }
part_moved d spot (part.Ranks n) = record d { due_part = due_part.Spares; job = record d.job { ranks = n; ranks_spot = spot } }
part_moved d spot (part.Spares n) = record d { due_part = due_part.Separation; job = record d.job { spares = n; spares_spot = spot } }
part_moved d spot (part.Separation n) = record d { due_part = due_part.Names; job = record d.job { separation = n; separation_spot = spot } }
part_moved d spot (part.Array name len) = record d { job = record d.job { names = d.job.names ++ decl.Array spot name len ∷ [] } }
part_moved d spot (part.Counter name) = record d { job = record d.job { names = d.job.names ++ decl.Counter spot name ∷ [] } }
part_moved d spot (part.Callback name) = record d { due_part = due_part.Callback; callback = record d.callback { spot = spot; name = name } }
part_moved d spot part.EndCallback = record d {
  due_part = due_part.Callbacks;
  job = record d.job { callbacks = d.job.callbacks ++ record d.callback { body = d.now } ∷ [] };
  callback = no_callback;
  now = [];
}
part_moved d spot part.Begin = record d { due_part = due_part.Body; job = record d.job { begin_spot = spot } }
part_moved d spot part.End = record d { due_part = due_part.Schedule; job = record d.job { body = d.now }; now = [] }
part_moved d spot part.Schedule = record d { due_part = due_part.Events }
part_moved d spot part.Stop = record d { due_part = due_part.Stopped }

-- a block whose last list is this one, as a statement, and the statements before it
abbrev pub closed_block : Block → List Stmt → List Stmt × Stmt
closed_block (block.RoleOnly spot role before) body = (before, stmt.RoleOnly spot role body)
closed_block (block.Yes spot test left right before) body = (before, stmt.Branch spot test left right body None)
closed_block (block.No spot test left right chosen before) body = (before, stmt.Branch spot test left right chosen (Some body))
closed_block (block.Loop spot counter first last before) body = (before, stmt.Loop spot counter first last body)

-- the innermost block is closed
abbrev pub closed_in : Draft → List Block → Draft
closed_in d [] = d
closed_in d (b ∷ blocks) = record d { blocks = blocks; now = (closed_block b d.now).0 ++ (closed_block b d.now).1 ∷ [] }

abbrev pub closed : Draft → Draft
closed d = closed_in d d.blocks

-- the innermost block, a branch, goes over to its other list
abbrev pub divided_in : Draft → List Block → Draft
divided_in d (block.Yes spot test left right before ∷ blocks) = record d { blocks = block.No spot test left right d.now before ∷ blocks; now = [] }
divided_in d blocks = d

abbrev pub divided : Draft → Draft
divided d = divided_in d d.blocks

-- a line that opens, divides or closes a block
abbrev pub edge_moved : Draft → Spot → EdgeHead → Draft
edge_moved d spot (edge.When role) = record d { blocks = block.RoleOnly spot role d.now ∷ d.blocks; now = [] }
edge_moved d spot (edge.If test left right) = record d { blocks = block.Yes spot test left right d.now ∷ d.blocks; now = [] }
edge_moved d spot (edge.For counter first last) = record d { blocks = block.Loop spot counter first last d.now ∷ d.blocks; now = [] }
edge_moved d spot edge.Else = divided d
edge_moved d spot edge.EndWhen = closed d
edge_moved d spot edge.EndIf = closed d
edge_moved d spot edge.EndFor = closed d

-- a line
abbrev pub moved : Draft → Spot → Head → Draft
moved d spot (head.Part p) = part_moved d spot p
moved d spot (head.Edge e) = edge_moved d spot e
moved d spot (head.Simple s) = record d { now = d.now ++ s ∷ [] }
moved d spot (head.Event kind) = record d { job = record d.job { events = d.job.events ++ record { spot = spot; kind = kind } ∷ [] } }
