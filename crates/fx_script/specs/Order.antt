-- Which lines may stand next.
use Rattle.std.specs.Prelude.{Bool, true, false, ◌&&◌, ◌==◌, nat_lt, List, ◌∷◌, length}
use Rattle.fx_script.specs.declared.draft.Block.{Block}
use Rattle.fx_script.specs.declared.draft.Block.TheVariants as block
use Rattle.fx_script.specs.declared.draft.DuePart.{DuePart}
use Rattle.fx_script.specs.declared.draft.DuePart.TheVariants as due_part
use Rattle.fx_script.specs.declared.keyword.EdgeWord.{EdgeWord}
use Rattle.fx_script.specs.declared.keyword.EdgeWord.TheVariants as edge
use Rattle.fx_script.specs.declared.keyword.Keyword.{Keyword}
use Rattle.fx_script.specs.declared.keyword.Keyword.TheVariants as k
use Rattle.fx_script.specs.declared.keyword.PartWord.{PartWord}
use Rattle.fx_script.specs.declared.keyword.PartWord.TheVariants as part

-- statements may stand in a callback and in the body
abbrev pub is_inside : DuePart → Bool
is_inside due_part.Callback = true
is_inside due_part.Body = true
is_inside s = false

-- no block is open
abbrev pub none_open : List Block → Bool
none_open blocks = length blocks == 0

-- the parts of a job follow each other in one order; a part with statements ends where no block is open
abbrev pub part_stands : DuePart → List Block → PartWord → Bool
part_stands due_part.Fenix blocks part.Fenix = true
part_stands due_part.Ranks blocks part.Ranks = true
part_stands due_part.Spares blocks part.Spares = true
part_stands due_part.Separation blocks part.Separation = true
part_stands due_part.Names blocks part.Array = true
part_stands due_part.Names blocks part.Counter = true
part_stands due_part.Names blocks part.Callback = true
part_stands due_part.Names blocks part.Begin = true
part_stands due_part.Callbacks blocks part.Callback = true
part_stands due_part.Callbacks blocks part.Begin = true
part_stands due_part.Callback blocks part.EndCallback = none_open blocks
part_stands due_part.Body blocks part.End = none_open blocks
part_stands due_part.Schedule blocks part.Schedule = true
part_stands due_part.Events blocks part.Stop = true
part_stands s blocks word = false

-- the innermost block that is open is one of this kind
abbrev pub is_role_open : List Block → Bool
is_role_open (block.RoleOnly spot role before ∷ blocks) = true
is_role_open blocks = false

abbrev pub is_yes_open : List Block → Bool
is_yes_open (block.Yes spot test left right before ∷ blocks) = true
is_yes_open blocks = false

abbrev pub is_branch_open : List Block → Bool
is_branch_open (block.Yes spot test left right before ∷ blocks) = true
is_branch_open (block.No spot test left right chosen before ∷ blocks) = true
is_branch_open blocks = false

abbrev pub is_loop_open : List Block → Bool
is_loop_open (block.Loop spot counter first last before ∷ blocks) = true
is_loop_open blocks = false

-- a block may be opened where fewer than 64 are; a line that divides or closes one fits the innermost
abbrev pub edge_stands : List Block → EdgeWord → Bool
edge_stands blocks edge.When = nat_lt (length blocks) 64
edge_stands blocks edge.If = nat_lt (length blocks) 64
edge_stands blocks edge.For = nat_lt (length blocks) 64
edge_stands blocks edge.EndWhen = is_role_open blocks
edge_stands blocks edge.Else = is_yes_open blocks
edge_stands blocks edge.EndIf = is_branch_open blocks
edge_stands blocks edge.EndFor = is_loop_open blocks

-- events may stand in the schedule
abbrev pub is_scheduled : DuePart → Bool
is_scheduled due_part.Events = true
is_scheduled s = false

-- a line with this keyword may stand next
abbrev pub may_stand : DuePart → List Block → Keyword → Bool
may_stand s blocks (k.Part word) = part_stands s blocks word
may_stand s blocks (k.Edge word) = is_inside s && edge_stands blocks word
may_stand s blocks (k.Simple word) = is_inside s
may_stand s blocks (k.Event word) = is_scheduled s
