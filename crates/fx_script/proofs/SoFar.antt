-- The lines of a draft: those of its job that were read; and what each draft is.
use Rattle.std.proofs.Common.{◌≡◌, ℕ, suc, ◌+◌, true, ◌&&◌, List, [], ◌∷◌, ◌++◌, length, Option, Some, None}
use Rattle.std.specs.Prelude.{map, codes}
use Rattle.std.specs.Fmt.{signed_decimal}
use Rattle.std.specs.List.{list_all}
use Rattle.fx_base.specs.declared.spot.Spot.{Spot}
use Rattle.fx_text.specs.Numbers.{fits_64}
use Rattle.fx_script.specs.declared.draft.Block.{Block}
use Rattle.fx_script.specs.declared.draft.Block.TheVariants as block
use Rattle.fx_script.specs.declared.draft.Draft.{Draft}
use Rattle.fx_script.specs.declared.draft.DuePart.{DuePart}
use Rattle.fx_script.specs.declared.draft.DuePart.TheVariants as due_part
use Rattle.fx_script.specs.declared.head.EdgeHead.{EdgeHead}
use Rattle.fx_script.specs.declared.head.EdgeHead.TheVariants as edge
use Rattle.fx_script.specs.declared.head.PartHead.{PartHead}
use Rattle.fx_script.specs.declared.head.PartHead.TheVariants as part
use Rattle.fx_script.specs.declared.job.Job.{Job}
use Rattle.fx_script.specs.declared.job.Stmt.{Stmt}
use Rattle.fx_script.specs.Exprs.{is_writable_expr}
use Rattle.fx_script.specs.Keywords.{part_text, edge_text}
use Rattle.fx_text.specs.Names.{is_name}
use Rattle.fx_script.specs.Spelling.{Entry, kept_at, anywhere, chained, stmts_entries, decl_entry, callback_entries, event_entry, heading, job_entries, stmts_fit, decl_fits, callback_fits, event_fits}
use Rattle.fx_script.proofs.HeadLemmas.{part_word_in, part_fields, edge_word_in, edge_fields}

-- ---- the lines that heads say

abbrev pub part_spot : Spot → PartHead → Option Spot
part_spot spot (part.Ranks n) = Some spot
part_spot spot (part.Spares n) = Some spot
part_spot spot (part.Separation n) = Some spot
part_spot spot (part.Array name len) = Some spot
part_spot spot (part.Counter name) = Some spot
part_spot spot (part.Callback name) = Some spot
part_spot spot part.Begin = Some spot
part_spot spot p = None

abbrev pub part_line : Spot → PartHead → Entry
part_line spot p = record { spot = part_spot spot p; words = part_text (part_word_in p) ∷ part_fields p }

abbrev pub edge_spot : Spot → EdgeHead → Option Spot
edge_spot spot (edge.When role) = Some spot
edge_spot spot (edge.If test left right) = Some spot
edge_spot spot (edge.For counter first last) = Some spot
edge_spot spot e = None

abbrev pub edge_line : Spot → EdgeHead → Entry
edge_line spot e = record { spot = edge_spot spot e; words = edge_text (edge_word_in e) ∷ edge_fields e }

-- ---- the lines of a draft

-- the lines of an open block, and of the statements before it
abbrev pub block_lines : Block → List Entry
block_lines (block.RoleOnly spot role before) = stmts_entries before ++ edge_line spot (edge.When role) ∷ []
block_lines (block.Yes spot test left right before) = stmts_entries before ++ edge_line spot (edge.If test left right) ∷ []
block_lines (block.No spot test left right chosen before) = stmts_entries before ++ edge_line spot (edge.If test left right) ∷ (stmts_entries chosen ++ anywhere (codes "else") ∷ [])
block_lines (block.Loop spot counter first last before) = stmts_entries before ++ edge_line spot (edge.For counter first last) ∷ []

abbrev pub open_lines : List Block → List Entry
open_lines [] = []
open_lines (b ∷ bs) = open_lines bs ++ block_lines b

abbrev pub inner : List Block → List Stmt → List Entry
inner bs now = open_lines bs ++ stmts_entries now

abbrev pub named : Job → List Entry
named job = heading job ++ map decl_entry job.names

abbrev pub called : Job → List Entry
called job = named job ++ chained (map callback_entries job.callbacks)

abbrev pub begun : Job → List Entry
begun job = called job ++ kept_at job.begin_spot (codes "begin" ∷ []) ∷ []

abbrev pub fenix_line : Entry
fenix_line = record { spot = None; words = codes "fenix" ∷ codes "1" ∷ [] }

abbrev pub ranks_line : Job → Entry
ranks_line job = kept_at job.ranks_spot (codes "ranks" ∷ signed_decimal job.ranks ∷ [])

abbrev pub spares_line : Job → Entry
spares_line job = kept_at job.spares_spot (codes "spares" ∷ signed_decimal job.spares ∷ [])

-- the lines that were read, by what is due next
abbrev pub lines_before : DuePart → Draft → List Entry
lines_before due_part.Fenix d = []
lines_before due_part.Ranks d = fenix_line ∷ []
lines_before due_part.Spares d = fenix_line ∷ ranks_line d.job ∷ []
lines_before due_part.Separation d = fenix_line ∷ ranks_line d.job ∷ spares_line d.job ∷ []
lines_before due_part.Names d = named d.job
lines_before due_part.Callbacks d = called d.job
lines_before due_part.Callback d = called d.job ++ kept_at d.callback.spot (codes "callback" ∷ d.callback.name ∷ []) ∷ [] ++ inner d.blocks d.now
lines_before due_part.Body d = begun d.job ++ inner d.blocks d.now
lines_before due_part.Schedule d = begun d.job ++ stmts_entries d.job.body ++ anywhere (codes "end") ∷ []
lines_before due_part.Events d = begun d.job ++ stmts_entries d.job.body ++ anywhere (codes "end") ∷ anywhere (codes "schedule") ∷ [] ++ map event_entry d.job.events
lines_before due_part.Stopped d = job_entries d.job

abbrev pub so_far : Draft → List Entry
so_far d = lines_before d.due_part d

-- ---- what each draft is

-- the parts that have no line yet are empty
abbrev pub NothingOpen : Draft → Type 0
NothingOpen d = (d.job.events ≡ []) × (d.blocks ≡ []) × (d.now ≡ [])

abbrev pub IsTidy : DuePart → Draft → Type 0
IsTidy due_part.Names d = (d.job.callbacks ≡ []) × NothingOpen d
IsTidy due_part.Callbacks d = NothingOpen d
IsTidy due_part.Callback d = (d.job.events ≡ []) × (is_name d.callback.name ≡ true)
IsTidy due_part.Body d = d.job.events ≡ []
IsTidy due_part.Schedule d = d.job.events ≡ []
IsTidy due_part.Events d = Unit {0}
IsTidy due_part.Stopped d = Unit {0}
IsTidy s d = (d.job.names ≡ []) × ((d.job.callbacks ≡ []) × NothingOpen d)

-- the numbers and names of a job fit, as far as it was read
pub record JobFits (job : Job) : Type 0 where
  pub ranks : fits_64 job.ranks ≡ true
  pub spares : fits_64 job.spares ≡ true
  pub separation : fits_64 job.separation ≡ true
  pub names : list_all decl_fits job.names ≡ true
  pub callbacks : list_all callback_fits job.callbacks ≡ true
  pub body : stmts_fit job.body 64 ≡ true
  pub events : list_all (λ e. event_fits e.kind) job.events ≡ true

-- an open block fits, in which there is room for so many blocks more
abbrev pub BlockFits : Block → ℕ → Type 0
BlockFits (block.RoleOnly spot role before) room = stmts_fit before (suc room) ≡ true
BlockFits (block.Yes spot test left right before) room = (is_writable_expr left && is_writable_expr right ≡ true) × (stmts_fit before (suc room) ≡ true)
BlockFits (block.No spot test left right chosen before) room = (is_writable_expr left && is_writable_expr right ≡ true) × ((stmts_fit chosen room ≡ true) × (stmts_fit before (suc room) ≡ true))
BlockFits (block.Loop spot counter first last before) room = (is_name counter && is_writable_expr first && fits_64 last ≡ true) × (stmts_fit before (suc room) ≡ true)

abbrev pub BlocksFit : List Block → ℕ → Type 0
BlocksFit [] room = Unit {0}
BlocksFit (b ∷ bs) room = BlockFits b room × BlocksFit bs (suc room)

-- the open blocks and the statements in the innermost
pub record OpenFits (bs : List Block) (now : List Stmt) : Type 0 where
  pub room : ℕ
  pub count : room + length bs ≡ 64
  pub blocks : BlocksFit bs room
  pub statements : stmts_fit now room ≡ true

pub record IsFine (d : Draft) : Type 0 where
  pub tidy : IsTidy d.due_part d
  pub job : JobFits d.job
  pub open_fits : OpenFits d.blocks d.now
