-- The one text that is written for a job, and jobs that differ in the spots of their lines alone.
use Rattle.std.specs.Prelude.{◌≡◌, ℕ, ◌≤◌, List, [], ◌∷◌, ◌++◌, map, length, codes, refl}
use Rattle.std.specs.List.{AllByRecursion}
use Rattle.fx_script.specs.declared.job.Callback.{Callback}
use Rattle.fx_script.specs.declared.job.Decl.{Decl}
use Rattle.fx_script.specs.declared.job.Decl.TheVariants as decl
use Rattle.fx_script.specs.declared.job.Event.{Event}
use Rattle.fx_script.specs.declared.job.Job.{Job}
use Rattle.fx_script.specs.declared.job.Stmt.{Stmt}
use Rattle.fx_script.specs.declared.job.Stmt.TheVariants as stmt
use Rattle.fx_script.specs.declared.job.Stmt.TheOpen.{Stmt-F}
use Rattle.fx_script.specs.declared.job.Stmt.TheFolds.{fold-Stmt}
use Rattle.fx_script.specs.Moves.{nowhere}
use Rattle.fx_script.specs.Spelling.{Entry, chained, job_entries, IsWritable, Spells}
use Rattle.fx_text.specs.Written.{spaced}

-- ---- the text

-- a line of these words, one space between two, without its line end
abbrev pub line_of_words : List (List ℕ) → List ℕ
line_of_words [] = []
line_of_words (w ∷ ws) = w ++ spaced ws

-- the line of an entry, with its line end
abbrev pub entry_line : Entry → List ℕ
entry_line e = line_of_words e.words ++ 10 ∷ []

-- the lines of entries, one after another
abbrev pub text_of : List Entry → List ℕ
text_of es = chained (map entry_line es)

-- the text of a job: its lines, with one space between words, none elsewhere, and nothing that says nothing
abbrev pub canonical : Job → List ℕ
canonical job = text_of (job_entries job)

-- ---- jobs but for their spots

-- a statement whose spots are put aside, and those of the statements in it
abbrev pub stmt_without_spots_level : Stmt-F Stmt → Stmt
stmt_without_spots_level (Stmt-F.Let spot array value) = stmt.Let nowhere array value
stmt_without_spots_level (Stmt-F.Set spot counter value) = stmt.Set nowhere counter value
stmt_without_spots_level (Stmt-F.Print spot name) = stmt.Print nowhere name
stmt_without_spots_level (Stmt-F.Register spot name) = stmt.Register nowhere name
stmt_without_spots_level (Stmt-F.RoleOnly spot role body) = stmt.RoleOnly nowhere role body
stmt_without_spots_level (Stmt-F.Branch spot test left right body other) = stmt.Branch nowhere test left right body other
stmt_without_spots_level (Stmt-F.Loop spot counter first last body) = stmt.Loop nowhere counter first last body
stmt_without_spots_level (Stmt-F.Barrier spot) = stmt.Barrier nowhere
stmt_without_spots_level (Stmt-F.Reduce spot op counter array) = stmt.Reduce nowhere op counter array
stmt_without_spots_level (Stmt-F.Agree spot counter array index) = stmt.Agree nowhere counter array index
stmt_without_spots_level (Stmt-F.Shift spot source target by) = stmt.Shift nowhere source target by
stmt_without_spots_level (Stmt-F.Group spot group start depth) = stmt.Group nowhere group start depth
stmt_without_spots_level (Stmt-F.Member spot group member array) = stmt.Member nowhere group member array
stmt_without_spots_level (Stmt-F.Store spot group member subset) = stmt.Store nowhere group member subset
stmt_without_spots_level (Stmt-F.Commit spot group) = stmt.Commit nowhere group
stmt_without_spots_level (Stmt-F.CommitBarrier spot group) = stmt.CommitBarrier nowhere group
stmt_without_spots_level (Stmt-F.Restore spot group member stamp) = stmt.Restore nowhere group member stamp
stmt_without_spots_level (Stmt-F.Drop spot group stamp) = stmt.Drop nowhere group stamp

abbrev pub stmt_without_spots : Stmt → Stmt
stmt_without_spots = fold-Stmt Stmt stmt_without_spots_level

abbrev pub decl_without_spot : Decl → Decl
decl_without_spot (decl.Array spot name len) = decl.Array nowhere name len
decl_without_spot (decl.Counter spot name) = decl.Counter nowhere name

abbrev pub callback_without_spots : Callback → Callback
callback_without_spots c = record { spot = nowhere; name = c.name; body = map stmt_without_spots c.body }

abbrev pub event_without_spot : Event → Event
event_without_spot e = record { spot = nowhere; kind = e.kind }

-- a job whose spots are put aside: what is left of it is what its lines say
abbrev pub without_spots : Job → Job
without_spots job = record {
  ranks = job.ranks;
  spares = job.spares;
  separation = job.separation;
  ranks_spot = nowhere;
  spares_spot = nowhere;
  separation_spot = nowhere;
  begin_spot = nowhere;
  names = map decl_without_spot job.names;
  callbacks = map callback_without_spots job.callbacks;
  body = map stmt_without_spots job.body;
  events = map event_without_spot job.events;
}

-- a job that some text spells, its spots aside
pub record HasText (job : Job) : Type 0 where
  pub text : List ℕ
  pub told : Job
  pub spelled : Spells text told
  pub same : without_spots told ≡ without_spots job

-- the lines of its canonical text have at most 1,024 bytes each
abbrev pub HasShortLines : Job → Type 0
HasShortLines job = AllByRecursion (λ e. length (line_of_words e.words) ≤ 1024) (job_entries job)

-- a job that can be written, in lines that aren't too long
pub record CanBeWritten (job : Job) : Type 0 where
  pub writable : IsWritable job
  pub short : HasShortLines job

-- a text spells a job and, spots aside, no other
pub record SpellsAlone (text : List ℕ) (job : Job) : Type 0 where
  pub told : Job
  pub spelled : Spells text told
  pub alone : (again : Job) → Spells text again → without_spots again ≡ without_spots job

-- a line of three words
three_words : line_of_words (codes "set" ∷ codes "c" ∷ codes "1" ∷ []) ≡ codes "set c 1"
three_words = refl
