-- Which texts spell which job.
use Rattle.std.specs.Prelude.{◌≡◌, ℕ, zero, suc, ℤ, Bool, true, false, ◌&&◌, nat_le, List, [], ◌∷◌, ◌++◌, map, length, codes, Option, Some, None, IfSome}
use Rattle.std.specs.Fmt.{signed_decimal}
use Rattle.std.specs.List.{AllByRecursion, list_all}
use Rattle.fx_base.specs.declared.names.Op.{Op}
use Rattle.fx_base.specs.declared.names.Op.TheVariants as op
use Rattle.fx_base.specs.declared.names.Role.{Role}
use Rattle.fx_base.specs.declared.names.Role.TheVariants as role
use Rattle.fx_base.specs.declared.spot.Spot.{Spot}
use Rattle.fx_text.specs.Lines.{lines_of}
use Rattle.fx_text.specs.Numbers.{fits_64}
use Rattle.fx_text.specs.Words.{Word}
use Rattle.fx_script.specs.declared.job.Callback.{Callback}
use Rattle.fx_script.specs.declared.job.Decl.{Decl}
use Rattle.fx_script.specs.declared.job.Decl.TheVariants as decl
use Rattle.fx_script.specs.declared.job.Event.{Event}
use Rattle.fx_script.specs.declared.job.EventKind.{EventKind}
use Rattle.fx_script.specs.declared.job.EventKind.TheVariants as event
use Rattle.fx_script.specs.declared.job.Job.{Job}
use Rattle.fx_script.specs.declared.job.Picked.{Picked}
use Rattle.fx_script.specs.declared.job.Picked.TheVariants as picked
use Rattle.fx_script.specs.declared.job.Stmt.{Stmt}
use Rattle.fx_script.specs.declared.job.Stmt.TheOpen.{Stmt-F}
use Rattle.fx_script.specs.declared.job.Stmt.TheFolds.{fold-Stmt}
use Rattle.fx_script.specs.declared.job.Test.{Test}
use Rattle.fx_script.specs.declared.job.Test.TheVariants as test
use Rattle.fx_script.specs.Exprs.{expr_words, is_writable_expr}
use Rattle.fx_text.specs.Names.{is_name}
use Rattle.fx_script.specs.SaidLines.{Met, spot_of, met_from, IsSound}

-- ---- the words of fields

abbrev pub role_text : Role → List ℕ
role_text role.Initial = codes "initial"
role_text role.Survivor = codes "survivor"
role_text role.Recovered = codes "recovered"

abbrev pub test_text : Test → List ℕ
test_text test.Lt = codes "lt"
test_text test.Le = codes "le"
test_text test.Eq = codes "eq"

abbrev pub op_text : Op → List ℕ
op_text op.Sum = codes "sum"
op_text op.Min = codes "min"
op_text op.Max = codes "max"

-- pairs, one after another
abbrev pub pairs_words : List (ℤ × ℤ) → List (List ℕ)
pairs_words [] = []
pairs_words (p ∷ ps) = signed_decimal p.0 ∷ signed_decimal p.1 ∷ pairs_words ps

abbrev pub picked_words : Picked → List (List ℕ)
picked_words picked.Full = codes "full" ∷ []
picked_words picked.Empty = codes "empty" ∷ []
picked_words (picked.Strided blocks start end stride) =
    codes "strided" ∷ signed_decimal blocks ∷ signed_decimal start ∷ signed_decimal end ∷ signed_decimal stride ∷ []
picked_words (picked.Ranges pairs) = codes "ranges" ∷ pairs_words pairs

abbrev pub event_words : EventKind → List (List ℕ)
event_words (event.Step p) = codes "step" ∷ signed_decimal p ∷ []
event_words (event.Rest p) = codes "rest" ∷ signed_decimal p ∷ []
event_words (event.Deliver from to) = codes "deliver" ∷ signed_decimal from ∷ signed_decimal to ∷ []
event_words (event.Kill p) = codes "kill" ∷ signed_decimal p ∷ []
event_words (event.Notice lost to) = codes "notice" ∷ signed_decimal lost ∷ signed_decimal to ∷ []
event_words (event.Run rounds) = codes "run" ∷ signed_decimal rounds ∷ []

-- ---- the lines of a job

-- a line that a job spells: its spot, where the job keeps it, and its words
pub record Entry : Type 0 where
  pub spot : Option Spot
  pub words : List (List ℕ)

-- a line whose spot the job keeps
abbrev pub kept_at : Spot → List (List ℕ) → Entry
kept_at spot words = record { spot = Some spot; words = words }

-- a line of one word whose spot it doesn't keep
abbrev pub anywhere : List ℕ → Entry
anywhere word = record { spot = None; words = word ∷ [] }

-- the first line of a statement
abbrev pub opening : {X : Type 0} → Stmt-F X → Entry
opening (Stmt-F.Let spot array value) = kept_at spot (codes "let" ∷ array ∷ expr_words value)
opening (Stmt-F.Set spot counter value) = kept_at spot (codes "set" ∷ counter ∷ expr_words value)
opening (Stmt-F.Print spot name) = kept_at spot (codes "print" ∷ name ∷ [])
opening (Stmt-F.Register spot name) = kept_at spot (codes "register" ∷ name ∷ [])
opening (Stmt-F.RoleOnly spot role body) = kept_at spot (codes "when" ∷ role_text role ∷ [])
opening (Stmt-F.Branch spot test left right body other) = kept_at spot (codes "if" ∷ test_text test ∷ (expr_words left ++ expr_words right))
opening (Stmt-F.Loop spot counter first last body) = kept_at spot (codes "for" ∷ counter ∷ (expr_words first ++ signed_decimal last ∷ []))
opening (Stmt-F.Barrier spot) = kept_at spot (codes "barrier" ∷ [])
opening (Stmt-F.Reduce spot op counter array) = kept_at spot (op_text op ∷ counter ∷ array ∷ [])
opening (Stmt-F.Agree spot counter array index) = kept_at spot (codes "agree" ∷ counter ∷ array ∷ signed_decimal index ∷ [])
opening (Stmt-F.Shift spot source target by) = kept_at spot (codes "shift" ∷ source ∷ target ∷ signed_decimal by ∷ [])
opening (Stmt-F.Group spot group start depth) = kept_at spot (codes "group" ∷ signed_decimal group ∷ signed_decimal start ∷ signed_decimal depth ∷ [])
opening (Stmt-F.Member spot group member array) = kept_at spot (codes "member" ∷ signed_decimal group ∷ signed_decimal member ∷ array ∷ [])
opening (Stmt-F.Store spot group member subset) = kept_at spot (codes "store" ∷ signed_decimal group ∷ signed_decimal member ∷ picked_words subset)
opening (Stmt-F.Commit spot group) = kept_at spot (codes "commit" ∷ signed_decimal group ∷ [])
opening (Stmt-F.CommitBarrier spot group) = kept_at spot (codes "commitbarrier" ∷ signed_decimal group ∷ [])
opening (Stmt-F.Restore spot group member stamp) = kept_at spot (codes "restore" ∷ signed_decimal group ∷ signed_decimal member ∷ expr_words stamp)
opening (Stmt-F.Drop spot group stamp) = kept_at spot (codes "drop" ∷ signed_decimal group ∷ expr_words stamp)

-- lists, one after another
abbrev pub chained : {X : Type 0} → List (List X) → List X
chained [] = []
chained (l ∷ ls) = l ++ chained ls

-- the other list of a branch, behind `else`
abbrev pub otherwise : Option (List (List Entry)) → List Entry
otherwise None = []
otherwise (Some body) = anywhere (codes "else") ∷ chained body

-- the lines of a statement behind its first: those of the statements in it, and its last
abbrev pub behind : Stmt-F (List Entry) → List Entry
behind (Stmt-F.RoleOnly spot role body) = chained body ++ anywhere (codes "endwhen") ∷ []
behind (Stmt-F.Branch spot test left right body other) = chained body ++ otherwise other ++ anywhere (codes "endif") ∷ []
behind (Stmt-F.Loop spot counter first last body) = chained body ++ anywhere (codes "endfor") ∷ []
behind simple = []

abbrev pub stmt_level : Stmt-F (List Entry) → List Entry
stmt_level s = opening s ∷ behind s

-- the lines of a statement
abbrev pub stmt_entries : Stmt → List Entry
stmt_entries = fold-Stmt (List Entry) stmt_level

abbrev pub stmts_entries : List Stmt → List Entry
stmts_entries ss = chained (map stmt_entries ss)

-- the line of a declaration
abbrev pub decl_entry : Decl → Entry
decl_entry (decl.Array spot name len) = kept_at spot (codes "array" ∷ name ∷ signed_decimal len ∷ [])
decl_entry (decl.Counter spot name) = kept_at spot (codes "counter" ∷ name ∷ [])

-- the lines of a callback
abbrev pub callback_entries : Callback → List Entry
callback_entries c = kept_at c.spot (codes "callback" ∷ c.name ∷ []) ∷ (stmts_entries c.body ++ anywhere (codes "endcallback") ∷ [])

-- the line of an event
abbrev pub event_entry : Event → Entry
event_entry e = kept_at e.spot (event_words e.kind)

-- the first lines of a job
abbrev pub heading : Job → List Entry
heading job =
    record { spot = None; words = codes "fenix" ∷ codes "1" ∷ [] }
    ∷ kept_at job.ranks_spot (codes "ranks" ∷ signed_decimal job.ranks ∷ [])
    ∷ kept_at job.spares_spot (codes "spares" ∷ signed_decimal job.spares ∷ [])
    ∷ kept_at job.separation_spot (codes "separation" ∷ signed_decimal job.separation ∷ [])
    ∷ []

-- the lines of a job, in their order
abbrev pub job_entries : Job → List Entry
job_entries job =
    heading job
    ++ map decl_entry job.names
    ++ chained (map callback_entries job.callbacks)
    ++ kept_at job.begin_spot (codes "begin" ∷ []) ∷ []
    ++ stmts_entries job.body
    ++ anywhere (codes "end") ∷ anywhere (codes "schedule") ∷ []
    ++ map event_entry job.events
    ++ anywhere (codes "stop") ∷ []

-- ---- what can be written

-- 1 to 16 pairs of numbers that fit
abbrev pub pair_fits : ℤ × ℤ → Bool
pair_fits p = fits_64 p.0 && fits_64 p.1

abbrev pub picked_fits : Picked → Bool
picked_fits picked.Full = true
picked_fits picked.Empty = true
picked_fits (picked.Strided blocks start end stride) = fits_64 blocks && fits_64 start && fits_64 end && fits_64 stride
picked_fits (picked.Ranges pairs) = list_all pair_fits pairs && nat_le 1 (length pairs) && nat_le (length pairs) 16

-- the first line of a statement has names that are names and numbers that fit
abbrev pub opening_fits : {X : Type 0} → Stmt-F X → Bool
opening_fits (Stmt-F.Let spot array value) = is_name array && is_writable_expr value
opening_fits (Stmt-F.Set spot counter value) = is_name counter && is_writable_expr value
opening_fits (Stmt-F.Print spot name) = is_name name
opening_fits (Stmt-F.Register spot name) = is_name name
opening_fits (Stmt-F.RoleOnly spot role body) = true
opening_fits (Stmt-F.Branch spot test left right body other) = is_writable_expr left && is_writable_expr right
opening_fits (Stmt-F.Loop spot counter first last body) = is_name counter && is_writable_expr first && fits_64 last
opening_fits (Stmt-F.Barrier spot) = true
opening_fits (Stmt-F.Reduce spot op counter array) = is_name counter && is_name array
opening_fits (Stmt-F.Agree spot counter array index) = is_name counter && is_name array && fits_64 index
opening_fits (Stmt-F.Shift spot source target by) = is_name source && is_name target && fits_64 by
opening_fits (Stmt-F.Group spot group start depth) = fits_64 group && fits_64 start && fits_64 depth
opening_fits (Stmt-F.Member spot group member array) = fits_64 group && fits_64 member && is_name array
opening_fits (Stmt-F.Store spot group member subset) = fits_64 group && fits_64 member && picked_fits subset
opening_fits (Stmt-F.Commit spot group) = fits_64 group
opening_fits (Stmt-F.CommitBarrier spot group) = fits_64 group
opening_fits (Stmt-F.Restore spot group member stamp) = fits_64 group && fits_64 member && is_writable_expr stamp
opening_fits (Stmt-F.Drop spot group stamp) = fits_64 group && is_writable_expr stamp

-- what a list of statements in a block is, where there is room for so many blocks in one another
abbrev pub list_fits : List (ℕ → Bool) → ℕ → Bool
list_fits body zero = false
list_fits body (suc room) = list_all (λ fits. fits room) body

abbrev pub other_fits : Option (List (ℕ → Bool)) → ℕ → Bool
other_fits None room = true
other_fits (Some body) room = list_fits body room

abbrev pub behind_fits : Stmt-F (ℕ → Bool) → ℕ → Bool
behind_fits (Stmt-F.RoleOnly spot role body) room = list_fits body room
behind_fits (Stmt-F.Branch spot test left right body other) room = list_fits body room && other_fits other room
behind_fits (Stmt-F.Loop spot counter first last body) room = list_fits body room
behind_fits simple room = true

abbrev pub stmt_fits_level : Stmt-F (ℕ → Bool) → ℕ → Bool
stmt_fits_level s room = opening_fits s && behind_fits s room

abbrev pub stmt_fits : Stmt → ℕ → Bool
stmt_fits = fold-Stmt (ℕ → Bool) stmt_fits_level

-- statements fit where this many blocks more may be in one another
abbrev pub stmts_fit : List Stmt → ℕ → Bool
stmts_fit ss room = list_all (λ s. stmt_fits s room) ss

abbrev pub decl_fits : Decl → Bool
decl_fits (decl.Array spot name len) = is_name name && fits_64 len
decl_fits (decl.Counter spot name) = is_name name

abbrev pub callback_fits : Callback → Bool
callback_fits c = is_name c.name && stmts_fit c.body 64

abbrev pub event_fits : EventKind → Bool
event_fits (event.Step p) = fits_64 p
event_fits (event.Rest p) = fits_64 p
event_fits (event.Deliver from to) = fits_64 from && fits_64 to
event_fits (event.Kill p) = fits_64 p
event_fits (event.Notice lost to) = fits_64 lost && fits_64 to
event_fits (event.Run rounds) = fits_64 rounds

-- a job that can be written: its names are names, its numbers fit, and at most 64 blocks are in one another
pub record IsWritable (job : Job) : Type 0 where
  pub ranks : fits_64 job.ranks ≡ true
  pub spares : fits_64 job.spares ≡ true
  pub separation : fits_64 job.separation ≡ true
  pub names : list_all decl_fits job.names ≡ true
  pub callbacks : list_all callback_fits job.callbacks ≡ true
  pub body : stmts_fit job.body 64 ≡ true
  pub events : list_all (λ e. event_fits e.kind) job.events ≡ true

-- ---- texts

-- the words of a line that was met
abbrev pub bytes_of : Word → List ℕ
bytes_of w = w.bytes

abbrev pub words_in : Met → List (List ℕ)
words_in m = m.first.bytes ∷ map bytes_of m.left.words

-- a line that was met is this one
pub record IsLine (m : Met) (e : Entry) : Type 0 where
  pub spot : IfSome e.spot (λ spot. spot ≡ spot_of m)
  pub words : words_in m ≡ e.words

-- the lines that were met are these, one for one
abbrev pub AreLines : List Met → List Entry → Type 0
AreLines [] [] = Unit {0}
AreLines [] (e ∷ es) = ⊥
AreLines (m ∷ ms) [] = ⊥
AreLines (m ∷ ms) (e ∷ es) = IsLine m e × AreLines ms es

-- a text spells a job: its lines are sound, and those that say something are the job's, with their spots
pub record Spells (text : List ℕ) (job : Job) : Type 0 where
  pub writable : IsWritable job
  pub sound : AllByRecursion IsSound (lines_of text)
  pub lines : AreLines (met_from 1 (lines_of text)) (job_entries job)
