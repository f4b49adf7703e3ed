-- What a text spells is read from it.
use Rattle.std.proofs.Common.{◌≡◌, ℕ, zero, suc, ◌+◌, Bool, true, false, ltb, ◌&&◌, List, [], ◌∷◌, ◌++◌, length, Option, Some, None, Result, Ok, refl, sym, ap, subst, ◌∙◌, append_assoc, arith}
use Rattle.std.specs.Prelude.{ℤ, map, codes}
use Rattle.std.specs.List.{AllByRecursion, list_all}
use Rattle.std.proofs.lemmas.Bool.{and_from, and_parts, lt-ltb}
use Rattle.std.proofs.lemmas.List.{append-nil}
use Rattle.std.proofs.lemmas.List.Folds.{list_all-map}
use Rattle.fx_base.specs.declared.names.Op.TheVariants as op
use Rattle.fx_base.specs.declared.spot.Spot.{Spot}
use Rattle.fx_text.specs.Lines.{Line}
use Rattle.fx_text.specs.Numbers.{fits_64}
use Rattle.fx_text.specs.Words.{Word}
use Rattle.fx_script.specs.declared.draft.Block.{Block}
use Rattle.fx_script.specs.declared.draft.Block.TheVariants as block
use Rattle.fx_script.specs.declared.draft.Draft.{Draft}
use Rattle.fx_script.specs.declared.draft.DuePart.{DuePart}
use Rattle.fx_script.specs.declared.draft.DuePart.TheVariants as due_part
use Rattle.fx_script.specs.declared.head.EdgeHead.{EdgeHead}
use Rattle.fx_script.specs.declared.head.EdgeHead.TheVariants as edge
use Rattle.fx_script.specs.declared.head.Head.{Head}
use Rattle.fx_script.specs.declared.head.Head.TheVariants as head
use Rattle.fx_script.specs.declared.head.PartHead.{PartHead}
use Rattle.fx_script.specs.declared.head.PartHead.TheVariants as part
use Rattle.fx_script.specs.declared.job.Callback.{Callback}
use Rattle.fx_script.specs.declared.job.Decl.{Decl}
use Rattle.fx_script.specs.declared.job.Decl.TheVariants as decl
use Rattle.fx_script.specs.declared.job.Event.{Event}
use Rattle.fx_script.specs.declared.job.EventKind.{EventKind}
use Rattle.fx_base.specs.declared.names.Role.{Role}
use Rattle.fx_script.specs.declared.expr.Expr.{Expr}
use Rattle.fx_script.specs.declared.job.Job.{Job}
use Rattle.fx_script.specs.declared.job.Test.{Test}
use Rattle.fx_script.specs.declared.job.Stmt.{Stmt}
use Rattle.fx_script.specs.declared.job.Stmt.TheVariants as stmt
use Rattle.fx_script.specs.declared.job.Stmt.TheOpen.{Stmt-F}
use Rattle.fx_script.specs.declared.job.Stmt.TheViews.{roll-Stmt}
use Rattle.fx_script.specs.declared.job.Stmt.TheFolds.{map-Stmt, ind-Stmt}
use Rattle.fx_script.specs.declared.keyword.EdgeWord.TheVariants as edge_word
use Rattle.fx_script.specs.declared.keyword.EventWord.TheVariants as event_word
use Rattle.fx_script.specs.declared.keyword.Keyword.{Keyword}
use Rattle.fx_script.specs.declared.keyword.Keyword.TheVariants as k
use Rattle.fx_script.specs.declared.keyword.PartWord.{PartWord}
use Rattle.fx_script.specs.declared.keyword.PartWord.TheVariants as part_word
use Rattle.fx_script.specs.declared.keyword.SimpleWord.TheVariants as simple_word
use Rattle.fx_script.specs.declared.refusal.Wrong.{Wrong}
use Rattle.fx_script.specs.Left.{Left}
use Rattle.fx_script.specs.Exprs.{is_writable_expr}
use Rattle.fx_script.specs.Heads.{head_at}
use Rattle.fx_script.specs.Keywords.{part_text, edge_text, simple_text, event_text, keyword_text, keyword_of}
use Rattle.fx_script.specs.Moves.{empty_draft, empty_job, no_callback, part_moved, edge_moved, moved}
use Rattle.fx_text.specs.Names.{is_name}
use Rattle.fx_script.specs.Reading.{sound, head_placed, head_in, taken, run}
use Rattle.fx_script.specs.SaidLines.{Met, met_in, spot_of, if_met, met_from, IsSound}
use Rattle.fx_script.specs.Spelling.{Entry, kept_at, anywhere, chained, words_in, IsLine, AreLines, event_words, event_fits, stmt_entries, stmts_entries, opening_fits, stmt_fits_level, stmt_fits, stmts_fit, decl_entry, decl_fits, callback_entries, callback_fits, event_entry, heading, job_entries, IsWritable}
use Rattle.fx_script.specs.Order.{may_stand, is_inside, is_scheduled, part_stands, edge_stands}
use Rattle.fx_script.proofs.SoFar.{part_line, edge_line}
use Rattle.fx_script.proofs.Adds.{dr}
use Rattle.fx_script.proofs.FieldLemmas.{texts, end_again}
use Rattle.fx_script.proofs.HeadLemmas.{part_word_in, part_fields, part_fits, part_again, edge_word_in, edge_fields, edge_fits, edge_again, event_word_in, event_fields, event_again, event_words_is}
use Rattle.fx_script.proofs.SimpleLemmas
use Rattle.fx_script.proofs.Sound.{sound_passes}

-- ---- keywords

-- each keyword is read from its word
keyword_again : (keyword : Keyword) → keyword_of (keyword_text keyword) ≡ Some keyword
keyword_again (k.Edge edge_word.Else) = refl
keyword_again (k.Edge edge_word.EndFor) = refl
keyword_again (k.Edge edge_word.EndIf) = refl
keyword_again (k.Edge edge_word.EndWhen) = refl
keyword_again (k.Edge edge_word.For) = refl
keyword_again (k.Edge edge_word.If) = refl
keyword_again (k.Edge edge_word.When) = refl
keyword_again (k.Event event_word.Deliver) = refl
keyword_again (k.Event event_word.Kill) = refl
keyword_again (k.Event event_word.Notice) = refl
keyword_again (k.Event event_word.Rest) = refl
keyword_again (k.Event event_word.Run) = refl
keyword_again (k.Event event_word.Step) = refl
keyword_again (k.Part part_word.Array) = refl
keyword_again (k.Part part_word.Begin) = refl
keyword_again (k.Part part_word.Callback) = refl
keyword_again (k.Part part_word.Counter) = refl
keyword_again (k.Part part_word.End) = refl
keyword_again (k.Part part_word.EndCallback) = refl
keyword_again (k.Part part_word.Fenix) = refl
keyword_again (k.Part part_word.Ranks) = refl
keyword_again (k.Part part_word.Schedule) = refl
keyword_again (k.Part part_word.Separation) = refl
keyword_again (k.Part part_word.Spares) = refl
keyword_again (k.Part part_word.Stop) = refl
keyword_again (k.Simple simple_word.Agree) = refl
keyword_again (k.Simple simple_word.Barrier) = refl
keyword_again (k.Simple simple_word.Commit) = refl
keyword_again (k.Simple simple_word.CommitBarrier) = refl
keyword_again (k.Simple simple_word.Drop) = refl
keyword_again (k.Simple simple_word.Group) = refl
keyword_again (k.Simple simple_word.Let) = refl
keyword_again (k.Simple simple_word.Max) = refl
keyword_again (k.Simple simple_word.Member) = refl
keyword_again (k.Simple simple_word.Min) = refl
keyword_again (k.Simple simple_word.Print) = refl
keyword_again (k.Simple simple_word.Register) = refl
keyword_again (k.Simple simple_word.Restore) = refl
keyword_again (k.Simple simple_word.Set) = refl
keyword_again (k.Simple simple_word.Shift) = refl
keyword_again (k.Simple simple_word.Store) = refl
keyword_again (k.Simple simple_word.Sum) = refl

-- nothing may stand behind `stop`
part_never : (bs : List Block) (word : PartWord) → part_stands due_part.Stopped bs word ≡ false
part_never bs part_word.Fenix = refl
part_never bs part_word.Ranks = refl
part_never bs part_word.Spares = refl
part_never bs part_word.Separation = refl
part_never bs part_word.Array = refl
part_never bs part_word.Counter = refl
part_never bs part_word.Callback = refl
part_never bs part_word.EndCallback = refl
part_never bs part_word.Begin = refl
part_never bs part_word.End = refl
part_never bs part_word.Schedule = refl
part_never bs part_word.Stop = refl

never : (bs : List Block) (keyword : Keyword) → may_stand due_part.Stopped bs keyword ≡ false
never bs (k.Part word) = part_never bs word
never bs (k.Edge word) = refl
never bs (k.Simple word) = refl
never bs (k.Event word) = refl

-- a line that may stand is read by its keyword
in_place : (s : DuePart) (bs : List Block) (keyword : Keyword) (spot : Spot) (first : Word) (left : Left) → may_stand s bs keyword ≡ true
    → head_in s bs spot first left ≡ head_placed s bs (keyword_of first.bytes) spot first left
in_place due_part.Stopped bs keyword spot first left may = let no' : false ≡ true = sym (never bs keyword) ∙ may in absurd cc
in_place due_part.Fenix bs keyword spot first left may = refl
in_place due_part.Ranks bs keyword spot first left may = refl
in_place due_part.Spares bs keyword spot first left may = refl
in_place due_part.Separation bs keyword spot first left may = refl
in_place due_part.Names bs keyword spot first left may = refl
in_place due_part.Callbacks bs keyword spot first left may = refl
in_place due_part.Callback bs keyword spot first left may = refl
in_place due_part.Body bs keyword spot first left may = refl
in_place due_part.Schedule bs keyword spot first left may = refl
in_place due_part.Events bs keyword spot first left may = refl

-- ---- one line

-- each line that is this one leads from a draft to the next
abbrev pub Step : Draft → Entry → Draft → Type 0
Step d e next = (m : Met) → IsLine m e → taken d (Some m) ≡ Ok next

-- a line with this keyword and these words behind it, which are read as this head
line_again : (d : Draft) (m : Met) (keyword : Keyword) (h : Head) → m.first.bytes ≡ keyword_text keyword → may_stand d.due_part d.blocks keyword ≡ true → head_at keyword (spot_of m) m.left ≡ Ok h
    → taken d (Some m) ≡ Ok (moved d (spot_of m) h)
line_again d m keyword h is may read =
    let word : keyword_of m.first.bytes ≡ Some keyword = ap keyword_of is ∙ keyword_again keyword in
    rw (in_place d.due_part d.blocks keyword (spot_of m) m.first m.left may, word, may, read) refl

first_is : (m : Met) (text : List ℕ) (fields : List (List ℕ)) → words_in m ≡ text ∷ fields → m.first.bytes ≡ text
first_is m text fields e = cc

rest_is : (m : Met) (text : List ℕ) (fields : List (List ℕ)) → words_in m ≡ text ∷ fields → texts m.left ≡ fields
rest_is m text fields e = cc

part_read : (d : Draft) (m : Met) (p : PartHead) → part_stands d.due_part d.blocks (part_word_in p) ≡ true → part_fits p ≡ true → words_in m ≡ part_text (part_word_in p) ∷ part_fields p
    → taken d (Some m) ≡ Ok (part_moved d (spot_of m) p)
part_read d m p may fits words =
    let rest = rest_is m (part_text (part_word_in p)) (part_fields p) words in
    let a = part_again p m.left [] fits (rest ∙ sym (append-nil (part_fields p))) in
    line_again d m (k.Part (part_word_in p)) (head.Part p) (first_is m (part_text (part_word_in p)) (part_fields p) words) may (rw (a.read, end_again a.left a.others) refl)

edge_read : (d : Draft) (m : Met) (e : EdgeHead) → is_inside d.due_part ≡ true → edge_stands d.blocks (edge_word_in e) ≡ true → edge_fits e ≡ true → words_in m ≡ edge_text (edge_word_in e) ∷ edge_fields e
    → taken d (Some m) ≡ Ok (edge_moved d (spot_of m) e)
edge_read d m e inside may fits words =
    let rest = rest_is m (edge_text (edge_word_in e)) (edge_fields e) words in
    let a = edge_again e m.left [] fits (rest ∙ sym (append-nil (edge_fields e))) in
    line_again d m (k.Edge (edge_word_in e)) (head.Edge e) (first_is m (edge_text (edge_word_in e)) (edge_fields e) words) (and_from (is_inside d.due_part) (edge_stands d.blocks (edge_word_in e)) inside may)
    (rw (a.read, end_again a.left a.others) refl)

simple_step : (d : Draft) (s : Stmt) (spot : Spot) → is_inside d.due_part ≡ true → (a : SimpleLemmas.SimpleAgain s spot) → Step d (kept_at spot (simple_text a.word ∷ a.fields)) (record d { now = d.now ++ s ∷ [] })
simple_step d s spot inside a m line =
    let rest = rest_is m (simple_text a.word) a.fields line.words in
    let r = a.again m.left rest in
    let read : head_at (k.Simple a.word) (spot_of m) m.left ≡ Ok (head.Simple s) =
    subst (λ (at : Spot). head_at (k.Simple a.word) at m.left ≡ Ok (head.Simple s)) line.spot (rw (r.read, end_again r.left r.others) refl) in
    line_again d m (k.Simple a.word) (head.Simple s) (first_is m (simple_text a.word) a.fields line.words) inside read

abbrev took : Draft → Result Draft Wrong
took d = Ok d

event_step : (d : Draft) (spot : Spot) (kind : EventKind) → is_scheduled d.due_part ≡ true → event_fits kind ≡ true
    → Step d (kept_at spot (event_words kind)) (record d { job = record d.job { events = d.job.events ++ record { spot = spot; kind = kind } ∷ [] } })
event_step d spot kind may fits m line =
    let words = line.words ∙ event_words_is kind in
    let rest = rest_is m (event_text (event_word_in kind)) (event_fields kind) words in
    let a = event_again kind m.left [] fits (rest ∙ sym (append-nil (event_fields kind))) in
    let read : head_at (k.Event (event_word_in kind)) (spot_of m) m.left ≡ Ok (head.Event kind) = rw (a.read, end_again a.left a.others) refl in
    line_again d m (k.Event (event_word_in kind)) (head.Event kind) (first_is m (event_text (event_word_in kind)) (event_fields kind) words) may read
    ∙ ap (λ (at : Spot). took (record d { job = record d.job { events = d.job.events ++ record { spot = at; kind = kind } ∷ [] } })) (sym line.spot)

-- ---- lines, one after another

abbrev pub Leads : Draft → List Entry → Draft → Type 0
Leads d [] last = d ≡ last
Leads d (e ∷ es) last = (next : Draft) × Step d e next × Leads next es last

pub leads_on : (d : Draft) (es : List Entry) (next : Draft) (more : List Entry) (last : Draft) → Leads d es next → Leads next more last → Leads d (es ++ more) last
leads_on d [] next more last same then = subst (λ (x : Draft). Leads x more last) (sym same) then
leads_on d (e ∷ es) next more last leads then = (leads.0, leads.1, leads_on leads.0 es next more last leads.2 then)

-- ---- statements

-- a statement that fits is read from its lines wherever statements may stand
abbrev pub IsAgain : Stmt → Type 0
IsAgain s = (room : ℕ) (st : DuePart) (job : Job) (c : Callback) (bs : List Block) (now : List Stmt) → stmt_fits s room ≡ true → is_inside st ≡ true → room + length bs ≡ 64
    → Leads (dr st job c bs now) (stmt_entries s) (dr st job c bs (now ++ s ∷ []))

simple_case : (s : Stmt) (spot : Spot) (x : Stmt-F Stmt) → roll-Stmt x ≡ s → (opening_fits x ≡ true → SimpleLemmas.SimpleAgain s spot)
    → ((room : ℕ) → stmt_fits_level (map-Stmt Stmt (ℕ → Bool) stmt_fits x) room ≡ true → opening_fits x ≡ true) → IsAgain s
simple_case s spot x is again only room st job c bs now fits inside count =
    let a = again (only room (sym (SimpleLemmas.stmt_writing x s is room) ∙ fits)) in
    subst (λ (es : List Entry). Leads (dr st job c bs now) es (dr st job c bs (now ++ s ∷ []))) (sym a.entries) (dr st job c bs (now ++ s ∷ []), simple_step (dr st job c bs now) s spot inside a, refl)

-- statements, one after another
list_again : (ts : List ((s : Stmt) × IsAgain s)) (room : ℕ) (st : DuePart) (job : Job) (c : Callback) (bs : List Block) (now : List Stmt) → stmts_fit (map (λ t. t.0) ts) room ≡ true → is_inside st ≡ true → room + length bs ≡ 64
    → Leads (dr st job c bs now) (stmts_entries (map (λ t. t.0) ts)) (dr st job c bs (now ++ map (λ t. t.0) ts))
list_again [] room st job c bs now fits inside count = rw (append-nil now) refl
list_again (t ∷ ts) room st job c bs now fits inside count =
    let rest = map (λ (t : (s : Stmt) × IsAgain s). t.0) ts in
    let parts = and_parts (stmt_fits t.0 room) (stmts_fit rest room) fits in
    leads_on (dr st job c bs now) (stmt_entries t.0) (dr st job c bs (now ++ t.0 ∷ [])) (stmts_entries rest) (dr st job c bs (now ++ t.0 ∷ rest)) (t.1 room st job c bs now parts.0 inside count)
    (subst (λ (l : List Stmt). Leads (dr st job c bs (now ++ t.0 ∷ [])) (stmts_entries rest) (dr st job c bs l)) (append_assoc now (t.0 ∷ []) rest)
    (list_again ts room st job c bs (now ++ t.0 ∷ []) parts.1 inside count))

body_fits : (ss : List Stmt) (room : ℕ) → list_all (λ (fits : ℕ → Bool). fits room) (map stmt_fits ss) ≡ true → stmts_fit ss room ≡ true
body_fits ss room all = sym (list_all-map (λ (fits : ℕ → Bool). fits room) stmt_fits ss) ∙ all

few : (room : ℕ) (bs : List Block) → suc room + length bs ≡ 64 → ltb (length bs) 64 ≡ true
few room bs count = lt-ltb (length bs) 64 (omega arith)

deeper : (room : ℕ) (bs : List Block) (b : Block) → suc room + length bs ≡ 64 → room + length (b ∷ bs) ≡ 64
deeper room bs b count = omega arith

-- a block of one list
block_again : (d0 d1 d2 last : Draft) (first end : Entry) (es : List Entry) → Step d0 first d1 → Leads d1 es d2 → Step d2 end last → Leads d0 (first ∷ (es ++ end ∷ [])) last
block_again d0 d1 d2 last first end es open_step inside close_step = (d1, open_step, leads_on d1 es d2 (end ∷ []) last inside (last, close_step, refl))

role_case : (spot : Spot) (role : Role) (ts : List ((s : Stmt) × IsAgain s)) → IsAgain (stmt.RoleOnly spot role (map (λ t. t.0) ts))
role_case spot role ts zero st job c bs now fits inside count =
    let body = map (λ (t : (s : Stmt) × IsAgain s). t.0) ts in
    let no' : false ≡ true = sym (SimpleLemmas.stmt_writing (Stmt-F.RoleOnly spot role body) (stmt.RoleOnly spot role body) (stmt.rolls-RoleOnly spot role body) 0) ∙ fits in
    absurd cc
role_case spot role ts (suc room) st job c bs now fits inside count =
    let body = map (λ (t : (s : Stmt) × IsAgain s). t.0) ts in
    let b : Block = block.RoleOnly spot role now in
    let last = dr st job c bs (now ++ stmt.RoleOnly spot role body ∷ []) in
    let d0 = dr st job c bs now in
    let d1 = dr st job c (b ∷ bs) [] in
    let d2 = dr st job c (b ∷ bs) body in
    let all = sym (SimpleLemmas.stmt_writing (Stmt-F.RoleOnly spot role body) (stmt.RoleOnly spot role body) (stmt.rolls-RoleOnly spot role body) (suc room)) ∙ fits in
    let open_step : Step d0 (edge_line spot (edge.When role)) d1 = λ m line. edge_read d0 m (edge.When role) inside (few room bs count) refl line.words
    ∙ ap (λ (at : Spot). took (dr st job c (block.RoleOnly at role now ∷ bs) [])) (sym line.spot) in
    let close_step : Step d2 (anywhere (codes "endwhen")) last = λ m line. edge_read d2 m edge.EndWhen inside refl refl line.words in
    subst (λ (es : List Entry). Leads d0 es last) (sym (SimpleLemmas.stmt_spelling (Stmt-F.RoleOnly spot role body) (stmt.RoleOnly spot role body) (stmt.rolls-RoleOnly spot role body)))
    (block_again d0 d1 d2 last (edge_line spot (edge.When role)) (anywhere (codes "endwhen")) (stmts_entries body) open_step
    (list_again ts room st job c (b ∷ bs) [] (body_fits body room all) inside (deeper room bs b count)) close_step)

loop_case : (spot : Spot) (counter : List ℕ) (first : Expr) (end : ℤ) (ts : List ((s : Stmt) × IsAgain s)) → IsAgain (stmt.Loop spot counter first end (map (λ t. t.0) ts))
loop_case spot counter first end ts zero st job c bs now fits inside count =
    let body = map (λ (t : (s : Stmt) × IsAgain s). t.0) ts in
    let all = sym (SimpleLemmas.stmt_writing (Stmt-F.Loop spot counter first end body) (stmt.Loop spot counter first end body) (stmt.rolls-Loop spot counter first end body) 0) ∙ fits in
    let no' : false ≡ true = (and_parts (is_name counter && is_writable_expr first && fits_64 end) false all).1 in
    absurd cc
loop_case spot counter first end ts (suc room) st job c bs now fits inside count =
    let body = map (λ (t : (s : Stmt) × IsAgain s). t.0) ts in
    let b : Block = block.Loop spot counter first end now in
    let last = dr st job c bs (now ++ stmt.Loop spot counter first end body ∷ []) in
    let d0 = dr st job c bs now in
    let d1 = dr st job c (b ∷ bs) [] in
    let d2 = dr st job c (b ∷ bs) body in
    let all = sym (SimpleLemmas.stmt_writing (Stmt-F.Loop spot counter first end body) (stmt.Loop spot counter first end body) (stmt.rolls-Loop spot counter first end body) (suc room)) ∙ fits in
    let parts = and_parts (is_name counter && is_writable_expr first && fits_64 end) (list_all (λ (f : ℕ → Bool). f room) (map stmt_fits body)) all in
    let open_step : Step d0 (edge_line spot (edge.For counter first end)) d1 = λ m line. edge_read d0 m (edge.For counter first end) inside (few room bs count) parts.0 line.words
    ∙ ap (λ (at : Spot). took (dr st job c (block.Loop at counter first end now ∷ bs) [])) (sym line.spot) in
    let close_step : Step d2 (anywhere (codes "endfor")) last = λ m line. edge_read d2 m edge.EndFor inside refl refl line.words in
    subst (λ (es : List Entry). Leads d0 es last) (sym (SimpleLemmas.stmt_spelling (Stmt-F.Loop spot counter first end body) (stmt.Loop spot counter first end body) (stmt.rolls-Loop spot counter first end body)))
    (block_again d0 d1 d2 last (edge_line spot (edge.For counter first end)) (anywhere (codes "endfor")) (stmts_entries body) open_step
    (list_again ts room st job c (b ∷ bs) [] (body_fits body room parts.1) inside (deeper room bs b count)) close_step)

-- what is in the other list of a branch
abbrev pub others_of : Option (List ((s : Stmt) × IsAgain s)) → Option (List Stmt)
others_of None = None
others_of (Some ts) = Some (map (λ t. t.0) ts)

branch_case : (spot : Spot) (test : Test) (left right : Expr) (ts : List ((s : Stmt) × IsAgain s)) (o : Option (List ((s : Stmt) × IsAgain s))) → IsAgain (stmt.Branch spot test left right (map (λ t. t.0) ts) (others_of o))
branch_case spot test left right ts None zero st job c bs now fits inside count =
    let body = map (λ (t : (s : Stmt) × IsAgain s). t.0) ts in
    let all = sym (SimpleLemmas.stmt_writing (Stmt-F.Branch spot test left right body None) (stmt.Branch spot test left right body None) (stmt.rolls-Branch spot test left right body None) 0) ∙ fits in
    let no' : false ≡ true = (and_parts (is_writable_expr left && is_writable_expr right) false all).1 in
    absurd cc
branch_case spot test left right ts (Some us) zero st job c bs now fits inside count =
    let body = map (λ (t : (s : Stmt) × IsAgain s). t.0) ts in
    let other = map (λ (t : (s : Stmt) × IsAgain s). t.0) us in
    let all = sym (SimpleLemmas.stmt_writing (Stmt-F.Branch spot test left right body (Some other)) (stmt.Branch spot test left right body (Some other)) (stmt.rolls-Branch spot test left right body (Some other)) 0) ∙ fits in
    let no' : false ≡ true = (and_parts (is_writable_expr left && is_writable_expr right) false all).1 in
    absurd cc
branch_case spot test left right ts None (suc room) st job c bs now fits inside count =
    let body = map (λ (t : (s : Stmt) × IsAgain s). t.0) ts in
    let s = stmt.Branch spot test left right body None in
    let b : Block = block.Yes spot test left right now in
    let last = dr st job c bs (now ++ s ∷ []) in
    let d0 = dr st job c bs now in
    let d1 = dr st job c (b ∷ bs) [] in
    let d2 = dr st job c (b ∷ bs) body in
    let all = sym (SimpleLemmas.stmt_writing (Stmt-F.Branch spot test left right body None) s (stmt.rolls-Branch spot test left right body None) (suc room)) ∙ fits in
    let inside_fits = list_all (λ (f : ℕ → Bool). f room) (map stmt_fits body) in
    let parts = and_parts (is_writable_expr left && is_writable_expr right) (inside_fits && true) all in
    let lists = and_parts inside_fits true parts.1 in
    let open_step : Step d0 (edge_line spot (edge.If test left right)) d1 = λ m line. edge_read d0 m (edge.If test left right) inside (few room bs count) parts.0 line.words
    ∙ ap (λ (at : Spot). took (dr st job c (block.Yes at test left right now ∷ bs) [])) (sym line.spot) in
    let close_step : Step d2 (anywhere (codes "endif")) last = λ m line. edge_read d2 m edge.EndIf inside refl refl line.words in
    subst (λ (es : List Entry). Leads d0 es last)
    (sym (SimpleLemmas.stmt_spelling (Stmt-F.Branch spot test left right body None) s (stmt.rolls-Branch spot test left right body None)
    ∙ ap (λ (l : List Entry). edge_line spot (edge.If test left right) ∷ (l ++ anywhere (codes "endif") ∷ [])) (append-nil (stmts_entries body))))
    (block_again d0 d1 d2 last (edge_line spot (edge.If test left right)) (anywhere (codes "endif")) (stmts_entries body) open_step
    (list_again ts room st job c (b ∷ bs) [] (body_fits body room lists.0) inside (deeper room bs b count)) close_step)
branch_case spot test left right ts (Some us) (suc room) st job c bs now fits inside count =
    let body = map (λ (t : (s : Stmt) × IsAgain s). t.0) ts in
    let other = map (λ (t : (s : Stmt) × IsAgain s). t.0) us in
    let s = stmt.Branch spot test left right body (Some other) in
    let b : Block = block.Yes spot test left right now in
    let b' : Block = block.No spot test left right body now in
    let last = dr st job c bs (now ++ s ∷ []) in
    let d0 = dr st job c bs now in
    let d1 = dr st job c (b ∷ bs) [] in
    let d2 = dr st job c (b ∷ bs) body in
    let d3 = dr st job c (b' ∷ bs) [] in
    let d4 = dr st job c (b' ∷ bs) other in
    let all = sym (SimpleLemmas.stmt_writing (Stmt-F.Branch spot test left right body (Some other)) s (stmt.rolls-Branch spot test left right body (Some other)) (suc room)) ∙ fits in
    let body_all = list_all (λ (f : ℕ → Bool). f room) (map stmt_fits body) in
    let other_all = list_all (λ (f : ℕ → Bool). f room) (map stmt_fits other) in
    let parts = and_parts (is_writable_expr left && is_writable_expr right) (body_all && other_all) all in
    let lists = and_parts body_all other_all parts.1 in
    let open_step : Step d0 (edge_line spot (edge.If test left right)) d1 = λ m line. edge_read d0 m (edge.If test left right) inside (few room bs count) parts.0 line.words
    ∙ ap (λ (at : Spot). took (dr st job c (block.Yes at test left right now ∷ bs) [])) (sym line.spot) in
    let else_step : Step d2 (anywhere (codes "else")) d3 = λ m line. edge_read d2 m edge.Else inside refl refl line.words in
    let close_step : Step d4 (anywhere (codes "endif")) last = λ m line. edge_read d4 m edge.EndIf inside refl refl line.words in
    let rest : Leads d3 (stmts_entries other ++ anywhere (codes "endif") ∷ []) last =
    leads_on d3 (stmts_entries other) d4 (anywhere (codes "endif") ∷ []) last (list_again us room st job c (b' ∷ bs) [] (body_fits other room lists.1) inside (deeper room bs b' count)) (last, close_step, refl) in
    let es : List Entry = stmts_entries body ++ (anywhere (codes "else") ∷ (stmts_entries other ++ anywhere (codes "endif") ∷ [])) in
    subst (λ (es : List Entry). Leads d0 es last)
    (sym (SimpleLemmas.stmt_spelling (Stmt-F.Branch spot test left right body (Some other)) s (stmt.rolls-Branch spot test left right body (Some other))
    ∙ ap (λ (l : List Entry). edge_line spot (edge.If test left right) ∷ l) (append_assoc (stmts_entries body) (anywhere (codes "else") ∷ stmts_entries other) (anywhere (codes "endif") ∷ [])))) (
      d1,
      open_step,
      leads_on d1 (stmts_entries body) d2 (anywhere (codes "else") ∷ (stmts_entries other ++ anywhere (codes "endif") ∷ [])) last
          (list_again ts room st job c (b ∷ bs) [] (body_fits body room lists.0) inside (deeper room bs b count)) (d3, else_step, rest),
    )

again_level : (y : Stmt-F ((s : Stmt) × IsAgain s)) → IsAgain (roll-Stmt (map-Stmt ((s : Stmt) × IsAgain s) Stmt (λ t. t.0) y))
again_level (Stmt-F.Let spot array value) = subst IsAgain (sym (stmt.rolls-Let spot array value)) (simple_case (stmt.Let spot array value) spot (Stmt-F.Let spot array value) (stmt.rolls-Let spot array value) (λ fits. SimpleLemmas.let_again spot array value fits) (λ room all. (and_parts _ true all).0))
again_level (Stmt-F.Set spot counter value) = subst IsAgain (sym (stmt.rolls-Set spot counter value)) (simple_case (stmt.Set spot counter value) spot (Stmt-F.Set spot counter value) (stmt.rolls-Set spot counter value) (λ fits. SimpleLemmas.set_again spot counter value fits) (λ room all. (and_parts _ true all).0))
again_level (Stmt-F.Print spot name) = subst IsAgain (sym (stmt.rolls-Print spot name)) (simple_case (stmt.Print spot name) spot (Stmt-F.Print spot name) (stmt.rolls-Print spot name) (λ fits. SimpleLemmas.print_again spot name fits) (λ room all. (and_parts _ true all).0))
again_level (Stmt-F.Register spot name) = subst IsAgain (sym (stmt.rolls-Register spot name)) (simple_case (stmt.Register spot name) spot (Stmt-F.Register spot name) (stmt.rolls-Register spot name) (λ fits. SimpleLemmas.register_again spot name fits) (λ room all. (and_parts _ true all).0))
again_level (Stmt-F.Barrier spot) = subst IsAgain (sym (stmt.rolls-Barrier spot)) (simple_case (stmt.Barrier spot) spot (Stmt-F.Barrier spot) (stmt.rolls-Barrier spot) (λ fits. SimpleLemmas.barrier_again spot) (λ room all. (and_parts _ true all).0))
again_level (Stmt-F.Agree spot counter array index) = subst IsAgain (sym (stmt.rolls-Agree spot counter array index)) (simple_case (stmt.Agree spot counter array index) spot (Stmt-F.Agree spot counter array index) (stmt.rolls-Agree spot counter array index) (λ fits. SimpleLemmas.agree_again spot counter array index fits) (λ room all. (and_parts _ true all).0))
again_level (Stmt-F.Shift spot source target by) = subst IsAgain (sym (stmt.rolls-Shift spot source target by)) (simple_case (stmt.Shift spot source target by) spot (Stmt-F.Shift spot source target by) (stmt.rolls-Shift spot source target by) (λ fits. SimpleLemmas.shift_again spot source target by fits) (λ room all. (and_parts _ true all).0))
again_level (Stmt-F.Group spot group start depth) = subst IsAgain (sym (stmt.rolls-Group spot group start depth)) (simple_case (stmt.Group spot group start depth) spot (Stmt-F.Group spot group start depth) (stmt.rolls-Group spot group start depth) (λ fits. SimpleLemmas.group_again spot group start depth fits) (λ room all. (and_parts _ true all).0))
again_level (Stmt-F.Member spot group member array) = subst IsAgain (sym (stmt.rolls-Member spot group member array)) (simple_case (stmt.Member spot group member array) spot (Stmt-F.Member spot group member array) (stmt.rolls-Member spot group member array) (λ fits. SimpleLemmas.member_again spot group member array fits) (λ room all. (and_parts _ true all).0))
again_level (Stmt-F.Store spot group member subset) = subst IsAgain (sym (stmt.rolls-Store spot group member subset)) (simple_case (stmt.Store spot group member subset) spot (Stmt-F.Store spot group member subset) (stmt.rolls-Store spot group member subset) (λ fits. SimpleLemmas.store_again spot group member subset fits) (λ room all. (and_parts _ true all).0))
again_level (Stmt-F.Commit spot group) = subst IsAgain (sym (stmt.rolls-Commit spot group)) (simple_case (stmt.Commit spot group) spot (Stmt-F.Commit spot group) (stmt.rolls-Commit spot group) (λ fits. SimpleLemmas.commit_again spot group fits) (λ room all. (and_parts _ true all).0))
again_level (Stmt-F.CommitBarrier spot group) = subst IsAgain (sym (stmt.rolls-CommitBarrier spot group)) (simple_case (stmt.CommitBarrier spot group) spot (Stmt-F.CommitBarrier spot group) (stmt.rolls-CommitBarrier spot group) (λ fits. SimpleLemmas.commit_barrier_again spot group fits) (λ room all. (and_parts _ true all).0))
again_level (Stmt-F.Restore spot group member stamp) = subst IsAgain (sym (stmt.rolls-Restore spot group member stamp)) (simple_case (stmt.Restore spot group member stamp) spot (Stmt-F.Restore spot group member stamp) (stmt.rolls-Restore spot group member stamp) (λ fits. SimpleLemmas.restore_again spot group member stamp fits) (λ room all. (and_parts _ true all).0))
again_level (Stmt-F.Drop spot group stamp) = subst IsAgain (sym (stmt.rolls-Drop spot group stamp)) (simple_case (stmt.Drop spot group stamp) spot (Stmt-F.Drop spot group stamp) (stmt.rolls-Drop spot group stamp) (λ fits. SimpleLemmas.drop_again spot group stamp fits) (λ room all. (and_parts _ true all).0))
again_level (Stmt-F.Reduce spot op.Sum counter array) = subst IsAgain (sym (stmt.rolls-Reduce spot op.Sum counter array)) (simple_case (stmt.Reduce spot op.Sum counter array) spot (Stmt-F.Reduce spot op.Sum counter array) (stmt.rolls-Reduce spot op.Sum counter array) (λ fits. SimpleLemmas.sum_again spot counter array fits) (λ room all. (and_parts _ true all).0))
again_level (Stmt-F.Reduce spot op.Min counter array) = subst IsAgain (sym (stmt.rolls-Reduce spot op.Min counter array)) (simple_case (stmt.Reduce spot op.Min counter array) spot (Stmt-F.Reduce spot op.Min counter array) (stmt.rolls-Reduce spot op.Min counter array) (λ fits. SimpleLemmas.min_again spot counter array fits) (λ room all. (and_parts _ true all).0))
again_level (Stmt-F.Reduce spot op.Max counter array) = subst IsAgain (sym (stmt.rolls-Reduce spot op.Max counter array)) (simple_case (stmt.Reduce spot op.Max counter array) spot (Stmt-F.Reduce spot op.Max counter array) (stmt.rolls-Reduce spot op.Max counter array) (λ fits. SimpleLemmas.max_again spot counter array fits) (λ room all. (and_parts _ true all).0))
again_level (Stmt-F.RoleOnly spot role ts) = subst IsAgain (sym (stmt.rolls-RoleOnly spot role (map (λ t. t.0) ts))) (role_case spot role ts)
again_level (Stmt-F.Loop spot counter first end ts) = subst IsAgain (sym (stmt.rolls-Loop spot counter first end (map (λ t. t.0) ts))) (loop_case spot counter first end ts)
again_level (Stmt-F.Branch spot test left right ts None) = subst IsAgain (sym (stmt.rolls-Branch spot test left right (map (λ t. t.0) ts) None)) (branch_case spot test left right ts None)
again_level (Stmt-F.Branch spot test left right ts (Some us)) = subst IsAgain (sym (stmt.rolls-Branch spot test left right (map (λ t. t.0) ts) (Some (map (λ t. t.0) us)))) (branch_case spot test left right ts (Some us))

pub stmt_again : (s : Stmt) → IsAgain s
stmt_again = ind-Stmt IsAgain (λ x y is. subst (λ x. IsAgain (roll-Stmt x)) is (again_level y))

-- ---- the parts of a job

pub stmts_again : (ss : List Stmt) (room : ℕ) (st : DuePart) (job : Job) (c : Callback) (bs : List Block) (now : List Stmt) → stmts_fit ss room ≡ true → is_inside st ≡ true → room + length bs ≡ 64
    → Leads (dr st job c bs now) (stmts_entries ss) (dr st job c bs (now ++ ss))
stmts_again [] room st job c bs now fits inside count = rw (append-nil now) refl
stmts_again (s ∷ ss) room st job c bs now fits inside count =
    let parts = and_parts (stmt_fits s room) (stmts_fit ss room) fits in
    leads_on (dr st job c bs now) (stmt_entries s) (dr st job c bs (now ++ s ∷ [])) (stmts_entries ss) (dr st job c bs (now ++ s ∷ ss)) (stmt_again s room st job c bs now parts.0 inside count)
    (subst (λ (l : List Stmt). Leads (dr st job c bs (now ++ s ∷ [])) (stmts_entries ss) (dr st job c bs l)) (append_assoc now (s ∷ []) ss)
    (stmts_again ss room st job c bs (now ++ s ∷ []) parts.1 inside count))

-- a draft between statements
abbrev pub plain : DuePart → Job → Draft
plain s job = dr s job no_callback [] []

names_lead : (job : Job) (before names : List Decl) → list_all decl_fits names ≡ true
    → Leads (plain due_part.Names (record job { names = before })) (map decl_entry names) (plain due_part.Names (record job { names = before ++ names }))
names_lead job before [] all = rw (append-nil before) refl
names_lead job before (decl.Array spot name len ∷ names) all =
    let parts = and_parts (is_name name && fits_64 len) (list_all decl_fits names) all in
    let d = plain due_part.Names (record job { names = before }) in
    let next = plain due_part.Names (record job { names = before ++ decl.Array spot name len ∷ [] }) in (
      next,
      (λ m line. part_read d m (part.Array name len) refl parts.0 line.words ∙ ap (λ (at : Spot). took (plain due_part.Names (record job { names = before ++ decl.Array at name len ∷ [] }))) (sym line.spot)),
      subst (λ (l : List Decl). Leads next (map decl_entry names) (plain due_part.Names (record job { names = l }))) (append_assoc before (decl.Array spot name len ∷ []) names)
          (names_lead job (before ++ decl.Array spot name len ∷ []) names parts.1),
    )
names_lead job before (decl.Counter spot name ∷ names) all =
    let parts = and_parts (is_name name) (list_all decl_fits names) all in
    let d = plain due_part.Names (record job { names = before }) in
    let next = plain due_part.Names (record job { names = before ++ decl.Counter spot name ∷ [] }) in (
      next,
      (λ m line. part_read d m (part.Counter name) refl parts.0 line.words ∙ ap (λ (at : Spot). took (plain due_part.Names (record job { names = before ++ decl.Counter at name ∷ [] }))) (sym line.spot)),
      subst (λ (l : List Decl). Leads next (map decl_entry names) (plain due_part.Names (record job { names = l }))) (append_assoc before (decl.Counter spot name ∷ []) names)
          (names_lead job (before ++ decl.Counter spot name ∷ []) names parts.1),
    )

-- callbacks may stand, and `begin`
pub record TakesCallbacks (s : DuePart) : Type 0 where
  pub callback : part_stands s [] part_word.Callback ≡ true
  pub begin : part_stands s [] part_word.Begin ≡ true

at_names : TakesCallbacks due_part.Names
at_names = record { callback = refl; begin = refl }

at_callbacks : TakesCallbacks due_part.Callbacks
at_callbacks = record { callback = refl; begin = refl }

callback_leads : (s : DuePart) → TakesCallbacks s → (job : Job) (before : List Callback) (c : Callback) → callback_fits c ≡ true
    → Leads (plain s (record job { callbacks = before })) (callback_entries c) (plain due_part.Callbacks (record job { callbacks = before ++ c ∷ [] }))
callback_leads s takes job before c fits =
    let parts = and_parts (is_name c.name) (stmts_fit c.body 64) fits in
    let j = record job { callbacks = before } in
    let begun = record no_callback { spot = c.spot; name = c.name } in
    let d0 = plain s j in
    let d1 = dr due_part.Callback j begun [] [] in
    let d2 = dr due_part.Callback j begun [] c.body in
    let last = plain due_part.Callbacks (record job { callbacks = before ++ c ∷ [] }) in
    block_again d0 d1 d2 last (part_line c.spot (part.Callback c.name)) (anywhere (codes "endcallback")) (stmts_entries c.body)
    (λ m line. part_read d0 m (part.Callback c.name) takes.callback parts.0 line.words ∙ ap (λ (at : Spot). took (dr due_part.Callback j (record no_callback { spot = at; name = c.name }) [] [])) (sym line.spot))
    (stmts_again c.body 64 due_part.Callback j begun [] [] parts.1 refl refl)
    (λ m line. part_read d2 m part.EndCallback refl refl line.words)

-- the part that is due behind some callbacks
abbrev pub due_part_behind : DuePart → List Callback → DuePart
due_part_behind s [] = s
due_part_behind s (c ∷ cs) = due_part_behind due_part.Callbacks cs

still_takes : (s : DuePart) (cs : List Callback) → TakesCallbacks s → TakesCallbacks (due_part_behind s cs)
still_takes s [] takes = takes
still_takes s (c ∷ cs) takes = still_takes due_part.Callbacks cs at_callbacks

callbacks_lead : (s : DuePart) → TakesCallbacks s → (job : Job) (before cs : List Callback) → list_all callback_fits cs ≡ true
    → Leads (plain s (record job { callbacks = before })) (chained (map callback_entries cs)) (plain (due_part_behind s cs) (record job { callbacks = before ++ cs }))
callbacks_lead s takes job before [] all = rw (append-nil before) refl
callbacks_lead s takes job before (c ∷ cs) all =
    let parts = and_parts (callback_fits c) (list_all callback_fits cs) all in
    let next = plain due_part.Callbacks (record job { callbacks = before ++ c ∷ [] }) in
    let last = plain (due_part_behind due_part.Callbacks cs) (record job { callbacks = before ++ c ∷ cs }) in
    leads_on (plain s (record job { callbacks = before })) (callback_entries c) next (chained (map callback_entries cs)) last (callback_leads s takes job before c parts.0)
    (subst (λ (l : List Callback). Leads next (chained (map callback_entries cs)) (plain (due_part_behind due_part.Callbacks cs) (record job { callbacks = l }))) (append_assoc before (c ∷ []) cs)
    (callbacks_lead due_part.Callbacks at_callbacks job (before ++ c ∷ []) cs parts.1))

events_lead : (job : Job) (before events : List Event) → list_all (λ e. event_fits e.kind) events ≡ true
    → Leads (plain due_part.Events (record job { events = before })) (map event_entry events) (plain due_part.Events (record job { events = before ++ events }))
events_lead job before [] all = rw (append-nil before) refl
events_lead job before (e ∷ events) all =
    let parts = and_parts (event_fits e.kind) (list_all (λ (e : Event). event_fits e.kind) events) all in
    let d = plain due_part.Events (record job { events = before }) in
    let next = plain due_part.Events (record job { events = before ++ e ∷ [] }) in (
      next,
      event_step d e.spot e.kind refl parts.0,
      subst (λ (l : List Event). Leads next (map event_entry events) (plain due_part.Events (record job { events = l }))) (append_assoc before (e ∷ []) events) (events_lead job (before ++ e ∷ []) events parts.1),
    )

-- the lines of a job lead from the empty draft to the job
pub job_leads : (job : Job) → IsWritable job → Leads empty_draft (job_entries job) (plain due_part.Stopped job)
job_leads job w =
    let j1 = record empty_job { ranks = job.ranks; ranks_spot = job.ranks_spot } in
    let j2 = record j1 { spares = job.spares; spares_spot = job.spares_spot } in
    let j3 = record j2 { separation = job.separation; separation_spot = job.separation_spot } in
    let j4 = record j3 { names = job.names } in
    let j5 = record j4 { callbacks = job.callbacks } in
    let j6 = record j5 { begin_spot = job.begin_spot } in
    let j7 = record j6 { body = job.body } in
    let s = due_part_behind due_part.Names job.callbacks in
    let takes = still_takes due_part.Names job.callbacks at_names in
    let d1 = plain due_part.Ranks empty_job in
    let d2 = plain due_part.Spares j1 in
    let d3 = plain due_part.Separation j2 in
    let d4 = plain due_part.Names j3 in
    let d5 = plain due_part.Names j4 in
    let d6 = plain s j5 in
    let d7 = plain due_part.Body j6 in
    let d8 = dr due_part.Body j6 no_callback [] job.body in
    let d9 = plain due_part.Schedule j7 in
    let d10 = plain due_part.Events j7 in
    let d11 = plain due_part.Events job in
    let last = plain due_part.Stopped job in
    let head_leads : Leads empty_draft (heading job) d4 = (
      d1,
      (λ m line. part_read empty_draft m part.Fenix refl refl line.words),
      (
        d2,
        (λ m line. part_read d1 m (part.Ranks job.ranks) refl w.ranks line.words ∙ ap (λ (at : Spot). took (plain due_part.Spares (record empty_job { ranks = job.ranks; ranks_spot = at }))) (sym line.spot)),
        (
          d3,
          (λ m line. part_read d2 m (part.Spares job.spares) refl w.spares line.words ∙ ap (λ (at : Spot). took (plain due_part.Separation (record j1 { spares = job.spares; spares_spot = at }))) (sym line.spot)),
          (
            d4,
            (λ m line. part_read d3 m (part.Separation job.separation) refl w.separation line.words ∙ ap (λ (at : Spot). took (plain due_part.Names (record j2 { separation = job.separation; separation_spot = at }))) (sym line.spot)),
            refl,
          ),
        ),
      ),
    ) in
    let begin_leads : Leads d6 (kept_at job.begin_spot (codes "begin" ∷ []) ∷ []) d7 =
    (d7, (λ m line. part_read d6 m part.Begin takes.begin refl line.words ∙ ap (λ (at : Spot). took (plain due_part.Body (record j5 { begin_spot = at }))) (sym line.spot)), refl) in
    let end_leads : Leads d8 (anywhere (codes "end") ∷ anywhere (codes "schedule") ∷ []) d10 =
    (d9, (λ m line. part_read d8 m part.End refl refl line.words), (d10, (λ m line. part_read d9 m part.Schedule refl refl line.words), refl)) in
    let stop_leads : Leads d11 (anywhere (codes "stop") ∷ []) last = (last, (λ m line. part_read d11 m part.Stop refl refl line.words), refl) in
    let e1 = heading job in
    let e2 = e1 ++ map decl_entry job.names in
    let e3 = e2 ++ chained (map callback_entries job.callbacks) in
    let e4 = e3 ++ kept_at job.begin_spot (codes "begin" ∷ []) ∷ [] in
    let e5 = e4 ++ stmts_entries job.body in
    let e6 = e5 ++ anywhere (codes "end") ∷ anywhere (codes "schedule") ∷ [] in
    let e7 = e6 ++ map event_entry job.events in
    let l2 = leads_on empty_draft e1 d4 (map decl_entry job.names) d5 head_leads (names_lead j3 [] job.names w.names) in
    let l3 = leads_on empty_draft e2 d5 (chained (map callback_entries job.callbacks)) d6 l2 (callbacks_lead due_part.Names at_names j4 [] job.callbacks w.callbacks) in
    let l4 = leads_on empty_draft e3 d6 (kept_at job.begin_spot (codes "begin" ∷ []) ∷ []) d7 l3 begin_leads in
    let l5 = leads_on empty_draft e4 d7 (stmts_entries job.body) d8 l4 (stmts_again job.body 64 due_part.Body j6 no_callback [] [] w.body refl refl) in
    let l6 = leads_on empty_draft e5 d8 (anywhere (codes "end") ∷ anywhere (codes "schedule") ∷ []) d10 l5 end_leads in
    let l7 = leads_on empty_draft e6 d10 (map event_entry job.events) d11 l6 (events_lead j7 [] job.events w.events) in
    leads_on empty_draft e7 d11 (anywhere (codes "stop") ∷ []) last l7 stop_leads

-- the lines behind a line, wherever the draft is then
abbrev RestAgain : List Line → ℕ → Draft → Type 0
RestAgain ls number last = (d : Draft) (es : List Entry) → AreLines (met_from number ls) es → Leads d es last → run d number ls ≡ Ok last

-- one line, by what is met in it, and the lines behind it
again_by : (o : Option Met) (l : Line) (ls : List Line) (number : ℕ) (d : Draft) (es : List Entry) (last : Draft) → sound l ≡ Ok tt → RestAgain ls (number + 1) last
    → met_in number l.bytes ≡ o → AreLines (if_met o (met_from (number + 1) ls)) es → Leads d es last → run d number (l ∷ ls) ≡ Ok last
again_by None l ls number d es last fine rest is all leads = rw (fine, is) (rest d es all leads)
again_by (Some m) l ls number d [] last fine rest is all leads = absurd all
again_by (Some m) l ls number d (e ∷ es) last fine rest is all leads =
    let step : taken d (Some m) ≡ Ok leads.0 = leads.1 m all.0 in
    rw (fine, is, step) (rest leads.0 es all.1 leads.2)

-- sound lines that are these lead to the same draft
pub run_again : (lines : List Line) (number : ℕ) (d : Draft) (es : List Entry) (last : Draft) → last.due_part ≡ due_part.Stopped → AllByRecursion IsSound lines
    → AreLines (met_from number lines) es → Leads d es last → run d number lines ≡ Ok last
run_again [] number d [] last stopped fine all leads = rw (leads, stopped) refl
run_again [] number d (e ∷ es) last stopped fine all leads = absurd all
run_again (l ∷ ls) number d es last stopped fine all leads =
    again_by (met_in number l.bytes) l ls number d es last (sound_passes l fine.0)
    (λ next more lines then. run_again ls (number + 1) next more last stopped fine.1 lines then) refl all leads
