-- From each draft some lines lead to a whole job; so the lines in front of a refused one go on.
use Rattle.std.proofs.Common.{◌≡◌, ℕ, suc, ◌+◌, ◌-◌, ◌≤◌, true, leb, List, [], ◌∷◌, ◌++◌, map, length, take, None, Result, Ok, Err, refl, sym, ap, subst, ◌∙◌, append_assoc, length-append, arith, inl, inr}
use Rattle.std.specs.Prelude.{pos, codes}
use Rattle.std.specs.List.{AllByRecursion, list_all}
use Rattle.std.proofs.lemmas.Bool.{leb-true}
use Rattle.std.proofs.lemmas.List.{append-nil}
use Rattle.std.proofs.Math.Seq.{take-append-add}
use Rattle.fx_base.specs.declared.spot.Spot.{Spot}
use Rattle.fx_text.specs.Lines.{Line, lines_of}
use Rattle.fx_script.specs.declared.draft.Block.{Block}
use Rattle.fx_script.specs.declared.draft.Block.TheVariants as block
use Rattle.fx_script.specs.declared.draft.Draft.{Draft}
use Rattle.fx_script.specs.declared.draft.DuePart.{DuePart}
use Rattle.fx_script.specs.declared.draft.DuePart.TheVariants as due_part
use Rattle.fx_script.specs.declared.job.Callback.{Callback}
use Rattle.fx_script.specs.declared.job.Job.{Job}
use Rattle.fx_script.specs.declared.job.Stmt.{Stmt}
use Rattle.fx_script.specs.declared.refusal.Wrong.{Wrong}
use Rattle.fx_script.specs.Outcome.{◌>>=◌}
use Rattle.fx_script.specs.Canonical.{line_of_words, text_of}
use Rattle.fx_script.specs.Moves.{empty_draft, no_callback, closed_block}
use Rattle.fx_script.specs.Reading.{Refusal, sound, taken, line_taken, run, reading, job_in}
use Rattle.fx_script.specs.Refused.{behind_ends, GoesOnBehind}
use Rattle.fx_script.specs.SaidLines.{has_no_end, Met, met_in, met_from, if_met, IsSound}
use Rattle.fx_script.specs.Spelling.{Entry, AreLines, job_entries, IsWritable}
use Rattle.fx_script.proofs.Adds.{dr}
use Rattle.fx_script.proofs.CanonLines.{is_word, is_said, IsGoodLine, AreGoodLines, written, written_sound, text_lines}
use Rattle.fx_script.proofs.FieldLemmas.{bind_ok, ok_is}
use Rattle.fx_script.proofs.Found.{Shows, shows_taken, met_append}
use Rattle.fx_script.proofs.Refusals.{at_line_err, cut_whole, draft_err, ended_is, run_line}
use Rattle.fx_script.proofs.Sound.{is_sound}
use Rattle.fx_script.proofs.Spelled.{whole, nothing_read}
use Rattle.fx_script.proofs.TextCuts.{Cut, cut, ended_first, behind_line, behind_none, no_lines}

-- ---- lines that close what is open

abbrev said_line : List (List ℕ) → Entry
said_line words = record { spot = None; words = words }

abbrev one_word : List ℕ → Entry
one_word word = said_line (word ∷ [])

-- the last lines of the blocks that are open, the innermost first
abbrev ends_of : List Block → List Entry → List Entry
ends_of [] behind = behind
ends_of (block.RoleOnly spot role before ∷ bs) behind = one_word (codes "endwhen") ∷ ends_of bs behind
ends_of (block.Yes spot test left right before ∷ bs) behind = one_word (codes "endif") ∷ ends_of bs behind
ends_of (block.No spot test left right chosen before ∷ bs) behind = one_word (codes "endif") ∷ ends_of bs behind
ends_of (block.Loop spot counter first last before ∷ bs) behind = one_word (codes "endfor") ∷ ends_of bs behind

abbrev from_events : List Entry
from_events = one_word (codes "stop") ∷ []

abbrev from_schedule : List Entry
from_schedule = one_word (codes "schedule") ∷ from_events

abbrev from_body : List Block → List Entry
from_body bs = ends_of bs (one_word (codes "end") ∷ from_schedule)

abbrev from_names : List Block → List Entry
from_names bs = one_word (codes "begin") ∷ from_body bs

abbrev from_separation : List Block → List Entry
from_separation bs = said_line (codes "separation" ∷ codes "1" ∷ []) ∷ from_names bs

abbrev from_spares : List Block → List Entry
from_spares bs = said_line (codes "spares" ∷ codes "0" ∷ []) ∷ from_separation bs

abbrev from_ranks : List Block → List Entry
from_ranks bs = said_line (codes "ranks" ∷ codes "1" ∷ []) ∷ from_spares bs

-- the lines that are due at each part
abbrev pub closing : DuePart → List Block → List Entry
closing due_part.Fenix bs = said_line (codes "fenix" ∷ codes "1" ∷ []) ∷ from_ranks bs
closing due_part.Ranks bs = from_ranks bs
closing due_part.Spares bs = from_spares bs
closing due_part.Separation bs = from_separation bs
closing due_part.Names bs = from_names bs
closing due_part.Callbacks bs = from_names bs
closing due_part.Callback bs = ends_of bs (one_word (codes "endcallback") ∷ from_names [])
closing due_part.Body bs = from_body bs
closing due_part.Schedule bs = from_schedule
closing due_part.Events bs = from_events
closing due_part.Stopped bs = []

-- ---- what these lines lead to

-- the draft behind lines, whatever their length and their ends
abbrev pub passed : Draft → ℕ → List Line → Result Draft Wrong
passed d number [] = Ok d
passed d number (l ∷ ls) = taken d (met_in number l.bytes) >>= λ next. passed next (number + 1) ls

pub record Closes (d : Draft) (number : ℕ) (es : List Entry) : Type 0 where
  pub last : Draft
  pub goes : passed d number (map written es) ≡ Ok last
  pub stopped : last.due_part ≡ due_part.Stopped

-- the statements behind the innermost block's last line
abbrev behind_block : Block → List Stmt → List Stmt
behind_block b now = (closed_block b now).0 ++ (closed_block b now).1 ∷ []

close_body : (bs : List Block) (job : Job) (c : Callback) (now : List Stmt) (number : ℕ) → Closes (dr due_part.Body job c bs now) number (from_body bs)
close_body [] job c now number = record { last = dr due_part.Stopped (record job { body = now }) c [] []; goes = refl; stopped = refl }
close_body (block.RoleOnly spot role before ∷ bs) job c now number =
    let r = close_body bs job c (behind_block (block.RoleOnly spot role before) now) (number + 1) in
    record { last = r.last; goes = r.goes; stopped = r.stopped }
close_body (block.Yes spot test left right before ∷ bs) job c now number =
    let r = close_body bs job c (behind_block (block.Yes spot test left right before) now) (number + 1) in
    record { last = r.last; goes = r.goes; stopped = r.stopped }
close_body (block.No spot test left right chosen before ∷ bs) job c now number =
    let r = close_body bs job c (behind_block (block.No spot test left right chosen before) now) (number + 1) in
    record { last = r.last; goes = r.goes; stopped = r.stopped }
close_body (block.Loop spot counter first last before ∷ bs) job c now number =
    let r = close_body bs job c (behind_block (block.Loop spot counter first last before) now) (number + 1) in
    record { last = r.last; goes = r.goes; stopped = r.stopped }

abbrev spot_in : ℕ → Spot
spot_in number = record { line = number; column = 1 }

abbrev begun_at : ℕ → Job → Job
begun_at number job = record job { begin_spot = spot_in number }

close_callback : (bs : List Block) (job : Job) (c : Callback) (now : List Stmt) (number : ℕ) → Closes (dr due_part.Callback job c bs now) number (closing due_part.Callback bs)
close_callback [] job c now number =
    let ended = record job { callbacks = job.callbacks ++ record c { body = now } ∷ [] } in
    let r = close_body [] (begun_at (number + 1) ended) no_callback [] (number + 1 + 1) in
    record { last = r.last; goes = r.goes; stopped = r.stopped }
close_callback (block.RoleOnly spot role before ∷ bs) job c now number =
    let r = close_callback bs job c (behind_block (block.RoleOnly spot role before) now) (number + 1) in
    record { last = r.last; goes = r.goes; stopped = r.stopped }
close_callback (block.Yes spot test left right before ∷ bs) job c now number =
    let r = close_callback bs job c (behind_block (block.Yes spot test left right before) now) (number + 1) in
    record { last = r.last; goes = r.goes; stopped = r.stopped }
close_callback (block.No spot test left right chosen before ∷ bs) job c now number =
    let r = close_callback bs job c (behind_block (block.No spot test left right chosen before) now) (number + 1) in
    record { last = r.last; goes = r.goes; stopped = r.stopped }
close_callback (block.Loop spot counter first last before ∷ bs) job c now number =
    let r = close_callback bs job c (behind_block (block.Loop spot counter first last before) now) (number + 1) in
    record { last = r.last; goes = r.goes; stopped = r.stopped }

close_names : (bs : List Block) (job : Job) (c : Callback) (now : List Stmt) (number : ℕ) → Closes (dr due_part.Names job c bs now) number (from_names bs)
close_names bs job c now number = let r = close_body bs (begun_at number job) c now (number + 1) in record { last = r.last; goes = r.goes; stopped = r.stopped }

close_callbacks : (bs : List Block) (job : Job) (c : Callback) (now : List Stmt) (number : ℕ) → Closes (dr due_part.Callbacks job c bs now) number (from_names bs)
close_callbacks bs job c now number = let r = close_body bs (begun_at number job) c now (number + 1) in record { last = r.last; goes = r.goes; stopped = r.stopped }

close_separation : (bs : List Block) (job : Job) (c : Callback) (now : List Stmt) (number : ℕ) → Closes (dr due_part.Separation job c bs now) number (from_separation bs)
close_separation bs job c now number =
    let r = close_names bs (record job { separation = pos 1; separation_spot = spot_in number }) c now (number + 1) in
    record { last = r.last; goes = r.goes; stopped = r.stopped }

close_spares : (bs : List Block) (job : Job) (c : Callback) (now : List Stmt) (number : ℕ) → Closes (dr due_part.Spares job c bs now) number (from_spares bs)
close_spares bs job c now number =
    let r = close_separation bs (record job { spares = pos 0; spares_spot = spot_in number }) c now (number + 1) in
    record { last = r.last; goes = r.goes; stopped = r.stopped }

close_ranks : (bs : List Block) (job : Job) (c : Callback) (now : List Stmt) (number : ℕ) → Closes (dr due_part.Ranks job c bs now) number (from_ranks bs)
close_ranks bs job c now number =
    let r = close_spares bs (record job { ranks = pos 1; ranks_spot = spot_in number }) c now (number + 1) in
    record { last = r.last; goes = r.goes; stopped = r.stopped }

closes_at : (s : DuePart) (job : Job) (c : Callback) (bs : List Block) (now : List Stmt) (number : ℕ) → Closes (dr s job c bs now) number (closing s bs)
closes_at due_part.Fenix job c bs now number = let r = close_ranks bs job c now (number + 1) in record { last = r.last; goes = r.goes; stopped = r.stopped }
closes_at due_part.Ranks job c bs now number = close_ranks bs job c now number
closes_at due_part.Spares job c bs now number = close_spares bs job c now number
closes_at due_part.Separation job c bs now number = close_separation bs job c now number
closes_at due_part.Names job c bs now number = close_names bs job c now number
closes_at due_part.Callbacks job c bs now number = close_callbacks bs job c now number
closes_at due_part.Callback job c bs now number = close_callback bs job c now number
closes_at due_part.Body job c bs now number = close_body bs job c now number
closes_at due_part.Schedule job c bs now number = record { last = dr due_part.Stopped job c bs now; goes = refl; stopped = refl }
closes_at due_part.Events job c bs now number = record { last = dr due_part.Stopped job c bs now; goes = refl; stopped = refl }
closes_at due_part.Stopped job c bs now number = record { last = dr due_part.Stopped job c bs now; goes = refl; stopped = refl }

pub closes : (d : Draft) (number : ℕ) → Closes d number (closing d.due_part d.blocks)
closes d number = closes_at d.due_part d.job d.callback d.blocks d.now number

-- these lines are good ones
good_line : (words : List (List ℕ)) → list_all is_word words ≡ true → is_said words ≡ true → leb (length (line_of_words words)) 1024 ≡ true → IsGoodLine words
good_line words fine said short = record { words = fine; said = said; short = leb-true (length (line_of_words words)) 1024 short }

good_events : AreGoodLines from_events
good_events = (good_line (codes "stop" ∷ []) refl refl refl, tt)

good_schedule : AreGoodLines from_schedule
good_schedule = (good_line (codes "schedule" ∷ []) refl refl refl, good_events)

good_ends : (bs : List Block) (behind : List Entry) → AreGoodLines behind → AreGoodLines (ends_of bs behind)
good_ends [] behind good = good
good_ends (block.RoleOnly spot role before ∷ bs) behind good = (good_line (codes "endwhen" ∷ []) refl refl refl, good_ends bs behind good)
good_ends (block.Yes spot test left right before ∷ bs) behind good = (good_line (codes "endif" ∷ []) refl refl refl, good_ends bs behind good)
good_ends (block.No spot test left right chosen before ∷ bs) behind good = (good_line (codes "endif" ∷ []) refl refl refl, good_ends bs behind good)
good_ends (block.Loop spot counter first last before ∷ bs) behind good = (good_line (codes "endfor" ∷ []) refl refl refl, good_ends bs behind good)

good_body : (bs : List Block) → AreGoodLines (from_body bs)
good_body bs = good_ends bs (one_word (codes "end") ∷ from_schedule) (good_line (codes "end" ∷ []) refl refl refl, good_schedule)

good_names : (bs : List Block) → AreGoodLines (from_names bs)
good_names bs = (good_line (codes "begin" ∷ []) refl refl refl, good_body bs)

good_separation : (bs : List Block) → AreGoodLines (from_separation bs)
good_separation bs = (good_line (codes "separation" ∷ codes "1" ∷ []) refl refl refl, good_names bs)

good_spares : (bs : List Block) → AreGoodLines (from_spares bs)
good_spares bs = (good_line (codes "spares" ∷ codes "0" ∷ []) refl refl refl, good_separation bs)

good_ranks : (bs : List Block) → AreGoodLines (from_ranks bs)
good_ranks bs = (good_line (codes "ranks" ∷ codes "1" ∷ []) refl refl refl, good_spares bs)

pub good_closing : (s : DuePart) (bs : List Block) → AreGoodLines (closing s bs)
good_closing due_part.Fenix bs = (good_line (codes "fenix" ∷ codes "1" ∷ []) refl refl refl, good_ranks bs)
good_closing due_part.Ranks bs = good_ranks bs
good_closing due_part.Spares bs = good_spares bs
good_closing due_part.Separation bs = good_separation bs
good_closing due_part.Names bs = good_names bs
good_closing due_part.Callbacks bs = good_names bs
good_closing due_part.Callback bs = good_ends bs (one_word (codes "endcallback") ∷ from_names []) (good_line (codes "endcallback" ∷ []) refl refl refl, good_names [])
good_closing due_part.Body bs = good_body bs
good_closing due_part.Schedule bs = good_schedule
good_closing due_part.Events bs = good_events
good_closing due_part.Stopped bs = tt

-- ---- what is passed is spelled

passed_shows : (ls : List Line) (d last : Draft) (number : ℕ) (seen : List Met) → passed d number ls ≡ Ok last → Shows seen d → Shows (seen ++ met_from number ls) last
passed_shows [] d last number seen e shown = subst (λ (x : Draft). Shows (seen ++ []) x) (ok_is d last e) (rw (append-nil seen) shown)
passed_shows (l ∷ ls) d last number seen e shown =
    let b = bind_ok (taken d (met_in number l.bytes)) (λ next. passed next (number + 1) ls) last e in
    let next = shows_taken seen d b.0 (met_in number l.bytes) shown b.1 in
    let rest = passed_shows ls b.0 last (number + 1) (seen ++ if_met (met_in number l.bytes) []) b.2 next in
    subst (λ (ms : List Met). Shows ms last) (met_append (met_in number l.bytes) (met_from (number + 1) ls) seen) rest

-- a text whose lines are passed to behind `stop` has the lines of a job that can be written
pub record Passes (text : List ℕ) : Type 0 where
  pub job : Job
  pub writable : IsWritable job
  pub lines : AreLines (met_from 1 (lines_of text)) (job_entries job)

pub passes : (text : List ℕ) (last : Draft) → passed empty_draft 1 (lines_of text) ≡ Ok last → last.due_part ≡ due_part.Stopped → Passes text
passes text last e stopped =
    let shown = passed_shows (lines_of text) empty_draft last 1 [] e nothing_read in
    let j = shown.fine.job in
    record {
      job = last.job;
      writable = record { ranks = j.ranks; spares = j.spares; separation = j.separation; names = j.names; callbacks = j.callbacks; body = j.body; events = j.events };
      lines = subst (λ (es : List Entry). AreLines (met_from 1 (lines_of text)) es) (whole last.due_part last stopped) shown.lines;
    }

-- ---- the lines in front of a refused one go on

-- a text that goes on from a draft, whose lines are all such, and agrees with this one on so many bytes
pub record Continues (P : Line → Type 0) (d : Draft) (number : ℕ) (text : List ℕ) (n : ℕ) : Type 0 where
  pub other : List ℕ
  pub last : Draft
  pub goes : passed d number (lines_of other) ≡ Ok last
  pub stopped : last.due_part ≡ due_part.Stopped
  pub all : AllByRecursion P (lines_of other)
  pub same : take n other ≡ take n text

all_such : (P : Line → Type 0) → ((l : Line) → IsSound l → P l) → (ls : List Line) → AllByRecursion IsSound ls → AllByRecursion P ls
all_such P each [] all = tt
all_such P each (l ∷ ls) all = (each l all.0, all_such P each ls all.1)

pub closing_such : (P : Line → Type 0) → ((l : Line) → IsSound l → P l) → (s : DuePart) (bs : List Block) → AllByRecursion P (lines_of (text_of (closing s bs)))
closing_such P each s bs =
    let es = closing s bs in
    subst (λ (ls : List Line). AllByRecursion P ls) (sym (text_lines es (good_closing s bs))) (all_such P each (map written es) (written_sound es (good_closing s bs)))

pub closing_goes : (d : Draft) (number : ℕ) → passed d number (lines_of (text_of (closing d.due_part d.blocks))) ≡ Ok (closes d number).last
closing_goes d number = ap (passed d number) (text_lines (closing d.due_part d.blocks) (good_closing d.due_part d.blocks)) ∙ (closes d number).goes

pub continues_here : (P : Line → Type 0) → ((l : Line) → IsSound l → P l) → (d : Draft) (number : ℕ) (text : List ℕ) → Continues P d number text 0
continues_here P each d number text = record {
  other = text_of (closing d.due_part d.blocks);
  last = (closes d number).last;
  goes = closing_goes d number;
  stopped = (closes d number).stopped;
  all = closing_such P each d.due_part d.blocks;
  same = refl;
}

pub continues_by : (P : Line → Type 0) (d : Draft) (number n m : ℕ) (text : List ℕ) → m ≡ n → Continues P d number text m → Continues P d number text n
continues_by P d number n m text same c = subst (Continues P d number text) same c

pub continues_on : (P : Line → Type 0) (d next : Draft) (number : ℕ) (l : Line) (text rest : List ℕ) (n : ℕ) → P l → l.ended ≡ true → has_no_end l.bytes ≡ true → taken d (met_in number l.bytes) ≡ Ok next
    → text ≡ (l.bytes ++ 10 ∷ []) ++ rest → Continues P next (number + 1) rest n → Continues P d number text (length (l.bytes ++ 10 ∷ []) + n)
continues_on P d next number l text rest n s ended free e is c =
    let a = l.bytes ++ 10 ∷ [] in
    let lines : lines_of (a ++ c.other) ≡ l ∷ lines_of c.other =
    ap lines_of (append_assoc l.bytes (10 ∷ []) c.other) ∙ ended_first l.bytes c.other free ∙ ap (λ (x : Line). x ∷ lines_of c.other) (ended_is l ended) in
    let all : AllByRecursion P (l ∷ lines_of c.other) = (s, c.all) in
    record {
      other = a ++ c.other;
      last = c.last;
      goes = ap (passed d number) lines ∙ rw e c.goes;
      stopped = c.stopped;
      all = subst (λ (ls : List Line). AllByRecursion P ls) (sym lines) all;
      same = take-append-add a c.other n ∙ ap (λ (x : List ℕ). a ++ x) c.same ∙ sym (take-append-add a rest n) ∙ ap (take (length a + n)) (sym is);
    }

is_itself : (l : Line) → IsSound l → IsSound l
is_itself l s = s

-- the bytes in front of a later line, with the first and without it
pub behind_first : (text : List ℕ) (l : Line) (ls : List Line) → (c : Cut text l ls) → l.ended ≡ true → (number : ℕ) (r : Refusal) → number + 1 ≤ r.spot.line
    → length (l.bytes ++ 10 ∷ []) + behind_ends c.rest (r.spot.line - (number + 1)) ≡ behind_ends text (r.spot.line - number)
behind_first text l ls c ended number r later =
    let lines : r.spot.line - number ≡ suc (r.spot.line - (number + 1)) = omega (arith, later) in
    ap (λ (k : ℕ). k + behind_ends c.rest (r.spot.line - (number + 1))) (length-append l.bytes (10 ∷ []))
    ∙ sym (behind_line l.bytes c.rest (r.spot.line - (number + 1)) c.no_end) ∙ ap (λ (x : List ℕ). behind_ends x (suc (r.spot.line - (number + 1)))) (sym (cut_whole text l ls c ended))
    ∙ ap (behind_ends text) (sym lines)

front_goes : (ls : List Line) (text : List ℕ) (d : Draft) (number : ℕ) (r : Refusal) → lines_of text ≡ ls → run d number ls ≡ Err r → Continues IsSound d number text (behind_ends text (r.spot.line - number))
front_goes [] text d number r is e =
    continues_by IsSound d number (behind_ends text (r.spot.line - number)) 0 text (sym (ap (λ (x : List ℕ). behind_ends x (r.spot.line - number)) (no_lines text is))) (continues_here IsSound is_itself d number text)
front_goes (l ∷ ls) text d number r is e = elim (at_line_err number (line_taken d number l) (λ next. run next (number + 1) ls) r e) [
  | inl a ↦
      let c = cut text l ls is in
      let b = bind_ok (sound l) (λ fine. taken d (met_in number l.bytes)) a.0 a.1 in
      let s = is_sound l b.1 in
      let later = run_line ls a.0 (number + 1) r a.2 in
      let whole_text : text ≡ (l.bytes ++ 10 ∷ []) ++ c.rest = cut_whole text l ls c s.ended ∙ sym (append_assoc l.bytes (10 ∷ []) c.rest) in
      let on = front_goes ls c.rest a.0 (number + 1) r c.lines a.2 in
      let there = behind_first text l ls c s.ended number r later in
      continues_by IsSound d number (behind_ends text (r.spot.line - number)) (length (l.bytes ++ 10 ∷ []) + behind_ends c.rest (r.spot.line - (number + 1))) text there
      (continues_on IsSound d a.0 number l text c.rest (behind_ends c.rest (r.spot.line - (number + 1))) s s.ended c.no_end b.2 whole_text on)
  | inr a ↦
      let here : r.spot.line ≡ number = ap (λ (r : Refusal). r.spot.line) (sym a.2) in
      let none : behind_ends text (r.spot.line - number) ≡ 0 = ap (behind_ends text) (omega (arith, here)) ∙ behind_none text in
      continues_by IsSound d number (behind_ends text (r.spot.line - number)) 0 text (sym none) (continues_here IsSound is_itself d number text)
]

-- some text that agrees with a refused one on the lines in front of the refused line spells a job
pub lines_go_on : (text : List ℕ) (r : Refusal) → job_in text ≡ Err r → GoesOnBehind text (behind_ends text (r.spot.line - 1))
lines_go_on text r e =
    let c = front_goes (lines_of text) text empty_draft 1 r refl (draft_err (reading text) r e) in
    let p = passes c.other c.last c.goes c.stopped in
    record { other = c.other; job = p.job; spelled = record { writable = p.writable; sound = c.all; lines = p.lines }; same = c.same }
