-- A job has a text exactly where it can be written and its canonical lines are short.
use Rattle.std.proofs.Common.{◌≡◌, ℕ, ◌≤◌, Bool, true, ◌&&◌, List, [], ◌∷◌, map, length, Some, None, refl, sym, ap, subst, ◌∙◌}
use Rattle.std.specs.List.{AllByRecursion, list_all}
use Rattle.fx_script.specs.declared.job.Callback.{Callback}
use Rattle.fx_script.specs.declared.job.Decl.{Decl}
use Rattle.fx_script.specs.declared.job.Decl.TheVariants as decl
use Rattle.fx_script.specs.declared.job.Event.{Event}
use Rattle.fx_script.specs.declared.job.Job.{Job}
use Rattle.fx_script.specs.declared.job.Stmt.{Stmt}
use Rattle.fx_script.specs.declared.job.Stmt.TheOpen.{Stmt-F}
use Rattle.fx_script.specs.declared.job.Stmt.TheViews.{roll-Stmt}
use Rattle.fx_script.specs.declared.job.Stmt.TheFolds.{fold-roll-Stmt, map-Stmt, ind-Stmt}
use Rattle.fx_text.specs.Lines.{lines_of}
use Rattle.fx_script.specs.Canonical.{line_of_words, canonical, stmt_without_spots_level, stmt_without_spots, decl_without_spot, callback_without_spots, event_without_spot, without_spots, HasText, CanBeWritten}
use Rattle.fx_script.specs.Moves.{nowhere}
use Rattle.fx_text.specs.Names.{is_name}
use Rattle.fx_script.specs.Spelling.{Entry, job_entries, opening_fits, stmt_fits_level, stmt_fits, stmts_fit, list_fits, decl_fits, callback_fits, event_fits, IsWritable}
use Rattle.fx_script.proofs.CanonLines.{AreGoodLines, lines_good, text_sound, text_placed}
use Rattle.fx_script.proofs.Respotted.{moved_to, without_spots_rolls, Way, list_way, stmt_way, decl_way, callback_way, event_way, said, job_says, blocks_fit, Respotted, job_respotted}
use Rattle.fx_script.proofs.WritableWords.{AreFine, job_fine}

-- ---- whether a job can be written doesn't rest on its spots

abbrev FitsSame : {X R : Type 0} → Way X R → X → Type 0
FitsSame {R = R} w x = (r : R) → w.fits (w.bare x) r ≡ w.fits x r

fits_in : {X R : Type 0} (w : Way X R) (ts : List ((x : X) × FitsSame w x)) → FitsSame (list_way w) (map (λ t. t.0) ts)
fits_in w [] r = refl
fits_in w (t ∷ ts) r = rw (t.1 r, fits_in w ts r) refl

fits_all : {X R : Type 0} (w : Way X R) → ((x : X) → FitsSame w x) → (xs : List X) → FitsSame (list_way w) xs
fits_all w each [] r = refl
fits_all w each (x ∷ xs) r = rw (each x r, fits_all w each xs r) refl

abbrev FitStmt : Type 0
FitStmt = (s : Stmt) × FitsSame stmt_way s

abbrev fit_stmt : Stmt-F FitStmt → Stmt-F Stmt
fit_stmt y = map-Stmt FitStmt Stmt (λ t. t.0) y

inside_fits : (ts : List FitStmt) (room : ℕ) → list_fits (map stmt_fits (map stmt_without_spots (map (λ t. t.0) ts))) room ≡ list_fits (map stmt_fits (map (λ t. t.0) ts)) room
inside_fits ts room =
    let ss = map (λ (t : FitStmt). t.0) ts in
    blocks_fit (map stmt_without_spots ss) ss (λ r. fits_in stmt_way ts r) room

fits_level : (y : Stmt-F FitStmt) (room : ℕ)
    → stmt_fits_level (map-Stmt Stmt (ℕ → Bool) stmt_fits (moved_to nowhere (map-Stmt Stmt Stmt stmt_without_spots (fit_stmt y)))) room ≡ stmt_fits_level (map-Stmt Stmt (ℕ → Bool) stmt_fits (fit_stmt y)) room
fits_level (Stmt-F.RoleOnly spot role ts) room = inside_fits ts room
fits_level (Stmt-F.Loop spot counter first last ts) room = ap (λ (b : Bool). opening_fits (Stmt-F.Loop spot counter first last ts) && b) (inside_fits ts room)
fits_level (Stmt-F.Branch spot test left right ts None) room = ap (λ (b : Bool). opening_fits (Stmt-F.Branch spot test left right ts None) && (b && true)) (inside_fits ts room)
fits_level (Stmt-F.Branch spot test left right ts (Some us)) room =
    let ss = map (λ (t : FitStmt). t.0) ts in
    let others = map (λ (t : FitStmt). t.0) us in
    ap (λ (b : Bool). opening_fits (Stmt-F.Branch spot test left right ts (Some us)) && (b && list_fits (map stmt_fits (map stmt_without_spots others)) room)) (inside_fits ts room)
    ∙ ap (λ (b : Bool). opening_fits (Stmt-F.Branch spot test left right ts (Some us)) && (list_fits (map stmt_fits ss) room && b)) (inside_fits us room)
fits_level y room = refl

fits_rolled : (y : Stmt-F FitStmt) → FitsSame stmt_way (roll-Stmt (fit_stmt y))
fits_rolled y room =
    let x = fit_stmt y in
    let z = moved_to nowhere (map-Stmt Stmt Stmt stmt_without_spots x) in
    let bare : stmt_without_spots (roll-Stmt x) ≡ roll-Stmt z = fold-roll-Stmt Stmt stmt_without_spots_level x ∙ without_spots_rolls (map-Stmt Stmt Stmt stmt_without_spots x) in
    let at_room : (ℕ → Bool) → Bool = λ f. f room in
    ap (λ (s : Stmt). stmt_fits s room) bare ∙ ap at_room (fold-roll-Stmt (ℕ → Bool) stmt_fits_level z) ∙ fits_level y room ∙ ap at_room (sym (fold-roll-Stmt (ℕ → Bool) stmt_fits_level x))

stmt_fits_same : (s : Stmt) → FitsSame stmt_way s
stmt_fits_same = ind-Stmt (FitsSame stmt_way) (λ x y is. subst (λ x. FitsSame stmt_way (roll-Stmt x)) is (fits_rolled y))

decl_fits_same : (d : Decl) → FitsSame decl_way d
decl_fits_same (decl.Array spot name len) r = refl
decl_fits_same (decl.Counter spot name) r = refl

callback_fits_same : (c : Callback) → FitsSame callback_way c
callback_fits_same c r = ap (λ (b : Bool). is_name c.name && b) (fits_all stmt_way stmt_fits_same c.body 64)

event_fits_same : (e : Event) → FitsSame event_way e
event_fits_same e r = refl

names_same : (job : Job) → list_all decl_fits (map decl_without_spot job.names) ≡ list_all decl_fits job.names
names_same job = fits_all decl_way decl_fits_same job.names tt

callbacks_same : (job : Job) → list_all callback_fits (map callback_without_spots job.callbacks) ≡ list_all callback_fits job.callbacks
callbacks_same job = fits_all callback_way callback_fits_same job.callbacks tt

body_same : (job : Job) → stmts_fit (map stmt_without_spots job.body) 64 ≡ stmts_fit job.body 64
body_same job = fits_all stmt_way stmt_fits_same job.body 64

events_same : (job : Job) → list_all (λ e. event_fits e.kind) (map event_without_spot job.events) ≡ list_all (λ e. event_fits e.kind) job.events
events_same job = fits_all event_way event_fits_same job.events tt

bare_writable : (job : Job) → IsWritable job → IsWritable (without_spots job)
bare_writable job w = record {
  ranks = w.ranks;
  spares = w.spares;
  separation = w.separation;
  names = names_same job ∙ w.names;
  callbacks = callbacks_same job ∙ w.callbacks;
  body = body_same job ∙ w.body;
  events = events_same job ∙ w.events;
}

whole_writable : (job : Job) → IsWritable (without_spots job) → IsWritable job
whole_writable job w = record {
  ranks = w.ranks;
  spares = w.spares;
  separation = w.separation;
  names = sym (names_same job) ∙ w.names;
  callbacks = sym (callbacks_same job) ∙ w.callbacks;
  body = sym (body_same job) ∙ w.body;
  events = sym (events_same job) ∙ w.events;
}

-- ---- short lines

-- lines that are short
abbrev AreShort : List Entry → Type 0
AreShort es = AllByRecursion (λ e. length (line_of_words e.words) ≤ 1024) es

-- lines of the same words are as short
short_same : (es fs : List Entry) → said es ≡ said fs → AreShort es → AreShort fs
short_same [] [] same short = tt
short_same [] (f ∷ fs) same short = absurd cc
short_same (e ∷ es) [] same short = absurd cc
short_same (e ∷ es) (f ∷ fs) same short =
    let words : e.words ≡ f.words = cc in
    let others : said es ≡ said fs = cc in
    (subst (λ (ws : List (List ℕ)). length (line_of_words ws) ≤ 1024) words short.0, short_same es fs others short.1)

good_short : (es : List Entry) → AreGoodLines es → AreShort es
good_short [] good = tt
good_short (e ∷ es) good = (good.0.short, good_short es good.1)

both_good : (es : List Entry) → AreFine es → AreShort es → AreGoodLines es
both_good [] fine short = tt
both_good (e ∷ es) fine short = (record { words = fine.0.words; said = fine.0.said; short = short.0 }, both_good es fine.1 short.1)

-- ---- the two directions

pub written_if_has_text : (job : Job) → HasText job → CanBeWritten job
written_if_has_text job has =
    let good = lines_good 1 (lines_of has.text) (job_entries has.told) has.spelled.sound has.spelled.lines in
    let same : said (job_entries has.told) ≡ said (job_entries job) = sym (job_says has.told) ∙ ap (λ (j : Job). said (job_entries j)) has.same ∙ job_says job in
    record {
      writable = whole_writable job (subst (λ (j : Job). IsWritable j) has.same (bare_writable has.told has.spelled.writable));
      short = short_same (job_entries has.told) (job_entries job) same (good_short (job_entries has.told) good);
    }

pub has_text_if_written : (job : Job) → CanBeWritten job → HasText job
has_text_if_written job can =
    let r : Respotted job = job_respotted job in
    let good = both_good (job_entries job) (job_fine job can.writable) can.short in
    record {
      text = canonical job;
      told = r.again;
      spelled = record { writable = r.writable can.writable; sound = text_sound (job_entries job) good; lines = text_placed (job_entries job) (job_entries r.again) good r.entries };
      same = r.same;
    }
