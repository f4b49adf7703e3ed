-- For each job there is one with the same contents whose lines stand one after another, each from the first column.
use Rattle.std.proofs.Common.{◌≡◌, ℕ, zero, suc, ◌+◌, Bool, true, ◌&&◌, List, [], ◌∷◌, ◌++◌, length, Some, None, refl, sym, ap, subst, ◌∙◌, arith}
use Rattle.std.specs.Prelude.{map, codes}
use Rattle.std.specs.List.{list_all}
use Rattle.std.proofs.lemmas.List.{map-append}
use Rattle.std.proofs.lemmas.List.Folds.{list_all-map}
use Rattle.fx_base.specs.declared.spot.Spot.{Spot}
use Rattle.fx_script.specs.declared.job.Callback.{Callback}
use Rattle.fx_script.specs.declared.job.Decl.{Decl}
use Rattle.fx_script.specs.declared.job.Decl.TheVariants as decl
use Rattle.fx_script.specs.declared.job.Event.{Event}
use Rattle.fx_script.specs.declared.job.Job.{Job}
use Rattle.fx_script.specs.declared.job.Stmt.{Stmt}
use Rattle.fx_script.specs.declared.job.Stmt.TheVariants as stmt
use Rattle.fx_script.specs.declared.job.Stmt.TheOpen.{Stmt-F}
use Rattle.fx_script.specs.declared.job.Stmt.TheViews.{roll-Stmt}
use Rattle.fx_script.specs.declared.job.Stmt.TheFolds.{fold-roll-Stmt, map-Stmt, ind-Stmt}
use Rattle.fx_script.specs.Canonical.{line_of_words, text_of, canonical, stmt_without_spots_level, stmt_without_spots, decl_without_spot, callback_without_spots, event_without_spot, without_spots}
use Rattle.fx_script.specs.Moves.{nowhere}
use Rattle.fx_text.specs.Names.{is_name}
use Rattle.fx_script.specs.Spelling.{Entry, kept_at, anywhere, opening, opening_fits, chained, stmt_level, stmt_entries, stmts_entries, decl_entry, callback_entries, event_entry, heading, job_entries, list_fits, stmt_fits_level, stmt_fits, stmts_fit, decl_fits, callback_fits, event_fits, IsWritable}
use Rattle.fx_script.proofs.Placed.{placed, placed_from}

-- the same line of a statement, at another spot
abbrev pub moved_to : {X : Type 0} → Spot → Stmt-F X → Stmt-F X
moved_to at (Stmt-F.Let spot array value) = Stmt-F.Let at array value
moved_to at (Stmt-F.Set spot counter value) = Stmt-F.Set at counter value
moved_to at (Stmt-F.Print spot name) = Stmt-F.Print at name
moved_to at (Stmt-F.Register spot name) = Stmt-F.Register at name
moved_to at (Stmt-F.RoleOnly spot role body) = Stmt-F.RoleOnly at role body
moved_to at (Stmt-F.Branch spot test left right body other) = Stmt-F.Branch at test left right body other
moved_to at (Stmt-F.Loop spot counter first last body) = Stmt-F.Loop at counter first last body
moved_to at (Stmt-F.Barrier spot) = Stmt-F.Barrier at
moved_to at (Stmt-F.Reduce spot op counter array) = Stmt-F.Reduce at op counter array
moved_to at (Stmt-F.Agree spot counter array index) = Stmt-F.Agree at counter array index
moved_to at (Stmt-F.Shift spot source target by) = Stmt-F.Shift at source target by
moved_to at (Stmt-F.Group spot group start depth) = Stmt-F.Group at group start depth
moved_to at (Stmt-F.Member spot group member array) = Stmt-F.Member at group member array
moved_to at (Stmt-F.Store spot group member subset) = Stmt-F.Store at group member subset
moved_to at (Stmt-F.Commit spot group) = Stmt-F.Commit at group
moved_to at (Stmt-F.CommitBarrier spot group) = Stmt-F.CommitBarrier at group
moved_to at (Stmt-F.Restore spot group member stamp) = Stmt-F.Restore at group member stamp
moved_to at (Stmt-F.Drop spot group stamp) = Stmt-F.Drop at group stamp

-- a spot put aside is a spot moved
pub without_spots_rolls : (x : Stmt-F Stmt) → stmt_without_spots_level x ≡ roll-Stmt (moved_to nowhere x)
without_spots_rolls (Stmt-F.Let spot array value) = sym (stmt.rolls-Let nowhere array value)
without_spots_rolls (Stmt-F.Set spot counter value) = sym (stmt.rolls-Set nowhere counter value)
without_spots_rolls (Stmt-F.Print spot name) = sym (stmt.rolls-Print nowhere name)
without_spots_rolls (Stmt-F.Register spot name) = sym (stmt.rolls-Register nowhere name)
without_spots_rolls (Stmt-F.RoleOnly spot role body) = sym (stmt.rolls-RoleOnly nowhere role body)
without_spots_rolls (Stmt-F.Branch spot test left right body other) = sym (stmt.rolls-Branch nowhere test left right body other)
without_spots_rolls (Stmt-F.Loop spot counter first last body) = sym (stmt.rolls-Loop nowhere counter first last body)
without_spots_rolls (Stmt-F.Barrier spot) = sym (stmt.rolls-Barrier nowhere)
without_spots_rolls (Stmt-F.Reduce spot op counter array) = sym (stmt.rolls-Reduce nowhere op counter array)
without_spots_rolls (Stmt-F.Agree spot counter array index) = sym (stmt.rolls-Agree nowhere counter array index)
without_spots_rolls (Stmt-F.Shift spot source target by) = sym (stmt.rolls-Shift nowhere source target by)
without_spots_rolls (Stmt-F.Group spot group start depth) = sym (stmt.rolls-Group nowhere group start depth)
without_spots_rolls (Stmt-F.Member spot group member array) = sym (stmt.rolls-Member nowhere group member array)
without_spots_rolls (Stmt-F.Store spot group member subset) = sym (stmt.rolls-Store nowhere group member subset)
without_spots_rolls (Stmt-F.Commit spot group) = sym (stmt.rolls-Commit nowhere group)
without_spots_rolls (Stmt-F.CommitBarrier spot group) = sym (stmt.rolls-CommitBarrier nowhere group)
without_spots_rolls (Stmt-F.Restore spot group member stamp) = sym (stmt.rolls-Restore nowhere group member stamp)
without_spots_rolls (Stmt-F.Drop spot group stamp) = sym (stmt.rolls-Drop nowhere group stamp)

-- ---- the parts of a job, all seen in one way

-- the lines of a part, the part with its spots put aside, and whether it fits
pub record Way (X R : Type 0) : Type 0 where
  pub lines : X → List Entry
  pub bare : X → X
  pub fits : X → R → Bool

-- lists of parts, and each kind of part
abbrev pub list_way : {X R : Type 0} → Way X R → Way (List X) R
list_way w = record { lines = λ xs. chained (map w.lines xs); bare = λ xs. map w.bare xs; fits = λ xs r. list_all (λ x. w.fits x r) xs }

abbrev pub stmt_way : Way Stmt ℕ
stmt_way = record { lines = stmt_entries; bare = stmt_without_spots; fits = stmt_fits }

abbrev pub decl_way : Way Decl (Unit {0})
decl_way = record { lines = λ d. decl_entry d ∷ []; bare = decl_without_spot; fits = λ d r. decl_fits d }

abbrev pub callback_way : Way Callback (Unit {0})
callback_way = record { lines = callback_entries; bare = callback_without_spots; fits = λ c r. callback_fits c }

abbrev pub event_way : Way Event (Unit {0})
event_way = record { lines = λ e. event_entry e ∷ []; bare = event_without_spot; fits = λ e r. event_fits e.kind }

-- where each part has one line
single_lines : {X : Type 0} (f : X → Entry) (xs : List X) → chained (map (λ x. f x ∷ []) xs) ≡ map f xs
single_lines f [] = refl
single_lines f (x ∷ xs) = ap (λ (l : List Entry). f x ∷ l) (single_lines f xs)

-- ---- words of lines whose spots are put aside

-- the words of lines
abbrev pub said : List Entry → List (List (List ℕ))
said es = map (λ e. e.words) es

-- lists that say the same do so one behind the other
said_append : (a b c d : List Entry) → said a ≡ said c → said b ≡ said d → said (a ++ b) ≡ said (c ++ d)
said_append a b c d first second =
    map-append (λ (e : Entry). e.words) a b ∙ rw (first, second) refl ∙ sym (map-append (λ (e : Entry). e.words) c d)

-- a part with its spots put aside says the same
abbrev pub SaysSame : {X R : Type 0} → Way X R → X → Type 0
SaysSame w x = said (w.lines (w.bare x)) ≡ said (w.lines x)

-- lists of parts that say the same do so
says_more : {X R : Type 0} (w : Way X R) (x : X) (xs : List X) → SaysSame w x → SaysSame (list_way w) xs → SaysSame (list_way w) (x ∷ xs)
says_more w x xs one rest = said_append (w.lines (w.bare x)) (chained (map w.lines (map w.bare xs))) (w.lines x) (chained (map w.lines xs)) one rest

said_in : {X R : Type 0} (w : Way X R) (ts : List ((x : X) × SaysSame w x)) → SaysSame (list_way w) (map (λ t. t.0) ts)
said_in w [] = refl
said_in w (t ∷ ts) = says_more w t.0 (map (λ t. t.0) ts) t.1 (said_in w ts)

said_all : {X R : Type 0} (w : Way X R) → ((x : X) → SaysSame w x) → (xs : List X) → SaysSame (list_way w) xs
said_all w each [] = refl
said_all w each (x ∷ xs) = says_more w x xs (each x) (said_all w each xs)

-- a statement that says the same with its spots put aside
abbrev SaidStmt : Type 0
SaidStmt = (s : Stmt) × SaysSame stmt_way s

-- the statement alone, without what is known of those in it
abbrev said_stmt : Stmt-F SaidStmt → Stmt-F Stmt
said_stmt y = map-Stmt SaidStmt Stmt (λ t. t.0) y

-- statements that say the same, in front of others that do
said_before : (ts : List SaidStmt) (more rest : List Entry) → said more ≡ said rest → said (stmts_entries (map stmt_without_spots (map (λ t. t.0) ts)) ++ more) ≡ said (stmts_entries (map (λ t. t.0) ts) ++ rest)
said_before ts more rest same =
    let ss = map (λ (t : SaidStmt). t.0) ts in
    said_append (stmts_entries (map stmt_without_spots ss)) more (stmts_entries ss) rest (said_in stmt_way ts) same

-- a statement whose spot is put aside says the same if the statements in it do
said_level : (y : Stmt-F SaidStmt)
    → said (stmt_level (map-Stmt Stmt (List Entry) stmt_entries (moved_to nowhere (map-Stmt Stmt Stmt stmt_without_spots (said_stmt y))))) ≡ said (stmt_level (map-Stmt Stmt (List Entry) stmt_entries (said_stmt y)))
said_level (Stmt-F.RoleOnly spot role ts) =
    let last = anywhere (codes "endwhen") ∷ [] in
    ap (λ (l : List (List (List ℕ))). (opening (Stmt-F.RoleOnly spot role ts)).words ∷ l) (said_before ts last last refl)
said_level (Stmt-F.Loop spot counter first end ts) =
    let last = anywhere (codes "endfor") ∷ [] in
    ap (λ (l : List (List (List ℕ))). (opening (Stmt-F.Loop spot counter first end ts)).words ∷ l) (said_before ts last last refl)
said_level (Stmt-F.Branch spot test left right ts None) =
    let last = anywhere (codes "endif") ∷ [] in
    let ss = map (λ (t : SaidStmt). t.0) ts in
    ap (λ (l : List (List (List ℕ))). (opening (Stmt-F.Branch spot test left right ts None)).words ∷ l)
    (said_append (stmts_entries (map stmt_without_spots ss) ++ []) last (stmts_entries ss ++ []) last (said_before ts [] [] refl) refl)
said_level (Stmt-F.Branch spot test left right ts (Some us)) =
    let last = anywhere (codes "endif") ∷ [] in
    let ss = map (λ (t : SaidStmt). t.0) ts in
    let others = map (λ (t : SaidStmt). t.0) us in
    let more = anywhere (codes "else") ∷ stmts_entries (map stmt_without_spots others) in
    let rest = anywhere (codes "else") ∷ stmts_entries others in
    ap (λ (l : List (List (List ℕ))). (opening (Stmt-F.Branch spot test left right ts (Some us))).words ∷ l)
    (said_append (stmts_entries (map stmt_without_spots ss) ++ more) last (stmts_entries ss ++ rest) last
    (said_before ts more rest (ap (λ (l : List (List (List ℕ))). (codes "else" ∷ []) ∷ l) (said_in stmt_way us))) refl)
said_level y = refl

-- a statement says the same with its spots put aside
says_rolled : (y : Stmt-F SaidStmt) → SaysSame stmt_way (roll-Stmt (said_stmt y))
says_rolled y =
    let x = said_stmt y in
    let z = moved_to nowhere (map-Stmt Stmt Stmt stmt_without_spots x) in
    let bare : stmt_without_spots (roll-Stmt x) ≡ roll-Stmt z = fold-roll-Stmt Stmt stmt_without_spots_level x ∙ without_spots_rolls (map-Stmt Stmt Stmt stmt_without_spots x) in
    ap (λ (s : Stmt). said (stmt_entries s)) bare ∙ ap said (fold-roll-Stmt (List Entry) stmt_level z) ∙ said_level y ∙ ap said (sym (fold-roll-Stmt (List Entry) stmt_level x))

stmt_says : (s : Stmt) → SaysSame stmt_way s
stmt_says = ind-Stmt (SaysSame stmt_way) (λ x y is. subst (λ x. SaysSame stmt_way (roll-Stmt x)) is (says_rolled y))

-- so do declarations and callbacks
decl_says : (d : Decl) → SaysSame decl_way d
decl_says (decl.Array spot name len) = refl
decl_says (decl.Counter spot name) = refl

callback_says : (c : Callback) → SaysSame callback_way c
callback_says c =
    let last = anywhere (codes "endcallback") ∷ [] in
    ap (λ (l : List (List (List ℕ))). (codes "callback" ∷ c.name ∷ []) ∷ l)
    (said_append (stmts_entries (map stmt_without_spots c.body)) last (stmts_entries c.body) last (said_all stmt_way stmt_says c.body) refl)

-- where each part has one line
said_singles : {X : Type 0} (f : X → Entry) (xs ys : List X) → said (chained (map (λ x. f x ∷ []) xs)) ≡ said (chained (map (λ x. f x ∷ []) ys)) → said (map f xs) ≡ said (map f ys)
said_singles f xs ys same = ap said (sym (single_lines f xs)) ∙ same ∙ ap said (single_lines f ys)

-- a job whose spots are put aside says the same
pub job_says : (job : Job) → said (job_entries (without_spots job)) ≡ said (job_entries job)
job_says job =
    let bare = without_spots job in
    let begin_line : Spot → List Entry = λ spot. kept_at spot (codes "begin" ∷ []) ∷ [] in
    let middle = anywhere (codes "end") ∷ anywhere (codes "schedule") ∷ [] in
    let last = anywhere (codes "stop") ∷ [] in
    let b1 = heading bare in
    let e1 = heading job in
    let b2 = b1 ++ map decl_entry bare.names in
    let e2 = e1 ++ map decl_entry job.names in
    let b3 = b2 ++ chained (map callback_entries bare.callbacks) in
    let e3 = e2 ++ chained (map callback_entries job.callbacks) in
    let b4 = b3 ++ begin_line bare.begin_spot in
    let e4 = e3 ++ begin_line job.begin_spot in
    let b5 = b4 ++ stmts_entries bare.body in
    let e5 = e4 ++ stmts_entries job.body in
    let b6 = b5 ++ middle in
    let e6 = e5 ++ middle in
    let b7 = b6 ++ map event_entry bare.events in
    let e7 = e6 ++ map event_entry job.events in
    let names = said_singles decl_entry bare.names job.names (said_all decl_way decl_says job.names) in
    let events = said_singles event_entry bare.events job.events (said_all event_way (λ e. refl) job.events) in
    let s2 = said_append b1 (map decl_entry bare.names) e1 (map decl_entry job.names) refl names in
    let s3 = said_append b2 (chained (map callback_entries bare.callbacks)) e2 (chained (map callback_entries job.callbacks)) s2 (said_all callback_way callback_says job.callbacks) in
    let s4 = said_append b3 (begin_line bare.begin_spot) e3 (begin_line job.begin_spot) s3 refl in
    let s5 = said_append b4 (stmts_entries bare.body) e4 (stmts_entries job.body) s4 (said_all stmt_way stmt_says job.body) in
    let s6 = said_append b5 middle e5 middle s5 refl in
    let s7 = said_append b6 (map event_entry bare.events) e6 (map event_entry job.events) s6 events in
    said_append b7 last e7 last s7 refl

-- a text of lines has their words alone
text_said : (es : List Entry) → text_of es ≡ chained (map (λ words. line_of_words words ++ 10 ∷ []) (said es))
text_said [] = refl
text_said (e ∷ es) = ap (λ (l : List ℕ). (line_of_words e.words ++ 10 ∷ []) ++ l) (text_said es)

-- the canonical text doesn't depend on spots
canonical_of_without_spots : (job : Job) → canonical (without_spots job) ≡ canonical job
canonical_of_without_spots job =
    text_said (job_entries (without_spots job)) ∙ ap (λ (l : List (List (List ℕ))). chained (map (λ words. line_of_words words ++ 10 ∷ []) l)) (job_says job) ∙ sym (text_said (job_entries job))

-- jobs that differ in their spots alone have one canonical text
pub canonical_without_spots : (a b : Job) → without_spots a ≡ without_spots b → canonical a ≡ canonical b
canonical_without_spots a b same = sym (canonical_of_without_spots a) ∙ ap canonical same ∙ canonical_of_without_spots b

-- ---- lines placed one after another

-- where a line starts
abbrev line_start : ℕ → Spot
line_start n = record { line = n; column = 1 }

-- lines from a number on, in two parts
placed-append : (n : ℕ) (a b : List Entry) → placed_from n (a ++ b) ≡ placed_from n a ++ placed_from (n + length a) b
placed-append n [] b =
    let here : n ≡ n + 0 = omega arith in
    ap (λ (k : ℕ). placed_from k b) here
placed-append n (e ∷ es) b =
    let there : (n + 1) + length es ≡ n + suc (length es) = omega arith in
    ap (λ (l : List Entry). placed n e ∷ l) (placed-append (n + 1) es b ∙ ap (λ (k : ℕ). placed_from (n + 1) es ++ placed_from k b) there)

-- lines that are placed, in front of others that are
placed_on : (n : ℕ) (a b c d : List Entry) → a ≡ placed_from n c → b ≡ placed_from (n + length c) d → a ++ b ≡ placed_from n (c ++ d)
placed_on n a b c d first second = rw (first, second) (sym (placed-append n c d))

-- a part with the same contents whose lines are placed from a number on
pub record Again {X R : Type 0} (w : Way X R) (x : X) (n : ℕ) : Type 0 where
  pub again : X
  pub entries : w.lines again ≡ placed_from n (w.lines x)
  pub same : w.bare again ≡ w.bare x
  pub fits : (r : R) → w.fits again r ≡ w.fits x r

abbrev pub IsPlaceable : {X R : Type 0} → Way X R → X → Type 0
IsPlaceable w x = (n : ℕ) → Again w x n

-- lists of parts that can be placed can be
places_more : {X R : Type 0} (w : Way X R) (x : X) (xs : List X) → IsPlaceable w x → IsPlaceable (list_way w) xs → IsPlaceable (list_way w) (x ∷ xs)
places_more w x xs first others n =
    let one = first n in
    let rest = others (n + length (w.lines x)) in
    record {
      again = one.again ∷ rest.again;
      entries = placed_on n (w.lines one.again) (chained (map w.lines rest.again)) (w.lines x) (chained (map w.lines xs)) one.entries rest.entries;
      same = rw (one.same, rest.same) refl;
      fits = λ r. rw (one.fits r, rest.fits r) refl;
    }

placed_in : {X R : Type 0} (w : Way X R) (ts : List ((x : X) × IsPlaceable w x)) → IsPlaceable (list_way w) (map (λ t. t.0) ts)
placed_in w [] n = record { again = []; entries = refl; same = refl; fits = λ r. refl }
placed_in w (t ∷ ts) n = places_more w t.0 (map (λ t. t.0) ts) t.1 (placed_in w ts) n

placed_all : {X R : Type 0} (w : Way X R) → ((x : X) → IsPlaceable w x) → (xs : List X) → IsPlaceable (list_way w) xs
placed_all w each [] n = record { again = []; entries = refl; same = refl; fits = λ r. refl }
placed_all w each (x ∷ xs) n = places_more w x xs (each x) (placed_all w each xs) n

-- ---- a statement

-- one level of a statement, placed
pub record LevelAgain (n : ℕ) (x : Stmt-F Stmt) : Type 0 where
  pub again : Stmt-F Stmt
  pub entries : stmt_level (map-Stmt Stmt (List Entry) stmt_entries again) ≡ placed_from n (stmt_level (map-Stmt Stmt (List Entry) stmt_entries x))
  pub same : stmt_without_spots_level (map-Stmt Stmt Stmt stmt_without_spots again) ≡ stmt_without_spots_level (map-Stmt Stmt Stmt stmt_without_spots x)
  pub fits : (room : ℕ) → stmt_fits_level (map-Stmt Stmt (ℕ → Bool) stmt_fits again) room ≡ stmt_fits_level (map-Stmt Stmt (ℕ → Bool) stmt_fits x) room

-- a statement and how it is placed
abbrev PlacedStmt : Type 0
PlacedStmt = (s : Stmt) × IsPlaceable stmt_way s

-- the statement alone, without what is known of those in it
abbrev placed_stmt : Stmt-F PlacedStmt → Stmt-F Stmt
placed_stmt y = map-Stmt PlacedStmt Stmt (λ t. t.0) y

-- lists of statements that fit alike do so as blocks
pub blocks_fit : (ss ts : List Stmt) → ((room : ℕ) → stmts_fit ss room ≡ stmts_fit ts room) → (room : ℕ) → list_fits (map stmt_fits ss) room ≡ list_fits (map stmt_fits ts) room
blocks_fit ss ts same zero = refl
blocks_fit ss ts same (suc room) = list_all-map (λ (fits : ℕ → Bool). fits room) stmt_fits ss ∙ same room ∙ sym (list_all-map (λ (fits : ℕ → Bool). fits room) stmt_fits ts)

-- a statement can be placed if the statements in it can be
level_again : (y : Stmt-F PlacedStmt) (n : ℕ) → LevelAgain n (placed_stmt y)
level_again (Stmt-F.RoleOnly spot role ts) n =
    let inside = placed_in stmt_way ts (n + 1) in
    let body = map (λ (t : PlacedStmt). t.0) ts in
    let last = anywhere (codes "endwhen") ∷ [] in
    record {
      again = Stmt-F.RoleOnly (line_start n) role inside.again;
      entries = ap (λ (l : List Entry). placed n (opening (Stmt-F.RoleOnly spot role ts)) ∷ l) (placed_on (n + 1) (stmts_entries inside.again) last (stmts_entries body) last inside.entries refl);
      same = ap (λ (l : List Stmt). stmt.RoleOnly nowhere role l) inside.same;
      fits = λ room. blocks_fit inside.again body inside.fits room;
    }
level_again (Stmt-F.Loop spot counter first end ts) n =
    let inside = placed_in stmt_way ts (n + 1) in
    let body = map (λ (t : PlacedStmt). t.0) ts in
    let last = anywhere (codes "endfor") ∷ [] in
    record {
      again = Stmt-F.Loop (line_start n) counter first end inside.again;
      entries = ap (λ (l : List Entry). placed n (opening (Stmt-F.Loop spot counter first end ts)) ∷ l) (placed_on (n + 1) (stmts_entries inside.again) last (stmts_entries body) last inside.entries refl);
      same = ap (λ (l : List Stmt). stmt.Loop nowhere counter first end l) inside.same;
      fits = λ room. ap (λ (b : Bool). opening_fits (Stmt-F.Loop spot counter first end body) && b) (blocks_fit inside.again body inside.fits room);
    }
level_again (Stmt-F.Branch spot test left right ts None) n =
    let inside = placed_in stmt_way ts (n + 1) in
    let body = map (λ (t : PlacedStmt). t.0) ts in
    let last = anywhere (codes "endif") ∷ [] in
    record {
      again = Stmt-F.Branch (line_start n) test left right inside.again None;
      entries = ap (λ (l : List Entry). placed n (opening (Stmt-F.Branch spot test left right ts None)) ∷ l)
          (placed_on (n + 1) (stmts_entries inside.again ++ []) last (stmts_entries body ++ []) last (placed_on (n + 1) (stmts_entries inside.again) [] (stmts_entries body) [] inside.entries refl) refl);
      same = ap (λ (l : List Stmt). stmt.Branch nowhere test left right l None) inside.same;
      fits = λ room. ap (λ (b : Bool). opening_fits (Stmt-F.Branch spot test left right body None) && (b && true)) (blocks_fit inside.again body inside.fits room);
    }
level_again (Stmt-F.Branch spot test left right ts (Some us)) n =
    let inside = placed_in stmt_way ts (n + 1) in
    let body = map (λ (t : PlacedStmt). t.0) ts in
    let other = map (λ (t : PlacedStmt). t.0) us in
    let behind_else = n + 1 + length (stmts_entries body) in
    let others = placed_in stmt_way us (behind_else + 1) in
    let word = anywhere (codes "else") in
    let last = anywhere (codes "endif") ∷ [] in
    record {
      again = Stmt-F.Branch (line_start n) test left right inside.again (Some others.again);
      entries = ap (λ (l : List Entry). placed n (opening (Stmt-F.Branch spot test left right ts (Some us))) ∷ l)
          (placed_on (n + 1) (stmts_entries inside.again ++ (word ∷ stmts_entries others.again)) last (stmts_entries body ++ (word ∷ stmts_entries other)) last
          (placed_on (n + 1) (stmts_entries inside.again) (word ∷ stmts_entries others.again) (stmts_entries body) (word ∷ stmts_entries other) inside.entries (ap (λ (l : List Entry). word ∷ l) others.entries)) refl);
      same = rw (inside.same, others.same) refl;
      fits = λ room. ap (λ (b : Bool). opening_fits (Stmt-F.Branch spot test left right body (Some other)) && (b && list_fits (map stmt_fits others.again) room)) (blocks_fit inside.again body inside.fits room)
          ∙ ap (λ (b : Bool). opening_fits (Stmt-F.Branch spot test left right body (Some other)) && (list_fits (map stmt_fits body) room && b)) (blocks_fit others.again other others.fits room);
    }
level_again y n = record { again = moved_to (line_start n) (placed_stmt y); entries = refl; same = refl; fits = λ room. refl }

-- each statement can be placed
again_rolled : (y : Stmt-F PlacedStmt) → IsPlaceable stmt_way (roll-Stmt (placed_stmt y))
again_rolled y n =
    let x = placed_stmt y in
    let level = level_again y n in
    record {
      again = roll-Stmt level.again;
      entries = fold-roll-Stmt (List Entry) stmt_level level.again ∙ level.entries ∙ ap (placed_from n) (sym (fold-roll-Stmt (List Entry) stmt_level x));
      same = fold-roll-Stmt Stmt stmt_without_spots_level level.again ∙ level.same ∙ sym (fold-roll-Stmt Stmt stmt_without_spots_level x);
      fits = λ room. ap (λ (f : ℕ → Bool). f room) (fold-roll-Stmt (ℕ → Bool) stmt_fits_level level.again) ∙ level.fits room ∙ ap (λ (f : ℕ → Bool). f room) (sym (fold-roll-Stmt (ℕ → Bool) stmt_fits_level x));
    }

stmt_placed : (s : Stmt) → IsPlaceable stmt_way s
stmt_placed = ind-Stmt (IsPlaceable stmt_way) (λ x y is. subst (λ x. IsPlaceable stmt_way (roll-Stmt x)) is (again_rolled y))

-- ---- the other parts of a job

-- declarations, events and callbacks can be placed
decl_placed : (d : Decl) → IsPlaceable decl_way d
decl_placed (decl.Array spot name len) n = record { again = decl.Array (line_start n) name len; entries = refl; same = refl; fits = λ r. refl }
decl_placed (decl.Counter spot name) n = record { again = decl.Counter (line_start n) name; entries = refl; same = refl; fits = λ r. refl }

event_placed : (e : Event) → IsPlaceable event_way e
event_placed e n = record { again = record { spot = line_start n; kind = e.kind }; entries = refl; same = refl; fits = λ r. refl }

-- a callback at no spot
abbrev bare_callback : List ℕ → List Stmt → Callback
bare_callback name body = record { spot = nowhere; name = name; body = body }

callback_placed : (c : Callback) → IsPlaceable callback_way c
callback_placed c n =
    let inside = placed_all stmt_way stmt_placed c.body (n + 1) in
    let last = anywhere (codes "endcallback") ∷ [] in
    record {
      again = record { spot = line_start n; name = c.name; body = inside.again };
      entries = ap (λ (l : List Entry). kept_at (line_start n) (codes "callback" ∷ c.name ∷ []) ∷ l) (placed_on (n + 1) (stmts_entries inside.again) last (stmts_entries c.body) last inside.entries refl);
      same = ap (bare_callback c.name) inside.same;
      fits = λ r. ap (λ (b : Bool). is_name c.name && b) (inside.fits 64);
    }

-- ---- the whole job

-- a job with the same contents whose lines are those of a text that has no others
pub record Respotted (job : Job) : Type 0 where
  pub again : Job
  pub entries : job_entries again ≡ placed_from 1 (job_entries job)
  pub writable : IsWritable job → IsWritable again
  pub same : without_spots again ≡ without_spots job

-- where each part has one line
placed_singles : {X : Type 0} (f : X → Entry) (xs ys : List X) (n : ℕ) → chained (map (λ x. f x ∷ []) xs) ≡ placed_from n (chained (map (λ x. f x ∷ []) ys)) → map f xs ≡ placed_from n (map f ys)
placed_singles f xs ys n same = sym (single_lines f xs) ∙ same ∙ ap (placed_from n) (single_lines f ys)

-- a job at no spots, by its parts
abbrev bare_job : Job → List Decl → List Callback → List Stmt → List Event → Job
bare_job job names callbacks body events = record {
  ranks = job.ranks;
  spares = job.spares;
  separation = job.separation;
  ranks_spot = nowhere;
  spares_spot = nowhere;
  separation_spot = nowhere;
  begin_spot = nowhere;
  names = names;
  callbacks = callbacks;
  body = body;
  events = events;
}

-- parts that are the same make the same job
parts_same : (job : Job) (names names' : List Decl) (callbacks callbacks' : List Callback) (body body' : List Stmt) (events events' : List Event) → names ≡ names' → callbacks ≡ callbacks' → body ≡ body'
    → events ≡ events' → bare_job job names callbacks body events ≡ bare_job job names' callbacks' body' events'
parts_same job names names' callbacks callbacks' body body' events events' n c b e = rw (n, c, b, e) refl

-- each job can be placed
pub job_respotted : (job : Job) → Respotted job
job_respotted job =
    let begin_line : Spot → List Entry = λ spot. kept_at spot (codes "begin" ∷ []) ∷ [] in
    let middle = anywhere (codes "end") ∷ anywhere (codes "schedule") ∷ [] in
    let last = anywhere (codes "stop") ∷ [] in
    let e1 = heading job in
    let e2 = e1 ++ map decl_entry job.names in
    let e3 = e2 ++ chained (map callback_entries job.callbacks) in
    let e4 = e3 ++ begin_line job.begin_spot in
    let e5 = e4 ++ stmts_entries job.body in
    let e6 = e5 ++ middle in
    let e7 = e6 ++ map event_entry job.events in
    let names = placed_all decl_way decl_placed job.names (1 + length e1) in
    let callbacks = placed_all callback_way callback_placed job.callbacks (1 + length e2) in
    let body = placed_all stmt_way stmt_placed job.body (1 + length e4) in
    let events = placed_all event_way event_placed job.events (1 + length e6) in
    let again : Job = record {
      ranks = job.ranks;
      spares = job.spares;
      separation = job.separation;
      ranks_spot = line_start 2;
      spares_spot = line_start 3;
      separation_spot = line_start 4;
      begin_spot = line_start (1 + length e3);
      names = names.again;
      callbacks = callbacks.again;
      body = body.again;
      events = events.again;
    } in
    let a1 = heading again in
    let a2 = a1 ++ map decl_entry again.names in
    let a3 = a2 ++ chained (map callback_entries again.callbacks) in
    let a4 = a3 ++ begin_line again.begin_spot in
    let a5 = a4 ++ stmts_entries again.body in
    let a6 = a5 ++ middle in
    let a7 = a6 ++ map event_entry again.events in
    let p2 : a2 ≡ placed_from 1 e2 = placed_on 1 a1 (map decl_entry again.names) e1 (map decl_entry job.names) refl (placed_singles decl_entry again.names job.names (1 + length e1) names.entries) in
    let p3 : a3 ≡ placed_from 1 e3 = placed_on 1 a2 (chained (map callback_entries again.callbacks)) e2 (chained (map callback_entries job.callbacks)) p2 callbacks.entries in
    let p4 : a4 ≡ placed_from 1 e4 = placed_on 1 a3 (begin_line again.begin_spot) e3 (begin_line job.begin_spot) p3 refl in
    let p5 : a5 ≡ placed_from 1 e5 = placed_on 1 a4 (stmts_entries again.body) e4 (stmts_entries job.body) p4 body.entries in
    let p6 : a6 ≡ placed_from 1 e6 = placed_on 1 a5 middle e5 middle p5 refl in
    let p7 : a7 ≡ placed_from 1 e7 = placed_on 1 a6 (map event_entry again.events) e6 (map event_entry job.events) p6 (placed_singles event_entry again.events job.events (1 + length e6) events.entries) in
    record {
      again = again;
      entries = placed_on 1 a7 last e7 last p7 refl;
      writable = λ w. record {
        ranks = w.ranks;
        spares = w.spares;
        separation = w.separation;
        names = names.fits tt ∙ w.names;
        callbacks = callbacks.fits tt ∙ w.callbacks;
        body = body.fits 64 ∙ w.body;
        events = events.fits tt ∙ w.events;
      };
      same = parts_same job _ _ _ _ _ _ _ _ names.same callbacks.same body.same events.same;
    }
