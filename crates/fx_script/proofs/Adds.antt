-- Each line that was read is added to the lines of the draft.
use Rattle.std.proofs.Common.{◌≡◌, ℕ, zero, suc, ◌+◌, ◌<◌, Bool, true, ◌&&◌, eqb, List, [], ◌∷◌, ◌++◌, length, Some, None, refl, sym, ap, subst, ◌∙◌, append_assoc, arith}
use Rattle.std.specs.Prelude.{map, codes}
use Rattle.std.specs.List.{list_all}
use Rattle.std.proofs.lemmas.Bool.{and_from, eqb-true, ltb-true}
use Rattle.std.proofs.lemmas.List.{append-nil, map-append, nil_from_length}
use Rattle.std.proofs.lemmas.List.Folds.{list_all-append, list_all-map}
use Rattle.fx_base.specs.declared.spot.Spot.{Spot}
use Rattle.fx_text.specs.Numbers.{fits_64}
use Rattle.fx_script.specs.declared.draft.Block.{Block}
use Rattle.fx_script.specs.declared.draft.Block.TheVariants as block
use Rattle.fx_script.specs.declared.draft.Draft.{Draft}
use Rattle.fx_script.specs.declared.draft.DuePart.{DuePart}
use Rattle.fx_script.specs.declared.draft.DuePart.TheVariants as due_part
use Rattle.fx_script.specs.declared.head.EdgeHead.{EdgeHead}
use Rattle.fx_script.specs.declared.head.EdgeHead.TheVariants as edge
use Rattle.fx_script.specs.declared.head.PartHead.{PartHead}
use Rattle.fx_script.specs.declared.head.PartHead.TheVariants as part
use Rattle.fx_script.specs.declared.job.Callback.{Callback}
use Rattle.fx_script.specs.declared.job.EventKind.{EventKind}
use Rattle.fx_script.specs.declared.job.Job.{Job}
use Rattle.fx_script.specs.declared.job.Stmt.{Stmt}
use Rattle.fx_script.specs.declared.job.Stmt.TheOpen.{Stmt-F}
use Rattle.fx_script.specs.declared.job.Stmt.TheVariants as stmt
use Rattle.fx_script.specs.Exprs.{is_writable_expr}
use Rattle.fx_script.specs.Moves.{part_moved, edge_moved}
use Rattle.fx_text.specs.Names.{is_name}
use Rattle.fx_script.specs.Spelling.{Entry, kept_at, anywhere, chained, stmt_entries, stmts_entries, callback_entries, event_words, event_entry, stmt_fits, stmts_fit, decl_fits, callback_fits, event_fits}
use Rattle.fx_script.specs.Order.{part_stands, edge_stands, is_inside, is_scheduled}
use Rattle.fx_script.proofs.HeadLemmas.{part_word_in, part_fits, edge_word_in, edge_fits}
use Rattle.fx_script.proofs.SimpleLemmas.{stmt_spelling, stmt_writing}
use Rattle.fx_script.proofs.SoFar.{part_line, edge_line, block_lines, open_lines, inner, named, called, begun, so_far, BlockFits, BlocksFit, OpenFits, IsFine}

-- one line more
pub record Adds (d next : Draft) (e : Entry) : Type 0 where
  pub line : so_far next ≡ so_far d ++ e ∷ []
  pub fine : IsFine next

-- ---- lists

pub chained-append : {X : Type 0} (ls ms : List (List X)) → chained (ls ++ ms) ≡ chained ls ++ chained ms
chained-append [] ms = refl
chained-append {X} (l ∷ ls) ms = ap (λ (r : List X). l ++ r) (chained-append ls ms) ∙ sym (append_assoc l (chained ls) (chained ms))

pub stmts_entries-append : (ss ts : List Stmt) → stmts_entries (ss ++ ts) ≡ stmts_entries ss ++ stmts_entries ts
stmts_entries-append ss ts = ap chained (map-append stmt_entries ss ts) ∙ chained-append (map stmt_entries ss) (map stmt_entries ts)

pub stmts_entries_push : (ss : List Stmt) (s : Stmt) → stmts_entries (ss ++ s ∷ []) ≡ stmts_entries ss ++ stmt_entries s
stmts_entries_push ss s = stmts_entries-append ss (s ∷ []) ∙ ap (λ (l : List Entry). stmts_entries ss ++ l) (append-nil (stmt_entries s))

pub all_push : {X : Type 0} (p : X → Bool) (xs : List X) (x : X) → list_all p xs ≡ true → p x ≡ true → list_all p (xs ++ x ∷ []) ≡ true
all_push p xs x all one = list_all-append p xs (x ∷ []) ∙ and_from (list_all p xs) (p x && true) all (and_from (p x) true one refl)

none_is : (bs : List Block) → eqb (length bs) 0 ≡ true → bs ≡ []
none_is bs none = nil_from_length bs (eqb-true (length bs) 0 none)

-- where no block is open there is room for 64
room_64 : (bs : List Block) (now : List Stmt) → bs ≡ [] → OpenFits bs now → stmts_fit now 64 ≡ true
room_64 bs now none fits =
    let all : fits.room ≡ 64 = omega (arith, fits.count, ap length none) in
    subst (λ (n : ℕ). stmts_fit now n ≡ true) all fits.statements

pub nothing_open : OpenFits [] []
nothing_open = record { room = 64; count = refl; blocks = tt; statements = refl }

-- ---- lines between the parts

-- where nothing stands between
starts : (ls : List Entry) (e : Entry) → ((ls ++ []) ++ e ∷ []) ++ [] ≡ ls ++ e ∷ []
starts ls e = append-nil ((ls ++ []) ++ e ∷ []) ∙ ap (λ (l : List Entry). l ++ e ∷ []) (append-nil ls)

-- one callback more
calls_more : (ls : List Entry) (cs : List Callback) (c : Callback) → ls ++ chained (map callback_entries (cs ++ c ∷ [])) ≡ (ls ++ chained (map callback_entries cs)) ++ callback_entries c
calls_more ls cs c =
    ap (λ (l : List Entry). ls ++ l) (ap chained (map-append callback_entries cs (c ∷ [])) ∙ chained-append (map callback_entries cs) (callback_entries c ∷ []) ∙ ap (λ (l : List Entry). chained (map callback_entries cs) ++ l) (append-nil (callback_entries c)))
    ∙ sym (append_assoc ls (chained (map callback_entries cs)) (callback_entries c))

-- a first line, statements and a last line
closes : (ls : List Entry) (first : Entry) (ss : List Entry) (last : Entry) → ls ++ first ∷ (ss ++ last ∷ []) ≡ ((ls ++ first ∷ []) ++ ss) ++ last ∷ []
closes ls first ss last = sym (append_assoc ls (first ∷ []) (ss ++ last ∷ [])) ∙ sym (append_assoc (ls ++ first ∷ []) ss (last ∷ []))

abbrev pub dr : DuePart → Job → Callback → List Block → List Stmt → Draft
dr s job c bs now = record { due_part = s; job = job; callback = c; blocks = bs; now = now }

part_adds_at : (s : DuePart) (job : Job) (c : Callback) (bs : List Block) (now : List Stmt) (spot : Spot) (p : PartHead) → part_stands s bs (part_word_in p) ≡ true → part_fits p ≡ true
    → IsFine (dr s job c bs now) → Adds (dr s job c bs now) (part_moved (dr s job c bs now) spot p) (part_line spot p)
part_adds_at due_part.Fenix job c bs now spot part.Fenix may fits f =
    record { line = refl; fine = record { tidy = f.tidy; job = f.job; open_fits = f.open_fits } }
part_adds_at due_part.Ranks job c bs now spot (part.Ranks n) may fits f =
    record {
      line = refl;
      fine = record {
        tidy = f.tidy;
        open_fits = f.open_fits;
        job = record { ranks = fits; spares = f.job.spares; separation = f.job.separation; names = f.job.names; callbacks = f.job.callbacks; body = f.job.body; events = f.job.events };
      };
    }
part_adds_at due_part.Spares job c bs now spot (part.Spares n) may fits f =
    record {
      line = refl;
      fine = record {
        tidy = f.tidy;
        open_fits = f.open_fits;
        job = record { ranks = f.job.ranks; spares = fits; separation = f.job.separation; names = f.job.names; callbacks = f.job.callbacks; body = f.job.body; events = f.job.events };
      };
    }
part_adds_at due_part.Separation job c bs now spot (part.Separation n) may fits f =
    record {
      line = rw f.tidy.0 refl;
      fine = record {
        tidy = f.tidy.1;
        open_fits = f.open_fits;
        job = record { ranks = f.job.ranks; spares = f.job.spares; separation = fits; names = f.job.names; callbacks = f.job.callbacks; body = f.job.body; events = f.job.events };
      };
    }
part_adds_at due_part.Names job c bs now spot (part.Array name len) may fits f =
    record {
      line = simp (map-append, append_assoc);
      fine = record {
        tidy = f.tidy;
        open_fits = f.open_fits;
        job = record { ranks = f.job.ranks; spares = f.job.spares; separation = f.job.separation; names = all_push decl_fits job.names _ f.job.names fits; callbacks = f.job.callbacks; body = f.job.body; events = f.job.events };
      };
    }
part_adds_at due_part.Names job c bs now spot (part.Counter name) may fits f =
    record {
      line = simp (map-append, append_assoc);
      fine = record {
        tidy = f.tidy;
        open_fits = f.open_fits;
        job = record { ranks = f.job.ranks; spares = f.job.spares; separation = f.job.separation; names = all_push decl_fits job.names _ f.job.names fits; callbacks = f.job.callbacks; body = f.job.body; events = f.job.events };
      };
    }
part_adds_at due_part.Names job c bs now spot (part.Callback name) may fits f =
    record { line = rw (f.tidy.0, f.tidy.1.1, f.tidy.1.2) (starts (named job) (part_line spot (part.Callback name))); fine = record { tidy = (f.tidy.1.0, fits); job = f.job; open_fits = f.open_fits } }
part_adds_at due_part.Names job c bs now spot part.Begin may fits f =
    record {
      line = rw (f.tidy.0, f.tidy.1.1, f.tidy.1.2) (starts (named job) (part_line spot part.Begin));
      fine = record {
        tidy = f.tidy.1.0;
        open_fits = f.open_fits;
        job = record { ranks = f.job.ranks; spares = f.job.spares; separation = f.job.separation; names = f.job.names; callbacks = f.job.callbacks; body = f.job.body; events = f.job.events };
      };
    }
part_adds_at due_part.Callbacks job c bs now spot (part.Callback name) may fits f =
    record { line = rw (f.tidy.1, f.tidy.2) (append-nil (called job ++ part_line spot (part.Callback name) ∷ [])); fine = record { tidy = (f.tidy.0, fits); job = f.job; open_fits = f.open_fits } }
part_adds_at due_part.Callbacks job c bs now spot part.Begin may fits f =
    record {
      line = rw (f.tidy.1, f.tidy.2) (append-nil (called job ++ part_line spot part.Begin ∷ []));
      fine = record {
        tidy = f.tidy.0;
        open_fits = f.open_fits;
        job = record { ranks = f.job.ranks; spares = f.job.spares; separation = f.job.separation; names = f.job.names; callbacks = f.job.callbacks; body = f.job.body; events = f.job.events };
      };
    }
part_adds_at due_part.Callback job c bs now spot part.EndCallback may fits f =
    let none = none_is bs may in
    let called_back : Callback = record c { body = now } in
    record {
      line = rw none (calls_more (named job) job.callbacks called_back ∙ closes (called job) (kept_at c.spot (codes "callback" ∷ c.name ∷ [])) (stmts_entries now) (anywhere (codes "endcallback")));
      fine = record {
        tidy = (f.tidy.0, none, refl);
        open_fits = rw none nothing_open;
        job = record {
          ranks = f.job.ranks;
          spares = f.job.spares;
          separation = f.job.separation;
          names = f.job.names;
          callbacks = all_push callback_fits job.callbacks called_back f.job.callbacks (and_from (is_name c.name) (stmts_fit now 64) f.tidy.1 (room_64 bs now none f.open_fits));
          body = f.job.body;
          events = f.job.events;
        };
      };
    }
part_adds_at due_part.Body job c bs now spot part.End may fits f =
    let none = none_is bs may in
    record {
      line = rw none refl;
      fine = record {
        tidy = f.tidy;
        open_fits = rw none nothing_open;
        job = record { ranks = f.job.ranks; spares = f.job.spares; separation = f.job.separation; names = f.job.names; callbacks = f.job.callbacks; body = room_64 bs now none f.open_fits; events = f.job.events };
      };
    }
part_adds_at due_part.Schedule job c bs now spot part.Schedule may fits f =
    record { line = rw f.tidy (append-nil (begun job ++ stmts_entries job.body ++ anywhere (codes "end") ∷ anywhere (codes "schedule") ∷ []) ∙ sym (append_assoc (begun job ++ stmts_entries job.body) (anywhere (codes "end") ∷ []) (anywhere (codes "schedule") ∷ []))); fine = record { tidy = tt; job = f.job; open_fits = f.open_fits } }
part_adds_at due_part.Events job c bs now spot part.Stop may fits f =
    record { line = refl; fine = record { tidy = tt; job = f.job; open_fits = f.open_fits } }
part_adds_at s job c bs now spot p may fits f = absurd cc

pub part_adds : (d : Draft) (spot : Spot) (p : PartHead) → part_stands d.due_part d.blocks (part_word_in p) ≡ true → part_fits p ≡ true → IsFine d → Adds d (part_moved d spot p) (part_line spot p)
part_adds d spot p may fits f = part_adds_at d.due_part d.job d.callback d.blocks d.now spot p may fits f

-- ---- lines inside a callback or the body

-- what comes to the blocks and statements that are open
pub record InnerAdds (bs : List Block) (now : List Stmt) (next : List Block) (then : List Stmt) (e : Entry) : Type 0 where
  pub line : inner next then ≡ inner bs now ++ e ∷ []
  pub fine : OpenFits bs now → OpenFits next then

inside_line : (ls bef aft : List Entry) (e : Entry) → aft ≡ bef ++ e ∷ [] → ls ++ aft ≡ (ls ++ bef) ++ e ∷ []
inside_line ls bef aft e is = ap (λ (l : List Entry). ls ++ l) is ∙ sym (append_assoc ls bef (e ∷ []))

inside_adds_at : (s : DuePart) (job : Job) (c : Callback) (bs : List Block) (now : List Stmt) (next : List Block) (then : List Stmt) (e : Entry) → is_inside s ≡ true → InnerAdds bs now next then e
    → IsFine (dr s job c bs now) → Adds (dr s job c bs now) (dr s job c next then) e
inside_adds_at due_part.Callback job c bs now next then e may adds f =
    record {
      line = inside_line (called job ++ kept_at c.spot (codes "callback" ∷ c.name ∷ []) ∷ []) (inner bs now) (inner next then) e adds.line;
      fine = record { tidy = f.tidy; job = f.job; open_fits = adds.fine f.open_fits };
    }
inside_adds_at due_part.Body job c bs now next then e may adds f =
    record { line = inside_line (begun job) (inner bs now) (inner next then) e adds.line; fine = record { tidy = f.tidy; job = f.job; open_fits = adds.fine f.open_fits } }
inside_adds_at s job c bs now next then e may adds f = absurd cc

pub inside_adds : (d : Draft) (next : List Block) (then : List Stmt) (e : Entry) → is_inside d.due_part ≡ true → InnerAdds d.blocks d.now next then e → IsFine d → Adds d (record d { blocks = next; now = then }) e
inside_adds d next then e may adds f = inside_adds_at d.due_part d.job d.callback d.blocks d.now next then e may adds f

-- a statement of one line
pub simple_inner : (bs : List Block) (now : List Stmt) (s : Stmt) (e : Entry) → stmt_entries s ≡ e ∷ [] → ((room : ℕ) → stmt_fits s room ≡ true) → InnerAdds bs now bs (now ++ s ∷ []) e
simple_inner bs now s e is fits = record {
  line = ap (λ (l : List Entry). open_lines bs ++ l) (stmts_entries_push now s ∙ ap (λ (l : List Entry). stmts_entries now ++ l) is) ∙ sym (append_assoc (open_lines bs) (stmts_entries now) (e ∷ []));
  fine = λ f. record { room = f.room; count = f.count; blocks = f.blocks; statements = all_push (λ (t : Stmt). stmt_fits t f.room) now s f.statements (fits f.room) };
}

-- a block is opened
opened_line : (bs : List Block) (now : List Stmt) (b : Block) (e : Entry) → block_lines b ≡ stmts_entries now ++ e ∷ [] → inner (b ∷ bs) [] ≡ inner bs now ++ e ∷ []
opened_line bs now b e is =
    append-nil (open_lines bs ++ block_lines b) ∙ ap (λ (l : List Entry). open_lines bs ++ l) is ∙ sym (append_assoc (open_lines bs) (stmts_entries now) (e ∷ []))

opened_by : (bs : List Block) (now : List Stmt) (b : Block) (room : ℕ) → length bs < 64 → ((inside : ℕ) → stmts_fit now (suc inside) ≡ true → BlockFits b inside) → room + length bs ≡ 64 → BlocksFit bs room → stmts_fit now room ≡ true → OpenFits (b ∷ bs) []
opened_by bs now b zero few fits count blocks statements = absurd (omega arith)
opened_by bs now b (suc room) few fits count blocks statements = record { room = room; count = omega arith; blocks = (fits room statements, blocks); statements = refl }

opened_fits : (bs : List Block) (now : List Stmt) (b : Block) → length bs < 64 → ((room : ℕ) → stmts_fit now (suc room) ≡ true → BlockFits b room) → OpenFits bs now → OpenFits (b ∷ bs) []
opened_fits bs now b few fits f = opened_by bs now b f.room few fits f.count f.blocks f.statements

-- a block is closed: the room inside it is one less than around it
closed_count : (room : ℕ) (bs : List Block) (b : Block) → room + length (b ∷ bs) ≡ 64 → suc room + length bs ≡ 64
closed_count room bs b count = omega (arith, count)

all_inside : (ss : List Stmt) (room : ℕ) → stmts_fit ss room ≡ true → list_all (λ (fits : ℕ → Bool). fits room) (map stmt_fits ss) ≡ true
all_inside ss room all = list_all-map (λ (fits : ℕ → Bool). fits room) stmt_fits ss ∙ all

-- the lines of a block with one list, and with two
closes_one : (ls ms : List Entry) (first : Entry) (ss : List Entry) (last : Entry) → ls ++ (ms ++ first ∷ (ss ++ last ∷ [])) ≡ ((ls ++ (ms ++ first ∷ [])) ++ ss) ++ last ∷ []
closes_one ls ms first ss last = simp append_assoc

closes_two : (ls ms : List Entry) (first : Entry) (ss : List Entry) (other : Entry) (ts : List Entry) (last : Entry)
    → ls ++ (ms ++ first ∷ ((ss ++ other ∷ ts) ++ last ∷ [])) ≡ ((ls ++ (ms ++ first ∷ (ss ++ other ∷ []))) ++ ts) ++ last ∷ []
closes_two ls ms first ss other ts last = simp append_assoc

divides : (ls ms : List Entry) (first : Entry) (ss : List Entry) (other : Entry)
    → (ls ++ (ms ++ first ∷ (ss ++ other ∷ []))) ++ [] ≡ ((ls ++ (ms ++ first ∷ [])) ++ ss) ++ other ∷ []
divides ls ms first ss other = simp (append-nil, append_assoc)

-- the statements of the list around a block that is closed
closed_inner : (bs : List Block) (now before : List Stmt) (b : Block) (s : Stmt) (first : Entry) (ss : List Entry) (last : Entry) → stmt_entries s ≡ first ∷ (ss ++ last ∷ [])
    → open_lines bs ++ (stmts_entries before ++ first ∷ (ss ++ last ∷ [])) ≡ inner (b ∷ bs) now ++ last ∷ []
    → ((room : ℕ) → BlockFits b room → stmts_fit now room ≡ true → (stmts_fit before (suc room) ≡ true) × (stmt_fits s (suc room) ≡ true)) → InnerAdds (b ∷ bs) now bs (before ++ s ∷ []) last
closed_inner bs now before b s first ss last is line fits = record {
  line = ap (λ (l : List Entry). open_lines bs ++ l) (stmts_entries_push before s ∙ ap (λ (l : List Entry). stmts_entries before ++ l) is) ∙ line;
  fine = λ f. let both = fits f.room f.blocks.0 f.statements in record {
    room = suc f.room;
    count = closed_count f.room bs b f.count;
    blocks = f.blocks.1;
    statements = all_push (λ (t : Stmt). stmt_fits t (suc f.room)) before s both.0 both.1;
  };
}

edge_inner : (bs : List Block) (now : List Stmt) (spot : Spot) (e : EdgeHead) → edge_stands bs (edge_word_in e) ≡ true → edge_fits e ≡ true → (s : DuePart) (job : Job) (c : Callback)
    → InnerAdds bs now (edge_moved (dr s job c bs now) spot e).blocks (edge_moved (dr s job c bs now) spot e).now (edge_line spot e)
edge_inner bs now spot (edge.When role) stands fits s job c =
    record { line = opened_line bs now (block.RoleOnly spot role now) (edge_line spot (edge.When role)) refl; fine = opened_fits bs now (block.RoleOnly spot role now) (ltb-true (length bs) 64 stands) (λ room before. before) }
edge_inner bs now spot (edge.If test left right) stands fits s job c =
    record { line = opened_line bs now (block.Yes spot test left right now) (edge_line spot (edge.If test left right)) refl; fine = opened_fits bs now (block.Yes spot test left right now) (ltb-true (length bs) 64 stands) (λ room before. (fits, before)) }
edge_inner bs now spot (edge.For counter first last) stands fits s job c =
    record { line = opened_line bs now (block.Loop spot counter first last now) (edge_line spot (edge.For counter first last)) refl; fine = opened_fits bs now (block.Loop spot counter first last now) (ltb-true (length bs) 64 stands) (λ room before. (fits, before)) }
edge_inner (block.Yes at test left right before ∷ bs) now spot edge.Else stands fits s job c = record {
  line = divides (open_lines bs) (stmts_entries before) (edge_line at (edge.If test left right)) (stmts_entries now) (anywhere (codes "else"));
  fine = λ f. record { room = f.room; count = f.count; blocks = ((f.blocks.0.0, (f.statements, f.blocks.0.1)), f.blocks.1); statements = refl };
}
edge_inner (block.RoleOnly at role before ∷ bs) now spot edge.EndWhen stands fits s job c =
    let x = Stmt-F.RoleOnly at role now in
    let t = stmt.RoleOnly at role now in
    closed_inner bs now before (block.RoleOnly at role before) t (edge_line at (edge.When role)) (stmts_entries now) (anywhere (codes "endwhen")) (stmt_spelling x t (stmt.rolls-RoleOnly at role now))
    (closes_one (open_lines bs) (stmts_entries before) (edge_line at (edge.When role)) (stmts_entries now) (anywhere (codes "endwhen")))
    (λ room b inside. (b, stmt_writing x t (stmt.rolls-RoleOnly at role now) (suc room) ∙ all_inside now room inside))
edge_inner (block.Yes at test left right before ∷ bs) now spot edge.EndIf stands fits s job c =
    let x = Stmt-F.Branch at test left right now None in
    let t = stmt.Branch at test left right now None in
    closed_inner bs now before (block.Yes at test left right before) t (edge_line at (edge.If test left right)) (stmts_entries now) (anywhere (codes "endif"))
    (stmt_spelling x t (stmt.rolls-Branch at test left right now None) ∙ ap (λ (l : List Entry). edge_line at (edge.If test left right) ∷ (l ++ anywhere (codes "endif") ∷ [])) (append-nil (stmts_entries now)))
    (closes_one (open_lines bs) (stmts_entries before) (edge_line at (edge.If test left right)) (stmts_entries now) (anywhere (codes "endif")))
    (λ room b inside. (
      b.1,
      stmt_writing x t (stmt.rolls-Branch at test left right now None) (suc room)
          ∙ and_from (is_writable_expr left && is_writable_expr right) _ b.0 (and_from _ true (all_inside now room inside) refl),
    ))
edge_inner (block.No at test left right chosen before ∷ bs) now spot edge.EndIf stands fits s job c =
    let x = Stmt-F.Branch at test left right chosen (Some now) in
    let t = stmt.Branch at test left right chosen (Some now) in
    closed_inner bs now before (block.No at test left right chosen before) t (edge_line at (edge.If test left right)) (stmts_entries chosen ++ anywhere (codes "else") ∷ stmts_entries now) (anywhere (codes "endif"))
    (stmt_spelling x t (stmt.rolls-Branch at test left right chosen (Some now)))
    (closes_two (open_lines bs) (stmts_entries before) (edge_line at (edge.If test left right)) (stmts_entries chosen) (anywhere (codes "else")) (stmts_entries now) (anywhere (codes "endif")))
    (λ room b inside. (
      b.1.1,
      stmt_writing x t (stmt.rolls-Branch at test left right chosen (Some now)) (suc room)
          ∙ and_from (is_writable_expr left && is_writable_expr right) _ b.0 (and_from _ _ (all_inside chosen room b.1.0) (all_inside now room inside)),
    ))
edge_inner (block.Loop at counter first last before ∷ bs) now spot edge.EndFor stands fits s job c =
    let x = Stmt-F.Loop at counter first last now in
    let t = stmt.Loop at counter first last now in
    closed_inner bs now before (block.Loop at counter first last before) t (edge_line at (edge.For counter first last)) (stmts_entries now) (anywhere (codes "endfor")) (stmt_spelling x t (stmt.rolls-Loop at counter first last now))
    (closes_one (open_lines bs) (stmts_entries before) (edge_line at (edge.For counter first last)) (stmts_entries now) (anywhere (codes "endfor")))
    (λ room b inside. (b.1, stmt_writing x t (stmt.rolls-Loop at counter first last now) (suc room) ∙ and_from (is_name counter && is_writable_expr first && fits_64 last) _ b.0 (all_inside now room inside)))
edge_inner bs now spot e stands fits s job c = absurd cc

-- such a line changes the open blocks and their statements alone
edge_keeps : (s : DuePart) (job : Job) (c : Callback) (bs : List Block) (now : List Stmt) (spot : Spot) (e : EdgeHead)
    → edge_moved (dr s job c bs now) spot e ≡ dr s job c (edge_moved (dr s job c bs now) spot e).blocks (edge_moved (dr s job c bs now) spot e).now
edge_keeps s job c bs now spot (edge.When role) = refl
edge_keeps s job c bs now spot (edge.If test left right) = refl
edge_keeps s job c bs now spot (edge.For counter first last) = refl
edge_keeps s job c [] now spot edge.Else = refl
edge_keeps s job c (block.RoleOnly at role before ∷ bs) now spot edge.Else = refl
edge_keeps s job c (block.Yes at test left right before ∷ bs) now spot edge.Else = refl
edge_keeps s job c (block.No at test left right chosen before ∷ bs) now spot edge.Else = refl
edge_keeps s job c (block.Loop at counter first last before ∷ bs) now spot edge.Else = refl
edge_keeps s job c [] now spot edge.EndWhen = refl
edge_keeps s job c (b ∷ bs) now spot edge.EndWhen = refl
edge_keeps s job c [] now spot edge.EndIf = refl
edge_keeps s job c (b ∷ bs) now spot edge.EndIf = refl
edge_keeps s job c [] now spot edge.EndFor = refl
edge_keeps s job c (b ∷ bs) now spot edge.EndFor = refl

pub edge_adds : (d : Draft) (spot : Spot) (e : EdgeHead) → is_inside d.due_part ≡ true → edge_stands d.blocks (edge_word_in e) ≡ true → edge_fits e ≡ true → IsFine d
    → Adds d (edge_moved d spot e) (edge_line spot e)
edge_adds d spot e inside stands fits f =
    subst (λ (next : Draft). Adds d next (edge_line spot e)) (sym (edge_keeps d.due_part d.job d.callback d.blocks d.now spot e))
    (inside_adds d (edge_moved d spot e).blocks (edge_moved d spot e).now (edge_line spot e) inside (edge_inner d.blocks d.now spot e stands fits d.due_part d.job d.callback) f)

pub simple_adds : (d : Draft) (s : Stmt) (e : Entry) → is_inside d.due_part ≡ true → stmt_entries s ≡ e ∷ [] → ((room : ℕ) → stmt_fits s room ≡ true) → IsFine d → Adds d (record d { now = d.now ++ s ∷ [] }) e
simple_adds d s e inside is fits f = inside_adds d d.blocks (d.now ++ s ∷ []) e inside (simple_inner d.blocks d.now s e is fits) f

-- ---- events

event_adds_at : (s : DuePart) (job : Job) (c : Callback) (bs : List Block) (now : List Stmt) (spot : Spot) (kind : EventKind) → is_scheduled s ≡ true → event_fits kind ≡ true → IsFine (dr s job c bs now)
    → Adds (dr s job c bs now) (dr s (record job { events = job.events ++ record { spot = spot; kind = kind } ∷ [] }) c bs now) (kept_at spot (event_words kind))
event_adds_at due_part.Events job c bs now spot kind may fits f = record {
  line = ap (λ (l : List Entry). begun job ++ stmts_entries job.body ++ anywhere (codes "end") ∷ anywhere (codes "schedule") ∷ [] ++ l) (map-append event_entry job.events (record { spot = spot; kind = kind } ∷ []))
      ∙ sym (append_assoc (begun job ++ stmts_entries job.body ++ anywhere (codes "end") ∷ anywhere (codes "schedule") ∷ []) (map event_entry job.events) (kept_at spot (event_words kind) ∷ []));
  fine = record {
    tidy = tt;
    open_fits = f.open_fits;
    job = record {
      ranks = f.job.ranks;
      spares = f.job.spares;
      separation = f.job.separation;
      names = f.job.names;
      callbacks = f.job.callbacks;
      body = f.job.body;
      events = all_push (λ e. event_fits e.kind) job.events (record { spot = spot; kind = kind }) f.job.events fits;
    };
  };
}
event_adds_at s job c bs now spot kind may fits f = absurd cc

pub event_adds : (d : Draft) (spot : Spot) (kind : EventKind) → is_scheduled d.due_part ≡ true → event_fits kind ≡ true → IsFine d
    → Adds d (record d { job = record d.job { events = d.job.events ++ record { spot = spot; kind = kind } ∷ [] } }) (kept_at spot (event_words kind))
event_adds d spot kind may fits f = event_adds_at d.due_part d.job d.callback d.blocks d.now spot kind may fits f
