-- The lines of a job that can be written are made of words, and say something.
use Rattle.std.proofs.Common.{◌≡◌, ℕ, zero, suc, ◌≤◌, Bool, true, false, not, eqb, leb, ◌&&◌, List, [], ◌∷◌, ◌++◌, map, length, slice_index, Some, None, Ok, refl, sym, ap, subst, ◌∙◌, arith, inl, inr}
use Rattle.std.specs.Prelude.{ℤ, codes}
use Rattle.std.specs.Fmt.{signed_decimal}
use Rattle.std.specs.List.{AllByRecursion, list_all}
use Rattle.std.proofs.lemmas.Bool.{cases_Bool, and_from, and_parts, leb-true, le-leb, ne_eqb, eqb-true}
use Rattle.std.proofs.lemmas.List.Folds.{list_all-append}
use Rattle.fx_base.specs.declared.names.Op.TheVariants as op
use Rattle.fx_base.specs.declared.names.Role.TheVariants as role
use Rattle.fx_text.specs.Checks.{is_printable}
use Rattle.fx_text.specs.Numbers.{is_digit, is_natural, is_positive, fits_64, natural_in, negative_in, number_in}
use Rattle.fx_text.proofs.NumberLemmas.{number_again}
use Rattle.fx_script.specs.declared.expr.Expr.{Expr}
use Rattle.fx_script.specs.declared.expr.Expr.TheOpen.{Expr-F}
use Rattle.fx_script.specs.declared.expr.Expr.TheViews.{roll-Expr}
use Rattle.fx_script.specs.declared.expr.Expr.TheFolds.{fold-roll-Expr, map-Expr, ind-Expr}
use Rattle.fx_script.specs.declared.job.Callback.{Callback}
use Rattle.fx_script.specs.declared.job.Decl.{Decl}
use Rattle.fx_script.specs.declared.job.Decl.TheVariants as decl
use Rattle.fx_script.specs.declared.job.Event.{Event}
use Rattle.fx_script.specs.declared.job.EventKind.{EventKind}
use Rattle.fx_script.specs.declared.job.EventKind.TheVariants as event
use Rattle.fx_script.specs.declared.job.Job.{Job}
use Rattle.fx_script.specs.declared.job.Picked.{Picked}
use Rattle.fx_script.specs.declared.job.Picked.TheVariants as picked
use Rattle.fx_script.specs.declared.job.Stmt.{Stmt}
use Rattle.fx_script.specs.declared.job.Stmt.TheOpen.{Stmt-F}
use Rattle.fx_script.specs.declared.job.Stmt.TheViews.{roll-Stmt}
use Rattle.fx_script.specs.declared.job.Stmt.TheFolds.{fold-roll-Stmt, map-Stmt, ind-Stmt}
use Rattle.fx_script.specs.declared.job.Test.{Test}
use Rattle.fx_script.specs.declared.job.Test.TheVariants as test
use Rattle.fx_script.specs.Exprs.{words_of_level, expr_words, writable_level, is_writable_expr}
use Rattle.fx_text.specs.Names.{is_letter, is_letter_or_digit, begins_with_letter, is_reserved, is_name}
use Rattle.fx_script.specs.Spelling.{Entry, kept_at, anywhere, test_text, pairs_words, picked_words, event_words, opening, chained, stmt_level, stmt_entries, stmts_entries, decl_entry, callback_entries, event_entry, heading, job_entries, pair_fits, picked_fits, opening_fits, stmt_fits_level, stmt_fits, stmts_fit, decl_fits, callback_fits, event_fits, IsWritable}
use Rattle.fx_script.proofs.CanonLines.{is_word_byte, is_word, is_said}

-- ---- words

-- bytes from the first to the last of a range in which no space stands
in_range : (b low high : ℕ) → 33 ≤ low → high ≤ 126 → leb low b && leb b high ≡ true → is_word_byte b ≡ true
in_range b low high above below e =
    let parts = and_parts (leb low b) (leb b high) e in
    let least = leb-true low b parts.0 in
    let most = leb-true b high parts.1 in
    and_from (is_printable b) (not (eqb b 32)) (and_from (leb 32 b) (leb b 126) (le-leb 32 b (omega arith)) (le-leb b 126 (omega arith))) (rw (ne_eqb b 32 (λ same. absurd (omega arith))) refl)

digit_byte : (b : ℕ) → is_digit b ≡ true → is_word_byte b ≡ true
digit_byte b e = in_range b 48 57 (omega arith) (omega arith) e

letter_byte : (b : ℕ) → is_letter b ≡ true → is_word_byte b ≡ true
letter_byte b e = in_range b 97 122 (omega arith) (omega arith) e

name_byte : (b : ℕ) → is_letter_or_digit b ≡ true → is_word_byte b ≡ true
name_byte b e = elim (cases_Bool (is_letter b)) [
  | inl t ↦ letter_byte b t
  | inr f ↦ let digit : is_digit b ≡ true = rw f at e in digit_byte b digit
]

all_bytes : (p : ℕ → Bool) → ((b : ℕ) → p b ≡ true → is_word_byte b ≡ true) → (bs : List ℕ) → list_all p bs ≡ true → list_all is_word_byte bs ≡ true
all_bytes p each [] all = refl
all_bytes p each (b ∷ bs) all =
    let parts = and_parts (p b) (list_all p bs) all in
    and_from (is_word_byte b) (list_all is_word_byte bs) (each b parts.0) (all_bytes p each bs parts.1)

letters_word : (name : List ℕ) → begins_with_letter name ≡ true → is_word name ≡ true
letters_word [] e = absurd cc
letters_word (b ∷ bs) e =
    let parts = and_parts (is_letter b) (list_all is_letter_or_digit bs) e in
    and_from (is_word_byte b) (list_all is_word_byte bs) (letter_byte b parts.0) (all_bytes is_letter_or_digit name_byte bs parts.1)

name_word : (name : List ℕ) → is_name name ≡ true → is_word name ≡ true
name_word name e =
    let parts = and_parts (begins_with_letter name && leb (length name) 16) (not (is_reserved name)) e in
    letters_word name (and_parts (begins_with_letter name) (leb (length name) 16) parts.0).0

-- digits of a number
digits_word : (bs : List ℕ) → is_natural bs ≡ true → list_all is_word_byte bs ≡ true
digits_word bs e =
    let parts = and_parts (list_all is_digit bs && leb 1 (length bs)) _ e in
    all_bytes is_digit digit_byte bs (and_parts (list_all is_digit bs) (leb 1 (length bs)) parts.0).0

natural_word : (bs : List ℕ) (z : ℤ) → natural_in bs ≡ Ok z → list_all is_word_byte bs ≡ true
natural_word bs z e = elim (cases_Bool (is_natural bs)) [
  | inl t ↦ digits_word bs t
  | inr f ↦ let other = rw f at e in absurd cc
]

negative_word : (bs : List ℕ) (z : ℤ) → negative_in bs ≡ Ok z → list_all is_word_byte bs ≡ true
negative_word bs z e = elim (cases_Bool (is_positive bs)) [
  | inl t ↦ digits_word bs (and_parts (is_natural bs) (not (eqb (slice_index bs 0) 48)) t).0
  | inr f ↦ let other = rw f at e in absurd cc
]

read_word : (bs : List ℕ) (z : ℤ) → number_in bs ≡ Ok z → is_word bs ≡ true
read_word [] z e = absurd cc
read_word (b ∷ bs) z e = elim (cases_Bool (eqb b 45)) [
  | inl t ↦
      let n : negative_in bs ≡ Ok z = rw t at e in
      let minus : is_word_byte b ≡ true = rw (eqb-true b 45 t) refl in
      and_from (is_word_byte b) (list_all is_word_byte bs) minus (negative_word bs z n)
  | inr f ↦ let n : natural_in (b ∷ bs) ≡ Ok z = rw f at e in natural_word (b ∷ bs) z n
]

number_word : (n : ℤ) → fits_64 n ≡ true → is_word (signed_decimal n) ≡ true
number_word n fits = read_word (signed_decimal n) n (number_again n fits)

-- ---- lists of words

abbrev AreWords : List (List ℕ) → Type 0
AreWords ws = list_all is_word ws ≡ true

more : (w : List ℕ) (ws : List (List ℕ)) → is_word w ≡ true → AreWords ws → AreWords (w ∷ ws)
more w ws first rest = and_from (is_word w) (list_all is_word ws) first rest

one : (w : List ℕ) → is_word w ≡ true → AreWords (w ∷ [])
one w first = more w [] first refl

joined : (a b : List (List ℕ)) → AreWords a → AreWords b → AreWords (a ++ b)
joined a b first second = list_all-append is_word a b ∙ and_from (list_all is_word a) (list_all is_word b) first second

numbers_two : (a b : ℤ) → fits_64 a && fits_64 b ≡ true → AreWords (signed_decimal a ∷ signed_decimal b ∷ [])
numbers_two a b fits =
    let p = and_parts (fits_64 a) (fits_64 b) fits in
    more (signed_decimal a) (signed_decimal b ∷ []) (number_word a p.0) (one (signed_decimal b) (number_word b p.1))

-- ---- expressions

abbrev IsFineExpr : Expr → Type 0
IsFineExpr e = is_writable_expr e ≡ true → AreWords (expr_words e)

abbrev FineExpr : Type 0
FineExpr = (e : Expr) × IsFineExpr e

abbrev bare_expr : Expr-F FineExpr → Expr-F Expr
bare_expr y = map-Expr FineExpr Expr (λ t. t.0) y

expr_level : (y : Expr-F FineExpr) → writable_level (map-Expr Expr Bool is_writable_expr (bare_expr y)) ≡ true → AreWords (words_of_level (map-Expr Expr (List (List ℕ)) expr_words (bare_expr y)))
expr_level (Expr-F.Number n) fits = one (signed_decimal n) (number_word n fits)
expr_level (Expr-F.Name name) fits = one name (name_word name fits)
expr_level Expr-F.Index fits = refl
expr_level Expr-F.Rank fits = refl
expr_level Expr-F.Size fits = refl
expr_level (Expr-F.Latest group) fits = one (signed_decimal group) (number_word group fits)
expr_level (Expr-F.Add a b) fits = let p = and_parts (is_writable_expr a.0) (is_writable_expr b.0) fits in joined (expr_words a.0) (expr_words b.0) (a.1 p.0) (b.1 p.1)
expr_level (Expr-F.Sub a b) fits = let p = and_parts (is_writable_expr a.0) (is_writable_expr b.0) fits in joined (expr_words a.0) (expr_words b.0) (a.1 p.0) (b.1 p.1)
expr_level (Expr-F.Mul a b) fits = let p = and_parts (is_writable_expr a.0) (is_writable_expr b.0) fits in joined (expr_words a.0) (expr_words b.0) (a.1 p.0) (b.1 p.1)

expr_rolled : (y : Expr-F FineExpr) → IsFineExpr (roll-Expr (bare_expr y))
expr_rolled y fits =
    let x = bare_expr y in
    let level = expr_level y (sym (fold-roll-Expr Bool writable_level x) ∙ fits) in
    subst (λ (ws : List (List ℕ)). AreWords ws) (sym (fold-roll-Expr (List (List ℕ)) words_of_level x)) level

expr_fine : (e : Expr) → IsFineExpr e
expr_fine = ind-Expr IsFineExpr (λ x y is. subst (λ x. IsFineExpr (roll-Expr x)) is (expr_rolled y))

-- ---- subsets

pairs_fine : (ps : List (ℤ × ℤ)) → list_all pair_fits ps ≡ true → AreWords (pairs_words ps)
pairs_fine [] all = refl
pairs_fine (p ∷ ps) all =
    let parts = and_parts (pair_fits p) (list_all pair_fits ps) all in
    let two = and_parts (fits_64 p.0) (fits_64 p.1) parts.0 in
    more (signed_decimal p.0) (signed_decimal p.1 ∷ pairs_words ps) (number_word p.0 two.0) (more (signed_decimal p.1) (pairs_words ps) (number_word p.1 two.1) (pairs_fine ps parts.1))

picked_fine : (p : Picked) → picked_fits p ≡ true → AreWords (picked_words p)
picked_fine picked.Full fits = refl
picked_fine picked.Empty fits = refl
picked_fine (picked.Strided blocks start end stride) fits =
    let a = and_parts (fits_64 blocks && fits_64 start && fits_64 end) (fits_64 stride) fits in
    let b = and_parts (fits_64 blocks && fits_64 start) (fits_64 end) a.0 in
    let last = numbers_two end stride (and_from (fits_64 end) (fits_64 stride) b.1 a.1) in
    joined (signed_decimal blocks ∷ signed_decimal start ∷ []) (signed_decimal end ∷ signed_decimal stride ∷ []) (numbers_two blocks start b.0) last
picked_fine (picked.Ranges pairs) fits =
    let a = and_parts (list_all pair_fits pairs && leb 1 (length pairs)) (leb (length pairs) 16) fits in
    pairs_fine pairs (and_parts (list_all pair_fits pairs) (leb 1 (length pairs)) a.0).0

-- ---- lines

-- a line of words that says something
pub record IsFineLine (line : List (List ℕ)) : Type 0 where
  pub words : list_all is_word line ≡ true
  pub said : is_said line ≡ true

abbrev pub AreFine : List Entry → Type 0
AreFine es = AllByRecursion (λ e. IsFineLine e.words) es

fine_both : (es fs : List Entry) → AreFine es → AreFine fs → AreFine (es ++ fs)
fine_both [] fs first second = second
fine_both (e ∷ es) fs first second = (first.0, fine_both es fs first.1 second)

said_so : (ws : List (List ℕ)) → AreWords ws → is_said ws ≡ true → IsFineLine ws
said_so ws fine said = record { words = fine; said = said }

names_two : (a b : List ℕ) → is_name a && is_name b ≡ true → AreWords (a ∷ b ∷ [])
names_two a b fits = let p = and_parts (is_name a) (is_name b) fits in more a (b ∷ []) (name_word a p.0) (one b (name_word b p.1))

test_word : (t : Test) → is_word (test_text t) ≡ true
test_word test.Lt = refl
test_word test.Le = refl
test_word test.Eq = refl

opening_fine : {X : Type 0} (x : Stmt-F X) → opening_fits x ≡ true → IsFineLine (opening x).words
opening_fine (Stmt-F.Let spot array value) fits =
    let p = and_parts (is_name array) (is_writable_expr value) fits in
    said_so _ (more array (expr_words value) (name_word array p.0) (expr_fine value p.1)) refl
opening_fine (Stmt-F.Set spot counter value) fits =
    let p = and_parts (is_name counter) (is_writable_expr value) fits in
    said_so _ (more counter (expr_words value) (name_word counter p.0) (expr_fine value p.1)) refl
opening_fine (Stmt-F.Print spot name) fits = said_so _ (one name (name_word name fits)) refl
opening_fine (Stmt-F.Register spot name) fits = said_so _ (one name (name_word name fits)) refl
opening_fine (Stmt-F.RoleOnly spot role.Initial body) fits = said_so _ refl refl
opening_fine (Stmt-F.RoleOnly spot role.Survivor body) fits = said_so _ refl refl
opening_fine (Stmt-F.RoleOnly spot role.Recovered body) fits = said_so _ refl refl
opening_fine (Stmt-F.Branch spot t left right body other) fits =
    let p = and_parts (is_writable_expr left) (is_writable_expr right) fits in
    said_so _ (more (test_text t) (expr_words left ++ expr_words right) (test_word t) (joined (expr_words left) (expr_words right) (expr_fine left p.0) (expr_fine right p.1))) refl
opening_fine (Stmt-F.Loop spot counter first last body) fits =
    let a = and_parts (is_name counter && is_writable_expr first) (fits_64 last) fits in
    let p = and_parts (is_name counter) (is_writable_expr first) a.0 in
    said_so _ (more counter (expr_words first ++ signed_decimal last ∷ []) (name_word counter p.0) (joined (expr_words first) (signed_decimal last ∷ []) (expr_fine first p.1) (one (signed_decimal last) (number_word last a.1)))) refl
opening_fine (Stmt-F.Barrier spot) fits = said_so _ refl refl
opening_fine (Stmt-F.Reduce spot op.Sum counter array) fits = said_so _ (names_two counter array fits) refl
opening_fine (Stmt-F.Reduce spot op.Min counter array) fits = said_so _ (names_two counter array fits) refl
opening_fine (Stmt-F.Reduce spot op.Max counter array) fits = said_so _ (names_two counter array fits) refl
opening_fine (Stmt-F.Agree spot counter array index) fits =
    let a = and_parts (is_name counter && is_name array) (fits_64 index) fits in
    said_so _ (joined (counter ∷ array ∷ []) (signed_decimal index ∷ []) (names_two counter array a.0) (one (signed_decimal index) (number_word index a.1))) refl
opening_fine (Stmt-F.Shift spot source target by) fits =
    let a = and_parts (is_name source && is_name target) (fits_64 by) fits in
    said_so _ (joined (source ∷ target ∷ []) (signed_decimal by ∷ []) (names_two source target a.0) (one (signed_decimal by) (number_word by a.1))) refl
opening_fine (Stmt-F.Group spot group start depth) fits =
    let a = and_parts (fits_64 group && fits_64 start) (fits_64 depth) fits in
    said_so _ (joined (signed_decimal group ∷ signed_decimal start ∷ []) (signed_decimal depth ∷ []) (numbers_two group start a.0) (one (signed_decimal depth) (number_word depth a.1))) refl
opening_fine (Stmt-F.Member spot group member array) fits =
    let a = and_parts (fits_64 group && fits_64 member) (is_name array) fits in
    said_so _ (joined (signed_decimal group ∷ signed_decimal member ∷ []) (array ∷ []) (numbers_two group member a.0) (one array (name_word array a.1))) refl
opening_fine (Stmt-F.Store spot group member subset) fits =
    let a = and_parts (fits_64 group && fits_64 member) (picked_fits subset) fits in
    said_so _ (joined (signed_decimal group ∷ signed_decimal member ∷ []) (picked_words subset) (numbers_two group member a.0) (picked_fine subset a.1)) refl
opening_fine (Stmt-F.Commit spot group) fits = said_so _ (one (signed_decimal group) (number_word group fits)) refl
opening_fine (Stmt-F.CommitBarrier spot group) fits = said_so _ (one (signed_decimal group) (number_word group fits)) refl
opening_fine (Stmt-F.Restore spot group member stamp) fits =
    let a = and_parts (fits_64 group && fits_64 member) (is_writable_expr stamp) fits in
    said_so _ (joined (signed_decimal group ∷ signed_decimal member ∷ []) (expr_words stamp) (numbers_two group member a.0) (expr_fine stamp a.1)) refl
opening_fine (Stmt-F.Drop spot group stamp) fits =
    let a = and_parts (fits_64 group) (is_writable_expr stamp) fits in
    said_so _ (more (signed_decimal group) (expr_words stamp) (number_word group a.0) (expr_fine stamp a.1)) refl

-- ---- statements

abbrev IsFineStmt : Stmt → Type 0
IsFineStmt s = (room : ℕ) → stmt_fits s room ≡ true → AreFine (stmt_entries s)

abbrev FineStmt : Type 0
FineStmt = (s : Stmt) × IsFineStmt s

abbrev bare_stmt : Stmt-F FineStmt → Stmt-F Stmt
bare_stmt y = map-Stmt FineStmt Stmt (λ t. t.0) y

list_fine : (ts : List FineStmt) (room : ℕ) → list_all (λ (fits : ℕ → Bool). fits room) (map stmt_fits (map (λ t. t.0) ts)) ≡ true → AreFine (stmts_entries (map (λ t. t.0) ts))
list_fine [] room all = tt
list_fine (t ∷ ts) room all =
    let rest = map (λ (t : FineStmt). t.0) ts in
    let p = and_parts (stmt_fits t.0 room) (list_all (λ (fits : ℕ → Bool). fits room) (map stmt_fits rest)) all in
    fine_both (stmt_entries t.0) (stmts_entries rest) (t.1 room p.0) (list_fine ts room p.1)

last_fine : (es : List Entry) (word : List ℕ) → AreFine es → IsFineLine (word ∷ []) → AreFine (es ++ anywhere word ∷ [])
last_fine es word fine last = fine_both es (anywhere word ∷ []) fine (last, tt)

stmt_level_fine : (y : Stmt-F FineStmt) (room : ℕ) → stmt_fits_level (map-Stmt Stmt (ℕ → Bool) stmt_fits (bare_stmt y)) room ≡ true → AreFine (stmt_level (map-Stmt Stmt (List Entry) stmt_entries (bare_stmt y)))
stmt_level_fine (Stmt-F.RoleOnly spot role ts) zero fits = absurd cc
stmt_level_fine (Stmt-F.RoleOnly spot role ts) (suc room) fits =
    let body = map (λ (t : FineStmt). t.0) ts in
    (opening_fine (Stmt-F.RoleOnly spot role ts) refl, last_fine (stmts_entries body) (codes "endwhen") (list_fine ts room fits) (said_so _ refl refl))
stmt_level_fine (Stmt-F.Loop spot counter first last ts) zero fits = let free = (and_parts (is_name counter && is_writable_expr first && fits_64 last) false fits).1 in absurd cc
stmt_level_fine (Stmt-F.Loop spot counter first last ts) (suc room) fits =
    let body = map (λ (t : FineStmt). t.0) ts in
    let p = and_parts (is_name counter && is_writable_expr first && fits_64 last) (list_all (λ (f : ℕ → Bool). f room) (map stmt_fits body)) fits in
    (opening_fine (Stmt-F.Loop spot counter first last ts) p.0, last_fine (stmts_entries body) (codes "endfor") (list_fine ts room p.1) (said_so _ refl refl))
stmt_level_fine (Stmt-F.Branch spot test left right ts None) zero fits = let free = (and_parts (is_writable_expr left && is_writable_expr right) false fits).1 in absurd cc
stmt_level_fine (Stmt-F.Branch spot test left right ts (Some us)) zero fits = let free = (and_parts (is_writable_expr left && is_writable_expr right) false fits).1 in absurd cc
stmt_level_fine (Stmt-F.Branch spot test left right ts None) (suc room) fits =
    let body = map (λ (t : FineStmt). t.0) ts in
    let all = list_all (λ (f : ℕ → Bool). f room) (map stmt_fits body) in
    let p = and_parts (is_writable_expr left && is_writable_expr right) (all && true) fits in
    let inside = (and_parts all true p.1).0 in
    (opening_fine (Stmt-F.Branch spot test left right ts None) p.0, last_fine (stmts_entries body ++ []) (codes "endif") (fine_both (stmts_entries body) [] (list_fine ts room inside) tt) (said_so _ refl refl))
stmt_level_fine (Stmt-F.Branch spot test left right ts (Some us)) (suc room) fits =
    let body = map (λ (t : FineStmt). t.0) ts in
    let other = map (λ (t : FineStmt). t.0) us in
    let all = list_all (λ (f : ℕ → Bool). f room) (map stmt_fits body) in
    let others = list_all (λ (f : ℕ → Bool). f room) (map stmt_fits other) in
    let p = and_parts (is_writable_expr left && is_writable_expr right) (all && others) fits in
    let inside = and_parts all others p.1 in
    let behind = anywhere (codes "else") ∷ stmts_entries other in (
      opening_fine (Stmt-F.Branch spot test left right ts (Some us)) p.0,
      last_fine (stmts_entries body ++ behind) (codes "endif") (fine_both (stmts_entries body) behind (list_fine ts room inside.0) (said_so _ refl refl, list_fine us room inside.1)) (said_so _ refl refl),
    )
stmt_level_fine y room fits = (opening_fine y (and_parts (opening_fits y) true fits).0, tt)

stmt_rolled : (y : Stmt-F FineStmt) → IsFineStmt (roll-Stmt (bare_stmt y))
stmt_rolled y room fits =
    let x = bare_stmt y in
    let level = stmt_level_fine y room (sym (ap (λ (f : ℕ → Bool). f room) (fold-roll-Stmt (ℕ → Bool) stmt_fits_level x)) ∙ fits) in
    subst AreFine (sym (fold-roll-Stmt (List Entry) stmt_level x)) level

stmt_fine : (s : Stmt) → IsFineStmt s
stmt_fine = ind-Stmt IsFineStmt (λ x y is. subst (λ x. IsFineStmt (roll-Stmt x)) is (stmt_rolled y))

stmts_fine : (ss : List Stmt) (room : ℕ) → stmts_fit ss room ≡ true → AreFine (stmts_entries ss)
stmts_fine [] room all = tt
stmts_fine (s ∷ ss) room all =
    let p = and_parts (stmt_fits s room) (stmts_fit ss room) all in
    fine_both (stmt_entries s) (stmts_entries ss) (stmt_fine s room p.0) (stmts_fine ss room p.1)

-- ---- the other parts of a job

decls_fine : (ds : List Decl) → list_all decl_fits ds ≡ true → AreFine (map decl_entry ds)
decls_fine [] all = tt
decls_fine (decl.Array spot name len ∷ ds) all =
    let p = and_parts (is_name name && fits_64 len) (list_all decl_fits ds) all in
    let q = and_parts (is_name name) (fits_64 len) p.0 in
    (said_so _ (more name (signed_decimal len ∷ []) (name_word name q.0) (one (signed_decimal len) (number_word len q.1))) refl, decls_fine ds p.1)
decls_fine (decl.Counter spot name ∷ ds) all =
    let p = and_parts (is_name name) (list_all decl_fits ds) all in
    (said_so _ (one name (name_word name p.0)) refl, decls_fine ds p.1)

callbacks_fine : (cs : List Callback) → list_all callback_fits cs ≡ true → AreFine (chained (map callback_entries cs))
callbacks_fine [] all = tt
callbacks_fine (c ∷ cs) all =
    let p = and_parts (callback_fits c) (list_all callback_fits cs) all in
    let q = and_parts (is_name c.name) (stmts_fit c.body 64) p.0 in
    fine_both (callback_entries c) (chained (map callback_entries cs))
    (said_so _ (one c.name (name_word c.name q.0)) refl, last_fine (stmts_entries c.body) (codes "endcallback") (stmts_fine c.body 64 q.1) (said_so _ refl refl))
    (callbacks_fine cs p.1)

event_fine : (kind : EventKind) → event_fits kind ≡ true → IsFineLine (event_words kind)
event_fine (event.Step p) fits = said_so _ (one (signed_decimal p) (number_word p fits)) refl
event_fine (event.Rest p) fits = said_so _ (one (signed_decimal p) (number_word p fits)) refl
event_fine (event.Deliver from to) fits = said_so _ (numbers_two from to fits) refl
event_fine (event.Kill p) fits = said_so _ (one (signed_decimal p) (number_word p fits)) refl
event_fine (event.Notice lost to) fits = said_so _ (numbers_two lost to fits) refl
event_fine (event.Run rounds) fits = said_so _ (one (signed_decimal rounds) (number_word rounds fits)) refl

events_fine : (es : List Event) → list_all (λ e. event_fits e.kind) es ≡ true → AreFine (map event_entry es)
events_fine [] all = tt
events_fine (e ∷ es) all =
    let p = and_parts (event_fits e.kind) (list_all (λ (e : Event). event_fits e.kind) es) all in
    (event_fine e.kind p.0, events_fine es p.1)

heading_fine : (job : Job) → IsWritable job → AreFine (heading job)
heading_fine job w = (
  said_so _ refl refl,
  (
    said_so _ (one (signed_decimal job.ranks) (number_word job.ranks w.ranks)) refl,
    (said_so _ (one (signed_decimal job.spares) (number_word job.spares w.spares)) refl, (said_so _ (one (signed_decimal job.separation) (number_word job.separation w.separation)) refl, tt)),
  ),
)

pub job_fine : (job : Job) → IsWritable job → AreFine (job_entries job)
job_fine job w =
    let begin_line = kept_at job.begin_spot (codes "begin" ∷ []) ∷ [] in
    let middle = anywhere (codes "end") ∷ anywhere (codes "schedule") ∷ [] in
    let e1 = heading job in
    let e2 = e1 ++ map decl_entry job.names in
    let e3 = e2 ++ chained (map callback_entries job.callbacks) in
    let e4 = e3 ++ begin_line in
    let e5 = e4 ++ stmts_entries job.body in
    let e6 = e5 ++ middle in
    let f2 = fine_both e1 (map decl_entry job.names) (heading_fine job w) (decls_fine job.names w.names) in
    let f3 = fine_both e2 (chained (map callback_entries job.callbacks)) f2 (callbacks_fine job.callbacks w.callbacks) in
    let f4 = fine_both e3 begin_line f3 (said_so _ refl refl, tt) in
    let f5 = fine_both e4 (stmts_entries job.body) f4 (stmts_fine job.body 64 w.body) in
    let f6 = fine_both e5 middle f5 (said_so _ refl refl, (said_so _ refl refl, tt)) in
    let f7 = fine_both e6 (map event_entry job.events) f6 (events_fine job.events w.events) in
    last_fine (e6 ++ map event_entry job.events) (codes "stop") f7 (said_so _ refl refl)
