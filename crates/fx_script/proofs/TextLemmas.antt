-- The text of each kind of block, and what is written of it line by line.
use Rattle.std.proofs.Common.{◌≡◌, ℕ, suc, ◌+◌, ◌<◌, List, [], ◌∷◌, ◌++◌, length, get_or, drop, Some, None, sym, ap, ◌∙◌, append_assoc, add-one, drop-cons}
use Rattle.std.specs.Prelude.{ℤ, codes}
use Rattle.std.specs.Fmt.{signed_decimal}
use Rattle.std.proofs.lemmas.List.{append-nil}
use Rattle.fx_base.specs.declared.names.Role.{Role}
use Rattle.fx_base.specs.declared.spot.Spot.{Spot}
use Rattle.fx_script.specs.declared.expr.Expr.{Expr}
use Rattle.fx_script.specs.declared.job.Stmt.{Stmt}
use Rattle.fx_script.specs.declared.job.Stmt.TheVariants as stmt
use Rattle.fx_script.specs.declared.job.Stmt.TheOpen.{Stmt-F}
use Rattle.fx_script.specs.declared.job.Test.{Test}
use Rattle.fx_script.specs.Canonical.{line_of_words, entry_line, text_of}
use Rattle.fx_script.specs.Exprs.{expr_words}
use Rattle.fx_script.specs.Spelling.{Entry, kept_at, anywhere, role_text, test_text, stmt_entries, stmts_entries}
use Rattle.fx_script.proofs.PrintLemmas.{text_append}
use Rattle.fx_script.proofs.SimpleLemmas.{stmt_spelling}

-- a line with its line end
abbrev pub ended : List (List ℕ) → List ℕ
ended words = line_of_words words ++ 10 ∷ []

-- ---- texts

-- lines with one before and one behind
pub block_text : (first : Entry) (body : List Entry) (last : Entry) → text_of (first ∷ (body ++ last ∷ [])) ≡ entry_line first ++ (text_of body ++ entry_line last)
block_text first body last =
    ap (λ (l : List ℕ). entry_line first ++ l) (text_append body (last ∷ []) ∙ ap (λ (l : List ℕ). text_of body ++ l) (append-nil (entry_line last)))

pub commit_barrier_text : (spot : Spot) (group : ℤ) → text_of (stmt_entries (stmt.CommitBarrier spot group)) ≡ ended (codes "commitbarrier" ∷ signed_decimal group ∷ [])
commit_barrier_text spot group =
    ap text_of (stmt_spelling (Stmt-F.CommitBarrier spot group) (stmt.CommitBarrier spot group) (stmt.rolls-CommitBarrier spot group))
    ∙ append-nil (ended (codes "commitbarrier" ∷ signed_decimal group ∷ []))

pub when_text : (spot : Spot) (role : Role) (body : List Stmt)
    → text_of (stmt_entries (stmt.RoleOnly spot role body)) ≡ ended (codes "when" ∷ role_text role ∷ []) ++ (text_of (stmts_entries body) ++ ended (codes "endwhen" ∷ []))
when_text spot role body =
    ap text_of (stmt_spelling (Stmt-F.RoleOnly spot role body) (stmt.RoleOnly spot role body) (stmt.rolls-RoleOnly spot role body))
    ∙ block_text (kept_at spot (codes "when" ∷ role_text role ∷ [])) (stmts_entries body) (anywhere (codes "endwhen"))

abbrev pub for_words : List ℕ → Expr → ℤ → List (List ℕ)
for_words counter first last = codes "for" ∷ counter ∷ (expr_words first ++ signed_decimal last ∷ [])

pub for_text : (spot : Spot) (counter : List ℕ) (first : Expr) (last : ℤ) (body : List Stmt)
    → text_of (stmt_entries (stmt.Loop spot counter first last body)) ≡ ended (for_words counter first last) ++ (text_of (stmts_entries body) ++ ended (codes "endfor" ∷ []))
for_text spot counter first last body =
    ap text_of (stmt_spelling (Stmt-F.Loop spot counter first last body) (stmt.Loop spot counter first last body) (stmt.rolls-Loop spot counter first last body))
    ∙ block_text (kept_at spot (for_words counter first last)) (stmts_entries body) (anywhere (codes "endfor"))

abbrev pub if_words : Test → Expr → Expr → List (List ℕ)
if_words test left right = codes "if" ∷ test_text test ∷ (expr_words left ++ expr_words right)

pub if_text : (spot : Spot) (test : Test) (left right : Expr) (body : List Stmt)
    → text_of (stmt_entries (stmt.Branch spot test left right body None)) ≡ ended (if_words test left right) ++ (text_of (stmts_entries body) ++ ended (codes "endif" ∷ []))
if_text spot test left right body =
    ap text_of (stmt_spelling (Stmt-F.Branch spot test left right body None) (stmt.Branch spot test left right body None) (stmt.rolls-Branch spot test left right body None))
    ∙ block_text (kept_at spot (if_words test left right)) (stmts_entries body ++ []) (anywhere (codes "endif"))
    ∙ ap (λ (l : List Entry). ended (if_words test left right) ++ (text_of l ++ ended (codes "endif" ∷ []))) (append-nil (stmts_entries body))

halves : (a b c d : List ℕ) → (a ++ (b ++ c)) ++ d ≡ (a ++ b) ++ (c ++ d)
halves a b c d = ap (λ (l : List ℕ). l ++ d) (sym (append_assoc a b c)) ∙ append_assoc (a ++ b) c d

pub if_else_text : (spot : Spot) (test : Test) (left right : Expr) (body other : List Stmt)
    → text_of (stmt_entries (stmt.Branch spot test left right body (Some other)))
    ≡ ended (if_words test left right) ++ ((text_of (stmts_entries body) ++ ended (codes "else" ∷ [])) ++ (text_of (stmts_entries other) ++ ended (codes "endif" ∷ [])))
if_else_text spot test left right body other =
    ap text_of (stmt_spelling (Stmt-F.Branch spot test left right body (Some other)) (stmt.Branch spot test left right body (Some other)) (stmt.rolls-Branch spot test left right body (Some other)))
    ∙ block_text (kept_at spot (if_words test left right)) (stmts_entries body ++ anywhere (codes "else") ∷ stmts_entries other) (anywhere (codes "endif"))
    ∙ ap (λ (l : List ℕ). ended (if_words test left right) ++ (l ++ ended (codes "endif" ∷ []))) (text_append (stmts_entries body) (anywhere (codes "else") ∷ stmts_entries other))
    ∙ ap (λ (l : List ℕ). ended (if_words test left right) ++ l)
    (halves (text_of (stmts_entries body)) (ended (codes "else" ∷ [])) (text_of (stmts_entries other)) (ended (codes "endif" ∷ [])))

-- the text from a statement on begins with its own
pub stmts_from : (stmts : List Stmt) (k : ℕ) (s : Stmt) → k < length stmts → s ≡ get_or stmts k s →
    text_of (stmts_entries (drop k stmts)) ≡ text_of (stmt_entries s) ++ text_of (stmts_entries (drop (k + 1) stmts))
stmts_from stmts k s below is =
    ap (λ (ss : List Stmt). text_of (stmts_entries ss)) (drop-cons stmts k s below)
    ∙ rw (← is, add-one) (text_append (stmt_entries s) (stmts_entries (drop (suc k) stmts)))

-- ---- what is written

-- a first line and what is behind
pub in_two : (start first rest one : List ℕ) → one ≡ start ++ first → one ++ rest ≡ start ++ (first ++ rest)
in_two start first rest one p = ap (λ (l : List ℕ). l ++ rest) p ∙ append_assoc start first rest

-- a first line, what is inside and a last line
pub in_three : (start first inner last one two : List ℕ) → one ≡ start ++ first → two ≡ one ++ inner → two ++ last ≡ start ++ (first ++ (inner ++ last))
in_three start first inner last one two p q = rw (q, p) (append_assoc (start ++ first) inner last ∙ append_assoc start first (inner ++ last))

-- a piece that is written is no more left
pub goes_on : (out next piece rest left whole : List ℕ) → next ≡ out ++ piece → left ≡ piece ++ rest → out ++ left ≡ whole → next ++ rest ≡ whole
goes_on out next piece rest left whole p q r = ap (λ (l : List ℕ). l ++ rest) p ∙ append_assoc out piece rest ∙ ap (λ (l : List ℕ). out ++ l) (sym q) ∙ r
