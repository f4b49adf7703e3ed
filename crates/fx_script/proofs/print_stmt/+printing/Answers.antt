use Rattle.std.proofs.Common.{◌≡◌, [], ◌∷◌, ◌++◌, ◌+◌, ℕ, List, OnOk, codes, drop, ℤ, subst, ap, sym, ◌∙◌, w64, to_z, of_z, rules}
use Rattle.std.specs.Fmt.{signed_decimal}
use Rattle.fx_script.specs.Canonical.{text_of}
use Rattle.fx_script.specs.Spelling.{stmt_entries, stmts_entries}
use Rattle.fx_script.proofs.TextLemmas.{ended, if_words, for_words, commit_barrier_text, when_text, for_text, if_text, if_else_text, stmts_from, in_two, in_three, goes_on}
use Rattle.fx_script.proofs.print_stmt.+printing.Goals as goal

pub put_stmts-loop-stmt-preserved : goal.put_stmts-loop-stmt-preserved
put_stmts-loop-stmt-preserved t c =
    goes_on c.loop-stmt.out c.put_stmt.new.out (text_of (stmt_entries c.stmt-item.result)) (text_of (stmts_entries (drop (c.loop-stmt.stmt-index + 1) c.args.stmts.now)))
    (text_of (stmts_entries (drop c.loop-stmt.stmt-index c.args.stmts.now))) (c.args.out.now ++ text_of (stmts_entries c.args.stmts.now))
    c.in_ok-put_stmt.ensures
    (stmts_from c.args.stmts.now c.loop-stmt.stmt-index c.stmt-item.result c.loop-stmt-test.true c.stmt-item.is)
    c.loop-stmt.invariant

pub put_block-returns : goal.put_block-returns
put_block-returns t c =
    subst (λ (text : List ℕ). OnOk c.put_bare.result (c.put_bare.new.out ≡ text))
    (in_two c.args.out.now (text_of (stmts_entries c.args.body.now)) (ended (c.args.last.now ∷ [])) c.put_stmts.new.out c.in_ok-put_stmts.ensures)
    c.put_bare.ensures

pub put_stmt-returns-in-CommitBarrier : goal.put_stmt-returns-in-CommitBarrier
put_stmt-returns-in-CommitBarrier t c =
    let same : to_z w64 (of_z w64 c.in-CommitBarrier.group) ≡ c.in-CommitBarrier.group = search rules in
    let whole : text_of (stmt_entries c.args.stmt.now) ≡ ended (codes "commitbarrier" ∷ signed_decimal c.in-CommitBarrier.group ∷ []) =
    rw c.in-CommitBarrier.is (commit_barrier_text c.in-CommitBarrier.spot c.in-CommitBarrier.group) in
    let e : c.args.out.now ++ ended (codes "commitbarrier" ∷ signed_decimal (to_z w64 (of_z w64 c.in-CommitBarrier.group)) ∷ []) ≡ c.args.out.now ++ text_of (stmt_entries c.args.stmt.now) =
    ap (λ (n : ℤ). c.args.out.now ++ ended (codes "commitbarrier" ∷ signed_decimal n ∷ [])) same
    ∙ ap (λ (l : List ℕ). c.args.out.now ++ l) (sym whole) in
    subst (λ (text : List ℕ). OnOk c.put_numbered-in-CommitBarrier.result (c.put_numbered-in-CommitBarrier.new.out ≡ text)) e c.put_numbered-in-CommitBarrier.ensures

pub put_stmt-returns-in_ok-put_named-in-RoleOnly : goal.put_stmt-returns-in_ok-put_named-in-RoleOnly
put_stmt-returns-in_ok-put_named-in-RoleOnly t c =
    let first = ended (codes "when" ∷ c.role_text.result.now ∷ []) in
    let rest = text_of (stmts_entries c.as_slice-in-RoleOnly.result.now) ++ ended (codes "endwhen" ∷ []) in
    let whole : text_of (stmt_entries c.args.stmt.now) ≡ first ++ rest =
    rw (c.in-RoleOnly.is, c.role_text.ensures, c.as_slice-in-RoleOnly.ensures) (when_text c.in-RoleOnly.spot c.in-RoleOnly.role c.in-RoleOnly.body) in
    let e : c.put_named-in-RoleOnly.new.out ++ rest ≡ c.args.out.now ++ text_of (stmt_entries c.args.stmt.now) =
    in_two c.args.out.now first rest c.put_named-in-RoleOnly.new.out c.in_ok-put_named-in-RoleOnly.ensures
    ∙ ap (λ (l : List ℕ). c.args.out.now ++ l) (sym whole) in
    subst (λ (text : List ℕ). OnOk c.put_block.result (c.put_block.new.out ≡ text)) e c.put_block.ensures

pub put_stmt-returns-in-None : goal.put_stmt-returns-in-None
put_stmt-returns-in-None t c =
    let first = ended (if_words c.in-Branch.test c.in-Branch.left c.in-Branch.right) in
    let rest = text_of (stmts_entries c.as_slice-in-None.result.now) ++ ended (codes "endif" ∷ []) in
    let whole : text_of (stmt_entries c.args.stmt.now) ≡ first ++ rest =
    rw (c.in-Branch.is, c.in-None.is, c.as_slice-in-None.ensures) (if_text c.in-Branch.spot c.in-Branch.test c.in-Branch.left c.in-Branch.right c.in-Branch.yes) in
    let e : c.put_if.new.out ++ rest ≡ c.args.out.now ++ text_of (stmt_entries c.args.stmt.now) =
    in_two c.args.out.now first rest c.put_if.new.out c.in_ok-put_if-in-Branch.ensures
    ∙ ap (λ (l : List ℕ). c.args.out.now ++ l) (sym whole) in
    subst (λ (text : List ℕ). OnOk c.put_block-in-None.result (c.put_block-in-None.new.out ≡ text)) e c.put_block-in-None.ensures

pub put_stmt-returns-in_ok-put_block-in-Some : goal.put_stmt-returns-in_ok-put_block-in-Some
put_stmt-returns-in_ok-put_block-in-Some t c =
    let first = ended (if_words c.in-Branch.test c.in-Branch.left c.in-Branch.right) in
    let inner = text_of (stmts_entries c.as_slice-in-Some.result.now) ++ ended (codes "else" ∷ []) in
    let rest = text_of (stmts_entries c.as_slice-in-Some-2.result.now) ++ ended (codes "endif" ∷ []) in
    let whole : text_of (stmt_entries c.args.stmt.now) ≡ first ++ (inner ++ rest) =
    rw (c.in-Branch.is, c.in-Some.is, c.as_slice-in-Some.ensures, c.as_slice-in-Some-2.ensures)
    (if_else_text c.in-Branch.spot c.in-Branch.test c.in-Branch.left c.in-Branch.right c.in-Branch.yes c.in-Some.no) in
    let e : c.put_block-in-Some.new.out ++ rest ≡ c.args.out.now ++ text_of (stmt_entries c.args.stmt.now) =
    in_three c.args.out.now first inner rest c.put_if.new.out c.put_block-in-Some.new.out c.in_ok-put_if-in-Branch.ensures c.in_ok-put_block-in-Some.ensures
    ∙ ap (λ (l : List ℕ). c.args.out.now ++ l) (sym whole) in
    subst (λ (text : List ℕ). OnOk c.put_block-in-Some-2.result (c.put_block-in-Some-2.new.out ≡ text)) e c.put_block-in-Some-2.ensures

pub put_stmt-returns-in_ok-put_for-in-Loop : goal.put_stmt-returns-in_ok-put_for-in-Loop
put_stmt-returns-in_ok-put_for-in-Loop t c =
    let first = ended (for_words c.in-Loop.counter c.in-Loop.first c.in-Loop.last) in
    let rest = text_of (stmts_entries c.as_slice-in-Loop-2.result.now) ++ ended (codes "endfor" ∷ []) in
    let same : to_z w64 (of_z w64 c.in-Loop.last) ≡ c.in-Loop.last = search rules in
    let opened : c.put_for.new.out ≡ c.args.out.now ++ first =
    c.in_ok-put_for-in-Loop.ensures
    ∙ ap (λ (l : List ℕ). c.args.out.now ++ ended (for_words l c.in-Loop.first (to_z w64 (of_z w64 c.in-Loop.last)))) c.as_slice-in-Loop.ensures
    ∙ ap (λ (n : ℤ). c.args.out.now ++ ended (for_words c.in-Loop.counter c.in-Loop.first n)) same in
    let whole : text_of (stmt_entries c.args.stmt.now) ≡ first ++ rest =
    rw (c.in-Loop.is, c.as_slice-in-Loop-2.ensures) (for_text c.in-Loop.spot c.in-Loop.counter c.in-Loop.first c.in-Loop.last c.in-Loop.body) in
    let e : c.put_for.new.out ++ rest ≡ c.args.out.now ++ text_of (stmt_entries c.args.stmt.now) =
    in_two c.args.out.now first rest c.put_for.new.out opened
    ∙ ap (λ (l : List ℕ). c.args.out.now ++ l) (sym whole) in
    subst (λ (text : List ℕ). OnOk c.put_block-in-Loop.result (c.put_block-in-Loop.new.out ≡ text)) e c.put_block-in-Loop.ensures
