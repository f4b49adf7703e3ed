-- The lines of callbacks that are left.
use Rattle.std.proofs.Common.{◌≡◌, ℕ, ◌+◌, ◌<◌, List, [], ◌∷◌, ◌++◌, length, take, drop, get_or, add-one, drop-cons, take-suc, refl, sym, ap, ◌∙◌}
use Rattle.fx_script.specs.declared.job.Callback.{Callback}
use Rattle.fx_script.specs.declared.job.Stmt.{Stmt}
use Rattle.fx_check.specs.Acceptance.{stmt_lines, callback_body_lines, callback_line, callbacks_lines}
use Rattle.fx_check.specs.Facts.{Facts}
use Rattle.fx_check.specs.Rules.{callback_place}

pub body_from : (f : Facts) (ss : List Stmt) (i : ℕ) (s : Stmt) → i < length ss → s ≡ get_or ss i s
    → callback_body_lines f i (drop i ss) ≡ stmt_lines f s (callback_place i) ++ callback_body_lines f (i + 1) (drop (i + 1) ss)
body_from f ss i s within is =
    let from : drop i ss ≡ s ∷ drop (i + 1) ss = drop-cons ss i s within ∙ rw (← is, add-one) refl in
    ap (λ (l : List Stmt). callback_body_lines f i l) from

pub callbacks_from : (f : Facts) (cs : List Callback) (i : ℕ) (c : Callback) → i < length cs → c ≡ get_or cs i c
    → callbacks_lines f (take i cs) (drop i cs) ≡ ((callback_line f (take i cs) c ∷ []) ++ callback_body_lines f 0 c.body) ++ callbacks_lines f (take (i + 1) cs) (drop (i + 1) cs)
callbacks_from f cs i c within is =
    let from : drop i cs ≡ c ∷ drop (i + 1) cs = drop-cons cs i c within ∙ rw (← is, add-one) refl in
    let to : take i cs ++ c ∷ [] ≡ take (i + 1) cs = sym (rw add-one (take-suc cs i c within) ∙ ap (λ (x : Callback). take i cs ++ x ∷ []) (sym is)) in
    ap (λ (l : List Callback). callbacks_lines f (take i cs) l) from
    ∙ ap (λ (l : List Callback). callback_line f (take i cs) c ∷ (callback_body_lines f 0 c.body ++ callbacks_lines f l (drop (i + 1) cs))) to
