use Rattle.std.proofs.Common.{◌≡◌, [], ◌∷◌, ◌++◌, ℕ, List, OnOk, codes, subst, ap, sym, ◌∙◌}
use Rattle.fx_script.specs.Canonical.{text_of}
use Rattle.fx_script.specs.Spelling.{stmts_entries, callback_entries}
use Rattle.fx_script.proofs.TextLemmas.{ended, in_two}
use Rattle.fx_script.proofs.JobText.{callback_text}
use Rattle.fx_script.proofs.print.put_callback.Goals as goal

pub returns : goal.returns
returns c =
    let first = ended (codes "callback" ∷ c.as_slice.result.now ∷ []) in
    let inner = text_of (stmts_entries c.as_slice-2.result.now) in
    let last = ended (codes "endcallback" ∷ []) in
    let whole : text_of (callback_entries c.args.callback.now) ≡ first ++ (inner ++ last) =
    rw (c.as_slice.ensures, c.as_slice-2.ensures) (callback_text c.args.callback.now) in
    let e : c.put_named.new.out ++ (inner ++ last) ≡ c.args.out.now ++ text_of (callback_entries c.args.callback.now) =
    in_two c.args.out.now first (inner ++ last) c.put_named.new.out c.in_ok-put_named.ensures
    ∙ ap (λ (l : List ℕ). c.args.out.now ++ l) (sym whole) in
    subst (λ (text : List ℕ). OnOk c.put_block.result (c.put_block.new.out ≡ text)) e c.put_block.ensures
