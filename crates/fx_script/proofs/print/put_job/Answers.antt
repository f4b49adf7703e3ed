use Rattle.std.proofs.Common.{◌≡◌, [], ◌∷◌, ◌++◌, ℕ, List, OnOk, codes, map, subst, ap, sym, ◌∙◌}
use Rattle.fx_script.specs.Canonical.{text_of, canonical}
use Rattle.fx_script.specs.Spelling.{chained, stmts_entries, decl_entry, callback_entries, heading}
use Rattle.fx_script.proofs.TextLemmas.{ended}
use Rattle.fx_script.proofs.JobText.{schedule_entries, job_text, in_six}
use Rattle.fx_script.proofs.print.put_job.Goals as goal

pub returns : goal.returns
returns c =
    let first = text_of (heading c.args.job.now) in
    let names = text_of (map decl_entry c.as_slice.result.now) in
    let calls = text_of (chained (map callback_entries c.as_slice-2.result.now)) in
    let begin = ended (codes "begin" ∷ []) in
    let body = text_of (stmts_entries c.as_slice-3.result.now) ++ ended (codes "end" ∷ []) in
    let rest = text_of (schedule_entries c.as_slice-4.result.now) in
    let whole : canonical c.args.job.now ≡ first ++ (names ++ (calls ++ (begin ++ (body ++ rest)))) =
    rw (c.as_slice.ensures, c.as_slice-2.ensures, c.as_slice-3.ensures, c.as_slice-4.ensures) (job_text c.args.job.now) in
    let e : c.put_block.new.out ++ rest ≡ c.args.out.now ++ canonical c.args.job.now =
    in_six c.args.out.now first names calls begin body rest c.put_heading.new.out c.put_names.new.out c.put_callbacks.new.out c.put_bare.new.out c.put_block.new.out
    c.in_ok-put_heading.ensures c.in_ok-put_names.ensures c.in_ok-put_callbacks.ensures c.in_ok-put_bare.ensures c.in_ok-put_block.ensures
    ∙ ap (λ (l : List ℕ). c.args.out.now ++ l) (sym whole) in
    subst (λ (text : List ℕ). OnOk c.put_schedule.result (c.put_schedule.new.out ≡ text)) e c.put_schedule.ensures
