use Rattle.std.proofs.Common.{◌≡◌, ◌≤◌, None, refl, ap, ◌∙◌, arith}
use Rattle.std.specs.Prelude.{Err}
use Rattle.std.specs.List.{slice_get}
use Rattle.std.proofs.lemmas.Result.{err_from_is_err_and}
use Rattle.fx_item.specs.declared.item.Item.TheVariants as item
use Rattle.fx_lines.specs.Fields.{an_epoch}
use Rattle.fx_lines.specs.Forms.{before, made, nothing, read_kind}
use Rattle.fx_lines.specs.Items.{items}
use Rattle.fx_lines.specs.Slots.{a_process}
use Rattle.fx_trace.proofs.KindLemmas.{past_end}
use Rattle.fx_trace.proofs.JoinLemmas.{item_joined, joined_with, refuses}
use Rattle.fx_trace.proofs.reader.read_item_row.Goals as goal

pub returns-in_err-p-in-1 : goal.returns-in_err-p-in-1
returns-in_err-p-in-1 c =
    let failed = err_from_is_err_and c.from_residual-in_err-p-in-1.result c.from_residual-in_err-p-in-1.ensures.1 in
    refuses (λ v. item.Join v.0 v.1.0 v.1.1.0.0) c.from_residual-in_err-p-in-1.result c.in_err-p-in-1.field-0.0
    ((before a_process (before an_epoch (before joined_with nothing))).read 1 c.args.words.now)
    (read_kind items 0 (slice_get items.kinds c.args.number) c.args.words.now) (failed.1 ∙ ap Err failed.2)
    (ap (λ n. read_kind items 0 (slice_get items.kinds n) c.args.words.now) c.in-1.is ∙ item_joined 1 c.args.words.now) c.in_err-p-in-1.ensures

pub returns-in_ok-p-in-1 : goal.returns-in_ok-p-in-1
returns-in_ok-p-in-1 c =
    ap (λ n. read_kind items 0 (slice_get items.kinds n) c.args.words.now) c.in-1.is
    ∙ item_joined 1 c.args.words.now ∙ ap (made (λ v. item.Join v.0 v.1.0 v.1.1.0.0)) c.in_ok-p-in-1.ensures

pub returns-in_default : goal.returns-in_default
returns-in_default c =
    let past : 29 ≤ c.args.number = omega arith in
    let none : slice_get items.kinds c.args.number ≡ None = past_end items.kinds c.args.number past in
    rw (c.no_such_kind.ensures, none) refl
