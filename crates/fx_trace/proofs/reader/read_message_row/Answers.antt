use Rattle.std.proofs.Common.{ap, ◌∙◌}
use Rattle.std.specs.Prelude.{Err}
use Rattle.std.specs.List.{slice_get}
use Rattle.std.proofs.lemmas.Result.{err_from_is_err_and}
use Rattle.fx_link.specs.declared.message.Message.TheVariants as message
use Rattle.fx_lines.specs.Fields.{an_epoch}
use Rattle.fx_lines.specs.Forms.{before, made, nothing, read_kind}
use Rattle.fx_lines.specs.Messages.{messages}
use Rattle.fx_trace.proofs.JoinLemmas.{joined_with, message_joined, refuses}
use Rattle.fx_trace.proofs.reader.read_message_row.Goals as goal

pub returns-in_err-e-in-0 : goal.returns-in_err-e-in-0
returns-in_err-e-in-0 c =
    let failed = err_from_is_err_and c.from_residual.result c.from_residual.ensures.1 in
    refuses (λ v. message.Join v.0 v.1.0.0) c.from_residual.result c.in_err-e-in-0.field-0.0 ((before an_epoch (before joined_with nothing)).read 1 c.args.words.now)
    (read_kind messages 0 (slice_get messages.kinds c.args.number) c.args.words.now) (failed.1 ∙ ap Err failed.2)
    (ap (λ n. read_kind messages 0 (slice_get messages.kinds n) c.args.words.now) c.in-0.is ∙ message_joined 1 c.args.words.now) c.in_err-e-in-0.ensures

pub returns-in_ok-e-in-0 : goal.returns-in_ok-e-in-0
returns-in_ok-e-in-0 c =
    ap (λ n. read_kind messages 0 (slice_get messages.kinds n) c.args.words.now) c.in-0.is
    ∙ message_joined 1 c.args.words.now ∙ ap (made (λ v. message.Join v.0 v.1.0.0)) c.in_ok-e-in-0.ensures
