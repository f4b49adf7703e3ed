-- Each kind's row is the text of the value.
use Rattle.std.proofs.Common.{[], ◌∷◌}
use Rattle.std.specs.Prelude.{codes}
use Rattle.fx_lines.specs.Fields.{a_call, an_epoch}
use Rattle.fx_lines.specs.Forms.{tabled}
use Rattle.fx_lines.specs.Messages.{holdings}
use Rattle.fx_trace.specs.Printed.{message_text}
use Rattle.fx_trace.proofs.Texts.{on_ok, same_written, then_written}
use Rattle.fx_trace.proofs.print.put_any_message.Goals as goal

pub returns-in-Join-clause-ok : goal.returns-in-Join-clause-ok
returns-in-Join-clause-ok c = same_written message_text c.put_spaced_row.result c.args.out.now c.put_spaced_row.new.out c.args.message.now _ c.in-Join.is c.put_spaced_row.ensures.ok

pub returns-in-Jest-clause-ok : goal.returns-in-Jest-clause-ok
returns-in-Jest-clause-ok c = same_written message_text c.put_spaced_row-in-Jest.result c.args.out.now c.put_spaced_row-in-Jest.new.out c.args.message.now _ c.in-Jest.is c.put_spaced_row-in-Jest.ensures.ok

pub returns-in-Part-clause-ok : goal.returns-in-Part-clause-ok
returns-in-Part-clause-ok c = same_written message_text c.put_spaced_row-in-Part.result c.args.out.now c.put_spaced_row-in-Part.new.out c.args.message.now _ c.in-Part.is c.put_spaced_row-in-Part.ensures.ok

pub returns-in-Vote-clause-ok : goal.returns-in-Vote-clause-ok
returns-in-Vote-clause-ok c = same_written message_text c.put_spaced_row-in-Vote.result c.args.out.now c.put_spaced_row-in-Vote.new.out c.args.message.now _ c.in-Vote.is c.put_spaced_row-in-Vote.ensures.ok

pub returns-in-Est-clause-ok : goal.returns-in-Est-clause-ok
returns-in-Est-clause-ok c = same_written message_text c.put_spaced_row-in-Est.result c.args.out.now c.put_spaced_row-in-Est.new.out c.args.message.now _ c.in-Est.is c.put_spaced_row-in-Est.ensures.ok

pub returns-in-Share-clause-ok : goal.returns-in-Share-clause-ok
returns-in-Share-clause-ok c = same_written message_text c.put_spaced_row-in-Share.result c.args.out.now c.put_spaced_row-in-Share.new.out c.args.message.now _ c.in-Share.is c.put_spaced_row-in-Share.ensures.ok

pub returns-in_ok-put_spaced_row-in-Tell-clause-ok : goal.returns-in_ok-put_spaced_row-in-Tell-clause-ok
returns-in_ok-put_spaced_row-in-Tell-clause-ok c =
    same_written message_text c.put_holding.result c.args.out.now c.put_holding.new.out c.args.message.now _ c.in-Tell.is
    (on_ok c.put_holding.result
    (then_written c.args.out.now c.put_spaced_row-in-Tell.new.out c.put_holding.new.out (32 ∷ codes "tell") (an_epoch.spell c.in-Tell.e ∷ a_call.spell c.in-Tell.k ∷ [])
    ((tabled holdings).words c.in-Tell.known) c.in_ok-put_spaced_row-in-Tell.ensures.ok)
    c.put_holding.ensures.ok)

pub returns-in-Help-clause-ok : goal.returns-in-Help-clause-ok
returns-in-Help-clause-ok c = same_written message_text c.put_spaced_row-in-Help.result c.args.out.now c.put_spaced_row-in-Help.new.out c.args.message.now _ c.in-Help.is c.put_spaced_row-in-Help.ensures.ok

pub returns-in-Give-clause-ok : goal.returns-in-Give-clause-ok
returns-in-Give-clause-ok c = same_written message_text c.put_spaced_row-in-Give.result c.args.out.now c.put_spaced_row-in-Give.new.out c.args.message.now _ c.in-Give.is c.put_spaced_row-in-Give.ensures.ok
