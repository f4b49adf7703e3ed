-- Each kind's row is the text of the value.
use Rattle.fx_trace.specs.Printed.{message_text}
use Rattle.fx_trace.proofs.Texts.{same_written}
use Rattle.fx_trace.proofs.print.put_message.Goals as goal

pub returns-in-Part-clause-ok : goal.returns-in-Part-clause-ok
returns-in-Part-clause-ok c = same_written message_text c.put_part.result c.args.out.now c.put_part.new.out c.args.message.now _ c.in-Part.is c.put_part.ensures.ok

pub returns-in-Vote-clause-ok : goal.returns-in-Vote-clause-ok
returns-in-Vote-clause-ok c = same_written message_text c.put_vote.result c.args.out.now c.put_vote.new.out c.args.message.now _ c.in-Vote.is c.put_vote.ensures.ok

pub returns-in-Est-clause-ok : goal.returns-in-Est-clause-ok
returns-in-Est-clause-ok c = same_written message_text c.put_estimate.result c.args.out.now c.put_estimate.new.out c.args.message.now _ c.in-Est.is c.put_estimate.ensures.ok
