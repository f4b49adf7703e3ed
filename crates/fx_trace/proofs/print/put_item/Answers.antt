use Rattle.fx_trace.specs.Printed.{item_text}
use Rattle.fx_trace.proofs.Texts.{same_written}
use Rattle.fx_trace.proofs.print.put_item.Goals as goal

pub returns-in-Print-clause-ok : goal.returns-in-Print-clause-ok
returns-in-Print-clause-ok c = same_written item_text c.put_print.result c.args.out.now c.put_print.new.out c.args.item.now _ c.in-Print.is c.put_print.ensures.ok
