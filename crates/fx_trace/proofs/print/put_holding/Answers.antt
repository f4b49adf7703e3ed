use Rattle.std.proofs.Common.{◌∙◌, Some, ap, sym}
use Rattle.fx_trace.specs.Printed.{holding_text}
use Rattle.fx_trace.proofs.Texts.{same_written}
use Rattle.fx_trace.proofs.print.put_holding.Goals as goal

pub returns-in-None-clause-ok : goal.returns-in-None-clause-ok
returns-in-None-clause-ok c = same_written holding_text c.put_spaced_row.result c.args.out.now c.put_spaced_row.new.out c.args.held.now _ c.in-None.is c.put_spaced_row.ensures.ok

pub returns-in-Some-clause-ok : goal.returns-in-Some-clause-ok
returns-in-Some-clause-ok c =
    same_written holding_text c.put_known.result c.args.out.now c.put_known.new.out c.args.held.now _ (c.in-Some.is ∙ ap Some (sym c.get.ensures)) c.put_known.ensures.ok
