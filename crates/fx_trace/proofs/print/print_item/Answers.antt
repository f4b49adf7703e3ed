use Rattle.std.proofs.Common.{◌≡◌, ◌++◌, sym, subst}
use Rattle.std.specs.Prelude.{OnOk}
use Rattle.fx_lines.proofs.Printing.{line_by_words}
use Rattle.fx_trace.proofs.print.print_item.Goals as goal

pub returns-clause-ok : goal.returns-clause-ok
returns-clause-ok c =
    subst (λ text. OnOk c.put_item.result (c.put_item.new.out ≡ c.args.out.now ++ text)) (sym (line_by_words c.args.item.now)) c.put_item.ensures.ok
