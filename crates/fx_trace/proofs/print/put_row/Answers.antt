use Rattle.std.proofs.Common.{map}
use Rattle.fx_trace.specs.Printed.{word_of, tail_words}
use Rattle.fx_trace.proofs.Texts.{on_ok, row_written}
use Rattle.fx_trace.proofs.print.put_row.Goals as goal

pub returns-clause-ok : goal.returns-clause-ok
returns-clause-ok c =
    on_ok c.put.result
    (row_written c.args.out.now c.append.new.self c.put_fields.new.out c.put.new.out c.args.word.now (map word_of c.args.fields.now) (tail_words c.args.tail)
    c.in_ok-append.ensures.ok c.in_ok-put_fields.ensures.ok)
    c.put.ensures.ok
