use Rattle.std.proofs.Common.{◌++◌, [], ◌∷◌, ◌∙◌, arith}
use Rattle.std.specs.Prelude.{codes}
use Rattle.std.specs.Fmt.{signed_decimal}
use Rattle.fx_text.specs.Written.{spaced}
use Rattle.fx_lines.specs.Fields.{a_call, an_epoch}
use Rattle.fx_trace.specs.Printed.{tail_words}
use Rattle.fx_trace.specs.declared.list.Tail.TheVariants as tail
use Rattle.fx_trace.proofs.Texts.{on_ok, stored, words_written}
use Rattle.fx_trace.proofs.print.put_part.Goals as goal

pub returns-clause-ok : goal.returns-clause-ok
returns-clause-ok c =
    on_ok c.put.result
    (words_written c.args.out.now c.put_numbered.new.out c.put.new.out (32 ∷ codes "part") (an_epoch.spell c.args.e ∷ a_call.spell c.args.k ∷ [])
    (tail_words (tail.Values c.args.elems)) (c.in_ok-put_numbered.ensures.ok ∙ (λ i. c.args.out.now ++ ((32 ∷ codes "part") ++ spaced (signed_decimal (stored c.from.result c.args.e.0 c.from.ensures (omega arith) i) ∷ signed_decimal (stored c.from-2.result c.args.k.0 c.from-2.ensures (omega arith) i) ∷ [])))))
    c.put.ensures.ok
