use Rattle.std.proofs.Common.{◌≡◌, ◌++◌, map, ap, ◌∙◌, append_assoc}
use Rattle.std.specs.Fmt.{signed_decimal}
use Rattle.fx_text.specs.Written.{spaced}
use Rattle.fx_trace.proofs.Texts.{on_ok}
use Rattle.fx_trace.proofs.print.put_numbered.Goals as goal

pub returns-clause-ok : goal.returns-clause-ok
returns-clause-ok c =
    on_ok c.put_numbers.result
    (λ all. all ∙ ap (λ front. front ++ spaced (map signed_decimal c.args.numbers.now)) c.in_ok-append.ensures.ok
    ∙ append_assoc c.args.out.now c.args.word.now (spaced (map signed_decimal c.args.numbers.now)))
    c.put_numbers.ensures.ok
