use Rattle.std.proofs.Common.{◌≡◌, ◌++◌, [], ◌∷◌, ◌∙◌, arith, sym, subst}
use Rattle.std.specs.Prelude.{OnOk, codes}
use Rattle.fx_item.specs.declared.item.Item.TheVariants as item
use Rattle.std.specs.Fmt.{signed_decimal}
use Rattle.fx_text.specs.Written.{spaced}
use Rattle.fx_lines.specs.Forms.{tabled}
use Rattle.fx_lines.specs.Messages.{messages}
use Rattle.fx_lines.specs.Slots.{a_process}
use Rattle.fx_lines.proofs.Printing.{line_by_words}
use Rattle.fx_trace.proofs.Texts.{on_ok, stored, words_written}
use Rattle.fx_trace.proofs.print.print_delivery.Goals as goal

pub returns-clause-ok : goal.returns-clause-ok
returns-clause-ok c =
    subst (λ text. OnOk c.put_message.result (c.put_message.new.out ≡ c.args.out.now ++ text)) (sym (line_by_words (item.Deliver c.args.p c.args.q c.args.message.now)))
    (on_ok c.put_message.result
    (words_written c.args.out.now c.put_numbered.new.out c.put_message.new.out (codes "deliver") (a_process.spell c.args.p ∷ a_process.spell c.args.q ∷ [])
    ((tabled messages).words c.args.message.now) (c.in_ok-put_numbered.ensures.ok ∙ (λ i. c.args.out.now ++ (codes "deliver" ++ spaced (signed_decimal (stored c.from.result c.args.p.0 c.from.ensures (omega arith) i) ∷ signed_decimal (stored c.from-2.result c.args.q.0 c.from-2.ensures (omega arith) i) ∷ [])))))
    c.put_message.ensures.ok)
