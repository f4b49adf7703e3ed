use Rattle.std.proofs.Common.{◌≡◌, ◌++◌, List, [], ◌∷◌, ◌∙◌, arith, subst}
use Rattle.std.specs.Prelude.{OnOk, codes}
use Rattle.fx_link.specs.declared.slot.Slot.{Slot}
use Rattle.std.specs.Fmt.{signed_decimal}
use Rattle.fx_text.specs.Written.{spaced}
use Rattle.fx_lines.specs.Fields.{ACount, a_call, an_epoch, word_form}
use Rattle.fx_lines.specs.Slots.{some_slots}
use Rattle.fx_trace.proofs.Texts.{on_ok, stored, word_written}
use Rattle.fx_trace.proofs.print.put_estimate.Goals as goal

pub returns-clause-ok : goal.returns-clause-ok
returns-clause-ok c =
    on_ok c.put_slots.result
    (word_written c.args.out.now c.put_numbered.new.out c.put_slots.new.out (32 ∷ codes "est") (an_epoch.spell c.args.e ∷ a_call.spell c.args.k ∷ (word_form ACount).spell c.args.r ∷ [])
    (some_slots.spell c.args.slots.now) (c.in_ok-put_numbered.ensures.ok ∙ (λ i. c.args.out.now ++ ((32 ∷ codes "est") ++ spaced (signed_decimal (stored c.from.result c.args.e.0 c.from.ensures (omega arith) i) ∷ signed_decimal (stored c.from-2.result c.args.k.0 c.from-2.ensures (omega arith) i) ∷ signed_decimal (stored c.from-3.result c.args.r c.from-3.ensures (omega arith) i) ∷ [])))))
    (subst (λ (slots : List Slot). OnOk c.put_slots.result (c.put_slots.new.out ≡ c.put_numbered.new.out ++ 32 ∷ some_slots.spell slots)) c.as_slice.ensures c.put_slots.ensures.ok)
