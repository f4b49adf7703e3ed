use Rattle.std.proofs.Common.{◌∙◌, ap, sym, get_or, length, []}
use Rattle.fx_walk.specs.State.{State}
use Rattle.fx_walk.specs.Values.{sight}
use Rattle.fx_value.proofs.ColumnLemmas.{length-term_values}
use Rattle.fx_value.proofs.values.Values.compute.Goals as goal

pub put_elements-requires : goal.put_elements-requires
put_elements-requires c =
    ap length c.as_slice.ensures.value ∙ ap length c.in_ok-column.ensures ∙ length-term_values c.args.term.now (sight c.args.view.now c.args.self.now) 0 c.array.result.now
    ∙ ap length c.array.ensures ∙ ap (λ (s : State). length (get_or s.arrays c.args.slot [])) (sym c.self.view_is)
