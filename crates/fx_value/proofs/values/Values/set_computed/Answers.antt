use Rattle.std.proofs.Common.{◌∙◌, ap, get_or, List, []}
use Rattle.std.specs.Prelude.{ℤ, slice_set}
use Rattle.fx_walk.specs.Values.{sight}
use Rattle.fx_value.specs.declared.formula.Term.{Term}
use Rattle.fx_value.specs.Terms.{term_values}
use Rattle.fx_value.proofs.Shapes.{on_ok, with_arrays}
use Rattle.fx_value.proofs.TermLemmas.{term_values-term_of}
use Rattle.fx_value.proofs.values.Values.set_computed.Goals as goal

pub returns-clause-meant : goal.returns-clause-meant
returns-clause-meant c =
    let olds : List ℤ = get_or c.args.self.now.arrays c.args.slot [] in
    on_ok c.compute.result (λ same f expr is.
    let values = ap (λ (t : Term). term_values t (sight c.args.view.now c.args.self.now) 0 olds) (c.term.ensures ∙ is) ∙ term_values-term_of f expr (sight c.args.view.now c.args.self.now) 0 olds in
    same ∙ ap (λ (l : List ℤ). with_arrays c.args.self.now (slice_set c.args.self.now.arrays c.args.slot l)) values) c.compute.ensures.ok
