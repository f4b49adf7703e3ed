use Rattle.std.proofs.Common.{◌∙◌, ap, rules}
use Rattle.std.specs.Int.{w64}
use mir.Facts.{to_z-of_z}
use mir.Val.{SFits}
use Rattle.fx_walk.specs.Values.{sight}
use Rattle.fx_value.specs.declared.formula.Term.{Term}
use Rattle.fx_value.specs.Terms.{term_value}
use Rattle.fx_value.proofs.TermLemmas.{term_value-term_of}
use Rattle.fx_value.proofs.formula.Formula.value.Goals as goal

pub returns-clause-meant : goal.returns-clause-meant
returns-clause-meant c = λ f expr is.
    let fits : SFits w64 c.value_of.result = search rules in
    to_z-of_z {w = w64} {z = c.value_of.result} fits ∙ c.value_of.ensures
    ∙ ap (λ (t : Term). term_value t (sight c.args.view.now c.args.values.now)) (c.self.view_is ∙ is) ∙ term_value-term_of f expr (sight c.args.view.now c.args.values.now)
