use Rattle.fx_value.proofs.TermLemmas.{term_value-term_of, term_values-term_of}
use Rattle.fx_value.proofs.laws.formulas_have_the_values_of_their_expressions.Goals as goal

pub returns-clause-once : goal.returns-clause-once
returns-clause-once c = term_value-term_of

pub returns-clause-at_each_index : goal.returns-clause-at_each_index
returns-clause-at_each_index c = term_values-term_of
