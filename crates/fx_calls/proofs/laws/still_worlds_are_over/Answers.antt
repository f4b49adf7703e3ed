use Rattle.fx_check.proofs.PartLemmas.{by_parts}
use Rattle.fx_calls.proofs.Ends as law
use Rattle.fx_calls.proofs.Rising.{asking}
use Rattle.fx_calls.proofs.laws.still_worlds_are_over.Goals as goal

pub returns : goal.returns
returns c = λ job is asks. law.is_over job (asking job is (λ view state. c.all_ranks_have_one_plan.ensures.begins job (by_parts job is) view state) asks)
