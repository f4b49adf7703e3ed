use Rattle.fx_check.proofs.PartLemmas.{by_parts}
use Rattle.fx_calls.proofs.Rests as law
use Rattle.fx_calls.proofs.Rising.{asking}
use Rattle.fx_calls.proofs.laws.rests_come_to_rest.Goals as goal

pub returns : goal.returns
returns c = record {
  quiet = λ job is asks. law.rests_are_quiet job (asking job is (λ view state. c.all_ranks_have_one_plan.ensures.begins job (by_parts job is) view state) asks);
  more = λ job is asks. law.more_changes_nothing job (asking job is (λ view state. c.all_ranks_have_one_plan.ensures.begins job (by_parts job is) view state) asks);
}
