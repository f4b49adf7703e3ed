use Rattle.fx_check.proofs.PartLemmas.{by_parts}
use Rattle.fx_calls.proofs.Ends as law
use Rattle.fx_calls.proofs.Rising.{asking}
use Rattle.fx_calls.proofs.laws.all_processes_end.Goals as goal

pub returns : goal.returns
returns c = record {
  over = λ job is asks. law.run_ends job (asking job is (λ view state. c.all_ranks_have_one_plan.ensures.begins job (by_parts job is) view state) asks);
  within = λ job is asks. law.all_end job (asking job is (λ view state. c.all_ranks_have_one_plan.ensures.begins job (by_parts job is) view state) asks);
  shown = λ job is asks. law.journal_ends job (asking job is (λ view state. c.all_ranks_have_one_plan.ensures.begins job (by_parts job is) view state) asks);
}
