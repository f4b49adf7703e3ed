use Rattle.fx_check.proofs.PartLemmas.{by_parts}
use Rattle.fx_losses.proofs.Accepted.{kills_processes}
use Rattle.fx_calls.proofs.Legality as law
use Rattle.fx_calls.proofs.laws.journals_are_legal.Goals as goal

pub returns : goal.returns
returns c = record {
  whole = λ job is asks. law.is_legal job (by_parts job is) (λ view state. c.all_ranks_have_one_plan.ensures.begins job (by_parts job is) view state) asks (kills_processes job is);
  within = λ job is asks fuel bound. law.is_legal_within job (by_parts job is) (λ view state. c.all_ranks_have_one_plan.ensures.begins job (by_parts job is) view state) asks (kills_processes job is) fuel bound;
  so_far = λ job is asks fuel front more same. law.is_legal_so_far job (by_parts job is) (λ view state. c.all_ranks_have_one_plan.ensures.begins job (by_parts job is) view state) asks (kills_processes job is) fuel front more same;
}
