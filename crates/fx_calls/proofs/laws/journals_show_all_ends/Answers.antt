use Rattle.fx_check.proofs.PartLemmas.{by_parts}
use Rattle.fx_losses.proofs.Accepted.{kills_processes}
use Rattle.fx_calls.proofs.Legality as law
use Rattle.fx_calls.proofs.laws.journals_show_all_ends.Goals as goal

pub returns : goal.returns
returns c = record {
  once_over = λ job is asks over. law.shows_all_ends job (by_parts job is) (λ view state. c.all_ranks_have_one_plan.ensures.begins job (by_parts job is) view state) asks (kills_processes job is) over;
  only_then = λ job is asks ended. law.shows_true_ends job (by_parts job is) (λ view state. c.all_ranks_have_one_plan.ensures.begins job (by_parts job is) view state) asks (kills_processes job is) ended;
}
