use Rattle.fx_check.proofs.PartLemmas.{by_parts}
use Rattle.fx_losses.proofs.Accepted.{kills_processes}
use Rattle.fx_calls.proofs.Losses as law
use Rattle.fx_calls.proofs.laws.each_epoch_has_its_loss.Goals as goal

pub returns : goal.returns
returns c = λ job is asks. law.has_losses job (by_parts job is) (λ view state. c.all_ranks_have_one_plan.ensures.begins job (by_parts job is) view state) asks (kills_processes job is)
