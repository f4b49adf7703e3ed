use Rattle.fx_losses.proofs.Accepted.{kills_processes}
use Rattle.fx_losses.proofs.Legality as law
use Rattle.fx_losses.proofs.laws.journals_show_all_ends.Goals as goal

pub returns : goal.returns
returns c = record {
  once_over = λ job is asks over. law.shows_all_ends job asks (kills_processes job is) over;
  only_then = λ job is asks ended. law.shows_true_ends job asks (kills_processes job is) ended;
}
