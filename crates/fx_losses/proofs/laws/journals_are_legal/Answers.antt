use Rattle.fx_losses.proofs.Accepted.{kills_processes}
use Rattle.fx_losses.proofs.Legality as law
use Rattle.fx_losses.proofs.laws.journals_are_legal.Goals as goal

pub returns : goal.returns
returns c = record {
  whole = λ job is asks. law.is_legal job asks (kills_processes job is);
  within = λ job is asks fuel bound. law.is_legal_within job asks (kills_processes job is) fuel bound;
  so_far = λ job is asks fuel front more same. law.is_legal_so_far job asks (kills_processes job is) fuel front more same;
}
