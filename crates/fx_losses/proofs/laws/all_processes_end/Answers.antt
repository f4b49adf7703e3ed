use Rattle.fx_losses.proofs.Ends as law
use Rattle.fx_losses.proofs.laws.all_processes_end.Goals as goal

pub returns : goal.returns
returns c = record { over = law.run_ends; within = law.all_end; shown = law.journal_ends }
