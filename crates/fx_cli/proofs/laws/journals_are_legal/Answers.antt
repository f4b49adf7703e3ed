use Rattle.std.proofs.Common.{ap, not}
use Rattle.fx_cli.proofs.Groupless.{asks_no_groups}
use Rattle.fx_cli.proofs.laws.journals_are_legal.Goals as goal

pub returns-clause-legal : goal.returns-clause-legal
returns-clause-legal c = λ job writable accepted built. c.journals_are_legal.ensures.whole job accepted (asks_no_groups job writable built)

pub returns-clause-losses : goal.returns-clause-losses
returns-clause-losses c = λ job writable accepted built. c.each_epoch_has_its_loss.ensures job accepted (asks_no_groups job writable built)

pub returns-clause-over : goal.returns-clause-over
returns-clause-over c = λ job writable accepted built. ap not (c.all_processes_end.ensures.over job accepted (asks_no_groups job writable built))

pub returns-clause-whole : goal.returns-clause-whole
returns-clause-whole c = λ job writable accepted built. c.all_processes_end.ensures.shown job accepted (asks_no_groups job writable built)
