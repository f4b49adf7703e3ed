use Rattle.std.proofs.Common.{rules}
use Rattle.fx_base.specs.SetFields.{number_again}
use Rattle.fx_base.proofs.procset.ProcSetPartialEq.eq.Goals as goal

pub returns : goal.returns
returns c = search (rules, number_again)
