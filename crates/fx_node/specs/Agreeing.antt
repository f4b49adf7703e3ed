-- Why an agreement doesn't return, as a process tells it.
use Rattle.fx_machine.specs.Waits.{Error, ByLeaving, ByLoss}
use Rattle.fx_node.specs.declared.agree.CallError.{CallError}
use Rattle.fx_node.specs.declared.agree.CallError.TheVariants as error

abbrev pub error_of : CallError → Error
error_of (error.Lost lost) = ByLoss lost.0
error_of (error.Left left) = ByLeaving left.0
