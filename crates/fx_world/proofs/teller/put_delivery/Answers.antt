use Rattle.std.proofs.lemmas.Result.{err_from_is_err_and}
use Rattle.fx_world.proofs.Pieces.{unwritten}
use Rattle.fx_world.proofs.teller.put_delivery.Goals as goal

pub returns-in_err-print_delivery : goal.returns-in_err-print_delivery
returns-in_err-print_delivery g c = let p = err_from_is_err_and c.from_residual.result c.from_residual.ensures.1 in rw (p.1, p.2) unwritten

pub returns-in_err-end_line : goal.returns-in_err-end_line
returns-in_err-end_line g c = let p = err_from_is_err_and c.from_residual-in_err-end_line.result c.from_residual-in_err-end_line.ensures.1 in rw (p.1, p.2) unwritten
