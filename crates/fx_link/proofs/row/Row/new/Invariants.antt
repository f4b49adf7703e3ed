-- so many empty links were made
use Rattle.std.proofs.Common.{◌≡◌, [], replicate}
use Rattle.fx_link.proofs.row.Row.new.Given as goal

abbrev pub invariant-loop : goal.invariant-loop
invariant-loop l = l.links.items ≡ replicate l.counter []
