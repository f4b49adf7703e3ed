-- so many rows of empty links were made, and so many receivers are open
use Rattle.std.proofs.Common.{◌≡◌, [], replicate, false}
use Rattle.fx_link.proofs.links.Links.new.Given as goal

abbrev pub invariant-loop : goal.invariant-loop
invariant-loop l = record {
  rows : l.rows.items ≡ replicate l.counter (replicate l.procs []);
  closed : l.closed.items ≡ replicate l.counter false;
}
