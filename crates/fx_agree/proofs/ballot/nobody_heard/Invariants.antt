use Rattle.std.proofs.Common.{◌≡◌, replicate}
use Rattle.fx_ballot.specs.Turn.{unheard}
use Rattle.fx_agree.proofs.ballot.nobody_heard.Given as goal

abbrev pub invariant-loop-seat : goal.invariant-loop-seat
invariant-loop-seat l = l.heard.items ≡ replicate l._seat unheard
