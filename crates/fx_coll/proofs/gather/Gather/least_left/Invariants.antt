use Rattle.std.proofs.Common.{◌≡◌, None}
use Rattle.fx_machine.specs.Numbers.{first_below}
use Rattle.fx_coll.specs.Answer.{has_left_without}
use Rattle.fx_coll.specs.Keeping.{known_at}
use Rattle.fx_coll.proofs.gather.Gather.least_left.Given as goal

abbrev pub invariant-loop-who : goal.invariant-loop-who
invariant-loop-who l = first_below l.who (λ x. has_left_without (known_at l.self-inside.known.items x)) ≡ None
