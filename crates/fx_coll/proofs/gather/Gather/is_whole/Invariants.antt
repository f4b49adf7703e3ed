use Rattle.std.proofs.Common.{◌≡◌, true}
use Rattle.std.specs.Prelude.{is_some}
use Rattle.fx_store.specs.Redundancy.{each_below}
use Rattle.fx_coll.specs.Keeping.{known_at}
use Rattle.fx_coll.proofs.gather.Gather.is_whole.Given as goal

abbrev pub invariant-loop-known : goal.invariant-loop-known
invariant-loop-known l = each_below l.known-index (λ x. is_some (known_at l.known-items x).part) ≡ true
