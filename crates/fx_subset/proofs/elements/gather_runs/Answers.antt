use Rattle.std.proofs.Common.{ap, ◌∙◌}
use Rattle.std.specs.Prelude.{ℤ}
use Rattle.std.specs.Ordering.{nat_cmp}
use Rattle.std.specs.FinMap as finite
use Rattle.fx_subset.proofs.Gathered.{whole_at}
use Rattle.fx_subset.proofs.elements.gather_runs.Goals as goal

pub loop-run-init : goal.loop-run-init
loop-run-init c = λ index. ap (λ (m : finite.FinMap nat_cmp ℤ). finite.get m index) c.new-elements.ensures ∙ finite.get-empty nat_cmp index

pub gather_run-requires : goal.gather_run-requires
gather_run-requires c = whole_at 0 c.args.runs.now c.loop-run.run-index (0, 0) c.requires c.loop-run-test.true
