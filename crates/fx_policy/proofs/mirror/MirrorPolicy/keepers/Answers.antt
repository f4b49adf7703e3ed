use Rattle.std.proofs.Common.{sym, ap, ◌∙◌}
use Rattle.std.specs.Ordering.{nat_cmp}
use Rattle.std.specs.FinSet.{contains, contains-empty}
use Rattle.fx_store.specs.Mirror.{buddy, is_keeper}
use Rattle.fx_policy.proofs.mirror.MirrorPolicy.keepers.Goals as goal

pub returns-then-n-eq1 : goal.returns-then-n-eq1
returns-then-n-eq1 c j =
    ap (λ places. contains places j) c.new.ensures ∙ contains-empty nat_cmp j ∙ sym (ap (λ n. is_keeper (buddy c.args.self.now.separation) n c.args.place j) c.if-n-eq1.true)
