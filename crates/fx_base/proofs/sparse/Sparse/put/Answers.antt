use Rattle.std.specs.Ordering.{nat_cmp}
use Rattle.std.specs.Int.{w64}
use Rattle.std.proofs.lemmas.Int.{to_z-of_z}
use Rattle.std.specs.Cmp.{nat_cmp_total}
use Rattle.fx_base.proofs.Maps.{put_keeps, put_is_insert}
use Rattle.fx_base.proofs.sparse.Sparse.put.Goals as goal

pub invariant_of-self-2 : goal.invariant_of-self-2
invariant_of-self-2 c =
    let same = to_z-of_z w64 c.args.value c.ranges.value in
    rw (c.in_ok-put_entry.ensures.ok, same) (put_keeps nat_cmp nat_cmp_total c.self.inside.entries.items c.args.key c.args.value c.self.invariant)

pub returns-clause-ok : goal.returns-clause-ok
returns-clause-ok c =
    let same = to_z-of_z w64 c.args.value c.ranges.value in
    rw (c.in_ok-put_entry.ensures.ok, same, ← c.self.view_is) (put_is_insert nat_cmp nat_cmp_total c.self.inside.entries.items c.args.key c.args.value c.self.invariant)
