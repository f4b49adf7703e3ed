use Rattle.fx_base.specs.Keys.{by_number, by_number_total}
use Rattle.fx_base.proofs.Maps.{put_keeps, put_is_insert}
use Rattle.fx_base.proofs.Bounded.{put_bounded}
use Rattle.fx_base.proofs.snapshot.Snapshot.put.Goals as goal

pub invariant_of-self-2 : goal.invariant_of-self-2
invariant_of-self-2 c =
    let sorted = c.self.invariant.0 in
    rw (c.in_ok-put_entry.ensures.ok) (
      put_keeps by_number by_number_total c.self.inside.entries.items c.args.key c.args.value sorted,
      rw (put_is_insert by_number by_number_total c.self.inside.entries.items c.args.key c.args.value sorted)
          (put_bounded _ c.args.key c.args.value c.self.invariant.1 c.requires.member c.requires.indices),
    )

pub returns-clause-ok : goal.returns-clause-ok
returns-clause-ok c = rw (c.in_ok-put_entry.ensures.ok, ← c.self.view_is) (put_is_insert by_number by_number_total c.self.inside.entries.items c.args.key c.args.value c.self.invariant.0)
