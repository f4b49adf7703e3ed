use Rattle.std.proofs.Common.{◌<◌, length, refl}
use Rattle.fx_link.proofs.Tables.{reaches, still_table}
use Rattle.fx_link.proofs.links.Links.close_to.Goals as goal

pub clear_column-requires : goal.clear_column-requires
clear_column-requires c =
    let within : c.args.to.0 < length c.self.inside.closed.items = rw (← c.self.view_is) at c.requires in
    rw c.from.ensures (reaches c.self.inside.rows.items c.self.inside.closed.items c.args.to.0 c.self.invariant within)

pub invariant_of-self : goal.invariant_of-self
invariant_of-self c =
    rw (c.clear_column.ensures, c.from.ensures, c.from-2.ensures) (still_table c.self.inside.rows.items c.self.inside.closed.items c.args.to.0 c.self.invariant)

pub returns : goal.returns
returns c = rw (← c.self.view_is, c.clear_column.ensures, c.from.ensures, c.from-2.ensures) refl
