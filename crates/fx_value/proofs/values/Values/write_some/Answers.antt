use Rattle.std.proofs.Common.{get_or, []}
use Rattle.fx_value.proofs.Shapes.{scattered-restored}
use Rattle.fx_value.proofs.values.Values.write_some.Goals as goal

pub returns : goal.returns
returns c = rw (← c.self.view_is, c.put_entries.ensures, scattered-restored c.args.entries.now (get_or c.self.inside.arrays.items c.args.slot []))
