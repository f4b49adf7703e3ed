use Rattle.fx_lines.specs.Items.{items}
use Rattle.fx_trace.proofs.KindLemmas.{kind_at_place}
use Rattle.fx_trace.proofs.reader.item_number.Goals as goal

pub returns : goal.returns
returns c = kind_at_place items.word c.args.word.now items.kinds c.number_of.result c.number_of.ensures
