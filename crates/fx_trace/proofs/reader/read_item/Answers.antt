use Rattle.std.proofs.Common.{◌≡◌, ℕ, true, List}
use Rattle.std.specs.Prelude.{IfOk, Result, Ok, Err}
use Rattle.fx_item.specs.declared.item.Item.{Item}
use Rattle.fx_lines.specs.Items.{is_writable, item_in}
use Rattle.fx_lines.proofs.Items.{printed_again}
use Rattle.fx_trace.specs.Reads.{Gives}
use Rattle.fx_trace.specs.declared.read.ReadItem.{ReadItem}
use Rattle.fx_trace.proofs.reader.read_item.Goals as goal

-- what is read of a line has one
has_a_line : (r : Result Item ReadItem) (line : List ℕ) → Gives r (item_in line) → IfOk r (λ item. is_writable item ≡ true)
has_a_line (Ok item) line read = (printed_again line item read).1
has_a_line (Err e) line read = tt

pub returns-clause-writable : goal.returns-clause-writable
returns-clause-writable c = has_a_line c.read_line.result c.args.line.now c.read_line.ensures
