use Rattle.std.proofs.Common.{◌∙◌, vec_len}
use Rattle.fx_value.proofs.Numbered.{padded_past}
use Rattle.fx_value.proofs.column.Columns.padded.Goals as goal

pub returns : goal.returns
returns c = c.in_ok-resize.ensures.items
    ∙ padded_past c.args.len c.take-column.result.items c.args.elements.now c.extend_from_slice-2.new.self.items (vec_len c.extend_from_slice-2.new.self)
    c.take-column.ensures c.in_ok-extend_from_slice-2.ensures.items c.extend_from_slice-2.new.self.ok.0 c.if-len-elements.false
