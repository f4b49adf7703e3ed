use Rattle.std.proofs.Common.{◌∙◌}
use Rattle.std.specs.Str.{bytes_eq}
use Rattle.fx_trace.proofs.KindLemmas.{position-map}
use Rattle.fx_trace.proofs.table.LineTable.number_of.Goals as goal

pub returns : goal.returns
returns g c = c.place_of.ensures ∙ position-map (λ first. first.now) (λ first. bytes_eq first c.args.word.now) c.args.self.now.words.now
