use Rattle.fx_lines.specs.Messages.{messages}
use Rattle.fx_trace.proofs.KindLemmas.{kind_at_place}
use Rattle.fx_trace.proofs.reader.message_number.Goals as goal

pub returns : goal.returns
returns c = kind_at_place messages.word c.args.word.now messages.kinds c.number_of.result c.number_of.ensures
