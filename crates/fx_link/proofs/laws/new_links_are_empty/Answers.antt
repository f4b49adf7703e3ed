use Rattle.fx_link.proofs.LinkFacts.{no_links_none}
use Rattle.fx_link.proofs.laws.new_links_are_empty.Goals as goal

pub returns : goal.returns
returns c = no_links_none
