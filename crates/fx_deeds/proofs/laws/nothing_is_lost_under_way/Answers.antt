use Rattle.fx_deeds.proofs.Streaming as law
use Rattle.fx_deeds.proofs.laws.nothing_is_lost_under_way.Goals as goal

pub returns : goal.returns
returns c = law.all_stream
