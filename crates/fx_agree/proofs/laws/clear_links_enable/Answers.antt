use Rattle.fx_ballot.specs.World.{run, start}
use Rattle.fx_ballot.proofs.Runs.{kept}
use Rattle.fx_ballot.proofs.Waiting as laws
use Rattle.fx_agree.proofs.laws.clear_links_enable.Goals as goal

pub returns : goal.returns
returns c = λ n name moves apart. laws.clear_links_enable n name (run n name moves start) apart (kept n name moves apart)
