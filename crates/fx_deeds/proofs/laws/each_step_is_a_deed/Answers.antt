use Rattle.fx_deeds.proofs.Every.{is_deed}
use Rattle.fx_deeds.proofs.Kept.{keeps}
use Rattle.fx_deeds.proofs.laws.each_step_is_a_deed.Goals as goal

pub returns : goal.returns
returns c = record { deed = is_deed; keeps = λ s n act e. keeps s n act (is_deed s n act e) }
