use Rattle.fx_legal.proofs.Covered.{covered_is_kept}
use Rattle.fx_legal.proofs.laws.covered_groups_are_kept.Goals as goal

pub returns : goal.returns
returns c = λ job front more p e k g how stamps goes first covered. covered_is_kept job front more p e k g how stamps goes first covered
