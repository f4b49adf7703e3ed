use Rattle.fx_script.proofs.Sound.{is_sound, sound_passes}
use Rattle.fx_script.proofs.laws.nothing_is_wrong_with_a_sound_line.Goals as goal

pub returns : goal.returns
returns c = λ line. (is_sound line, sound_passes line)
