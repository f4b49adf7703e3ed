-- Lines that say nothing.
use Rattle.std.specs.Prelude.{Bool, ◌==◌, slice_index}
use Rattle.fx_text.specs.Words.{Word}

-- the first word of a comment begins with `#`
abbrev pub is_comment : Word → Bool
is_comment w = slice_index w.bytes 0 == 35
