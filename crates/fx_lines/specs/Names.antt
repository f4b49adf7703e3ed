-- The names that arrays, counters and callbacks have, as words of a line.
use Rattle.std.specs.Prelude.{ℕ, true, List, Some, None, if◌then◌else◌}
use Rattle.fx_text.specs.Names.{is_name}
use Rattle.fx_lines.specs.Forms.{WordForm}

-- a name is its own word
abbrev pub name : WordForm (List ℕ)
name = record {
  spell = λ bytes. bytes;
  read = λ word. if is_name word then Some word else None;
  has_word = is_name;
  in_type = λ bytes. true;
}
