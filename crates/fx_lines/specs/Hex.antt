-- Bytes in hexadecimal.
use Rattle.std.specs.Prelude.{ℕ, ◌+◌, ◌-◌, ◌*◌, ◌/◌, ◌%◌, true, false, ◌&&◌, nat_le, nat_lt, if◌then◌else◌, List, [], ◌∷◌, Option, Some, None}
use Rattle.std.specs.Fmt.{digit_glyph}
use Rattle.std.specs.List.{list_all}
use Rattle.std.specs.Option.{option_map}
use Rattle.fx_lines.specs.Forms.{WordForm, both}

-- two digits for each byte, the higher one first; a digit above 9 is a small letter
abbrev pub hex_of : List ℕ → List ℕ
hex_of [] = []
hex_of (b ∷ bs) = digit_glyph false (b / 16) ∷ digit_glyph false (b % 16) ∷ hex_of bs

-- the number below 16 that a digit stands for
abbrev pub hex_digit : ℕ → Option ℕ
hex_digit c = if nat_le 48 c && nat_le c 57 then Some (c - 48) else (if nat_le 97 c && nat_le c 102 then Some (c - 87) else None)

-- the byte of two digits
abbrev pub hex_byte : ℕ → ℕ → Option ℕ
hex_byte high low = option_map (λ d. d.0 * 16 + d.1) (both (hex_digit high) (hex_digit low))

-- the bytes of the digits, where they come in pairs
abbrev pub bytes_in : List ℕ → Option (List ℕ)
bytes_in [] = Some []
bytes_in (c ∷ []) = None
bytes_in (high ∷ low ∷ rest) = option_map (λ v. v.0 ∷ v.1) (both (hex_byte high low) (bytes_in rest))

-- any number of bytes, none included
abbrev pub hex : WordForm (List ℕ)
hex = record {
  spell = hex_of;
  read = bytes_in;
  has_word = λ bytes. true;
  in_type = list_all (λ b. nat_lt b 256);
}
