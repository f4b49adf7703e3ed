-- What each line of a text must be, whatever its words are.
use Rattle.std.specs.Prelude.{◌≡◌, ℕ, ◌+◌, Bool, not, ◌&&◌, nat_le, nat_lt, if◌then◌else◌, List, [], ◌∷◌, length, Option, Some, None, Result, Ok, Err, refl}
use Rattle.std.specs.List.{position}
use Rattle.fx_text.specs.declared.check.LineFault.{LineFault}
use Rattle.fx_text.specs.declared.check.LineFault.TheVariants.{NotAscii, TooLong}

-- a byte from 32, the space, to 126, the tilde
abbrev pub is_printable : ℕ → Bool
is_printable b = nat_le 32 b && nat_le b 126

-- the fault of a line whose first bad byte is there
abbrev pub fault_at : Option ℕ → ℕ → Result (Unit {0}) LineFault
fault_at (Some place) len = Err (NotAscii (place + 1))
fault_at None len = if nat_lt 1024 len then Err TooLong else Ok tt

-- a line has printable bytes alone, and at most 1,024 of them
abbrev pub checked : List ℕ → Result (Unit {0}) LineFault
checked line = fault_at (position (λ b. not (is_printable b)) line) (length line)

-- a tabulator at column 2
tabulator : checked (97 ∷ 9 ∷ []) ≡ Err (NotAscii 2)
tabulator = refl
