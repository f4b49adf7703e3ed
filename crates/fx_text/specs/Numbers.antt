-- The numbers that words spell.
use Rattle.std.specs.Prelude.{◌≡◌, ℕ, ◌^◌, ℤ, pos, negsuc, neg_ℤ, Bool, not, ◌&&◌, ◌||◌, ◌==◌, nat_le, nat_lt, if◌then◌else◌, List, [], ◌∷◌, length, slice_index, Result, Ok, Err, refl}
use Rattle.std.specs.List.{list_all}
use Rattle.std.specs.Str.Parse.{digits_value}
use Rattle.fx_text.specs.declared.number.NumberFault.{NumberFault}
use Rattle.fx_text.specs.declared.number.NumberFault.TheVariants.{NotANumber, TooWide}

-- a byte `0` to `9`
abbrev pub is_digit : ℕ → Bool
is_digit b = nat_le 48 b && nat_le b 57

-- `0`, or digits that don't begin with it
abbrev pub is_natural : List ℕ → Bool
is_natural bytes = list_all is_digit bytes && nat_lt 0 (length bytes) && (length bytes == 1 || not (slice_index bytes 0 == 48))

-- digits that don't begin with `0`
abbrev pub is_positive : List ℕ → Bool
is_positive bytes = is_natural bytes && not (slice_index bytes 0 == 48)

-- a number of 64 bits with a sign
abbrev pub fits_64 : ℤ → Bool
fits_64 (pos n) = nat_lt n (2 ^ 63)
fits_64 (negsuc n) = nat_lt n (2 ^ 63)

-- a number that has the form, where it fits
abbrev pub within_64 : ℤ → Result ℤ NumberFault
within_64 z = if fits_64 z then Ok z else Err TooWide

-- the number in a word without a sign
abbrev pub natural_in : List ℕ → Result ℤ NumberFault
natural_in digits = if is_natural digits then within_64 (pos (digits_value 10 digits)) else Err NotANumber

-- the number behind a `-`
abbrev pub negative_in : List ℕ → Result ℤ NumberFault
negative_in digits = if is_positive digits then within_64 (neg_ℤ (pos (digits_value 10 digits))) else Err NotANumber

-- the number in a word, or why there is none: a number is `0`, or digits that don't begin with 0, or `-` and the latter
abbrev pub number_in : List ℕ → Result ℤ NumberFault
number_in [] = Err NotANumber
number_in (b ∷ bs) = if b == 45 then negative_in bs else natural_in (b ∷ bs)

-- `-10` is a number; `01` and `-0` are none
minus_ten : number_in (45 ∷ 49 ∷ 48 ∷ []) ≡ Ok (negsuc 9)
minus_ten = refl

leading_zero : number_in (48 ∷ 49 ∷ []) ≡ Err NotANumber
leading_zero = refl

minus_zero : number_in (45 ∷ 48 ∷ []) ≡ Err NotANumber
minus_zero = refl
