-- Digits and the numbers that they spell.
use Rattle.std.proofs.Common.{◌≡◌, ℕ, zero, suc, ◌+◌, ◌-◌, ◌*◌, ◌/◌, ◌%◌, ◌^◌, ◌<◌, ◌≤◌, min, true, false, not, ◌&&◌, ◌||◌, eqb, leb, ltb, List, [], ◌∷◌, ◌++◌, length, take, get_or, Result, Ok, Err, refl, sym, ap, subst, ◌∙◌, arith, inl, inr}
use Rattle.std.specs.Prelude.{ℤ, pos, negsuc, neg_ℤ, int_lt, IfOk}
use Rattle.std.specs.Fmt.{decimal, signed_decimal}
use Rattle.std.specs.Int.{FitsUnsignedBits}
use lib.IntN.{nat_abs}
use mir.Syntax.{w64}
use mir.Val.{to_z, of_z, SFits}
use Rattle.std.specs.List.{list_all}
use Rattle.std.specs.Str.Parse.{digits_value}
use Rattle.std.proofs.lemmas.Bool.{and_parts, and_from, cases_Bool, or_cases, or_right, not_from_false, eqb-true, eq-eqb, ne_eqb, leb-true, le-leb, ltb-true, ltb-false, lt-ltb}
use Rattle.std.proofs.lemmas.Fmt.{decimal-digits_value, decimal_step, digits_decimal, digits_value-decimal, decimal_nonempty, decimal_digit, first_decimal}
use Rattle.std.proofs.lemmas.Int.{to_z-of_z}
use Rattle.std.proofs.lemmas.Int.Digits.{digits_value_more}
use Rattle.std.proofs.lemmas.Str.{digit_value_digit}
use Rattle.std.proofs.lemmas.Str.Parse.{IsDigitsTest, IsNumeralModel, numerals_by_value}
use Rattle.fx_text.specs.declared.number.NumberFault.{NumberFault}
use Rattle.fx_text.specs.declared.number.NumberFault.TheVariants.{NotANumber, TooWide}
use Rattle.fx_text.specs.Numbers.{is_digit, is_natural, is_positive, fits_64, within_64, natural_in, negative_in, number_in}

digit_range : (b : ℕ) → is_digit b ≡ true → (48 ≤ b) × (b ≤ 57)
digit_range b h = let p = and_parts (leb 48 b) (leb b 57) h in (leb-true 48 b p.0, leb-true b 57 p.1)

digit_from : (b : ℕ) → 48 ≤ b → b ≤ 57 → is_digit b ≡ true
digit_from b low high = and_from (leb 48 b) (leb b 57) (le-leb 48 b low) (le-leb b 57 high)

pub digit_at : (ds : List ℕ) (i : ℕ) → list_all is_digit ds ≡ true → i < length ds → (48 ≤ get_or ds i 0) × (get_or ds i 0 ≤ 57)
digit_at [] i h l = absurd (omega arith)
digit_at (d ∷ ds) zero h l = digit_range d (and_parts (is_digit d) (list_all is_digit ds) h).0
digit_at (d ∷ ds) (suc i) h l = digit_at ds i (and_parts (is_digit d) (list_all is_digit ds) h).1 (omega arith)

-- all digits, as std's words for numerals
abbrev pub AreDigits : List ℕ → Type 0
AreDigits ds = list_all is_digit ds ≡ true

tells : IsDigitsTest AreDigits
tells = record {
  empty = refl;
  parts = λ c cs h. let p = and_parts (is_digit c) (list_all is_digit cs) h in (digit_range c p.0, p.1);
  more = λ c cs r h. and_from (is_digit c) (list_all is_digit cs) (digit_from c r.0 r.1) h;
}

own : IsNumeralModel AreDigits (digits_value 10)
own = numerals_by_value AreDigits tells

-- one digit more, as far as the value fits
pub digits_more : (ds : List ℕ) (i v m d a : ℕ) → i < length ds → list_all is_digit ds ≡ true → v ≡ min (digits_value 10 (take i ds)) (2 ^ 64 - 1)
    → m ≡ min (v * 10) (2 ^ 64 - 1) → d ≡ get_or ds i 0 - 48 → a ≡ min (m + d) (2 ^ 64 - 1) → a ≡ min (digits_value 10 (take (i + 1) ds)) (2 ^ 64 - 1)
digits_more ds i v m d a l all vv mm dd aa =
    let range = digit_at ds i all l in
    omega (arith, digits_value_more 10 ds i l, digit_value_digit (get_or ds i 0) range)

-- digits in their one form are the decimal text of their value
natural_text : (ds : List ℕ) → is_natural ds ≡ true → digits_value 10 ds < 2 ^ 64 → decimal (digits_value 10 ds) ≡ ds
natural_text ds h l =
    let p = and_parts (list_all is_digit ds && ltb 0 (length ds)) (eqb (length ds) 1 || not (eqb (get_or ds 0 0) 48)) h in
    let q = and_parts (list_all is_digit ds) (ltb 0 (length ds)) p.0 in
    let lone : get_or ds 0 0 ≡ 48 → length ds ≡ 1 = λ e. elim (or_cases (eqb (length ds) 1) (not (eqb (get_or ds 0 0) 48)) p.1) [
      | inl one ↦ eqb-true (length ds) 1 one
      | inr other ↦ let no : not true ≡ true = rw (eq-eqb (get_or ds 0 0) 48 e) at other in absurd cc
    ] in
    decimal-digits_value own ds q.0 (ltb-true 0 (length ds) q.1) lone l

-- which number it is, where it is within 64 bits
within_is : (z y : ℤ) → within_64 z ≡ Ok y → (fits_64 z ≡ true) × (z ≡ y)
within_is z y e = elim (cases_Bool (fits_64 z)) [
  | inl t ↦ let s : Ok z ≡ Ok y = rw t at e in (t, cc)
  | inr f ↦ let s : Err TooWide ≡ Ok y = rw f at e in absurd cc
]

natural_spelled : (ds : List ℕ) (z : ℤ) → natural_in ds ≡ Ok z → ds ≡ signed_decimal z
natural_spelled ds z e = elim (cases_Bool (is_natural ds)) [
  | inl t ↦
      let w = within_is (pos (digits_value 10 ds)) z (rw t at e) in
      let l : digits_value 10 ds < 2 ^ 63 = ltb-true (digits_value 10 ds) (2 ^ 63) w.0 in
      sym (natural_text ds t (omega arith)) ∙ ap signed_decimal w.1
  | inr f ↦ let s : Err NotANumber ≡ Ok z = rw f at e in absurd cc
]

negative_text : (n : ℕ) (ds : List ℕ) → n ≡ digits_value 10 ds → is_positive ds ≡ true → fits_64 (neg_ℤ (pos n)) ≡ true → 45 ∷ ds ≡ signed_decimal (neg_ℤ (pos n))
negative_text zero ds is h fits =
    let p = and_parts (is_natural ds) (not (eqb (get_or ds 0 0) 48)) h in
    let text : decimal 0 ≡ ds = ap decimal is ∙ natural_text ds p.0 (omega arith) in
    let first : 48 ≡ get_or ds 0 0 = ap (λ (l : List ℕ). get_or l 0 0) (sym (decimal_digit 0 (omega arith)) ∙ text) in
    let no : not true ≡ true = rw (eq-eqb (get_or ds 0 0) 48 (sym first)) at p.1 in
    absurd cc
negative_text (suc n) ds is h fits =
    let p = and_parts (is_natural ds) (not (eqb (get_or ds 0 0) 48)) h in
    let l : n < 2 ^ 63 = ltb-true n (2 ^ 63) fits in
    let text : decimal (suc n) ≡ ds = ap decimal is ∙ natural_text ds p.0 (omega arith) in
    ap (λ (l : List ℕ). 45 ∷ l) (sym text)

negative_spelled : (ds : List ℕ) (z : ℤ) → negative_in ds ≡ Ok z → 45 ∷ ds ≡ signed_decimal z
negative_spelled ds z e = elim (cases_Bool (is_positive ds)) [
  | inl t ↦
      let w = within_is (neg_ℤ (pos (digits_value 10 ds))) z (rw t at e) in
      negative_text (digits_value 10 ds) ds refl t w.0 ∙ ap signed_decimal w.1
  | inr f ↦ let s : Err NotANumber ≡ Ok z = rw f at e in absurd cc
]

-- what is read is spelled so
pub number_spelled : (word : List ℕ) (z : ℤ) → number_in word ≡ Ok z → word ≡ signed_decimal z
number_spelled [] z e = absurd cc
number_spelled (b ∷ bs) z e = elim (cases_Bool (eqb b 45)) [
  | inl t ↦
      let s : negative_in bs ≡ Ok z = rw t at e in
      rw (eqb-true b 45 t) (negative_spelled bs z s)
  | inr f ↦ let s : natural_in (b ∷ bs) ≡ Ok z = rw f at e in natural_spelled (b ∷ bs) z s
]

pub if_spelled : (word : List ℕ) (r : Result ℤ NumberFault) → r ≡ number_in word → IfOk r (λ z. word ≡ signed_decimal z)
if_spelled word (Ok z) e = number_spelled word z (sym e)
if_spelled word (Err f) e = tt

-- the first digit of a number above 0
not_48 : (n : ℕ) → suc n < 2 ^ 64 → not (eqb (get_or (decimal (suc n)) 0 0) 48) ≡ true
not_48 n l = not_from_false (eqb (get_or (decimal (suc n)) 0 0) 48) (ne_eqb (get_or (decimal (suc n)) 0 0) 48 (λ e. absurd (omega (arith, first_decimal (suc n) (omega arith) l))))

natural_form : (n : ℕ) → n < 2 ^ 64 → is_natural (decimal n) ≡ true
natural_form zero l = rw (decimal_digit 0 (omega arith)) refl
natural_form (suc n) l =
    and_from (list_all is_digit (decimal (suc n)) && ltb 0 (length (decimal (suc n)))) (eqb (length (decimal (suc n))) 1 || not (eqb (get_or (decimal (suc n)) 0 0) 48))
    (and_from (list_all is_digit (decimal (suc n))) (ltb 0 (length (decimal (suc n)))) (digits_decimal own (suc n) l) (lt-ltb 0 (length (decimal (suc n))) (decimal_nonempty (suc n) l)))
    (or_right (eqb (length (decimal (suc n))) 1) (not (eqb (get_or (decimal (suc n)) 0 0) 48)) (not_48 n l))

not_minus : (b : ℕ) (bs : List ℕ) → is_natural (b ∷ bs) ≡ true → number_in (b ∷ bs) ≡ natural_in (b ∷ bs)
not_minus b bs h =
    let p = and_parts (list_all is_digit (b ∷ bs) && ltb 0 (length (b ∷ bs))) (eqb (length (b ∷ bs)) 1 || not (eqb b 48)) h in
    let q = and_parts (list_all is_digit (b ∷ bs)) (ltb 0 (length (b ∷ bs))) p.0 in
    let range = digit_at (b ∷ bs) 0 q.0 (omega arith) in
    rw (ne_eqb b 45 (λ e. absurd (omega (arith, range)))) refl

natural_again : (word : List ℕ) (n : ℕ) → word ≡ decimal n → n < 2 ^ 63 → number_in word ≡ Ok (pos n)
natural_again [] n e l = absurd (omega (arith, decimal_nonempty n (omega arith), ap length e))
natural_again (b ∷ bs) n e l =
    let form : is_natural (b ∷ bs) ≡ true = ap is_natural e ∙ natural_form n (omega arith) in
    let value : digits_value 10 (b ∷ bs) ≡ n = ap (digits_value 10) e ∙ digits_value-decimal own n (omega arith) in
    not_minus b bs form ∙ rw (form, value, lt-ltb n (2 ^ 63) l) refl

-- what is spelled so is read
pub number_again : (z : ℤ) → fits_64 z ≡ true → number_in (signed_decimal z) ≡ Ok z
number_again (pos n) fits = natural_again (decimal n) n refl (ltb-true n (2 ^ 63) fits)
number_again (negsuc n) fits =
    let l : n < 2 ^ 63 = ltb-true n (2 ^ 63) fits in
    let form : is_positive (decimal (suc n)) ≡ true =
    and_from (is_natural (decimal (suc n))) (not (eqb (get_or (decimal (suc n)) 0 0) 48)) (natural_form (suc n) (omega arith)) (not_48 n (omega arith)) in
    rw (form, digits_value-decimal own (suc n) (omega arith), fits) refl

-- a number that was read fits
pub fits_if_read : (z : ℤ) (y : ℤ) → within_64 z ≡ Ok y → fits_64 y ≡ true
fits_if_read z y e = let w = within_is z y e in subst (λ (v : ℤ). fits_64 v ≡ true) w.1 w.0

natural_fits : (ds : List ℕ) (z : ℤ) → natural_in ds ≡ Ok z → fits_64 z ≡ true
natural_fits ds z e = elim (cases_Bool (is_natural ds)) [
  | inl t ↦ fits_if_read (pos (digits_value 10 ds)) z (rw t at e)
  | inr f ↦ let s : Err NotANumber ≡ Ok z = rw f at e in absurd cc
]

negative_fits : (ds : List ℕ) (z : ℤ) → negative_in ds ≡ Ok z → fits_64 z ≡ true
negative_fits ds z e = elim (cases_Bool (is_positive ds)) [
  | inl t ↦ fits_if_read (neg_ℤ (pos (digits_value 10 ds))) z (rw t at e)
  | inr f ↦ let s : Err NotANumber ≡ Ok z = rw f at e in absurd cc
]

pub number_fits : (word : List ℕ) (z : ℤ) → number_in word ≡ Ok z → fits_64 z ≡ true
number_fits [] z e = absurd cc
number_fits (b ∷ bs) z e = elim (cases_Bool (eqb b 45)) [
  | inl t ↦ let s : negative_in bs ≡ Ok z = rw t at e in negative_fits bs z s
  | inr f ↦ let s : natural_in (b ∷ bs) ≡ Ok z = rw f at e in natural_fits (b ∷ bs) z s
]

-- a byte's number below 10 is written as one digit
digit_of : (digit : ℕ) (z : ℤ) → digit < 10 → FitsUnsignedBits 8 z × (digit ≡ nat_abs z) → (48 + digit) ∷ [] ≡ signed_decimal z
digit_of digit (pos n) small is = sym (ap decimal (sym is.1) ∙ decimal_digit digit small)
digit_of digit (negsuc n) small is = absurd is.0

-- the same of a number as it is handed to a call
pub one_digit : (digit : ℕ) (z : ℤ) → digit < 10 → SFits w64 z → FitsUnsignedBits 8 (to_z w64 (of_z w64 z)) × (digit ≡ nat_abs (to_z w64 (of_z w64 z)))
    → (48 + digit) ∷ [] ≡ signed_decimal z
one_digit digit z small fits is = digit_of digit z small (subst (λ y. FitsUnsignedBits 8 y × (digit ≡ nat_abs y)) (to_z-of_z w64 z fits) is)

plain_digit : (z : ℤ) → int_lt z (pos 0) ≡ false → int_lt (pos 9) z ≡ false → (48 + nat_abs z) ∷ [] ≡ signed_decimal z
plain_digit (pos n) low high = sym (decimal_digit n (omega (arith, ltb-false 9 n high)))
plain_digit (negsuc n) low high = absurd cc

-- the same of a number that is not below 0 and not above 9
pub digit_between : (z : ℤ) → SFits w64 z → int_lt (to_z w64 (of_z w64 z)) (pos 0) ≡ false → int_lt (pos 9) (to_z w64 (of_z w64 z)) ≡ false
    → (48 + nat_abs (to_z w64 (of_z w64 z))) ∷ [] ≡ signed_decimal z
digit_between z fits low high = plain_digit (to_z w64 (of_z w64 z)) low high ∙ ap signed_decimal (to_z-of_z w64 z fits)

plain_two : (z : ℤ) → int_lt z (pos 10) ≡ false → int_lt (pos 99) z ≡ false → (48 + nat_abs z / 10) ∷ (48 + nat_abs z % 10) ∷ [] ≡ signed_decimal z
plain_two (pos n) low high =
    let least : 10 ≤ n = ltb-false n 10 low in
    let most : n ≤ 99 = ltb-false 99 n high in
    sym (decimal_step n least (omega arith) ∙ ap (λ (l : List ℕ). l ++ (48 + n % 10) ∷ []) (decimal_digit (n / 10) (omega arith)))
plain_two (negsuc n) low high = absurd cc

-- a number that is not below 10 and not above 99 is written as two digits
pub two_digits_between : (z : ℤ) → SFits w64 z → int_lt (to_z w64 (of_z w64 z)) (pos 10) ≡ false → int_lt (pos 99) (to_z w64 (of_z w64 z)) ≡ false
    → (48 + nat_abs (to_z w64 (of_z w64 z)) / 10) ∷ (48 + nat_abs (to_z w64 (of_z w64 z)) % 10) ∷ [] ≡ signed_decimal z
two_digits_between z fits low high = plain_two (to_z w64 (of_z w64 z)) low high ∙ ap signed_decimal (to_z-of_z w64 z fits)
