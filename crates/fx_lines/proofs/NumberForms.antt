-- Numbers are read as they are spelled.
use Rattle.std.proofs.Common.{◌≡◌, ℕ, suc, ◌^◌, ◌<◌, ◌≤◌, Bool, true, not, eqb, leb, ltb, List, Result, Ok, Err, refl, sym, ap, ◌∙◌, arith, inl, inr}
use Rattle.std.specs.Prelude.{ℤ, pos, negsuc, Option, Some, None}
use Rattle.std.specs.Fmt.{decimal, signed_decimal}
use Rattle.std.specs.List.{list_all}
use Rattle.std.specs.Option.{option_map}
use Rattle.std.specs.Str.Parse.{digits_value}
use Rattle.std.proofs.lemmas.Bool.{and_parts, and_from, cases_Bool, not_from_false, ne_eqb, leb-true, le-leb, ltb-true, lt-ltb}
use Rattle.std.proofs.lemmas.Fmt.{digits_decimal}
use Rattle.std.proofs.lemmas.Str.Parse.{IsDigitsTest, IsNumeralModel, numerals_by_value}
use Rattle.fx_text.proofs.NumberLemmas.{number_again, number_spelled, number_fits}
use Rattle.fx_text.specs.Numbers.{is_digit, number_in, fits_64}
use Rattle.fx_text.specs.declared.number.NumberFault.{NumberFault}
use Rattle.fx_lines.specs.Forms.{WordForm, natural, natural_below, integer, integer_in, wrapped}
use Rattle.fx_lines.proofs.Separated.{no_space, no_comma, no_equals, all_weaker}
use Rattle.fx_lines.proofs.Sound.{IsSoundWord}

-- a byte that is none of the three which part words
pub free_of : (b : ℕ) → (b ≡ 61 → ⊥) → (b ≡ 44 → ⊥) → (b ≡ 32 → ⊥) → no_equals b ≡ true
free_of b equals comma space =
    and_from (not (eqb b 61)) (no_comma b) (not_from_false (eqb b 61) (ne_eqb b 61 equals))
    (and_from (not (eqb b 44)) (no_space b) (not_from_false (eqb b 44) (ne_eqb b 44 comma)) (not_from_false (eqb b 32) (ne_eqb b 32 space)))

digit_range : (b : ℕ) → is_digit b ≡ true → (48 ≤ b) × (b ≤ 57)
digit_range b h = let p = and_parts (leb 48 b) (leb b 57) h in (leb-true 48 b p.0, leb-true b 57 p.1)

digit_free : (b : ℕ) → is_digit b ≡ true → no_equals b ≡ true
digit_free b h =
    let range = digit_range b h in
    free_of b (λ e. absurd (omega (arith, range))) (λ e. absurd (omega (arith, range))) (λ e. absurd (omega (arith, range)))

abbrev AreDigits : List ℕ → Type 0
AreDigits ds = list_all is_digit ds ≡ true

tells : IsDigitsTest AreDigits
tells = record {
  empty = refl;
  parts = λ c cs h. let p = and_parts (is_digit c) (list_all is_digit cs) h in (digit_range c p.0, p.1);
  more = λ c cs r h. and_from (is_digit c) (list_all is_digit cs) (and_from (leb 48 c) (leb c 57) (le-leb 48 c r.0) (le-leb c 57 r.1)) h;
}

own : IsNumeralModel AreDigits (digits_value 10)
own = numerals_by_value AreDigits tells

decimal_free : (n : ℕ) → n < 2 ^ 64 → list_all no_equals (decimal n) ≡ true
decimal_free n below = all_weaker is_digit no_equals digit_free (decimal n) (digits_decimal own n below)

-- ---- natural numbers

natural_read : (bound : ℕ) (r : Result ℤ NumberFault) (n : ℕ) → natural_below bound r ≡ Some n → (r ≡ Ok (pos n)) × (ltb n bound ≡ true)
natural_read bound (Ok (pos m)) n e = elim (cases_Bool (ltb m bound)) [
  | inl t ↦ let s : Some m ≡ Some n = rw t at e in let same : m ≡ n = cc in (ap (λ k. Ok (pos k)) same, ap (λ k. ltb k bound) (sym same) ∙ t)
  | inr f ↦ let s : None ≡ Some n = rw f at e in absurd cc
]
natural_read bound (Ok (negsuc m)) n e = absurd cc
natural_read bound (Err fault) n e = absurd cc

pub natural_sound : (bound : ℕ) → bound ≤ 2 ^ 63 → IsSoundWord no_equals (natural bound)
natural_sound bound within = record {
  again = λ n has fits.
      let below : n < bound = ltb-true n bound fits in
      rw (number_again (pos n) (lt-ltb n (2 ^ 63) (omega arith)), fits) refl;
  back = λ word n e. let r = natural_read bound (number_in word) n e in (sym (number_spelled word (pos n) r.0), refl, r.1);
  clean = λ n has fits. let below : n < bound = ltb-true n bound fits in decimal_free n (omega arith);
}

-- ---- numbers with a sign

integer_read : (r : Result ℤ NumberFault) (z : ℤ) → integer_in r ≡ Some z → r ≡ Ok z
integer_read (Ok y) z e = cc
integer_read (Err fault) z e = absurd cc

signed_free : (z : ℤ) → fits_64 z ≡ true → list_all no_equals (signed_decimal z) ≡ true
signed_free (pos n) fits = let below : n < 2 ^ 63 = ltb-true n (2 ^ 63) fits in decimal_free n (omega arith)
signed_free (negsuc n) fits = let below : n < 2 ^ 63 = ltb-true n (2 ^ 63) fits in decimal_free (suc n) (omega arith)

pub integer_sound : IsSoundWord no_equals integer
integer_sound = record {
  again = λ z has fits. rw (number_again z fits) refl;
  back = λ word z e. let r = integer_read (number_in word) z e in (sym (number_spelled word z r), refl, number_fits word z r);
  clean = λ z has fits. signed_free z fits;
}

-- ---- what wraps another value

pub mapped : {A B : Type 0} (f : A → B) (o : Option A) (b : B) → option_map f o ≡ Some b → (a : A) × (o ≡ Some a) × (f a ≡ b)
mapped f (Some a) b e = (a, refl, cc)
mapped f None b e = absurd cc

pub wrapped_sound : {A B : Type 0} (free : ℕ → Bool) (wrap : A → B) (inside : B → A) (form : WordForm A) → ((b : B) → wrap (inside b) ≡ b) → ((a : A) → inside (wrap a) ≡ a)
    → IsSoundWord free form → IsSoundWord free (wrapped wrap inside form)
wrapped_sound free wrap inside form whole bare sound = record {
  again = λ b has fits. ap (option_map wrap) (sound.again (inside b) has fits) ∙ ap Some (whole b);
  back = λ word b e.
      let m = mapped wrap (form.read word) b e in
      let r = sound.back word m.0 m.1 in
      let same : inside b ≡ m.0 = ap inside (sym m.2) ∙ bare m.0 in
      (ap form.spell same ∙ r.0, ap form.has_word same ∙ r.1, ap form.in_type same ∙ r.2);
  clean = λ b has fits. sound.clean (inside b) has fits;
}
