-- Bytes are read as their digits spell them.
use Rattle.std.proofs.Common.{◌≡◌, ℕ, ◌+◌, ◌-◌, ◌*◌, ◌/◌, ◌%◌, ◌<◌, ◌≤◌, true, false, ◌&&◌, leb, ltb, List, [], ◌∷◌, refl, sym, ap, ◌∙◌, arith, inl, inr}
use Rattle.std.specs.Prelude.{Option, Some, None}
use Rattle.std.specs.Fmt.{digit_glyph}
use Rattle.std.specs.List.{list_all}
use Rattle.std.specs.Option.{option_map}
use Rattle.std.proofs.lemmas.Bool.{and_parts, and_from, cases_Bool, leb-true, le-leb, ltb-true, ltb-false, lt-ltb}
use Rattle.fx_lines.specs.Forms.{both}
use Rattle.fx_lines.specs.Hex.{hex_of, hex_digit, hex_byte, bytes_in, hex}
use Rattle.fx_lines.proofs.Separated.{no_equals}
use Rattle.fx_lines.proofs.Sound.{IsSoundWord}
use Rattle.fx_lines.proofs.NumberForms.{free_of}

-- ---- one digit

low_digit : (c : ℕ) → 48 ≤ c → c ≤ 57 → hex_digit c ≡ Some (c - 48)
low_digit c low high = rw (and_from (leb 48 c) (leb c 57) (le-leb 48 c low) (le-leb c 57 high)) refl

past_57 : (c : ℕ) → 97 ≤ c → (leb 48 c && leb c 57) ≡ false
past_57 c low = elim (cases_Bool (leb 48 c && leb c 57)) [
  | inl t ↦ absurd (omega (arith, leb-true c 57 (and_parts (leb 48 c) (leb c 57) t).1))
  | inr f ↦ f
]

high_digit : (c : ℕ) → 97 ≤ c → c ≤ 102 → hex_digit c ≡ Some (c - 87)
high_digit c low high = rw (past_57 c low, and_from (leb 97 c) (leb c 102) (le-leb 97 c low) (le-leb c 102 high)) refl

not_below : (d : ℕ) → ltb d 10 ≡ false → 10 ≤ d
not_below d f = ltb-false d 10 f

glyph_low : (d : ℕ) → ltb d 10 ≡ true → digit_glyph false d ≡ 48 + d
glyph_low d t = rw t refl

glyph_high : (d : ℕ) → ltb d 10 ≡ false → digit_glyph false d ≡ 87 + d
glyph_high d f = rw f refl

digit_again : (d : ℕ) → d < 16 → hex_digit (digit_glyph false d) ≡ Some d
digit_again d below = elim (cases_Bool (ltb d 10)) [
  | inl t ↦
      let less : d < 10 = ltb-true d 10 t in
      let back : (48 + d) - 48 ≡ d = omega arith in
      ap hex_digit (glyph_low d t) ∙ low_digit (48 + d) (omega arith) (omega arith) ∙ ap Some back
  | inr f ↦
      let more : 10 ≤ d = not_below d f in
      let back : (87 + d) - 87 ≡ d = omega arith in
      ap hex_digit (glyph_high d f) ∙ high_digit (87 + d) (omega arith) (omega arith) ∙ ap Some back
]

past_ten : (d : ℕ) → 10 ≤ d → ltb d 10 ≡ false
past_ten d more = elim (cases_Bool (ltb d 10)) [
  | inl t ↦ absurd (omega (arith, ltb-true d 10 t))
  | inr f ↦ f
]

digit_back : (c d : ℕ) → hex_digit c ≡ Some d → (digit_glyph false d ≡ c) × (d < 16)
digit_back c d e = elim (cases_Bool (leb 48 c && leb c 57)) [
  | inl t ↦
      let p = and_parts (leb 48 c) (leb c 57) t in
      let low : 48 ≤ c = leb-true 48 c p.0 in
      let high : c ≤ 57 = leb-true c 57 p.1 in
      let s : Some (c - 48) ≡ Some d = rw t at e in
      let same : c - 48 ≡ d = cc in
      let back : 48 + d ≡ c = omega arith in
      (glyph_low d (lt-ltb d 10 (omega arith)) ∙ back, omega arith)
  | inr f ↦ elim (cases_Bool (leb 97 c && leb c 102)) [
    | inl t ↦
        let p = and_parts (leb 97 c) (leb c 102) t in
        let low : 97 ≤ c = leb-true 97 c p.0 in
        let high : c ≤ 102 = leb-true c 102 p.1 in
        let s : Some (c - 87) ≡ Some d = rw (f, t) at e in
        let same : c - 87 ≡ d = cc in
        let back : 87 + d ≡ c = omega arith in
        (glyph_high d (past_ten d (omega arith)) ∙ back, omega arith)
    | inr g ↦ let s : None ≡ Some d = rw (f, g) at e in absurd cc
  ]
]

glyph_free : (d : ℕ) → d < 16 → no_equals (digit_glyph false d) ≡ true
glyph_free d below = elim (cases_Bool (ltb d 10)) [
  | inl t ↦
      let less : d < 10 = ltb-true d 10 t in
      ap no_equals (glyph_low d t) ∙ free_of (48 + d) (λ e. absurd (omega arith)) (λ e. absurd (omega arith)) (λ e. absurd (omega arith))
  | inr f ↦
      let more : 10 ≤ d = not_below d f in
      ap no_equals (glyph_high d f) ∙ free_of (87 + d) (λ e. absurd (omega arith)) (λ e. absurd (omega arith)) (λ e. absurd (omega arith))
]

-- ---- one byte

higher : (b : ℕ) → b < 256 → b / 16 < 16
higher b below = omega arith

lower : (b : ℕ) → b % 16 < 16
lower b = omega arith

byte_again : (b : ℕ) → b < 256 → hex_byte (digit_glyph false (b / 16)) (digit_glyph false (b % 16)) ≡ Some b
byte_again b below =
    let whole : (b / 16) * 16 + b % 16 ≡ b = omega arith in
    rw (digit_again (b / 16) (higher b below), digit_again (b % 16) (lower b)) (ap Some whole)

byte_parts : (p q : Option ℕ) (b : ℕ) → option_map (λ (d : ℕ × ℕ). d.0 * 16 + d.1) (both p q) ≡ Some b → (h : ℕ) × (l : ℕ) × (p ≡ Some h) × (q ≡ Some l) × (h * 16 + l ≡ b)
byte_parts (Some h) (Some l) b e = (h, l, refl, refl, cc)
byte_parts (Some h) None b e = absurd cc
byte_parts None q b e = absurd cc

quotient : (h l b : ℕ) → h * 16 + l ≡ b → l < 16 → b / 16 ≡ h
quotient h l b e below = omega arith

remainder : (h l b : ℕ) → h * 16 + l ≡ b → l < 16 → b % 16 ≡ l
remainder h l b e below = omega arith

byte_back : (high low b : ℕ) → hex_byte high low ≡ Some b → (digit_glyph false (b / 16) ≡ high) × (digit_glyph false (b % 16) ≡ low) × (b < 256)
byte_back high low b e =
    let p = byte_parts (hex_digit high) (hex_digit low) b e in
    let h = digit_back high p.0 p.2 in
    let l = digit_back low p.1 p.3 in
    (ap (digit_glyph false) (quotient p.0 p.1 b p.4 l.1) ∙ h.0, ap (digit_glyph false) (remainder p.0 p.1 b p.4 l.1) ∙ l.0, omega (arith, p.4, h.1, l.1))

-- ---- all bytes

again : (bytes : List ℕ) → list_all (λ b. ltb b 256) bytes ≡ true → bytes_in (hex_of bytes) ≡ Some bytes
again [] h = refl
again (b ∷ bs) h =
    let p = and_parts (ltb b 256) (list_all (λ b. ltb b 256) bs) h in
    rw (byte_again b (ltb-true b 256 p.0), again bs p.1) refl

first_and_rest : (o : Option ℕ) (p : Option (List ℕ)) (bytes : List ℕ) → option_map (λ (v : ℕ × List ℕ). v.0 ∷ v.1) (both o p) ≡ Some bytes
    → (b : ℕ) × (bs : List ℕ) × (o ≡ Some b) × (p ≡ Some bs) × (b ∷ bs ≡ bytes)
first_and_rest (Some b) (Some bs) bytes e = (b, bs, refl, refl, cc)
first_and_rest (Some b) None bytes e = absurd cc
first_and_rest None p bytes e = absurd cc

back : (word bytes : List ℕ) → bytes_in word ≡ Some bytes → (hex_of bytes ≡ word) × (list_all (λ b. ltb b 256) bytes ≡ true)
back [] bytes e = let same : [] ≡ bytes = cc in (ap hex_of (sym same), ap (list_all (λ b. ltb b 256)) (sym same))
back (c ∷ []) bytes e = absurd cc
back (high ∷ low ∷ rest) bytes e =
    let f = first_and_rest (hex_byte high low) (bytes_in rest) bytes e in
    let b = byte_back high low f.0 f.2 in
    let r = back rest f.1 f.3 in (
      ap hex_of (sym f.4) ∙ (λ i. b.0 i ∷ b.1 i ∷ r.0 i),
      ap (list_all (λ b. ltb b 256)) (sym f.4) ∙ and_from (ltb f.0 256) (list_all (λ b. ltb b 256) f.1) (lt-ltb f.0 256 b.2) r.1,
    )

clean : (bytes : List ℕ) → list_all (λ b. ltb b 256) bytes ≡ true → list_all no_equals (hex_of bytes) ≡ true
clean [] h = refl
clean (b ∷ bs) h =
    let p = and_parts (ltb b 256) (list_all (λ b. ltb b 256) bs) h in
    and_from (no_equals (digit_glyph false (b / 16))) (no_equals (digit_glyph false (b % 16)) && list_all no_equals (hex_of bs)) (glyph_free (b / 16) (higher b (ltb-true b 256 p.0)))
    (and_from (no_equals (digit_glyph false (b % 16))) (list_all no_equals (hex_of bs)) (glyph_free (b % 16) (lower b)) (clean bs p.1))

pub hex_sound : IsSoundWord no_equals hex
hex_sound = record {
  again = λ bytes has fits. again bytes fits;
  back = λ word bytes e. let r = back word bytes e in (r.0, refl, r.1);
  clean = λ bytes has fits. clean bytes fits;
}
