-- The pieces between the bytes of one value.
use Rattle.std.proofs.Common.{◌≡◌, ℕ, ◌+◌, ◌<◌, Bool, eqb, List, [], ◌∷◌, length, take, drop, Some, None, refl, sym, ap, subst, ◌∙◌, arith, inl, inr}
use Rattle.std.specs.List.{position, position_or_len, slice_split}
use Rattle.std.proofs.lemmas.Bool.{cases_Bool}
use Rattle.std.proofs.lemmas.List.{drop-drop}
use Rattle.std.proofs.lemmas.List.Splits.{slice_split_first}
use Rattle.fx_text.proofs.Positions.{found_at, found_nowhere}
use Rattle.fx_lines.specs.Forms.{pieces}

-- up to the first such byte
pub piece_found : (byte : ℕ) (bytes : List ℕ) (place : ℕ) → Some place ≡ position (λ b. eqb b byte) bytes
    → pieces byte bytes ≡ take place bytes ∷ pieces byte (drop (place + 1) bytes)
piece_found byte bytes place e =
    let f = found_at (λ b. eqb b byte) bytes place (sym e) in
    let within : position_or_len (λ b. eqb b byte) bytes < length bytes = rw f.1 f.0 in
    subst (λ k. pieces byte bytes ≡ take k bytes ∷ pieces byte (drop (k + 1) bytes)) f.1 (slice_split_first (λ b. eqb b byte) bytes 0 within)

whole : (p : ℕ → Bool) (xs : List ℕ) → position_or_len p xs ≡ length xs → slice_split p xs ≡ xs ∷ []
whole p [] e = refl
whole p (x ∷ xs) e = elim (cases_Bool (p x)) [
  | inl t ↦ let none : 0 ≡ length (x ∷ xs) = rw t at e in absurd (omega arith)
  | inr f ↦ let same : position_or_len p (x ∷ xs) ≡ position_or_len p xs + 1 = rw f (omega arith) in rw f (rw (whole p xs (omega arith)) refl)
]

-- with no such byte
pub last_piece : (byte : ℕ) (bytes : List ℕ) → None ≡ position (λ b. eqb b byte) bytes → pieces byte bytes ≡ bytes ∷ []
last_piece byte bytes e = whole (λ b. eqb b byte) bytes (found_nowhere (λ b. eqb b byte) bytes (sym e))

-- a front and a rest that were cut off there
pub cut : (byte : ℕ) (bytes : List ℕ) (place : ℕ) (front back rest : List ℕ) → Some place ≡ position (λ b. eqb b byte) bytes → front ≡ take place bytes → back ≡ drop place bytes → rest ≡ drop 1 back
    → pieces byte bytes ≡ front ∷ pieces byte rest
cut byte bytes place front back rest at front_is back_is rest_is =
    let behind : drop (place + 1) bytes ≡ rest = sym (drop-drop 1 place bytes) ∙ ap (drop 1) (sym back_is) ∙ sym rest_is in
    piece_found byte bytes place at ∙ ap (λ f. f ∷ pieces byte (drop (place + 1) bytes)) (sym front_is) ∙ ap (λ r. front ∷ pieces byte r) behind
