-- Texts that are written piece by piece.
use Rattle.std.proofs.Common.{◌≡◌, ℕ, ℤ, pos, zero, suc, ◌+◌, ◌-◌, ◌<◌, ◌≤◌, List, [], ◌∷◌, ◌++◌, length, map, take, drop, get_or, refl, sym, ap, subst, ◌∙◌, append_assoc, arith}
use Rattle.std.proofs.Math.Seq.{take-length}
use Rattle.std.specs.Prelude.{Some, None, Result, Ok, Err, OnOk}
use Rattle.std.specs.List.{join_with_byte, slice_get}
use Rattle.std.specs.Int.{cast_signed, cast_unsigned, w64}
use Rattle.std.proofs.lemmas.Int.{to_z_pos}
use Rattle.std.proofs.lemmas.List.{append-nil, drop_all}
use Rattle.fx_base.specs.declared.memory.NoMemory.{NoMemory}
use Rattle.fx_text.specs.Written.{Keeps, spaced}
use Rattle.fx_trace.specs.Pieces.{each_behind}

-- what follows from a fact of an Ok is a fact of it
pub on_ok : {A E P Q : Type 0} → (r : Result A E) → (P → Q) → OnOk r P → OnOk r Q
on_ok (Ok a) f p = f p
on_ok (Err e) f p = p

-- joined pieces are the first, and each other one behind the byte
pub joined_by : (byte : ℕ) (piece : List ℕ) (pieces : List (List ℕ)) → join_with_byte byte (piece ∷ pieces) ≡ piece ++ each_behind byte pieces
joined_by byte piece [] = sym (append-nil piece)
joined_by byte piece (next ∷ pieces) = ap (λ rest. piece ++ (byte ∷ rest)) (joined_by byte next pieces)

pub joined_written : (out mid new : List ℕ) (byte : ℕ) (piece : List ℕ) (pieces : List (List ℕ)) → mid ≡ out ++ 32 ∷ piece → new ≡ mid ++ each_behind byte pieces
    → new ≡ out ++ 32 ∷ join_with_byte byte (piece ∷ pieces)
joined_written out mid new byte piece pieces first rest =
    rest ∙ ap (λ front. front ++ each_behind byte pieces) first ∙ append_assoc out (32 ∷ piece) (each_behind byte pieces)
    ∙ ap (λ text. out ++ (32 ∷ text)) (sym (joined_by byte piece pieces))

-- words, each behind a space, are those of a front and those of the rest
pub spaced-append : (front rest : List (List ℕ)) → spaced (front ++ rest) ≡ spaced front ++ spaced rest
spaced-append [] rest = refl
spaced-append (word ∷ front) rest = ap (λ text. (32 ∷ word) ++ text) (spaced-append front rest) ∙ sym (append_assoc (32 ∷ word) (spaced front) (spaced rest))

pub row_written : (out first mid new word : List ℕ) (fields tail : List (List ℕ)) → first ≡ out ++ word → mid ≡ first ++ spaced fields → new ≡ mid ++ spaced tail
    → new ≡ out ++ (word ++ spaced (fields ++ tail))
row_written out first mid new word fields tail one two three =
    three ∙ ap (λ front. front ++ spaced tail) (two ∙ ap (λ front. front ++ spaced fields) one ∙ append_assoc out word (spaced fields))
    ∙ append_assoc out (word ++ spaced fields) (spaced tail)
    ∙ ap (λ text. out ++ text) (append_assoc word (spaced fields) (spaced tail) ∙ ap (λ text. word ++ text) (sym (spaced-append fields tail)))

-- the entry at a place, and those behind it
pub from_place : {X : Type 0} (es : List X) (k : ℕ) (e : X) → slice_get es k ≡ Some e → drop k es ≡ e ∷ drop (k + 1) es
from_place [] k e at = absurd cc
from_place (x ∷ es) zero e at = let same : x ≡ e = cc in ap (λ y. y ∷ es) same
from_place (x ∷ es) (suc k) e at = let next : suc k + 1 ≡ suc (k + 1) = omega arith in rw next (from_place es k e at)

pub entry_written : {X : Type 0} (spell : X → List ℕ) (out whole now mid new : List ℕ) (es : List X) (k : ℕ) (e : X) → Some e ≡ slice_get es k → mid ≡ now ++ 32 ∷ spell e → new ≡ mid
    → (now ++ spaced (map spell (drop k es)) ≡ out ++ whole) × Keeps out now → (new ++ spaced (map spell (drop (k + 1) es)) ≡ out ++ whole) × Keeps out new
entry_written spell out whole now mid new es k e at added same so_far =
    let all : new ≡ now ++ 32 ∷ spell e = same ∙ added in (
      ap (λ front. front ++ spaced (map spell (drop (k + 1) es))) all ∙ append_assoc now (32 ∷ spell e) (spaced (map spell (drop (k + 1) es)))
          ∙ ap (λ l. now ++ spaced (map spell l)) (sym (from_place es k e (sym at))) ∙ so_far.0,
      (so_far.1.0 ++ 32 ∷ spell e, all ∙ ap (λ front. front ++ 32 ∷ spell e) so_far.1.1 ∙ append_assoc out so_far.1.0 (32 ∷ spell e)),
    )

-- at a place below the length there is an entry
pub is_there : {X : Type 0} (es : List X) (k : ℕ) → None ≡ slice_get es k → k < length es → ⊥
is_there [] k none below = omega arith
is_there (e ∷ es) zero none below = cc
is_there (e ∷ es) (suc k) none below = is_there es k none (omega arith)

-- with no entry left, all is written
pub all_written : {X : Type 0} (spell : X → List ℕ) (out whole now : List ℕ) (es : List X) (k : ℕ) → length es ≤ k → now ++ spaced (map spell (drop k es)) ≡ out ++ whole
    → now ≡ out ++ whole
all_written spell out whole now es k past so_far =
    let none : now ++ spaced (map spell []) ≡ out ++ whole = subst (λ l. now ++ spaced (map spell l) ≡ out ++ whole) (drop_all k es past) so_far in
    sym (append-nil now) ∙ none

-- a list by its first value and the others
pub list_written : {X : Type 0} (spell : X → List ℕ) (d : X) (out mid new : List ℕ) (byte : ℕ) (xs : List X) → 1 ≤ length xs → mid ≡ out ++ 32 ∷ spell (get_or xs 0 d)
    → new ≡ mid ++ each_behind byte (map spell (take (length xs - 1) (drop 1 xs))) → new ≡ out ++ 32 ∷ join_with_byte byte (map spell xs)
list_written spell d out mid new byte [] some first rest = absurd (omega arith)
list_written spell d out mid new byte (x ∷ xs) some first rest =
    let len : length (x ∷ xs) - 1 ≡ length xs = omega arith in
    let all : take (length (x ∷ xs) - 1) (drop 1 (x ∷ xs)) ≡ xs = rw len (take-length xs) in
    joined_written out mid new byte (spell x) (map spell xs) first (subst (λ l. new ≡ mid ++ each_behind byte (map spell l)) all rest)

-- the same of a row behind a space
pub spaced_row_written : (out first mid new word : List ℕ) (fields tail : List (List ℕ)) → first ≡ out ++ 32 ∷ word → mid ≡ first ++ spaced fields → new ≡ mid ++ spaced tail
    → new ≡ out ++ spaced ((word ∷ fields) ++ tail)
spaced_row_written out first mid new word fields tail one two three = row_written out first mid new (32 ∷ word) fields tail one two three

-- words that follow a row
pub then_written : (out mid new front : List ℕ) (fields words : List (List ℕ)) → mid ≡ out ++ (front ++ spaced (fields ++ [])) → new ≡ mid ++ spaced words → new ≡ out ++ (front ++ spaced (fields ++ words))
then_written out mid new front fields words one two =
    two ∙ ap (λ text. text ++ spaced words) one ∙ append_assoc out (front ++ spaced (fields ++ [])) (spaced words)
    ∙ ap (λ text. out ++ text)
    (append_assoc front (spaced (fields ++ [])) (spaced words)
    ∙ ap (λ text. front ++ text) (ap (λ f. spaced f ++ spaced words) (append-nil fields) ∙ sym (spaced-append fields words)))

-- a number that isn't negative, as it is read back from where it is stored
pub stored : (z : ℤ) (n : ℕ) → z ≡ pos n → n < 9223372036854775808 → cast_signed w64 (cast_unsigned w64 z) ≡ pos n
stored z n is small = subst (λ (y : ℤ). cast_signed w64 (cast_unsigned w64 y) ≡ pos n) (sym is) (to_z_pos w64 n small)

-- words, or one word, behind a row of fields
pub words_written : (out mid new front : List ℕ) (fields words : List (List ℕ)) → mid ≡ out ++ (front ++ spaced fields) → new ≡ mid ++ spaced words → new ≡ out ++ (front ++ spaced (fields ++ words))
words_written out mid new front fields words one two =
    two ∙ ap (λ text. text ++ spaced words) one ∙ append_assoc out (front ++ spaced fields) (spaced words)
    ∙ ap (λ text. out ++ text) (append_assoc front (spaced fields) (spaced words) ∙ ap (λ text. front ++ text) (sym (spaced-append fields words)))

pub word_written : (out mid new front : List ℕ) (fields : List (List ℕ)) (word : List ℕ) → mid ≡ out ++ (front ++ spaced fields) → new ≡ mid ++ 32 ∷ word → new ≡ out ++ (front ++ spaced (fields ++ word ∷ []))
word_written out mid new front fields word one two = words_written out mid new front fields (word ∷ []) one (two ∙ ap (λ text. mid ++ text) (sym (append-nil (32 ∷ word))))

-- what is written of a value is written of an equal one
pub same_written : {X : Type 0} (text : X → List ℕ) (r : Result (Unit {0}) NoMemory) (out new : List ℕ) (x y : X) → x ≡ y → OnOk r (new ≡ out ++ text y) → OnOk r (new ≡ out ++ text x)
same_written text r out new x y same written = subst (λ z. OnOk r (new ≡ out ++ text z)) (sym same) written
