-- The kind that a table's word names, by its number.
use Rattle.std.proofs.Common.{◌≡◌, ℕ, zero, suc, ◌+◌, ◌≤◌, Bool, cond, ltb, List, [], ◌∷◌, length, map, Option, Some, None, refl, sym, ap, ◌∙◌, arith, inl, inr}
use Rattle.std.specs.Prelude.{option_and_then}
use Rattle.std.specs.List.{find, position, position_or_len, slice_get}
use Rattle.std.specs.Str.{bytes_eq}
use Rattle.std.proofs.lemmas.Bool.{cases_Bool, cases_lt, lt-ltb, le-ltb}
use Rattle.std.proofs.lemmas.List.Folds.{find_at}

-- a test of what a function gives stops where the test stops on what is given
place-map : {A B : Type 0} (f : A → B) (p : B → Bool) (xs : List A) → position_or_len (λ x. p (f x)) xs ≡ position_or_len p (map f xs)
place-map f p [] = refl
place-map f p (x ∷ xs) = elim (cases_Bool (p (f x))) [ inl t ↦ rw t refl | inr n ↦ rw n (ap (λ k. 1 + k) (place-map f p xs)) ]

length-map : {A B : Type 0} (f : A → B) (xs : List A) → length (map f xs) ≡ length xs
length-map f [] = refl
length-map f (x ∷ xs) = ap suc (length-map f xs)

pub past_end : {X : Type 0} (xs : List X) (k : ℕ) → length xs ≤ k → slice_get xs k ≡ None
past_end [] k past = refl
past_end (x ∷ xs) zero past = absurd (omega arith)
past_end (x ∷ xs) (suc k) past = past_end xs k (omega arith)

at_place : {K : Type 0} (ks : List K) (a n : ℕ) → length ks ≡ n → option_and_then (slice_get ks) (cond (ltb a n) (Some a) None) ≡ slice_get ks a
at_place ks a n same = elim (cases_lt a n) [
  | inl l ↦ rw (lt-ltb a n l) refl
  | inr g ↦ rw (le-ltb a n g) (sym (past_end ks a (omega arith)))
]

-- the place among what a function gives is that among what is given
pub position-map : {A B : Type 0} (f : A → B) (p : B → Bool) (xs : List A) → position (λ x. p (f x)) xs ≡ position p (map f xs)
position-map f p xs = ap (λ k. cond (ltb k (length xs)) (Some k) None) (place-map f p xs) ∙ ap (λ n. cond (ltb (position_or_len p (map f xs)) n) (Some (position_or_len p (map f xs))) None) (sym (length-map f xs))

-- the kind at the place of the word among the words is the kind that the word names
pub kind_at_place : {K : Type 0} (word : K → List ℕ) (w : List ℕ) (ks : List K) (place : Option ℕ) → place ≡ position (λ first. bytes_eq first w) (map word ks)
    → option_and_then (slice_get ks) place ≡ find (λ k. bytes_eq (word k) w) ks
kind_at_place word w ks place at =
    ap (option_and_then (slice_get ks)) (at ∙ sym (position-map word (λ first. bytes_eq first w) ks))
    ∙ at_place ks (position_or_len (λ k. bytes_eq (word k) w) ks) (length ks) refl ∙ sym (find_at (λ k. bytes_eq (word k) w) ks)
