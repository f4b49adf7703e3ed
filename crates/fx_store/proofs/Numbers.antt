-- Numbers and elements in bytes: what is written is read again, and what is read was written so.
use Rattle.std.proofs.Common.{◌≡◌, refl, sym, ap, ◌∙◌, subst, ℕ, ℤ, pos, negsuc, zero, suc, ◌+◌, ◌-◌, ◌^◌, ◌<◌, ◌≤◌, Bool, true, false, List, [], ◌∷◌, ◌++◌, length, get_or, take, drop, Option, Some, None, append_assoc, arith, inl, inr}
use Rattle.std.specs.Prelude.{nat_le, nat_lt}
use Rattle.std.specs.Int.{Width, w16, w64, byte_len, from_be_bytes, to_be_bytes, cast_signed, cast_unsigned}
use Rattle.std.specs.List.{flat_map, list_all}
use Rattle.std.proofs.lemmas.Bool.{cases_lt, leb-true, le-leb, ltb-true, ltb-false, lt-ltb, and_parts, and_from}
use Rattle.std.proofs.lemmas.Int.{to_z-of_z, of_z-to_z}
use Rattle.std.proofs.lemmas.List.{take_at, drop_at, take-append-drop, length-append, length-take, get_or-drop, get_or-take, get_or_past}
use Rattle.std.proofs.lemmas.Nat.{be_bytes_2, be_bytes_8, from_be_bytes-to_be_bytes_2, from_be_bytes-to_be_bytes_8}
use Rattle.fx_store.specs.Packed.{◌>>=◌, only_if, number_in, element_bytes, is_element, elements_in}

abbrev pub IsBytes : List ℕ → Type 0
IsBytes bytes = (i : ℕ) → get_or bytes i 0 < 256

pub IsBytes-drop : (n : ℕ) (bytes : List ℕ) → IsBytes bytes → IsBytes (drop n bytes)
IsBytes-drop n bytes h i = rw get_or-drop (h (n + i))

IsBytes-take : (n : ℕ) (bytes : List ℕ) → IsBytes bytes → IsBytes (take n bytes)
IsBytes-take n bytes h i =
    elim (cases_lt i n) [
      | inl lt ↦ rw (get_or-take n bytes i 0 lt) (h i)
      | inr le ↦ rw (get_or_past (take n bytes) i 0 (omega (arith, length-take n bytes))) (omega arith)
    ]

-- a step that read something
pub bind_some : {A B : Type 0} (r : Option A) (f : A → Option B) (y : B) → (r >>= f) ≡ Some y → (x : A) × (r ≡ Some x) × (f x ≡ Some y)
bind_some (Some x) f y e = (x, refl, e)
bind_some None f y e = absurd cc

-- a test that held
pub only_held : {A : Type 0} (b : Bool) (o : Option A) (y : A) → only_if b o ≡ Some y → (b ≡ true) × (o ≡ Some y)
only_held true o y e = (refl, e)
only_held false o y e = absurd cc

abbrev some_of : {A : Type 0} → A → Option A
some_of x = Some x

pub some_is : {A : Type 0} (x y : A) → some_of x ≡ some_of y → x ≡ y
some_is x y e = cc

-- what was read from the front of bytes
pub record Takes (bytes text rest : List ℕ) : Type 0 where
  pub parts : bytes ≡ text ++ rest
  pub rest_fits : IsBytes rest

pub Takes-then : (a x b y c : List ℕ) → Takes a x b → Takes b y c → Takes a (x ++ y) c
Takes-then a x b y c p q = record { parts = p.parts ∙ ap (λ (t : List ℕ). x ++ t) q.parts ∙ sym (append_assoc x y c); rest_fits = q.rest_fits }

-- ---- numbers

pub record IsWide (w : Width) (limit : ℕ) : Type 0 where
  pub len : (n : ℕ) → length (to_be_bytes w n) ≡ byte_len w
  pub back : (bytes : List ℕ) → length bytes ≡ byte_len w → IsBytes bytes → to_be_bytes w (from_be_bytes w bytes) ≡ bytes
  pub again : (n : ℕ) → n < limit → from_be_bytes w (to_be_bytes w n) ≡ n
  pub below : (bytes : List ℕ) → IsBytes bytes → from_be_bytes w bytes < limit

pub wide16 : IsWide w16 (2 ^ 16)
wide16 = record {
  len = λ n. refl;
  back = λ bytes len fits. be_bytes_2 bytes _ len fits refl;
  again = λ n lt. from_be_bytes-to_be_bytes_2 n lt;
  below = λ bytes fits. omega (arith, fits 0, fits 1);
}

pub wide64 : IsWide w64 (2 ^ 64)
wide64 = record {
  len = λ n. refl;
  back = λ bytes len fits. be_bytes_8 bytes _ len fits refl;
  again = λ n lt. from_be_bytes-to_be_bytes_8 n lt;
  below = λ bytes fits. omega (arith, fits 0, fits 1, fits 2, fits 3, fits 4, fits 5, fits 6, fits 7);
}

pub number_takes : (w : Width) (limit : ℕ) (wide : IsWide w limit) (bytes : List ℕ) (n : ℕ) (rest : List ℕ) → IsBytes bytes → number_in w bytes ≡ Some (n, rest) → Takes bytes (to_be_bytes w n) rest × (n < limit)
number_takes w limit wide bytes n rest fits e =
    let g = only_held (nat_le (byte_len w) (length bytes)) (Some (from_be_bytes w (take (byte_len w) bytes), drop (byte_len w) bytes)) (n, rest) e in
    let long : byte_len w ≤ length bytes = leb-true _ _ g.0 in
    let read = some_is (from_be_bytes w (take (byte_len w) bytes), drop (byte_len w) bytes) (n, rest) g.1 in
    let n-is : from_be_bytes w (take (byte_len w) bytes) ≡ n = ap (λ (p : ℕ × List ℕ). p.0) read in
    let rest-is : drop (byte_len w) bytes ≡ rest = ap (λ (p : ℕ × List ℕ). p.1) read in
    let front : to_be_bytes w n ≡ take (byte_len w) bytes = rw (← n-is) (wide.back (take (byte_len w) bytes) (omega (arith, length-take (byte_len w) bytes)) (IsBytes-take (byte_len w) bytes fits)) in
    (record { parts = rw (front, ← rest-is) (sym (take-append-drop (byte_len w) bytes)); rest_fits = rw (← rest-is) (IsBytes-drop (byte_len w) bytes fits) }, rw (← n-is) (wide.below (take (byte_len w) bytes) (IsBytes-take (byte_len w) bytes fits)))

pub number_again : (w : Width) (limit : ℕ) (wide : IsWide w limit) (n : ℕ) (rest : List ℕ) → n < limit → number_in w (to_be_bytes w n ++ rest) ≡ Some (n, rest)
number_again w limit wide n rest lt =
    let len = wide.len n in
    let long : nat_le (byte_len w) (length (to_be_bytes w n ++ rest)) ≡ true = le-leb _ _ (omega (arith, length-append (to_be_bytes w n) rest)) in
    rw (long, take_at (to_be_bytes w n) rest (byte_len w) len, drop_at (to_be_bytes w n) rest (byte_len w) len, wide.again n lt) refl

-- ---- elements

pub word_below : (x : ℤ) → is_element x ≡ true → cast_unsigned w64 x < 2 ^ 64
word_below (pos n) e = let lt = ltb-true n (2 ^ 63) e in omega (arith, lt)
word_below (negsuc n) e = omega arith

pub word_again : (x : ℤ) → is_element x ≡ true → cast_signed w64 (cast_unsigned w64 x) ≡ x
word_again (pos n) e = to_z-of_z w64 (pos n) (record { sfits = ltb-true n (2 ^ 63) e })
word_again (negsuc n) e = to_z-of_z w64 (negsuc n) (record { sfits = ltb-true n (2 ^ 63) e })

pub signed_fits : (n : ℕ) → n < 2 ^ 64 → is_element (cast_signed w64 n) ≡ true
signed_fits n lt = go (nat_lt n (2 ^ 63)) refl
  where
    go : (b : Bool) → nat_lt n (2 ^ 63) ≡ b → is_element (cast_signed w64 n) ≡ true
    go true e = rw e e
    go false e =
        let le : 2 ^ 63 ≤ n = ltb-false n (2 ^ 63) e in
        let less : 2 ^ 64 - suc n < 2 ^ 63 = omega arith in
        rw e (lt-ltb (2 ^ 64 - suc n) (2 ^ 63) less)

pub elements_again : (xs : List ℤ) (rest : List ℕ) → list_all is_element xs ≡ true → elements_in (length xs) (flat_map element_bytes xs ++ rest) ≡ Some (xs, rest)
unfolding elements_in
elements_again [] rest all = refl
elements_again (x ∷ xs) rest all =
    let parts = and_parts (is_element x) (list_all is_element xs) all in
    let regrouped : flat_map element_bytes (x ∷ xs) ++ rest ≡ element_bytes x ++ (flat_map element_bytes xs ++ rest) = append_assoc (element_bytes x) (flat_map element_bytes xs) rest in
    ap (elements_in (suc (length xs))) regrouped
    ∙ rw (number_again w64 (2 ^ 64) wide64 (cast_unsigned w64 x) (flat_map element_bytes xs ++ rest) (word_below x parts.0), elements_again xs rest parts.1, word_again x parts.0) refl

-- what so many elements are
pub record ReadElements (count : ℕ) (bytes : List ℕ) (xs : List ℤ) (rest : List ℕ) : Type 0 where
  pub taken : Takes bytes (flat_map element_bytes xs) rest
  pub count_is : length xs ≡ count
  pub fit : list_all is_element xs ≡ true

pub elements_take : (count : ℕ) (bytes : List ℕ) (xs : List ℤ) (rest : List ℕ) → IsBytes bytes → elements_in count bytes ≡ Some (xs, rest) → ReadElements count bytes xs rest
unfolding elements_in
elements_take zero bytes xs rest fits e =
    subst (λ (p : List ℤ × List ℕ). ReadElements 0 bytes p.0 p.1) (some_is ([], bytes) (xs, rest) e)
    (record { taken = record { parts = refl; rest_fits = fits }; count_is = refl; fit = refl })
elements_take (suc count) bytes xs rest fits e =
    let a = bind_some (number_in w64 bytes) (λ word. elements_in count word.1 >>= λ others. Some (cast_signed w64 word.0 ∷ others.0, others.1)) (xs, rest) e in
    let b = bind_some (elements_in count a.0.1) (λ others. Some (cast_signed w64 a.0.0 ∷ others.0, others.1)) (xs, rest) a.2 in
    let t = number_takes w64 (2 ^ 64) wide64 bytes a.0.0 a.0.1 fits a.1 in
    let more = elements_take count a.0.1 b.0.0 b.0.1 t.0.rest_fits b.1 in
    let same : element_bytes (cast_signed w64 a.0.0) ≡ to_be_bytes w64 a.0.0 = ap (to_be_bytes w64) (of_z-to_z w64 a.0.0 t.1) in
    let made : List ℤ × List ℕ = (cast_signed w64 a.0.0 ∷ b.0.0, b.0.1) in
    subst (λ (p : List ℤ × List ℕ). ReadElements (suc count) bytes p.0 p.1) (some_is made (xs, rest) b.2)
    (record {
      taken = Takes-then bytes (element_bytes (cast_signed w64 a.0.0)) a.0.1 (flat_map element_bytes b.0.0) b.0.1 (subst (λ x. Takes bytes x a.0.1) (sym same) t.0) more.taken;
      count_is = ap suc more.count_is;
      fit = and_from (is_element (cast_signed w64 a.0.0)) (list_all is_element b.0.0) (signed_fits a.0.0 t.1) more.fit;
    })
