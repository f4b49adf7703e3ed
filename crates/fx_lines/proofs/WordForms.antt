-- Names, choices, pairs and joined lists are read as they are spelled.
use Rattle.std.proofs.Common.{◌≡◌, ℕ, ◌<◌, ◌≤◌, Bool, true, not, ◌&&◌, eqb, leb, List, [], ◌∷◌, length, refl, sym, ap, ◌∙◌, arith, inl, inr}
use Rattle.std.specs.Prelude.{Option, Some, None, map}
use Rattle.std.specs.List.{list_all, find, join_with_byte}
use Rattle.std.specs.Option.{option_map}
use Rattle.std.specs.Str.{bytes_eq}
use Rattle.std.proofs.lemmas.Bool.{and_parts, and_from, cases_Bool, or_cases, leb-true}
use Rattle.std.proofs.lemmas.List.Splits.{join_with_byte-slice_split, length-slice_split}
use Rattle.std.proofs.lemmas.Slice.Eq.{bytes_eq-Decides}
use Rattle.fx_lines.specs.Forms.{WordForm, both, choice, pair, pair_in, joined, read_each, is_some_list, pieces}
use Rattle.fx_text.specs.Names.{is_letter, is_letter_or_digit, begins_with_letter, is_reserved, is_name}
use Rattle.fx_lines.specs.Names.{name}
use Rattle.fx_lines.proofs.Separated.{no_space, no_comma, no_equals, comma_no_space, equals_no_comma, all_weaker, pieces_again, joined_all}
use Rattle.fx_lines.proofs.Sound.{IsSoundWord}
use Rattle.fx_lines.proofs.NumberForms.{free_of}

-- a word that is clean of more is clean of less
pub looser : {A : Type 0} (free less : ℕ → Bool) (form : WordForm A) → ((b : ℕ) → free b ≡ true → less b ≡ true) → IsSoundWord free form → IsSoundWord less form
looser free less form weaker sound = record {
  again = sound.again;
  back = sound.back;
  clean = λ a has fits. all_weaker free less weaker (form.spell a) (sound.clean a has fits);
}

-- ---- names

letter_free : (b : ℕ) → is_letter b ≡ true → no_equals b ≡ true
letter_free b h =
    let p = and_parts (leb 97 b) (leb b 122) h in
    let low : 97 ≤ b = leb-true 97 b p.0 in
    free_of b (λ e. absurd (omega arith)) (λ e. absurd (omega arith)) (λ e. absurd (omega arith))

either_free : (b : ℕ) → is_letter_or_digit b ≡ true → no_equals b ≡ true
either_free b h = elim (or_cases (is_letter b) (leb 48 b && leb b 57) h) [
  | inl letter ↦ letter_free b letter
  | inr digit ↦
      let p = and_parts (leb 48 b) (leb b 57) digit in
      let low : 48 ≤ b = leb-true 48 b p.0 in
      let high : b ≤ 57 = leb-true b 57 p.1 in
      free_of b (λ e. absurd (omega arith)) (λ e. absurd (omega arith)) (λ e. absurd (omega arith))
]

begun_free : (word : List ℕ) → begins_with_letter word ≡ true → list_all no_equals word ≡ true
begun_free [] h = absurd cc
begun_free (b ∷ bs) h =
    let p = and_parts (is_letter b) (list_all is_letter_or_digit bs) h in
    and_from (no_equals b) (list_all no_equals bs) (letter_free b p.0) (all_weaker is_letter_or_digit no_equals either_free bs p.1)

name_free : (word : List ℕ) → is_name word ≡ true → list_all no_equals word ≡ true
name_free word h =
    let p = and_parts (begins_with_letter word && leb (length word) 16) (not (is_reserved word)) h in
    begun_free word (and_parts (begins_with_letter word) (leb (length word) 16) p.0).0

name_back : (word bytes : List ℕ) → name.read word ≡ Some bytes → (bytes ≡ word) × (is_name bytes ≡ true)
name_back word bytes e = elim (cases_Bool (is_name word)) [
  | inl t ↦ let s : Some word ≡ Some bytes = rw t at e in let same : word ≡ bytes = cc in (sym same, ap is_name (sym same) ∙ t)
  | inr f ↦ let s : None ≡ Some bytes = rw f at e in absurd cc
]

pub name_sound : IsSoundWord no_equals name
name_sound = record {
  again = λ bytes has fits. rw has refl;
  back = λ word bytes e. let r = name_back word bytes e in (r.0, r.1, refl);
  clean = λ bytes has fits. name_free bytes has;
}

-- ---- choices

-- what is found passes the test, and whatever all pass
pub found_passes : {A : Type 0} (p f : A → Bool) (xs : List A) (a : A) → list_all f xs ≡ true → find p xs ≡ Some a → (p a ≡ true) × (f a ≡ true)
found_passes p f [] a all e = absurd cc
found_passes p f (x ∷ xs) a all e = elim (cases_Bool (p x)) [
  | inl t ↦
      let s : Some x ≡ Some a = rw t at e in
      let same : x ≡ a = cc in
      (ap p (sym same) ∙ t, ap f (sym same) ∙ (and_parts (f x) (list_all f xs) all).0)
  | inr n ↦ let s : find p xs ≡ Some a = rw n at e in found_passes p f xs a (and_parts (f x) (list_all f xs) all).1 s
]

pub choice_sound : {A : Type 0} (word : A → List ℕ) (is_among : A → Bool) (those : List A) → list_all is_among those ≡ true
    → ((a : A) → is_among a ≡ true → find (λ b. bytes_eq (word b) (word a)) those ≡ Some a) → ((a : A) → is_among a ≡ true → list_all no_equals (word a) ≡ true)
    → IsSoundWord no_equals (choice word is_among those)
choice_sound word is_among those all found free = record {
  again = λ a has fits. found a has;
  back = λ w a e.
      let p = found_passes (λ b. bytes_eq (word b) w) is_among those a all e in
      ((bytes_eq-Decides (word a) w).0 p.0, p.1, refl);
  clean = λ a has fits. free a has;
}

-- ---- pairs

pub both_parts : {A B : Type 0} (p : Option A) (q : Option B) (v : A × B) → both p q ≡ Some v → (p ≡ Some v.0) × (q ≡ Some v.1)
both_parts (Some a) (Some b) v e = let same : ◌≡◌ {A = Option (_ × _)} (Some (a, b)) (Some v) = e in (ap (option_map (λ w. w.0)) same, ap (option_map (λ w. w.1)) same)
both_parts (Some a) None v e = absurd cc
both_parts None q v e = absurd cc

pair_back : {A B : Type 0} (first : WordForm A) (second : WordForm B) (parts : List (List ℕ)) (v : A × B) → pair_in first second parts ≡ Some v
    → (a : List ℕ) × (b : List ℕ) × (parts ≡ a ∷ b ∷ []) × (first.read a ≡ Some v.0) × (second.read b ≡ Some v.1)
pair_back first second [] v e = absurd cc
pair_back first second (a ∷ []) v e = absurd cc
pair_back first second (a ∷ b ∷ []) v e = let p = both_parts (first.read a) (second.read b) v e in (a, b, refl, p.0, p.1)
pair_back first second (a ∷ b ∷ c ∷ more) v e = absurd cc

-- the word that is made of parts is the one that was cut into them
pub parts_back : (c : ℕ) (word : List ℕ) (parts : List (List ℕ)) → pieces c word ≡ parts → join_with_byte c parts ≡ word
parts_back c word parts e = ap (join_with_byte c) (sym e) ∙ join_with_byte-slice_split c word

no_61 : (b : ℕ) → no_equals b ≡ true → not (eqb b 61) ≡ true
no_61 b h = (and_parts (not (eqb b 61)) (no_comma b) h).0

no_44 : (b : ℕ) → no_comma b ≡ true → not (eqb b 44) ≡ true
no_44 b h = (and_parts (not (eqb b 44)) (no_space b) h).0

-- two parts without `=`
pub two_parts : (a b : List ℕ) → list_all no_equals a ≡ true → list_all no_equals b ≡ true → pieces 61 (join_with_byte 61 (a ∷ b ∷ [])) ≡ a ∷ b ∷ []
two_parts a b h k =
    pieces_again 61 a (b ∷ [])
    (and_from (list_all (λ c. not (eqb c 61)) a) (list_all (λ c. not (eqb c 61)) b && true) (all_weaker no_equals (λ c. not (eqb c 61)) no_61 a h)
    (and_from (list_all (λ c. not (eqb c 61)) b) true (all_weaker no_equals (λ c. not (eqb c 61)) no_61 b k) refl))

pub two_clean : (a b : List ℕ) → list_all no_equals a ≡ true → list_all no_equals b ≡ true → list_all no_comma (join_with_byte 61 (a ∷ b ∷ [])) ≡ true
two_clean a b h k =
    joined_all no_comma 61 refl (a ∷ b ∷ [])
    (and_from (list_all no_comma a) (list_all no_comma b && true) (all_weaker no_equals no_comma equals_no_comma a h)
    (and_from (list_all no_comma b) true (all_weaker no_equals no_comma equals_no_comma b k) refl))

pub pair_sound : {A B : Type 0} (first : WordForm A) (second : WordForm B) → IsSoundWord no_equals first → IsSoundWord no_equals second → IsSoundWord no_comma (pair 61 first second)
pair_sound first second a b = record {
  again = λ v has fits.
      let h = and_parts (first.has_word v.0) (second.has_word v.1) has in
      let f = and_parts (first.in_type v.0) (second.in_type v.1) fits in
      ap (pair_in first second) (two_parts (first.spell v.0) (second.spell v.1) (a.clean v.0 h.0 f.0) (b.clean v.1 h.1 f.1))
      ∙ (λ i. both (a.again v.0 h.0 f.0 i) (b.again v.1 h.1 f.1 i));
  back = λ word v e.
      let p = pair_back first second (pieces 61 word) v e in
      let l = a.back p.0 v.0 p.3 in
      let r = b.back p.1 v.1 p.4 in (
        (λ i. join_with_byte 61 (l.0 i ∷ r.0 i ∷ [])) ∙ parts_back 61 word (p.0 ∷ p.1 ∷ []) p.2,
        and_from (first.has_word v.0) (second.has_word v.1) l.1 r.1,
        and_from (first.in_type v.0) (second.in_type v.1) l.2 r.2,
      );
  clean = λ v has fits.
      let h = and_parts (first.has_word v.0) (second.has_word v.1) has in
      let f = and_parts (first.in_type v.0) (second.in_type v.1) fits in
      two_clean (first.spell v.0) (second.spell v.1) (a.clean v.0 h.0 f.0) (b.clean v.1 h.1 f.1);
}

-- ---- lists of words

module _ {A : Type 0} (free : ℕ → Bool) (each : WordForm A) (all : (a : A) → each.has_word a ≡ true) (sound : IsSoundWord free each) where
  pub each_again : (list : List A) → list_all each.in_type list ≡ true → read_each each.read (map each.spell list) ≡ Some list
  each_again [] fits = refl
  each_again (a ∷ rest) fits =
      let f = and_parts (each.in_type a) (list_all each.in_type rest) fits in
      rw (sound.again a (all a) f.0, each_again rest f.1) refl

  pub each_clean : (list : List A) → list_all each.in_type list ≡ true → list_all (list_all free) (map each.spell list) ≡ true
  each_clean [] fits = refl
  each_clean (a ∷ rest) fits =
      let f = and_parts (each.in_type a) (list_all each.in_type rest) fits in
      and_from (list_all free (each.spell a)) (list_all (list_all free) (map each.spell rest)) (sound.clean a (all a) f.0) (each_clean rest f.1)

  more_back : (o : Option A) (p : Option (List A)) (list : List A) → option_map (λ (v : A × List A). v.0 ∷ v.1) (both o p) ≡ Some list
      → (a : A) × (rest : List A) × (o ≡ Some a) × (p ≡ Some rest) × (a ∷ rest ≡ list)
  more_back (Some a) (Some rest) list e = (a, rest, refl, refl, cc)
  more_back (Some a) None list e = absurd cc
  more_back None p list e = absurd cc

  pub each_back : (words : List (List ℕ)) (list : List A) → read_each each.read words ≡ Some list → (map each.spell list ≡ words) × (list_all each.in_type list ≡ true)
  each_back [] list e = let same : [] ≡ list = cc in (ap (map each.spell) (sym same), ap (list_all each.in_type) (sym same))
  each_back (word ∷ words) list e =
      let m = more_back (each.read word) (read_each each.read words) list e in
      let a = sound.back word m.0 m.2 in
      let r = each_back words m.1 m.3 in (
        ap (map each.spell) (sym m.4) ∙ (λ i. a.0 i ∷ r.0 i),
        ap (list_all each.in_type) (sym m.4) ∙ and_from (each.in_type m.0) (list_all each.in_type m.1) a.2 r.1,
      )

no_more : {A : Type 0} (o : Option A) (p : Option (List A)) → option_map (λ (v : A × List A). v.0 ∷ v.1) (both o p) ≡ Some [] → ⊥
no_more (Some a) (Some rest) e = absurd cc
no_more (Some a) None e = absurd cc
no_more None p e = absurd cc

-- a word has a piece, so that what its pieces say is some list
read_some : {A : Type 0} (read : List ℕ → Option A) (words : List (List ℕ)) (list : List A) → 0 < length words → read_each read words ≡ Some list → is_some_list list ≡ true
read_some read [] list some e = absurd (omega arith)
read_some read (word ∷ words) (a ∷ rest) some e = refl
read_some read (word ∷ words) [] some e = absurd (no_more (read word) (read_each read words) e)

some_back : {A : Type 0} (read : List ℕ → Option A) (c : ℕ) (word : List ℕ) (list : List A) → read_each read (pieces c word) ≡ Some list → is_some_list list ≡ true
some_back read c word list e = read_some read (pieces c word) list (omega (arith, length-slice_split (λ b. eqb b c) word)) e

joined_again : {A : Type 0} (each : WordForm A) → ((a : A) → each.has_word a ≡ true) → IsSoundWord no_comma each → (list : List A) → is_some_list list ≡ true → list_all each.in_type list ≡ true
    → read_each each.read (pieces 44 (join_with_byte 44 (map each.spell list))) ≡ Some list
joined_again each all sound [] has fits = absurd cc
joined_again each all sound (a ∷ rest) has fits =
    ap (read_each each.read) (pieces_again 44 (each.spell a) (map each.spell rest)
    (all_weaker (list_all no_comma) (list_all (λ b. not (eqb b 44))) (λ w. all_weaker no_comma (λ b. not (eqb b 44)) no_44 w) (each.spell a ∷ map each.spell rest) (each_clean no_comma each all sound (a ∷ rest) fits)))
    ∙ each_again no_comma each all sound (a ∷ rest) fits

pub joined_sound : {A : Type 0} (each : WordForm A) → ((a : A) → each.has_word a ≡ true) → IsSoundWord no_comma each → IsSoundWord no_space (joined 44 each)
joined_sound each all sound = record {
  again = λ list has fits. joined_again each all sound list has fits;
  back = λ word list e.
      let r = each_back no_comma each all sound (pieces 44 word) list e in
      (ap (join_with_byte 44) r.0 ∙ join_with_byte-slice_split 44 word, some_back each.read 44 word list e, r.1);
  clean = λ list has fits. joined_all no_space 44 refl (map each.spell list)
      (all_weaker (list_all no_comma) (list_all no_space) (λ w. all_weaker no_comma no_space comma_no_space w) (map each.spell list) (each_clean no_comma each all sound list fits));
}
