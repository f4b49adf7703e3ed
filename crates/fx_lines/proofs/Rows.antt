-- Rows of fields, what ends them, and tables of kinds are read as they are spelled.
use Rattle.std.proofs.Common.{◌≡◌, ℕ, ◌+◌, Bool, true, false, T, List, [], ◌∷◌, refl, sym, ap, subst, ◌∙◌, ◌^◌, arith, inl, inr}
use Rattle.std.specs.Prelude.{Option, Some, None, Result, Ok, Err}
use Rattle.std.specs.FinMap.{FinMap, entries, entries_sorted, from_sorted, is_sorted, entries-from_sorted, same_entries_map}
use Rattle.std.specs.List.{list_all}
use Rattle.std.specs.Ordering.{nat_cmp}
use Rattle.std.specs.Str.{bytes_eq}
use Rattle.std.specs.declared.cmp.Ordering.{Ordering}
use Rattle.std.proofs.lemmas.Bool.{and_parts, and_from, cases_Bool}
use Rattle.std.proofs.lemmas.Slice.Eq.{bytes_eq-Decides}
use Rattle.fx_base.specs.Keys.{by_time}
use Rattle.fx_lines.specs.declared.fault.ItemFault.{ItemFault}
use Rattle.fx_lines.specs.Fields.{Shape, fields, word_form, a_seat, a_stamp}
use Rattle.fx_lines.specs.Forms.{WordForm, Form, nothing, read_nothing, listed, or_bad_field, list_of, and_then, read_field, before, one_field, as_one_field, Table, kind_named, made, read_kind, read_tabled, tabled, read_each, natural, integer}
use Rattle.fx_lines.specs.Hex.{hex}
use Rattle.fx_lines.specs.Lists.{risen, map_of, an_element, a_share, Tail, Nothing, Seats, Numbers, Stamps, Elements, Shares, tail}
use Rattle.fx_lines.proofs.HexForm.{hex_sound}
use Rattle.fx_lines.proofs.NumberForms.{natural_sound, integer_sound}
use Rattle.fx_lines.proofs.Separated.{no_space, no_comma, no_equals, comma_no_space, equals_no_comma}
use Rattle.fx_lines.proofs.Shapes.{seat_sound, stamp_sound, word_sound}
use Rattle.fx_lines.proofs.Sound.{IsSoundWord, IsSoundForm}
use Rattle.fx_lines.proofs.WordForms.{looser, found_passes, pair_sound, each_again, each_clean, each_back}

-- ---- nothing more

nothing_back : (k : ℕ) (words : List (List ℕ)) → read_nothing k words ≡ Ok tt → [] ≡ words
nothing_back k [] e = refl
nothing_back k (word ∷ words) e = absurd cc

pub nothing_sound : IsSoundForm nothing
nothing_sound = record {
  again = λ a has fits k. refl;
  back = λ k words a e. (nothing_back k words e, refl, refl);
  clean = λ a has fits. refl;
}

-- ---- lists

-- what a field of its own said
or_bad : {A : Type 0} (k : ℕ) (o : Option A) (a : A) → or_bad_field k o ≡ Ok a → o ≡ Some a
or_bad k (Some b) a e = cc
or_bad k None a e = absurd cc

listed_back : {A : Type 0} (read : List ℕ → Option A) (words : List (List ℕ)) (list : List A) → listed read words ≡ Some list
    → (rest : List (List ℕ)) × ((58 ∷ []) ∷ rest ≡ words) × (read_each read rest ≡ Some list)
listed_back read [] list e = absurd cc
listed_back read (mark ∷ rest) list e = elim (cases_Bool (bytes_eq mark (58 ∷ []))) [
  | inl t ↦ (rest, ap (λ w. w ∷ rest) (sym ((bytes_eq-Decides mark (58 ∷ [])).0 t)), rw t at e)
  | inr f ↦ let none : None ≡ Some list = rw f at e in absurd cc
]

module _ {A : Type 0} (each : WordForm A) (all : (a : A) → each.has_word a ≡ true) (sound : IsSoundWord no_space each) where
  list_again : (list : List A) → list_all each.in_type list ≡ true → listed each.read ((list_of each).words list) ≡ Some list
  list_again list fits = each_again no_space each all sound list fits

  list_back : (words : List (List ℕ)) (list : List A) → listed each.read words ≡ Some list → ((list_of each).words list ≡ words) × (list_all each.in_type list ≡ true)
  list_back words list e =
      let l = listed_back each.read words list e in
      let r = each_back no_space each all sound l.0 list l.2 in
      (ap (λ rest. (58 ∷ []) ∷ rest) r.0 ∙ l.1, r.1)

  list_clean : (list : List A) → list_all each.in_type list ≡ true → list_all (list_all no_space) ((list_of each).words list) ≡ true
  list_clean list fits = each_clean no_space each all sound list fits

  pub list_sound : IsSoundForm (list_of each)
  list_sound = record {
    again = λ list has fits k. ap (or_bad_field k) (list_again list fits);
    back = λ k words list e. let r = list_back words list (or_bad k (listed each.read words) list e) in (r.0, refl, r.1);
    clean = λ list has fits. list_clean list fits;
  }

-- ---- maps

holds : (b : Bool) → b ≡ true → T b
holds b e = subst T (sym e) tt

shown : (b : Bool) → T b → b ≡ true
shown true h = refl
shown false h = absurd h

risen_back : {K X : Type 0} (order : K → K → Ordering) (o : Option (List (K × X))) (m : FinMap order X) → risen order o ≡ Some m → o ≡ Some (entries m)
risen_back order None m e = absurd cc
risen_back order (Some es) m e = elim (cases_Bool (is_sorted order es)) [
  | inl t ↦
      let s : Some (from_sorted es) ≡ Some m = rw t at e in
      let same : from_sorted es ≡ m = cc in
      ap Some (sym (entries-from_sorted order es (holds _ t)) ∙ ap entries same)
  | inr f ↦ let none : None ≡ Some m = rw f at e in absurd cc
]

risen_again : {K X : Type 0} (order : K → K → Ordering) (m : FinMap order X) → risen order (Some (entries m)) ≡ Some m
risen_again order m =
    rw (shown (is_sorted order (entries m)) (entries_sorted m))
    (ap Some (same_entries_map (from_sorted (entries m)) m (entries-from_sorted order (entries m) (entries_sorted m))))

pub map_sound : {K X : Type 0} (order : K → K → Ordering) (each : WordForm (K × X)) → ((e : K × X) → each.has_word e ≡ true) → IsSoundWord no_space each → IsSoundForm (map_of order each)
map_sound order each all sound = record {
  again = λ m has fits k. ap (λ o. or_bad_field k (risen order o)) (list_again each all sound (entries m) fits) ∙ ap (or_bad_field k) (risen_again order m);
  back = λ k words m e.
      let o = or_bad k (risen order (listed each.read words)) m e in
      let r = list_back each all sound words (entries m) (risen_back order (listed each.read words) m o) in
      (r.0, refl, r.1);
  clean = λ m has fits. list_clean each all sound (entries m) fits;
}

-- ---- what ends a row

spaced : {A : Type 0} (form : WordForm A) → IsSoundWord no_comma form → IsSoundWord no_space form
spaced form sound = looser no_comma no_space form comma_no_space sound

tight : {A : Type 0} (form : WordForm A) → IsSoundWord no_equals form → IsSoundWord no_space form
tight form sound = looser no_equals no_space form (λ b h. comma_no_space b (equals_no_comma b h)) sound

pub tail_sound : (t : Tail) → IsSoundForm (tail t)
tail_sound Nothing = nothing_sound
tail_sound Seats = list_sound a_seat (λ s. refl) (spaced a_seat seat_sound)
tail_sound Numbers = list_sound integer (λ z. refl) (tight integer integer_sound)
tail_sound Stamps = list_sound a_stamp (λ t. refl) (tight a_stamp stamp_sound)
tail_sound Elements = map_sound nat_cmp an_element (λ e. refl) (spaced an_element (pair_sound (natural (2 ^ 32)) integer (natural_sound (2 ^ 32) (omega arith)) integer_sound))
tail_sound Shares = map_sound by_time a_share (λ e. refl) (spaced a_share (pair_sound a_stamp hex stamp_sound hex_sound))

-- ---- fields

ok_or : {A : Type 0} → A → Result A ItemFault → A
ok_or a (Ok b) = b
ok_or a (Err fault) = a

pub ok_same : {A : Type 0} (a b : A) → ◌≡◌ {A = Result A ItemFault} (Ok a) (Ok b) → a ≡ b
unfolding ok_or
ok_same a b e = ap (ok_or a) e

and_then_back : {A B : Type 0} (k : ℕ) (o : Option A) (rest : Result B ItemFault) (v : A × B) → and_then k o rest ≡ Ok v → (o ≡ Some v.0) × (rest ≡ Ok v.1)
and_then_back k None rest v e = absurd cc
and_then_back k (Some a) (Ok b) v e = let same : ◌≡◌ {A = _ × _} (a, b) v = ok_same (a, b) v e in (ap (λ w. Some w.0) same, ap (λ w. Ok w.1) same)
and_then_back k (Some a) (Err fault) v e = absurd cc

field_back : {A B : Type 0} (first : WordForm A) (rest : Form B) (k : ℕ) (words : List (List ℕ)) (v : A × B) → read_field first rest k words ≡ Ok v
    → (word : List ℕ) × (more : List (List ℕ)) × (word ∷ more ≡ words) × (first.read word ≡ Some v.0) × (rest.read (k + 1) more ≡ Ok v.1)
field_back first rest k [] v e = absurd cc
field_back first rest k (word ∷ more) v e = let p = and_then_back k (first.read word) (rest.read (k + 1) more) v e in (word, more, refl, p.0, p.1)

pub before_sound : {A B : Type 0} (first : WordForm A) (rest : Form B) → IsSoundWord no_space first → IsSoundForm rest → IsSoundForm (before first rest)
before_sound first rest a b = record {
  again = λ v has fits k.
      let h = and_parts (first.has_word v.0) (rest.has_words v.1) has in
      let f = and_parts (first.in_type v.0) (rest.in_type v.1) fits in
      (λ i. and_then k (a.again v.0 h.0 f.0 i) (b.again v.1 h.1 f.1 (k + 1) i));
  back = λ k words v e.
      let p = field_back first rest k words v e in
      let l = a.back p.0 v.0 p.3 in
      let r = b.back (k + 1) p.1 v.1 p.4 in
      ((λ i. l.0 i ∷ r.0 i) ∙ p.2, and_from (first.has_word v.0) (rest.has_words v.1) l.1 r.1, and_from (first.in_type v.0) (rest.in_type v.1) l.2 r.2);
  clean = λ v has fits.
      let h = and_parts (first.has_word v.0) (rest.has_words v.1) has in
      let f = and_parts (first.in_type v.0) (rest.in_type v.1) fits in
      and_from (list_all no_space (first.spell v.0)) (list_all (list_all no_space) (rest.words v.1)) (a.clean v.0 h.0 f.0) (b.clean v.1 h.1 f.1);
}

pub fields_sound : {End : Type 0} (shapes : List Shape) (end : Form End) → IsSoundForm end → IsSoundForm (fields shapes end)
fields_sound [] end sound = sound
fields_sound (shape ∷ shapes) end sound = before_sound (word_form shape) (fields shapes end) (word_sound shape) (fields_sound shapes end sound)

-- ---- one field of many words

one_back : {A : Type 0} (k : ℕ) (r : Result A ItemFault) (a : A) → one_field k r ≡ Ok a → r ≡ Ok a
one_back k (Ok b) a e = e
one_back k (Err fault) a e = absurd cc

pub one_field_sound : {A : Type 0} (form : Form A) → IsSoundForm form → IsSoundForm (as_one_field form)
one_field_sound form sound = record {
  again = λ a has fits k. ap (one_field k) (sound.again a has fits 0);
  back = λ k words a e. sound.back 0 words a (one_back k (form.read 0 words) a e);
  clean = sound.clean;
}

-- ---- tables

-- each kind is found by its word, values are taken apart and put together without loss, and each kind's form is sound
pub record IsSoundTable {K X : Type 0} (table : Table K X) : Type 0 where
  pub named : (kind : K) → kind_named table (table.word kind) ≡ Some kind
  pub same : (x : X) → table.whole (table.kind_of x) (table.apart x) ≡ x
  pub parts : (kind : K) (v : table.Held kind) → ◌≡◌ {A = (kind : K) × table.Held kind} (table.kind_of (table.whole kind v), table.apart (table.whole kind v)) (kind, v)
  pub plain : (kind : K) → list_all no_space (table.word kind) ≡ true
  pub sound : (kind : K) → IsSoundForm (table.form kind)

made_back : {A B : Type 0} (whole : A → B) (r : Result A ItemFault) (b : B) → made whole r ≡ Ok b → (a : A) × (r ≡ Ok a) × (whole a ≡ b)
made_back whole (Ok a) b e = (a, refl, cc)
made_back whole (Err fault) b e = absurd cc

always : {A : Type 0} (xs : List A) → list_all (λ x. true) xs ≡ true
always [] = refl
always (x ∷ xs) = always xs

module _ {K X : Type 0} (table : Table K X) (known : IsSoundTable table) where
  pub kind_word : (word : List ℕ) (kind : K) → kind_named table word ≡ Some kind → table.word kind ≡ word
  kind_word word kind e =
      let p = found_passes (λ k. bytes_eq (table.word k) word) (λ k. true) table.kinds kind (always table.kinds) e in
      (bytes_eq-Decides (table.word kind) word).0 p.0

  kind_back : (k : ℕ) (o : Option K) (words : List (List ℕ)) (x : X) → read_kind table k o words ≡ Ok x
      → (kind : K) × (v : table.Held kind) × (o ≡ Some kind) × ((table.form kind).read (k + 1) words ≡ Ok v) × (table.whole kind v ≡ x)
  kind_back k None words x e = absurd cc
  kind_back k (Some kind) words x e =
      let m = made_back (table.whole kind) ((table.form kind).read (k + 1) words) x e in
      (kind, m.0, refl, m.1, m.2)

  back : (k : ℕ) (words : List (List ℕ)) (x : X) → read_tabled table k words ≡ Ok x → ((tabled table).words x ≡ words) × ((tabled table).has_words x ≡ true) × ((tabled table).in_type x ≡ true)
  back k [] x e = absurd cc
  back k (word ∷ words) x e =
      let b = kind_back k (kind_named table word) words x e in
      let r = (known.sound b.0).back (k + 1) words b.1 b.3 in
      let parts = known.parts b.0 b.1 in
      let again : ◌≡◌ {A = (kind : K) × table.Held kind} (table.kind_of x, table.apart x) (b.0, b.1) = subst (λ y. ◌≡◌ {A = (kind : K) × table.Held kind} (table.kind_of y, table.apart y) (b.0, b.1)) b.4 parts in (
        ap (λ (p : (kind : K) × table.Held kind). table.word p.0 ∷ (table.form p.0).words p.1) again ∙ (λ i. kind_word word b.0 b.2 i ∷ r.0 i),
        ap (λ (p : (kind : K) × table.Held kind). (table.form p.0).has_words p.1) again ∙ r.1,
        ap (λ (p : (kind : K) × table.Held kind). (table.form p.0).in_type p.1) again ∙ r.2,
      )

  again : (x : X) → (tabled table).has_words x ≡ true → (tabled table).in_type x ≡ true → (k : ℕ) → read_tabled table k ((tabled table).words x) ≡ Ok x
  again x has fits k =
      ap (λ o. read_kind table k o ((table.form (table.kind_of x)).words (table.apart x))) (known.named (table.kind_of x))
      ∙ ap (made (table.whole (table.kind_of x))) ((known.sound (table.kind_of x)).again (table.apart x) has fits (k + 1))
      ∙ ap Ok (known.same x)

  pub tabled_sound : IsSoundForm (tabled table)
  tabled_sound = record {
    again = again;
    back = back;
    clean = λ x has fits.
        and_from (list_all no_space (table.word (table.kind_of x))) (list_all (list_all no_space) ((table.form (table.kind_of x)).words (table.apart x))) (known.plain (table.kind_of x))
        ((known.sound (table.kind_of x)).clean (table.apart x) has fits);
  }
