-- A line is refused with its first fault from the left.
use Rattle.std.proofs.Common.{◌≡◌, ℕ, suc, ◌+◌, ◌≤◌, ◌⊎◌, leb, true, List, [], ◌∷◌, refl, sym, ap, ◌∙◌, arith, inl, inr}
use Rattle.std.proofs.lemmas.Bool.{leb-true}
use Rattle.std.specs.Prelude.{Option, Some, None, Result, Ok, Err}
use Rattle.fx_item.specs.declared.item.Item.{Item}
use Rattle.fx_lines.specs.declared.fault.ItemFault.{ItemFault}
use Rattle.fx_lines.specs.declared.fault.ItemFault.TheVariants.{NoSuchKind, BadField, TrailingText}
use Rattle.fx_lines.specs.Fields.{Shape, Said, fields, word_form}
use Rattle.fx_lines.specs.Forms.{Form, read_nothing, or_bad_field, and_then, one_field, read_kind, read_tabled, made, kind_named, tabled, pieces}
use Rattle.fx_lines.specs.Items.{Ending, Plain, AMessage, EndingHeld, ending, Kind, Kill, Join, Repaired, Callback, Init, Print, Attach, Store, Commit, Restore, Refused, Barrier, Reduce, Agree, Shift, Group, Close, Drop, Passed, Value, Shifted, Created, Closed, Failed, Revoked, Ended, Send, Deliver, Told, item_row, items, line_of, item_in, is_writable, is_in_type}
use Rattle.fx_lines.specs.Lists.{Nothing, Seats, Numbers, Stamps, Elements, Shares}
use Rattle.fx_lines.specs.Messages.{messages}
use Rattle.fx_lines.specs.Refusals.{IsWordOf, AreWordsOf, FieldsStand, IsFirstWrong, AreRefused, IsRefused}
use Rattle.fx_lines.proofs.Items.{ending_sound, named, items_sound, read_again}
use Rattle.fx_lines.proofs.Rows.{kind_word}
use Rattle.fx_lines.proofs.Shapes.{word_sound}
use Rattle.fx_lines.proofs.Sound.{IsSoundForm}

-- ---- words and fields

-- a word from which nothing is read is no value's
unread : (shape : Shape) (word : List ℕ) → (word_form shape).read word ≡ None → IsWordOf shape word → ⊥
unread shape word e w =
    let some : Some w.0 ≡ None = sym ((word_sound shape).again w.0 w.1 w.2) ∙ ap (word_form shape).read w.3 ∙ e in
    absurd cc

-- what is read from a word has the word
was_read : (shape : Shape) (word : List ℕ) (v : Said shape) → (word_form shape).read word ≡ Some v → IsWordOf shape word
was_read shape word v e = let b = (word_sound shape).back word v e in (v, b.1, b.2, b.0)

-- words from which nothing is read are no value's
none_has : {A : Type 0} (form : Form A) → IsSoundForm form → (k : ℕ) (words : List (List ℕ)) (fault : ItemFault) → form.read k words ≡ Err fault → AreWordsOf form words → ⊥
none_has {A} form sound k words fault e w =
    let right : ◌≡◌ {A = Result A ItemFault} (Ok w.0) (Err fault) = sym (sound.again w.0 w.1 w.2 k) ∙ ap (form.read k) w.3 ∙ e in
    absurd cc

-- ---- the ends

-- a fault of what ends a row: a field of its own is wrong, or nothing was to follow
abbrev EndFault : Ending → ℕ → List (List ℕ) → ItemFault → Type 0
EndFault end k words fault = ((fault ≡ BadField k) × (end ≡ Plain Nothing → ⊥)) ⊎ ((word : List ℕ) × (more : List (List ℕ)) × (fault ≡ TrailingText) × (end ≡ Plain Nothing) × (words ≡ word ∷ more))

bad_fault : {A : Type 0} (k : ℕ) (o : Option A) (fault : ItemFault) → or_bad_field k o ≡ Err fault → fault ≡ BadField k
bad_fault k (Some a) fault e = absurd cc
bad_fault k None fault e = cc

one_fault : {A : Type 0} (k : ℕ) (r : Result A ItemFault) (fault : ItemFault) → one_field k r ≡ Err fault → fault ≡ BadField k
one_fault k (Ok a) fault e = absurd cc
one_fault k (Err other) fault e = cc

nothing_fault : (k : ℕ) (words : List (List ℕ)) (fault : ItemFault) → read_nothing k words ≡ Err fault → EndFault (Plain Nothing) k words fault
nothing_fault k [] fault e = absurd cc
nothing_fault k (word ∷ more) fault e = inr (word, more, cc, refl, refl)

end_fault : (end : Ending) (k : ℕ) (words : List (List ℕ)) (fault : ItemFault) → (ending end).read k words ≡ Err fault → EndFault end k words fault
end_fault (Plain Nothing) k words fault e = nothing_fault k words fault e
end_fault (Plain Seats) k words fault e = inl (bad_fault k _ fault e, λ s. absurd cc)
end_fault (Plain Numbers) k words fault e = inl (bad_fault k _ fault e, λ s. absurd cc)
end_fault (Plain Stamps) k words fault e = inl (bad_fault k _ fault e, λ s. absurd cc)
end_fault (Plain Elements) k words fault e = inl (bad_fault k _ fault e, λ s. absurd cc)
end_fault (Plain Shares) k words fault e = inl (bad_fault k _ fault e, λ s. absurd cc)
end_fault AMessage k words fault e = inl (one_fault k ((tabled messages).read 0 words) fault e, λ s. absurd cc)

-- ---- rows

-- either this field is wrong, or what follows it is
after_field : {A B : Type 0} (k : ℕ) (o : Option A) (rest : Result B ItemFault) (fault : ItemFault) → and_then k o rest ≡ Err fault
    → ((o ≡ None) × (fault ≡ BadField k)) ⊎ ((a : A) × (o ≡ Some a) × (rest ≡ Err fault))
after_field k None rest fault e = inl (refl, cc)
after_field k (Some a) (Ok b) fault e = absurd cc
after_field k (Some a) (Err other) fault e = inr (a, refl, cc)

first_wrong : (shapes : List Shape) (end : Ending) (k : ℕ) (words : List (List ℕ)) (wrong : ℕ) → (fields shapes (ending end)).read k words ≡ Err (BadField wrong)
    → IsFirstWrong shapes end k words wrong
first_wrong [] end k words wrong e = elim (end_fault end k words (BadField wrong) e) [
  | inl here ↦
      let same : BadField wrong ≡ BadField k = here.0 in
      (cc, here.1, none_has (ending end) (ending_sound end) k words (BadField wrong) e)
  | inr over ↦ let no : BadField wrong ≡ TrailingText = over.2 in absurd cc
]
first_wrong (shape ∷ shapes) end k [] wrong e = cc
first_wrong (shape ∷ shapes) end k (word ∷ words) wrong e =
    elim (after_field k ((word_form shape).read word) ((fields shapes (ending end)).read (k + 1) words) (BadField wrong) e) [
      | inl here ↦ let same : BadField wrong ≡ BadField k = here.1 in inl (cc, unread shape word here.0)
      | inr later ↦ inr (was_read shape word later.0 later.1, first_wrong shapes end (k + 1) words wrong later.2)
    ]

all_stand : (shapes : List Shape) (end : Ending) (k : ℕ) (words : List (List ℕ)) → (fields shapes (ending end)).read k words ≡ Err TrailingText
    → (word : List ℕ) × (more : List (List ℕ)) × (end ≡ Plain Nothing) × FieldsStand shapes words (word ∷ more)
all_stand [] end k words e = elim (end_fault end k words TrailingText e) [
  | inl wrong ↦ let no : TrailingText ≡ BadField k = wrong.0 in absurd cc
  | inr over ↦ (over.0, over.1, over.3, over.4)
]
all_stand (shape ∷ shapes) end k [] e = absurd cc
all_stand (shape ∷ shapes) end k (word ∷ words) e =
    elim (after_field k ((word_form shape).read word) ((fields shapes (ending end)).read (k + 1) words) TrailingText e) [
      | inl here ↦ let no : TrailingText ≡ BadField k = here.1 in absurd cc
      | inr later ↦
          let rest = all_stand shapes end (k + 1) words later.2 in
          (rest.0, rest.1, rest.2, (was_read shape word later.0 later.1, rest.3))
    ]

-- what follows the first word never asks for a kind
kind_stands : (shapes : List Shape) (end : Ending) (k : ℕ) (words : List (List ℕ)) → (fields shapes (ending end)).read k words ≡ Err NoSuchKind → ⊥
kind_stands [] end k words e = elim (end_fault end k words NoSuchKind e) [
  | inl wrong ↦ let no : NoSuchKind ≡ BadField k = wrong.0 in absurd cc
  | inr over ↦ let no : NoSuchKind ≡ TrailingText = over.2 in absurd cc
]
kind_stands (shape ∷ shapes) end k [] e = absurd cc
kind_stands (shape ∷ shapes) end k (word ∷ words) e =
    elim (after_field k ((word_form shape).read word) ((fields shapes (ending end)).read (k + 1) words) NoSuchKind e) [
      | inl here ↦ let no : NoSuchKind ≡ BadField k = here.1 in absurd cc
      | inr later ↦ kind_stands shapes end (k + 1) words later.2
    ]

-- ---- lines

made_fault : {A B : Type 0} (whole : A → B) (r : Result A ItemFault) (fault : ItemFault) → made whole r ≡ Err fault → r ≡ Err fault
made_fault whole (Ok a) fault e = absurd cc
made_fault whole (Err other) fault e = cc

-- there is no such kind, or what follows it is wrong
kind_fault : (o : Option Kind) (words : List (List ℕ)) (fault : ItemFault) → read_kind items 0 o words ≡ Err fault
    → ((o ≡ None) × (fault ≡ NoSuchKind)) ⊎ ((kind : Kind) × (o ≡ Some kind) × ((items.form kind).read 1 words ≡ Err fault))
kind_fault None words fault e = inl (refl, cc)
kind_fault (Some kind) words fault e = inr (kind, refl, made_fault (items.whole kind) ((items.form kind).read 1 words) fault e)

no_kind : (word : List ℕ) (words : List (List ℕ)) → kind_named items word ≡ None → (kind : Kind) (rest : List (List ℕ)) → word ∷ words ≡ (item_row kind).word ∷ rest → ⊥
no_kind word words none kind rest e =
    let same : word ≡ (item_row kind).word = cc in
    let some : Some kind ≡ None = sym (named kind) ∙ ap (kind_named items) (sym same) ∙ none in
    absurd cc

whole_line : (word : List ℕ) (words : List (List ℕ)) (kind : Kind) → kind_named items word ≡ Some kind → word ∷ words ≡ (item_row kind).word ∷ words
whole_line word words kind e = ap (λ w. w ∷ words) (sym (kind_word items items_sound word kind e))

refused : (words : List (List ℕ)) (fault : ItemFault) → read_tabled items 0 words ≡ Err fault → AreRefused words fault
refused [] NoSuchKind e = λ kind rest s. absurd cc
refused [] (BadField wrong) e = absurd cc
refused [] TrailingText e = absurd cc
refused (word ∷ words) NoSuchKind e = elim (kind_fault (kind_named items word) words NoSuchKind e) [
  | inl none ↦ no_kind word words none.0
  | inr known ↦ absurd (kind_stands (item_row known.0).shapes (item_row known.0).end 1 words known.2)
]
refused (word ∷ words) (BadField wrong) e = elim (kind_fault (kind_named items word) words (BadField wrong) e) [
  | inl none ↦ let no : BadField wrong ≡ NoSuchKind = none.1 in absurd cc
  | inr known ↦ (known.0, words, whole_line word words known.0 known.1, first_wrong (item_row known.0).shapes (item_row known.0).end 1 words wrong known.2)
]
refused (word ∷ words) TrailingText e = elim (kind_fault (kind_named items word) words TrailingText e) [
  | inl none ↦ let no : TrailingText ≡ NoSuchKind = none.1 in absurd cc
  | inr known ↦
      let s = all_stand (item_row known.0).shapes (item_row known.0).end 1 words known.2 in
      (known.0, words, s.0, s.1, whole_line word words known.0 known.1, s.2, s.3)
]

pub refused_so : (line : List ℕ) (fault : ItemFault) → item_in line ≡ Err fault → IsRefused line fault
refused_so line fault e = refused (pieces 32 line) fault e

-- ---- and the other way round

-- a word that no value has is read as nothing
read_none : (shape : Shape) (word : List ℕ) (o : Option (Said shape)) → (word_form shape).read word ≡ o → (IsWordOf shape word → ⊥) → o ≡ None
read_none shape word None e none = refl
read_none shape word (Some v) e none = absurd (none (was_read shape word v e))

-- a value's word is read as the value
is_read : (shape : Shape) (word : List ℕ) → (w : IsWordOf shape word) → (word_form shape).read word ≡ Some w.0
is_read shape word w = ap (word_form shape).read (sym w.3) ∙ (word_sound shape).again w.0 w.1 w.2

end_refused : (end : Ending) (k : ℕ) (words : List (List ℕ)) (r : Result (EndingHeld end) ItemFault) → (ending end).read k words ≡ r → (end ≡ Plain Nothing → ⊥) → (AreWordsOf (ending end) words → ⊥)
    → r ≡ Err (BadField k)
end_refused end k words (Ok v) e more none = let b = (ending_sound end).back k words v e in absurd (none (v, b.1, b.2, b.0))
end_refused end k words (Err fault) e more none = elim (end_fault end k words fault e) [
  | inl here ↦ ap Err here.0
  | inr over ↦ absurd (more over.3)
]

wrong_first : (shapes : List Shape) (end : Ending) (k : ℕ) (words : List (List ℕ)) (wrong : ℕ) → IsFirstWrong shapes end k words wrong
    → (fields shapes (ending end)).read k words ≡ Err (BadField wrong)
wrong_first [] end k words wrong w = end_refused end k words ((ending end).read k words) refl w.1 w.2 ∙ ap (λ n. Err (BadField n)) (sym w.0)
wrong_first (shape ∷ shapes) end k [] wrong w = ap (λ n. Err (BadField n)) (sym w)
wrong_first (shape ∷ shapes) end k (word ∷ words) wrong w = elim w [
  | inl here ↦
      ap (λ o. and_then k o ((fields shapes (ending end)).read (k + 1) words)) (read_none shape word ((word_form shape).read word) refl here.1)
      ∙ ap (λ n. Err (BadField n)) (sym here.0)
  | inr later ↦ (λ i. and_then k (is_read shape word later.0 i) (wrong_first shapes end (k + 1) words wrong later.1 i))
]

over_fault : (end : Ending) (k : ℕ) (words : List (List ℕ)) (word : List ℕ) (more : List (List ℕ)) → end ≡ Plain Nothing → words ≡ word ∷ more → (ending end).read k words ≡ Err TrailingText
over_fault (Plain Nothing) k words word more same s = ap (read_nothing k) s
over_fault (Plain Seats) k words word more same s = absurd cc
over_fault (Plain Numbers) k words word more same s = absurd cc
over_fault (Plain Stamps) k words word more same s = absurd cc
over_fault (Plain Elements) k words word more same s = absurd cc
over_fault (Plain Shares) k words word more same s = absurd cc
over_fault AMessage k words word more same s = absurd cc

stand_all : (shapes : List Shape) (end : Ending) (k : ℕ) (words : List (List ℕ)) (word : List ℕ) (more : List (List ℕ)) → end ≡ Plain Nothing → FieldsStand shapes words (word ∷ more)
    → (fields shapes (ending end)).read k words ≡ Err TrailingText
stand_all [] end k words word more same s = over_fault end k words word more same s
stand_all (shape ∷ shapes) end k [] word more same s = absurd s
stand_all (shape ∷ shapes) end k (first ∷ words) word more same s =
    (λ i. and_then k (is_read shape first s.0 i) (stand_all shapes end (k + 1) words word more same s.1 i))

-- a kind's own row, where the first word is the kind's
row_read : (kind : Kind) (words rest : List (List ℕ)) (fault : ItemFault) → words ≡ (item_row kind).word ∷ rest → (items.form kind).read 1 rest ≡ Err fault → read_tabled items 0 words ≡ Err fault
row_read kind words rest fault same e =
    ap (read_tabled items 0) same ∙ ap (λ o. read_kind items 0 o rest) (named kind) ∙ ap (made (items.whole kind)) e

no_kind_read : (words : List (List ℕ)) (o : Option Kind) (word : List ℕ) → kind_named items word ≡ o → ((kind : Kind) (rest : List (List ℕ)) → word ∷ words ≡ (item_row kind).word ∷ rest → ⊥) → read_kind items 0 o words ≡ Err NoSuchKind
no_kind_read words None word e none = refl
no_kind_read words (Some kind) word e none = absurd (none kind words (whole_line word words kind e))

refusal : (words : List (List ℕ)) (fault : ItemFault) → AreRefused words fault → read_tabled items 0 words ≡ Err fault
refusal [] NoSuchKind r = refl
refusal (word ∷ words) NoSuchKind r = no_kind_read words (kind_named items word) word refl r
refusal words (BadField wrong) r = row_read r.0 words r.1 (BadField wrong) r.2 (wrong_first (item_row r.0).shapes (item_row r.0).end 1 r.1 wrong r.3)
refusal words TrailingText r = row_read r.0 words r.1 TrailingText r.4 (stand_all (item_row r.0).shapes (item_row r.0).end 1 r.1 r.2 r.3 r.5 r.6)

pub refused_where : (line : List ℕ) (fault : ItemFault) → IsRefused line fault → item_in line ≡ Err fault
refused_where line fault r = refusal (pieces 32 line) fault r

-- a line that is refused is no item's
pub no_item : (line : List ℕ) (fault : ItemFault) → item_in line ≡ Err fault → (i : Item) → is_writable i ≡ true → is_in_type i ≡ true → line_of i ≡ line → ⊥
no_item line fault e i writable fits same =
    let right : ◌≡◌ {A = Result Item ItemFault} (Ok i) (Err fault) = sym (read_again i writable fits) ∙ ap item_in same ∙ e in
    absurd cc

-- ---- the number of a field

-- how many fields a row has: those of one word, and what ends it, if anything
count : List Shape → Ending → ℕ
count [] (Plain Nothing) = 0
count [] end = 1
count (shape ∷ shapes) end = suc (count shapes end)

one_more : (end : Ending) → (end ≡ Plain Nothing → ⊥) → count [] end ≡ 1
unfolding count
one_more (Plain Nothing) more = absurd (more refl)
one_more (Plain Seats) more = refl
one_more (Plain Numbers) more = refl
one_more (Plain Stamps) more = refl
one_more (Plain Elements) more = refl
one_more (Plain Shares) more = refl
one_more AMessage more = refl

within_row : (shapes : List Shape) (end : Ending) (k : ℕ) (words : List (List ℕ)) (wrong : ℕ) → IsFirstWrong shapes end k words wrong → (k ≤ wrong) × (suc wrong ≤ k + count shapes end)
unfolding count
within_row [] end k words wrong w = (omega (arith, w.0), omega (arith, w.0, one_more end w.1))
within_row (shape ∷ shapes) end k [] wrong w = (omega (arith, w), omega (arith, w))
within_row (shape ∷ shapes) end k (word ∷ words) wrong w = elim w [
  | inl here ↦ (omega (arith, here.0), omega (arith, here.0))
  | inr later ↦ let r = within_row shapes end (k + 1) words wrong later.1 in (omega (arith, r), omega (arith, r))
]

few : (kind : Kind) → leb (count (item_row kind).shapes (item_row kind).end) 7 ≡ true
unfolding count
few Kill = refl
few Join = refl
few Repaired = refl
few Callback = refl
few Init = refl
few Print = refl
few Attach = refl
few Store = refl
few Commit = refl
few Restore = refl
few Refused = refl
few Barrier = refl
few Reduce = refl
few Agree = refl
few Shift = refl
few Group = refl
few Close = refl
few Drop = refl
few Passed = refl
few Value = refl
few Shifted = refl
few Created = refl
few Closed = refl
few Failed = refl
few Revoked = refl
few Ended = refl
few Send = refl
few Deliver = refl
few Told = refl

pub one_to_seven : (line : List ℕ) (k : ℕ) → item_in line ≡ Err (BadField k) → (1 ≤ k) × (k ≤ 7)
one_to_seven line k e =
    let r = refused_so line (BadField k) e in
    let w = within_row (item_row r.0).shapes (item_row r.0).end 1 r.1 k r.3 in
    (w.0, omega (arith, w, leb-true (count (item_row r.0).shapes (item_row r.0).end) 7 (few r.0)))
