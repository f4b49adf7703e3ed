-- What is wrong with a line that no item has, in terms of how fields are spelled: the fault is that of the first field from
-- the left that is missing or wrong.
use Rattle.std.specs.Prelude.{◌≡◌, ℕ, ◌+◌, ◌⊎◌, true, List, [], ◌∷◌}
use Rattle.fx_lines.specs.declared.fault.ItemFault.{ItemFault}
use Rattle.fx_lines.specs.declared.fault.ItemFault.TheVariants.{NoSuchKind, BadField, TrailingText}
use Rattle.fx_lines.specs.Fields.{Shape, Said, word_form}
use Rattle.fx_lines.specs.Forms.{Form, pieces}
use Rattle.fx_lines.specs.Items.{Ending, Plain, ending, Kind, item_row}
use Rattle.fx_lines.specs.Lists.{Nothing}

-- some value of the shape has this word
abbrev pub IsWordOf : Shape → List ℕ → Type 0
IsWordOf shape word = (v : Said shape) × ((word_form shape).has_word v ≡ true) × ((word_form shape).in_type v ≡ true) × ((word_form shape).spell v ≡ word)

-- some value has these words
abbrev pub AreWordsOf : {A : Type 0} → Form A → List (List ℕ) → Type 0
AreWordsOf {A} form words = (v : A) × (form.has_words v ≡ true) × (form.in_type v ≡ true) × (form.words v ≡ words)

-- fields of these shapes stand in front of the rest, each with a word of its shape
abbrev pub FieldsStand : List Shape → List (List ℕ) → List (List ℕ) → Type 0
FieldsStand [] words rest = words ≡ rest
FieldsStand (shape ∷ shapes) [] rest = ⊥
FieldsStand (shape ∷ shapes) (word ∷ words) rest = IsWordOf shape word × FieldsStand shapes words rest

-- from field k on, field `wrong` is the first that is missing or wrong; a list or a message is the last field
abbrev pub IsFirstWrong : List Shape → Ending → ℕ → List (List ℕ) → ℕ → Type 0
IsFirstWrong [] end k words wrong = (wrong ≡ k) × (end ≡ Plain Nothing → ⊥) × (AreWordsOf (ending end) words → ⊥)
IsFirstWrong (shape ∷ shapes) end k [] wrong = wrong ≡ k
IsFirstWrong (shape ∷ shapes) end k (word ∷ words) wrong =
    ((wrong ≡ k) × (IsWordOf shape word → ⊥)) ⊎ (IsWordOf shape word × IsFirstWrong shapes end (k + 1) words wrong)

-- why these words are no item's
abbrev pub AreRefused : List (List ℕ) → ItemFault → Type 0
AreRefused words NoSuchKind = (kind : Kind) (rest : List (List ℕ)) → words ≡ (item_row kind).word ∷ rest → ⊥
AreRefused words (BadField wrong) =
    (kind : Kind) × (rest : List (List ℕ)) × (words ≡ (item_row kind).word ∷ rest) × IsFirstWrong (item_row kind).shapes (item_row kind).end 1 rest wrong
AreRefused words TrailingText =
    (kind : Kind) × (rest : List (List ℕ)) × (word : List ℕ) × (more : List (List ℕ)) × (words ≡ (item_row kind).word ∷ rest)
    × ((item_row kind).end ≡ Plain Nothing) × FieldsStand (item_row kind).shapes rest (word ∷ more)

-- why a line is no item's
abbrev pub IsRefused : List ℕ → ItemFault → Type 0
IsRefused line fault = AreRefused (pieces 32 line) fault
