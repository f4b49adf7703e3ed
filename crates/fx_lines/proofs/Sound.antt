-- What makes a form sound: what it spells it reads, and what it reads it spells.
use Rattle.std.proofs.Common.{◌≡◌, ℕ, Bool, true, List}
use Rattle.std.specs.Prelude.{Some, Ok}
use Rattle.std.specs.List.{list_all}
use Rattle.fx_lines.specs.Forms.{WordForm, Form}
use Rattle.fx_lines.proofs.Separated.{no_space}

pub record IsSoundWord {A : Type 0} (free : ℕ → Bool) (form : WordForm A) : Type 0 where
  pub again : (a : A) → form.has_word a ≡ true → form.in_type a ≡ true → form.read (form.spell a) ≡ Some a
  pub back : (word : List ℕ) (a : A) → form.read word ≡ Some a → (form.spell a ≡ word) × (form.has_word a ≡ true) × (form.in_type a ≡ true)
  pub clean : (a : A) → form.has_word a ≡ true → form.in_type a ≡ true → list_all free (form.spell a) ≡ true

pub record IsSoundForm {A : Type 0} (form : Form A) : Type 0 where
  pub again : (a : A) → form.has_words a ≡ true → form.in_type a ≡ true → (k : ℕ) → form.read k (form.words a) ≡ Ok a
  pub back : (k : ℕ) (words : List (List ℕ)) (a : A) → form.read k words ≡ Ok a → (form.words a ≡ words) × (form.has_words a ≡ true) × (form.in_type a ≡ true)
  pub clean : (a : A) → form.has_words a ≡ true → form.in_type a ≡ true → list_all (list_all no_space) (form.words a) ≡ true
