-- How values are said by words, and read from them. A form holds both directions of one kind of field.
use Rattle.std.specs.Prelude.{ℕ, ◌+◌, ℤ, pos, negsuc, Bool, true, false, ◌&&◌, ◌==◌, nat_lt, if◌then◌else◌, List, [], ◌∷◌, map, Option, Some, None, Result, Ok, Err}
use Rattle.std.specs.Fmt.{decimal, signed_decimal}
use Rattle.std.specs.List.{list_all, slice_split, join_with_byte, find}
use Rattle.std.specs.Option.{option_map}
use Rattle.std.specs.Str.{bytes_eq}
use Rattle.fx_text.specs.Numbers.{number_in, fits_64}
use Rattle.fx_text.specs.declared.number.NumberFault.{NumberFault}
use Rattle.fx_lines.specs.declared.fault.ItemFault.{ItemFault}
use Rattle.fx_lines.specs.declared.fault.ItemFault.TheVariants.{NoSuchKind, BadField, TrailingText}

-- values of one word: how each is spelled and read, which have a word, and which are of their type's numbers
pub record WordForm (A : Type 0) : Type 0 where
  pub spell : A → List ℕ
  pub read : List ℕ → Option A
  pub has_word : A → Bool
  pub in_type : A → Bool

-- values that take all that is left of a line, read from the number of the first field that is left
pub record Form (A : Type 0) : Type 0 where
  pub words : A → List (List ℕ)
  pub read : ℕ → List (List ℕ) → Result A ItemFault
  pub has_words : A → Bool
  pub in_type : A → Bool

-- the pieces between the bytes of this value, one more than there are such bytes
abbrev pub pieces : ℕ → List ℕ → List (List ℕ)
pieces byte bytes = slice_split (λ b. b == byte) bytes

-- both of two values, where both are there
abbrev pub both : {A B : Type 0} → Option A → Option B → Option (A × B)
both (Some a) (Some b) = Some (a, b)
both (Some a) None = None
both None second = None

-- ---- words

-- a whole number from 0 and below a bound
abbrev pub natural_below : ℕ → Result ℤ NumberFault → Option ℕ
natural_below bound (Ok (pos n)) = if nat_lt n bound then Some n else None
natural_below bound (Ok (negsuc n)) = None
natural_below bound (Err fault) = None

-- a whole number of 64 bits
abbrev pub integer_in : Result ℤ NumberFault → Option ℤ
integer_in (Ok z) = Some z
integer_in (Err fault) = None

-- a number of a type without sign, whose values are those below the bound, in its one spelling
abbrev pub natural : ℕ → WordForm ℕ
natural bound = record {
  spell = decimal;
  read = λ word. natural_below bound (number_in word);
  has_word = λ n. true;
  in_type = λ n. nat_lt n bound;
}

-- a number of 64 bits with a sign, in its one spelling
abbrev pub integer : WordForm ℤ
integer = record {
  spell = signed_decimal;
  read = λ word. integer_in (number_in word);
  has_word = λ z. true;
  in_type = fits_64;
}

-- a value that wraps another one and has its word
abbrev pub wrapped : {A B : Type 0} → (A → B) → (B → A) → WordForm A → WordForm B
wrapped wrap inside form = record {
  spell = λ b. form.spell (inside b);
  read = λ word. option_map wrap (form.read word);
  has_word = λ b. form.has_word (inside b);
  in_type = λ b. form.in_type (inside b);
}

-- one of some values, each with a word of its own; the test says which values are among them
abbrev pub choice : {A : Type 0} → (A → List ℕ) → (A → Bool) → List A → WordForm A
choice word is_among those = record {
  spell = word;
  read = λ w. find (λ a. bytes_eq (word a) w) those;
  has_word = is_among;
  in_type = λ a. true;
}

-- two values with a byte between them
abbrev pub pair_in : {A B : Type 0} → WordForm A → WordForm B → List (List ℕ) → Option (A × B)
pair_in first second [] = None
pair_in first second (a ∷ []) = None
pair_in first second (a ∷ b ∷ []) = both (first.read a) (second.read b)
pair_in first second (a ∷ b ∷ c ∷ more) = None

-- the two words with the byte between them
abbrev pub pair : {A B : Type 0} → ℕ → WordForm A → WordForm B → WordForm (A × B)
pair byte first second = record {
  spell = λ v. join_with_byte byte (first.spell v.0 ∷ second.spell v.1 ∷ []);
  read = λ word. pair_in first second (pieces byte word);
  has_word = λ v. first.has_word v.0 && second.has_word v.1;
  in_type = λ v. first.in_type v.0 && second.in_type v.1;
}

-- each word's value, where each word says one
abbrev pub read_each : {A : Type 0} → (List ℕ → Option A) → List (List ℕ) → Option (List A)
read_each read [] = Some []
read_each read (word ∷ words) = option_map (λ v. v.0 ∷ v.1) (both (read word) (read_each read words))

-- there is at least one
abbrev pub is_some_list : {A : Type 0} → List A → Bool
is_some_list [] = false
is_some_list (a ∷ rest) = true

-- one value or more, with a byte between each two. The values are of a form in which each has a word
abbrev pub joined : {A : Type 0} → ℕ → WordForm A → WordForm (List A)
joined byte each = record {
  spell = λ list. join_with_byte byte (map each.spell list);
  read = λ word. read_each each.read (pieces byte word);
  has_word = λ list. is_some_list list;
  in_type = λ list. list_all each.in_type list;
}

-- ---- the end of a line

-- nothing more
abbrev pub read_nothing : ℕ → List (List ℕ) → Result (Unit {0}) ItemFault
read_nothing k [] = Ok tt
read_nothing k (word ∷ words) = Err TrailingText

-- the line is over
abbrev pub nothing : Form (Unit {0})
nothing = record {
  words = λ v. [];
  read = read_nothing;
  has_words = λ v. true;
  in_type = λ v. true;
}

-- the value of field k, where it is there
abbrev pub or_bad_field : {A : Type 0} → ℕ → Option A → Result A ItemFault
or_bad_field k (Some a) = Ok a
or_bad_field k None = Err (BadField k)

-- the values behind the word `:`, where all that follows is right
abbrev pub listed : {A : Type 0} → (List ℕ → Option A) → List (List ℕ) → Option (List A)
listed read [] = None
listed read (mark ∷ words) = if bytes_eq mark (58 ∷ []) then read_each read words else None

-- the word `:` and a word for each value, as one field. The values are of a form in which each has a word
abbrev pub list_of : {A : Type 0} → WordForm A → Form (List A)
list_of each = record {
  words = λ list. (58 ∷ []) ∷ map each.spell list;
  read = λ k words. or_bad_field k (listed each.read words);
  has_words = λ list. true;
  in_type = λ list. list_all each.in_type list;
}

-- ---- one field and what follows it

-- what the field says, with what follows it
abbrev pub and_then : {A B : Type 0} → ℕ → Option A → Result B ItemFault → Result (A × B) ItemFault
and_then k None rest = Err (BadField k)
and_then k (Some a) (Ok b) = Ok (a, b)
and_then k (Some a) (Err fault) = Err fault

-- field k, of one word, and then the rest from the next field on: the first that is missing or wrong decides
abbrev pub read_field : {A B : Type 0} → WordForm A → Form B → ℕ → List (List ℕ) → Result (A × B) ItemFault
read_field first rest k [] = Err (BadField k)
read_field first rest k (word ∷ words) = and_then k (first.read word) (rest.read (k + 1) words)

-- a field of one word, and what follows it
abbrev pub before : {A B : Type 0} → WordForm A → Form B → Form (A × B)
before first rest = record {
  words = λ v. first.spell v.0 ∷ rest.words v.1;
  read = read_field first rest;
  has_words = λ v. first.has_word v.0 && rest.has_words v.1;
  in_type = λ v. first.in_type v.0 && rest.in_type v.1;
}

-- all the words as one field: whatever is wrong in them, that field is
abbrev pub one_field : {A : Type 0} → ℕ → Result A ItemFault → Result A ItemFault
one_field k (Ok a) = Ok a
one_field k (Err fault) = Err (BadField k)

-- the same words, as a field that is right or wrong as a whole
abbrev pub as_one_field : {A : Type 0} → Form A → Form A
as_one_field form = record {
  words = form.words;
  read = λ k words. one_field k (form.read 0 words);
  has_words = form.has_words;
  in_type = form.in_type;
}

-- ---- tables: kinds of values, each with a first word of its own and a form for what follows it

-- kinds K of values X: a value is taken apart into its kind and what that holds, and is put together from them
pub record Table (K X : Type 0) : Type 1 where
  pub kinds : List K
  pub word : K → List ℕ
  pub Held : K → Type 0
  pub form : (kind : K) → Form (Held kind)
  pub kind_of : X → K
  pub apart : (x : X) → Held (kind_of x)
  pub whole : (kind : K) → Held kind → X

-- the kind with this word, if there is one
abbrev pub kind_named : {K X : Type 0} → Table K X → List ℕ → Option K
kind_named table word = find (λ kind. bytes_eq (table.word kind) word) table.kinds

-- the value that is put together from what was read
abbrev pub made : {A B : Type 0} → (A → B) → Result A ItemFault → Result B ItemFault
made whole (Ok a) = Ok (whole a)
made whole (Err fault) = Err fault

-- what follows a word of this kind
abbrev pub read_kind : {K X : Type 0} → Table K X → ℕ → Option K → List (List ℕ) → Result X ItemFault
read_kind table k None words = Err NoSuchKind
read_kind table k (Some kind) words = made (table.whole kind) ((table.form kind).read (k + 1) words)

-- the first word names the kind
abbrev pub read_tabled : {K X : Type 0} → Table K X → ℕ → List (List ℕ) → Result X ItemFault
read_tabled table k [] = Err NoSuchKind
read_tabled table k (word ∷ words) = read_kind table k (kind_named table word) words

-- the word of the value's kind, and then what the kind holds
abbrev pub tabled : {K X : Type 0} → Table K X → Form X
tabled table = record {
  words = λ x. table.word (table.kind_of x) ∷ (table.form (table.kind_of x)).words (table.apart x);
  read = read_tabled table;
  has_words = λ x. (table.form (table.kind_of x)).has_words (table.apart x);
  in_type = λ x. (table.form (table.kind_of x)).in_type (table.apart x);
}
