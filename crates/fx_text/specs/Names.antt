-- The names that arrays, counters and callbacks have.
use Rattle.std.specs.Prelude.{◌≡◌, ℕ, Bool, true, false, not, ◌&&◌, ◌||◌, nat_le, List, [], ◌∷◌, length, codes, refl}
use Rattle.std.specs.List.{list_all}
use Rattle.std.specs.Str.{bytes_eq}

-- a letter a to z
abbrev pub is_letter : ℕ → Bool
is_letter b = nat_le 97 b && nat_le b 122

-- a letter or a digit
abbrev pub is_letter_or_digit : ℕ → Bool
is_letter_or_digit b = is_letter b || (nat_le 48 b && nat_le b 57)

-- a word that stands for a value of its own in a job
abbrev pub is_reserved : List ℕ → Bool
is_reserved word = bytes_eq word (codes "index") || bytes_eq word (codes "rank") || bytes_eq word (codes "size") || bytes_eq word (codes "latest")

-- a letter and then letters or digits
abbrev pub begins_with_letter : List ℕ → Bool
begins_with_letter [] = false
begins_with_letter (b ∷ bs) = is_letter b && list_all is_letter_or_digit bs

-- a letter and then up to 15 letters or digits, and none of the four words
abbrev pub is_name : List ℕ → Bool
is_name word = begins_with_letter word && nat_le (length word) 16 && not (is_reserved word)

-- names, and what is none

a1 : is_name (codes "a1") ≡ true
a1 = refl

the_last_of_each : is_name (codes "z09") ≡ true
the_last_of_each = refl

sixteen_letters : is_name (codes "abcdefghijklmnop") ≡ true
sixteen_letters = refl

longer_than_a_taken_word : is_name (codes "ranks") ≡ true
longer_than_a_taken_word = refl

a_taken_word_and_a_digit : is_name (codes "size1") ≡ true
a_taken_word_and_a_digit = refl

nothing_at_all : is_name [] ≡ false
nothing_at_all = refl

seventeen_letters : is_name (codes "abcdefghijklmnopq") ≡ false
seventeen_letters = refl

index : is_name (codes "index") ≡ false
index = refl

rank : is_name (codes "rank") ≡ false
rank = refl

size : is_name (codes "size") ≡ false
size = refl

latest : is_name (codes "latest") ≡ false
latest = refl

one_a : is_name (codes "1a") ≡ false
one_a = refl

capital : is_name (codes "aB") ≡ false
capital = refl

a_line_below : is_name (codes "a_b") ≡ false
a_line_below = refl

a_line_between : is_name (codes "a-") ≡ false
a_line_between = refl

a_colon : is_name (codes "a:") ≡ false
a_colon = refl

-- the bytes next to the letters and the digits
before_the_letters : is_name (96 ∷ []) ≡ false
before_the_letters = refl

behind_the_letters : is_name (123 ∷ []) ≡ false
behind_the_letters = refl

before_the_digits : is_name (97 ∷ 47 ∷ []) ≡ false
before_the_digits = refl
