-- The canonical text of a job that some text spells has the job's lines, one after another.
use Rattle.std.proofs.Common.{◌≡◌, IfSome, ℕ, ◌+◌, ◌≤◌, Bool, true, false, not, eqb, leb, ◌&&◌, List, [], ◌∷◌, ◌++◌, map, length, slice_index, Option, Some, None, refl, ap, subst, ◌∙◌, arith, inl, inr}
use Rattle.std.specs.List.{AllByRecursion, list_all}
use Rattle.std.proofs.lemmas.Bool.{cases_Bool, and_from, and_parts, not_from_false, not-true, leb-true, ne_eqb}
use Rattle.std.proofs.lemmas.List.Folds.{list_all-append}
use Rattle.fx_base.specs.declared.spot.Spot.{Spot}
use Rattle.fx_text.specs.Checks.{is_printable}
use Rattle.fx_text.specs.Lines.{Line, in_front, lines_of}
use Rattle.fx_text.specs.Words.{Word, begins_word, longer, words_from, words_of}
use Rattle.fx_script.specs.declared.job.Job.{Job}
use Rattle.fx_script.specs.Comments.{is_comment}
use Rattle.fx_script.specs.SaidLines.{Met, met_of, met_in, spot_of, if_met, met_from, IsSound}
use Rattle.fx_script.specs.Spelling.{Entry, job_entries, bytes_of, IsLine, AreLines, IsWritable, Spells}
use Rattle.fx_script.specs.Canonical.{line_of_words, text_of, canonical}
use Rattle.fx_text.specs.Written.{spaced}
use Rattle.fx_script.proofs.Placed.{spot_at, placed, placed_from}

-- ---- words that a line can hold

-- a byte of a word
abbrev pub is_word_byte : ℕ → Bool
is_word_byte b = is_printable b && not (eqb b 32)

-- a word: it has bytes, and each is a byte of a word
abbrev pub is_word : List ℕ → Bool
is_word [] = false
is_word (b ∷ bs) = list_all is_word_byte (b ∷ bs)

-- words of a line that says something: there are some, and they begin no comment
abbrev pub is_said : List (List ℕ) → Bool
is_said [] = false
is_said (w ∷ ws) = not (eqb (slice_index w 0) 35)

-- the words of a line that says something and is neither unprintable nor too long
pub record IsGoodLine (ws : List (List ℕ)) : Type 0 where
  pub words : list_all is_word ws ≡ true
  pub said : is_said ws ≡ true
  pub short : length (line_of_words ws) ≤ 1024

-- lines that say something, each of which can be written
abbrev pub AreGoodLines : List Entry → Type 0
AreGoodLines es = AllByRecursion (λ e. IsGoodLine e.words) es

-- a word's bytes
pub word_bytes : (w : List ℕ) → is_word w ≡ true → list_all is_word_byte w ≡ true
word_bytes [] e = absurd cc
word_bytes (b ∷ bs) e = e

-- ---- the words of a sound line

-- a byte of a word makes the next word longer, or is one
longer_words : (c b : ℕ) (ws : List Word) → is_word_byte b ≡ true → list_all is_word (map bytes_of ws) ≡ true → list_all is_word (map bytes_of (longer c b ws)) ≡ true
longer_words c b [] byte good = rw byte refl
longer_words c b (w ∷ ws) byte good =
    let parts = and_parts (is_word w.bytes) (list_all is_word (map bytes_of ws)) good in
    and_from (is_word (b ∷ w.bytes)) (list_all is_word (map bytes_of ws)) (and_from (is_word_byte b) (list_all is_word_byte w.bytes) byte (word_bytes w.bytes parts.0)) parts.1

-- the words of a printable line are words
pub words_good : (c : ℕ) (line : List ℕ) → list_all is_printable line ≡ true → list_all is_word (map bytes_of (words_from c line)) ≡ true
words_good c [] p = refl
words_good c (b ∷ bs) p =
    let parts = and_parts (is_printable b) (list_all is_printable bs) p in
    let rest = words_good (c + 1) bs parts.1 in
    elim (cases_Bool (eqb b 32)) [
      | inl t ↦ rw t rest
      | inr f ↦
          let byte : is_word_byte b ≡ true = and_from (is_printable b) (not (eqb b 32)) parts.0 (not_from_false (eqb b 32) f) in
          elim (cases_Bool (begins_word bs)) [
            | inl goes ↦ rw (f, goes) (longer_words c b (words_from (c + 1) bs) byte rest)
            | inr ends ↦ rw (f, ends, byte) rest
          ]
    ]

-- how long the line of these words is
abbrev words_length : List Word → ℕ
words_length ws = length (line_of_words (map bytes_of ws))

longer_length : (c b : ℕ) (ws : List Word) → words_length (longer c b ws) ≡ 1 + words_length ws
longer_length c b [] = refl
longer_length c b (w ∷ ws) = omega arith

spaced_length : (ws : List (List ℕ)) → length (spaced ws) ≤ 1 + length (line_of_words ws)
spaced_length [] = omega arith
spaced_length (w ∷ ws) = omega arith

-- a line is as long as the line of its words, at least
words_within : (c : ℕ) (line : List ℕ) → words_length (words_from c line) ≤ length line
words_within c [] = omega arith
words_within c (b ∷ []) = elim (cases_Bool (eqb b 32)) [ inl t ↦ rw t (omega arith) | inr f ↦ rw f (omega arith) ]
words_within c (b ∷ d ∷ ds) = elim (cases_Bool (eqb b 32)) [
  | inl t ↦
      let passed : words_from c (b ∷ d ∷ ds) ≡ words_from (c + 1) (d ∷ ds) = rw t refl in
      omega (arith, ap words_length passed, words_within (c + 1) (d ∷ ds))
  | inr f ↦ elim (cases_Bool (eqb d 32)) [
    | inl t ↦
        let alone : words_from c (b ∷ d ∷ ds) ≡ record { column = c; bytes = b ∷ [] } ∷ words_from (c + 1 + 1) ds = rw (f, t) refl in
        omega (arith, ap words_length alone, words_within (c + 1 + 1) ds, spaced_length (map bytes_of (words_from (c + 1 + 1) ds)))
    | inr g ↦
        let goes : words_from c (b ∷ d ∷ ds) ≡ longer c b (words_from (c + 1) (d ∷ ds)) = rw (f, g) refl in
        omega (arith, ap words_length goes, longer_length c b (words_from (c + 1) (d ∷ ds)), words_within (c + 1) (d ∷ ds))
  ]
]

-- ---- what is met in sound lines

-- what is met in one line is a good line, and so is what is met in the others
one_met : (number past : ℕ) (w : Word) (ws : List Word) (ms : List Met) (es : List Entry)
    → list_all is_word (map bytes_of (w ∷ ws)) ≡ true → words_length (w ∷ ws) ≤ 1024 → is_comment w ≡ false
    → AreLines (record { number = number; first = w; left = record { words = ws; past = past } } ∷ ms) es
    → ((others : List Entry) → AreLines ms others → AreGoodLines others) → AreGoodLines es
one_met number past w ws ms [] good short says lines rest = absurd lines
one_met number past w ws ms (e ∷ es) good short says lines rest =
    let line : IsGoodLine (map bytes_of (w ∷ ws)) = record { words = good; said = not_from_false (is_comment w) says; short = short } in
    (subst (λ (words : List (List ℕ)). IsGoodLine words) lines.0.words line, rest es lines.1)

met_good : (number past : ℕ) (ws : List Word) (ms : List Met) (es : List Entry)
    → list_all is_word (map bytes_of ws) ≡ true → words_length ws ≤ 1024 → AreLines (if_met (met_of number past ws) ms) es
    → ((others : List Entry) → AreLines ms others → AreGoodLines others) → AreGoodLines es
met_good number past [] ms es good short lines rest = rest es lines
met_good number past (w ∷ ws) ms es good short lines rest = elim (cases_Bool (is_comment w)) [
  | inl t ↦ let passed : AreLines ms es = rw t at lines in rest es passed
  | inr f ↦
      let met : AreLines (record { number = number; first = w; left = record { words = ws; past = past } } ∷ ms) es = rw f at lines in
      one_met number past w ws ms es good short f met rest
]

-- the entries of sound lines are good lines
pub lines_good : (number : ℕ) (ls : List Line) (es : List Entry) → AllByRecursion IsSound ls → AreLines (met_from number ls) es → AreGoodLines es
lines_good number [] [] sounds lines = tt
lines_good number [] (e ∷ es) sounds lines = absurd lines
lines_good number (l ∷ ls) es sounds lines =
    met_good number (length l.bytes + 1) (words_of l.bytes) (met_from (number + 1) ls) es
    (words_good 1 l.bytes sounds.0.printable)
    (omega (arith, words_within 1 l.bytes, sounds.0.short))
    lines
    (λ others. lines_good (number + 1) ls others sounds.1)

-- ---- a line of words, and its words

-- a line of words is printable
word_printable : (w : List ℕ) → list_all is_word_byte w ≡ true → list_all is_printable w ≡ true
word_printable [] e = refl
word_printable (b ∷ bs) e =
    let parts = and_parts (is_word_byte b) (list_all is_word_byte bs) e in
    let byte = and_parts (is_printable b) (not (eqb b 32)) parts.0 in
    and_from (is_printable b) (list_all is_printable bs) byte.0 (word_printable bs parts.1)

pub both_printable : (a b : List ℕ) → list_all is_printable a ≡ true → list_all is_printable b ≡ true → list_all is_printable (a ++ b) ≡ true
both_printable a b first second = list_all-append is_printable a b ∙ and_from (list_all is_printable a) (list_all is_printable b) first second

pub spaced_printable : (ws : List (List ℕ)) → list_all is_word ws ≡ true → list_all is_printable (spaced ws) ≡ true
spaced_printable [] e = refl
spaced_printable (w ∷ ws) e =
    let parts = and_parts (is_word w) (list_all is_word ws) e in
    both_printable w (spaced ws) (word_printable w (word_bytes w parts.0)) (spaced_printable ws parts.1)

line_printable : (ws : List (List ℕ)) → list_all is_word ws ≡ true → list_all is_printable (line_of_words ws) ≡ true
line_printable [] e = refl
line_printable (w ∷ ws) e =
    let parts = and_parts (is_word w) (list_all is_word ws) e in
    both_printable w (spaced ws) (word_printable w (word_bytes w parts.0)) (spaced_printable ws parts.1)

-- a word up to where no word goes on
word_in_front : (c : ℕ) (w rest : List ℕ) → is_word w ≡ true → begins_word rest ≡ false
    → words_from c (w ++ rest) ≡ record { column = c; bytes = w } ∷ words_from (c + length w) rest
word_in_front c [] rest e ends = absurd cc
word_in_front c (b ∷ []) rest e ends =
    let parts = and_parts (is_word_byte b) true e in
    let byte = and_parts (is_printable b) (not (eqb b 32)) parts.0 in
    rw (not-true (eqb b 32) byte.1, ends) refl
word_in_front c (b ∷ d ∷ ds) rest e ends =
    let parts = and_parts (is_word_byte b) (list_all is_word_byte (d ∷ ds)) e in
    let byte = and_parts (is_printable b) (not (eqb b 32)) parts.0 in
    let next = and_parts (is_word_byte d) (list_all is_word_byte ds) parts.1 in
    let next_byte = and_parts (is_printable d) (not (eqb d 32)) next.0 in
    let goes : words_from c ((b ∷ d ∷ ds) ++ rest) ≡ longer c b (words_from (c + 1) ((d ∷ ds) ++ rest)) =
    rw (not-true (eqb b 32) byte.1, not-true (eqb d 32) next_byte.1) refl in
    let column : c + 1 + length (d ∷ ds) ≡ c + length (b ∷ d ∷ ds) = omega arith in
    goes ∙ ap (longer c b) (word_in_front (c + 1) (d ∷ ds) rest parts.1 ends) ∙ rw column refl

-- no word goes on where a word ends
none_begins : (ws : List (List ℕ)) → begins_word (spaced ws) ≡ false
none_begins [] = refl
none_begins (w ∷ ws) = refl

-- the words behind spaces
pub words_spaced : (c : ℕ) (ws : List (List ℕ)) → list_all is_word ws ≡ true → map bytes_of (words_from c (spaced ws)) ≡ ws
words_spaced c [] e = refl
words_spaced c (w ∷ ws) e =
    let parts = and_parts (is_word w) (list_all is_word ws) e in
    rw (word_in_front (c + 1) w (spaced ws) parts.0 (none_begins ws), words_spaced (c + 1 + length w) ws parts.1) refl

-- ---- the lines of a text of entries

-- a printable line ends at the first line end behind it
printable_ends_not : (b : ℕ) → is_printable b ≡ true → eqb b 10 ≡ false
printable_ends_not b e =
    let parts = and_parts (leb 32 b) (leb b 126) e in
    ne_eqb b 10 (λ same. omega (arith, leb-true 32 b parts.0, same))

pub line_ended : (line rest : List ℕ) → list_all is_printable line ≡ true
    → lines_of ((line ++ 10 ∷ []) ++ rest) ≡ record { bytes = line; ended = true } ∷ lines_of rest
line_ended [] rest e = refl
line_ended (b ∷ bs) rest e =
    let parts = and_parts (is_printable b) (list_all is_printable bs) e in
    rw (printable_ends_not b parts.0) (ap (in_front b) (line_ended bs rest parts.1))

-- the line of an entry, as a line of a text
abbrev pub written : Entry → Line
written e = record { bytes = line_of_words e.words; ended = true }

-- the lines of a text of entries are the entries' lines
pub text_lines : (es : List Entry) → AreGoodLines es → lines_of (text_of es) ≡ map written es
text_lines [] good = refl
text_lines (e ∷ es) good =
    line_ended (line_of_words e.words) (text_of es) (line_printable e.words good.0.words) ∙ ap (λ (ls : List Line). written e ∷ ls) (text_lines es good.1)

-- ---- what these lines say

-- they are sound
pub written_sound : (es : List Entry) → AreGoodLines es → AllByRecursion IsSound (map written es)
written_sound [] good = tt
written_sound (e ∷ es) good = (record { printable = line_printable e.words good.0.words; short = good.0.short; ended = refl }, written_sound es good.1)

-- what is met in a line of words
abbrev met_first : ℕ → List ℕ → List (List ℕ) → Met
met_first n w ws = record { number = n; first = record { column = 1; bytes = w }; left = record { words = words_from (1 + length w) (spaced ws); past = length (line_of_words (w ∷ ws)) + 1 } }

met_written : (n : ℕ) (w : List ℕ) (ws : List (List ℕ)) → IsGoodLine (w ∷ ws) → met_in n (line_of_words (w ∷ ws)) ≡ Some (met_first n w ws)
met_written n w ws good =
    let parts = and_parts (is_word w) (list_all is_word ws) good.words in
    rw (word_in_front 1 w (spaced ws) parts.0 (none_begins ws), not-true (eqb (slice_index w 0) 35) good.said) refl

-- it is the entry, at the spot where the line stands
spot_is : (n : ℕ) (w : List ℕ) (ws : List (List ℕ)) (o : Option Spot) → IfSome (spot_at n o) (λ spot. spot ≡ spot_of (met_first n w ws))
spot_is n w ws None = tt
spot_is n w ws (Some spot) = refl

placed_line : (n : ℕ) (o : Option Spot) (w : List ℕ) (ws : List (List ℕ)) → IsGoodLine (w ∷ ws) → IsLine (met_first n w ws) (placed n record { spot = o; words = w ∷ ws })
placed_line n o w ws good =
    let parts = and_parts (is_word w) (list_all is_word ws) good.words in
    record { spot = spot_is n w ws o; words = rw (words_spaced (1 + length w) ws parts.1) refl }

met_placed : (n : ℕ) (o : Option Spot) (words : List (List ℕ)) (ms : List Met) (es : List Entry) → IsGoodLine words → AreLines ms es
    → AreLines (if_met (met_in n (line_of_words words)) ms) (placed n record { spot = o; words = words } ∷ es)
met_placed n o [] ms es good lines = absurd (let no = good.said in cc)
met_placed n o (w ∷ ws) ms es good lines = rw (met_written n w ws good) (placed_line n o w ws good, lines)

-- what is met in the lines, one after another
written_placed : (n : ℕ) (es : List Entry) → AreGoodLines es → AreLines (met_from n (map written es)) (placed_from n es)
written_placed n [] good = tt
written_placed n (e ∷ es) good = met_placed n e.spot e.words (met_from (n + 1) (map written es)) (placed_from (n + 1) es) good.0 (written_placed (n + 1) es good.1)

-- the same of the text
pub text_sound : (es : List Entry) → AreGoodLines es → AllByRecursion IsSound (lines_of (text_of es))
text_sound es good = rw (text_lines es good) (written_sound es good)

pub text_placed : (es others : List Entry) → AreGoodLines es → others ≡ placed_from 1 es → AreLines (met_from 1 (lines_of (text_of es))) others
text_placed es others good is = rw (text_lines es good, is) (written_placed 1 es good)

-- the canonical text of a job that some text spells: it spells a job with the same lines, each with the spot that it has there
pub canonical_spells : (text : List ℕ) (told again : Job) → Spells text told → job_entries again ≡ placed_from 1 (job_entries told) → IsWritable again → Spells (canonical told) again
canonical_spells text told again spells entries writable =
    let good : AreGoodLines (job_entries told) = lines_good 1 (lines_of text) (job_entries told) spells.sound spells.lines in
    record {
      writable = writable;
      sound = text_sound (job_entries told) good;
      lines = text_placed (job_entries told) (job_entries again) good entries;
    }
