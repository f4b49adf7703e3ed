-- Texts that agree up to a place: their lines and their words up to there.
use Rattle.std.proofs.Common.{◌≡◌, ℕ, suc, ◌+◌, ◌≤◌, Bool, true, false, not, eqb, ◌||◌, List, [], ◌∷◌, ◌++◌, length, take, drop, refl, sym, ap, subst, ◌∙◌, arith, inl, inr}
use Rattle.std.specs.List.{list_all}
use Rattle.std.proofs.lemmas.Bool.{cases_Bool, and_parts, not-true, eqb-true}
use Rattle.std.proofs.lemmas.List.{take-append-drop}
use Rattle.fx_text.specs.Checks.{is_printable}
use Rattle.fx_text.specs.Lines.{Line, in_front, lines_of}
use Rattle.fx_text.specs.Words.{Word, begins_word, longer, words_from}
use Rattle.fx_script.specs.Refused.{behind_ends, word_and_end}
use Rattle.fx_script.specs.SaidLines.{has_no_end}

-- ---- lines

some_line : (b : ℕ) (bs : List ℕ) (ls : List Line) → in_front b ls ≡ [] → b ∷ bs ≡ []
some_line b bs [] e = absurd cc
some_line b bs (l ∷ ls) e = absurd cc

-- a text without lines is empty
pub no_lines : (text : List ℕ) → lines_of text ≡ [] → text ≡ []
no_lines [] e = refl
no_lines (b ∷ bs) e = elim (cases_Bool (eqb b 10)) [
  | inl t ↦ let free = rw t at e in absurd cc
  | inr f ↦ some_line b bs (lines_of bs) (rw f at e)
]

-- what stands behind the bytes of a line
abbrev pub ending : Bool → List ℕ → List ℕ
ending true rest = 10 ∷ rest
ending false rest = []

-- a text, cut behind its first line
pub record Cut (text : List ℕ) (l : Line) (ls : List Line) : Type 0 where
  pub rest : List ℕ
  pub is : text ≡ l.bytes ++ ending l.ended rest
  pub lines : lines_of rest ≡ ls
  pub no_end : has_no_end l.bytes ≡ true

cut_again : (text : List ℕ) (k l : Line) (ks ls : List Line) → k ≡ l → ks ≡ ls → Cut text k ks → Cut text l ls
cut_again text k l ks ls same others c = subst (λ (x : Line). Cut text x ls) same (subst (λ (xs : List Line). Cut text k xs) others c)

cut_front : (b : ℕ) (bs : List ℕ) (ms : List Line) (l : Line) (ls : List Line) → lines_of bs ≡ ms → eqb b 10 ≡ false → in_front b ms ≡ l ∷ ls
    → ((m : Line) (ns : List Line) → ms ≡ m ∷ ns → Cut bs m ns) → Cut (b ∷ bs) l ls
cut_front b bs [] l ls is f e each =
    let same : record { bytes = b ∷ []; ended = false } ≡ l = cc in
    let others : [] ≡ ls = cc in
    cut_again (b ∷ bs) (record { bytes = b ∷ []; ended = false }) l [] ls same others
    (record { rest = []; is = ap (λ (t : List ℕ). b ∷ t) (no_lines bs is); lines = refl; no_end = rw f refl })
cut_front b bs (m ∷ ns) l ls is f e each =
    let same : record m { bytes = b ∷ m.bytes } ≡ l = cc in
    let others : ns ≡ ls = cc in
    let c = each m ns refl in
    cut_again (b ∷ bs) (record m { bytes = b ∷ m.bytes }) l ns ls same others
    (record { rest = c.rest; is = ap (λ (t : List ℕ). b ∷ t) c.is; lines = c.lines; no_end = rw f c.no_end })

pub cut : (text : List ℕ) (l : Line) (ls : List Line) → lines_of text ≡ l ∷ ls → Cut text l ls
cut [] l ls e = absurd cc
cut (b ∷ bs) l ls e = elim (cases_Bool (eqb b 10)) [
  | inl t ↦
      let s : record { bytes = []; ended = true } ∷ lines_of bs ≡ l ∷ ls = rw t at e in
      let same : record { bytes = []; ended = true } ≡ l = cc in
      let others : lines_of bs ≡ ls = cc in
      cut_again (b ∷ bs) (record { bytes = []; ended = true }) l (lines_of bs) ls same others
      (record { rest = bs; is = ap (λ (c : ℕ). c ∷ bs) (eqb-true b 10 t); lines = refl; no_end = refl })
  | inr f ↦ cut_front b bs (lines_of bs) l ls refl f (rw f at e) (λ m ns h. cut bs m ns h)
]

-- a line with its end, in front of a text
pub ended_first : (a rest : List ℕ) → has_no_end a ≡ true → lines_of (a ++ 10 ∷ rest) ≡ record { bytes = a; ended = true } ∷ lines_of rest
ended_first [] rest free = refl
ended_first (b ∷ bs) rest free =
    let parts = and_parts (not (eqb b 10)) (has_no_end bs) free in
    rw (not-true (eqb b 10) parts.0) (ap (in_front b) (ended_first bs rest parts.1))

-- a text that begins with bytes of a line: its first line begins with them
pub record Begins (a text : List ℕ) : Type 0 where
  pub first : Line
  pub others : List Line
  pub lines : lines_of text ≡ first ∷ others
  pub more : List ℕ
  pub bytes : first.bytes ≡ a ++ more

line_step : (b : ℕ) (bs : List ℕ) → eqb b 10 ≡ false → lines_of (b ∷ bs) ≡ in_front b (lines_of bs)
line_step b bs f = rw f refl

front_begins : (b : ℕ) (a rest : List ℕ) (ls : List Line) → lines_of rest ≡ ls → eqb b 10 ≡ false → a ≡ [] → Begins (b ∷ a) (b ∷ rest)
front_begins b a rest [] is f none = record { first = record { bytes = b ∷ []; ended = false }; others = []; lines = rw (f, is) refl; more = []; bytes = rw none refl }
front_begins b a rest (l ∷ ls) is f none = record { first = record l { bytes = b ∷ l.bytes }; others = ls; lines = rw (f, is) refl; more = l.bytes; bytes = rw none refl }

pub begins : (b : ℕ) (a rest : List ℕ) → has_no_end (b ∷ a) ≡ true → Begins (b ∷ a) ((b ∷ a) ++ rest)
begins b [] rest free =
    let parts = and_parts (not (eqb b 10)) true free in
    front_begins b [] rest (lines_of rest) refl (not-true (eqb b 10) parts.0) refl
begins b (d ∷ a) rest free =
    let parts = and_parts (not (eqb b 10)) (has_no_end (d ∷ a)) free in
    let r = begins d a rest parts.1 in
    record {
      first = record r.first { bytes = b ∷ r.first.bytes };
      others = r.others;
      lines = line_step b ((d ∷ a) ++ rest) (not-true (eqb b 10) parts.0) ∙ ap (in_front b) r.lines;
      more = r.more;
      bytes = ap (λ (t : List ℕ). b ∷ t) r.bytes;
    }

-- a text that agrees with these bytes, and behind them
pub record Agrees (a b other : List ℕ) (t : ℕ) : Type 0 where
  pub rest : List ℕ
  pub is : other ≡ a ++ rest
  pub same : take t rest ≡ take t b

agrees_on : (x : ℕ) (xs b other : List ℕ) (k t : ℕ) → k ≡ length xs + t → take (suc k) other ≡ take (suc k) (x ∷ (xs ++ b))
    → ((tail : List ℕ) → take k tail ≡ take k (xs ++ b) → Agrees xs b tail t) → Agrees (x ∷ xs) b other t
agrees_on x xs b [] k t is e rest = absurd cc
agrees_on x xs b (y ∷ ys) k t is e rest =
    let first : y ≡ x = cc in
    let others : take k ys ≡ take k (xs ++ b) = cc in
    let r = rest ys others in
    record { rest = r.rest; is = rw first (ap (λ (l : List ℕ). x ∷ l) r.is); same = r.same }

pub agrees : (a b other : List ℕ) (n t : ℕ) → n ≡ length a + t → take n other ≡ take n (a ++ b) → Agrees a b other t
agrees [] b other n t is e =
    let same : n ≡ t = omega arith in
    record { rest = other; is = refl; same = subst (λ (k : ℕ). take k other ≡ take k b) same e }
agrees (x ∷ xs) b other n t is e =
    let up : n ≡ suc (length xs + t) = omega arith in
    agrees_on x xs b other (length xs + t) t refl (subst (λ (k : ℕ). take k other ≡ take k (x ∷ (xs ++ b))) up e) (λ tail h. agrees xs b tail (length xs + t) t refl h)

-- how many bytes stand in front of the lines behind the first
pub behind_line : (a rest : List ℕ) (n : ℕ) → has_no_end a ≡ true → behind_ends (a ++ 10 ∷ rest) (suc n) ≡ length a + 1 + behind_ends rest n
behind_line [] rest n free = omega arith
behind_line (b ∷ bs) rest n free =
    let parts = and_parts (not (eqb b 10)) (has_no_end bs) free in
    let r = behind_line bs rest n parts.1 in
    rw (not-true (eqb b 10) parts.0) (omega (arith, r))

pub behind_none : (text : List ℕ) → behind_ends text 0 ≡ 0
behind_none [] = refl
behind_none (b ∷ bs) = refl

-- ---- words

-- a byte that ends a word
abbrev pub ends_word : ℕ → Bool
ends_word b = eqb b 32 || not (is_printable b)

-- the bytes up to and with a word
pub record WordCut (c : ℕ) (bytes : List ℕ) (read : List Word) (bad : Word) : Type 0 where
  pub front : List ℕ
  pub rest : List ℕ
  pub is : bytes ≡ front ++ rest
  pub ends : begins_word rest ≡ false
  pub words : words_from c front ≡ read ++ bad ∷ []
  pub before : ℕ
  pub column : bad.column ≡ c + before
  pub whole : length front ≡ before + length bad.bytes
  pub word : drop before front ≡ bad.bytes
  pub lead : words_from c (take before bytes) ≡ read

longer_some : (c b : ℕ) (vs : List Word) → longer c b vs ≡ [] → ⊥
longer_some c b [] e = absurd cc
longer_some c b (v ∷ vs) e = absurd cc

longer_column : (c b : ℕ) (us : List Word) (v : Word) (vs : List Word) → longer c b us ≡ v ∷ vs → v.column ≡ c
longer_column c b [] v vs e =
    let first : record { column = c; bytes = b ∷ [] } ≡ v = cc in
    ap (λ (w : Word). w.column) (sym first)
longer_column c b (u ∷ us) v vs e =
    let first : record { column = c; bytes = b ∷ u.bytes } ≡ v = cc in
    ap (λ (w : Word). w.column) (sym first)

-- words where a word begins
begins_some : (c : ℕ) (bs : List ℕ) → begins_word bs ≡ true → words_from c bs ≡ [] → ⊥
begins_some c [] begins e = absurd cc
begins_some c (b ∷ bs) begins e =
    let f : eqb b 32 ≡ false = not-true (eqb b 32) begins in
    elim (cases_Bool (begins_word bs)) [
      | inl g ↦ longer_some c b (words_from (c + 1) bs) (rw (f, g) at e)
      | inr h ↦ let free = rw (f, h) at e in absurd cc
    ]

begins_column : (c : ℕ) (bs : List ℕ) (v : Word) (vs : List Word) → begins_word bs ≡ true → words_from c bs ≡ v ∷ vs → v.column ≡ c
begins_column c [] v vs begins e = absurd cc
begins_column c (b ∷ bs) v vs begins e =
    let f : eqb b 32 ≡ false = not-true (eqb b 32) begins in
    elim (cases_Bool (begins_word bs)) [
      | inl g ↦ longer_column c b (words_from (c + 1) bs) v vs (rw (f, g) at e)
      | inr h ↦
          let s : record { column = c; bytes = b ∷ [] } ∷ words_from (c + 1) bs ≡ v ∷ vs = rw (f, h) at e in
          let first : record { column = c; bytes = b ∷ [] } ≡ v = cc in
          ap (λ (w : Word). w.column) (sym first)
    ]

-- where words are some, a word begins in front of them as behind
front_as : (c : ℕ) (front rest : List ℕ) (w : Word) (ws read : List Word) (bad : Word) (b : Bool) → begins_word (front ++ rest) ≡ b → words_from c front ≡ read ++ bad ∷ [] → begins_word front ≡ b
front_as c [] rest w ws [] bad b begins e = absurd cc
front_as c [] rest w ws (r ∷ read) bad b begins e = absurd cc
front_as c (d ∷ ds) rest w ws read bad b begins e = begins

-- so it is with the words in front of one
lead_as_by : (c : ℕ) (front rest : List ℕ) (v : Word) (vs : List Word) → begins_word (front ++ rest) ≡ true → words_from c front ≡ v ∷ vs → begins_word front ≡ true
lead_as_by c [] rest v vs begins e = absurd cc
lead_as_by c (d ∷ ds) rest v vs begins e = begins

lead_as : (c k : ℕ) (bs : List ℕ) (v : Word) (vs : List Word) → begins_word bs ≡ true → words_from c (take k bs) ≡ v ∷ vs → begins_word (take k bs) ≡ true
lead_as c k bs v vs begins e = lead_as_by c (take k bs) (drop k bs) v vs (subst (λ (l : List ℕ). begins_word l ≡ true) (sym (take-append-drop k bs)) begins) e

lead_ends_by : (front rest : List ℕ) → begins_word (front ++ rest) ≡ false → begins_word front ≡ false
lead_ends_by [] rest ends = refl
lead_ends_by (d ∷ ds) rest ends = ends

lead_ends : (k : ℕ) (bs : List ℕ) → begins_word bs ≡ false → begins_word (take k bs) ≡ false
lead_ends k bs ends = lead_ends_by (take k bs) (drop k bs) (subst (λ (l : List ℕ). begins_word l ≡ false) (sym (take-append-drop k bs)) ends)

-- one byte more in front
one_more : (c b : ℕ) (bs : List ℕ) (read read' : List Word) (bad : Word) → (cut : WordCut (c + 1) bs read' bad) → words_from c (b ∷ cut.front) ≡ read ++ bad ∷ [] → words_from c (b ∷ take cut.before bs) ≡ read → WordCut c (b ∷ bs) read bad
one_more c b bs read read' bad cut words lead = record {
  front = b ∷ cut.front;
  rest = cut.rest;
  is = ap (λ (l : List ℕ). b ∷ l) cut.is;
  ends = cut.ends;
  words = words;
  before = suc cut.before;
  column = omega (arith, cut.column);
  whole = omega (arith, cut.whole);
  word = cut.word;
  lead = lead;
}

word_cut_goes : (c b : ℕ) (bs : List ℕ) (v : Word) (vs read : List Word) (bad : Word) (behind : List Word) → eqb b 32 ≡ false → begins_word bs ≡ true → words_from (c + 1) bs ≡ v ∷ vs
    → record { column = c; bytes = b ∷ v.bytes } ∷ vs ≡ read ++ bad ∷ behind
    → ((read' : List Word) (bad' : Word) (behind' : List Word) → words_from (c + 1) bs ≡ read' ++ bad' ∷ behind' → WordCut (c + 1) bs read' bad') → WordCut c (b ∷ bs) read bad
word_cut_goes c b bs v vs [] bad behind f g is e rest =
    let first : record { column = c; bytes = b ∷ v.bytes } ≡ bad = cc in
    let cut = rest [] v vs is in
    let column = begins_column (c + 1) bs v vs g is in
    let none : cut.before ≡ 0 = omega (arith, cut.column, column) in
    let whole : cut.front ≡ v.bytes = subst (λ (k : ℕ). drop k cut.front ≡ v.bytes) none cut.word in
    let begins : begins_word cut.front ≡ true = front_as (c + 1) cut.front cut.rest v vs [] v true (subst (λ (l : List ℕ). begins_word l ≡ true) cut.is g) cut.words in
    subst (λ (w : Word). WordCut c (b ∷ bs) [] w) first (record {
      front = b ∷ cut.front;
      rest = cut.rest;
      is = ap (λ (l : List ℕ). b ∷ l) cut.is;
      ends = cut.ends;
      words = rw (f, begins, cut.words) refl;
      before = 0;
      column = omega arith;
      whole = omega (arith, ap length whole);
      word = ap (λ (l : List ℕ). b ∷ l) whole;
      lead = refl;
    })
word_cut_goes c b bs v vs (r ∷ read) bad behind f g is e rest =
    let first : record { column = c; bytes = b ∷ v.bytes } ≡ r = cc in
    let others : vs ≡ read ++ bad ∷ behind = cc in
    let cut = rest (v ∷ read) bad behind (is ∙ ap (λ (l : List Word). v ∷ l) others) in
    let begins : begins_word cut.front ≡ true = front_as (c + 1) cut.front cut.rest v vs (v ∷ read) bad true (subst (λ (l : List ℕ). begins_word l ≡ true) cut.is g) cut.words in
    let lead_begins : begins_word (take cut.before bs) ≡ true = lead_as (c + 1) cut.before bs v read g cut.lead in
    one_more c b bs (r ∷ read) (v ∷ read) bad cut (rw (f, begins, cut.words) (ap (λ (w : Word). w ∷ (read ++ bad ∷ [])) first)) (rw (f, lead_begins, cut.lead) (ap (λ (w : Word). w ∷ read) first))

word_cut_ends : (c b : ℕ) (bs : List ℕ) (read : List Word) (bad : Word) (behind : List Word) → eqb b 32 ≡ false → begins_word bs ≡ false
    → record { column = c; bytes = b ∷ [] } ∷ words_from (c + 1) bs ≡ read ++ bad ∷ behind
    → ((read' : List Word) (bad' : Word) (behind' : List Word) → words_from (c + 1) bs ≡ read' ++ bad' ∷ behind' → WordCut (c + 1) bs read' bad') → WordCut c (b ∷ bs) read bad
word_cut_ends c b bs [] bad behind f h e rest =
    let first : record { column = c; bytes = b ∷ [] } ≡ bad = cc in
    subst (λ (w : Word). WordCut c (b ∷ bs) [] w) first (record {
      front = b ∷ [];
      rest = bs;
      is = refl;
      ends = h;
      words = rw f refl;
      before = 0;
      column = omega arith;
      whole = refl;
      word = refl;
      lead = refl;
    })
word_cut_ends c b bs (r ∷ read) bad behind f h e rest =
    let first : record { column = c; bytes = b ∷ [] } ≡ r = cc in
    let others : words_from (c + 1) bs ≡ read ++ bad ∷ behind = cc in
    let cut = rest read bad behind others in
    let ends : begins_word cut.front ≡ false = front_as (c + 1) cut.front cut.rest r [] read bad false (subst (λ (l : List ℕ). begins_word l ≡ false) cut.is h) cut.words in
    let lead_none : begins_word (take cut.before bs) ≡ false = lead_ends cut.before bs h in
    one_more c b bs (r ∷ read) read bad cut (rw (f, ends, cut.words) (ap (λ (w : Word). w ∷ (read ++ bad ∷ [])) first)) (rw (f, lead_none, cut.lead) (ap (λ (w : Word). w ∷ read) first))

none_found : (read : List Word) (bad : Word) (behind : List Word) → [] ≡ read ++ bad ∷ behind → ⊥
none_found [] bad behind e = absurd cc
none_found (r ∷ read) bad behind e = absurd cc

word_cut_by : (c b : ℕ) (bs : List ℕ) (vs read : List Word) (bad : Word) (behind : List Word) → eqb b 32 ≡ false → begins_word bs ≡ true → words_from (c + 1) bs ≡ vs → longer c b vs ≡ read ++ bad ∷ behind
    → ((read' : List Word) (bad' : Word) (behind' : List Word) → words_from (c + 1) bs ≡ read' ++ bad' ∷ behind' → WordCut (c + 1) bs read' bad') → WordCut c (b ∷ bs) read bad
word_cut_by c b bs [] read bad behind f g is e rest = absurd (begins_some (c + 1) bs g is)
word_cut_by c b bs (v ∷ vs) read bad behind f g is e rest = word_cut_goes c b bs v vs read bad behind f g is e rest

pub word_cut : (c : ℕ) (bytes : List ℕ) (read : List Word) (bad : Word) (behind : List Word) → words_from c bytes ≡ read ++ bad ∷ behind → WordCut c bytes read bad
word_cut c [] read bad behind e = absurd (none_found read bad behind e)
word_cut c (b ∷ bs) read bad behind e = elim (cases_Bool (eqb b 32)) [
  | inl t ↦
      let s : words_from (c + 1) bs ≡ read ++ bad ∷ behind = rw t at e in
      let cut = word_cut (c + 1) bs read bad behind s in
      one_more c b bs read read bad cut (rw t cut.words) (rw t cut.lead)
  | inr f ↦ elim (cases_Bool (begins_word bs)) [
    | inl g ↦ word_cut_by c b bs (words_from (c + 1) bs) read bad behind f g refl (rw (f, g) at e) (λ read' bad' behind' h. word_cut (c + 1) bs read' bad' behind' h)
    | inr h ↦ word_cut_ends c b bs read bad behind f h (rw (f, h) at e) (λ read' bad' behind' g. word_cut (c + 1) bs read' bad' behind' g)
  ]
]

-- words in front of a space, and words behind it
begins_alike : (bs more : List ℕ) → begins_word (bs ++ 32 ∷ more) ≡ begins_word bs
begins_alike [] more = refl
begins_alike (d ∷ ds) more = refl

longer_on : (c b : ℕ) (vs more : List Word) → (vs ≡ [] → ⊥) → longer c b (vs ++ more) ≡ longer c b vs ++ more
longer_on c b [] more some = absurd (some refl)
longer_on c b (v ∷ vs) more some = refl

pub words_behind : (c : ℕ) (a more : List ℕ) → words_from c (a ++ 32 ∷ more) ≡ words_from c a ++ words_from (c + length a + 1) more
words_behind c [] more = ap (λ (k : ℕ). words_from k more) (omega arith)
words_behind c (b ∷ bs) more =
    let there : c + 1 + length bs + 1 ≡ c + length (b ∷ bs) + 1 = omega arith in
    let rest : words_from (c + 1) (bs ++ 32 ∷ more) ≡ words_from (c + 1) bs ++ words_from (c + length (b ∷ bs) + 1) more = words_behind (c + 1) bs more ∙ ap (λ (k : ℕ). words_from (c + 1) bs ++ words_from k more) there in
    elim (cases_Bool (eqb b 32)) [
      | inl t ↦ rw t rest
      | inr f ↦ elim (cases_Bool (begins_word bs)) [
        | inl g ↦ rw (f, begins_alike bs more, g, rest) (longer_on c b (words_from (c + 1) bs) (words_from (c + length (b ∷ bs) + 1) more) (λ none. begins_some (c + 1) bs g none))
        | inr h ↦ rw (f, begins_alike bs more, h) (ap (λ (l : List Word). record { column = c; bytes = b ∷ [] } ∷ l) rest)
      ]
    ]

-- a word and what ends it
pub word_ended : (w : List ℕ) (x : ℕ) (rest : List ℕ) → list_all (λ b. not (ends_word b)) w ≡ true → ends_word x ≡ true → word_and_end (w ++ x ∷ rest) ≡ length w + 1
word_ended [] x rest all ends = rw ends refl
word_ended (b ∷ bs) x rest all ends =
    let parts = and_parts (not (ends_word b)) (list_all (λ (b : ℕ). not (ends_word b)) bs) all in
    let r = word_ended bs x rest parts.1 ends in
    rw (not-true (ends_word b) parts.0) (omega (arith, r))

pub ends_some : (rest : List ℕ) → 1 ≤ word_and_end rest
ends_some [] = omega arith
ends_some (b ∷ bs) = elim (cases_Bool (ends_word b)) [ inl t ↦ rw t (omega arith) | inr f ↦ rw f (omega arith) ]
