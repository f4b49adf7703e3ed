-- A text that agrees with a refused one up to and with the refused bytes is refused too.
use Rattle.std.proofs.Common.{◌≡◌, ℕ, zero, suc, ◌+◌, ◌-◌, ◌≤◌, ◌<◌, Bool, true, false, not, eqb, ltb, ◌⊎◌, List, [], ◌∷◌, ◌++◌, map, length, take, drop, Option, Some, None, Result, Ok, Err, refl, sym, ap, subst, ◌∙◌, append_assoc, length-append, zero-add, arith, inl, inr}
use Rattle.std.specs.List.{list_all, position, position_or_len}
use Rattle.std.proofs.lemmas.Bool.{cases_Bool, and_from, and_parts, not-true, ltb-true, eqb-true, le-ltb}
use Rattle.std.proofs.lemmas.List.{append-nil, take-append-drop, take-take, length-take-le, length-drop, drop-append-le, nil_from_length}
use Rattle.std.proofs.lemmas.List.Folds.{list_all-append}
use Rattle.std.proofs.Math.Seq.{drop-append_seam, drop-append-add}
use Rattle.fx_base.specs.declared.spot.Spot.{Spot}
use Rattle.fx_text.specs.declared.check.LineFault.{LineFault}
use Rattle.fx_text.specs.declared.check.LineFault.TheVariants as line_fault
use Rattle.fx_text.specs.Checks.{is_printable, fault_at, checked}
use Rattle.fx_text.specs.Lines.{Line, lines_of}
use Rattle.fx_text.specs.Words.{Word, begins_word, words_from, words_of}
use Rattle.fx_script.specs.declared.draft.Block.{Block}
use Rattle.fx_script.specs.declared.draft.Draft.{Draft}
use Rattle.fx_script.specs.declared.draft.DuePart.{DuePart}
use Rattle.fx_script.specs.declared.draft.DuePart.TheVariants as due_part
use Rattle.fx_script.specs.declared.head.Head.{Head}
use Rattle.fx_script.specs.declared.job.Job.{Job}
use Rattle.fx_script.specs.declared.keyword.Keyword.{Keyword}
use Rattle.fx_script.specs.declared.refusal.JobFault.TheVariants.{NotAscii, LineTooLong, BadLine, MissingPart, TrailingText}
use Rattle.fx_script.specs.declared.refusal.Wrong.{Wrong}
use Rattle.fx_script.specs.Left.{Left}
use Rattle.fx_script.specs.Comments.{is_comment}
use Rattle.fx_script.specs.Fields.{misfit}
use Rattle.fx_script.specs.Heads.{head_at}
use Rattle.fx_script.specs.Keywords.{keyword_of}
use Rattle.fx_script.specs.Moves.{empty_draft, moved}
use Rattle.fx_script.specs.Reading.{Refusal, soundness, sound, head_placed, head_in, taken, line_taken, at_line, finished, and_then, run, reading, job_in_draft, job_in}
use Rattle.fx_script.specs.Refused.{behind_ends, word_and_end, refused_bytes, refused_through}
use Rattle.fx_script.specs.SaidLines.{has_no_end, Met, met_of, met_in, spot_of, IsSound}
use Rattle.fx_script.specs.Spelling.{bytes_of, Spells}
use Rattle.fx_script.specs.Order.{may_stand}
use Rattle.fx_script.proofs.CanonLines.{is_word, is_word_byte, word_bytes, words_good}
use Rattle.fx_script.proofs.Again.{plain}
use Rattle.fx_script.proofs.FieldLemmas.{bind_ok}
use Rattle.fx_script.proofs.Found.{at_line_ok}
use Rattle.fx_script.proofs.Judged.{bind_err, err_is, words_left, AtWord, LineGoesOn}
use Rattle.fx_script.proofs.JudgedLines.{head_judged}
use Rattle.fx_script.proofs.Sound.{is_sound}
use Rattle.fx_script.proofs.Spelled.{spelled_run}
use Rattle.fx_script.proofs.TextCuts.{no_lines, ending, Cut, cut, ended_first, Begins, begins, agrees, ends_word, word_cut, words_behind, word_ended, ends_some, behind_line, behind_none}

-- ---- the words of a line

-- a line is refused at its first word, at a later one, or behind its last byte
abbrev AtFirst : (Left → Result Head Wrong) → Word → Wrong → Type 0
AtFirst r first w = (w.column ≡ first.column) × ((left : Left) → r left ≡ Err w)

-- what was read of the line goes on
abbrev Stops : (Left → Result Head Wrong) → Word → List Word → ℕ → Wrong → Type 0
Stops r first rest past w = AtFirst r first w ⊎ (((read : List Word) × AtWord r rest w read × LineGoesOn r read) ⊎ ((w.column ≡ past) × LineGoesOn r rest))

goes_same : (r s : Left → Result Head Wrong) (read : List Word) → ((left : Left) → s left ≡ r left) → LineGoesOn r read → LineGoesOn s read
goes_same r s read same on = record { more = on.more; good = on.good; value = on.value; goes = λ ws past e. same (words_left (read ++ ws) past) ∙ on.goes ws past e }

stops_same : (r s : Left → Result Head Wrong) (first : Word) (rest : List Word) (past : ℕ) (w : Wrong) → ((left : Left) → s left ≡ r left) → Stops r first rest past w → Stops s first rest past w
stops_same r s first rest past w same stops = elim stops [
  | inl a ↦ inl (a.0, λ left. same left ∙ a.1 left)
  | inr b ↦ elim b [
    | inl a ↦ inr (inl (
      a.0,
      record { bad = a.1.bad; behind = a.1.behind; words = a.1.words; column = a.1.column; again = λ others p. same (words_left (a.0 ++ a.1.bad ∷ others) p) ∙ a.1.again others p },
      goes_same r s a.0 same a.2,
    ))
    | inr a ↦ inr (inr (a.0, goes_same r s rest same a.1))
  ]
]

misfit_stops : (r : Left → Result Head Wrong) (first : Word) (rest : List Word) (past : ℕ) (w : Wrong) → ((left : Left) → r left ≡ Err (misfit first)) → r (words_left rest past) ≡ Err w → Stops r first rest past w
misfit_stops r first rest past w is e =
    let s : misfit first ≡ w = err_is {A = Head} (misfit first) w (sym (is (words_left rest past)) ∙ e) in
    inl (ap (λ (v : Wrong). v.column) (sym s), λ left. is left ∙ ap (λ (v : Wrong). Err v) s)

placed_stops : (s : DuePart) (bs : List Block) (o : Option Keyword) (spot : Spot) (first : Word) (rest : List Word) (past : ℕ) (w : Wrong) → head_placed s bs o spot first (words_left rest past) ≡ Err w
    → Stops (head_placed s bs o spot first) first rest past w
placed_stops s bs None spot first rest past w e = misfit_stops (head_placed s bs None spot first) first rest past w (λ left. refl) e
placed_stops s bs (Some keyword) spot first rest past w e = elim (cases_Bool (may_stand s bs keyword)) [
  | inl t ↦
      let l = (head_judged keyword spot).stopped rest past w (rw t at e) in
      stops_same (head_at keyword spot) (head_placed s bs (Some keyword) spot first) first rest past w (λ left. rw t refl)
      (elim l.at [ inl a ↦ inr (inl (l.read, a, l.goes_on)) | inr a ↦ inr (inr (a.column, subst (λ (ws : List Word). LineGoesOn (head_at keyword spot) ws) (sym a.words) l.goes_on)) ])
  | inr f ↦ misfit_stops (head_placed s bs (Some keyword) spot first) first rest past w (λ left. rw f refl) e
]

abbrev trailing : Word → Wrong
trailing first = record { fault = TrailingText; column = first.column }

-- behind `stop` no line may stand, and elsewhere a line that its keyword lets
placed_by : (s : DuePart) (bs : List Block) (spot : Spot) (first : Word)
    → ((left : Left) → head_in s bs spot first left ≡ head_placed s bs (keyword_of first.bytes) spot first left) ⊎ ((left : Left) → head_in s bs spot first left ≡ Err (trailing first))
placed_by due_part.Stopped bs spot first = inr (λ left. refl)
placed_by due_part.Fenix bs spot first = inl (λ left. refl)
placed_by due_part.Ranks bs spot first = inl (λ left. refl)
placed_by due_part.Spares bs spot first = inl (λ left. refl)
placed_by due_part.Separation bs spot first = inl (λ left. refl)
placed_by due_part.Names bs spot first = inl (λ left. refl)
placed_by due_part.Callbacks bs spot first = inl (λ left. refl)
placed_by due_part.Callback bs spot first = inl (λ left. refl)
placed_by due_part.Body bs spot first = inl (λ left. refl)
placed_by due_part.Schedule bs spot first = inl (λ left. refl)
placed_by due_part.Events bs spot first = inl (λ left. refl)

head_stops : (s : DuePart) (bs : List Block) (spot : Spot) (first : Word) (rest : List Word) (past : ℕ) (w : Wrong) → head_in s bs spot first (words_left rest past) ≡ Err w → Stops (head_in s bs spot first) first rest past w
head_stops s bs spot first rest past w e = elim (placed_by s bs spot first) [
  | inl is ↦ stops_same (head_placed s bs (keyword_of first.bytes) spot first) (head_in s bs spot first) first rest past w is
      (placed_stops s bs (keyword_of first.bytes) spot first rest past w (sym (is (words_left rest past)) ∙ e))
  | inr is ↦
      let same : trailing first ≡ w = err_is {A = Head} (trailing first) w (sym (is (words_left rest past)) ∙ e) in
      inl (ap (λ (v : Wrong). v.column) (sym same), λ left. is left ∙ ap (λ (v : Wrong). Err v) same)
]

-- with these words more behind those that were read, a line is taken
pub record TakenGoesOn (d : Draft) (number : ℕ) (read : List Word) : Type 0 where
  pub more : List (List ℕ)
  pub good : list_all is_word more ≡ true
  pub next : Draft
  pub goes : (ws : List Word) (p : ℕ) → map bytes_of ws ≡ more → taken d (met_of number p (read ++ ws)) ≡ Ok next

-- a line that is refused at a word
pub record TakenStops (d : Draft) (number : ℕ) (ws : List Word) (w : Wrong) : Type 0 where
  pub read : List Word
  pub bad : Word
  pub behind : List Word
  pub words : ws ≡ read ++ bad ∷ behind
  pub column : w.column ≡ bad.column
  pub again : (others : List Word) (p : ℕ) → taken d (met_of number p (read ++ bad ∷ others)) ≡ Err w
  pub goes_on : TakenGoesOn d number read

none_goes : (d : Draft) (number : ℕ) (ws : List Word) (p : ℕ) → map bytes_of ws ≡ [] → taken d (met_of number p ws) ≡ Ok d
none_goes d number [] p e = refl
none_goes d number (w ∷ ws) p e = absurd cc

line_goes : (d : Draft) (number : ℕ) (first : Word) (read : List Word) → is_comment first ≡ false → LineGoesOn (head_in d.due_part d.blocks (record { line = number; column = first.column }) first) read → TakenGoesOn d number (first ∷ read)
line_goes d number first read says on = record {
  more = on.more;
  good = on.good;
  next = moved d (record { line = number; column = first.column }) on.value;
  goes = λ ws p e. rw (says, on.goes ws p e) refl;
}

met_stops : (d : Draft) (number past : ℕ) (first : Word) (rest : List Word) (w : Wrong) → is_comment first ≡ false
    → Stops (head_in d.due_part d.blocks (record { line = number; column = first.column }) first) first rest past w → TakenStops d number (first ∷ rest) w ⊎ ((w.column ≡ past) × TakenGoesOn d number (first ∷ rest))
met_stops d number past first rest w says stops = elim stops [
  | inl a ↦ inl (record {
    read = [];
    bad = first;
    behind = rest;
    words = refl;
    column = a.0;
    again = λ others p. rw (says, a.1 (words_left others p)) refl;
    goes_on = record { more = []; good = refl; next = d; goes = none_goes d number };
  })
  | inr b ↦ elim b [
    | inl a ↦ inl (record {
      read = first ∷ a.0;
      bad = a.1.bad;
      behind = a.1.behind;
      words = ap (λ (l : List Word). first ∷ l) a.1.words;
      column = a.1.column;
      again = λ others p. rw (says, a.1.again others p) refl;
      goes_on = line_goes d number first a.0 says a.2;
    })
    | inr a ↦ inr (a.0, line_goes d number first rest says a.1)
  ]
]

pub taken_stops : (d : Draft) (number past : ℕ) (ws : List Word) (w : Wrong) → taken d (met_of number past ws) ≡ Err w → TakenStops d number ws w ⊎ ((w.column ≡ past) × TakenGoesOn d number ws)
taken_stops d number past [] w e = absurd cc
taken_stops d number past (first ∷ rest) w e = elim (cases_Bool (is_comment first)) [
  | inl t ↦ let free = rw t at e in absurd cc
  | inr f ↦
      let m : Met = record { number = number; first = first; left = words_left rest past } in
      let s : taken d (Some m) ≡ Err w = rw f at e in
      elim (bind_err (head_in d.due_part d.blocks (spot_of m) first (words_left rest past)) (λ h. Ok (moved d (spot_of m) h)) w s) [
        | inl b ↦ met_stops d number past first rest w f (head_stops d.due_part d.blocks (spot_of m) first rest past w b)
        | inr b ↦ let free = b.2 in absurd cc
      ]
]

-- ---- lines that are not sound

abbrev is_unprintable : ℕ → Bool
is_unprintable b = not (is_printable b)

abbrev bad_at : List ℕ → ℕ
bad_at line = position_or_len is_unprintable line

abbrev FaultIs : List ℕ → LineFault → Type 0
FaultIs line (line_fault.NotAscii column) = (column ≡ bad_at line + 1) × (bad_at line < length line)
FaultIs line line_fault.TooLong = 1024 < length line

abbrev failed_by : LineFault → Result (Unit {0}) LineFault
failed_by f = Err f

fault_is : (line : List ℕ) (f : LineFault) (o : Option ℕ) → position is_unprintable line ≡ o → fault_at o (length line) ≡ Err f → FaultIs line f
fault_is line f None is e = elim (cases_Bool (ltb 1024 (length line))) [
  | inl t ↦
      let s : failed_by line_fault.TooLong ≡ failed_by f = rw t at e in
      let same : line_fault.TooLong ≡ f = cc in
      subst (λ (f : LineFault). FaultIs line f) same (ltb-true 1024 (length line) t)
  | inr g ↦ let free = rw g at e in absurd cc
]
fault_is line f (Some place) is e = elim (cases_Bool (ltb (bad_at line) (length line))) [
  | inl t ↦
      let found : Some (bad_at line) ≡ Some place = rw t at is in
      let there : bad_at line ≡ place = cc in
      let s : failed_by (line_fault.NotAscii (place + 1)) ≡ failed_by f = e in
      let same : line_fault.NotAscii (place + 1) ≡ f = cc in
      subst (λ (f : LineFault). FaultIs line f) same (omega (arith, there), ltb-true (bad_at line) (length line) t)
  | inr g ↦ let free : None ≡ Some place = rw g at is in absurd cc
]

bad_front : (line : List ℕ) → bad_at line < length line → list_all is_printable (take (bad_at line + 1) line) ≡ true → ⊥
bad_front [] there all = absurd (omega arith)
bad_front (b ∷ bs) there all = elim (cases_Bool (is_printable b)) [
  | inl t ↦
      let here : bad_at (b ∷ bs) ≡ 1 + bad_at bs = rw t refl in
      let up : bad_at (b ∷ bs) + 1 ≡ suc (bad_at bs + 1) = omega (arith, here) in
      let rest : list_all is_printable (take (suc (bad_at bs + 1)) (b ∷ bs)) ≡ true = subst (λ (k : ℕ). list_all is_printable (take k (b ∷ bs)) ≡ true) up all in
      bad_front bs (omega (arith, here)) (and_parts (is_printable b) (list_all is_printable (take (bad_at bs + 1) bs)) rest).1
  | inr f ↦
      let here : bad_at (b ∷ bs) ≡ 0 = rw f refl in
      let up : bad_at (b ∷ bs) + 1 ≡ suc 0 = omega (arith, here) in
      let one : list_all is_printable (take (suc 0) (b ∷ bs)) ≡ true = subst (λ (k : ℕ). list_all is_printable (take k (b ∷ bs)) ≡ true) up all in
      let free : false ≡ true = sym f ∙ (and_parts (is_printable b) true one).0 in
      absurd cc
]

-- bytes with which a text begins, where none is a line end
pub record Fronts (a : List ℕ) (m : Line) : Type 0 where
  pub more : List ℕ
  pub bytes : m.bytes ≡ a ++ more

begins_any : (a rest : List ℕ) → has_no_end a ≡ true → 0 < length a → Begins a (a ++ rest)
begins_any [] rest free some = absurd (omega arith)
begins_any (b ∷ a) rest free some = begins b a rest free

fronts : (a b other : List ℕ) (n : ℕ) (m : Line) (ms : List Line) → has_no_end a ≡ true → 0 < length a → n ≡ length a → take n other ≡ take n (a ++ b) → lines_of other ≡ m ∷ ms → Fronts a m
fronts a b other n m ms free some is e lines =
    let g = agrees a b other n 0 (omega arith) e in
    let r = begins_any a g.rest free some in
    let both : r.first ∷ r.others ≡ m ∷ ms = sym r.lines ∙ ap lines_of (sym g.is) ∙ lines in
    let same : r.first ≡ m = cc in
    record { more = r.more; bytes = subst (λ (l : Line). l.bytes ≡ a ++ r.more) same r.bytes }

-- a text whose first line has its end
pub cut_whole : (text : List ℕ) (l : Line) (ls : List Line) → (c : Cut text l ls) → l.ended ≡ true → text ≡ l.bytes ++ 10 ∷ c.rest
cut_whole text l ls c e = c.is ∙ ap (λ (b : Bool). l.bytes ++ ending b c.rest) e

-- the front of a line, in the text
front_no_end : (k : ℕ) (line : List ℕ) → has_no_end line ≡ true → has_no_end (take k line) ≡ true
front_no_end k line free =
    let whole : has_no_end (take k line ++ drop k line) ≡ true = rw (take-append-drop k line) free in
    (and_parts (has_no_end (take k line)) (has_no_end (drop k line)) (sym (list_all-append (λ (b : ℕ). not (eqb b 10)) (take k line) (drop k line)) ∙ whole)).0

front_split : (k : ℕ) (line rest : List ℕ) → line ++ rest ≡ take k line ++ (drop k line ++ rest)
front_split k line rest = ap (λ (l : List ℕ). l ++ rest) (sym (take-append-drop k line)) ∙ append_assoc (take k line) (drop k line) rest

pub line_front : (k : ℕ) (text other : List ℕ) (l m : Line) (ls ms : List Line) (n : ℕ) → (c : Cut text l ls) → k ≤ length l.bytes → 0 < k → n ≡ k → take n other ≡ take n text → lines_of other ≡ m ∷ ms → Fronts (take k l.bytes) m
line_front k text other l m ls ms n c within some is e lines =
    let long : length (take k l.bytes) ≡ k = length-take-le k l.bytes within in
    fronts (take k l.bytes) (drop k l.bytes ++ ending l.ended c.rest) other n m ms (front_no_end k l.bytes c.no_end) (omega (arith, long)) (is ∙ sym long)
    (subst (λ (t : List ℕ). take n other ≡ take n t) (c.is ∙ front_split k l.bytes (ending l.ended c.rest)) e) lines

-- ---- the bytes that agree

-- how many bytes of a text stand up to and with what is refused in its first line
abbrev pub through_line : Wrong → List ℕ → ℕ
through_line w text = (w.column - 1) + refused_bytes w.column (drop (w.column - 1) text)

take_less : (k n : ℕ) (xs ys : List ℕ) → k ≤ n → take n xs ≡ take n ys → take k xs ≡ take k ys
take_less k n xs ys less e = sym (take-take k n xs less) ∙ ap (take k) e ∙ take-take k n ys less

refused_some : (column : ℕ) (rest : List ℕ) → 1 ≤ refused_bytes column rest
refused_some column rest = elim (cases_Bool (ltb 1024 column)) [ inl t ↦ rw t (omega arith) | inr f ↦ rw f (ends_some rest) ]

-- at the end of a text, or of a line, one byte is refused
one_refused : (column : ℕ) (rest : List ℕ) → word_and_end rest ≡ 1 → refused_bytes column rest ≡ 1
one_refused column rest one = elim (cases_Bool (ltb 1024 column)) [ inl t ↦ rw t refl | inr f ↦ rw f one ]

front_printable : (a : List ℕ) (m : Line) → Fronts a m → IsSound m → list_all is_printable a ≡ true
front_printable a m f s =
    let all : list_all is_printable (a ++ f.more) ≡ true = subst (λ (l : List ℕ). list_all is_printable l ≡ true) f.bytes s.printable in
    (and_parts (list_all is_printable a) (list_all is_printable f.more) (sym (list_all-append is_printable a f.more) ∙ all)).0

take_none : (xs : List ℕ) → take 1 xs ≡ [] → xs ≡ []
take_none [] e = refl
take_none (x ∷ xs) e = absurd cc

-- a text that agrees with another to its end is the same
to_its_end : (text other : List ℕ) (n : ℕ) → n ≡ length text + 1 → take n other ≡ take n text → other ≡ text
to_its_end text other n is e =
    let g = agrees text [] other n 1 is (e ∙ ap (take n) (sym (append-nil text))) in
    g.is ∙ ap (λ (l : List ℕ). text ++ l) (take_none g.rest g.same) ∙ append-nil text

unended : (l m : Line) (text other : List ℕ) (ls ms : List Line) (w : Wrong) (ended : Bool) → (c : Cut text l ls) → lines_of text ≡ l ∷ ls → l.ended ≡ ended → soundness (Ok tt) ended (length l.bytes + 1) ≡ Err w
    → take (through_line w text) other ≡ take (through_line w text) text → lines_of other ≡ m ∷ ms → IsSound m → ⊥
unended l m text other ls ms w true c is ended e same lines s = absurd cc
unended l m text other ls ms w false c is ended e same lines s =
    let wrong : Wrong = record { fault = BadLine; column = length l.bytes + 1 } in
    let which : wrong ≡ w = err_is {A = Unit {0}} wrong w e in
    let whole : text ≡ l.bytes ++ [] = c.is ∙ rw ended refl in
    let long : length text ≡ length l.bytes = ap length (whole ∙ append-nil l.bytes) in
    let none : drop (length l.bytes + 1 - 1) text ≡ [] = nil_from_length (drop (length l.bytes + 1 - 1) text) (omega (arith, length-drop (length l.bytes + 1 - 1) text, long)) in
    let one : refused_bytes (length l.bytes + 1) (drop (length l.bytes + 1 - 1) text) ≡ 1 = one_refused (length l.bytes + 1) (drop (length l.bytes + 1 - 1) text) (ap word_and_end none) in
    let here : take (through_line wrong text) other ≡ take (through_line wrong text) text = subst (λ (v : Wrong). take (through_line v text) other ≡ take (through_line v text) text) (sym which) same in
    let whole_same : other ≡ text = to_its_end text other (through_line wrong text) (omega (arith, one, long)) here in
    let both : m ∷ ms ≡ l ∷ ls = sym lines ∙ ap lines_of whole_same ∙ is in
    let same_line : m ≡ l = cc in
    let free : true ≡ false = sym s.ended ∙ ap (λ (x : Line). x.ended) same_line ∙ ended in
    absurd cc

-- a line that agrees with one that isn't sound isn't either
unsound : (l m : Line) (text other : List ℕ) (ls ms : List Line) (w : Wrong) (r : Result (Unit {0}) LineFault) → (c : Cut text l ls) → lines_of text ≡ l ∷ ls → checked l.bytes ≡ r → soundness r l.ended (length l.bytes + 1) ≡ Err w
    → take (through_line w text) other ≡ take (through_line w text) text → lines_of other ≡ m ∷ ms → IsSound m → ⊥
unsound l m text other ls ms w (Err (line_fault.NotAscii column)) c is fault e same lines s =
    let wrong : Wrong = record { fault = NotAscii; column = column } in
    let which : wrong ≡ w = err_is {A = Unit {0}} wrong w e in
    let f = fault_is l.bytes (line_fault.NotAscii column) (position is_unprintable l.bytes) refl fault in
    let here : take (through_line wrong text) other ≡ take (through_line wrong text) text = subst (λ (v : Wrong). take (through_line v text) other ≡ take (through_line v text) text) (sym which) same in
    let some = refused_some column (drop (column - 1) text) in
    let column_is = f.0 in
    let there = f.1 in
    let less : take (bad_at l.bytes + 1) other ≡ take (bad_at l.bytes + 1) text = take_less (bad_at l.bytes + 1) (through_line wrong text) other text (omega (arith, some, column_is)) here in
    let front = line_front (bad_at l.bytes + 1) text other l m ls ms (bad_at l.bytes + 1) c (omega (arith, there)) (omega arith) refl less lines in
    bad_front l.bytes there (front_printable (take (bad_at l.bytes + 1) l.bytes) m front s)
unsound l m text other ls ms w (Err line_fault.TooLong) c is fault e same lines s =
    let wrong : Wrong = record { fault = LineTooLong; column = 1025 } in
    let which : wrong ≡ w = err_is {A = Unit {0}} wrong w e in
    let long : 1024 < length l.bytes = fault_is l.bytes line_fault.TooLong (position is_unprintable l.bytes) refl fault in
    let here : take (through_line wrong text) other ≡ take (through_line wrong text) text = subst (λ (v : Wrong). take (through_line v text) other ≡ take (through_line v text) text) (sym which) same in
    let front = line_front 1025 text other l m ls ms (through_line wrong text) c (omega (arith, long)) (omega arith) refl here lines in
    let many : length m.bytes ≡ length (take 1025 l.bytes) + length front.more = ap length front.bytes ∙ length-append (take 1025 l.bytes) front.more in
    let taken_all : length (take 1025 l.bytes) ≡ 1025 = length-take-le 1025 l.bytes (omega (arith, long)) in
    let short = s.short in
    absurd (omega (arith, many, taken_all, short))
unsound l m text other ls ms w (Ok fine) c is fault e same lines s = unended l m text other ls ms w l.ended c is refl e same lines s

-- ---- lines that are sound

word_in : (read : List Word) (bad : Word) (behind : List Word) → list_all is_word (map bytes_of (read ++ bad ∷ behind)) ≡ true → is_word bad.bytes ≡ true
word_in [] bad behind all = (and_parts (is_word bad.bytes) (list_all is_word (map bytes_of behind)) all).0
word_in (r ∷ read) bad behind all = word_in read bad behind (and_parts (is_word r.bytes) (list_all is_word (map bytes_of (read ++ bad ∷ behind))) all).1

bytes_go_on : (w : List ℕ) → list_all is_word_byte w ≡ true → list_all (λ b. not (ends_word b)) w ≡ true
bytes_go_on [] all = refl
bytes_go_on (b ∷ bs) all =
    let parts = and_parts (is_word_byte b) (list_all is_word_byte bs) all in
    let byte = and_parts (is_printable b) (not (eqb b 32)) parts.0 in
    rw (not-true (eqb b 32) byte.1, byte.0) (bytes_go_on bs parts.1)

word_some : (w : List ℕ) → is_word w ≡ true → 1 ≤ length w
word_some [] e = absurd cc
word_some (b ∷ bs) e = omega arith

-- the byte behind a word of a line
record Next (rest tail : List ℕ) : Type 0 where
  byte : ℕ
  others : List ℕ
  is : rest ++ 10 ∷ tail ≡ byte ∷ others
  which : (byte ≡ 10) ⊎ (byte ≡ 32)

next : (rest tail : List ℕ) → begins_word rest ≡ false → Next rest tail
next [] tail ends = record { byte = 10; others = tail; is = refl; which = inl refl }
next (b ∷ bs) tail ends = elim (cases_Bool (eqb b 32)) [
  | inl t ↦ record { byte = b; others = bs ++ 10 ∷ tail; is = refl; which = inr (eqb-true b 32 t) }
  | inr f ↦ let other : true ≡ false = rw f at ends in absurd cc
]

next_ends : (b : ℕ) → (b ≡ 10) ⊎ (b ≡ 32) → ends_word b ≡ true
next_ends b which = elim which [ inl e ↦ rw e refl | inr e ↦ rw e refl ]

pub ended_is : (l : Line) → l.ended ≡ true → record { bytes = l.bytes; ended = true } ≡ l
ended_is l e = ap (λ (b : Bool). record { bytes = l.bytes; ended = b }) (sym e)

-- a text that goes on alike behind a line's words up to one has a first line with these words
record SameWords (m : Line) (read : List Word) (bad : Word) : Type 0 where
  behind : List Word
  words : words_of m.bytes ≡ read ++ bad ∷ behind

same_ended : (front others other : List ℕ) (m : Line) (ms : List Line) (read : List Word) (bad : Word) → has_no_end front ≡ true → words_from 1 front ≡ read ++ bad ∷ []
    → other ≡ front ++ 10 ∷ others → lines_of other ≡ m ∷ ms → SameWords m read bad
same_ended front others other m ms read bad free words is lines =
    let both : record { bytes = front; ended = true } ∷ lines_of others ≡ m ∷ ms = sym (ended_first front others free) ∙ ap lines_of (sym is) ∙ lines in
    let same : record { bytes = front; ended = true } ≡ m = cc in
    record { behind = []; words = ap (λ (l : Line). words_of l.bytes) (sym same) ∙ words }

same_spaced : (front others other : List ℕ) (m : Line) (ms : List Line) (read : List Word) (bad : Word) → has_no_end front ≡ true → words_from 1 front ≡ read ++ bad ∷ []
    → other ≡ front ++ 32 ∷ others → lines_of other ≡ m ∷ ms → SameWords m read bad
same_spaced front others other m ms read bad free words is lines =
    let a = front ++ 32 ∷ [] in
    let all : has_no_end a ≡ true = list_all-append (λ (b : ℕ). not (eqb b 10)) front (32 ∷ []) ∙ and_from (has_no_end front) true free refl in
    let r = begins_any a others all (omega (arith, length-append front (32 ∷ []))) in
    let both : r.first ∷ r.others ≡ m ∷ ms = sym r.lines ∙ ap lines_of (append_assoc front (32 ∷ []) others ∙ sym is) ∙ lines in
    let same : r.first ≡ m = cc in
    let bytes : m.bytes ≡ front ++ 32 ∷ r.more = ap (λ (l : Line). l.bytes) (sym same) ∙ r.bytes ∙ append_assoc front (32 ∷ []) r.more in
    let there = words_from (1 + length front + 1) r.more in
    record {
      behind = there;
      words = ap words_of bytes ∙ words_behind 1 front r.more ∙ ap (λ (l : List Word). l ++ there) words ∙ append_assoc read (bad ∷ []) there;
    }

same_words : (front others other : List ℕ) (b : ℕ) (m : Line) (ms : List Line) (read : List Word) (bad : Word) → has_no_end front ≡ true → words_from 1 front ≡ read ++ bad ∷ []
    → (b ≡ 10) ⊎ (b ≡ 32) → other ≡ front ++ b ∷ others → lines_of other ≡ m ∷ ms → SameWords m read bad
same_words front others other b m ms read bad free words which is lines = elim which [
  | inl e ↦ same_ended front others other m ms read bad free words (is ∙ ap (λ (c : ℕ). front ++ c ∷ others) e) lines
  | inr e ↦ same_spaced front others other m ms read bad free words (is ∙ ap (λ (c : ℕ). front ++ c ∷ others) e) lines
]

-- a line that agrees up to and with a refused word is refused there
word_again : (d : Draft) (number : ℕ) (l m : Line) (text other : List ℕ) (ls ms : List Line) (w : Wrong) → (c : Cut text l ls) → IsSound l → TakenStops d number (words_of l.bytes) w
    → take (through_line w text) other ≡ take (through_line w text) text → lines_of other ≡ m ∷ ms → taken d (met_in number m.bytes) ≡ Err w
word_again d number l m text other ls ms w c s t same lines =
    let k = word_cut 1 l.bytes t.read t.bad t.behind t.words in
    let n = next k.rest c.rest k.ends in
    let whole : text ≡ l.bytes ++ 10 ∷ c.rest = cut_whole text l ls c s.ended in
    let text_is : text ≡ k.front ++ n.byte ∷ n.others =
    whole ∙ ap (λ (x : List ℕ). x ++ 10 ∷ c.rest) k.is ∙ append_assoc k.front k.rest (10 ∷ c.rest) ∙ ap (λ (x : List ℕ). k.front ++ x) n.is in
    let word : is_word t.bad.bytes ≡ true = word_in t.read t.bad t.behind (subst (λ (ws : List Word). list_all is_word (map bytes_of ws) ≡ true) t.words (words_good 1 l.bytes s.printable)) in
    let some = word_some t.bad.bytes word in
    let within : length l.bytes ≡ length k.front + length k.rest = ap length k.is ∙ length-append k.front k.rest in
    let short = s.short in
    let column : w.column ≡ 1 + k.before = t.column ∙ k.column in
    let whole_front = k.whole in
    let here : w.column - 1 ≡ k.before = omega (arith, column) in
    let low : w.column ≤ 1024 = omega (arith, column, whole_front, within, short, some) in
    let behind : drop k.before text ≡ t.bad.bytes ++ n.byte ∷ n.others =
    ap (drop k.before) text_is ∙ drop-append-le k.before k.front (n.byte ∷ n.others) (omega (arith, whole_front)) ∙ ap (λ (x : List ℕ). x ++ n.byte ∷ n.others) k.word in
    let ends : word_and_end (drop (w.column - 1) text) ≡ length t.bad.bytes + 1 =
    ap (λ (i : ℕ). word_and_end (drop i text)) here ∙ ap word_and_end behind ∙ word_ended t.bad.bytes n.byte n.others (bytes_go_on t.bad.bytes (word_bytes t.bad.bytes word)) (next_ends n.byte n.which) in
    let refused : refused_bytes w.column (drop (w.column - 1) text) ≡ length t.bad.bytes + 1 = rw (le-ltb 1024 w.column low) ends in
    let a = k.front ++ n.byte ∷ [] in
    let g = agrees a n.others other (through_line w text) 0 (omega (arith, here, refused, whole_front, length-append k.front (n.byte ∷ [])))
    (subst (λ (x : List ℕ). take (through_line w text) other ≡ take (through_line w text) x) (text_is ∙ sym (append_assoc k.front (n.byte ∷ []) n.others)) same) in
    let no_end : has_no_end (k.front ++ k.rest) ≡ true = subst (λ (x : List ℕ). has_no_end x ≡ true) k.is c.no_end in
    let free = (and_parts (has_no_end k.front) (has_no_end k.rest) (sym (list_all-append (λ (b : ℕ). not (eqb b 10)) k.front k.rest) ∙ no_end)).0 in
    let sw = same_words k.front g.rest other n.byte m ms t.read t.bad free k.words n.which (g.is ∙ append_assoc k.front (n.byte ∷ []) g.rest) lines in
    ap (λ (ws : List Word). taken d (met_of number (length m.bytes + 1) ws)) sw.words ∙ t.again sw.behind (length m.bytes + 1)

-- a line that agrees up to and with the end of a line where a word is missing is that line
end_again : (l m : Line) (text other : List ℕ) (ls ms : List Line) (w : Wrong) → (c : Cut text l ls) → IsSound l → w.column ≡ length l.bytes + 1
    → take (through_line w text) other ≡ take (through_line w text) text → lines_of other ≡ m ∷ ms → m.bytes ≡ l.bytes
end_again l m text other ls ms w c s column same lines =
    let whole : text ≡ l.bytes ++ 10 ∷ c.rest = cut_whole text l ls c s.ended in
    let here : w.column - 1 ≡ length l.bytes = omega (arith, column) in
    let behind : drop (w.column - 1) text ≡ 10 ∷ c.rest = ap (λ (i : ℕ). drop i text) here ∙ ap (drop (length l.bytes)) whole ∙ drop-append_seam l.bytes (10 ∷ c.rest) in
    let one : refused_bytes w.column (drop (w.column - 1) text) ≡ 1 = one_refused w.column (drop (w.column - 1) text) (ap word_and_end behind) in
    let a = l.bytes ++ 10 ∷ [] in
    let g = agrees a c.rest other (through_line w text) 0 (omega (arith, here, one, length-append l.bytes (10 ∷ [])))
    (subst (λ (x : List ℕ). take (through_line w text) other ≡ take (through_line w text) x) (whole ∙ sym (append_assoc l.bytes (10 ∷ []) c.rest)) same) in
    let both : record { bytes = l.bytes; ended = true } ∷ lines_of g.rest ≡ m ∷ ms =
    sym (ended_first l.bytes g.rest c.no_end) ∙ ap lines_of (sym (append_assoc l.bytes (10 ∷ []) g.rest) ∙ sym g.is) ∙ lines in
    let first : record { bytes = l.bytes; ended = true } ≡ m = cc in
    ap (λ (x : Line). x.bytes) (sym first)

-- a line that agrees with a refused one isn't taken
line_refused : (d : Draft) (number : ℕ) (l m : Line) (text other : List ℕ) (ls ms : List Line) (w : Wrong) → lines_of text ≡ l ∷ ls → line_taken d number l ≡ Err w
    → take (through_line w text) other ≡ take (through_line w text) text → lines_of other ≡ m ∷ ms → (next : Draft) → line_taken d number m ≡ Ok next → ⊥
line_refused d number l m text other ls ms w is e same lines next taken_is =
    let c = cut text l ls is in
    let goes = bind_ok (sound m) (λ fine. taken d (met_in number m.bytes)) next taken_is in
    elim (bind_err (sound l) (λ fine. taken d (met_in number l.bytes)) w e) [
      | inl b ↦ unsound l m text other ls ms w (checked l.bytes) c is refl b same lines (is_sound m goes.1)
      | inr b ↦
          let s = is_sound l b.1 in
          elim (taken_stops d number (length l.bytes + 1) (words_of l.bytes) w b.2) [
            | inl t ↦ let refused = word_again d number l m text other ls ms w c s t same lines in let went = goes.2 in absurd cc
            | inr column ↦
                let bytes = end_again l m text other ls ms w c s column.0 same lines in
                let refused : taken d (met_in number m.bytes) ≡ Err w = ap (λ (x : List ℕ). taken d (met_in number x)) bytes ∙ b.2 in
                let went = goes.2 in
                absurd cc
          ]
    ]

-- ---- lines, one after another

abbrev refused_with : Refusal → Result Draft Refusal
refused_with r = Err r

refusal_is : (a b : Refusal) → refused_with a ≡ refused_with b → a ≡ b
refusal_is a b e = cc

abbrev pub at_number : ℕ → Wrong → Refusal
at_number number w = record { fault = w.fault; spot = record { line = number; column = w.column } }

pub at_line_err : (number : ℕ) (t : Result Draft Wrong) (f : Draft → Result Draft Refusal) (r : Refusal) → and_then (at_line number t) f ≡ Err r
    → ((d : Draft) × (t ≡ Ok d) × (f d ≡ Err r)) ⊎ ((w : Wrong) × (t ≡ Err w) × (at_number number w ≡ r))
at_line_err number (Ok d) f r e = inl (d, refl, e)
at_line_err number (Err w) f r e = inr (w, refl, refusal_is (at_number number w) r e)

abbrev pub missing : ℕ → Refusal
missing number = record { fault = MissingPart; spot = record { line = number; column = 1 } }

pub finished_err : (d : Draft) (number : ℕ) (s : DuePart) (r : Refusal) → finished d number s ≡ Err r → missing number ≡ r
finished_err d number due_part.Stopped r e = absurd cc
finished_err d number s r e = refusal_is (missing number) r e

-- a refusal is in one of the lines, or behind the last
pub run_line : (ls : List Line) (d : Draft) (number : ℕ) (r : Refusal) → run d number ls ≡ Err r → number ≤ r.spot.line
run_line [] d number r e = subst (λ (r : Refusal). number ≤ r.spot.line) (finished_err d number d.due_part r e) (omega arith)
run_line (l ∷ ls) d number r e = elim (at_line_err number (line_taken d number l) (λ next. run next (number + 1) ls) r e) [
  | inl a ↦ let rest = run_line ls a.0 (number + 1) r a.2 in omega (arith, rest)
  | inr a ↦ subst (λ (r : Refusal). number ≤ r.spot.line) a.2 (omega arith)
]

-- how many bytes of a text stand up to and with a column of the line behind so many bytes
abbrev through_from : ℕ → ℕ → List ℕ → ℕ
through_from p column text = (p + (column - 1)) + refused_bytes column (drop (p + (column - 1)) text)

-- the same where the text's first line has this number
abbrev through : ℕ → List ℕ → Refusal → ℕ
through number text r = through_from (behind_ends text (r.spot.line - number)) r.spot.column text

through_shifted : (a rest : List ℕ) (p column : ℕ) → through_from (length a + p) column (a ++ rest) ≡ length a + through_from p column rest
through_shifted a rest p column =
    let there : (length a + p) + (column - 1) ≡ length a + (p + (column - 1)) = omega arith in
    let behind : drop ((length a + p) + (column - 1)) (a ++ rest) ≡ drop (p + (column - 1)) rest = ap (λ (i : ℕ). drop i (a ++ rest)) there ∙ drop-append-add a rest (p + (column - 1)) in
    ap (λ (x : List ℕ). ((length a + p) + (column - 1)) + refused_bytes column x) behind ∙ omega arith

through_here : (number : ℕ) (w : Wrong) (text : List ℕ) → through number text (at_number number w) ≡ through_line w text
through_here number w text =
    let none : behind_ends text (number - number) ≡ 0 = ap (behind_ends text) (omega arith) ∙ behind_none text in
    ap (λ (p : ℕ). through_from p w.column text) none ∙ ap (λ (k : ℕ). k + refused_bytes w.column (drop k text)) (zero-add (w.column - 1))

-- the bytes up to and with a refused word, with the first line and without it
through_behind : (number : ℕ) (r : Refusal) (bytes rest text : List ℕ) → number + 1 ≤ r.spot.line → has_no_end bytes ≡ true → text ≡ (bytes ++ 10 ∷ []) ++ rest
    → through number text r ≡ length (bytes ++ 10 ∷ []) + through (number + 1) rest r
through_behind number r bytes rest text later free is =
    let a = bytes ++ 10 ∷ [] in
    let lines : r.spot.line - number ≡ suc (r.spot.line - (number + 1)) = omega (arith, later) in
    let there : behind_ends text (r.spot.line - number) ≡ length a + behind_ends rest (r.spot.line - (number + 1)) =
    ap (behind_ends text) lines ∙ ap (λ (x : List ℕ). behind_ends x (suc (r.spot.line - (number + 1)))) (is ∙ append_assoc bytes (10 ∷ []) rest)
    ∙ behind_line bytes rest (r.spot.line - (number + 1)) free ∙ ap (λ (k : ℕ). k + behind_ends rest (r.spot.line - (number + 1))) (sym (length-append bytes (10 ∷ []))) in
    ap (λ (p : ℕ). through_from p r.spot.column text) there ∙ ap (λ (x : List ℕ). through_from (length a + behind_ends rest (r.spot.line - (number + 1))) r.spot.column x) is
    ∙ through_shifted a rest (behind_ends rest (r.spot.line - (number + 1))) r.spot.column

nothing_agrees : (text : List ℕ) (n : ℕ) → 1 ≤ n → take n [] ≡ take n text → text ≡ []
nothing_agrees [] n some e = refl
nothing_agrees (x ∷ xs) zero some e = absurd (omega arith)
nothing_agrees (x ∷ xs) (suc n) some e = absurd cc

-- the refused line is in the other text too, or that text has no line there
here_refused : (d : Draft) (number : ℕ) (l : Line) (text other : List ℕ) (ls others : List Line) (w : Wrong) (last : Draft) → lines_of text ≡ l ∷ ls → line_taken d number l ≡ Err w
    → take (through_line w text) other ≡ take (through_line w text) text → lines_of other ≡ others → run d number others ≡ Ok last → ⊥
here_refused d number l text other ls [] w last is e same lines went =
    let none = no_lines other lines in
    let some = refused_some w.column (drop (w.column - 1) text) in
    let empty : text ≡ [] = nothing_agrees text (through_line w text) (omega (arith, some)) (subst (λ (x : List ℕ). take (through_line w text) x ≡ take (through_line w text) text) none same) in
    let lines_none : [] ≡ l ∷ ls = sym (ap lines_of empty) ∙ is in
    absurd cc
here_refused d number l text other ls (m ∷ ms) w last is e same lines went =
    let a = at_line_ok number (line_taken d number m) (λ next. run next (number + 1) ms) last went in
    line_refused d number l m text other ls ms w is e same lines a.0 a.1

lines_refused : (ls : List Line) (text other : List ℕ) (d : Draft) (number : ℕ) (r : Refusal) (last : Draft) → lines_of text ≡ ls → run d number ls ≡ Err r
    → take (through number text r) other ≡ take (through number text r) text → run d number (lines_of other) ≡ Ok last → ⊥
lines_refused [] text other d number r last is e same went =
    let which : missing number ≡ r = finished_err d number d.due_part r e in
    let here : take (through number text (missing number)) other ≡ take (through number text (missing number)) text = subst (λ (r : Refusal). take (through number text r) other ≡ take (through number text r) text) (sym which) same in
    let empty : text ≡ [] = no_lines text is in
    let one : through number text (missing number) ≡ length text + 1 = rw empty refl in
    let same_text : other ≡ text = to_its_end text other (through number text (missing number)) one here in
    let again : run d number [] ≡ Ok last = sym (ap (run d number) (ap lines_of (same_text ∙ empty))) ∙ went in
    absurd cc
lines_refused (l ∷ ls) text other d number r last is e same went = elim (at_line_err number (line_taken d number l) (λ next. run next (number + 1) ls) r e) [
  | inl a ↦
      let c = cut text l ls is in
      let s = is_sound l (bind_ok (sound l) (λ fine. taken d (met_in number l.bytes)) a.0 a.1).1 in
      let whole : text ≡ (l.bytes ++ 10 ∷ []) ++ c.rest = cut_whole text l ls c s.ended ∙ sym (append_assoc l.bytes (10 ∷ []) c.rest) in
      let later = run_line ls a.0 (number + 1) r a.2 in
      let g = agrees (l.bytes ++ 10 ∷ []) c.rest other (through number text r) (through (number + 1) c.rest r) (through_behind number r l.bytes c.rest text later c.no_end whole)
      (subst (λ (x : List ℕ). take (through number text r) other ≡ take (through number text r) x) whole same) in
      let others : lines_of other ≡ l ∷ lines_of g.rest =
      ap lines_of (g.is ∙ append_assoc l.bytes (10 ∷ []) g.rest) ∙ ended_first l.bytes g.rest c.no_end ∙ ap (λ (x : Line). x ∷ lines_of g.rest) (ended_is l s.ended) in
      let again : run d number (l ∷ lines_of g.rest) ≡ Ok last = sym (ap (run d number) others) ∙ went in
      let rest : run a.0 (number + 1) (lines_of g.rest) ≡ Ok last = rw a.1 at again in
      lines_refused ls c.rest g.rest a.0 (number + 1) r last c.lines a.2 g.same rest
  | inr a ↦
      let here : take (through number text (at_number number a.0)) other ≡ take (through number text (at_number number a.0)) text =
      subst (λ (r : Refusal). take (through number text r) other ≡ take (through number text r) text) (sym a.2) same in
      here_refused d number l text other ls (lines_of other) a.0 last is a.1
      (subst (λ (n : ℕ). take n other ≡ take n text) (through_here number a.0 text) here) refl went
]

-- no text that agrees with a refused one up to and with the refused bytes spells a job
abbrev job_refused : Refusal → Result Job Refusal
job_refused r = Err r

e_draft : (s r : Refusal) → job_refused s ≡ job_refused r → refused_with s ≡ refused_with r
e_draft s r e = let same : s ≡ r = cc in ap refused_with same

pub draft_err : (t : Result Draft Refusal) (r : Refusal) → job_in_draft t ≡ Err r → t ≡ Err r
draft_err (Ok d) r e = absurd cc
draft_err (Err s) r e = e_draft s r e

pub refused_too : (text other : List ℕ) (r : Refusal) (job : Job) → job_in text ≡ Err r → take (refused_through text r) other ≡ take (refused_through text r) text → Spells other job → ⊥
refused_too text other r job e same spells =
    lines_refused (lines_of text) text other empty_draft 1 r (plain due_part.Stopped job) refl (draft_err (reading text) r e) same (spelled_run other job spells)
