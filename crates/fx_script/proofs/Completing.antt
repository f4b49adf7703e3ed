-- Some text goes on that agrees with a refused one up to before the refused word.
use Rattle.std.proofs.Common.{◌≡◌, ℕ, suc, ◌+◌, ◌-◌, true, List, [], ◌∷◌, ◌++◌, map, length, take, drop, IfSome, Ok, Err, refl, sym, ap, subst, ◌∙◌, append_assoc, length-append, arith, inl, inr}
use Rattle.std.specs.List.{AllByRecursion, list_all}
use Rattle.std.proofs.lemmas.Bool.{and_parts}
use Rattle.std.proofs.lemmas.List.{append-nil, take-append-drop, length-take-le}
use Rattle.std.proofs.lemmas.List.Folds.{list_all-append}
use Rattle.std.proofs.Math.Seq.{take-append_seam}
use Rattle.fx_text.specs.Checks.{is_printable}
use Rattle.fx_text.specs.Lines.{Line, lines_of}
use Rattle.fx_text.specs.Words.{Word, words_from, words_of}
use Rattle.fx_script.specs.declared.draft.Draft.{Draft}
use Rattle.fx_script.specs.declared.refusal.Wrong.{Wrong}
use Rattle.fx_script.specs.Canonical.{text_of}
use Rattle.fx_text.specs.Written.{spaced}
use Rattle.fx_script.specs.Moves.{empty_draft}
use Rattle.fx_script.specs.Reading.{Refusal, sound, taken, line_taken, run, reading, job_in}
use Rattle.fx_script.specs.Refused.{behind_ends, in_front_of, line_at, IsRefusedForWords, GoesOnAtLength}
use Rattle.fx_script.specs.SaidLines.{met_of, met_in, IsEndedLine, IsSound}
use Rattle.fx_script.specs.Spelling.{bytes_of}
use Rattle.fx_script.proofs.CanonLines.{is_word, both_printable, spaced_printable, words_spaced, line_ended}
use Rattle.fx_script.proofs.Closing.{closing, passed, closes, closing_goes, closing_such, Continues, continues_here, continues_by, continues_on, behind_first, passes}
use Rattle.fx_script.proofs.FieldLemmas.{bind_ok}
use Rattle.fx_script.proofs.Judged.{bind_err}
use Rattle.fx_script.proofs.Refusals.{TakenGoesOn, TakenStops, taken_stops, at_line_err, cut_whole, draft_err, finished_err, run_line}
use Rattle.fx_script.proofs.Sound.{is_sound, sound_passes}
use Rattle.fx_script.proofs.TextCuts.{ending, Cut, cut, word_cut, words_behind, behind_none, no_lines}

-- a line whose bytes are printable and that has its end
ended_line : (l : Line) → IsSound l → IsEndedLine l
ended_line l s = record { printable = s.printable; ended = s.ended }

-- ---- one line, completed

-- words behind the bytes of a line
record Completed (lead : List ℕ) (read : List Word) (more : List (List ℕ)) : Type 0 where
  ws : List Word
  words : words_of (lead ++ spaced more) ≡ read ++ ws
  texts : map bytes_of ws ≡ more

completed : (lead : List ℕ) (read : List Word) (more : List (List ℕ)) → words_from 1 lead ≡ read → list_all is_word more ≡ true → Completed lead read more
completed lead read [] words good = record { ws = []; words = ap words_of (append-nil lead) ∙ words ∙ sym (append-nil read); texts = refl }
completed lead read (m ∷ ms) words good =
    let there = words_from (1 + length lead + 1) (m ++ spaced ms) in
    record {
      ws = there;
      words = words_behind 1 lead (m ++ spaced ms) ∙ ap (λ (l : List Word). l ++ there) words;
      texts = words_spaced (1 + length lead) (m ∷ ms) good;
    }

-- the line is taken
completed_taken : (d : Draft) (number : ℕ) (lead : List ℕ) (read : List Word) → (on : TakenGoesOn d number read) → words_from 1 lead ≡ read → taken d (met_in number (lead ++ spaced on.more)) ≡ Ok on.next
completed_taken d number lead read on words =
    let c = completed lead read on.more words on.good in
    let line = lead ++ spaced on.more in
    ap (λ (ws : List Word). taken d (met_of number (length line + 1) ws)) c.words ∙ on.goes c.ws (length line + 1) c.texts

-- a text that goes on with the completed line
goes_on_with : (d : Draft) (number : ℕ) (lead behind text : List ℕ) (read : List Word) → (on : TakenGoesOn d number read) → words_from 1 lead ≡ read → list_all is_printable lead ≡ true → text ≡ lead ++ behind
    → Continues IsEndedLine d number text (length lead)
goes_on_with d number lead behind text read on words printable is =
    let line = lead ++ spaced on.more in
    let next = on.next in
    let rest = text_of (closing next.due_part next.blocks) in
    let fine : list_all is_printable line ≡ true = both_printable lead (spaced on.more) printable (spaced_printable on.more on.good) in
    let lines : lines_of ((line ++ 10 ∷ []) ++ rest) ≡ record { bytes = line; ended = true } ∷ lines_of rest = line_ended line rest fine in
    let all : AllByRecursion IsEndedLine (record { bytes = line; ended = true } ∷ lines_of rest) = (record { printable = fine; ended = refl }, closing_such IsEndedLine ended_line next.due_part next.blocks) in
    let front : (line ++ 10 ∷ []) ++ rest ≡ lead ++ (spaced on.more ++ (10 ∷ [] ++ rest)) = append_assoc line (10 ∷ []) rest ∙ append_assoc lead (spaced on.more) (10 ∷ [] ++ rest) in
    record {
      other = (line ++ 10 ∷ []) ++ rest;
      last = (closes next (number + 1)).last;
      goes = ap (passed d number) lines ∙ rw (completed_taken d number lead read on words) (closing_goes next (number + 1));
      stopped = (closes next (number + 1)).stopped;
      all = subst (λ (ls : List Line). AllByRecursion IsEndedLine ls) (sym lines) all;
      same = ap (take (length lead)) front ∙ take-append_seam lead (spaced on.more ++ (10 ∷ [] ++ rest)) ∙ sym (take-append_seam lead behind) ∙ ap (take (length lead)) (sym is);
    }

lead_printable : (k : ℕ) (bytes : List ℕ) → list_all is_printable bytes ≡ true → list_all is_printable (take k bytes) ≡ true
lead_printable k bytes all =
    let whole : list_all is_printable (take k bytes ++ drop k bytes) ≡ true = rw (take-append-drop k bytes) all in
    (and_parts (list_all is_printable (take k bytes)) (list_all is_printable (drop k bytes)) (sym (list_all-append is_printable (take k bytes) (drop k bytes)) ∙ whole)).0

-- the line of a word that is refused, or of one that is missing
word_goes : (d : Draft) (number : ℕ) (text : List ℕ) (l : Line) (ls : List Line) (w : Wrong) → (c : Cut text l ls) → IsSound l → TakenStops d number (words_of l.bytes) w → Continues IsEndedLine d number text (w.column - 1)
word_goes d number text l ls w c s t =
    let k = word_cut 1 l.bytes t.read t.bad t.behind t.words in
    let column : w.column ≡ 1 + k.before = t.column ∙ k.column in
    let within : length l.bytes ≡ length k.front + length k.rest = ap length k.is ∙ length-append k.front k.rest in
    let whole_front = k.whole in
    let lead = take k.before l.bytes in
    let long : length lead ≡ k.before = length-take-le k.before l.bytes (omega (arith, within, whole_front)) in
    let behind = drop k.before l.bytes ++ ending l.ended c.rest in
    let is : text ≡ lead ++ behind = c.is ∙ ap (λ (x : List ℕ). x ++ ending l.ended c.rest) (sym (take-append-drop k.before l.bytes)) ∙ append_assoc lead (drop k.before l.bytes) (ending l.ended c.rest) in
    continues_by IsEndedLine d number (w.column - 1) (length lead) text (omega (arith, long, column))
    (goes_on_with d number lead behind text t.read t.goes_on k.lead (lead_printable k.before l.bytes s.printable) is)

end_goes : (d : Draft) (number : ℕ) (text : List ℕ) (l : Line) (ls : List Line) (w : Wrong) → (c : Cut text l ls) → IsSound l → w.column ≡ length l.bytes + 1 → TakenGoesOn d number (words_of l.bytes) → Continues IsEndedLine d number text (w.column - 1)
end_goes d number text l ls w c s column on =
    continues_by IsEndedLine d number (w.column - 1) (length l.bytes) text (omega (arith, column))
    (goes_on_with d number l.bytes (ending l.ended c.rest) text (words_of l.bytes) on refl s.printable c.is)

refused_goes : (d : Draft) (number : ℕ) (text : List ℕ) (l : Line) (ls : List Line) (w : Wrong) → (c : Cut text l ls) → IsSound l → line_taken d number l ≡ Err w → Continues IsEndedLine d number text (w.column - 1)
refused_goes d number text l ls w c s e =
    let fine = sound_passes l s in
    elim (bind_err (sound l) (λ fine. taken d (met_in number l.bytes)) w e) [
      | inl b ↦ let free : Ok tt ≡ Err w = sym fine ∙ b in absurd cc
      | inr b ↦ elim (taken_stops d number (length l.bytes + 1) (words_of l.bytes) w b.2) [
        | inl t ↦ word_goes d number text l ls w c s t
        | inr on ↦ end_goes d number text l ls w c s on.0 on.1
      ]
    ]

-- ---- lines, one after another

-- the line at this place is sound, where there is one
abbrev SoundAt : List Line → ℕ → Type 0
SoundAt ls n = IfSome (line_at ls n) IsSound

-- how many bytes stand in front of the refused word, where the text's first line has this number
abbrev front_of : ℕ → List ℕ → Refusal → ℕ
front_of number text r = behind_ends text (r.spot.line - number) + (r.spot.column - 1)

up_to_goes : (ls : List Line) (text : List ℕ) (d : Draft) (number : ℕ) (r : Refusal) → lines_of text ≡ ls → run d number ls ≡ Err r → SoundAt ls (r.spot.line - number) → Continues IsEndedLine d number text (front_of number text r)
up_to_goes [] text d number r is e s =
    let which = finished_err d number d.due_part r e in
    let column : 1 ≡ r.spot.column = ap (λ (r : Refusal). r.spot.column) which in
    let none : behind_ends text (r.spot.line - number) ≡ 0 = ap (λ (x : List ℕ). behind_ends x (r.spot.line - number)) (no_lines text is) in
    continues_by IsEndedLine d number (front_of number text r) 0 text (omega (arith, none, column)) (continues_here IsEndedLine ended_line d number text)
up_to_goes (l ∷ ls) text d number r is e s = elim (at_line_err number (line_taken d number l) (λ next. run next (number + 1) ls) r e) [
  | inl a ↦
      let c = cut text l ls is in
      let b = bind_ok (sound l) (λ fine. taken d (met_in number l.bytes)) a.0 a.1 in
      let fine = is_sound l b.1 in
      let later = run_line ls a.0 (number + 1) r a.2 in
      let whole_text : text ≡ (l.bytes ++ 10 ∷ []) ++ c.rest = cut_whole text l ls c fine.ended ∙ sym (append_assoc l.bytes (10 ∷ []) c.rest) in
      let lines : r.spot.line - number ≡ suc (r.spot.line - (number + 1)) = omega (arith, later) in
      let still : SoundAt ls (r.spot.line - (number + 1)) = subst (λ (n : ℕ). SoundAt (l ∷ ls) n) lines s in
      let on = up_to_goes ls c.rest a.0 (number + 1) r c.lines a.2 still in
      let there = behind_first text l ls c fine.ended number r later in
      continues_by IsEndedLine d number (front_of number text r) (length (l.bytes ++ 10 ∷ []) + front_of (number + 1) c.rest r) text (omega (arith, there))
      (continues_on IsEndedLine d a.0 number l text c.rest (front_of (number + 1) c.rest r) (ended_line l fine) fine.ended c.no_end b.2 whole_text on)
  | inr a ↦
      let c = cut text l ls is in
      let line : number ≡ r.spot.line = ap (λ (r : Refusal). r.spot.line) a.2 in
      let column : a.0.column ≡ r.spot.column = ap (λ (r : Refusal). r.spot.column) a.2 in
      let first : r.spot.line - number ≡ 0 = omega (arith, line) in
      let fine : IsSound l = subst (λ (n : ℕ). SoundAt (l ∷ ls) n) first s in
      let none : behind_ends text (r.spot.line - number) ≡ 0 = ap (behind_ends text) first ∙ behind_none text in
      continues_by IsEndedLine d number (front_of number text r) (a.0.column - 1) text (omega (arith, none, column)) (refused_goes d number text l ls a.0 c fine a.1)
]

-- some text that agrees with one that is refused for its words up to before the refused word spells a job, but for the length of its lines
pub words_go_on : (text : List ℕ) (r : Refusal) → job_in text ≡ Err r → IsRefusedForWords text r → GoesOnAtLength text (in_front_of text r.spot)
words_go_on text r e s =
    let c = up_to_goes (lines_of text) text empty_draft 1 r refl (draft_err (reading text) r e) s in
    let p = passes c.other c.last c.goes c.stopped in
    record { other = c.other; job = p.job; spelled = record { writable = p.writable; ended = c.all; lines = p.lines }; same = c.same }
