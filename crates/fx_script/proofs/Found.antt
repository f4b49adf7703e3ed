-- What is read is spelled by its text.
use Rattle.std.proofs.Common.{◌≡◌, ℕ, ◌+◌, Bool, true, ◌&&◌, List, [], ◌∷◌, ◌++◌, Option, Some, None, Result, Ok, Err, refl, sym, ap, subst, ◌∙◌, append_assoc, inl, inr}
use Rattle.std.specs.List.{AllByRecursion, find}
use Rattle.std.specs.Str.{bytes_eq}
use Rattle.std.proofs.lemmas.Bool.{cases_Bool, and_parts}
use Rattle.std.proofs.lemmas.List.{append-nil}
use Rattle.std.proofs.lemmas.Slice.Eq.{bytes_eq-Decides}
use Rattle.fx_base.specs.declared.spot.Spot.{Spot}
use Rattle.fx_text.specs.Lines.{Line}
use Rattle.fx_text.specs.Words.{Word}
use Rattle.fx_script.specs.declared.draft.Block.{Block}
use Rattle.fx_script.specs.declared.draft.Draft.{Draft}
use Rattle.fx_script.specs.declared.draft.DuePart.{DuePart}
use Rattle.fx_script.specs.declared.draft.DuePart.TheVariants as due_part
use Rattle.fx_script.specs.declared.head.EdgeHead.{EdgeHead}
use Rattle.fx_script.specs.declared.head.EdgeHead.TheVariants as edge
use Rattle.fx_script.specs.declared.head.Head.{Head}
use Rattle.fx_script.specs.declared.head.Head.TheVariants as head
use Rattle.fx_script.specs.declared.head.PartHead.{PartHead}
use Rattle.fx_script.specs.declared.head.PartHead.TheVariants as part
use Rattle.fx_script.specs.declared.job.EventKind.{EventKind}
use Rattle.fx_script.specs.declared.job.Stmt.{Stmt}
use Rattle.fx_script.specs.declared.keyword.EdgeWord.{EdgeWord}
use Rattle.fx_script.specs.declared.keyword.EventWord.{EventWord}
use Rattle.fx_script.specs.declared.keyword.PartWord.{PartWord}
use Rattle.fx_script.specs.declared.keyword.SimpleWord.{SimpleWord}
use Rattle.fx_script.specs.declared.keyword.Keyword.{Keyword}
use Rattle.fx_script.specs.declared.keyword.Keyword.TheVariants as k
use Rattle.fx_script.specs.declared.refusal.Wrong.{Wrong}
use Rattle.fx_script.specs.Outcome.{◌>>=◌}
use Rattle.fx_script.specs.Left.{Left}
use Rattle.fx_script.specs.Fields.{misfit, end_at}
use Rattle.fx_script.specs.Heads.{part_at, edge_at, event_at, head_at}
use Rattle.fx_script.specs.Keywords.{part_text, edge_text, simple_text, event_text, keyword_text, keywords, keyword_of}
use Rattle.fx_script.specs.Moves.{moved}
use Rattle.fx_script.specs.Reading.{Refusal, sound, head_placed, head_in, taken, line_taken, at_line, finished, and_then, run}
use Rattle.fx_script.specs.SaidLines.{Met, met_in, spot_of, if_met, met_from, IsSound}
use Rattle.fx_script.specs.Spelling.{Entry, kept_at, event_words, words_in, IsLine, AreLines}
use Rattle.fx_script.specs.Order.{may_stand, is_inside, is_scheduled, part_stands, edge_stands}
use Rattle.fx_script.specs.Statements.{simple_at}
use Rattle.fx_script.proofs.SoFar.{so_far, part_line, edge_line, IsFine}
use Rattle.fx_script.proofs.Adds.{Adds, part_adds, edge_adds, simple_adds, event_adds}
use Rattle.fx_script.proofs.FieldLemmas.{bind_ok, ok_is, texts, end_found}
use Rattle.fx_script.proofs.HeadLemmas.{part_word_in, part_fields, PartRead, part_found, edge_word_in, edge_fields, EdgeRead, edge_found, event_word_in, event_fields, EventRead, event_found, event_words_is}
use Rattle.fx_script.proofs.SimpleLemmas.{SimpleRead, simple_found}
use Rattle.fx_script.proofs.Sound.{is_sound}

-- ---- keywords

find_passes : (p : Keyword → Bool) (ks : List Keyword) (keyword : Keyword) → find p ks ≡ Some keyword → p keyword ≡ true
find_passes p [] keyword e = absurd cc
find_passes p (k ∷ ks) keyword e = elim (cases_Bool (p k)) [
  | inl t ↦
      let s : Some k ≡ Some keyword = rw t at e in
      let same : k ≡ keyword = cc in
      rw (← same) t
  | inr f ↦ let s : find p ks ≡ Some keyword = rw f at e in find_passes p ks keyword s
]

keyword_found : (word : List ℕ) (keyword : Keyword) → keyword_of word ≡ Some keyword → word ≡ keyword_text keyword
keyword_found word keyword e = (bytes_eq-Decides word (keyword_text keyword)).0 (find_passes (λ k. bytes_eq word (keyword_text k)) keywords keyword e)

-- ---- one line

-- a line that was met and read adds itself to the draft
pub record LineAdds (d : Draft) (m : Met) (h : Head) : Type 0 where
  pub entry : Entry
  pub is_line : IsLine m entry
  pub adds : Adds d (moved d (spot_of m) h) entry

part_line_is : (m : Met) (p : PartHead) → words_in m ≡ (part_line (spot_of m) p).words → IsLine m (part_line (spot_of m) p)
part_line_is m part.Fenix e = record { spot = tt; words = e }
part_line_is m (part.Ranks n) e = record { spot = refl; words = e }
part_line_is m (part.Spares n) e = record { spot = refl; words = e }
part_line_is m (part.Separation n) e = record { spot = refl; words = e }
part_line_is m (part.Array name len) e = record { spot = refl; words = e }
part_line_is m (part.Counter name) e = record { spot = refl; words = e }
part_line_is m (part.Callback name) e = record { spot = refl; words = e }
part_line_is m part.EndCallback e = record { spot = tt; words = e }
part_line_is m part.Begin e = record { spot = refl; words = e }
part_line_is m part.End e = record { spot = tt; words = e }
part_line_is m part.Schedule e = record { spot = tt; words = e }
part_line_is m part.Stop e = record { spot = tt; words = e }

edge_line_is : (m : Met) (h : EdgeHead) → words_in m ≡ (edge_line (spot_of m) h).words → IsLine m (edge_line (spot_of m) h)
edge_line_is m (edge.When role) e = record { spot = refl; words = e }
edge_line_is m edge.EndWhen e = record { spot = tt; words = e }
edge_line_is m (edge.If test left right) e = record { spot = refl; words = e }
edge_line_is m edge.Else e = record { spot = tt; words = e }
edge_line_is m edge.EndIf e = record { spot = tt; words = e }
edge_line_is m (edge.For counter first last) e = record { spot = refl; words = e }
edge_line_is m edge.EndFor e = record { spot = tt; words = e }

-- a head that was read, to the end of its line
pub record ReadsHead {X : Type 0} (reading : Result (X × Left) Wrong) (said : X → Head) (h : Head) : Type 0 where
  pub value : X × Left
  pub read : reading ≡ Ok value
  pub end : texts value.1 ≡ []
  pub is : said value.0 ≡ h

abbrev as_head : {X : Type 0} → (X → Head) → X × Left → Result (Head × Left) Wrong
as_head said x = Ok (said x.0, x.1)

abbrev to_the_end : Head × Left → Result Head Wrong
to_the_end fields = end_at fields.1 >>= λ end. Ok fields.0

reads_head : {X : Type 0} (reading : Result (X × Left) Wrong) (said : X → Head) (h : Head) → ((reading >>= as_head said) >>= to_the_end) ≡ Ok h → ReadsHead reading said h
reads_head (Ok x) said h e =
    let b = bind_ok (end_at x.1) (λ end. Ok (said x.0)) h e in
    record { value = x; read = refl; end = end_found x.1 b.0 b.1; is = ok_is (said x.0) h b.2 }
reads_head (Err w) said h e = absurd cc

-- the words of a whole line
line_words : (m : Met) (text : List ℕ) (fields : List (List ℕ)) (next : Left) → m.first.bytes ≡ text → texts m.left ≡ fields ++ texts next → texts next ≡ [] → words_in m ≡ text ∷ fields
line_words m text fields next word read done =
    ap (λ (w : List ℕ). w ∷ texts m.left) word ∙ ap (λ (l : List (List ℕ)). text ∷ l) (read ∙ ap (λ (l : List (List ℕ)). fields ++ l) done ∙ append-nil fields)

part_said : (d : Draft) (m : Met) (word : PartWord) (x : PartHead × Left) → m.first.bytes ≡ part_text word → part_stands d.due_part d.blocks word ≡ true → IsFine d → PartRead word m.left x → texts x.1 ≡ []
    → LineAdds d m (head.Part x.0)
part_said d m word x is may fine f done = record {
  entry = part_line (spot_of m) x.0;
  is_line = part_line_is m x.0 (line_words m (part_text (part_word_in x.0)) (part_fields x.0) x.1 (is ∙ ap part_text (sym f.word_is)) f.words done);
  adds = part_adds d (spot_of m) x.0 (rw f.word_is may) f.fits fine;
}

edge_said : (d : Draft) (m : Met) (word : EdgeWord) (x : EdgeHead × Left) → m.first.bytes ≡ edge_text word → (is_inside d.due_part && edge_stands d.blocks word) ≡ true → IsFine d → EdgeRead word m.left x
    → texts x.1 ≡ [] → LineAdds d m (head.Edge x.0)
edge_said d m word x is may fine f done =
    let p = and_parts (is_inside d.due_part) (edge_stands d.blocks word) may in
    record {
      entry = edge_line (spot_of m) x.0;
      is_line = edge_line_is m x.0 (line_words m (edge_text (edge_word_in x.0)) (edge_fields x.0) x.1 (is ∙ ap edge_text (sym f.word_is)) f.words done);
      adds = edge_adds d (spot_of m) x.0 p.0 (rw f.word_is p.1) f.fits fine;
    }

simple_said : (d : Draft) (m : Met) (word : SimpleWord) (x : Stmt × Left) → m.first.bytes ≡ simple_text word → is_inside d.due_part ≡ true → IsFine d → SimpleRead word (spot_of m) m.left x → texts x.1 ≡ []
    → LineAdds d m (head.Simple x.0)
simple_said d m word x is may fine f done = record {
  entry = kept_at (spot_of m) (simple_text word ∷ f.fields);
  is_line = record { spot = refl; words = line_words m (simple_text word) f.fields x.1 is f.read done };
  adds = simple_adds d x.0 (kept_at (spot_of m) (simple_text word ∷ f.fields)) may f.entries f.fits fine;
}

event_said : (d : Draft) (m : Met) (word : EventWord) (x : EventKind × Left) → m.first.bytes ≡ event_text word → is_scheduled d.due_part ≡ true → IsFine d → EventRead word m.left x → texts x.1 ≡ []
    → LineAdds d m (head.Event x.0)
event_said d m word x is may fine f done = record {
  entry = kept_at (spot_of m) (event_words x.0);
  is_line = record { spot = refl; words = line_words m (event_text (event_word_in x.0)) (event_fields x.0) x.1 (is ∙ ap event_text (sym f.word_is)) f.words done ∙ sym (event_words_is x.0) };
  adds = event_adds d (spot_of m) x.0 may f.fits fine;
}

head_adds : (d : Draft) (m : Met) (keyword : Keyword) (h : Head) → m.first.bytes ≡ keyword_text keyword → may_stand d.due_part d.blocks keyword ≡ true → IsFine d → head_at keyword (spot_of m) m.left ≡ Ok h → LineAdds d m h
head_adds d m (k.Part word) h is may fine e =
    let r = reads_head (part_at word m.left) (λ p. head.Part p) h e in
    subst (LineAdds d m) r.is (part_said d m word r.value is may fine (part_found word m.left r.value r.read) r.end)
head_adds d m (k.Edge word) h is may fine e =
    let r = reads_head (edge_at word m.left) (λ x. head.Edge x) h e in
    subst (LineAdds d m) r.is (edge_said d m word r.value is may fine (edge_found word m.left r.value r.read) r.end)
head_adds d m (k.Simple word) h is may fine e =
    let r = reads_head (simple_at word (spot_of m) m.left) (λ s. head.Simple s) h e in
    subst (LineAdds d m) r.is (simple_said d m word r.value is may fine (simple_found word (spot_of m) m.left r.value r.read) r.end)
head_adds d m (k.Event word) h is may fine e =
    let r = reads_head (event_at word m.left) (λ x. head.Event x) h e in
    subst (LineAdds d m) r.is (event_said d m word r.value is may fine (event_found word m.left r.value r.read) r.end)

placed_adds : (d : Draft) (o : Option Keyword) (m : Met) (h : Head) → IsFine d → keyword_of m.first.bytes ≡ o → head_placed d.due_part d.blocks o (spot_of m) m.first m.left ≡ Ok h → LineAdds d m h
placed_adds d None m h fine is e = absurd cc
placed_adds d (Some keyword) m h fine is e = elim (cases_Bool (may_stand d.due_part d.blocks keyword)) [
  | inl t ↦ head_adds d m keyword h (keyword_found m.first.bytes keyword is) t fine (rw t at e)
  | inr f ↦ let no' : Err (misfit m.first) ≡ Ok h = rw f at e in absurd cc
]

-- at each part that is due, but behind `stop`
head_in_goes : (s : DuePart) (bs : List Block) (spot : Spot) (first : Word) (left : Left) (h : Head) → head_in s bs spot first left ≡ Ok h → head_placed s bs (keyword_of first.bytes) spot first left ≡ Ok h
head_in_goes due_part.Stopped bs spot first left h e = absurd cc
head_in_goes due_part.Fenix bs spot first left h e = e
head_in_goes due_part.Ranks bs spot first left h e = e
head_in_goes due_part.Spares bs spot first left h e = e
head_in_goes due_part.Separation bs spot first left h e = e
head_in_goes due_part.Names bs spot first left h e = e
head_in_goes due_part.Callbacks bs spot first left h e = e
head_in_goes due_part.Callback bs spot first left h e = e
head_in_goes due_part.Body bs spot first left h e = e
head_in_goes due_part.Schedule bs spot first left h e = e
head_in_goes due_part.Events bs spot first left h e = e

pub line_adds : (d : Draft) (m : Met) (h : Head) → IsFine d → head_in d.due_part d.blocks (spot_of m) m.first m.left ≡ Ok h → LineAdds d m h
line_adds d m h fine e = placed_adds d (keyword_of m.first.bytes) m h fine refl (head_in_goes d.due_part d.blocks (spot_of m) m.first m.left h e)

-- ---- lines, one after another

lines_push : (ms : List Met) (es : List Entry) (m : Met) (e : Entry) → AreLines ms es → IsLine m e → AreLines (ms ++ m ∷ []) (es ++ e ∷ [])
lines_push [] [] m e all one = (one, tt)
lines_push [] (d ∷ es) m e all one = absurd all
lines_push (l ∷ ms) [] m e all one = absurd all
lines_push (l ∷ ms) (d ∷ es) m e all one = (all.0, lines_push ms es m e all.1 one)

-- a draft whose lines were met
pub record Shows (seen : List Met) (d : Draft) : Type 0 where
  pub lines : AreLines seen (so_far d)
  pub fine : IsFine d

-- one line more that was met, or none
pub shows_taken : (seen : List Met) (d d' : Draft) (o : Option Met) → Shows seen d → taken d o ≡ Ok d' → Shows (seen ++ if_met o []) d'
shows_taken seen d d' None shown e =
    let same : d ≡ d' = ok_is d d' e in
    subst (λ (x : Draft). Shows (seen ++ []) x) same (rw (append-nil seen) shown)
shows_taken seen d d' (Some m) shown e =
    let a = bind_ok (head_in d.due_part d.blocks (spot_of m) m.first m.left) (λ h. Ok (moved d (spot_of m) h)) d' e in
    let l = line_adds d m a.0 shown.fine a.1 in
    let same : moved d (spot_of m) a.0 ≡ d' = ok_is (moved d (spot_of m) a.0) d' a.2 in
    subst (λ (x : Draft). Shows (seen ++ m ∷ []) x) same (record {
      lines = subst (λ (es : List Entry). AreLines (seen ++ m ∷ []) es) (sym l.adds.line) (lines_push seen (so_far d) m l.entry shown.lines l.is_line);
      fine = l.adds.fine;
    })

pub met_append : (o : Option Met) (ms : List Met) (seen : List Met) → (seen ++ if_met o []) ++ ms ≡ seen ++ if_met o ms
met_append None ms seen = ap (λ (l : List Met). l ++ ms) (append-nil seen)
met_append (Some m) ms seen = append_assoc seen (m ∷ []) ms

-- a text that was read
pub record IsFound (seen : List Met) (number : ℕ) (lines : List Line) (d : Draft) : Type 0 where
  pub stopped : d.due_part ≡ due_part.Stopped
  pub sound : AllByRecursion IsSound lines
  pub shown : Shows (seen ++ met_from number lines) d

abbrev read_as : Draft → Result Draft Refusal
read_as d = Ok d

refusal_ok : (d d' : Draft) → read_as d ≡ read_as d' → d ≡ d'
refusal_ok d d' e = cc

finished_found : (d d' : Draft) (number : ℕ) (s : DuePart) → finished d number s ≡ Ok d' → (s ≡ due_part.Stopped) × (d ≡ d')
finished_found d d' number due_part.Stopped e = (refl, refusal_ok d d' e)
finished_found d d' number s e = absurd cc

-- the draft behind a line that was read
pub at_line_ok : (number : ℕ) (r : Result Draft Wrong) (f : Draft → Result Draft Refusal) (d' : Draft) → and_then (at_line number r) f ≡ Ok d' → (d : Draft) × (r ≡ Ok d) × (f d ≡ Ok d')
at_line_ok number (Ok d) f d' e = (d, refl, e)
at_line_ok number (Err w) f d' e = absurd cc

pub run_found : (lines : List Line) (d d' : Draft) (number : ℕ) (seen : List Met) → run d number lines ≡ Ok d' → Shows seen d → IsFound seen number lines d'
run_found [] d d' number seen e shown =
    let f = finished_found d d' number d.due_part e in
    subst (λ (x : Draft). IsFound seen number [] x) f.1 (record { stopped = f.0; sound = tt; shown = rw (append-nil seen) shown })
run_found (l ∷ ls) d d' number seen e shown =
    let a = at_line_ok number (line_taken d number l) (λ next. run next (number + 1) ls) d' e in
    let b = bind_ok (sound l) (λ fine. taken d (met_in number l.bytes)) a.0 a.1 in
    let next = shows_taken seen d a.0 (met_in number l.bytes) shown b.2 in
    let rest = run_found ls a.0 d' (number + 1) (seen ++ if_met (met_in number l.bytes) []) a.2 next in
    record {
      stopped = rest.stopped;
      sound = (is_sound l b.1, rest.sound);
      shown = subst (λ (ms : List Met). Shows ms d') (met_append (met_in number l.bytes) (met_from (number + 1) ls) seen) rest.shown;
    }
