-- A line between the parts of a job, at the edge of a block, or of an event is spelled by its words, and words that spell one are read as it.
use Rattle.std.proofs.Common.{◌≡◌, ℕ, Bool, true, ◌&&◌, List, [], ◌∷◌, ◌++◌, Ok, refl, sym, ap, subst, ◌∙◌, append_assoc}
use Rattle.std.specs.Prelude.{codes}
use Rattle.std.specs.Fmt.{signed_decimal}
use Rattle.std.proofs.lemmas.Bool.{and_from, and_parts}
use Rattle.fx_text.specs.Numbers.{fits_64}
use Rattle.fx_script.specs.declared.head.EdgeHead.{EdgeHead}
use Rattle.fx_script.specs.declared.head.EdgeHead.TheVariants as edge
use Rattle.fx_script.specs.declared.head.PartHead.{PartHead}
use Rattle.fx_script.specs.declared.head.PartHead.TheVariants as part
use Rattle.fx_script.specs.declared.job.EventKind.{EventKind}
use Rattle.fx_script.specs.declared.job.EventKind.TheVariants as event
use Rattle.fx_script.specs.declared.keyword.EdgeWord.{EdgeWord}
use Rattle.fx_script.specs.declared.keyword.EdgeWord.TheVariants as edge_word
use Rattle.fx_script.specs.declared.keyword.EventWord.{EventWord}
use Rattle.fx_script.specs.declared.keyword.EventWord.TheVariants as event_word
use Rattle.fx_script.specs.declared.keyword.PartWord.{PartWord}
use Rattle.fx_script.specs.declared.keyword.PartWord.TheVariants as part_word
use Rattle.fx_script.specs.Left.{Left}
use Rattle.fx_script.specs.Outcome.{◌>>=◌}
use Rattle.fx_script.specs.Exprs.{expr_words, is_writable_expr, expr_at}
use Rattle.fx_script.specs.Fields.{fixed_at, name_at, number_at, role_at, test_at}
use Rattle.fx_script.specs.Heads.{part_at, edge_at, event_at}
use Rattle.fx_script.specs.Keywords.{event_text}
use Rattle.fx_text.specs.Names.{is_name}
use Rattle.fx_script.specs.Spelling.{role_text, test_text, event_words, event_fits}
use Rattle.fx_script.proofs.FieldLemmas.{bind_ok, ok_is, texts, Behind, fixed_found, fixed_again, name_found, number_found, name_again, number_read_again, role_found, role_again, test_found, test_again}
use Rattle.fx_script.proofs.ExprLemmas.{expr_found, expr_again}

-- the keyword of such a line, the words behind it, and that its names are names and its numbers fit
abbrev pub part_word_in : PartHead → PartWord
part_word_in part.Fenix = part_word.Fenix
part_word_in (part.Ranks v0) = part_word.Ranks
part_word_in (part.Spares v0) = part_word.Spares
part_word_in (part.Separation v0) = part_word.Separation
part_word_in (part.Array v0 v1) = part_word.Array
part_word_in (part.Counter v0) = part_word.Counter
part_word_in (part.Callback v0) = part_word.Callback
part_word_in part.EndCallback = part_word.EndCallback
part_word_in part.Begin = part_word.Begin
part_word_in part.End = part_word.End
part_word_in part.Schedule = part_word.Schedule
part_word_in part.Stop = part_word.Stop

abbrev pub part_fields : PartHead → List (List ℕ)
part_fields part.Fenix = codes "1" ∷ []
part_fields (part.Ranks v0) = signed_decimal v0 ∷ []
part_fields (part.Spares v0) = signed_decimal v0 ∷ []
part_fields (part.Separation v0) = signed_decimal v0 ∷ []
part_fields (part.Array v0 v1) = v0 ∷ signed_decimal v1 ∷ []
part_fields (part.Counter v0) = v0 ∷ []
part_fields (part.Callback v0) = v0 ∷ []
part_fields part.EndCallback = []
part_fields part.Begin = []
part_fields part.End = []
part_fields part.Schedule = []
part_fields part.Stop = []

abbrev pub part_fits : PartHead → Bool
part_fits part.Fenix = true
part_fits (part.Ranks v0) = fits_64 v0
part_fits (part.Spares v0) = fits_64 v0
part_fits (part.Separation v0) = fits_64 v0
part_fits (part.Array v0 v1) = is_name v0 && fits_64 v1
part_fits (part.Counter v0) = is_name v0
part_fits (part.Callback v0) = is_name v0
part_fits part.EndCallback = true
part_fits part.Begin = true
part_fits part.End = true
part_fits part.Schedule = true
part_fits part.Stop = true

pub record PartRead (w : PartWord) (left : Left) (x : PartHead × Left) : Type 0 where
  pub word_is : part_word_in x.0 ≡ w
  pub words : texts left ≡ part_fields x.0 ++ texts x.1
  pub fits : part_fits x.0 ≡ true

pub part_found : (w : PartWord) (left : Left) (x : PartHead × Left) → part_at w left ≡ Ok x → PartRead w left x
part_found part_word.Fenix left x e =
    let a = bind_ok (fixed_at (codes "1") left) (λ x0. Ok (part.Fenix, x0.1)) x e in
    let a1 = fixed_found left (codes "1") a.0 a.1 in
    subst (PartRead part_word.Fenix left) (ok_is (part.Fenix, a.0.1) x a.2)
    (record { word_is = refl; words = a1; fits = refl })
part_found part_word.Ranks left x e =
    let a = bind_ok (number_at left) (λ x0. Ok (part.Ranks x0.0, x0.1)) x e in
    let a1 = number_found left a.0 a.1 in
    subst (PartRead part_word.Ranks left) (ok_is (part.Ranks a.0.0, a.0.1) x a.2)
    (record { word_is = refl; words = a1.1; fits = a1.0 })
part_found part_word.Spares left x e =
    let a = bind_ok (number_at left) (λ x0. Ok (part.Spares x0.0, x0.1)) x e in
    let a1 = number_found left a.0 a.1 in
    subst (PartRead part_word.Spares left) (ok_is (part.Spares a.0.0, a.0.1) x a.2)
    (record { word_is = refl; words = a1.1; fits = a1.0 })
part_found part_word.Separation left x e =
    let a = bind_ok (number_at left) (λ x0. Ok (part.Separation x0.0, x0.1)) x e in
    let a1 = number_found left a.0 a.1 in
    subst (PartRead part_word.Separation left) (ok_is (part.Separation a.0.0, a.0.1) x a.2)
    (record { word_is = refl; words = a1.1; fits = a1.0 })
part_found part_word.Array left x e =
    let a = bind_ok (name_at left) (λ x0. number_at x0.1 >>= λ x1. Ok (part.Array x0.0 x1.0, x1.1)) x e in
    let a1 = name_found left a.0 a.1 in
    let b = bind_ok (number_at a.0.1) (λ x1. Ok (part.Array a.0.0 x1.0, x1.1)) x a.2 in
    let b1 = number_found a.0.1 b.0 b.1 in
    subst (PartRead part_word.Array left) (ok_is (part.Array a.0.0 b.0.0, b.0.1) x b.2)
    (record { word_is = refl; words = a1.1 ∙ ap (λ (l : List (List ℕ)). a.0.0 ∷ l) (b1.1); fits = and_from (is_name a.0.0) (fits_64 b.0.0) (a1.0) b1.0 })
part_found part_word.Counter left x e =
    let a = bind_ok (name_at left) (λ x0. Ok (part.Counter x0.0, x0.1)) x e in
    let a1 = name_found left a.0 a.1 in
    subst (PartRead part_word.Counter left) (ok_is (part.Counter a.0.0, a.0.1) x a.2)
    (record { word_is = refl; words = a1.1; fits = a1.0 })
part_found part_word.Callback left x e =
    let a = bind_ok (name_at left) (λ x0. Ok (part.Callback x0.0, x0.1)) x e in
    let a1 = name_found left a.0 a.1 in
    subst (PartRead part_word.Callback left) (ok_is (part.Callback a.0.0, a.0.1) x a.2)
    (record { word_is = refl; words = a1.1; fits = a1.0 })
part_found part_word.EndCallback left x e =
    subst (PartRead part_word.EndCallback left) (ok_is (part.EndCallback, left) x e) (record { word_is = refl; words = refl; fits = refl })
part_found part_word.Begin left x e =
    subst (PartRead part_word.Begin left) (ok_is (part.Begin, left) x e) (record { word_is = refl; words = refl; fits = refl })
part_found part_word.End left x e =
    subst (PartRead part_word.End left) (ok_is (part.End, left) x e) (record { word_is = refl; words = refl; fits = refl })
part_found part_word.Schedule left x e =
    subst (PartRead part_word.Schedule left) (ok_is (part.Schedule, left) x e) (record { word_is = refl; words = refl; fits = refl })
part_found part_word.Stop left x e =
    subst (PartRead part_word.Stop left) (ok_is (part.Stop, left) x e) (record { word_is = refl; words = refl; fits = refl })

pub part_again : (p : PartHead) (left : Left) (rest : List (List ℕ)) → part_fits p ≡ true → texts left ≡ part_fields p ++ rest → Behind (part_at (part_word_in p) left) p rest
part_again part.Fenix left rest fits e =
    let f0 = fixed_again left (codes "1") rest refl e in
    record { left = f0.left; read = rw (f0.read) refl; others = f0.others }
part_again (part.Ranks v0) left rest fits e =
    let f0 = number_read_again left v0 rest fits e in
    record { left = f0.left; read = rw (f0.read) refl; others = f0.others }
part_again (part.Spares v0) left rest fits e =
    let f0 = number_read_again left v0 rest fits e in
    record { left = f0.left; read = rw (f0.read) refl; others = f0.others }
part_again (part.Separation v0) left rest fits e =
    let f0 = number_read_again left v0 rest fits e in
    record { left = f0.left; read = rw (f0.read) refl; others = f0.others }
part_again (part.Array v0 v1) left rest fits e =
    let p1 = and_parts (is_name v0) (fits_64 v1) fits in
    let f0 = name_again left v0 ((signed_decimal v1 ∷ []) ++ rest) p1.0 e in
    let f1 = number_read_again f0.left v1 rest p1.1 f0.others in
    record { left = f1.left; read = rw (f0.read, f1.read) refl; others = f1.others }
part_again (part.Counter v0) left rest fits e =
    let f0 = name_again left v0 rest fits e in
    record { left = f0.left; read = rw (f0.read) refl; others = f0.others }
part_again (part.Callback v0) left rest fits e =
    let f0 = name_again left v0 rest fits e in
    record { left = f0.left; read = rw (f0.read) refl; others = f0.others }
part_again part.EndCallback left rest fits e = record { left = left; read = refl; others = e }
part_again part.Begin left rest fits e = record { left = left; read = refl; others = e }
part_again part.End left rest fits e = record { left = left; read = refl; others = e }
part_again part.Schedule left rest fits e = record { left = left; read = refl; others = e }
part_again part.Stop left rest fits e = record { left = left; read = refl; others = e }

-- the keyword of such a line, the words behind it, and that its names are names and its numbers fit
abbrev pub edge_word_in : EdgeHead → EdgeWord
edge_word_in (edge.When v0) = edge_word.When
edge_word_in edge.EndWhen = edge_word.EndWhen
edge_word_in (edge.If v0 v1 v2) = edge_word.If
edge_word_in edge.Else = edge_word.Else
edge_word_in edge.EndIf = edge_word.EndIf
edge_word_in (edge.For v0 v1 v2) = edge_word.For
edge_word_in edge.EndFor = edge_word.EndFor

abbrev pub edge_fields : EdgeHead → List (List ℕ)
edge_fields (edge.When v0) = role_text v0 ∷ []
edge_fields edge.EndWhen = []
edge_fields (edge.If v0 v1 v2) = test_text v0 ∷ (expr_words v1 ++ expr_words v2)
edge_fields edge.Else = []
edge_fields edge.EndIf = []
edge_fields (edge.For v0 v1 v2) = v0 ∷ (expr_words v1 ++ (signed_decimal v2 ∷ []))
edge_fields edge.EndFor = []

abbrev pub edge_fits : EdgeHead → Bool
edge_fits (edge.When v0) = true
edge_fits edge.EndWhen = true
edge_fits (edge.If v0 v1 v2) = is_writable_expr v1 && is_writable_expr v2
edge_fits edge.Else = true
edge_fits edge.EndIf = true
edge_fits (edge.For v0 v1 v2) = is_name v0 && is_writable_expr v1 && fits_64 v2
edge_fits edge.EndFor = true

pub record EdgeRead (w : EdgeWord) (left : Left) (x : EdgeHead × Left) : Type 0 where
  pub word_is : edge_word_in x.0 ≡ w
  pub words : texts left ≡ edge_fields x.0 ++ texts x.1
  pub fits : edge_fits x.0 ≡ true

pub edge_found : (w : EdgeWord) (left : Left) (x : EdgeHead × Left) → edge_at w left ≡ Ok x → EdgeRead w left x
edge_found edge_word.When left x e =
    let a = bind_ok (role_at left) (λ x0. Ok (edge.When x0.0, x0.1)) x e in
    let a1 = role_found left a.0 a.1 in
    subst (EdgeRead edge_word.When left) (ok_is (edge.When a.0.0, a.0.1) x a.2)
    (record { word_is = refl; words = a1; fits = refl })
edge_found edge_word.EndWhen left x e =
    subst (EdgeRead edge_word.EndWhen left) (ok_is (edge.EndWhen, left) x e) (record { word_is = refl; words = refl; fits = refl })
edge_found edge_word.If left x e =
    let a = bind_ok (test_at left) (λ x0. expr_at x0.1 >>= λ x1. expr_at x1.1 >>= λ x2. Ok (edge.If x0.0 x1.0 x2.0, x2.1)) x e in
    let a1 = test_found left a.0 a.1 in
    let b = bind_ok (expr_at a.0.1) (λ x1. expr_at x1.1 >>= λ x2. Ok (edge.If a.0.0 x1.0 x2.0, x2.1)) x a.2 in
    let b1 = expr_found a.0.1 b.0 b.1 in
    let d = bind_ok (expr_at b.0.1) (λ x2. Ok (edge.If a.0.0 b.0.0 x2.0, x2.1)) x b.2 in
    let d1 = expr_found b.0.1 d.0 d.1 in
    subst (EdgeRead edge_word.If left) (ok_is (edge.If a.0.0 b.0.0 d.0.0, d.0.1) x d.2)
    (record { word_is = refl; words = a1 ∙ ap (λ (l : List (List ℕ)). test_text a.0.0 ∷ l) (b1.1 ∙ ap (λ (l : List (List ℕ)). expr_words b.0.0 ++ l) (d1.1) ∙ sym (append_assoc (expr_words b.0.0) (expr_words d.0.0) (texts d.0.1))); fits = and_from (is_writable_expr b.0.0) (is_writable_expr d.0.0) (b1.0) d1.0 })
edge_found edge_word.Else left x e =
    subst (EdgeRead edge_word.Else left) (ok_is (edge.Else, left) x e) (record { word_is = refl; words = refl; fits = refl })
edge_found edge_word.EndIf left x e =
    subst (EdgeRead edge_word.EndIf left) (ok_is (edge.EndIf, left) x e) (record { word_is = refl; words = refl; fits = refl })
edge_found edge_word.For left x e =
    let a = bind_ok (name_at left) (λ x0. expr_at x0.1 >>= λ x1. number_at x1.1 >>= λ x2. Ok (edge.For x0.0 x1.0 x2.0, x2.1)) x e in
    let a1 = name_found left a.0 a.1 in
    let b = bind_ok (expr_at a.0.1) (λ x1. number_at x1.1 >>= λ x2. Ok (edge.For a.0.0 x1.0 x2.0, x2.1)) x a.2 in
    let b1 = expr_found a.0.1 b.0 b.1 in
    let d = bind_ok (number_at b.0.1) (λ x2. Ok (edge.For a.0.0 b.0.0 x2.0, x2.1)) x b.2 in
    let d1 = number_found b.0.1 d.0 d.1 in
    subst (EdgeRead edge_word.For left) (ok_is (edge.For a.0.0 b.0.0 d.0.0, d.0.1) x d.2)
    (record { word_is = refl; words = a1.1 ∙ ap (λ (l : List (List ℕ)). a.0.0 ∷ l) (b1.1 ∙ ap (λ (l : List (List ℕ)). expr_words b.0.0 ++ l) (d1.1) ∙ sym (append_assoc (expr_words b.0.0) (signed_decimal d.0.0 ∷ []) (texts d.0.1))); fits = and_from (is_name a.0.0 && is_writable_expr b.0.0) (fits_64 d.0.0) (and_from (is_name a.0.0) (is_writable_expr b.0.0) (a1.0) b1.0) d1.0 })
edge_found edge_word.EndFor left x e =
    subst (EdgeRead edge_word.EndFor left) (ok_is (edge.EndFor, left) x e) (record { word_is = refl; words = refl; fits = refl })

pub edge_again : (p : EdgeHead) (left : Left) (rest : List (List ℕ)) → edge_fits p ≡ true → texts left ≡ edge_fields p ++ rest → Behind (edge_at (edge_word_in p) left) p rest
edge_again (edge.When v0) left rest fits e =
    let f0 = role_again left v0 rest e in
    record { left = f0.left; read = rw (f0.read) refl; others = f0.others }
edge_again edge.EndWhen left rest fits e = record { left = left; read = refl; others = e }
edge_again (edge.If v0 v1 v2) left rest fits e =
    let p2 = and_parts (is_writable_expr v1) (is_writable_expr v2) fits in
    let f0 = test_again left v0 (((expr_words v1 ++ expr_words v2)) ++ rest) e in
    let f1 = expr_again f0.left v1 (expr_words v2 ++ rest) p2.0 (f0.others ∙ append_assoc (expr_words v1) (expr_words v2) rest) in
    let f2 = expr_again f1.left v2 rest p2.1 f1.others in
    record { left = f2.left; read = rw (f0.read, f1.read, f2.read) refl; others = f2.others }
edge_again edge.Else left rest fits e = record { left = left; read = refl; others = e }
edge_again edge.EndIf left rest fits e = record { left = left; read = refl; others = e }
edge_again (edge.For v0 v1 v2) left rest fits e =
    let p2 = and_parts (is_name v0 && is_writable_expr v1) (fits_64 v2) fits in
    let p1 = and_parts (is_name v0) (is_writable_expr v1) p2.0 in
    let f0 = name_again left v0 (((expr_words v1 ++ (signed_decimal v2 ∷ []))) ++ rest) p1.0 e in
    let f1 = expr_again f0.left v1 ((signed_decimal v2 ∷ []) ++ rest) p1.1 (f0.others ∙ append_assoc (expr_words v1) (signed_decimal v2 ∷ []) rest) in
    let f2 = number_read_again f1.left v2 rest p2.1 f1.others in
    record { left = f2.left; read = rw (f0.read, f1.read, f2.read) refl; others = f2.others }
edge_again edge.EndFor left rest fits e = record { left = left; read = refl; others = e }

-- the keyword of such a line, the words behind it, and that its names are names and its numbers fit
abbrev pub event_word_in : EventKind → EventWord
event_word_in (event.Step v0) = event_word.Step
event_word_in (event.Rest v0) = event_word.Rest
event_word_in (event.Deliver v0 v1) = event_word.Deliver
event_word_in (event.Kill v0) = event_word.Kill
event_word_in (event.Notice v0 v1) = event_word.Notice
event_word_in (event.Run v0) = event_word.Run

abbrev pub event_fields : EventKind → List (List ℕ)
event_fields (event.Step v0) = signed_decimal v0 ∷ []
event_fields (event.Rest v0) = signed_decimal v0 ∷ []
event_fields (event.Deliver v0 v1) = signed_decimal v0 ∷ signed_decimal v1 ∷ []
event_fields (event.Kill v0) = signed_decimal v0 ∷ []
event_fields (event.Notice v0 v1) = signed_decimal v0 ∷ signed_decimal v1 ∷ []
event_fields (event.Run v0) = signed_decimal v0 ∷ []

pub record EventRead (w : EventWord) (left : Left) (x : EventKind × Left) : Type 0 where
  pub word_is : event_word_in x.0 ≡ w
  pub words : texts left ≡ event_fields x.0 ++ texts x.1
  pub fits : event_fits x.0 ≡ true

pub event_found : (w : EventWord) (left : Left) (x : EventKind × Left) → event_at w left ≡ Ok x → EventRead w left x
event_found event_word.Step left x e =
    let a = bind_ok (number_at left) (λ x0. Ok (event.Step x0.0, x0.1)) x e in
    let a1 = number_found left a.0 a.1 in
    subst (EventRead event_word.Step left) (ok_is (event.Step a.0.0, a.0.1) x a.2)
    (record { word_is = refl; words = a1.1; fits = a1.0 })
event_found event_word.Rest left x e =
    let a = bind_ok (number_at left) (λ x0. Ok (event.Rest x0.0, x0.1)) x e in
    let a1 = number_found left a.0 a.1 in
    subst (EventRead event_word.Rest left) (ok_is (event.Rest a.0.0, a.0.1) x a.2)
    (record { word_is = refl; words = a1.1; fits = a1.0 })
event_found event_word.Deliver left x e =
    let a = bind_ok (number_at left) (λ x0. number_at x0.1 >>= λ x1. Ok (event.Deliver x0.0 x1.0, x1.1)) x e in
    let a1 = number_found left a.0 a.1 in
    let b = bind_ok (number_at a.0.1) (λ x1. Ok (event.Deliver a.0.0 x1.0, x1.1)) x a.2 in
    let b1 = number_found a.0.1 b.0 b.1 in
    subst (EventRead event_word.Deliver left) (ok_is (event.Deliver a.0.0 b.0.0, b.0.1) x b.2)
    (record { word_is = refl; words = a1.1 ∙ ap (λ (l : List (List ℕ)). signed_decimal a.0.0 ∷ l) (b1.1); fits = and_from (fits_64 a.0.0) (fits_64 b.0.0) (a1.0) b1.0 })
event_found event_word.Kill left x e =
    let a = bind_ok (number_at left) (λ x0. Ok (event.Kill x0.0, x0.1)) x e in
    let a1 = number_found left a.0 a.1 in
    subst (EventRead event_word.Kill left) (ok_is (event.Kill a.0.0, a.0.1) x a.2)
    (record { word_is = refl; words = a1.1; fits = a1.0 })
event_found event_word.Notice left x e =
    let a = bind_ok (number_at left) (λ x0. number_at x0.1 >>= λ x1. Ok (event.Notice x0.0 x1.0, x1.1)) x e in
    let a1 = number_found left a.0 a.1 in
    let b = bind_ok (number_at a.0.1) (λ x1. Ok (event.Notice a.0.0 x1.0, x1.1)) x a.2 in
    let b1 = number_found a.0.1 b.0 b.1 in
    subst (EventRead event_word.Notice left) (ok_is (event.Notice a.0.0 b.0.0, b.0.1) x b.2)
    (record { word_is = refl; words = a1.1 ∙ ap (λ (l : List (List ℕ)). signed_decimal a.0.0 ∷ l) (b1.1); fits = and_from (fits_64 a.0.0) (fits_64 b.0.0) (a1.0) b1.0 })
event_found event_word.Run left x e =
    let a = bind_ok (number_at left) (λ x0. Ok (event.Run x0.0, x0.1)) x e in
    let a1 = number_found left a.0 a.1 in
    subst (EventRead event_word.Run left) (ok_is (event.Run a.0.0, a.0.1) x a.2)
    (record { word_is = refl; words = a1.1; fits = a1.0 })

pub event_again : (p : EventKind) (left : Left) (rest : List (List ℕ)) → event_fits p ≡ true → texts left ≡ event_fields p ++ rest → Behind (event_at (event_word_in p) left) p rest
event_again (event.Step v0) left rest fits e =
    let f0 = number_read_again left v0 rest fits e in
    record { left = f0.left; read = rw (f0.read) refl; others = f0.others }
event_again (event.Rest v0) left rest fits e =
    let f0 = number_read_again left v0 rest fits e in
    record { left = f0.left; read = rw (f0.read) refl; others = f0.others }
event_again (event.Deliver v0 v1) left rest fits e =
    let p1 = and_parts (fits_64 v0) (fits_64 v1) fits in
    let f0 = number_read_again left v0 ((signed_decimal v1 ∷ []) ++ rest) p1.0 e in
    let f1 = number_read_again f0.left v1 rest p1.1 f0.others in
    record { left = f1.left; read = rw (f0.read, f1.read) refl; others = f1.others }
event_again (event.Kill v0) left rest fits e =
    let f0 = number_read_again left v0 rest fits e in
    record { left = f0.left; read = rw (f0.read) refl; others = f0.others }
event_again (event.Notice v0 v1) left rest fits e =
    let p1 = and_parts (fits_64 v0) (fits_64 v1) fits in
    let f0 = number_read_again left v0 ((signed_decimal v1 ∷ []) ++ rest) p1.0 e in
    let f1 = number_read_again f0.left v1 rest p1.1 f0.others in
    record { left = f1.left; read = rw (f0.read, f1.read) refl; others = f1.others }
event_again (event.Run v0) left rest fits e =
    let f0 = number_read_again left v0 rest fits e in
    record { left = f0.left; read = rw (f0.read) refl; others = f0.others }

-- the words of an event
pub event_words_is : (k : EventKind) → event_words k ≡ event_text (event_word_in k) ∷ event_fields k
event_words_is (event.Step v0) = refl
event_words_is (event.Rest v0) = refl
event_words_is (event.Deliver v0 v1) = refl
event_words_is (event.Kill v0) = refl
event_words_is (event.Notice v0 v1) = refl
event_words_is (event.Run v0) = refl
