-- A statement without a block is spelled by its words, and words that spell one are read as it.
use Rattle.std.proofs.Common.{◌≡◌, ℕ, Bool, true, ◌&&◌, List, [], ◌∷◌, ◌++◌, Ok, refl, sym, ap, subst, ◌∙◌}
use Rattle.std.specs.Prelude.{ℤ}
use Rattle.std.specs.Fmt.{signed_decimal}
use Rattle.std.proofs.lemmas.Bool.{and_from, and_parts}
use Rattle.std.proofs.lemmas.List.{append-nil}
use Rattle.fx_base.specs.declared.names.Op.TheVariants as op
use Rattle.fx_base.specs.declared.spot.Spot.{Spot}
use Rattle.fx_text.specs.Numbers.{fits_64}
use Rattle.fx_script.specs.declared.expr.Expr.{Expr}
use Rattle.fx_script.specs.declared.job.Picked.{Picked}
use Rattle.fx_script.specs.declared.job.Stmt.{Stmt}
use Rattle.fx_script.specs.declared.job.Stmt.TheVariants as stmt
use Rattle.fx_script.specs.declared.job.Stmt.TheOpen.{Stmt-F}
use Rattle.fx_script.specs.declared.job.Stmt.TheViews.{roll-Stmt}
use Rattle.fx_script.specs.declared.job.Stmt.TheFolds.{fold-roll-Stmt, map-Stmt}
use Rattle.fx_script.specs.declared.keyword.SimpleWord.{SimpleWord}
use Rattle.fx_script.specs.declared.keyword.SimpleWord.TheVariants as word
use Rattle.fx_script.specs.Left.{Left}
use Rattle.fx_script.specs.Outcome.{◌>>=◌}
use Rattle.fx_script.specs.Exprs.{expr_words, is_writable_expr, expr_at}
use Rattle.fx_script.specs.Fields.{name_at, number_at, picked_at}
use Rattle.fx_script.specs.Keywords.{simple_text}
use Rattle.fx_text.specs.Names.{is_name}
use Rattle.fx_script.specs.Spelling.{Entry, kept_at, picked_words, picked_fits, stmt_level, stmt_entries, stmt_fits_level, stmt_fits}
use Rattle.fx_script.specs.Statements.{simple_at}
use Rattle.fx_script.proofs.FieldLemmas.{bind_ok, ok_is, texts, Behind, name_found, number_found, name_again, number_read_again}
use Rattle.fx_script.proofs.PickedLemmas.{picked_found, picked_again}
use Rattle.fx_script.proofs.ExprLemmas.{expr_found, expr_again}

-- the lines of each kind of statement, and when it fits
pub stmt_spelling : (x : Stmt-F Stmt) (s : Stmt) → roll-Stmt x ≡ s → stmt_entries s ≡ stmt_level (map-Stmt Stmt (List Entry) stmt_entries x)
stmt_spelling x s is = ap stmt_entries (sym is) ∙ fold-roll-Stmt (List Entry) stmt_level x

pub stmt_writing : (x : Stmt-F Stmt) (s : Stmt) → roll-Stmt x ≡ s → (room : ℕ) → stmt_fits s room ≡ stmt_fits_level (map-Stmt Stmt (ℕ → Bool) stmt_fits x) room
stmt_writing x s is room = ap (λ (t : Stmt). stmt_fits t room) (sym is) ∙ ap (λ (f : ℕ → Bool). f room) (fold-roll-Stmt (ℕ → Bool) stmt_fits_level x)

-- a statement that was read
pub record SimpleRead (w : SimpleWord) (spot : Spot) (left : Left) (x : Stmt × Left) : Type 0 where
  pub fields : List (List ℕ)
  pub entries : stmt_entries x.0 ≡ kept_at spot (simple_text w ∷ fields) ∷ []
  pub read : texts left ≡ fields ++ texts x.1
  pub fits : (room : ℕ) → stmt_fits x.0 room ≡ true

-- a statement that is read again from its words
pub record SimpleAgain (s : Stmt) (spot : Spot) : Type 0 where
  pub word : SimpleWord
  pub fields : List (List ℕ)
  pub entries : stmt_entries s ≡ kept_at spot (simple_text word ∷ fields) ∷ []
  pub again : (left : Left) → texts left ≡ fields → Behind (simple_at word spot left) s []

pub simple_found : (w : SimpleWord) (spot : Spot) (left : Left) (x : Stmt × Left) → simple_at w spot left ≡ Ok x → SimpleRead w spot left x
simple_found word.Let spot left x e =
    let a = bind_ok (name_at left) (λ x0. expr_at x0.1 >>= λ x1. Ok (stmt.Let spot x0.0 x1.0, x1.1)) x e in
    let a1 = name_found left a.0 a.1 in
    let b = bind_ok (expr_at a.0.1) (λ x1. Ok (stmt.Let spot a.0.0 x1.0, x1.1)) x a.2 in
    let b1 = expr_found a.0.1 b.0 b.1 in
    subst (SimpleRead word.Let spot left) (ok_is (stmt.Let spot a.0.0 b.0.0, b.0.1) x b.2)
    (record {
      fields = a.0.0 ∷ expr_words b.0.0;
      entries = stmt_spelling (Stmt-F.Let spot a.0.0 b.0.0) (stmt.Let spot a.0.0 b.0.0) (stmt.rolls-Let spot a.0.0 b.0.0);
      read = a1.1 ∙ ap (λ (l : List (List ℕ)). a.0.0 ∷ l) (b1.1);
      fits = λ room. stmt_writing (Stmt-F.Let spot a.0.0 b.0.0) (stmt.Let spot a.0.0 b.0.0) (stmt.rolls-Let spot a.0.0 b.0.0) room ∙ and_from (is_name a.0.0 && is_writable_expr b.0.0) true (and_from (is_name a.0.0) (is_writable_expr b.0.0) (a1.0) b1.0) refl;
    })
simple_found word.Set spot left x e =
    let a = bind_ok (name_at left) (λ x0. expr_at x0.1 >>= λ x1. Ok (stmt.Set spot x0.0 x1.0, x1.1)) x e in
    let a1 = name_found left a.0 a.1 in
    let b = bind_ok (expr_at a.0.1) (λ x1. Ok (stmt.Set spot a.0.0 x1.0, x1.1)) x a.2 in
    let b1 = expr_found a.0.1 b.0 b.1 in
    subst (SimpleRead word.Set spot left) (ok_is (stmt.Set spot a.0.0 b.0.0, b.0.1) x b.2)
    (record {
      fields = a.0.0 ∷ expr_words b.0.0;
      entries = stmt_spelling (Stmt-F.Set spot a.0.0 b.0.0) (stmt.Set spot a.0.0 b.0.0) (stmt.rolls-Set spot a.0.0 b.0.0);
      read = a1.1 ∙ ap (λ (l : List (List ℕ)). a.0.0 ∷ l) (b1.1);
      fits = λ room. stmt_writing (Stmt-F.Set spot a.0.0 b.0.0) (stmt.Set spot a.0.0 b.0.0) (stmt.rolls-Set spot a.0.0 b.0.0) room ∙ and_from (is_name a.0.0 && is_writable_expr b.0.0) true (and_from (is_name a.0.0) (is_writable_expr b.0.0) (a1.0) b1.0) refl;
    })
simple_found word.Print spot left x e =
    let a = bind_ok (name_at left) (λ x0. Ok (stmt.Print spot x0.0, x0.1)) x e in
    let a1 = name_found left a.0 a.1 in
    subst (SimpleRead word.Print spot left) (ok_is (stmt.Print spot a.0.0, a.0.1) x a.2)
    (record {
      fields = a.0.0 ∷ [];
      entries = stmt_spelling (Stmt-F.Print spot a.0.0) (stmt.Print spot a.0.0) (stmt.rolls-Print spot a.0.0);
      read = a1.1;
      fits = λ room. stmt_writing (Stmt-F.Print spot a.0.0) (stmt.Print spot a.0.0) (stmt.rolls-Print spot a.0.0) room ∙ and_from (is_name a.0.0) true (a1.0) refl;
    })
simple_found word.Register spot left x e =
    let a = bind_ok (name_at left) (λ x0. Ok (stmt.Register spot x0.0, x0.1)) x e in
    let a1 = name_found left a.0 a.1 in
    subst (SimpleRead word.Register spot left) (ok_is (stmt.Register spot a.0.0, a.0.1) x a.2)
    (record {
      fields = a.0.0 ∷ [];
      entries = stmt_spelling (Stmt-F.Register spot a.0.0) (stmt.Register spot a.0.0) (stmt.rolls-Register spot a.0.0);
      read = a1.1;
      fits = λ room. stmt_writing (Stmt-F.Register spot a.0.0) (stmt.Register spot a.0.0) (stmt.rolls-Register spot a.0.0) room ∙ and_from (is_name a.0.0) true (a1.0) refl;
    })
simple_found word.Barrier spot left x e =
    subst (SimpleRead word.Barrier spot left) (ok_is (stmt.Barrier spot, left) x e)
    (record { fields = []; entries = stmt_spelling (Stmt-F.Barrier spot) (stmt.Barrier spot) (stmt.rolls-Barrier spot); read = refl; fits = λ room. stmt_writing (Stmt-F.Barrier spot) (stmt.Barrier spot) (stmt.rolls-Barrier spot) room })
simple_found word.Sum spot left x e =
    let a = bind_ok (name_at left) (λ x0. name_at x0.1 >>= λ x1. Ok (stmt.Reduce spot op.Sum x0.0 x1.0, x1.1)) x e in
    let a1 = name_found left a.0 a.1 in
    let b = bind_ok (name_at a.0.1) (λ x1. Ok (stmt.Reduce spot op.Sum a.0.0 x1.0, x1.1)) x a.2 in
    let b1 = name_found a.0.1 b.0 b.1 in
    subst (SimpleRead word.Sum spot left) (ok_is (stmt.Reduce spot op.Sum a.0.0 b.0.0, b.0.1) x b.2)
    (record {
      fields = a.0.0 ∷ b.0.0 ∷ [];
      entries = stmt_spelling (Stmt-F.Reduce spot op.Sum a.0.0 b.0.0) (stmt.Reduce spot op.Sum a.0.0 b.0.0) (stmt.rolls-Reduce spot op.Sum a.0.0 b.0.0);
      read = a1.1 ∙ ap (λ (l : List (List ℕ)). a.0.0 ∷ l) (b1.1);
      fits = λ room. stmt_writing (Stmt-F.Reduce spot op.Sum a.0.0 b.0.0) (stmt.Reduce spot op.Sum a.0.0 b.0.0) (stmt.rolls-Reduce spot op.Sum a.0.0 b.0.0) room ∙ and_from (is_name a.0.0 && is_name b.0.0) true (and_from (is_name a.0.0) (is_name b.0.0) (a1.0) b1.0) refl;
    })
simple_found word.Min spot left x e =
    let a = bind_ok (name_at left) (λ x0. name_at x0.1 >>= λ x1. Ok (stmt.Reduce spot op.Min x0.0 x1.0, x1.1)) x e in
    let a1 = name_found left a.0 a.1 in
    let b = bind_ok (name_at a.0.1) (λ x1. Ok (stmt.Reduce spot op.Min a.0.0 x1.0, x1.1)) x a.2 in
    let b1 = name_found a.0.1 b.0 b.1 in
    subst (SimpleRead word.Min spot left) (ok_is (stmt.Reduce spot op.Min a.0.0 b.0.0, b.0.1) x b.2)
    (record {
      fields = a.0.0 ∷ b.0.0 ∷ [];
      entries = stmt_spelling (Stmt-F.Reduce spot op.Min a.0.0 b.0.0) (stmt.Reduce spot op.Min a.0.0 b.0.0) (stmt.rolls-Reduce spot op.Min a.0.0 b.0.0);
      read = a1.1 ∙ ap (λ (l : List (List ℕ)). a.0.0 ∷ l) (b1.1);
      fits = λ room. stmt_writing (Stmt-F.Reduce spot op.Min a.0.0 b.0.0) (stmt.Reduce spot op.Min a.0.0 b.0.0) (stmt.rolls-Reduce spot op.Min a.0.0 b.0.0) room ∙ and_from (is_name a.0.0 && is_name b.0.0) true (and_from (is_name a.0.0) (is_name b.0.0) (a1.0) b1.0) refl;
    })
simple_found word.Max spot left x e =
    let a = bind_ok (name_at left) (λ x0. name_at x0.1 >>= λ x1. Ok (stmt.Reduce spot op.Max x0.0 x1.0, x1.1)) x e in
    let a1 = name_found left a.0 a.1 in
    let b = bind_ok (name_at a.0.1) (λ x1. Ok (stmt.Reduce spot op.Max a.0.0 x1.0, x1.1)) x a.2 in
    let b1 = name_found a.0.1 b.0 b.1 in
    subst (SimpleRead word.Max spot left) (ok_is (stmt.Reduce spot op.Max a.0.0 b.0.0, b.0.1) x b.2)
    (record {
      fields = a.0.0 ∷ b.0.0 ∷ [];
      entries = stmt_spelling (Stmt-F.Reduce spot op.Max a.0.0 b.0.0) (stmt.Reduce spot op.Max a.0.0 b.0.0) (stmt.rolls-Reduce spot op.Max a.0.0 b.0.0);
      read = a1.1 ∙ ap (λ (l : List (List ℕ)). a.0.0 ∷ l) (b1.1);
      fits = λ room. stmt_writing (Stmt-F.Reduce spot op.Max a.0.0 b.0.0) (stmt.Reduce spot op.Max a.0.0 b.0.0) (stmt.rolls-Reduce spot op.Max a.0.0 b.0.0) room ∙ and_from (is_name a.0.0 && is_name b.0.0) true (and_from (is_name a.0.0) (is_name b.0.0) (a1.0) b1.0) refl;
    })
simple_found word.Agree spot left x e =
    let a = bind_ok (name_at left) (λ x0. name_at x0.1 >>= λ x1. number_at x1.1 >>= λ x2. Ok (stmt.Agree spot x0.0 x1.0 x2.0, x2.1)) x e in
    let a1 = name_found left a.0 a.1 in
    let b = bind_ok (name_at a.0.1) (λ x1. number_at x1.1 >>= λ x2. Ok (stmt.Agree spot a.0.0 x1.0 x2.0, x2.1)) x a.2 in
    let b1 = name_found a.0.1 b.0 b.1 in
    let d = bind_ok (number_at b.0.1) (λ x2. Ok (stmt.Agree spot a.0.0 b.0.0 x2.0, x2.1)) x b.2 in
    let d1 = number_found b.0.1 d.0 d.1 in
    subst (SimpleRead word.Agree spot left) (ok_is (stmt.Agree spot a.0.0 b.0.0 d.0.0, d.0.1) x d.2)
    (record {
      fields = a.0.0 ∷ b.0.0 ∷ signed_decimal d.0.0 ∷ [];
      entries = stmt_spelling (Stmt-F.Agree spot a.0.0 b.0.0 d.0.0) (stmt.Agree spot a.0.0 b.0.0 d.0.0) (stmt.rolls-Agree spot a.0.0 b.0.0 d.0.0);
      read = a1.1 ∙ ap (λ (l : List (List ℕ)). a.0.0 ∷ l) (b1.1 ∙ ap (λ (l : List (List ℕ)). b.0.0 ∷ l) (d1.1));
      fits = λ room. stmt_writing (Stmt-F.Agree spot a.0.0 b.0.0 d.0.0) (stmt.Agree spot a.0.0 b.0.0 d.0.0) (stmt.rolls-Agree spot a.0.0 b.0.0 d.0.0) room ∙ and_from (is_name a.0.0 && is_name b.0.0 && fits_64 d.0.0) true (and_from (is_name a.0.0 && is_name b.0.0) (fits_64 d.0.0) (and_from (is_name a.0.0) (is_name b.0.0) (a1.0) b1.0) d1.0) refl;
    })
simple_found word.Shift spot left x e =
    let a = bind_ok (name_at left) (λ x0. name_at x0.1 >>= λ x1. number_at x1.1 >>= λ x2. Ok (stmt.Shift spot x0.0 x1.0 x2.0, x2.1)) x e in
    let a1 = name_found left a.0 a.1 in
    let b = bind_ok (name_at a.0.1) (λ x1. number_at x1.1 >>= λ x2. Ok (stmt.Shift spot a.0.0 x1.0 x2.0, x2.1)) x a.2 in
    let b1 = name_found a.0.1 b.0 b.1 in
    let d = bind_ok (number_at b.0.1) (λ x2. Ok (stmt.Shift spot a.0.0 b.0.0 x2.0, x2.1)) x b.2 in
    let d1 = number_found b.0.1 d.0 d.1 in
    subst (SimpleRead word.Shift spot left) (ok_is (stmt.Shift spot a.0.0 b.0.0 d.0.0, d.0.1) x d.2)
    (record {
      fields = a.0.0 ∷ b.0.0 ∷ signed_decimal d.0.0 ∷ [];
      entries = stmt_spelling (Stmt-F.Shift spot a.0.0 b.0.0 d.0.0) (stmt.Shift spot a.0.0 b.0.0 d.0.0) (stmt.rolls-Shift spot a.0.0 b.0.0 d.0.0);
      read = a1.1 ∙ ap (λ (l : List (List ℕ)). a.0.0 ∷ l) (b1.1 ∙ ap (λ (l : List (List ℕ)). b.0.0 ∷ l) (d1.1));
      fits = λ room. stmt_writing (Stmt-F.Shift spot a.0.0 b.0.0 d.0.0) (stmt.Shift spot a.0.0 b.0.0 d.0.0) (stmt.rolls-Shift spot a.0.0 b.0.0 d.0.0) room ∙ and_from (is_name a.0.0 && is_name b.0.0 && fits_64 d.0.0) true (and_from (is_name a.0.0 && is_name b.0.0) (fits_64 d.0.0) (and_from (is_name a.0.0) (is_name b.0.0) (a1.0) b1.0) d1.0) refl;
    })
simple_found word.Group spot left x e =
    let a = bind_ok (number_at left) (λ x0. number_at x0.1 >>= λ x1. number_at x1.1 >>= λ x2. Ok (stmt.Group spot x0.0 x1.0 x2.0, x2.1)) x e in
    let a1 = number_found left a.0 a.1 in
    let b = bind_ok (number_at a.0.1) (λ x1. number_at x1.1 >>= λ x2. Ok (stmt.Group spot a.0.0 x1.0 x2.0, x2.1)) x a.2 in
    let b1 = number_found a.0.1 b.0 b.1 in
    let d = bind_ok (number_at b.0.1) (λ x2. Ok (stmt.Group spot a.0.0 b.0.0 x2.0, x2.1)) x b.2 in
    let d1 = number_found b.0.1 d.0 d.1 in
    subst (SimpleRead word.Group spot left) (ok_is (stmt.Group spot a.0.0 b.0.0 d.0.0, d.0.1) x d.2)
    (record {
      fields = signed_decimal a.0.0 ∷ signed_decimal b.0.0 ∷ signed_decimal d.0.0 ∷ [];
      entries = stmt_spelling (Stmt-F.Group spot a.0.0 b.0.0 d.0.0) (stmt.Group spot a.0.0 b.0.0 d.0.0) (stmt.rolls-Group spot a.0.0 b.0.0 d.0.0);
      read = a1.1 ∙ ap (λ (l : List (List ℕ)). signed_decimal a.0.0 ∷ l) (b1.1 ∙ ap (λ (l : List (List ℕ)). signed_decimal b.0.0 ∷ l) (d1.1));
      fits = λ room. stmt_writing (Stmt-F.Group spot a.0.0 b.0.0 d.0.0) (stmt.Group spot a.0.0 b.0.0 d.0.0) (stmt.rolls-Group spot a.0.0 b.0.0 d.0.0) room ∙ and_from (fits_64 a.0.0 && fits_64 b.0.0 && fits_64 d.0.0) true (and_from (fits_64 a.0.0 && fits_64 b.0.0) (fits_64 d.0.0) (and_from (fits_64 a.0.0) (fits_64 b.0.0) (a1.0) b1.0) d1.0) refl;
    })
simple_found word.Member spot left x e =
    let a = bind_ok (number_at left) (λ x0. number_at x0.1 >>= λ x1. name_at x1.1 >>= λ x2. Ok (stmt.Member spot x0.0 x1.0 x2.0, x2.1)) x e in
    let a1 = number_found left a.0 a.1 in
    let b = bind_ok (number_at a.0.1) (λ x1. name_at x1.1 >>= λ x2. Ok (stmt.Member spot a.0.0 x1.0 x2.0, x2.1)) x a.2 in
    let b1 = number_found a.0.1 b.0 b.1 in
    let d = bind_ok (name_at b.0.1) (λ x2. Ok (stmt.Member spot a.0.0 b.0.0 x2.0, x2.1)) x b.2 in
    let d1 = name_found b.0.1 d.0 d.1 in
    subst (SimpleRead word.Member spot left) (ok_is (stmt.Member spot a.0.0 b.0.0 d.0.0, d.0.1) x d.2)
    (record {
      fields = signed_decimal a.0.0 ∷ signed_decimal b.0.0 ∷ d.0.0 ∷ [];
      entries = stmt_spelling (Stmt-F.Member spot a.0.0 b.0.0 d.0.0) (stmt.Member spot a.0.0 b.0.0 d.0.0) (stmt.rolls-Member spot a.0.0 b.0.0 d.0.0);
      read = a1.1 ∙ ap (λ (l : List (List ℕ)). signed_decimal a.0.0 ∷ l) (b1.1 ∙ ap (λ (l : List (List ℕ)). signed_decimal b.0.0 ∷ l) (d1.1));
      fits = λ room. stmt_writing (Stmt-F.Member spot a.0.0 b.0.0 d.0.0) (stmt.Member spot a.0.0 b.0.0 d.0.0) (stmt.rolls-Member spot a.0.0 b.0.0 d.0.0) room ∙ and_from (fits_64 a.0.0 && fits_64 b.0.0 && is_name d.0.0) true (and_from (fits_64 a.0.0 && fits_64 b.0.0) (is_name d.0.0) (and_from (fits_64 a.0.0) (fits_64 b.0.0) (a1.0) b1.0) d1.0) refl;
    })
simple_found word.Store spot left x e =
    let a = bind_ok (number_at left) (λ x0. number_at x0.1 >>= λ x1. picked_at x1.1 >>= λ x2. Ok (stmt.Store spot x0.0 x1.0 x2.0, x2.1)) x e in
    let a1 = number_found left a.0 a.1 in
    let b = bind_ok (number_at a.0.1) (λ x1. picked_at x1.1 >>= λ x2. Ok (stmt.Store spot a.0.0 x1.0 x2.0, x2.1)) x a.2 in
    let b1 = number_found a.0.1 b.0 b.1 in
    let d = bind_ok (picked_at b.0.1) (λ x2. Ok (stmt.Store spot a.0.0 b.0.0 x2.0, x2.1)) x b.2 in
    let d1 = picked_found b.0.1 d.0 d.1 in
    subst (SimpleRead word.Store spot left) (ok_is (stmt.Store spot a.0.0 b.0.0 d.0.0, d.0.1) x d.2)
    (record {
      fields = signed_decimal a.0.0 ∷ signed_decimal b.0.0 ∷ picked_words d.0.0;
      entries = stmt_spelling (Stmt-F.Store spot a.0.0 b.0.0 d.0.0) (stmt.Store spot a.0.0 b.0.0 d.0.0) (stmt.rolls-Store spot a.0.0 b.0.0 d.0.0);
      read = a1.1 ∙ ap (λ (l : List (List ℕ)). signed_decimal a.0.0 ∷ l) (b1.1 ∙ ap (λ (l : List (List ℕ)). signed_decimal b.0.0 ∷ l) (d1.1));
      fits = λ room. stmt_writing (Stmt-F.Store spot a.0.0 b.0.0 d.0.0) (stmt.Store spot a.0.0 b.0.0 d.0.0) (stmt.rolls-Store spot a.0.0 b.0.0 d.0.0) room ∙ and_from (fits_64 a.0.0 && fits_64 b.0.0 && picked_fits d.0.0) true (and_from (fits_64 a.0.0 && fits_64 b.0.0) (picked_fits d.0.0) (and_from (fits_64 a.0.0) (fits_64 b.0.0) (a1.0) b1.0) d1.0) refl;
    })
simple_found word.Commit spot left x e =
    let a = bind_ok (number_at left) (λ x0. Ok (stmt.Commit spot x0.0, x0.1)) x e in
    let a1 = number_found left a.0 a.1 in
    subst (SimpleRead word.Commit spot left) (ok_is (stmt.Commit spot a.0.0, a.0.1) x a.2)
    (record {
      fields = signed_decimal a.0.0 ∷ [];
      entries = stmt_spelling (Stmt-F.Commit spot a.0.0) (stmt.Commit spot a.0.0) (stmt.rolls-Commit spot a.0.0);
      read = a1.1;
      fits = λ room. stmt_writing (Stmt-F.Commit spot a.0.0) (stmt.Commit spot a.0.0) (stmt.rolls-Commit spot a.0.0) room ∙ and_from (fits_64 a.0.0) true (a1.0) refl;
    })
simple_found word.CommitBarrier spot left x e =
    let a = bind_ok (number_at left) (λ x0. Ok (stmt.CommitBarrier spot x0.0, x0.1)) x e in
    let a1 = number_found left a.0 a.1 in
    subst (SimpleRead word.CommitBarrier spot left) (ok_is (stmt.CommitBarrier spot a.0.0, a.0.1) x a.2)
    (record {
      fields = signed_decimal a.0.0 ∷ [];
      entries = stmt_spelling (Stmt-F.CommitBarrier spot a.0.0) (stmt.CommitBarrier spot a.0.0) (stmt.rolls-CommitBarrier spot a.0.0);
      read = a1.1;
      fits = λ room. stmt_writing (Stmt-F.CommitBarrier spot a.0.0) (stmt.CommitBarrier spot a.0.0) (stmt.rolls-CommitBarrier spot a.0.0) room ∙ and_from (fits_64 a.0.0) true (a1.0) refl;
    })
simple_found word.Restore spot left x e =
    let a = bind_ok (number_at left) (λ x0. number_at x0.1 >>= λ x1. expr_at x1.1 >>= λ x2. Ok (stmt.Restore spot x0.0 x1.0 x2.0, x2.1)) x e in
    let a1 = number_found left a.0 a.1 in
    let b = bind_ok (number_at a.0.1) (λ x1. expr_at x1.1 >>= λ x2. Ok (stmt.Restore spot a.0.0 x1.0 x2.0, x2.1)) x a.2 in
    let b1 = number_found a.0.1 b.0 b.1 in
    let d = bind_ok (expr_at b.0.1) (λ x2. Ok (stmt.Restore spot a.0.0 b.0.0 x2.0, x2.1)) x b.2 in
    let d1 = expr_found b.0.1 d.0 d.1 in
    subst (SimpleRead word.Restore spot left) (ok_is (stmt.Restore spot a.0.0 b.0.0 d.0.0, d.0.1) x d.2)
    (record {
      fields = signed_decimal a.0.0 ∷ signed_decimal b.0.0 ∷ expr_words d.0.0;
      entries = stmt_spelling (Stmt-F.Restore spot a.0.0 b.0.0 d.0.0) (stmt.Restore spot a.0.0 b.0.0 d.0.0) (stmt.rolls-Restore spot a.0.0 b.0.0 d.0.0);
      read = a1.1 ∙ ap (λ (l : List (List ℕ)). signed_decimal a.0.0 ∷ l) (b1.1 ∙ ap (λ (l : List (List ℕ)). signed_decimal b.0.0 ∷ l) (d1.1));
      fits = λ room. stmt_writing (Stmt-F.Restore spot a.0.0 b.0.0 d.0.0) (stmt.Restore spot a.0.0 b.0.0 d.0.0) (stmt.rolls-Restore spot a.0.0 b.0.0 d.0.0) room ∙ and_from (fits_64 a.0.0 && fits_64 b.0.0 && is_writable_expr d.0.0) true (and_from (fits_64 a.0.0 && fits_64 b.0.0) (is_writable_expr d.0.0) (and_from (fits_64 a.0.0) (fits_64 b.0.0) (a1.0) b1.0) d1.0) refl;
    })
simple_found word.Drop spot left x e =
    let a = bind_ok (number_at left) (λ x0. expr_at x0.1 >>= λ x1. Ok (stmt.Drop spot x0.0 x1.0, x1.1)) x e in
    let a1 = number_found left a.0 a.1 in
    let b = bind_ok (expr_at a.0.1) (λ x1. Ok (stmt.Drop spot a.0.0 x1.0, x1.1)) x a.2 in
    let b1 = expr_found a.0.1 b.0 b.1 in
    subst (SimpleRead word.Drop spot left) (ok_is (stmt.Drop spot a.0.0 b.0.0, b.0.1) x b.2)
    (record {
      fields = signed_decimal a.0.0 ∷ expr_words b.0.0;
      entries = stmt_spelling (Stmt-F.Drop spot a.0.0 b.0.0) (stmt.Drop spot a.0.0 b.0.0) (stmt.rolls-Drop spot a.0.0 b.0.0);
      read = a1.1 ∙ ap (λ (l : List (List ℕ)). signed_decimal a.0.0 ∷ l) (b1.1);
      fits = λ room. stmt_writing (Stmt-F.Drop spot a.0.0 b.0.0) (stmt.Drop spot a.0.0 b.0.0) (stmt.rolls-Drop spot a.0.0 b.0.0) room ∙ and_from (fits_64 a.0.0 && is_writable_expr b.0.0) true (and_from (fits_64 a.0.0) (is_writable_expr b.0.0) (a1.0) b1.0) refl;
    })

pub let_again : (spot : Spot) (array : List ℕ) (value : Expr) → is_name array && is_writable_expr value ≡ true → SimpleAgain (stmt.Let spot array value) spot
let_again spot array value fits = record {
  word = word.Let;
  fields = array ∷ expr_words value;
  entries = stmt_spelling (Stmt-F.Let spot array value) (stmt.Let spot array value) (stmt.rolls-Let spot array value);
  again = λ left e.
      let p1 = and_parts (is_name array) (is_writable_expr value) fits in
      let f0 = name_again left array (expr_words value) p1.0 e in
      let f1 = expr_again f0.left value [] p1.1 (f0.others ∙ sym (append-nil (expr_words value))) in
      record { left = f1.left; read = rw (f0.read, f1.read) refl; others = f1.others };
}

pub set_again : (spot : Spot) (counter : List ℕ) (value : Expr) → is_name counter && is_writable_expr value ≡ true → SimpleAgain (stmt.Set spot counter value) spot
set_again spot counter value fits = record {
  word = word.Set;
  fields = counter ∷ expr_words value;
  entries = stmt_spelling (Stmt-F.Set spot counter value) (stmt.Set spot counter value) (stmt.rolls-Set spot counter value);
  again = λ left e.
      let p1 = and_parts (is_name counter) (is_writable_expr value) fits in
      let f0 = name_again left counter (expr_words value) p1.0 e in
      let f1 = expr_again f0.left value [] p1.1 (f0.others ∙ sym (append-nil (expr_words value))) in
      record { left = f1.left; read = rw (f0.read, f1.read) refl; others = f1.others };
}

pub print_again : (spot : Spot) (name : List ℕ) → is_name name ≡ true → SimpleAgain (stmt.Print spot name) spot
print_again spot name fits = record {
  word = word.Print;
  fields = name ∷ [];
  entries = stmt_spelling (Stmt-F.Print spot name) (stmt.Print spot name) (stmt.rolls-Print spot name);
  again = λ left e.
      let f0 = name_again left name ([]) fits e in
      record { left = f0.left; read = rw (f0.read) refl; others = f0.others };
}

pub register_again : (spot : Spot) (name : List ℕ) → is_name name ≡ true → SimpleAgain (stmt.Register spot name) spot
register_again spot name fits = record {
  word = word.Register;
  fields = name ∷ [];
  entries = stmt_spelling (Stmt-F.Register spot name) (stmt.Register spot name) (stmt.rolls-Register spot name);
  again = λ left e.
      let f0 = name_again left name ([]) fits e in
      record { left = f0.left; read = rw (f0.read) refl; others = f0.others };
}

pub barrier_again : (spot : Spot) → SimpleAgain (stmt.Barrier spot) spot
barrier_again spot = record {
  word = word.Barrier;
  fields = [];
  entries = stmt_spelling (Stmt-F.Barrier spot) (stmt.Barrier spot) (stmt.rolls-Barrier spot);
  again = λ left e.
      record { left = left; read = refl; others = e };
}

pub sum_again : (spot : Spot) (counter : List ℕ) (array : List ℕ) → is_name counter && is_name array ≡ true → SimpleAgain (stmt.Reduce spot op.Sum counter array) spot
sum_again spot counter array fits = record {
  word = word.Sum;
  fields = counter ∷ array ∷ [];
  entries = stmt_spelling (Stmt-F.Reduce spot op.Sum counter array) (stmt.Reduce spot op.Sum counter array) (stmt.rolls-Reduce spot op.Sum counter array);
  again = λ left e.
      let p1 = and_parts (is_name counter) (is_name array) fits in
      let f0 = name_again left counter (array ∷ []) p1.0 e in
      let f1 = name_again f0.left array ([]) p1.1 f0.others in
      record { left = f1.left; read = rw (f0.read, f1.read) refl; others = f1.others };
}

pub min_again : (spot : Spot) (counter : List ℕ) (array : List ℕ) → is_name counter && is_name array ≡ true → SimpleAgain (stmt.Reduce spot op.Min counter array) spot
min_again spot counter array fits = record {
  word = word.Min;
  fields = counter ∷ array ∷ [];
  entries = stmt_spelling (Stmt-F.Reduce spot op.Min counter array) (stmt.Reduce spot op.Min counter array) (stmt.rolls-Reduce spot op.Min counter array);
  again = λ left e.
      let p1 = and_parts (is_name counter) (is_name array) fits in
      let f0 = name_again left counter (array ∷ []) p1.0 e in
      let f1 = name_again f0.left array ([]) p1.1 f0.others in
      record { left = f1.left; read = rw (f0.read, f1.read) refl; others = f1.others };
}

pub max_again : (spot : Spot) (counter : List ℕ) (array : List ℕ) → is_name counter && is_name array ≡ true → SimpleAgain (stmt.Reduce spot op.Max counter array) spot
max_again spot counter array fits = record {
  word = word.Max;
  fields = counter ∷ array ∷ [];
  entries = stmt_spelling (Stmt-F.Reduce spot op.Max counter array) (stmt.Reduce spot op.Max counter array) (stmt.rolls-Reduce spot op.Max counter array);
  again = λ left e.
      let p1 = and_parts (is_name counter) (is_name array) fits in
      let f0 = name_again left counter (array ∷ []) p1.0 e in
      let f1 = name_again f0.left array ([]) p1.1 f0.others in
      record { left = f1.left; read = rw (f0.read, f1.read) refl; others = f1.others };
}

pub agree_again : (spot : Spot) (counter : List ℕ) (array : List ℕ) (index : ℤ) → is_name counter && is_name array && fits_64 index ≡ true → SimpleAgain (stmt.Agree spot counter array index) spot
agree_again spot counter array index fits = record {
  word = word.Agree;
  fields = counter ∷ array ∷ signed_decimal index ∷ [];
  entries = stmt_spelling (Stmt-F.Agree spot counter array index) (stmt.Agree spot counter array index) (stmt.rolls-Agree spot counter array index);
  again = λ left e.
      let p2 = and_parts (is_name counter && is_name array) (fits_64 index) fits in
      let p1 = and_parts (is_name counter) (is_name array) p2.0 in
      let f0 = name_again left counter (array ∷ signed_decimal index ∷ []) p1.0 e in
      let f1 = name_again f0.left array (signed_decimal index ∷ []) p1.1 f0.others in
      let f2 = number_read_again f1.left index ([]) p2.1 f1.others in
      record { left = f2.left; read = rw (f0.read, f1.read, f2.read) refl; others = f2.others };
}

pub shift_again : (spot : Spot) (source : List ℕ) (target : List ℕ) (by : ℤ) → is_name source && is_name target && fits_64 by ≡ true → SimpleAgain (stmt.Shift spot source target by) spot
shift_again spot source target by fits = record {
  word = word.Shift;
  fields = source ∷ target ∷ signed_decimal by ∷ [];
  entries = stmt_spelling (Stmt-F.Shift spot source target by) (stmt.Shift spot source target by) (stmt.rolls-Shift spot source target by);
  again = λ left e.
      let p2 = and_parts (is_name source && is_name target) (fits_64 by) fits in
      let p1 = and_parts (is_name source) (is_name target) p2.0 in
      let f0 = name_again left source (target ∷ signed_decimal by ∷ []) p1.0 e in
      let f1 = name_again f0.left target (signed_decimal by ∷ []) p1.1 f0.others in
      let f2 = number_read_again f1.left by ([]) p2.1 f1.others in
      record { left = f2.left; read = rw (f0.read, f1.read, f2.read) refl; others = f2.others };
}

pub group_again : (spot : Spot) (group : ℤ) (start : ℤ) (depth : ℤ) → fits_64 group && fits_64 start && fits_64 depth ≡ true → SimpleAgain (stmt.Group spot group start depth) spot
group_again spot group start depth fits = record {
  word = word.Group;
  fields = signed_decimal group ∷ signed_decimal start ∷ signed_decimal depth ∷ [];
  entries = stmt_spelling (Stmt-F.Group spot group start depth) (stmt.Group spot group start depth) (stmt.rolls-Group spot group start depth);
  again = λ left e.
      let p2 = and_parts (fits_64 group && fits_64 start) (fits_64 depth) fits in
      let p1 = and_parts (fits_64 group) (fits_64 start) p2.0 in
      let f0 = number_read_again left group (signed_decimal start ∷ signed_decimal depth ∷ []) p1.0 e in
      let f1 = number_read_again f0.left start (signed_decimal depth ∷ []) p1.1 f0.others in
      let f2 = number_read_again f1.left depth ([]) p2.1 f1.others in
      record { left = f2.left; read = rw (f0.read, f1.read, f2.read) refl; others = f2.others };
}

pub member_again : (spot : Spot) (group : ℤ) (member : ℤ) (array : List ℕ) → fits_64 group && fits_64 member && is_name array ≡ true → SimpleAgain (stmt.Member spot group member array) spot
member_again spot group member array fits = record {
  word = word.Member;
  fields = signed_decimal group ∷ signed_decimal member ∷ array ∷ [];
  entries = stmt_spelling (Stmt-F.Member spot group member array) (stmt.Member spot group member array) (stmt.rolls-Member spot group member array);
  again = λ left e.
      let p2 = and_parts (fits_64 group && fits_64 member) (is_name array) fits in
      let p1 = and_parts (fits_64 group) (fits_64 member) p2.0 in
      let f0 = number_read_again left group (signed_decimal member ∷ array ∷ []) p1.0 e in
      let f1 = number_read_again f0.left member (array ∷ []) p1.1 f0.others in
      let f2 = name_again f1.left array ([]) p2.1 f1.others in
      record { left = f2.left; read = rw (f0.read, f1.read, f2.read) refl; others = f2.others };
}

pub store_again : (spot : Spot) (group : ℤ) (member : ℤ) (subset : Picked) → fits_64 group && fits_64 member && picked_fits subset ≡ true → SimpleAgain (stmt.Store spot group member subset) spot
store_again spot group member subset fits = record {
  word = word.Store;
  fields = signed_decimal group ∷ signed_decimal member ∷ picked_words subset;
  entries = stmt_spelling (Stmt-F.Store spot group member subset) (stmt.Store spot group member subset) (stmt.rolls-Store spot group member subset);
  again = λ left e.
      let p2 = and_parts (fits_64 group && fits_64 member) (picked_fits subset) fits in
      let p1 = and_parts (fits_64 group) (fits_64 member) p2.0 in
      let f0 = number_read_again left group (signed_decimal member ∷ picked_words subset) p1.0 e in
      let f1 = number_read_again f0.left member (picked_words subset) p1.1 f0.others in
      let f2 = picked_again f1.left subset p2.1 f1.others in
      record { left = f2.left; read = rw (f0.read, f1.read, f2.read) refl; others = f2.others };
}

pub commit_again : (spot : Spot) (group : ℤ) → fits_64 group ≡ true → SimpleAgain (stmt.Commit spot group) spot
commit_again spot group fits = record {
  word = word.Commit;
  fields = signed_decimal group ∷ [];
  entries = stmt_spelling (Stmt-F.Commit spot group) (stmt.Commit spot group) (stmt.rolls-Commit spot group);
  again = λ left e.
      let f0 = number_read_again left group ([]) fits e in
      record { left = f0.left; read = rw (f0.read) refl; others = f0.others };
}

pub commit_barrier_again : (spot : Spot) (group : ℤ) → fits_64 group ≡ true → SimpleAgain (stmt.CommitBarrier spot group) spot
commit_barrier_again spot group fits = record {
  word = word.CommitBarrier;
  fields = signed_decimal group ∷ [];
  entries = stmt_spelling (Stmt-F.CommitBarrier spot group) (stmt.CommitBarrier spot group) (stmt.rolls-CommitBarrier spot group);
  again = λ left e.
      let f0 = number_read_again left group ([]) fits e in
      record { left = f0.left; read = rw (f0.read) refl; others = f0.others };
}

pub restore_again : (spot : Spot) (group : ℤ) (member : ℤ) (stamp : Expr) → fits_64 group && fits_64 member && is_writable_expr stamp ≡ true → SimpleAgain (stmt.Restore spot group member stamp) spot
restore_again spot group member stamp fits = record {
  word = word.Restore;
  fields = signed_decimal group ∷ signed_decimal member ∷ expr_words stamp;
  entries = stmt_spelling (Stmt-F.Restore spot group member stamp) (stmt.Restore spot group member stamp) (stmt.rolls-Restore spot group member stamp);
  again = λ left e.
      let p2 = and_parts (fits_64 group && fits_64 member) (is_writable_expr stamp) fits in
      let p1 = and_parts (fits_64 group) (fits_64 member) p2.0 in
      let f0 = number_read_again left group (signed_decimal member ∷ expr_words stamp) p1.0 e in
      let f1 = number_read_again f0.left member (expr_words stamp) p1.1 f0.others in
      let f2 = expr_again f1.left stamp [] p2.1 (f1.others ∙ sym (append-nil (expr_words stamp))) in
      record { left = f2.left; read = rw (f0.read, f1.read, f2.read) refl; others = f2.others };
}

pub drop_again : (spot : Spot) (group : ℤ) (stamp : Expr) → fits_64 group && is_writable_expr stamp ≡ true → SimpleAgain (stmt.Drop spot group stamp) spot
drop_again spot group stamp fits = record {
  word = word.Drop;
  fields = signed_decimal group ∷ expr_words stamp;
  entries = stmt_spelling (Stmt-F.Drop spot group stamp) (stmt.Drop spot group stamp) (stmt.rolls-Drop spot group stamp);
  again = λ left e.
      let p1 = and_parts (fits_64 group) (is_writable_expr stamp) fits in
      let f0 = number_read_again left group (expr_words stamp) p1.0 e in
      let f1 = expr_again f0.left stamp [] p1.1 (f0.others ∙ sym (append-nil (expr_words stamp))) in
      record { left = f1.left; read = rw (f0.read, f1.read) refl; others = f1.others };
}
