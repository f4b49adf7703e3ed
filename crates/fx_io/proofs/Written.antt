-- One piece after another: a text is written by a sink in pieces, each a call of its own.
use Rattle.std.proofs.Common.{◌≡◌, ℕ, ◌≤◌, List, [], ◌++◌, Option, Some, None, Result, Ok, Err, sym, subst, ◌∙◌, append_assoc, inl, inr, arith}
use Rattle.std.proofs.lemmas.List.{append-nil}
use Rattle.fx_io.specs.States.{SinkState}
use Rattle.fx_io.specs.Told.{Gains}
use Rattle.fx_io.specs.Faults.{Rose}
use Rattle.fx_io.specs.Writing.{Puts}
use Rattle.fx_io.proofs.Joined.{gains_more}
use Rattle.fx_io.specs.declared.whole.PutEnd.{PutEnd}

-- a front of the whole was written, and the rest is left
pub record SoFar (old new : SinkState) (whole rest : List ℕ) : Type 0 where
  pub before : List ℕ
  pub split : whole ≡ before ++ rest
  pub added : Gains old.written new.written before
  pub counts : old.faults ≤ new.faults

gains_none : (a : Option (List ℕ)) → Gains a a []
gains_none None = tt
gains_none (Some l) = sym (append-nil l)

-- nothing is written yet
pub begins : {a : SinkState} {whole rest : List ℕ} → whole ≡ rest → SoFar a a whole rest
begins {a} e = record { before = []; split = e; added = gains_none a.written; counts = omega arith }

-- nothing to write
pub puts_nothing : {a : SinkState} → Puts a a [] (Ok tt)
puts_nothing {a} = record { content = gains_none a.written; count_never_falls = omega arith; failed_only_if_count_rose = λ e. absurd cc }

-- a piece was written whole
pub goes_on : {a b c : SinkState} {whole line rest : List ℕ} → SoFar a b whole (line ++ rest) → Puts b c line (Ok tt) → SoFar a c whole rest
goes_on {a} {b} {c} {whole} {line} {rest} so p = record {
  before = so.before ++ line;
  split = so.split ∙ sym (append_assoc so.before line rest);
  added = gains_more a.written b.written c.written so.before line so.added p.content;
  counts = omega (arith, so.counts, p.count_never_falls);
}

-- a count that doesn't fall and then rises rises
rose_later : (f g h : ℕ) → f ≤ g → Rose g h → Rose f h
rose_later f g h le rose = elim rose as (λ _. Rose f h) [ inl lt ↦ inl (omega (arith, lt, le)) | inr e ↦ inr e ]

-- a piece was cut short
pub is_cut : {a b c : SinkState} {whole line : List ℕ} (rest : List ℕ) (e : PutEnd) → SoFar a b whole (line ++ rest) → Puts b c line (Err e) → Puts a c whole (Err e)
is_cut {a} {b} {c} {whole} {line} rest e so p = record {
  content = (
    so.before ++ p.content.0,
    p.content.1 ++ rest,
    so.split ∙ rw p.content.2 (simp append_assoc),
    gains_more a.written b.written c.written so.before p.content.0 so.added p.content.3,
  );
  count_never_falls = omega (arith, so.counts, p.count_never_falls);
  failed_only_if_count_rose = λ is. rose_later a.faults b.faults c.faults so.counts (p.failed_only_if_count_rose is);
}

-- all was written
pub is_done : {a b : SinkState} {whole : List ℕ} → SoFar a b whole [] → Puts a b whole (Ok tt)
is_done {a} {b} so = record {
  content = subst (λ (l : List ℕ). Gains a.written b.written l) (sym (so.split ∙ append-nil so.before)) so.added;
  count_never_falls = so.counts;
  failed_only_if_count_rose = λ e. absurd cc;
}

-- the last piece, whatever comes of it
pub ends_with : {a b c : SinkState} {whole line : List ℕ} (r : Result (Unit {0}) PutEnd) → SoFar a b whole line → Puts b c line r → Puts a c whole r
ends_with {a} {b} {c} {whole} {line} r so p =
    let more : SoFar a b whole (line ++ []) = subst (λ (l : List ℕ). SoFar a b whole l) (sym (append-nil line)) so in
    elim r as (λ r'. Puts b c line r' → Puts a c whole r') [ Ok done ↦ λ q. is_done (goes_on more q) | Err e ↦ λ q. is_cut [] e more q ] p
