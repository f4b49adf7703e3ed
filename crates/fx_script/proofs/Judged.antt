-- What a refusal at a word rests on: the words in front and the word itself; and how the words in front go on.
use Rattle.std.proofs.Common.{◌≡◌, ℕ, true, ◌⊎◌, inl, inr, List, [], ◌∷◌, ◌++◌, map, Result, Ok, Err, refl, sym, ap, subst, ◌∙◌, append_assoc}
use Rattle.std.specs.List.{list_all}
use Rattle.std.proofs.lemmas.Bool.{and_from}
use Rattle.std.proofs.lemmas.List.Folds.{list_all-append}
use Rattle.fx_text.specs.Words.{Word}
use Rattle.fx_script.specs.declared.refusal.Wrong.{Wrong}
use Rattle.fx_script.specs.Left.{Left}
use Rattle.fx_script.specs.Outcome.{◌>>=◌}
use Rattle.fx_script.specs.Fields.{misfit, end_at}
use Rattle.fx_script.specs.Spelling.{bytes_of}
use Rattle.fx_script.proofs.CanonLines.{is_word}
use Rattle.fx_script.proofs.FieldLemmas.{bind_ok, ok_is}

-- ---- readings

pub bind_err : {A B : Type 0} (r : Result A Wrong) (f : A → Result B Wrong) (w : Wrong) → (r >>= f) ≡ Err w → (r ≡ Err w) ⊎ ((x : A) × (r ≡ Ok x) × (f x ≡ Err w))
bind_err (Ok x) f w e = inr (x, refl, e)
bind_err {B = B} (Err v) f w e = let s : v ≡ w = cc in inl (ap (λ (w : Wrong). Err w) s)

abbrev pub refused_as : {A : Type 0} → Wrong → Result A Wrong
refused_as w = Err w

pub err_is : {A : Type 0} (v w : Wrong) → refused_as {A = A} v ≡ refused_as {A = A} w → v ≡ w
err_is v w e = cc

abbrev pub words_left : List Word → ℕ → Left
words_left ws past = record { words = ws; past = past }

-- words whose texts are two lists, one behind the other
pub record InTwo (ws : List Word) (one two : List (List ℕ)) : Type 0 where
  pub front : List Word
  pub back : List Word
  pub words : ws ≡ front ++ back
  pub first : map bytes_of front ≡ one
  pub second : map bytes_of back ≡ two

pub in_two : (ws : List Word) (one two : List (List ℕ)) → map bytes_of ws ≡ one ++ two → InTwo ws one two
in_two ws [] two e = record { front = []; back = ws; words = refl; first = refl; second = e }
in_two [] (t ∷ ts) two e = absurd cc
in_two (w ∷ ws) (t ∷ ts) two e =
    let same : w.bytes ≡ t = cc in
    let rest : map bytes_of ws ≡ ts ++ two = cc in
    let i = in_two ws ts two rest in
    record { front = w ∷ i.front; back = i.back; words = ap (λ (l : List Word). w ∷ l) i.words; first = rw (same, i.first) refl; second = i.second }

-- ---- readers that other words may follow

-- with these words more the reader has read something, and other words may stand behind
pub record GoesOn {X : Type 0} (r : Left → Result (X × Left) Wrong) (read : List Word) : Type 0 where
  pub more : List (List ℕ)
  pub good : list_all is_word more ≡ true
  pub value : X
  pub goes : (ws behind : List Word) (past : ℕ) → map bytes_of ws ≡ more → r (words_left (read ++ (ws ++ behind)) past) ≡ Ok (value, words_left behind past)

-- what was read rests on the words that were used alone
pub record Went {X : Type 0} (r : Left → Result (X × Left) Wrong) (ws : List Word) (past : ℕ) (x : X × Left) : Type 0 where
  pub used : List Word
  pub words : ws ≡ used ++ x.1.words
  pub past_is : x.1.past ≡ past
  pub again : (behind : List Word) (p : ℕ) → r (words_left (used ++ behind) p) ≡ Ok (x.0, words_left behind p)

-- a refusal at a word rests on it and the words in front alone
pub record AtWord {Y : Type 0} (r : Left → Result Y Wrong) (ws : List Word) (w : Wrong) (read : List Word) : Type 0 where
  pub bad : Word
  pub behind : List Word
  pub words : ws ≡ read ++ bad ∷ behind
  pub column : w.column ≡ bad.column
  pub again : (others : List Word) (p : ℕ) → r (words_left (read ++ bad ∷ others) p) ≡ Err w

-- a refusal where a word is missing
pub record AtEnd (ws : List Word) (past : ℕ) (w : Wrong) (read : List Word) : Type 0 where
  pub words : ws ≡ read
  pub column : w.column ≡ past

pub record Stopped {X : Type 0} (r : Left → Result (X × Left) Wrong) (ws : List Word) (past : ℕ) (w : Wrong) : Type 0 where
  pub read : List Word
  pub at : AtWord r ws w read ⊎ AtEnd ws past w read
  pub goes_on : GoesOn r read

pub record Judged {X : Type 0} (r : Left → Result (X × Left) Wrong) : Type 0 where
  pub went : (ws : List Word) (past : ℕ) (x : X × Left) → r (words_left ws past) ≡ Ok x → Went r ws past x
  pub stopped : (ws : List Word) (past : ℕ) (w : Wrong) → r (words_left ws past) ≡ Err w → Stopped r ws past w
  pub can : GoesOn r []

abbrev pub read_so : {X : Type 0} → X → Left → Result (X × Left) Wrong
read_so x left = Ok (x, left)

goes_nothing : {X : Type 0} (k : X) (ws behind : List Word) (past : ℕ) → map bytes_of ws ≡ [] → read_so k (words_left (ws ++ behind) past) ≡ read_so k (words_left behind past)
goes_nothing k [] behind past e = refl
goes_nothing k (w ∷ ws) behind past e = absurd cc

-- nothing is read
pub nothing : {X : Type 0} (k : X) → Judged (λ left. Ok (k, left))
nothing {X = X} k = record {
  went = λ ws past x e. subst (λ (y : X × Left). Went (λ left. Ok (k, left)) ws past y) (ok_is (k, words_left ws past) x e)
      (record { used = []; words = refl; past_is = refl; again = λ behind p. refl });
  stopped = λ ws past w e. absurd cc;
  can = record { more = []; good = refl; value = k; goes = goes_nothing k };
}

-- ---- one reader behind another

abbrev pub then_read : {X Y : Type 0} → (Left → Result (X × Left) Wrong) → (X → Left → Result Y Wrong) → Left → Result Y Wrong
then_read r s left = r left >>= λ x. s x.0 x.1

then_went : {X Y : Type 0} (r : Left → Result (X × Left) Wrong) (s : X → Left → Result (Y × Left) Wrong) (ws : List Word) (past : ℕ) (x : X × Left) (y : Y × Left)
    → Went r ws past x → Went (s x.0) x.1.words x.1.past y → Went (then_read r s) ws past y
then_went r s ws past x y one two = record {
  used = one.used ++ two.used;
  words = one.words ∙ ap (λ (l : List Word). one.used ++ l) two.words ∙ sym (append_assoc one.used two.used y.1.words);
  past_is = two.past_is ∙ one.past_is;
  again = λ behind p. rw (append_assoc one.used two.used behind, one.again (two.used ++ behind) p) (two.again behind p);
}

then_goes : {X Y : Type 0} (r : Left → Result (X × Left) Wrong) (s : X → Left → Result (Y × Left) Wrong) (read : List Word) → (one : GoesOn r read) → GoesOn (s one.value) [] → GoesOn (then_read r s) read
then_goes r s read one two = record {
  more = one.more ++ two.more;
  good = list_all-append is_word one.more two.more ∙ and_from (list_all is_word one.more) (list_all is_word two.more) one.good two.good;
  value = two.value;
  goes = λ ws behind past e.
      let i = in_two ws one.more two.more e in
      rw (i.words, append_assoc i.front i.back behind, one.goes i.front (i.back ++ behind) past i.first) (two.goes i.back behind past i.second);
}

-- the first reader was refused
first_stopped : {X Y : Type 0} (r : Left → Result (X × Left) Wrong) (s : X → Left → Result (Y × Left) Wrong) (ws : List Word) (past : ℕ) (w : Wrong)
    → Stopped r ws past w → ((x : X) → GoesOn (s x) []) → Stopped (then_read r s) ws past w
first_stopped r s ws past w one can = record {
  read = one.read;
  at = elim one.at [
    | inl a ↦ inl (record { bad = a.bad; behind = a.behind; words = a.words; column = a.column; again = λ others p. rw (a.again others p) refl })
    | inr a ↦ inr a
  ];
  goes_on = then_goes r s one.read one.goes_on (can one.goes_on.value);
}

-- the second was
second_stopped : {X Y : Type 0} (r : Left → Result (X × Left) Wrong) (s : X → Left → Result (Y × Left) Wrong) (ws : List Word) (past : ℕ) (x : X × Left) (w : Wrong)
    → Went r ws past x → Stopped (s x.0) x.1.words x.1.past w → Stopped (then_read r s) ws past w
second_stopped r s ws past x w one two = record {
  read = one.used ++ two.read;
  at = elim two.at [
    | inl a ↦ inl (record {
      bad = a.bad;
      behind = a.behind;
      words = one.words ∙ ap (λ (l : List Word). one.used ++ l) a.words ∙ sym (append_assoc one.used two.read (a.bad ∷ a.behind));
      column = a.column;
      again = λ others p. rw (append_assoc one.used two.read (a.bad ∷ others), one.again (two.read ++ a.bad ∷ others) p) (a.again others p);
    })
    | inr a ↦ inr (record { words = one.words ∙ ap (λ (l : List Word). one.used ++ l) a.words; column = a.column ∙ one.past_is })
  ];
  goes_on = record {
    more = two.goes_on.more;
    good = two.goes_on.good;
    value = two.goes_on.value;
    goes = λ ws behind past e. rw (append_assoc one.used two.read (ws ++ behind), one.again (two.read ++ (ws ++ behind)) past) (two.goes_on.goes ws behind past e);
  };
}

pub both : {X Y : Type 0} (r : Left → Result (X × Left) Wrong) (s : X → Left → Result (Y × Left) Wrong) → Judged r → ((x : X) → Judged (s x)) → Judged (then_read r s)
both r s one two = record {
  went = λ ws past y e.
      let b = bind_ok (r (words_left ws past)) (λ x. s x.0 x.1) y e in
      then_went r s ws past b.0 y (one.went ws past b.0 b.1) ((two b.0.0).went b.0.1.words b.0.1.past y b.2);
  stopped = λ ws past w e. elim (bind_err (r (words_left ws past)) (λ x. s x.0 x.1) w e) [
    | inl b ↦ first_stopped r s ws past w (one.stopped ws past w b) (λ x. (two x).can)
    | inr b ↦ second_stopped r s ws past b.0 w (one.went ws past b.0 b.1) ((two b.0.0).stopped b.0.1.words b.0.1.past w b.2)
  ];
  can = then_goes r s [] one.can (two one.can.value).can;
}

-- ---- readers of whole lines

-- with these words more the line is read
pub record LineGoesOn {Y : Type 0} (r : Left → Result Y Wrong) (read : List Word) : Type 0 where
  pub more : List (List ℕ)
  pub good : list_all is_word more ≡ true
  pub value : Y
  pub goes : (ws : List Word) (past : ℕ) → map bytes_of ws ≡ more → r (words_left (read ++ ws) past) ≡ Ok value

pub record LineStopped {Y : Type 0} (r : Left → Result Y Wrong) (ws : List Word) (past : ℕ) (w : Wrong) : Type 0 where
  pub read : List Word
  pub at : AtWord r ws w read ⊎ AtEnd ws past w read
  pub goes_on : LineGoesOn r read

pub record LineJudged {Y : Type 0} (r : Left → Result Y Wrong) : Type 0 where
  pub stopped : (ws : List Word) (past : ℕ) (w : Wrong) → r (words_left ws past) ≡ Err w → LineStopped r ws past w
  pub can : LineGoesOn r []

-- a reader that does the same
pub line_same : {Y : Type 0} (r s : Left → Result Y Wrong) → ((left : Left) → s left ≡ r left) → LineJudged r → LineJudged s
line_same r s same j = record {
  stopped = λ ws past w e.
      let l = j.stopped ws past w (sym (same (words_left ws past)) ∙ e) in
      record {
        read = l.read;
        at = elim l.at [
          | inl a ↦ inl (record { bad = a.bad; behind = a.behind; words = a.words; column = a.column; again = λ others p. same (words_left (l.read ++ a.bad ∷ others) p) ∙ a.again others p })
          | inr a ↦ inr a
        ];
        goes_on = record { more = l.goes_on.more; good = l.goes_on.good; value = l.goes_on.value; goes = λ ws past e. same (words_left (l.read ++ ws) past) ∙ l.goes_on.goes ws past e };
      };
  can = record { more = j.can.more; good = j.can.good; value = j.can.value; goes = λ ws past e. same (words_left ws past) ∙ j.can.goes ws past e };
}

line_then_goes : {X Y : Type 0} (r : Left → Result (X × Left) Wrong) (s : X → Left → Result Y Wrong) (read : List Word) → (one : GoesOn r read) → LineGoesOn (s one.value) [] → LineGoesOn (then_read r s) read
line_then_goes r s read one two = record {
  more = one.more ++ two.more;
  good = list_all-append is_word one.more two.more ∙ and_from (list_all is_word one.more) (list_all is_word two.more) one.good two.good;
  value = two.value;
  goes = λ ws past e.
      let i = in_two ws one.more two.more e in
      rw (i.words, one.goes i.front i.back past i.first) (two.goes i.back past i.second);
}

line_first : {X Y : Type 0} (r : Left → Result (X × Left) Wrong) (s : X → Left → Result Y Wrong) (ws : List Word) (past : ℕ) (w : Wrong)
    → Stopped r ws past w → ((x : X) → LineGoesOn (s x) []) → LineStopped (then_read r s) ws past w
line_first r s ws past w one can = record {
  read = one.read;
  at = elim one.at [
    | inl a ↦ inl (record { bad = a.bad; behind = a.behind; words = a.words; column = a.column; again = λ others p. rw (a.again others p) refl })
    | inr a ↦ inr a
  ];
  goes_on = line_then_goes r s one.read one.goes_on (can one.goes_on.value);
}

line_second : {X Y : Type 0} (r : Left → Result (X × Left) Wrong) (s : X → Left → Result Y Wrong) (ws : List Word) (past : ℕ) (x : X × Left) (w : Wrong)
    → Went r ws past x → LineStopped (s x.0) x.1.words x.1.past w → LineStopped (then_read r s) ws past w
line_second r s ws past x w one two = record {
  read = one.used ++ two.read;
  at = elim two.at [
    | inl a ↦ inl (record {
      bad = a.bad;
      behind = a.behind;
      words = one.words ∙ ap (λ (l : List Word). one.used ++ l) a.words ∙ sym (append_assoc one.used two.read (a.bad ∷ a.behind));
      column = a.column;
      again = λ others p. rw (append_assoc one.used two.read (a.bad ∷ others), one.again (two.read ++ a.bad ∷ others) p) (a.again others p);
    })
    | inr a ↦ inr (record { words = one.words ∙ ap (λ (l : List Word). one.used ++ l) a.words; column = a.column ∙ one.past_is })
  ];
  goes_on = record {
    more = two.goes_on.more;
    good = two.goes_on.good;
    value = two.goes_on.value;
    goes = λ ws past e. rw (append_assoc one.used two.read ws, one.again (two.read ++ ws) past) (two.goes_on.goes ws past e);
  };
}

pub line_both : {X Y : Type 0} (r : Left → Result (X × Left) Wrong) (s : X → Left → Result Y Wrong) → Judged r → ((x : X) → LineJudged (s x)) → LineJudged (then_read r s)
line_both r s one two = record {
  stopped = λ ws past w e. elim (bind_err (r (words_left ws past)) (λ x. s x.0 x.1) w e) [
    | inl b ↦ line_first r s ws past w (one.stopped ws past w b) (λ x. (two x).can)
    | inr b ↦ line_second r s ws past b.0 w (one.went ws past b.0 b.1) ((two b.0.0).stopped b.0.1.words b.0.1.past w b.2)
  ];
  can = line_then_goes r s [] one.can (two one.can.value).can;
}

-- nothing may stand behind
abbrev pub at_the_end : {X : Type 0} → X → Left → Result X Wrong
at_the_end x left = end_at left >>= λ end. Ok x

ends_goes : {X : Type 0} (x : X) (ws : List Word) (past : ℕ) → map bytes_of ws ≡ [] → at_the_end x (words_left ws past) ≡ Ok x
ends_goes x [] past e = refl
ends_goes x (w ∷ ws) past e = absurd cc

ends_on : {X : Type 0} (x : X) → LineGoesOn (at_the_end x) []
ends_on x = record { more = []; good = refl; value = x; goes = ends_goes x }

ends_stopped : {X : Type 0} (x : X) (ws : List Word) (past : ℕ) (w : Wrong) → at_the_end x (words_left ws past) ≡ Err w → LineStopped (at_the_end x) ws past w
ends_stopped x [] past w e = absurd cc
ends_stopped {X = X} x (bad ∷ ws) past w e =
    let s : misfit bad ≡ w = err_is {A = X} (misfit bad) w e in
    record {
      read = [];
      at = inl (record { bad = bad; behind = ws; words = refl; column = ap (λ (v : Wrong). v.column) (sym s); again = λ others p. ap (λ (v : Wrong). Err v) s });
      goes_on = ends_on x;
    }

pub ends : {X : Type 0} (x : X) → LineJudged (at_the_end x)
ends x = record { stopped = ends_stopped x; can = ends_on x }

pub to_the_end : {X : Type 0} (r : Left → Result (X × Left) Wrong) → Judged r → LineJudged (then_read r at_the_end)
to_the_end r j = line_both r at_the_end j ends
