-- A field that was read is spelled by its words, and words that spell a field are read as it.
use Rattle.std.proofs.Common.{◌≡◌, ℕ, zero, suc, ◌+◌, ◌≤◌, Bool, true, false, cond, eqb, ◌&&◌, ◌⊎◌, List, [], ◌∷◌, ◌++◌, length, Result, Ok, Err, refl, sym, ap, subst, ◌∙◌, append_assoc, length-append, arith, inl, inr}
use Rattle.std.specs.Prelude.{ℤ, map, codes}
use Rattle.std.specs.List.{list_all}
use Rattle.std.specs.Fmt.{signed_decimal}
use Rattle.std.specs.Str.{bytes_eq}
use Rattle.std.proofs.lemmas.Bool.{cases_Bool, and_from, and_parts, eqb-true, eq-eqb, ne_eqb}
use Rattle.std.proofs.lemmas.List.{append-nil, nil_from_length}
use Rattle.std.proofs.lemmas.List.Folds.{list_all-append}
use Rattle.std.proofs.lemmas.Slice.Eq.{bytes_eq-Decides}
use Rattle.fx_text.specs.declared.number.NumberFault.{NumberFault}
use Rattle.fx_text.specs.Numbers.{fits_64, number_in}
use Rattle.fx_text.specs.Words.{Word}
use Rattle.fx_text.proofs.NumberLemmas.{number_again, number_spelled, number_fits}
use Rattle.fx_base.specs.declared.names.Role.{Role}
use Rattle.fx_base.specs.declared.names.Role.TheVariants as role
use Rattle.fx_script.specs.declared.job.Test.{Test}
use Rattle.fx_script.specs.declared.job.Test.TheVariants as test
use Rattle.fx_script.specs.declared.refusal.Wrong.{Wrong}
use Rattle.fx_script.specs.Left.{Left}
use Rattle.fx_script.specs.Outcome.{◌>>=◌}
use Rattle.fx_text.specs.Names.{is_name}
use Rattle.fx_script.specs.Fields.{misfit, fixed_at, name_at, number_or, number_in_word, number_at, role_at, test_at, pair_at, pairs_from, none_of, end_at}
use Rattle.fx_script.specs.Spelling.{bytes_of, role_text, test_text, pair_fits, pairs_words}

-- the value of a reading that went well
pub bind_ok : {A B : Type 0} (r : Result A Wrong) (f : A → Result B Wrong) (y : B) → (r >>= f) ≡ Ok y → (x : A) × (r ≡ Ok x) × (f x ≡ Ok y)
bind_ok (Ok x) f y e = (x, refl, e)
bind_ok (Err w) f y e = absurd cc

-- words and the texts that they are
abbrev pub texts : Left → List (List ℕ)
texts left = map bytes_of left.words

-- the words behind the first
pub record Behind {X : Type 0} (reading : Result (X × Left) Wrong) (x : X) (rest : List (List ℕ)) : Type 0 where
  pub left : Left
  pub read : reading ≡ Ok (x, left)
  pub others : texts left ≡ rest

name_again_of : (ws : List Word) (past : ℕ) (name : List ℕ) (rest : List (List ℕ)) → is_name name ≡ true → map bytes_of ws ≡ name ∷ rest
    → Behind (name_at (record { words = ws; past = past })) name rest
name_again_of [] past name rest is e = absurd cc
name_again_of (w ∷ ws) past name rest is e =
    let same : w.bytes ≡ name = cc in
    let others : map bytes_of ws ≡ rest = cc in
    record { left = record { words = ws; past = past }; read = rw (same, is) refl; others = others }

pub name_again : (left : Left) (name : List ℕ) (rest : List (List ℕ)) → is_name name ≡ true → texts left ≡ name ∷ rest → Behind (name_at left) name rest
name_again left name rest is e = name_again_of left.words left.past name rest is e

number_again_of : (ws : List Word) (past : ℕ) (n : ℤ) (rest : List (List ℕ)) → fits_64 n ≡ true → map bytes_of ws ≡ signed_decimal n ∷ rest
    → Behind (number_at (record { words = ws; past = past })) n rest
number_again_of [] past n rest fits e = absurd cc
number_again_of (w ∷ ws) past n rest fits e =
    let same : w.bytes ≡ signed_decimal n = cc in
    let others : map bytes_of ws ≡ rest = cc in
    record { left = record { words = ws; past = past }; read = rw (same, number_again n fits) refl; others = others }

pub number_read_again : (left : Left) (n : ℤ) (rest : List (List ℕ)) → fits_64 n ≡ true → texts left ≡ signed_decimal n ∷ rest → Behind (number_at left) n rest
number_read_again left n rest fits e = number_again_of left.words left.past n rest fits e

fixed_again_of : (ws : List Word) (past : ℕ) (text : List ℕ) (rest : List (List ℕ)) → bytes_eq text text ≡ true → map bytes_of ws ≡ text ∷ rest
    → Behind (fixed_at text (record { words = ws; past = past })) tt rest
fixed_again_of [] past text rest is e = absurd cc
fixed_again_of (w ∷ ws) past text rest is e =
    let same : w.bytes ≡ text = cc in
    let others : map bytes_of ws ≡ rest = cc in
    record { left = record { words = ws; past = past }; read = rw (same, is) refl; others = others }

pub fixed_again : (left : Left) (text : List ℕ) (rest : List (List ℕ)) → bytes_eq text text ≡ true → texts left ≡ text ∷ rest → Behind (fixed_at text left) tt rest
fixed_again left text rest is e = fixed_again_of left.words left.past text rest is e

end_again_of : (ws : List Word) → map bytes_of ws ≡ [] → none_of ws ≡ Ok tt
end_again_of [] e = refl
end_again_of (w ∷ ws) e = absurd cc

pub end_again : (left : Left) → texts left ≡ [] → end_at left ≡ Ok tt
end_again left e = end_again_of left.words e

-- ---- what was read is spelled so

-- what a reading gave, out of its answer
abbrev ok_of : {A : Type 0} → A → Result A Wrong
ok_of x = Ok x

abbrev ok_number : ℤ → Result ℤ NumberFault
ok_number n = Ok n

pub ok_is : {A : Type 0} (x y : A) → ok_of x ≡ ok_of y → x ≡ y
ok_is x y e = cc

-- a field that was read is a name, and its words stand in front of those that are left
pub name_found_of : (ws : List Word) (past : ℕ) (x : List ℕ × Left) → name_at (record { words = ws; past = past }) ≡ Ok x
    → (is_name x.0 ≡ true) × (map bytes_of ws ≡ x.0 ∷ texts x.1)
name_found_of [] past x e = absurd cc
name_found_of (w ∷ ws) past x e = elim (cases_Bool (is_name w.bytes)) [
  | inl t ↦
      let s : (w.bytes, record { words = ws; past = past }) ≡ x = ok_is (w.bytes, record { words = ws; past = past }) x (rw t at e) in
      subst (λ (y : List ℕ × Left). (is_name y.0 ≡ true) × (w.bytes ∷ map bytes_of ws ≡ y.0 ∷ texts y.1)) s (t, refl)
  | inr f ↦ let s : Err (misfit w) ≡ Ok x = rw f at e in absurd cc
]

pub name_found : (left : Left) (x : List ℕ × Left) → name_at left ≡ Ok x → (is_name x.0 ≡ true) × (texts left ≡ x.0 ∷ texts x.1)
name_found left x e = name_found_of left.words left.past x e

-- a number that was read fits, and its word spells it
number_word_found_by : (w : Word) (r : Result ℤ NumberFault) (n : ℤ) → number_in w.bytes ≡ r → number_or w r ≡ Ok n → (fits_64 n ≡ true) × (w.bytes ≡ signed_decimal n)
number_word_found_by w (Ok m) n e g =
    let s : m ≡ n = ok_is m n g in
    (number_fits w.bytes n (e ∙ ap ok_number s), number_spelled w.bytes n (e ∙ ap ok_number s))
number_word_found_by w (Err f) n e g = absurd cc

pub number_word_found : (w : Word) (n : ℤ) → number_in_word w ≡ Ok n → (fits_64 n ≡ true) × (w.bytes ≡ signed_decimal n)
number_word_found w n e = number_word_found_by w (number_in w.bytes) n refl e

pub number_found_of : (ws : List Word) (past : ℕ) (x : ℤ × Left) → number_at (record { words = ws; past = past }) ≡ Ok x
    → (fits_64 x.0 ≡ true) × (map bytes_of ws ≡ signed_decimal x.0 ∷ texts x.1)
number_found_of [] past x e = absurd cc
number_found_of (w ∷ ws) past x e =
    let a = bind_ok (number_in_word w) (λ n. Ok (n, record { words = ws; past = past })) x e in
    let f = number_word_found w a.0 a.1 in
    let s : (a.0, record { words = ws; past = past }) ≡ x = ok_is (a.0, record { words = ws; past = past }) x a.2 in
    subst (λ (y : ℤ × Left). (fits_64 y.0 ≡ true) × (w.bytes ∷ map bytes_of ws ≡ signed_decimal y.0 ∷ texts y.1)) s (f.0, ap (λ (t : List ℕ). t ∷ map bytes_of ws) f.1)

pub number_found : (left : Left) (x : ℤ × Left) → number_at left ≡ Ok x → (fits_64 x.0 ≡ true) × (texts left ≡ signed_decimal x.0 ∷ texts x.1)
number_found left x e = number_found_of left.words left.past x e

-- a fixed word that was read
pub fixed_found_of : (ws : List Word) (past : ℕ) (text : List ℕ) (x : Unit {0} × Left) → fixed_at text (record { words = ws; past = past }) ≡ Ok x → map bytes_of ws ≡ text ∷ texts x.1
fixed_found_of [] past text x e = absurd cc
fixed_found_of (w ∷ ws) past text x e = elim (cases_Bool (bytes_eq w.bytes text)) [
  | inl t ↦
      let s : (tt, record { words = ws; past = past }) ≡ x = ok_is (tt, record { words = ws; past = past }) x (rw t at e) in
      subst (λ (y : Unit {0} × Left). w.bytes ∷ map bytes_of ws ≡ text ∷ texts y.1) s (rw ((bytes_eq-Decides w.bytes text).0 t) refl)
  | inr f ↦ let s : Err (misfit w) ≡ Ok x = rw f at e in absurd cc
]

pub fixed_found : (left : Left) (text : List ℕ) (x : Unit {0} × Left) → fixed_at text left ≡ Ok x → texts left ≡ text ∷ texts x.1
fixed_found left text x e = fixed_found_of left.words left.past text x e

end_found_of : (ws : List Word) (u : Unit {0}) → none_of ws ≡ Ok u → map bytes_of ws ≡ []
end_found_of [] u e = refl
end_found_of (w ∷ ws) u e = absurd cc

pub end_found : (left : Left) (u : Unit {0}) → end_at left ≡ Ok u → texts left ≡ []
end_found left u e = end_found_of left.words u e

-- ---- roles, tests, pairs and subsets

role_again_of : (ws : List Word) (past : ℕ) (r : Role) (rest : List (List ℕ)) → map bytes_of ws ≡ role_text r ∷ rest → Behind (role_at (record { words = ws; past = past })) r rest
role_again_of [] past r rest e = absurd cc
role_again_of (w ∷ ws) past role.Initial rest e =
    let same : w.bytes ≡ codes "initial" = cc in
    record { left = record { words = ws; past = past }; read = rw same refl; others = cc }
role_again_of (w ∷ ws) past role.Survivor rest e =
    let same : w.bytes ≡ codes "survivor" = cc in
    record { left = record { words = ws; past = past }; read = rw same refl; others = cc }
role_again_of (w ∷ ws) past role.Recovered rest e =
    let same : w.bytes ≡ codes "recovered" = cc in
    record { left = record { words = ws; past = past }; read = rw same refl; others = cc }

pub role_again : (left : Left) (r : Role) (rest : List (List ℕ)) → texts left ≡ role_text r ∷ rest → Behind (role_at left) r rest
role_again left r rest e = role_again_of left.words left.past r rest e

test_again_of : (ws : List Word) (past : ℕ) (t : Test) (rest : List (List ℕ)) → map bytes_of ws ≡ test_text t ∷ rest → Behind (test_at (record { words = ws; past = past })) t rest
test_again_of [] past t rest e = absurd cc
test_again_of (w ∷ ws) past test.Lt rest e =
    let same : w.bytes ≡ codes "lt" = cc in
    record { left = record { words = ws; past = past }; read = rw same refl; others = cc }
test_again_of (w ∷ ws) past test.Le rest e =
    let same : w.bytes ≡ codes "le" = cc in
    record { left = record { words = ws; past = past }; read = rw same refl; others = cc }
test_again_of (w ∷ ws) past test.Eq rest e =
    let same : w.bytes ≡ codes "eq" = cc in
    record { left = record { words = ws; past = past }; read = rw same refl; others = cc }

pub test_again : (left : Left) (t : Test) (rest : List (List ℕ)) → texts left ≡ test_text t ∷ rest → Behind (test_at left) t rest
test_again left t rest e = test_again_of left.words left.past t rest e

-- one of a chain of tests held
pub chosen : {A : Type 0} (b : Bool) (x y z : A) → cond b x y ≡ z → ((b ≡ true) × (x ≡ z)) ⊎ ((b ≡ false) × (y ≡ z))
chosen true x y z e = inl (refl, e)
chosen false x y z e = inr (refl, e)

-- a word that is this text
pub is_text : (word text : List ℕ) → bytes_eq word text ≡ true → word ≡ text
is_text word text t = (bytes_eq-Decides word text).0 t

-- a reading of a fixed word in front of the words that are left
pub front : (w : Word) (ws : List Word) (past : ℕ) (text : List ℕ) → bytes_eq w.bytes text ≡ true → map bytes_of (w ∷ ws) ≡ text ∷ texts (record { words = ws; past = past })
front w ws past text t = ap (λ (b : List ℕ). b ∷ map bytes_of ws) (is_text w.bytes text t)

role_found_of : (ws : List Word) (past : ℕ) (x : Role × Left) → role_at (record { words = ws; past = past }) ≡ Ok x → map bytes_of ws ≡ role_text x.0 ∷ texts x.1
role_found_of [] past x e = absurd cc
role_found_of (w ∷ ws) past x e =
    let left : Left = record { words = ws; past = past } in
    let Goal : Role × Left → Type 0 = λ y. map bytes_of (w ∷ ws) ≡ role_text y.0 ∷ texts y.1 in
    elim (chosen (bytes_eq w.bytes (codes "initial")) _ _ (Ok x) e) [
      | inl t ↦ subst Goal (ok_is (role.Initial, left) x t.1) (front w ws past (codes "initial") t.0)
      | inr f ↦ elim (chosen (bytes_eq w.bytes (codes "survivor")) _ _ (Ok x) f.1) [
        | inl t ↦ subst Goal (ok_is (role.Survivor, left) x t.1) (front w ws past (codes "survivor") t.0)
        | inr g ↦ elim (chosen (bytes_eq w.bytes (codes "recovered")) _ _ (Ok x) g.1) [
          | inl t ↦ subst Goal (ok_is (role.Recovered, left) x t.1) (front w ws past (codes "recovered") t.0)
          | inr h ↦ let no : Err (misfit w) ≡ Ok x = h.1 in absurd cc
        ]
      ]
    ]

pub role_found : (left : Left) (x : Role × Left) → role_at left ≡ Ok x → texts left ≡ role_text x.0 ∷ texts x.1
role_found left x e = role_found_of left.words left.past x e

test_found_of : (ws : List Word) (past : ℕ) (x : Test × Left) → test_at (record { words = ws; past = past }) ≡ Ok x → map bytes_of ws ≡ test_text x.0 ∷ texts x.1
test_found_of [] past x e = absurd cc
test_found_of (w ∷ ws) past x e =
    let left : Left = record { words = ws; past = past } in
    let Goal : Test × Left → Type 0 = λ y. map bytes_of (w ∷ ws) ≡ test_text y.0 ∷ texts y.1 in
    elim (chosen (bytes_eq w.bytes (codes "lt")) _ _ (Ok x) e) [
      | inl t ↦ subst Goal (ok_is (test.Lt, left) x t.1) (front w ws past (codes "lt") t.0)
      | inr f ↦ elim (chosen (bytes_eq w.bytes (codes "le")) _ _ (Ok x) f.1) [
        | inl t ↦ subst Goal (ok_is (test.Le, left) x t.1) (front w ws past (codes "le") t.0)
        | inr g ↦ elim (chosen (bytes_eq w.bytes (codes "eq")) _ _ (Ok x) g.1) [
          | inl t ↦ subst Goal (ok_is (test.Eq, left) x t.1) (front w ws past (codes "eq") t.0)
          | inr h ↦ let no : Err (misfit w) ≡ Ok x = h.1 in absurd cc
        ]
      ]
    ]

pub test_found : (left : Left) (x : Test × Left) → test_at left ≡ Ok x → texts left ≡ test_text x.0 ∷ texts x.1
test_found left x e = test_found_of left.words left.past x e

pub pair_found : (left : Left) (x : (ℤ × ℤ) × Left) → pair_at left ≡ Ok x → (pair_fits x.0 ≡ true) × (texts left ≡ signed_decimal x.0.0 ∷ signed_decimal x.0.1 ∷ texts x.1)
pair_found left x e =
    let a = bind_ok (number_at left) (λ first. number_at first.1 >>= λ last. Ok ((first.0, last.0), last.1)) x e in
    let b = bind_ok (number_at a.0.1) (λ last. Ok ((a.0.0, last.0), last.1)) x a.2 in
    let first = number_found left a.0 a.1 in
    let last = number_found a.0.1 b.0 b.1 in
    subst (λ (y : (ℤ × ℤ) × Left). (pair_fits y.0 ≡ true) × (texts left ≡ signed_decimal y.0.0 ∷ signed_decimal y.0.1 ∷ texts y.1)) (ok_is ((a.0.0, b.0.0), b.0.1) x b.2)
    (and_from (fits_64 a.0.0) (fits_64 b.0.0) first.0 last.0, first.1 ∙ ap (λ (l : List (List ℕ)). signed_decimal a.0.0 ∷ l) last.1)

pub pair_again : (left : Left) (p : ℤ × ℤ) (rest : List (List ℕ)) → pair_fits p ≡ true → texts left ≡ signed_decimal p.0 ∷ signed_decimal p.1 ∷ rest → Behind (pair_at left) p rest
pair_again left p rest fits e =
    let parts = and_parts (fits_64 p.0) (fits_64 p.1) fits in
    let first = number_read_again left p.0 (signed_decimal p.1 ∷ rest) parts.0 e in
    let last = number_read_again first.left p.1 rest parts.1 first.others in
    record { left = last.left; read = rw (first.read, last.read) refl; others = last.others }

no_words : (left : Left) → eqb (length left.words) 0 ≡ true → texts left ≡ []
no_words left none = ap (map bytes_of) (nil_from_length left.words (eqb-true (length left.words) 0 none))

pairs_words-append : (ps qs : List (ℤ × ℤ)) → pairs_words (ps ++ qs) ≡ pairs_words ps ++ pairs_words qs
pairs_words-append [] qs = refl
pairs_words-append (p ∷ ps) qs = ap (λ (l : List (List ℕ)). signed_decimal p.0 ∷ signed_decimal p.1 ∷ l) (pairs_words-append ps qs)

-- pairs that were read, behind those that were read before
pub record ReadsPairs (room : ℕ) (before : List (ℤ × ℤ)) (left : Left) (x : List (ℤ × ℤ) × Left) : Type 0 where
  pub fit : list_all pair_fits before ≡ true → list_all pair_fits x.0 ≡ true
  pub least : length before ≤ length x.0
  pub most : length x.0 ≤ length before + room
  pub words : pairs_words before ++ texts left ≡ pairs_words x.0 ++ texts x.1

pub pairs_found : (room : ℕ) (before : List (ℤ × ℤ)) (left : Left) (x : List (ℤ × ℤ) × Left) → pairs_from room before left ≡ Ok x → ReadsPairs room before left x
unfolding pairs_from
pairs_found zero before left x e =
    subst (λ (y : List (ℤ × ℤ) × Left). ReadsPairs 0 before left y) (ok_is (before, left) x e)
    (record { fit = λ all. all; least = omega arith; most = omega arith; words = refl })
pairs_found (suc room) before left x e =
    elim (chosen (eqb (length left.words) 0) (Ok (before, left)) (pair_at left >>= λ pair. pairs_from room (before ++ pair.0 ∷ []) pair.1) (Ok x) e) [
      | inl t ↦ subst (λ (y : List (ℤ × ℤ) × Left). ReadsPairs (suc room) before left y) (ok_is (before, left) x t.1)
          (record { fit = λ all. all; least = omega arith; most = omega arith; words = refl })
      | inr f ↦
          let a = bind_ok (pair_at left) (λ pair. pairs_from room (before ++ pair.0 ∷ []) pair.1) x f.1 in
          let pair = pair_found left a.0 a.1 in
          let rest = pairs_found room (before ++ a.0.0 ∷ []) a.0.1 x a.2 in
          let longer = length-append before (a.0.0 ∷ []) in
          record {
            fit = λ all. rest.fit (list_all-append pair_fits before (a.0.0 ∷ []) ∙ and_from (list_all pair_fits before) (pair_fits a.0.0 && true) all (and_from (pair_fits a.0.0) true pair.0 refl));
            least = omega (arith, rest.least, longer);
            most = omega (arith, rest.most, longer);
            words = ap (λ (l : List (List ℕ)). pairs_words before ++ l) pair.1
                ∙ sym (append_assoc (pairs_words before) (signed_decimal a.0.0.0 ∷ signed_decimal a.0.0.1 ∷ []) (texts a.0.1))
                ∙ ap (λ (l : List (List ℕ)). l ++ texts a.0.1) (sym (pairs_words-append before (a.0.0 ∷ [])))
                ∙ rest.words;
          }
    ]

length_map : (ws : List Word) → length (map bytes_of ws) ≡ length ws
length_map [] = refl
length_map (w ∷ ws) = ap suc (length_map ws)

abbrev ok_pairs : List (ℤ × ℤ) → Left → Result (List (ℤ × ℤ) × Left) Wrong
ok_pairs ps left = Ok (ps, left)

pub pairs_again : (room : ℕ) (before pairs : List (ℤ × ℤ)) (left : Left) → list_all pair_fits pairs ≡ true → length pairs ≤ room → texts left ≡ pairs_words pairs
    → (next : Left) × (pairs_from room before left ≡ Ok (before ++ pairs, next)) × (texts next ≡ [])
unfolding pairs_from
pairs_again zero before [] left fits l e = (left, rw (append-nil before) refl, e)
pairs_again zero before (p ∷ ps) left fits l e = absurd (omega arith)
pairs_again (suc room) before [] left fits l e =
    let none : eqb (length left.words) 0 ≡ true = eq-eqb (length left.words) 0 (sym (length_map left.words) ∙ ap length e) in
    (left, rw (none, append-nil before) refl, e)
pairs_again (suc room) before (p ∷ ps) left fits l e =
    let parts = and_parts (pair_fits p) (list_all pair_fits ps) fits in
    let some : eqb (length left.words) 0 ≡ false = ne_eqb (length left.words) 0 (λ no. absurd (omega (arith, length_map left.words, ap length e))) in
    let pair = pair_again left p (pairs_words ps) parts.0 e in
    let rest = pairs_again room (before ++ p ∷ []) ps pair.left parts.1 (omega arith) pair.others in
    (rest.0, rw (some, pair.read) (rest.1 ∙ ap (λ (l : List (ℤ × ℤ)). ok_pairs l rest.0) (append_assoc before (p ∷ []) ps)), rest.2)
