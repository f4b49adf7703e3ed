-- Each reader of a word, of an expression and of a subset rests on its words alone.
use Rattle.std.proofs.Common.{◌≡◌, ℕ, zero, suc, Bool, true, false, cond, eqb, inl, inr, List, [], ◌∷◌, ◌++◌, map, length, Result, Ok, Err, refl, sym, ap, subst, ◌∙◌, arith}
use Rattle.std.specs.Prelude.{ℤ, pos, codes}
use Rattle.std.specs.List.{list_all}
use Rattle.std.specs.Str.{bytes_eq}
use Rattle.std.proofs.lemmas.Bool.{cases_Bool, ne_eqb}
use Rattle.fx_base.specs.declared.names.Role.{Role}
use Rattle.fx_base.specs.declared.names.Role.TheVariants as role
use Rattle.fx_text.specs.declared.number.NumberFault.{NumberFault}
use Rattle.fx_text.specs.Numbers.{number_in}
use Rattle.fx_text.specs.Words.{Word}
use Rattle.fx_script.specs.declared.expr.Expr.{Expr}
use Rattle.fx_script.specs.declared.expr.Expr.TheVariants as expr
use Rattle.fx_script.specs.declared.expr.Pending.{Pending}
use Rattle.fx_script.specs.declared.expr.Pending.TheVariants as pending
use Rattle.fx_script.specs.declared.expr.Sign.TheVariants as sign
use Rattle.fx_script.specs.declared.expr.Step.{Step}
use Rattle.fx_script.specs.declared.expr.Step.TheVariants as step
use Rattle.fx_script.specs.declared.expr.Token.TheVariants as token
use Rattle.fx_script.specs.declared.job.Test.{Test}
use Rattle.fx_script.specs.declared.job.Test.TheVariants as test
use Rattle.fx_script.specs.declared.refusal.JobFault.TheVariants.{BadLine}
use Rattle.fx_script.specs.declared.refusal.Wrong.{Wrong}
use Rattle.fx_script.specs.Left.{Left}
use Rattle.fx_script.specs.Outcome.{◌>>=◌}
use Rattle.fx_text.specs.Names.{is_name}
use Rattle.fx_script.specs.Exprs.{is_meant_as_number, operand_in, token_in, joined, settled, taken_token, stepped, goes_on, expr_run, expr_at}
use Rattle.fx_script.specs.Fields.{misfit, due, fixed_in, fixed_at, name_in, name_at, number_or, number_in_word, number_at, role_in, role_at, test_in, test_at, pair_at, pairs_from}
use Rattle.fx_script.specs.Spelling.{bytes_of}
use Rattle.fx_script.proofs.CanonLines.{is_word}
use Rattle.fx_script.proofs.FieldLemmas.{bind_ok, ok_is}
use Rattle.fx_script.proofs.Judged.{bind_err, refused_as, err_is, words_left, GoesOn, Went, Stopped, Judged, nothing, both, LineGoesOn, LineStopped, LineJudged, line_both, at_the_end}

-- ---- one word

-- a reader of one word: what it makes of the word, which stands for itself
pub record OfWord {X : Type 0} (f : Word × Left → Result (X × Left) Wrong) : Type 0 where
  pub says : Word → Result X Wrong
  pub is : (w : Word) (left : Left) → f (w, left) ≡ (says w >>= λ x. Ok (x, left))
  pub column : (w : Word) (e : Wrong) → says w ≡ Err e → e.column ≡ w.column
  pub text : List ℕ
  pub good : is_word text ≡ true
  pub value : X
  pub fits : (w : Word) → w.bytes ≡ text → says w ≡ Ok value

abbrev of_due : {X : Type 0} → (Word × Left → Result (X × Left) Wrong) → Left → Result (X × Left) Wrong
of_due f left = due left >>= f

word_again : {X : Type 0} (f : Word × Left → Result (X × Left) Wrong) → (o : OfWord f) → (w : Word) (n : X) (left : Left) → o.says w ≡ Ok n → f (w, left) ≡ Ok (n, left)
word_again f o w n left e = o.is w left ∙ rw e refl

word_went : {X : Type 0} (f : Word × Left → Result (X × Left) Wrong) → (o : OfWord f) → (ws : List Word) (past : ℕ) (x : X × Left) → of_due f (words_left ws past) ≡ Ok x → Went (of_due f) ws past x
word_went f o [] past x e = absurd cc
word_went {X = X} f o (w ∷ ws) past x e =
    let left = words_left ws past in
    let b = bind_ok (o.says w) (λ n. Ok (n, left)) x (sym (o.is w left) ∙ e) in
    let one : Went (of_due f) (w ∷ ws) past (b.0, left) = record { used = w ∷ []; words = refl; past_is = refl; again = λ behind p. word_again f o w b.0 (words_left behind p) b.1 } in
    subst (λ (y : X × Left). Went (of_due f) (w ∷ ws) past y) (ok_is (b.0, left) x b.2) one

word_goes : {X : Type 0} (f : Word × Left → Result (X × Left) Wrong) → (o : OfWord f) → (ws behind : List Word) (past : ℕ) → map bytes_of ws ≡ o.text ∷ [] → of_due f (words_left (ws ++ behind) past) ≡ Ok (o.value, words_left behind past)
word_goes f o [] behind past e = absurd cc
word_goes f o (w ∷ []) behind past e =
    let same : w.bytes ≡ o.text = cc in
    o.is w (words_left behind past) ∙ rw (o.fits w same) refl
word_goes f o (w ∷ v ∷ ws) behind past e = absurd cc

word_can : {X : Type 0} (f : Word × Left → Result (X × Left) Wrong) → OfWord f → GoesOn (of_due f) []
word_can f o = record { more = o.text ∷ []; good = rw o.good refl; value = o.value; goes = word_goes f o }

word_stopped : {X : Type 0} (f : Word × Left → Result (X × Left) Wrong) → (o : OfWord f) → (ws : List Word) (past : ℕ) (w : Wrong) → of_due f (words_left ws past) ≡ Err w → Stopped (of_due f) ws past w
word_stopped {X = X} f o [] past w e =
    let s : record { fault = BadLine; column = past } ≡ w = err_is {A = X × Left} (record { fault = BadLine; column = past }) w e in
    record { read = []; at = inr (record { words = refl; column = ap (λ (v : Wrong). v.column) (sym s) }); goes_on = word_can f o }
word_stopped {X = X} f o (v ∷ ws) past w e =
    let left = words_left ws past in
    elim (bind_err (o.says v) (λ n. Ok (n, left)) w (sym (o.is v left) ∙ e)) [
      | inl b ↦ record {
        read = [];
        at = inl (record { bad = v; behind = ws; words = refl; column = o.column v w b; again = λ others p. o.is v (words_left others p) ∙ rw b refl });
        goes_on = word_can f o;
      }
      | inr b ↦ let no = b.2 in absurd cc
    ]

pub of_word : {X : Type 0} (f : Word × Left → Result (X × Left) Wrong) → OfWord f → Judged (λ left. due left >>= f)
of_word f o = record { went = word_went f o; stopped = word_stopped f o; can = word_can f o }

-- a word that doesn't fit is refused at its column
if_err : {A : Type 0} (b : Bool) (x : A) (y : Result A Wrong) (e : Wrong) → cond b (Ok x) y ≡ Err e → y ≡ Err e
if_err true x y e h = absurd cc
if_err false x y e h = h

misfit_column : {A : Type 0} (w : Word) (e : Wrong) → refused_as {A = A} (misfit w) ≡ Err e → e.column ≡ w.column
misfit_column {A = A} w e h = ap (λ (v : Wrong). v.column) (sym (err_is {A = A} (misfit w) e h))

abbrev fixed_says : List ℕ → Word → Result (Unit {0}) Wrong
fixed_says text w = cond (bytes_eq w.bytes text) (Ok tt) (Err (misfit w))

fixed_is : (text : List ℕ) (w : Word) (left : Left) → fixed_in text (w, left) ≡ (fixed_says text w >>= λ x. Ok (x, left))
fixed_is text w left = elim (cases_Bool (bytes_eq w.bytes text)) [ inl t ↦ rw t refl | inr f ↦ rw f refl ]

pub fixed_judged : (text : List ℕ) → is_word text ≡ true → bytes_eq text text ≡ true → Judged (fixed_at text)
fixed_judged text good same = of_word (fixed_in text) (record {
  says = fixed_says text;
  is = fixed_is text;
  column = λ w e h. misfit_column w e (if_err (bytes_eq w.bytes text) tt (Err (misfit w)) e h);
  text = text;
  good = good;
  value = tt;
  fits = λ w e. rw (e, same) refl;
})

abbrev name_says : Word → Result (List ℕ) Wrong
name_says w = cond (is_name w.bytes) (Ok w.bytes) (Err (misfit w))

name_is : (w : Word) (left : Left) → name_in (w, left) ≡ (name_says w >>= λ x. Ok (x, left))
name_is w left = elim (cases_Bool (is_name w.bytes)) [ inl t ↦ rw t refl | inr f ↦ rw f refl ]

pub name_judged : Judged name_at
name_judged = of_word name_in (record {
  says = name_says;
  is = name_is;
  column = λ w e h. misfit_column w e (if_err (is_name w.bytes) w.bytes (Err (misfit w)) e h);
  text = codes "a";
  good = refl;
  value = codes "a";
  fits = λ w e. rw e refl;
})

number_column_by : (w : Word) (r : Result ℤ NumberFault) (e : Wrong) → number_or w r ≡ Err e → e.column ≡ w.column
number_column_by w (Ok n) e h = absurd cc
number_column_by w (Err f) e h = let s = h in ap (λ (v : Wrong). v.column) (sym (err_is {A = ℤ} _ e s))

number_column : (w : Word) (e : Wrong) → number_in_word w ≡ Err e → e.column ≡ w.column
number_column w e h = number_column_by w (number_in w.bytes) e h

pub number_judged : Judged number_at
number_judged = of_word (λ next. number_in_word next.0 >>= λ n. Ok (n, next.1)) (record {
  says = number_in_word;
  is = λ w left. refl;
  column = number_column;
  text = codes "0";
  good = refl;
  value = pos 0;
  fits = λ w e. rw e refl;
})

abbrev role_says : Word → Result Role Wrong
role_says w = cond (bytes_eq w.bytes (codes "initial")) (Ok role.Initial)
    (cond (bytes_eq w.bytes (codes "survivor")) (Ok role.Survivor)
    (cond (bytes_eq w.bytes (codes "recovered")) (Ok role.Recovered) (Err (misfit w))))

role_is : (w : Word) (left : Left) → role_in (w, left) ≡ (role_says w >>= λ x. Ok (x, left))
role_is w left = elim (cases_Bool (bytes_eq w.bytes (codes "initial"))) [
  | inl t ↦ rw t refl
  | inr f ↦ elim (cases_Bool (bytes_eq w.bytes (codes "survivor"))) [
    | inl t ↦ rw (f, t) refl
    | inr g ↦ elim (cases_Bool (bytes_eq w.bytes (codes "recovered"))) [ inl t ↦ rw (f, g, t) refl | inr h ↦ rw (f, g, h) refl ]
  ]
]

pub role_judged : Judged role_at
role_judged = of_word role_in (record {
  says = role_says;
  is = role_is;
  column = λ w e h. misfit_column w e (if_err (bytes_eq w.bytes (codes "recovered")) role.Recovered _ e
      (if_err (bytes_eq w.bytes (codes "survivor")) role.Survivor _ e (if_err (bytes_eq w.bytes (codes "initial")) role.Initial _ e h)));
  text = codes "initial";
  good = refl;
  value = role.Initial;
  fits = λ w e. rw e refl;
})

abbrev test_says : Word → Result Test Wrong
test_says w = cond (bytes_eq w.bytes (codes "lt")) (Ok test.Lt)
    (cond (bytes_eq w.bytes (codes "le")) (Ok test.Le)
    (cond (bytes_eq w.bytes (codes "eq")) (Ok test.Eq) (Err (misfit w))))

test_is : (w : Word) (left : Left) → test_in (w, left) ≡ (test_says w >>= λ x. Ok (x, left))
test_is w left = elim (cases_Bool (bytes_eq w.bytes (codes "lt"))) [
  | inl t ↦ rw t refl
  | inr f ↦ elim (cases_Bool (bytes_eq w.bytes (codes "le"))) [
    | inl t ↦ rw (f, t) refl
    | inr g ↦ elim (cases_Bool (bytes_eq w.bytes (codes "eq"))) [ inl t ↦ rw (f, g, t) refl | inr h ↦ rw (f, g, h) refl ]
  ]
]

pub test_judged : Judged test_at
test_judged = of_word test_in (record {
  says = test_says;
  is = test_is;
  column = λ w e h. misfit_column w e (if_err (bytes_eq w.bytes (codes "eq")) test.Eq _ e
      (if_err (bytes_eq w.bytes (codes "le")) test.Le _ e (if_err (bytes_eq w.bytes (codes "lt")) test.Lt _ e h)));
  text = codes "lt";
  good = refl;
  value = test.Lt;
  fits = λ w e. rw e refl;
})

-- ---- expressions

-- the words that complete what is pending: a number for each expression that is due
abbrev zeros : List Pending → List (List ℕ)
zeros [] = []
zeros (pending.First s ∷ ps) = codes "0" ∷ zeros ps
zeros (pending.Second s left ∷ ps) = zeros ps

zeros_good : (ps : List Pending) → list_all is_word (zeros ps) ≡ true
zeros_good [] = refl
zeros_good (pending.First s ∷ ps) = zeros_good ps
zeros_good (pending.Second s left ∷ ps) = zeros_good ps

abbrev run_of : Bool → List Pending → Left → Result (Expr × Left) Wrong
run_of group ps left = expr_run group ps left.words left.past

-- the rest of an expression behind a step
abbrev after_step : Step × List Pending → Left → Result (Expr × Left) Wrong
after_step next left = goes_on next.0 left (λ due. expr_run due next.1 left.words left.past)

-- an expression that is complete, where these are pending
record Settles (e : Expr) (ps : List Pending) : Type 0 where
  value : Expr
  goes : (ws behind : List Word) (past : ℕ) → map bytes_of ws ≡ zeros ps → after_step (settled e ps) (words_left (ws ++ behind) past) ≡ Ok (value, words_left behind past)

settles_none : (e : Expr) (ws behind : List Word) (past : ℕ) → map bytes_of ws ≡ [] → after_step (settled e []) (words_left (ws ++ behind) past) ≡ Ok (e, words_left behind past)
settles_none e [] behind past h = refl
settles_none e (w ∷ ws) behind past h = absurd cc

zero_step : (ps : List Pending) (w : Word) → w.bytes ≡ codes "0" → stepped false ps w ≡ Ok (settled (expr.Number (pos 0)) ps)
zero_step ps w e = rw e refl

settles_first : (ps : List Pending) (e : Expr) (value : Expr) → ((ws behind : List Word) (past : ℕ) → map bytes_of ws ≡ zeros ps → after_step (settled (expr.Number (pos 0)) ps) (words_left (ws ++ behind) past) ≡ Ok (value, words_left behind past))
    → (ws behind : List Word) (past : ℕ) → map bytes_of ws ≡ codes "0" ∷ zeros ps → expr_run false ps (ws ++ behind) past ≡ Ok (value, words_left behind past)
settles_first ps e value goes [] behind past h = absurd cc
settles_first ps e value goes (w ∷ ws) behind past h =
    let same : w.bytes ≡ codes "0" = cc in
    let rest : map bytes_of ws ≡ zeros ps = cc in
    rw (zero_step ps w same) (goes ws behind past rest)

settles : (ps : List Pending) (e : Expr) → Settles e ps
settles [] e = record { value = e; goes = settles_none e }
settles (pending.Second s left ∷ ps) e = let rest = settles ps (joined s left e) in record { value = rest.value; goes = rest.goes }
settles (pending.First s ∷ ps) e =
    let rest = settles ps (joined s e (expr.Number (pos 0))) in
    record { value = rest.value; goes = settles_first (pending.Second s e ∷ ps) e rest.value rest.goes }

-- an expression can be read behind any signs
group_goes : (ps : List Pending) (value : Expr) → ((ws behind : List Word) (past : ℕ) → map bytes_of ws ≡ zeros ps → after_step (settled (expr.Latest (pos 0)) ps) (words_left (ws ++ behind) past) ≡ Ok (value, words_left behind past))
    → (ws behind : List Word) (past : ℕ) → map bytes_of ws ≡ codes "0" ∷ zeros ps → expr_run true ps (ws ++ behind) past ≡ Ok (value, words_left behind past)
group_goes ps value goes [] behind past h = absurd cc
group_goes ps value goes (w ∷ ws) behind past h =
    let same : w.bytes ≡ codes "0" = cc in
    let rest : map bytes_of ws ≡ zeros ps = cc in
    let read : number_in_word w ≡ Ok (pos 0) = rw same refl in
    rw read (goes ws behind past rest)

run_can : (group : Bool) (ps : List Pending) → GoesOn (run_of group ps) []
run_can true ps =
    let s = settles ps (expr.Latest (pos 0)) in
    record { more = codes "0" ∷ zeros ps; good = zeros_good ps; value = s.value; goes = group_goes ps s.value s.goes }
run_can false ps =
    let s = settles ps (expr.Number (pos 0)) in
    record { more = codes "0" ∷ zeros ps; good = zeros_good ps; value = s.value; goes = settles_first ps (expr.Number (pos 0)) s.value s.goes }

-- what was read of an expression, by what it is behind its first word
went_step : (w : Word) (ws : List Word) (group : Bool) (ps : List Pending) (past : ℕ) (x : Expr × Left) (next : Step × List Pending) → stepped group ps w ≡ Ok next
    → (s : Step) → next.0 ≡ s → goes_on s (words_left ws past) (λ due. expr_run due next.1 ws past) ≡ Ok x
    → ((due : Bool) → expr_run due next.1 ws past ≡ Ok x → Went (run_of due next.1) ws past x) → Went (run_of group ps) (w ∷ ws) past x
went_step w ws group ps past x next read (step.Whole e) is h rest =
    let one : Went (run_of group ps) (w ∷ ws) past (e, words_left ws past) = record { used = w ∷ []; words = refl; past_is = refl; again = λ behind p. rw (read, is) refl } in
    subst (λ (y : Expr × Left). Went (run_of group ps) (w ∷ ws) past y) (ok_is (e, words_left ws past) x h) one
went_step w ws group ps past x next read (step.More due) is h rest =
    let r = rest due h in
    record { used = w ∷ r.used; words = ap (λ (l : List Word). w ∷ l) r.words; past_is = r.past_is; again = λ behind p. rw (read, is) (r.again behind p) }

run_went : (ws : List Word) (group : Bool) (ps : List Pending) (past : ℕ) (x : Expr × Left) → expr_run group ps ws past ≡ Ok x → Went (run_of group ps) ws past x
run_went [] group ps past x e = absurd cc
run_went (w ∷ ws) group ps past x e =
    let b = bind_ok (stepped group ps w) (λ next. goes_on next.0 (words_left ws past) (λ due. expr_run due next.1 ws past)) x e in
    went_step w ws group ps past x b.0 b.1 b.0.0 refl b.2 (λ due h. run_went ws due b.0.1 past x h)

-- a word that is no step is refused at its column
operand_column : (w : Word) (e : Wrong) → operand_in w ≡ Err e → e.column ≡ w.column
operand_column w e h = elim (cases_Bool (is_meant_as_number w.bytes)) [
  | inl t ↦
      let g : (number_in_word w >>= λ n. Ok (token.Leaf (expr.Number n))) ≡ Err e = rw t at h in
      elim (bind_err (number_in_word w) (λ n. Ok (token.Leaf (expr.Number n))) e g) [ inl b ↦ number_column w e b | inr b ↦ let no = b.2 in absurd cc ]
  | inr f ↦
      let g : cond (is_name w.bytes) (Ok (token.Leaf (expr.Name w.bytes))) (Err (misfit w)) ≡ Err e = rw f at h in
      misfit_column w e (if_err (is_name w.bytes) (token.Leaf (expr.Name w.bytes)) (Err (misfit w)) e g)
]

token_column : (w : Word) (e : Wrong) → token_in w ≡ Err e → e.column ≡ w.column
token_column w e h = operand_column w e
    (if_err (bytes_eq w.bytes (codes "latest")) token.Latest _ e
    (if_err (bytes_eq w.bytes (codes "size")) (token.Leaf expr.Size) _ e
    (if_err (bytes_eq w.bytes (codes "rank")) (token.Leaf expr.Rank) _ e
    (if_err (bytes_eq w.bytes (codes "index")) (token.Leaf expr.Index) _ e
    (if_err (bytes_eq w.bytes (codes "*")) (token.Sign sign.Times) _ e
    (if_err (bytes_eq w.bytes (codes "-")) (token.Sign sign.Minus) _ e
    (if_err (bytes_eq w.bytes (codes "+")) (token.Sign sign.Plus) _ e h)))))))

step_column : (group : Bool) (ps : List Pending) (w : Word) (e : Wrong) → stepped group ps w ≡ Err e → e.column ≡ w.column
step_column true ps w e h = elim (bind_err (number_in_word w) (λ n. Ok (settled (expr.Latest n) ps)) e h) [ inl b ↦ number_column w e b | inr b ↦ let no = b.2 in absurd cc ]
step_column false ps w e h = elim (bind_err (token_in w) (λ t. Ok (taken_token t ps)) e h) [ inl b ↦ token_column w e b | inr b ↦ let no = b.2 in absurd cc ]

stopped_step : (w : Word) (ws : List Word) (group : Bool) (ps : List Pending) (past : ℕ) (e : Wrong) (next : Step × List Pending) → stepped group ps w ≡ Ok next
    → (s : Step) → next.0 ≡ s → goes_on s (words_left ws past) (λ due. expr_run due next.1 ws past) ≡ Err e
    → ((due : Bool) → expr_run due next.1 ws past ≡ Err e → Stopped (run_of due next.1) ws past e) → Stopped (run_of group ps) (w ∷ ws) past e
stopped_step w ws group ps past e next read (step.Whole x) is h rest = absurd cc
stopped_step w ws group ps past e next read (step.More due) is h rest =
    let r = rest due h in
    record {
      read = w ∷ r.read;
      at = elim r.at [
        | inl a ↦ inl (record { bad = a.bad; behind = a.behind; words = ap (λ (l : List Word). w ∷ l) a.words; column = a.column; again = λ others p. rw (read, is) (a.again others p) })
        | inr a ↦ inr (record { words = ap (λ (l : List Word). w ∷ l) a.words; column = a.column })
      ];
      goes_on = record { more = r.goes_on.more; good = r.goes_on.good; value = r.goes_on.value; goes = λ more behind p m. rw (read, is) (r.goes_on.goes more behind p m) };
    }

run_stopped : (ws : List Word) (group : Bool) (ps : List Pending) (past : ℕ) (e : Wrong) → expr_run group ps ws past ≡ Err e → Stopped (run_of group ps) ws past e
run_stopped [] group ps past e h =
    let s : record { fault = BadLine; column = past } ≡ e = err_is {A = Expr × Left} (record { fault = BadLine; column = past }) e h in
    record { read = []; at = inr (record { words = refl; column = ap (λ (v : Wrong). v.column) (sym s) }); goes_on = run_can group ps }
run_stopped (w ∷ ws) group ps past e h = elim (bind_err (stepped group ps w) (λ next. goes_on next.0 (words_left ws past) (λ due. expr_run due next.1 ws past)) e h) [
  | inl b ↦ record {
    read = [];
    at = inl (record { bad = w; behind = ws; words = refl; column = step_column group ps w e b; again = λ others p. rw b refl });
    goes_on = run_can group ps;
  }
  | inr b ↦ stopped_step w ws group ps past e b.0 b.1 b.0.0 refl b.2 (λ due g. run_stopped ws due b.0.1 past e g)
]

pub expr_judged : Judged expr_at
expr_judged = record { went = λ ws past x e. run_went ws false [] past x e; stopped = λ ws past w e. run_stopped ws false [] past w e; can = run_can false [] }

-- ---- pairs of numbers

-- a reader of two fields, made to one value
pub two : {A B Y : Type 0} (r : Left → Result (A × Left) Wrong) (s : Left → Result (B × Left) Wrong) (k : A → B → Y) → Judged r → Judged s
    → Judged (λ left. r left >>= λ a. s a.1 >>= λ b. Ok (k a.0 b.0, b.1))
two r s k one other = both r (λ a left. s left >>= λ b. Ok (k a b.0, b.1)) one (λ a. both s (λ b left. Ok (k a b, left)) other (λ b. nothing (k a b)))

pub one : {A Y : Type 0} (r : Left → Result (A × Left) Wrong) (k : A → Y) → Judged r → Judged (λ left. r left >>= λ a. Ok (k a.0, a.1))
one r k j = both r (λ a left. Ok (k a, left)) j (λ a. nothing (k a))

pub three : {A B C Y : Type 0} (r : Left → Result (A × Left) Wrong) (s : Left → Result (B × Left) Wrong) (t : Left → Result (C × Left) Wrong) (k : A → B → C → Y) → Judged r → Judged s → Judged t
    → Judged (λ left. r left >>= λ a. s a.1 >>= λ b. t b.1 >>= λ c. Ok (k a.0 b.0 c.0, c.1))
three r s t k i j l = both r (λ a left. s left >>= λ b. t b.1 >>= λ c. Ok (k a b.0 c.0, c.1)) i (λ a. two s t (k a) j l)

abbrev pair_of : ℤ → ℤ → ℤ × ℤ
pair_of a b = (a, b)

pub pair_judged : Judged pair_at
pair_judged = two number_at number_at pair_of number_judged number_judged

-- the pairs to the end of the line
abbrev pub pairs_line : {Y : Type 0} → (List (ℤ × ℤ) → Y) → ℕ → List (ℤ × ℤ) → Left → Result Y Wrong
pairs_line k room before left = pairs_from room before left >>= λ x. at_the_end (k x.0) x.1

pairs_none : {Y : Type 0} (k : List (ℤ × ℤ) → Y) (room : ℕ) (before : List (ℤ × ℤ)) (ws : List Word) (past : ℕ) → map bytes_of ws ≡ [] → pairs_line k room before (words_left ws past) ≡ Ok (k before)
unfolding pairs_from
pairs_none k zero before [] past e = refl
pairs_none k (suc room) before [] past e = refl
pairs_none k room before (w ∷ ws) past e = absurd cc

pairs_on : {Y : Type 0} (k : List (ℤ × ℤ) → Y) (room : ℕ) (before : List (ℤ × ℤ)) → LineGoesOn (pairs_line k room before) []
pairs_on k room before = record { more = []; good = refl; value = k before; goes = pairs_none k room before }

-- a pair and the pairs behind it
abbrev pair_first : {Y : Type 0} → (List (ℤ × ℤ) → Y) → ℕ → List (ℤ × ℤ) → Left → Result Y Wrong
pair_first k room before left = pair_at left >>= λ pair. pairs_line k room (before ++ pair.0 ∷ []) pair.1

pub regroup : {A B C : Type 0} (r : Result A Wrong) (f : A → Result B Wrong) (g : B → Result C Wrong) → ((r >>= f) >>= g) ≡ (r >>= λ x. f x >>= g)
regroup (Ok x) f g = refl
regroup (Err w) f g = refl

pairs_some : {Y : Type 0} (k : List (ℤ × ℤ) → Y) (room : ℕ) (before : List (ℤ × ℤ)) (w : Word) (ws : List Word) (past : ℕ) → pairs_line k (suc room) before (words_left (w ∷ ws) past) ≡ pair_first k room before (words_left (w ∷ ws) past)
unfolding pairs_from
pairs_some k room before w ws past =
    let some : eqb (length (w ∷ ws)) 0 ≡ false = ne_eqb (length (w ∷ ws)) 0 (λ no. absurd (omega arith)) in
    rw some (regroup (pair_at (words_left (w ∷ ws) past)) (λ pair. pairs_from room (before ++ pair.0 ∷ []) pair.1) (λ x. at_the_end (k x.0) x.1))

-- words that are some, as what was read with what comes behind it is
pairs_again : {Y : Type 0} (k : List (ℤ × ℤ) → Y) (room : ℕ) (before : List (ℤ × ℤ)) (read : List Word) (w : Word) (ws : List Word) (past : ℕ) (y : Result Y Wrong)
    → pair_first k room before (words_left (read ++ w ∷ ws) past) ≡ y → pairs_line k (suc room) before (words_left (read ++ w ∷ ws) past) ≡ y
pairs_again k room before [] w ws past y e = pairs_some k room before w ws past ∙ e
pairs_again k room before (r ∷ read) w ws past y e = pairs_some k room before r (read ++ w ∷ ws) past ∙ e

pairs_go : {Y : Type 0} (k : List (ℤ × ℤ) → Y) (room : ℕ) (before : List (ℤ × ℤ)) (read : List Word) → LineGoesOn (pair_first k room before) read → LineGoesOn (pairs_line k (suc room) before) read
pairs_go k room before [] on = pairs_on k (suc room) before
pairs_go k room before (r ∷ read) on = record { more = on.more; good = on.good; value = on.value; goes = λ ws past e. pairs_some k room before r (read ++ ws) past ∙ on.goes ws past e }

pairs_stopped : {Y : Type 0} (k : List (ℤ × ℤ) → Y) (room : ℕ) (before : List (ℤ × ℤ)) (ws : List Word) (past : ℕ) (w : Wrong) → pairs_line k room before (words_left ws past) ≡ Err w
    → LineStopped (pairs_line k room before) ws past w
unfolding pairs_from
pairs_stopped k room before [] past w e = let no = sym (pairs_none k room before [] past refl) ∙ e in absurd cc
pairs_stopped {Y = Y} k zero before (bad ∷ ws) past w e =
    let s : misfit bad ≡ w = err_is {A = Y} (misfit bad) w e in
    record {
      read = [];
      at = inl (record { bad = bad; behind = ws; words = refl; column = ap (λ (v : Wrong). v.column) (sym s); again = λ others p. ap (λ (v : Wrong). refused_as {A = Y} v) s });
      goes_on = pairs_on k 0 before;
    }
pairs_stopped k (suc room) before (v ∷ ws) past w e =
    let j = line_both pair_at (λ pair. pairs_line k room (before ++ pair ∷ [])) pair_judged
    (λ pair. record { stopped = λ ws past w e. pairs_stopped k room (before ++ pair ∷ []) ws past w e; can = pairs_on k room (before ++ pair ∷ []) }) in
    let l = j.stopped (v ∷ ws) past w (sym (pairs_some k room before v ws past) ∙ e) in
    record {
      read = l.read;
      at = elim l.at [
        | inl a ↦ inl (record {
          bad = a.bad;
          behind = a.behind;
          words = a.words;
          column = a.column;
          again = λ others p. pairs_again k room before l.read a.bad others p (Err w) (a.again others p);
        })
        | inr a ↦ inr a
      ];
      goes_on = pairs_go k room before l.read l.goes_on;
    }

pub pairs_judged : {Y : Type 0} (k : List (ℤ × ℤ) → Y) (room : ℕ) (before : List (ℤ × ℤ)) → LineJudged (pairs_line k room before)
pairs_judged k room before = record { stopped = pairs_stopped k room before; can = pairs_on k room before }
