-- A repair by fewer present processes is the same, where all that have a place after it are among them.
use Rattle.std.proofs.Common.{◌≡◌, ℕ, zero, suc, Bool, true, false, not, cond, ◌||◌, ◌&&◌, ◌==◌, List, [], ◌∷◌, ◌++◌, refl, sym, ap, ◌∙◌, arith, true≢false}
use Rattle.std.proofs.lemmas.Bool.Decides.{nat_tests}
use Rattle.fx_base.specs.Sets.{those_below}
use Rattle.fx_comm.specs.Seats.{Seat, has_place, spares_of, filled, refilled, spares_left, repaired}
use Rattle.fx_comm.proofs.Lists.{not_true}

module _ (keep : ℕ → Bool) where
  -- those of a list that pass
  abbrev sift : List ℕ → List ℕ
  sift [] = []
  sift (x ∷ xs) = cond (keep x) (x ∷ sift xs) (sift xs)

  sift_append : (xs ys : List ℕ) → sift (xs ++ ys) ≡ sift xs ++ sift ys
  sift_append [] ys = refl
  sift_append (x ∷ xs) ys = both (keep x) (sift_append xs ys)
    where
      both : (b : Bool) → sift (xs ++ ys) ≡ sift xs ++ sift ys → cond b (x ∷ sift (xs ++ ys)) (sift (xs ++ ys)) ≡ cond b (x ∷ sift xs) (sift xs) ++ sift ys
      both true e = ap (λ (l : List ℕ). x ∷ l) e
      both false e = e

  one_sifted : (n : ℕ) (f g : Bool) → g ≡ (keep n && f) → cond g (n ∷ []) [] ≡ sift (cond f (n ∷ []) [])
  one_sifted n true g e = of (keep n) e
    where
      of : (k : Bool) → g ≡ (k && true) → cond g (n ∷ []) [] ≡ cond k (n ∷ []) []
      of true e = ap (λ b. cond b (n ∷ []) []) e
      of false e = ap (λ b. cond b (n ∷ []) []) e
  one_sifted n false g e = ap (λ b. cond b (n ∷ []) []) (e ∙ none (keep n))
    where
      none : (k : Bool) → (k && false) ≡ false
      none true = refl
      none false = refl

  those_sifted : (f g : ℕ → Bool) (n : ℕ) → ((m : ℕ) → g m ≡ (keep m && f m)) → those_below g n ≡ sift (those_below f n)
  unfolding those_below
  those_sifted f g zero each = refl
  those_sifted f g (suc n) each =
      ap (λ (l : List ℕ). l ++ cond (g n) (n ∷ []) []) (those_sifted f g n each)
      ∙ ap (λ (l : List ℕ). sift (those_below f n) ++ l) (one_sifted n (f n) (g n) (each n))
      ∙ sym (sift_append (those_below f n) (cond (f n) (n ∷ []) []))

  later_place : (a b : Bool) → b ≡ true → (a || b) ≡ true
  later_place a b e = grind (arith, nat_tests)

  this_place : (q : ℕ) (b : Bool) → ((q == q) || b) ≡ true
  this_place q b = grind (arith, nat_tests)

  module _ (present : ℕ → Bool) (less : (proc : ℕ) → keep proc ≡ true → present proc ≡ true) where
    -- all that have a place are kept
    abbrev AllKept : List Seat → Type 0
    AllKept seats = (proc : ℕ) → has_place seats proc ≡ true → keep proc ≡ true

    filled_fewer : (seats : List Seat) (spares : List ℕ) → AllKept (filled present seats spares) → filled present seats spares ≡ filled keep seats (sift spares)
    filled_fewer [] spares all = refl
    filled_fewer (s ∷ seats) spares all = by_test (λ l a. filled_fewer seats l a) (present s.1.0) refl spares all
      where
        absent : present s.1.0 ≡ false → keep s.1.0 ≡ false
        absent e = not_true (keep s.1.0) (λ kept. true≢false (sym (less s.1.0 kept) ∙ e))

        by_test : ((l : List ℕ) → AllKept (filled present seats l) → filled present seats l ≡ filled keep seats (sift l))
            → (b : Bool) → present s.1.0 ≡ b → (spares : List ℕ)
            → AllKept (cond b (s ∷ filled present seats spares) (refilled s.0 spares ++ filled present seats (spares_left spares)))
            → cond b (s ∷ filled present seats spares) (refilled s.0 spares ++ filled present seats (spares_left spares))
            ≡ cond (keep s.1.0) (s ∷ filled keep seats (sift spares)) (refilled s.0 (sift spares) ++ filled keep seats (spares_left (sift spares)))
        by_test next true e spares all =
            ap (λ (l : List Seat). s ∷ l) (next spares (λ p a. all p (later_place (s.1.0 == p) (has_place (filled present seats spares) p) a)))
            ∙ ap (λ b. cond b (s ∷ filled keep seats (sift spares)) (refilled s.0 (sift spares) ++ filled keep seats (spares_left (sift spares)))) (sym (all s.1.0 (this_place s.1.0 (has_place (filled present seats spares) s.1.0))))
        by_test next false e [] all =
            next [] (λ p a. all p a)
            ∙ ap (λ b. cond b (s ∷ filled keep seats []) (filled keep seats [])) (sym (absent e))
        by_test next false e (x ∷ xs) all =
            ap (λ (l : List Seat). (s.0, record { 0 = x }) ∷ l) (next xs (λ p a. all p (later_place (x == p) (has_place (filled present seats xs) p) a)))
            ∙ ap (λ b. cond b (s ∷ filled keep seats (x ∷ sift xs)) (refilled s.0 (x ∷ sift xs) ++ filled keep seats (sift xs))) (sym (absent e))
            ∙ ap (λ (l : List ℕ). cond (keep s.1.0) (s ∷ filled keep seats l) (refilled s.0 l ++ filled keep seats (spares_left l)))
            (sym (ap (λ b. cond b (x ∷ sift xs) (sift xs)) (all x (this_place x (has_place (filled present seats xs) x)))))

    pub repaired_fewer : (old : List Seat) → AllKept (repaired old present) → repaired old keep ≡ repaired old present
    repaired_fewer old all =
        sym (filled_fewer old (spares_of old present) all
        ∙ ap (filled keep old) (sym (those_sifted (λ proc. present proc && not (has_place old proc)) (λ proc. keep proc && not (has_place old proc)) 32 (λ m. both (keep m) (present m) (not (has_place old m)) (less m)))))
      where
        both : (k p n : Bool) → (k ≡ true → p ≡ true) → (k && n) ≡ (k && (p && n))
        both true true n f = refl
        both true false n f = absurd (true≢false (sym (f refl)))
        both false p n f = refl
