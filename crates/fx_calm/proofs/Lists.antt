-- Lists of which each element has a property, and lists that are written one after another.
use Rattle.std.proofs.lemmas.Bool.Decides.{nat_tests}
use Rattle.std.proofs.Common.{arith, ◌≡◌, ◌≢◌, ◌<◌, ℕ, zero, suc, ◌+◌, Bool, true, false, ◌==◌, List, [], ◌∷◌, ◌++◌, length, get_or, refl, sym, ap, subst, ◌∙◌, inl, inr}
use Rattle.std.specs.Prelude.{if◌then◌else◌}
use Rattle.std.proofs.lemmas.Bool.{cases_lt}
use Rattle.std.proofs.lemmas.List.{get_or_append_left, length-append}
use Rattle.std.proofs.Math.Seq.{get_or-append_seam}
use Rattle.fx_item.specs.declared.item.Item.{Item}
use Rattle.fx_script.specs.declared.job.Job.{Job}
use Rattle.fx_machine.specs.Numbers.{of_each_below}
use Rattle.fx_legal.specs.Effects.{written}
use Rattle.fx_legal.specs.Ledger.{Ledger}
use Rattle.fx_legal.specs.Legal.{GoesOn, written_all}

-- each element has the property
abbrev pub Each : {X : Type 0} → (X → Type 0) → List X → Type 0
Each Is [] = Unit {0}
Each Is (x ∷ xs) = Is x × Each Is xs

pub each_append : {X : Type 0} (Is : X → Type 0) (xs ys : List X) → Each Is xs → Each Is ys → Each Is (xs ++ ys)
each_append Is [] ys a b = b
each_append Is (x ∷ xs) ys a b = (a.0, each_append Is xs ys a.1 b)

pub each_weaker : {X : Type 0} (Is Has : X → Type 0) → ((x : X) → Is x → Has x) → (xs : List X) → Each Is xs → Each Has xs
each_weaker Is Has weaker [] all = tt
each_weaker Is Has weaker (x ∷ xs) all = (weaker x all.0, each_weaker Is Has weaker xs all.1)

-- ---- numbers

pub equal : (a b : ℕ) → (a == b) ≡ true → a ≡ b
equal a b e = grind (arith, nat_tests)

pub unequal : (a b : ℕ) → (a == b) ≡ false → a ≢ b
unequal a b e = grind (arith, nat_tests)

pub same_number : (a : ℕ) → (a == a) ≡ true
same_number a = grind (arith, nat_tests)

pub other_number : (a b : ℕ) → a ≢ b → (a == b) ≡ false
other_number a b ne = grind (arith, nat_tests)

-- a choice by a test
pub chosen : {X : Type 0} (Is : X → Type 0) (b : Bool) (x y : X) → (b ≡ true → Is x) → (b ≡ false → Is y) → Is (if b then x else y)
chosen Is true x y a c = a refl
chosen Is false x y a c = c refl

-- ---- lists of what all numbers below one have

pub length_of_each : {X : Type 0} (n : ℕ) (f : ℕ → X) → length (of_each_below n f) ≡ n
length_of_each zero f = refl
length_of_each (suc n) f = length-append (of_each_below n f) (f n ∷ []) ∙ ap (λ (k : ℕ). k + 1) (length_of_each n f) ∙ omega arith

pub of_each_at : {X : Type 0} (n : ℕ) (f : ℕ → X) (d : X) (k : ℕ) → k < n → get_or (of_each_below n f) k d ≡ f k
of_each_at zero f d k few = absurd (omega (arith, few))
of_each_at (suc n) f d k few = elim (cases_lt k n) [
  | inl less ↦ get_or_append_left (of_each_below n f) (f n ∷ []) d k (subst (λ (m : ℕ). k < m) (sym (length_of_each n f)) less) ∙ of_each_at n f d k less
  | inr more ↦ let is : k ≡ n = omega (arith, few, more) in
      subst (λ (m : ℕ). get_or (of_each_below n f ++ f n ∷ []) m d ≡ f m) (length_of_each n f ∙ sym is) (subst (λ (m : ℕ). get_or (of_each_below n f ++ f n ∷ []) (length (of_each_below n f)) d ≡ f m) (sym (length_of_each n f)) (get_or-append_seam (of_each_below n f) (f n) [] d))
]

pub each_of_each : {X : Type 0} (Is : X → Type 0) (f : ℕ → X) (n : ℕ) → ((k : ℕ) → Is (f k)) → Each Is (of_each_below n f)
each_of_each Is f zero all = tt
each_of_each Is f (suc n) all = each_append Is (of_each_below n f) (f n ∷ []) (each_of_each Is f n all) (all n, tt)

-- ---- journals

pub written_more : (job : Job) (l : Ledger) (xs ys : List Item) → written_all job l (xs ++ ys) ≡ written_all job (written_all job l xs) ys
written_more job l [] ys = refl
written_more job l (x ∷ xs) ys = written_more job (written job l x) xs ys

pub goes_on_more : (job : Job) (l : Ledger) (xs ys : List Item) → GoesOn job l xs → GoesOn job (written_all job l xs) ys → GoesOn job l (xs ++ ys)
goes_on_more job l [] ys a b = b
goes_on_more job l (x ∷ xs) ys a b = (a.0, goes_on_more job (written job l x) xs ys a.1 b)
