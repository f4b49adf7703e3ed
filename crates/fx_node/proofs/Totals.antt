-- What an operation makes of the numbers of all places, place by place.
use Rattle.std.proofs.Common.{◌≡◌, ◌++◌, ◌+◌, ◌≤◌, ℕ, zero, suc, ℤ, Bool, List, [], ◌∷◌, Some, arith, refl, ap, sym, ◌∙◌}
use Rattle.std.specs.Prelude.{get_or, if◌then◌else◌, pos, unwrap_or}
use Rattle.std.proofs.lemmas.Bool.{eq-eqb, ne_eqb}
use Rattle.fx_base.specs.declared.names.Op.{Op}
use Rattle.fx_inbox.specs.Keeping.{part_from}
use Rattle.fx_machine.specs.Gathering.{numbers_of}
use Rattle.fx_machine.specs.Nodes.{Node, my_place, proc_at}
use Rattle.fx_machine.specs.Numbers.{of_each_below}
use Rattle.fx_walk.specs.Values.{combined, reduced, reduced_with}
use Rattle.fx_walk.specs.declared.wanted.Wanted.{Wanted}
use Rattle.fx_walk.specs.declared.wanted.Wanted.TheVariants as wanted

-- one's own number
pub own_number : (n : Node) (w : Wanted) (op : Op) (own : ℤ) (x : ℕ) → w ≡ wanted.Reduce op own → x ≡ my_place n → get_or (numbers_of n w x) 0 (pos 0) ≡ own
own_number n w op own x reduces is = ap (λ (v : Wanted). get_or (numbers_of n v x) 0 (pos 0)) reduces ∙ ap (λ (b : Bool). get_or (unwrap_or (if b then Some (own ∷ []) else part_from n 1 (proc_at n x)) []) 0 (pos 0)) (eq-eqb x (my_place n) is)

-- another's is the one that was heard
pub another_number : (n : Node) (w : Wanted) (op : Op) (own : ℤ) (x who : ℕ) → w ≡ wanted.Reduce op own → (x ≡ my_place n → ⊥) → who ≡ proc_at n x
    → get_or (numbers_of n w x) 0 (pos 0) ≡ get_or (unwrap_or (part_from n 1 who) []) 0 (pos 0)
another_number n w op own x who reduces other at =
    ap (λ (v : Wanted). get_or (numbers_of n v x) 0 (pos 0)) reduces
    ∙ ap (λ (b : Bool). get_or (unwrap_or (if b then Some (own ∷ []) else part_from n 1 (proc_at n x)) []) 0 (pos 0)) (ne_eqb x (my_place n) other)
    ∙ ap (λ (q : ℕ). get_or (unwrap_or (part_from n 1 q) []) 0 (pos 0)) (sym at)

-- one number more, behind others
reduced_more : (op : Op) (so_far : ℤ) (ns : List ℤ) (m : ℤ) → reduced_with op so_far (ns ++ m ∷ []) ≡ combined op (reduced_with op so_far ns) m
reduced_more op so_far [] m = refl
reduced_more op so_far (n ∷ ns) m = reduced_more op (combined op so_far n) ns m

more : (op : Op) (f : ℕ → ℤ) (k : ℕ) → 1 ≤ k → reduced op (of_each_below k f ++ f k ∷ []) ≡ combined op (reduced op (of_each_below k f)) (f k)
more op f zero some = absurd (omega arith)
more op f (suc zero) some = refl
more op f (suc (suc k)) some = behind (of_each_below (suc k) f) (f (suc k)) (more op f (suc k) (omega arith))
  where
    behind : (ns : List ℤ) (n : ℤ) → reduced op (ns ++ n ∷ []) ≡ combined op (reduced op ns) n → reduced op ((ns ++ n ∷ []) ++ f (suc (suc k)) ∷ []) ≡ combined op (reduced op (ns ++ n ∷ [])) (f (suc (suc k)))
    behind [] n so = refl
    behind (m ∷ ns) n so = reduced_more op m (ns ++ n ∷ []) (f (suc (suc k)))

pub one_number_more : (op : Op) (f : ℕ → ℤ) (k : ℕ) (total : ℤ) → 1 ≤ k → total ≡ reduced op (of_each_below k f) → combined op total (f k) ≡ reduced op (of_each_below (k + 1) f)
one_number_more op f k total some so =
    let next : k + 1 ≡ suc k = omega arith in
    ap (λ (t : ℤ). combined op t (f k)) so ∙ sym (more op f k some) ∙ ap (λ (j : ℕ). reduced op (of_each_below j f)) (sym next)
