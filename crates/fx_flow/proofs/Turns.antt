-- Another turn in the place of the last item of a list, which is the innermost loop.
use Rattle.std.proofs.Common.{◌≡◌, suc, ◌-◌, ◌<◌, List, [], ◌∷◌, ◌++◌, length, reverse, refl, ap, sym, ◌∙◌, arith}
use Rattle.std.specs.Prelude.{set}
use Rattle.std.proofs.lemmas.List.{length-reverse}
use Rattle.std.proofs.lemmas.Grind.{reverse_onto}
use Rattle.fx_flow.specs.declared.instr.Loop.{Loop}
use Rattle.fx_flow.specs.Loops.{with_innermost}

reversed : (x : Loop) (xs : List Loop) → reverse (x ∷ xs) ≡ reverse xs ++ x ∷ []
reversed x xs = reverse_onto xs x []

innermost_in_front : (turn x : Loop) (loops : List Loop) → 0 < length loops → with_innermost turn (loops ++ x ∷ []) ≡ with_innermost turn loops ++ x ∷ []
innermost_in_front turn x [] h = absurd (omega arith)
innermost_in_front turn x (loop ∷ loops) h = refl

pub last_turned : (turn : Loop) (items : List Loop) → 0 < length items → reverse (set items (length items - 1) turn) ≡ with_innermost turn (reverse items)
last_turned turn [] h = absurd (omega arith)
last_turned turn (x ∷ []) h = refl
last_turned turn (x ∷ y ∷ items) h =
    let here : length (x ∷ y ∷ items) - 1 ≡ suc (length (y ∷ items) - 1) = omega arith in
    let some : 0 < length (y ∷ items) = omega arith in
    let some_reversed : 0 < length (reverse (y ∷ items)) = rw length-reverse some in
    rw here (reversed x (set (y ∷ items) (length (y ∷ items) - 1) turn) ∙ ap (λ (l : List Loop). l ++ x ∷ []) (last_turned turn (y ∷ items) some)
    ∙ sym (innermost_in_front turn x (reverse (y ∷ items)) some_reversed) ∙ ap (with_innermost turn) (sym (reversed x (y ∷ items))))
