-- One call after another.
use Rattle.std.proofs.Common.{◌≡◌, ℕ, ◌+◌, List, ◌++◌, take, drop, Option, Some, None, sym, ap, ◌∙◌, append_assoc}
use Rattle.std.proofs.lemmas.List.{take-append-drop, drop-drop}
use Rattle.fx_io.specs.Told.{Loses, Gains}

-- bytes that are gone, and then more
pub loses_more : (a b c : Option (List ℕ)) (x y : List ℕ) → Loses a b x → Loses b c y → Loses a c (x ++ y)
loses_more None None None x y p q = tt
loses_more None None (Some c) x y p q = absurd q
loses_more None (Some b) c x y p q = absurd p
loses_more (Some a) None c x y p q = absurd p
loses_more (Some a) (Some b) None x y p q = absurd q
loses_more (Some a) (Some b) (Some c) x y p q = p ∙ ap (λ (l : List ℕ). x ++ l) q ∙ sym (append_assoc x y c)

-- bytes that were added, and then more
pub gains_more : (a b c : Option (List ℕ)) (x y : List ℕ) → Gains a b x → Gains b c y → Gains a c (x ++ y)
gains_more None None None x y p q = tt
gains_more None None (Some c) x y p q = absurd q
gains_more None (Some b) c x y p q = absurd p
gains_more (Some a) None c x y p q = absurd p
gains_more (Some a) (Some b) None x y p q = absurd q
gains_more (Some a) (Some b) (Some c) x y p q = q ∙ ap (λ (l : List ℕ). l ++ y) p ∙ append_assoc a x y

-- a source behind so many bytes is what it gave and the source behind these too
pub front_gone : (held got left : List ℕ) (at n : ℕ) → drop at held ≡ left → got ≡ take n (drop at held) → left ≡ got ++ drop (at + n) held
front_gone held got left at n is gave =
    sym is ∙ sym (take-append-drop n (drop at held)) ∙ ap (λ (l : List ℕ). l ++ drop n (drop at held)) (sym gave)
    ∙ ap (λ (l : List ℕ). got ++ l) (drop-drop n at held)
