-- Texts of lists of items, and Booleans.
use Rattle.std.proofs.Common.{◌≡◌, ℕ, Bool, true, false, List, [], ◌∷◌, ◌++◌, map, refl, sym, ap, ◌∙◌, append_assoc, ◌⊎◌, inl, inr, Some}
use Rattle.std.specs.Prelude.{not}
use Rattle.std.specs.List.{filter}
use Rattle.std.proofs.lemmas.List.Elements.{filter-append}
use Rattle.fx_item.specs.declared.item.Item.{Item}
use Rattle.fx_world.specs.declared.counts.Counts.{Counts}
use Rattle.fx_world.specs.declared.shown.Shown.{Shown}
use Rattle.fx_world.specs.Counting.{counted, counted_one}
use Rattle.fx_world.specs.Texts.{ended_line, is_shown, shown_text, text_of}

pub split : (b : Bool) → (b ≡ true) ⊎ (b ≡ false)
split true = inl refl
split false = inr refl

pub map_append : {X Y : Type 0} (f : X → Y) (xs ys : List X) → map f (xs ++ ys) ≡ map f xs ++ map f ys
map_append f [] ys = refl
map_append f (x ∷ xs) ys = ap (λ l. f x ∷ l) (map_append f xs ys)

text_append : (xs ys : List Item) → text_of (xs ++ ys) ≡ text_of xs ++ text_of ys
text_append [] ys = refl
text_append (x ∷ xs) ys = ap (λ (l : List ℕ). ended_line x ++ l) (text_append xs ys) ∙ sym (append_assoc (ended_line x) (text_of xs) (text_of ys))

pub shown_append : (shown : Shown) (xs ys : List Item) → shown_text shown (xs ++ ys) ≡ shown_text shown xs ++ shown_text shown ys
shown_append shown xs ys = ap text_of (filter-append (is_shown shown) xs ys) ∙ text_append (filter (is_shown shown) xs) (filter (is_shown shown) ys)

pub counted_append : (c : Counts) (xs ys : List Item) → counted c (xs ++ ys) ≡ counted (counted c xs) ys
counted_append c [] ys = refl
counted_append c (x ∷ xs) ys = counted_append (counted_one c x) xs ys

pub some_same : {X : Type 0} (x y : X) → Some x ≡ Some y → x ≡ y
some_same x y e = cc

pub not_so : (b c : Bool) → b ≡ not c → b ≡ false → c ≡ true
not_so true c e f = absurd cc
not_so false true e f = refl
not_so false false e f = absurd cc

pub not_not_so : (b c : Bool) → b ≡ not c → b ≡ true → c ≡ false
not_not_so true true e f = absurd cc
not_not_so true false e f = refl
not_not_so false c e f = absurd cc
