-- Numbers that are written one after the other.
use Rattle.std.proofs.Common.{◌≡◌, ℕ, zero, suc, ◌+◌, ◌-◌, ◌<◌, List, [], ◌∷◌, ◌++◌, map, length, get_or, set, take, drop, refl, sym, ap, ◌∙◌, arith}
use Rattle.std.specs.Prelude.{ℤ, pos, slice_range}
use Rattle.std.specs.Fmt.{signed_decimal}
use Rattle.std.proofs.lemmas.List.{append-nil, append_assoc, take_more_set, length-set, take_all, length-drop, drop-drop}
use Rattle.fx_text.specs.Written.{Keeps, spaced}

-- the first ones, and behind them the others
pub spaced_parts : (ns : List ℤ) (n : ℕ) → spaced (map signed_decimal (take n ns)) ++ spaced (map signed_decimal (drop n ns)) ≡ spaced (map signed_decimal ns)
spaced_parts [] zero = refl
spaced_parts [] (suc n) = refl
spaced_parts (z ∷ ns) zero = refl
spaced_parts (z ∷ ns) (suc n) =
    append_assoc (32 ∷ signed_decimal z) (spaced (map signed_decimal (take n ns))) (spaced (map signed_decimal (drop n ns)))
    ∙ ap (λ (l : List ℕ). (32 ∷ signed_decimal z) ++ l) (spaced_parts ns n)

-- one more of the first ones
pub spaced_more : (ns : List ℤ) (n : ℕ) (d : ℤ) → n < length ns
    → spaced (map signed_decimal (take (suc n) ns)) ≡ spaced (map signed_decimal (take n ns)) ++ 32 ∷ signed_decimal (get_or ns n d)
spaced_more [] n d within = absurd (omega arith)
spaced_more (z ∷ ns) zero d within = append-nil (32 ∷ signed_decimal z)
spaced_more (z ∷ ns) (suc n) d within =
    let less : n < length ns = omega arith in
    ap (λ (l : List ℕ). (32 ∷ signed_decimal z) ++ l) (spaced_more ns n d less)
    ∙ sym (append_assoc (32 ∷ signed_decimal z) (spaced (map signed_decimal (take n ns))) (32 ∷ signed_decimal (get_or ns n d)))

-- two bytes more at the front of a text
two_more : (text : List ℕ) (i a b : ℕ) → i + 1 < length text → take (i + 1 + 1) (set (set text i a) (i + 1) b) ≡ take i text ++ a ∷ b ∷ []
two_more text i a b within =
    let first : i < length text = omega arith in
    let second : i + 1 < length (set text i a) = rw (length-set text i a) within in
    take_more_set (set text i a) (i + 1) b second
    ∙ ap (λ (l : List ℕ). l ++ b ∷ []) (take_more_set text i a first)
    ∙ append_assoc (take i text) (a ∷ []) (b ∷ [])

-- three bytes more at the front of a text
three_more : (text : List ℕ) (i a b c : ℕ) → i + 2 < length text → take (i + 3) (set (set (set text i a) (i + 1) b) (i + 2) c) ≡ take i text ++ a ∷ b ∷ c ∷ []
three_more text i a b c within =
    let second : i + 1 < length text = omega arith in
    let third : i + 2 < length (set (set text i a) (i + 1) b) = rw (length-set (set text i a) (i + 1) b, length-set text i a) within in
    let next : i + 3 ≡ i + 2 + 1 = omega arith in
    let two : i + 2 ≡ i + 1 + 1 = omega arith in
    ap (λ (k : ℕ). take k (set (set (set text i a) (i + 1) b) (i + 2) c)) next
    ∙ take_more_set (set (set text i a) (i + 1) b) (i + 2) c third
    ∙ ap (λ (k : ℕ). take k (set (set text i a) (i + 1) b) ++ c ∷ []) two
    ∙ ap (λ (l : List ℕ). l ++ c ∷ []) (two_more text i a b second)
    ∙ append_assoc (take i text) (a ∷ b ∷ []) (c ∷ [])

-- one number more in a text
number_more : (front new word : List ℕ) (ns : List ℤ) (n : ℕ) (z : ℤ) → n < length ns → z ≡ get_or ns n (pos 0) → word ≡ signed_decimal z
    → front ≡ spaced (map signed_decimal (take n ns)) → new ≡ front ++ 32 ∷ word → new ≡ spaced (map signed_decimal (take (n + 1) ns))
number_more front new word ns n z within is spells so_far more =
    let next : suc n ≡ n + 1 = omega arith in
    more
    ∙ ap (λ (l : List ℕ). l ++ 32 ∷ word) so_far
    ∙ ap (λ (l : List ℕ). spaced (map signed_decimal (take n ns)) ++ 32 ∷ l) spells
    ∙ ap (λ (y : ℤ). spaced (map signed_decimal (take n ns)) ++ 32 ∷ signed_decimal y) is
    ∙ sym (spaced_more ns n (pos 0) within)
    ∙ ap (λ (k : ℕ). spaced (map signed_decimal (take k ns))) next

-- one number of one digit more
pub one_digit_more : (text : List ℕ) (i : ℕ) (ns : List ℤ) (n digit : ℕ) (z : ℤ) → i + 1 < length text → n < length ns → z ≡ get_or ns n (pos 0)
    → digit ∷ [] ≡ signed_decimal z → take i text ≡ spaced (map signed_decimal (take n ns))
    → take (i + 2) (set (set text i 32) (i + 1) digit) ≡ spaced (map signed_decimal (take (n + 1) ns))
one_digit_more text i ns n digit z room within is spells so_far =
    let next : i + 2 ≡ i + 1 + 1 = omega arith in
    number_more (take i text) _ (digit ∷ []) ns n z within is spells so_far
    (ap (λ (k : ℕ). take k (set (set text i 32) (i + 1) digit)) next ∙ two_more text i 32 digit room)

-- one number of two digits more
pub two_digits_more : (text : List ℕ) (i : ℕ) (ns : List ℤ) (n tens ones : ℕ) (z : ℤ) → i + 2 < length text → n < length ns → z ≡ get_or ns n (pos 0)
    → tens ∷ ones ∷ [] ≡ signed_decimal z → take i text ≡ spaced (map signed_decimal (take n ns))
    → take (i + 3) (set (set (set text i 32) (i + 1) tens) (i + 2) ones) ≡ spaced (map signed_decimal (take (n + 1) ns))
two_digits_more text i ns n tens ones z room within is spells so_far =
    number_more (take i text) _ (tens ∷ ones ∷ []) ns n z within is spells so_far (three_more text i 32 tens ones room)

-- what is left behind the first ones
pub spaced_left : (ns : List ℤ) (at n : ℕ) → spaced (map signed_decimal (take n (drop at ns))) ++ spaced (map signed_decimal (drop (at + n) ns)) ≡ spaced (map signed_decimal (drop at ns))
spaced_left ns at n =
    ap (λ (l : List ℤ). spaced (map signed_decimal (take n (drop at ns))) ++ spaced (map signed_decimal l)) (sym (drop-drop n at ns))
    ∙ spaced_parts (drop at ns) n

-- some more
pub whole_more : (ns : List ℤ) (at n : ℕ) (old new whole : List ℕ) → new ≡ old ++ spaced (map signed_decimal (take n (slice_range ns at (length ns))))
    → old ++ spaced (map signed_decimal (drop at ns)) ≡ whole → new ++ spaced (map signed_decimal (drop (at + n) ns)) ≡ whole
whole_more ns at n old new whole some so_far =
    let left = spaced (map signed_decimal (drop (at + n) ns)) in
    let all : slice_range ns at (length ns) ≡ drop at ns = take_all (length ns - at) (drop at ns) (rw (length-drop) (omega arith)) in
    ap (λ (l : List ℕ). l ++ left) some
    ∙ ap (λ (l : List ℤ). (old ++ spaced (map signed_decimal (take n l))) ++ left) all
    ∙ append_assoc old (spaced (map signed_decimal (take n (drop at ns)))) left
    ∙ ap (λ (l : List ℕ). old ++ l) (spaced_left ns at n)
    ∙ so_far

-- what stands in front stays there
pub keeps_through : (a b c : List ℕ) → Keeps a b → Keeps b c → Keeps a c
keeps_through a b c first second =
    (first.0 ++ second.0, second.1 ∙ ap (λ (l : List ℕ). l ++ second.0) first.1 ∙ append_assoc a first.0 second.0)
