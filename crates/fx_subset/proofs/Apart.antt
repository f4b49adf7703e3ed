-- Runs that are apart: how one is added, and what the blocks and the sorted intervals give.
use Rattle.std.proofs.Common.{◌≡◌, ℕ, zero, suc, ◌+◌, ◌-◌, ◌*◌, ◌<◌, ◌≤◌, Bool, true, false, ◌||◌, ◌==◌, nat_lt, nat_le, max, None, All, List, [], ◌∷◌, ◌++◌, length, get_or, drop, drop-cons, add-one, refl, ap, ◌∙◌, arith}
use Rattle.std.specs.List.{list_any}
use Rattle.std.proofs.lemmas.Bool.Decides.{nat_tests}
use Rattle.std.proofs.lemmas.List.Folds.{list_any-append}
use Rattle.fx_subset.specs.Indices.{is_between, is_covered, blocks_of}
use Rattle.std.specs.List.Sorted.{IsNonDecreasingBy}
use Rattle.std.proofs.lemmas.List.Elements.{All-nil, All-cons, All-head, All-tail}
use Rattle.fx_subset.specs.Runs.{AreApart, AreInOrder, IsWhole}
use Rattle.fx_subset.specs.Fault.{first_that_holds, fault_of_pairs}
use Rattle.fx_subset.specs.declared.fault.SubsetFault.{SubsetFault}
use Rattle.fx_subset.specs.declared.fault.SubsetFault.TheVariants.{NoBlocks, EndBeforeStart, Outside}

-- where the run after these may begin
abbrev pub after : ℕ → List (ℕ × ℕ) → ℕ
after from [] = from
after from (run ∷ runs) = after (run.1 + 2) runs

pub after-push : (from : ℕ) (runs : List (ℕ × ℕ)) (first last : ℕ) → after from (runs ++ (first, last) ∷ []) ≡ last + 2
after-push from [] first last = refl
after-push from (run ∷ runs) first last = after-push (run.1 + 2) runs first last

pub apart_push : (from : ℕ) (runs : List (ℕ × ℕ)) (first last : ℕ) → AreApart from runs → after from runs ≤ first → first ≤ last → last < 4294967295 → AreApart from (runs ++ (first, last) ∷ [])
apart_push from [] first last apart room up low = (room, up, low, tt)
apart_push from (run ∷ runs) first last apart room up low = (apart.0, apart.1, apart.2, apart_push (run.1 + 2) runs first last apart.3 room up low)

-- blocks with a gap between them are apart
pub blocks_apart : (n start last stride : ℕ) → start ≤ last → last + 1 < start + stride → ((k : ℕ) → k < n → last + k * stride < 4294967295) → AreApart 0 (blocks_of n start last stride) × (after 0 (blocks_of n start last stride) ≤ start + n * stride)
unfolding blocks_of
blocks_apart zero start last stride up gap low = (tt, omega arith)
blocks_apart (suc n) start last stride up gap low =
    let before = blocks_apart n start last stride up gap (λ k h. low k (omega arith)) in (
      apart_push 0 (blocks_of n start last stride) (start + n * stride) (last + n * stride) before.0 before.1 (omega arith) (low n (omega arith)),
      rw (after-push 0 (blocks_of n start last stride) (start + n * stride) (last + n * stride)) (omega arith),
    )

block_alone : (start last q : ℕ) (a b : ℕ) → a ≡ start → b ≡ last → (is_between (a, b) q || false) ≡ is_between (start, last) q
block_alone start last q a b e f = grind (arith, nat_tests)

block_joined : (start last stride shift next q : ℕ) → start ≤ last → start + stride ≤ last + 1 → next ≡ shift + stride → (is_between (start, last + shift) q || (is_between (start + next, last + next) q || false)) ≡ is_between (start, last + next) q
block_joined start last stride shift next q up near e = grind (arith, nat_tests)

or_none : (a : Bool) → a ≡ (a || false)
or_none true = refl
or_none false = refl

-- blocks that run into one another cover one interval
pub blocks_joined : (n start last stride q : ℕ) → start ≤ last → start + stride ≤ last + 1 → is_covered (blocks_of (suc n) start last stride) q ≡ is_between (start, last + n * stride) q
unfolding blocks_of
blocks_joined zero start last stride q up near = grind (arith, nat_tests)
blocks_joined (suc n) start last stride q up near =
    list_any-append (λ interval. is_between interval q) (blocks_of (suc n) start last stride) ((start + suc n * stride, last + suc n * stride) ∷ [])
    ∙ ap (λ b. b || (is_between (start + suc n * stride, last + suc n * stride) q || false)) (blocks_joined n start last stride q up near)
    ∙ block_joined start last stride (n * stride) (suc n * stride) q up near (omega arith)

-- the runs so far, and the one from `first` to `last` that still grows, with what is left of sorted intervals
pub record Grows (runs : List (ℕ × ℕ)) (first last : ℕ) (left sorted : List (ℕ × ℕ)) : Type 0 where
  pub apart : AreApart 0 runs
  pub room : after 0 runs ≤ first
  pub up : first ≤ last
  pub low : last < 4294967295
  pub order : AreInOrder first left
  pub same : (index : ℕ) → (is_covered runs index || (is_between (first, last) index || is_covered left index)) ≡ is_covered sorted index

pub grows_start : (head : ℕ × ℕ) (rest : List (ℕ × ℕ)) → AreInOrder 0 (head ∷ rest) → Grows [] head.0 head.1 rest (head ∷ rest)
grows_start head rest order = record {
  apart = tt;
  room = omega arith;
  up = order.1.0;
  low = order.1.1;
  order = order.2;
  same = λ index. refl;
}

joined_step : (first last from to q : ℕ) (a b : Bool) → first ≤ from → from ≤ last + 1 → first ≤ last → from ≤ to → (a || (is_between (first, max last to) q || b)) ≡ (a || (is_between (first, last) q || (is_between (from, to) q || b)))
joined_step first last from to q true b h near up up' = refl
joined_step first last from to q false b h near up up' = grind (arith, nat_tests)

-- the same intervals from an earlier index on
in_order_from : (from before : ℕ) (intervals : List (ℕ × ℕ)) → before ≤ from → AreInOrder from intervals → AreInOrder before intervals
in_order_from from before [] h order = tt
in_order_from from before (interval ∷ intervals) h order = let later : from ≤ interval.0 = order.0 in (omega arith, order.1, order.2)

-- an interval that touches the run
pub grows_join : (runs : List (ℕ × ℕ)) (first last : ℕ) (next : ℕ × ℕ) (left sorted : List (ℕ × ℕ)) → Grows runs first last (next ∷ left) sorted → next.0 ≤ last + 1 → Grows runs first (max last next.1) left sorted
grows_join runs first last next left sorted g near =
    let later : first ≤ next.0 = g.order.0 in
    let whole : next.0 ≤ next.1 = g.order.1.0 in
    let low : next.1 < 4294967295 = g.order.1.1 in
    record {
      apart = g.apart;
      room = g.room;
      up = omega arith;
      low = omega arith;
      order = in_order_from next.0 first left later g.order.2;
      same = λ index. joined_step first last next.0 next.1 index (is_covered runs index) (is_covered left index) later near g.up whole ∙ g.same index;
    }

or_assoc : (a b c d : Bool) → ((a || (b || false)) || (c || d)) ≡ (a || (b || (c || d)))
or_assoc true b c d = refl
or_assoc false true c d = refl
or_assoc false false c d = refl

-- an interval past the run's end
pub grows_close : (runs : List (ℕ × ℕ)) (first last : ℕ) (next : ℕ × ℕ) (left sorted : List (ℕ × ℕ)) → Grows runs first last (next ∷ left) sorted → last + 1 < next.0 → Grows (runs ++ (first, last) ∷ []) next.0 next.1 left sorted
grows_close runs first last next left sorted g far =
    record {
      apart = apart_push 0 runs first last g.apart g.room g.up g.low;
      room = rw (after-push 0 runs first last) (omega arith);
      up = g.order.1.0;
      low = g.order.1.1;
      order = g.order.2;
      same = λ index.
          ap (λ b. b || (is_between next index || is_covered left index)) (list_any-append (λ interval. is_between interval index) runs ((first, last) ∷ []))
          ∙ or_assoc (is_covered runs index) (is_between (first, last) index) (is_between next index) (is_covered left index)
          ∙ g.same index;
    }

-- the interval in place i of what there was to go over
pub grows_join_at : (runs : List (ℕ × ℕ)) (first last : ℕ) (rest sorted : List (ℕ × ℕ)) (i : ℕ) (d : ℕ × ℕ) → i < length rest → Grows runs first last (drop i rest) sorted → (get_or rest i d).0 ≤ last + 1 → Grows runs first (max last (get_or rest i d).1) (drop (i + 1) rest) sorted
grows_join_at runs first last rest sorted i d h g near =
    rw (add-one i) (grows_join runs first last (get_or rest i d) (drop (suc i) rest) sorted (rw (drop-cons rest i d) at g) near)

pub grows_close_at : (runs : List (ℕ × ℕ)) (first last : ℕ) (rest sorted : List (ℕ × ℕ)) (i : ℕ) (d : ℕ × ℕ) → i < length rest → Grows runs first last (drop i rest) sorted → last + 1 < (get_or rest i d).0 → Grows (runs ++ (first, last) ∷ []) (get_or rest i d).0 (get_or rest i d).1 (drop (i + 1) rest) sorted
grows_close_at runs first last rest sorted i d h g far =
    rw (add-one i) (grows_close runs first last (get_or rest i d) (drop (suc i) rest) sorted (rw (drop-cons rest i d) at g) far)

in_order_of : (from : ℕ) (intervals : List (ℕ × ℕ)) → All IsWhole intervals → IsNonDecreasingBy (λ interval. interval.0) intervals → ((d : ℕ × ℕ) → 0 < length intervals → from ≤ (get_or intervals 0 d).0) → AreInOrder from intervals
in_order_of from [] whole sorted later = tt
in_order_of from (interval ∷ intervals) whole sorted later = (
  later (0, 0) (omega arith),
  All-head IsWhole interval intervals whole,
  in_order_of interval.0 intervals (All-tail IsWhole interval intervals whole) (λ i j d h below. sorted (suc i) (suc j) d (omega arith) (omega arith))
      (λ d some. sorted 0 1 d (omega arith) (omega arith)),
)

-- sorted intervals are in order
pub in_order : (intervals : List (ℕ × ℕ)) → All IsWhole intervals → IsNonDecreasingBy (λ interval. interval.0) intervals → AreInOrder 0 intervals
in_order intervals whole sorted = in_order_of 0 intervals whole sorted (λ d h. omega arith)

-- runs are whole intervals
pub whole_runs : (from : ℕ) (runs : List (ℕ × ℕ)) → AreApart from runs → All IsWhole runs
whole_runs from [] apart = All-nil IsWhole
whole_runs from (run ∷ runs) apart = All-cons IsWhole run runs (apart.1, apart.2) (whole_runs (run.1 + 2) runs apart.3)

both_false : (a b : Bool) → (a || b) ≡ false → (a ≡ false) × (b ≡ false)
both_false true b e = absurd (cc)
both_false false b e = (refl, e)

pair_whole : (len first last : ℕ) → nat_lt last first ≡ false → nat_le len last ≡ false → len ≤ 4294967295 → IsWhole (first, last)
pair_whole len first last up low fits = grind (arith, nat_tests)

-- pairs with no fault are whole intervals
whole_pairs : (len : ℕ) (pairs : List (ℕ × ℕ)) → list_any (λ pair. nat_lt pair.1 pair.0) pairs ≡ false → list_any (λ pair. nat_le len pair.1) pairs ≡ false → len ≤ 4294967295 → All IsWhole pairs
whole_pairs len [] up low fits = All-nil IsWhole
whole_pairs len (pair ∷ pairs) up low fits =
    let ups = both_false (nat_lt pair.1 pair.0) (list_any (λ pair. nat_lt pair.1 pair.0) pairs) up in
    let lows = both_false (nat_le len pair.1) (list_any (λ pair. nat_le len pair.1) pairs) low in
    All-cons IsWhole pair pairs (pair_whole len pair.0 pair.1 ups.0 lows.0 fits) (whole_pairs len pairs ups.1 lows.1 fits)

no_fault : (a b c : Bool) (x y z : SubsetFault) → first_that_holds ((a, x) ∷ (b, y) ∷ (c, z) ∷ []) ≡ None → (b ≡ false) × (c ≡ false)
no_fault true b c x y z e = absurd (cc)
no_fault false true c x y z e = absurd (cc)
no_fault false false true x y z e = absurd (cc)
no_fault false false false x y z e = (refl, refl)

pub whole_where_no_fault : (len : ℕ) (pairs : List (ℕ × ℕ)) → fault_of_pairs len pairs ≡ None → len ≤ 4294967295 → All IsWhole pairs
whole_where_no_fault len pairs none fits =
    let parts = no_fault (length pairs == 0) (list_any (λ pair. nat_lt pair.1 pair.0) pairs) (list_any (λ pair. nat_le len pair.1) pairs) NoBlocks EndBeforeStart Outside none in
    whole_pairs len pairs parts.0 parts.1 fits

-- some blocks that run into one another cover one interval
pub blocks_cover_one : (blocks start last stride q : ℕ) → 0 < blocks → start ≤ last → stride ≤ last - start + 1 → is_covered (blocks_of blocks start last stride) q ≡ (is_between (start, last + (blocks - 1) * stride) q || false)
blocks_cover_one zero start last stride q some up near = absurd (omega arith)
blocks_cover_one (suc n) start last stride q some up near =
    let before : suc n - 1 ≡ n = omega arith in
    rw before (blocks_joined n start last stride q up (omega arith) ∙ or_none (is_between (start, last + n * stride) q))
