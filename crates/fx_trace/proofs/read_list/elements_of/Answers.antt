use Rattle.std.proofs.Common.{◌≡◌, ℕ, ◌+◌, ◌<◌, ◌≤◌, cond, true, false, not, refl, ap, ◌∙◌, arith, inl, inr, rules, to_z, of_z, w64}
use Rattle.std.specs.Cmp.{nat_cmp_total}
use Rattle.std.specs.FinMap.{insert}
use Rattle.std.specs.Ordering.{is_lt, nat_cmp}
use Rattle.std.specs.Prelude.{◌==◌, nat_lt}
use Rattle.std.specs.Vec.Iter.{into_iter_items}
use Rattle.std.specs.declared.cmp.Ordering.TheVariants.{Equal, Greater}
use Rattle.std.proofs.lemmas.Bool.{cases_lt, lt-ltb, le-ltb}
use Rattle.fx_trace.proofs.RisenLemmas.{rises_from_nothing, rises_on, does_not_rise}
use Rattle.fx_trace.proofs.read_list.elements_of.Goals as goal

-- what is not below the number after an index is above the index
next_index : (index next k : ℕ) → next ≡ index + 1 → not (nat_lt k next) ≡ is_lt (nat_cmp index k)
next_index index next k is = elim (cases_lt index k) [
  | inl below ↦
      let past : next ≤ k = omega arith in
      rw (lt-ltb index k below, le-ltb k next past) refl
  | inr above ↦
      let under : k < next = omega arith in
      rw (lt-ltb k next under, le-ltb index k above) (elim (index == k) as (λ b. false ≡ is_lt (cond b Equal Greater)) [ true ↦ refl | false ↦ refl ])
]

pub loop-index-init : goal.loop-index-init
loop-index-init c =
    rises_from_nothing nat_cmp c.args.entries (into_iter_items c.into_iter-index-iterator.result) c.new-elements.result (λ k. not (nat_lt k 0))
    (c.into_iter-index-iterator.ensures.into_iter_gives.0 ∙ c.into_items-index-items.ensures) c.new-elements.ensures
    (λ k. let least : 0 ≤ k = omega arith in ap not (le-ltb k 0 least))

pub returns-then-from-least : goal.returns-then-from-least
returns-then-from-least c =
    let below : c.in-Some.index < c.loop-index.least = omega (arith, c.from.ensures, c.if-from-least.true) in
    does_not_rise nat_cmp c.args.entries c.loop-index.yielded (into_iter_items c.loop-index.index-iterator) (into_iter_items c.next.new.self) c.loop-index.elements
    (λ k. not (nat_lt k c.loop-index.least)) (c.in-Some.index, c.in-Some.element) c.in-Some.ensures.steps.0 (ap not (lt-ltb _ _ below)) c.loop-index.invariant

pub loop-index-preserved : goal.loop-index-preserved
loop-index-preserved c =
    let past : c.loop-index.least ≤ c.in-Some.index = omega (arith, c.from.ensures, c.if-from-least.false) in
    let same : to_z w64 (of_z w64 c.in-Some.element) ≡ c.in-Some.element = search rules in
    rises_on nat_cmp nat_cmp_total c.args.entries c.loop-index.yielded (into_iter_items c.loop-index.index-iterator) (into_iter_items c.next.new.self) c.loop-index.elements c.put.new.self
    (λ k. not (nat_lt k c.loop-index.least)) (λ k. not (nat_lt k (c.from-least.result + 1))) (c.in-Some.index, c.in-Some.element) c.in-Some.ensures.steps.0 (ap not (le-ltb _ _ past))
    (c.in_ok-put.ensures.ok ∙ ap (insert c.loop-index.elements c.in-Some.index) same) (λ k. next_index c.in-Some.index (c.from-least.result + 1) k (ap (λ n. n + 1) c.from-least.ensures)) c.loop-index.invariant
