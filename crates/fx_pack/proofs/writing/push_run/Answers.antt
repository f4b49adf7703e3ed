use Rattle.std.proofs.Common.{◌≡◌, suc, ◌+◌, ◌-◌, ◌++◌, ◌<◌, length, drop, sym, ap, ◌∙◌, arith, rules}
use Rattle.std.specs.Prelude.{FitsSigned}
use Rattle.std.specs.Int.{w64}
use Rattle.std.proofs.lemmas.Int.{to_z-of_z}
use Rattle.std.specs.List.{flat_map}
use Rattle.std.specs.FinMap.{entries}
use Rattle.std.proofs.lemmas.Bool.{and_from}
use Rattle.fx_store.specs.Packed.{element_bytes, is_element}
use Rattle.fx_pack.specs.Runs.{going_on, have_64_bits}
use Rattle.fx_pack.proofs.FirstRuns.{few_entries, index_below, drop_at_entry, element_fits, whole_run}
use Rattle.fx_pack.proofs.writing.push_run.Goals as goal

pub overflow_add-from : goal.overflow_add-from
overflow_add-from c = omega (arith, few_entries c.args.elements.now c.requires.indices, c.requires.within)

pub overflow_add-start : goal.overflow_add-start
overflow_add-start c =
    let below : c.in-Some.start < 256 = index_below c.args.elements.now c.args.from (c.in-Some.start, c.in-Some.first.now) c.requires.indices (sym c.in-Some.ensures) in
    omega (arith, below)

pub push_elements-requires-clause-below : goal.push_elements-requires-clause-below
push_elements-requires-clause-below c =
    let below : c.in-Some.start < 256 = index_below c.args.elements.now c.args.from (c.in-Some.start, c.in-Some.first.now) c.requires.indices (sym c.in-Some.ensures) in
    omega (arith, below)

pub returns-clause-pushed : goal.returns-clause-pushed
returns-clause-pushed c =
    rw (drop_at_entry (entries c.args.elements.now) c.args.from (c.in-Some.start, c.in-Some.first.now) (sym c.in-Some.ensures))
    (let fits : FitsSigned w64 c.in-Some.first.now = search rules in
    let bytes : c.to_be_bytes.result ≡ element_bytes c.in-Some.first.now = c.to_be_bytes.ensures ∙ ap element_bytes (to_z-of_z w64 c.in-Some.first.now fits) in
    let first : c.append.new.self ≡ element_bytes c.in-Some.first.now = c.in_ok-append.ensures.ok ∙ (λ i. c.clear.ensures i ++ bytes i) in
    let others = going_on (c.in-Some.start + 1) (drop (c.args.from + 1) (entries c.args.elements.now)) in
    let run : c.as_slice.result.now ≡ element_bytes c.in-Some.first.now ++ flat_map element_bytes others = c.as_slice.ensures ∙ c.in_ok-next.ensures.pushed ∙ ap (λ x. x ++ flat_map element_bytes others) first in
    let count : c.in_ok-next.next - c.args.from ≡ suc (length others) = omega (arith, c.in_ok-next.ensures.count) in
    whole_run c.args.out.now c.append-2.new.self c.append-3.new.self c.append-4.new.self c.to_be_bytes-2.result c.to_be_bytes-3.result c.as_slice.result.now c.in-Some.start (c.in_ok-next.next - c.args.from) c.in-Some.first.now others
    c.in_ok-append-2.ensures.ok c.to_be_bytes-2.ensures c.in_ok-append-3.ensures.ok c.to_be_bytes-3.ensures c.in_ok-append-4.ensures.ok run count)

pub returns-clause-next : goal.returns-clause-next
returns-clause-next c =
    rw (drop_at_entry (entries c.args.elements.now) c.args.from (c.in-Some.start, c.in-Some.first.now) (sym c.in-Some.ensures)) c.in_ok-next.ensures.next

pub returns-clause-bits : goal.returns-clause-bits
returns-clause-bits c =
    let fits : FitsSigned w64 c.in-Some.first.now = search rules in
    rw (drop_at_entry (entries c.args.elements.now) c.args.from (c.in-Some.start, c.in-Some.first.now) (sym c.in-Some.ensures))
    (λ rest. and_from (is_element c.in-Some.first.now) (have_64_bits (drop (c.args.from + 1) (entries c.args.elements.now))) (element_fits c.in-Some.first.now fits) (c.in_ok-next.ensures.bits rest))
