use Rattle.std.proofs.Common.{◌≡◌, ◌+◌, ◌++◌, length, drop, sym, ap, ◌∙◌, arith, rules}
use Rattle.std.specs.Prelude.{FitsSigned}
use Rattle.std.specs.Int.{w64}
use Rattle.std.proofs.lemmas.Int.{to_z-of_z}
use Rattle.std.specs.List.{flat_map}
use Rattle.std.specs.FinMap.{entries}
use Rattle.fx_store.specs.Packed.{element_bytes}
use Rattle.fx_pack.specs.Runs.{going_on}
use Rattle.fx_pack.proofs.FirstRuns.{few_entries, one_element}
use Rattle.fx_pack.proofs.writing.push_elements.Goals as goal

pub overflow_add-at : goal.overflow_add-at
overflow_add-at c = omega (arith, few_entries c.args.elements.now c.requires.indices, c.in-Some.ensures.within)

pub loop-element-preserved : goal.loop-element-preserved
loop-element-preserved c =
    let es = entries c.args.elements.now in
    let on = c.in-Some.ensures.some in
    let len = ap length on.elements in
    let inv = c.loop-element.invariant in
    let fits : FitsSigned w64 c.in-Some.element = search rules in
    let bytes : c.to_be_bytes.result ≡ element_bytes c.in-Some.element = c.to_be_bytes.ensures ∙ ap element_bytes (to_z-of_z w64 c.in-Some.element fits) in
    record {
      written = one_element c.append.new.self c.loop-element.run c.to_be_bytes.result c.in-Some.element (going_on (c.loop-element.index + 1) (drop (c.loop-element.at + 1) es)) (going_on c.loop-element.index (drop c.loop-element.at es)) (c.args.run.now ++ flat_map element_bytes (going_on c.args.index (drop c.args.from es))) c.in_ok-append.ensures.ok bytes on.elements inv.written;
      left = sym on.left ∙ inv.left;
      counted = omega (arith, len, inv.counted);
      indexed = omega (arith, len, inv.indexed);
      within = omega (arith, c.in-Some.ensures.within);
      below = omega (arith, c.in-Some.ensures.within);
      bits = λ rest. inv.bits (on.bits rest);
    }
