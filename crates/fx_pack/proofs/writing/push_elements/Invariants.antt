use Rattle.std.proofs.Common.{◌≡◌, ◌+◌, ◌-◌, ◌≤◌, ◌++◌, length, drop, true}
use Rattle.std.specs.List.{flat_map}
use Rattle.std.specs.FinMap.{entries}
use Rattle.fx_store.specs.Packed.{element_bytes}
use Rattle.fx_pack.specs.Runs.{going_on, behind, have_64_bits}
use Rattle.fx_pack.proofs.writing.push_elements.Given as goal

abbrev pub invariant-loop-element : goal.invariant-loop-element
invariant-loop-element l =
    let es = entries l.elements in
    record {
      written : l.run ++ flat_map element_bytes (going_on l.index (drop l.at es)) ≡ l.fn.run ++ flat_map element_bytes (going_on l.fn.index (drop l.fn.from es));
      left : behind l.index (drop l.at es) ≡ behind l.fn.index (drop l.fn.from es);
      counted : l.at + length (going_on l.index (drop l.at es)) ≡ l.fn.from + length (going_on l.fn.index (drop l.fn.from es));
      indexed : l.index + length (going_on l.index (drop l.at es)) ≡ l.fn.index + length (going_on l.fn.index (drop l.fn.from es));
      within : l.at ≤ length es;
      below : l.index ≤ 256;
      bits : have_64_bits (drop l.at es) ≡ true → have_64_bits (drop l.fn.from es) ≡ true;
    }

abbrev pub decreases-loop-element : goal.decreases-loop-element
decreases-loop-element l = length (entries l.elements) - l.at
