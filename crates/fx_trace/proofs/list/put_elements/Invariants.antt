-- What is written so far, with the elements that are left, is the whole.
use Rattle.std.proofs.Common.{◌≡◌, ◌++◌, map, drop}
use Rattle.std.specs.FinMap.{entries}
use Rattle.fx_text.specs.Written.{Keeps, spaced}
use Rattle.fx_lines.specs.Lists.{an_element}
use Rattle.fx_trace.proofs.list.put_elements.Given as goal

abbrev pub invariant-loop-k : goal.invariant-loop-k
invariant-loop-k l = (l.out ++ spaced (map an_element.spell (drop l.k (entries l.elements))) ≡ l.fn.out ++ spaced (map an_element.spell (entries l.elements))) × Keeps l.fn.out l.out
