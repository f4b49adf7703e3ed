use Rattle.std.proofs.Common.{◌<◌, ◌≤◌, map, length, arith}
use Rattle.std.specs.FinMap.{entries, len-entries}
use Rattle.fx_text.specs.Written.{spaced}
use Rattle.fx_lines.specs.Lists.{an_element}
use Rattle.fx_trace.proofs.Texts.{entry_written, is_there, all_written}
use Rattle.fx_trace.proofs.list.put_elements.Goals as goal
use Rattle.fx_trace.proofs.list.put_elements.Goals.{in-Some+in_ok-put_element-in-Some, in-None}

pub loop-k-preserved : goal.loop-k-preserved
loop-k-preserved c = elim c.match-nth.branch [
  | in-Some+in_ok-put_element-in-Some w ↦
      entry_written an_element.spell c.args.out.now (spaced (map an_element.spell (entries c.args.elements.now))) c.loop-k.out w.put_element.new.out c.match-nth.out (entries c.args.elements.now)
      c.loop-k.k (w.in-Some.index, w.in-Some.element.now) w.in-Some.ensures w.in_ok-put_element-in-Some.ensures.ok w.out-is c.loop-k.invariant
  | in-None w ↦
      let below : c.loop-k.k < length (entries c.args.elements.now) = omega (arith, len-entries c.args.elements.now, c.len-k-end.ensures, c.loop-k-test.true) in
      absurd (is_there (entries c.args.elements.now) c.loop-k.k w.in-None.ensures below)
]

pub returns-clause-ok : goal.returns-clause-ok
returns-clause-ok c =
    let past : length (entries c.args.elements.now) ≤ c.loop-k.k = omega (arith, len-entries c.args.elements.now, c.len-k-end.ensures, c.loop-k-test.false) in
    all_written an_element.spell c.args.out.now (spaced (map an_element.spell (entries c.args.elements.now))) c.loop-k.out (entries c.args.elements.now) c.loop-k.k past c.loop-k.invariant.0
