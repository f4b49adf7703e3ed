use Rattle.std.proofs.Common.{◌≡◌, ◌++◌, [], true, length, drop, sym, ap, ◌∙◌, arith}
use Rattle.std.specs.List.{flat_map}
use Rattle.std.specs.FinMap.{entries, len-entries}
use Rattle.std.proofs.lemmas.List.{append-nil}
use Rattle.std.proofs.lemmas.Result.{IfOk-weaker}
use Rattle.fx_store.specs.Packed.{run_bytes, runs_of, section_bytes, section_of}
use Rattle.fx_pack.specs.Runs.{have_64_bits}
use Rattle.fx_pack.proofs.FirstRuns.{few_entries, one_run, drop_all, whole_section}
use Rattle.fx_pack.proofs.writing.push_member.Goals as goal

pub push_run-requires-clause-within : goal.push_run-requires-clause-within
push_run-requires-clause-within c = omega (arith, len-entries c.args.elements.now, c.len.ensures, c.loop-at-test.true)

pub overflow_add-count : goal.overflow_add-count
overflow_add-count c = omega (arith, few_entries c.args.elements.now c.requires, len-entries c.args.elements.now, c.len.ensures, c.loop-at-test.true, c.loop-at.invariant.few)

pub loop-at-preserved : goal.loop-at-preserved
loop-at-preserved c =
    let es = entries c.args.elements.now in
    let inv = c.loop-at.invariant in
    let said = c.in_ok-at.ensures in
    let step = one_run c.loop-at.runs c.push_run.new.out (drop c.loop-at.at es) (drop c.in_ok-at.at es) said.pushed said.next in
    record {
      written = step.written ∙ inv.written;
      counted = omega (arith, step.counted, inv.counted);
      within = said.further.1;
      few = omega (arith, inv.few, said.further);
      bits = λ rest. inv.bits (said.bits rest);
    }

pub returns-clause-pushed : goal.returns-clause-pushed
returns-clause-pushed c =
    let es = entries c.args.elements.now in
    let inv = c.loop-at.invariant in
    let end : drop c.loop-at.at es ≡ [] = drop_all es c.loop-at.at (omega (arith, len-entries c.args.elements.now, c.len.ensures, c.loop-at-test.false)) in
    let runs : c.as_slice.result.now ≡ flat_map run_bytes (runs_of es) =
    c.as_slice.ensures ∙ sym (append-nil c.loop-at.runs) ∙ ap (λ rest. c.loop-at.runs ++ flat_map run_bytes (runs_of rest)) (sym end) ∙ inv.written in
    let none : length (runs_of (drop c.loop-at.at es)) ≡ 0 = ap (λ rest. length (runs_of rest)) end in
    let count : c.loop-at.count ≡ length (runs_of es) = omega (arith, none, inv.counted) in
    IfOk-weaker c.append-2.result
    (λ u. c.append-2.new.self ≡ c.append.new.self ++ c.as_slice.result.now)
    (λ u. c.append-2.new.self ≡ c.args.out.now ++ section_bytes (section_of (c.args.member, c.args.elements.now)))
    (λ u four. whole_section c.args.out.now c.push.new.self c.append.new.self c.append-2.new.self c.to_be_bytes.result c.as_slice.result.now c.args.member.0 c.loop-at.count (runs_of es)
    c.in_ok-push.ensures.ok c.in_ok-append.ensures.ok c.to_be_bytes.ensures four runs count)
    c.append-2.ensures.ok

pub returns-clause-bits : goal.returns-clause-bits
returns-clause-bits c =
    let es = entries c.args.elements.now in
    let end : drop c.loop-at.at es ≡ [] = drop_all es c.loop-at.at (omega (arith, len-entries c.args.elements.now, c.len.ensures, c.loop-at-test.false)) in
    let bits : have_64_bits es ≡ true = c.loop-at.invariant.bits (ap have_64_bits end) in
    IfOk-weaker c.append-2.result
    (λ u. c.append-2.new.self ≡ c.append.new.self ++ c.as_slice.result.now)
    (λ u. have_64_bits es ≡ true)
    (λ u four. bits)
    c.append-2.ensures.ok
