use Rattle.std.proofs.Common.{◌≡◌, suc, ◌+◌, ◌-◌, sym, ap, ◌∙◌, arith}
use Rattle.std.specs.FinMap.{empty}
use Rattle.std.proofs.lemmas.Result.{err_from_is_err_and}
use Rattle.fx_pack.specs.Reading.{members_put}
use Rattle.fx_pack.proofs.Steps.{member_step, member_fails, members_end}
use Rattle.fx_pack.proofs.reading.read_members.Goals as goal

pub returns-in_err-member : goal.returns-in_err-member
returns-in_err-member c =
    let p = err_from_is_err_and c.from_residual.result c.from_residual.ensures.1 in
    let more : c.args.count - c.loop.counter ≡ suc (c.args.count - (c.loop.counter + 1)) = omega (arith, c.loop-test.true) in
    let inv = ap (λ k. members_put k c.loop.least c.loop.rest.now c.loop.snapshot) (sym more) ∙ c.loop.invariant.read in
    rw (p.1, p.2) (member_fails c.in_err-member.field-0.0 (c.args.count - (c.loop.counter + 1)) c.loop.least c.loop.rest.now c.loop.snapshot (members_put c.args.count 0 c.args.bytes.now empty) c.in_err-member.ensures.read inv)

pub loop-preserved : goal.loop-preserved
loop-preserved c =
    let more : c.args.count - c.loop.counter ≡ suc (c.args.count - (c.loop.counter + 1)) = omega (arith, c.loop-test.true) in
    let inv = ap (λ k. members_put k c.loop.least c.loop.rest.now c.loop.snapshot) (sym more) ∙ c.loop.invariant.read in
    record {
      read = ap (members_put (c.args.count - (c.loop.counter + 1)) (c.in_ok-member.member + 1) c.in_ok-member.after.now) c.in_ok-put.ensures.ok
          ∙ member_step (c.args.count - (c.loop.counter + 1)) c.loop.least c.in_ok-member.member c.loop.rest.now c.in_ok-member.after.now c.loop.snapshot c.in_ok-member.elements (members_put c.args.count 0 c.args.bytes.now empty) c.in_ok-member.ensures.read inv;
      least = omega (arith, c.in_ok-member.ensures.member);
    }

pub returns : goal.returns
returns c =
    let none : c.args.count - c.loop.counter ≡ 0 = omega (arith, c.loop-test.false) in
    members_end c.loop.least c.loop.rest.now c.loop.snapshot (members_put c.args.count 0 c.args.bytes.now empty) (ap (λ k. members_put k c.loop.least c.loop.rest.now c.loop.snapshot) (sym none) ∙ c.loop.invariant.read)
