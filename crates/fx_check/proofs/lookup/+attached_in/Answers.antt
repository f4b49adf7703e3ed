use Rattle.std.specs.Option.{option_copied}
use Rattle.std.proofs.Common.{sym, ◌∙◌}
use Rattle.fx_check.proofs.Gathering.{attached_here, attached_on, branch_attached_here, branch_attached_on, map_some}
use Rattle.fx_check.proofs.lookup.+attached_in.Goals as goal

pub attached_in-returns-then-is_some : goal.attached_in-returns-then-is_some
attached_in-returns-then-is_some t c =
    attached_here c.args.body.now c.loop-statement.statement-index c.statement-item.result c.args.group.now c.args.member.now (option_copied c.attached_by-first.result)
    c.loop-statement-test.true c.statement-item.is c.attached_by-first.ensures (map_some _ _ ∙ sym c.is_some.ensures ∙ c.if-is_some.true) c.loop-statement.invariant

pub attached_in-loop-statement-preserved : goal.attached_in-loop-statement-preserved
attached_in-loop-statement-preserved t c =
    attached_on c.args.body.now c.loop-statement.statement-index c.statement-item.result c.args.group.now c.args.member.now (option_copied c.attached_by-first.result)
    c.loop-statement-test.true c.statement-item.is c.attached_by-first.ensures (map_some _ _ ∙ sym c.is_some.ensures ∙ c.if-is_some.false) c.loop-statement.invariant

pub attached_by-returns-then-is_some : goal.attached_by-returns-then-is_some
attached_by-returns-then-is_some t c =
    let in_chosen = rw c.as_slice-in-Some.ensures at c.attached_in-first.ensures in
    branch_attached_here c.args.statement.now c.in-Branch.spot c.in-Branch.test c.in-Branch.left c.in-Branch.right c.in-Branch.yes c.in-Some.no c.in-Branch.no c.args.of.now c.args.wanted.now
    (option_copied c.attached_in-first.result) c.in-Branch.is c.in-Some.is in_chosen (map_some _ _ ∙ sym c.is_some.ensures ∙ c.if-is_some.true)

pub attached_by-returns-else-is_some : goal.attached_by-returns-else-is_some
attached_by-returns-else-is_some t c =
    let in_chosen = rw c.as_slice-in-Some.ensures at c.attached_in-first.ensures in
    let in_other = rw c.as_slice-in-Some-2.ensures at c.attached_in-in-Some.ensures in
    in_other ∙ branch_attached_on c.args.statement.now c.in-Branch.spot c.in-Branch.test c.in-Branch.left c.in-Branch.right c.in-Branch.yes c.in-Some.no c.in-Branch.no c.args.of.now c.args.wanted.now
    (option_copied c.attached_in-first.result) c.in-Branch.is c.in-Some.is in_chosen (map_some _ _ ∙ sym c.is_some.ensures ∙ c.if-is_some.false)
