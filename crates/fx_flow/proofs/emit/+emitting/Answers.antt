use Rattle.std.proofs.Common.{◌≡◌, sym, ◌-◌, suc, length, ◌<◌, arith}
use Rattle.fx_script.specs.declared.job.Stmt.TheOpen.{Stmt-F}
use Rattle.fx_script.specs.declared.job.Stmt.TheVariants as stmt
use Rattle.fx_check.specs.Facts.{facts_of}
use Rattle.fx_flow.specs.declared.instr.Outward.TheVariants as outward
use Rattle.fx_flow.specs.Code.{Nothing, DoesLet, DoesSet, DoesPrint, DoesRegister, DoesWhen, DoesFor, DoesIf, DoesIfAlone, DoesOutward}
use Rattle.fx_flow.proofs.Asks.{barrier_asks, commit_asks, close_asks}
use Rattle.fx_flow.proofs.Emitted.{if_ok, puts_on, puts_one, put_behind, twice, step, at_end}
use Rattle.fx_flow.proofs.emit.+emitting.Goals as goal

pub emit_stmts-loop-left-init : goal.emit_stmts-loop-left-init
emit_stmts-loop-left-init t c = record { within = omega arith; emits = at_end (facts_of c.args.job.now) c.args.code.now c.args.after c.args.body.now }

pub emit_stmts-loop-left-preserved : goal.emit_stmts-loop-left-preserved
emit_stmts-loop-left-preserved t c =
    let within : c.loop-left.left - 1 < length c.args.body.now = omega arith in
    let back : suc (c.loop-left.left - 1) ≡ c.loop-left.left = omega arith in
    record {
      within = omega arith;
      emits = step (facts_of c.args.job.now) c.args.code.now c.loop-left.code c.emit_stmt.new.code c.in_ok-next.next c.loop-left.next c.args.after (c.loop-left.left - 1) c.args.body.now c.index-body-left.result
          within c.index-body-left.is (rw back c.loop-left.invariant.emits) c.in_ok-next.ensures;
    }

pub emit_stmt-returns-in-Let : goal.emit_stmt-returns-in-Let
emit_stmt-returns-in-Let t c =
    let puts = rw (c.names.ensures) at c.put_let.ensures in
    rw (c.in-Let.is) (if_ok c.put_let.result _ _ (λ p puts. puts_one (facts_of c.args.job.now) _ _ p _ _ c.args.after puts (DoesLet c.in-Let.spot c.in-Let.array c.in-Let.value puts.there Nothing)) puts)

pub emit_stmt-returns-in-Set : goal.emit_stmt-returns-in-Set
emit_stmt-returns-in-Set t c =
    let puts = rw (c.names-in-Set.ensures) at c.put_set.ensures in
    rw (c.in-Set.is) (if_ok c.put_set.result _ _ (λ p puts. puts_one (facts_of c.args.job.now) _ _ p _ _ c.args.after puts (DoesSet c.in-Set.spot c.in-Set.counter c.in-Set.value puts.there Nothing)) puts)

pub emit_stmt-returns-in-Print : goal.emit_stmt-returns-in-Print
emit_stmt-returns-in-Print t c =
    let f = facts_of c.args.job.now in
    rw (c.in-Print.is) (if_ok c.put_print.result _ _ (λ p puts. let is = puts f (sym c.names-in-Print.ensures) in puts_one f _ _ p _ _ c.args.after is (DoesPrint c.in-Print.spot c.in-Print.name is.there Nothing)) c.put_print.ensures)

pub emit_stmt-returns-in-Register : goal.emit_stmt-returns-in-Register
emit_stmt-returns-in-Register t c =
    rw (c.in-Register.is) (if_ok c.put_register.result _ _ (λ p puts. puts_one (facts_of c.args.job.now) _ _ p _ _ c.args.after puts (DoesRegister c.in-Register.spot c.in-Register.name puts.there Nothing)) c.put_register.ensures)

pub emit_stmt-returns-in_ok-inside-in-RoleOnly : goal.emit_stmt-returns-in_ok-inside-in-RoleOnly
emit_stmt-returns-in_ok-inside-in-RoleOnly t c =
    let f = facts_of c.args.job.now in
    let e = rw (c.as_slice.ensures) at c.in_ok-inside-in-RoleOnly.ensures in
    rw (c.in-RoleOnly.is)
    (if_ok c.put.result _ _ (λ p puts. puts_on f _ _ _ e.more p _ _ c.args.after e.grew puts
    (DoesWhen c.in-RoleOnly.spot c.in-RoleOnly.role c.in-RoleOnly.body puts.there (put_behind f _ _ p _ _ _ _ puts e.leads) Nothing)) c.put.ensures)

pub emit_stmt-returns-in_ok-inside-in-Loop : goal.emit_stmt-returns-in_ok-inside-in-Loop
emit_stmt-returns-in_ok-inside-in-Loop t c =
    let f = facts_of c.args.job.now in
    let e = rw (c.as_slice-in-Loop.ensures) at c.in_ok-inside-in-Loop.ensures in
    let puts = rw (c.names-in-Loop.ensures) at c.put_for.ensures in
    rw (c.in-Loop.is)
    (if_ok c.put_for.result _ _ (λ p puts. puts_on f _ _ _ e.more p _ _ c.args.after e.grew puts
    (DoesFor c.in-Loop.spot c.in-Loop.counter c.in-Loop.first c.in-Loop.last c.in-Loop.body c.last_of.result puts.there c.last_of.ensures (put_behind f _ _ p _ _ _ _ puts e.leads) Nothing)) puts)

pub emit_stmt-returns-in-None : goal.emit_stmt-returns-in-None
emit_stmt-returns-in-None t c =
    let f = facts_of c.args.job.now in
    let e = rw (c.as_slice-in-Branch.ensures) at c.in_ok-inside-in-Branch.ensures in
    let puts = rw (c.names-in-None.ensures) at c.put_if.ensures in
    rw (c.in-Branch.is, c.in-None.is)
    (if_ok c.put_if.result _ _ (λ p puts. puts_on f _ _ _ e.more p _ _ c.args.after e.grew puts
    (DoesIfAlone c.in-Branch.spot c.in-Branch.test c.in-Branch.left c.in-Branch.right c.in-Branch.yes puts.there (put_behind f _ _ p _ _ _ _ puts e.leads) Nothing)) puts)

pub emit_stmt-returns-in_ok-next-in-Some : goal.emit_stmt-returns-in_ok-next-in-Some
emit_stmt-returns-in_ok-next-in-Some t c =
    let f = facts_of c.args.job.now in
    let first = rw (c.as_slice-in-Branch.ensures) at c.in_ok-inside-in-Branch.ensures in
    let then = rw (c.as_slice-in-Some.ensures) at c.in_ok-next-in-Some.ensures in
    let both = twice f _ _ _ _ _ _ _ c.args.after first then in
    let puts = rw (c.names-in-Some.ensures) at c.put_if-in-Some.ensures in
    rw (c.in-Branch.is, c.in-Some.is)
    (if_ok c.put_if-in-Some.result _ _ (λ p puts. puts_on f _ _ _ both.0 p _ _ c.args.after both.1 puts
    (DoesIf c.in-Branch.spot c.in-Branch.test c.in-Branch.left c.in-Branch.right c.in-Branch.yes c.in-Some.no puts.there
    (put_behind f _ _ p _ _ _ _ puts both.2) (put_behind f _ _ p _ _ _ _ puts then.leads) Nothing)) puts)

pub emit_stmt-returns-in-Barrier : goal.emit_stmt-returns-in-Barrier
emit_stmt-returns-in-Barrier t c =
    let f = facts_of c.args.job.now in
    rw (c.in-Barrier.is)
    (if_ok c.put_outward.result _ _ (λ p puts. puts_one f _ _ p _ _ c.args.after puts
    (DoesOutward c.in-Barrier.spot (Stmt-F.Barrier c.in-Barrier.spot) _ outward.Barrier (stmt.rolls-Barrier c.in-Barrier.spot) (barrier_asks f c.in-Barrier.spot) puts.there Nothing)) c.put_outward.ensures)

pub emit_stmt-returns-in-Reduce : goal.emit_stmt-returns-in-Reduce
emit_stmt-returns-in-Reduce t c =
    let f = facts_of c.args.job.now in
    rw (c.in-Reduce.is)
    (if_ok c.put_outward-in-Reduce.result _ _ (λ p puts. puts_one f _ _ p _ _ c.args.after puts
    (DoesOutward c.in-Reduce.spot (Stmt-F.Reduce c.in-Reduce.spot c.in-Reduce.op c.in-Reduce.counter c.in-Reduce.array) _ c.reduction.result (stmt.rolls-Reduce c.in-Reduce.spot c.in-Reduce.op c.in-Reduce.counter c.in-Reduce.array) (c.reduction.ensures f c.in-Reduce.spot (sym c.names-in-Reduce.ensures)) puts.there Nothing)) c.put_outward-in-Reduce.ensures)

pub emit_stmt-returns-in-Agree : goal.emit_stmt-returns-in-Agree
emit_stmt-returns-in-Agree t c =
    let f = facts_of c.args.job.now in
    rw (c.in-Agree.is)
    (if_ok c.put_outward-in-Agree.result _ _ (λ p puts. puts_one f _ _ p _ _ c.args.after puts
    (DoesOutward c.in-Agree.spot (Stmt-F.Agree c.in-Agree.spot c.in-Agree.counter c.in-Agree.array c.in-Agree.index) _ c.agreement.result (stmt.rolls-Agree c.in-Agree.spot c.in-Agree.counter c.in-Agree.array c.in-Agree.index) (c.agreement.ensures f c.in-Agree.spot (sym c.names-in-Agree.ensures)) puts.there Nothing)) c.put_outward-in-Agree.ensures)

pub emit_stmt-returns-in-Shift : goal.emit_stmt-returns-in-Shift
emit_stmt-returns-in-Shift t c =
    let f = facts_of c.args.job.now in
    rw (c.in-Shift.is)
    (if_ok c.put_outward-in-Shift.result _ _ (λ p puts. puts_one f _ _ p _ _ c.args.after puts
    (DoesOutward c.in-Shift.spot (Stmt-F.Shift c.in-Shift.spot c.in-Shift.source c.in-Shift.target c.in-Shift.by) _ c.shifting.result (stmt.rolls-Shift c.in-Shift.spot c.in-Shift.source c.in-Shift.target c.in-Shift.by) (c.shifting.ensures f c.in-Shift.spot (sym c.names-in-Shift.ensures)) puts.there Nothing)) c.put_outward-in-Shift.ensures)

pub emit_stmt-returns-in-Group : goal.emit_stmt-returns-in-Group
emit_stmt-returns-in-Group t c =
    let f = facts_of c.args.job.now in
    rw (c.in-Group.is)
    (if_ok c.put_outward-in-Group.result _ _ (λ p puts. puts_one f _ _ p _ _ c.args.after puts
    (DoesOutward c.in-Group.spot (Stmt-F.Group c.in-Group.spot c.in-Group.group c.in-Group.start c.in-Group.depth) _ c.creation.result (stmt.rolls-Group c.in-Group.spot c.in-Group.group c.in-Group.start c.in-Group.depth) (c.creation.ensures f c.in-Group.spot) puts.there Nothing)) c.put_outward-in-Group.ensures)

pub emit_stmt-returns-in-Member : goal.emit_stmt-returns-in-Member
emit_stmt-returns-in-Member t c =
    let f = facts_of c.args.job.now in
    rw (c.in-Member.is)
    (if_ok c.put_outward-in-Member.result _ _ (λ p puts. puts_one f _ _ p _ _ c.args.after puts
    (DoesOutward c.in-Member.spot (Stmt-F.Member c.in-Member.spot c.in-Member.group c.in-Member.member c.in-Member.array) _ c.attachment.result (stmt.rolls-Member c.in-Member.spot c.in-Member.group c.in-Member.member c.in-Member.array) (c.attachment.ensures f c.in-Member.spot c.in-Member.array) puts.there Nothing)) c.put_outward-in-Member.ensures)

pub emit_stmt-returns-in_ok-what-in-Store : goal.emit_stmt-returns-in_ok-what-in-Store
emit_stmt-returns-in_ok-what-in-Store t c =
    let f = facts_of c.args.job.now in
    rw (c.in-Store.is)
    (if_ok c.put_outward-in-Store.result _ _ (λ p puts. puts_one f _ _ p _ _ c.args.after puts
    (DoesOutward c.in-Store.spot (Stmt-F.Store c.in-Store.spot c.in-Store.group c.in-Store.member c.in-Store.subset) _ c.in_ok-what-in-Store.what (stmt.rolls-Store c.in-Store.spot c.in-Store.group c.in-Store.member c.in-Store.subset) (c.in_ok-what-in-Store.ensures c.in-Store.spot) puts.there Nothing)) c.put_outward-in-Store.ensures)

pub emit_stmt-returns-in-Commit : goal.emit_stmt-returns-in-Commit
emit_stmt-returns-in-Commit t c =
    let f = facts_of c.args.job.now in
    rw (c.in-Commit.is)
    (if_ok c.put_outward-in-Commit.result _ _ (λ p puts. puts_one f _ _ p _ _ c.args.after puts
    (DoesOutward c.in-Commit.spot (Stmt-F.Commit c.in-Commit.spot c.in-Commit.group) _ (outward.Commit c.group_id-group.result) (stmt.rolls-Commit c.in-Commit.spot c.in-Commit.group) (commit_asks f c.in-Commit.spot c.in-Commit.group c.group_id-group.result c.group_id-group.ensures) puts.there Nothing)) c.put_outward-in-Commit.ensures)

pub emit_stmt-returns-in-CommitBarrier : goal.emit_stmt-returns-in-CommitBarrier
emit_stmt-returns-in-CommitBarrier t c =
    let f = facts_of c.args.job.now in
    rw (c.in-CommitBarrier.is)
    (if_ok c.put_outward-in-CommitBarrier.result _ _ (λ p puts. puts_one f _ _ p _ _ c.args.after puts
    (DoesOutward c.in-CommitBarrier.spot (Stmt-F.CommitBarrier c.in-CommitBarrier.spot c.in-CommitBarrier.group) _ (outward.Close c.group_id-group-in-CommitBarrier.result) (stmt.rolls-CommitBarrier c.in-CommitBarrier.spot c.in-CommitBarrier.group) (close_asks f c.in-CommitBarrier.spot c.in-CommitBarrier.group c.group_id-group-in-CommitBarrier.result c.group_id-group-in-CommitBarrier.ensures) puts.there Nothing)) c.put_outward-in-CommitBarrier.ensures)

pub emit_stmt-returns-in_ok-what-in-Restore : goal.emit_stmt-returns-in_ok-what-in-Restore
emit_stmt-returns-in_ok-what-in-Restore t c =
    let f = facts_of c.args.job.now in
    rw (c.in-Restore.is)
    (if_ok c.put_outward-in-Restore.result _ _ (λ p puts. puts_one f _ _ p _ _ c.args.after puts
    (DoesOutward c.in-Restore.spot (Stmt-F.Restore c.in-Restore.spot c.in-Restore.group c.in-Restore.member c.in-Restore.stamp) _ c.in_ok-what-in-Restore.what (stmt.rolls-Restore c.in-Restore.spot c.in-Restore.group c.in-Restore.member c.in-Restore.stamp) (c.in_ok-what-in-Restore.ensures c.in-Restore.spot) puts.there Nothing)) c.put_outward-in-Restore.ensures)

pub emit_stmt-returns-in_ok-what-in-Drop : goal.emit_stmt-returns-in_ok-what-in-Drop
emit_stmt-returns-in_ok-what-in-Drop t c =
    let f = facts_of c.args.job.now in
    rw (c.in-Drop.is)
    (if_ok c.put_outward-in-Drop.result _ _ (λ p puts. puts_one f _ _ p _ _ c.args.after puts
    (DoesOutward c.in-Drop.spot (Stmt-F.Drop c.in-Drop.spot c.in-Drop.group c.in-Drop.stamp) _ c.in_ok-what-in-Drop.what (stmt.rolls-Drop c.in-Drop.spot c.in-Drop.group c.in-Drop.stamp) (c.in_ok-what-in-Drop.ensures f c.in-Drop.spot (sym c.names-in-Drop.ensures)) puts.there Nothing)) c.put_outward-in-Drop.ensures)
