-- Each kind's row is the text of the value.
use Rattle.std.proofs.Common.{[], ◌∷◌}
use Rattle.std.specs.Prelude.{codes}
use Rattle.fx_lines.specs.Forms.{tabled}
use Rattle.fx_lines.specs.Messages.{messages}
use Rattle.fx_lines.specs.Slots.{a_process}
use Rattle.fx_trace.specs.Printed.{item_text}
use Rattle.fx_trace.proofs.Texts.{on_ok, same_written, then_written}
use Rattle.fx_trace.proofs.print.put_any_item.Goals as goal

pub returns-in-Kill-clause-ok : goal.returns-in-Kill-clause-ok
returns-in-Kill-clause-ok c = same_written item_text c.put_row.result c.args.out.now c.put_row.new.out c.args.item.now _ c.in-Kill.is c.put_row.ensures.ok

pub returns-in-Join-clause-ok : goal.returns-in-Join-clause-ok
returns-in-Join-clause-ok c = same_written item_text c.put_row-in-Join.result c.args.out.now c.put_row-in-Join.new.out c.args.item.now _ c.in-Join.is c.put_row-in-Join.ensures.ok

pub returns-in-Repaired-clause-ok : goal.returns-in-Repaired-clause-ok
returns-in-Repaired-clause-ok c = same_written item_text c.put_row-in-Repaired.result c.args.out.now c.put_row-in-Repaired.new.out c.args.item.now _ c.in-Repaired.is c.put_row-in-Repaired.ensures.ok

pub returns-in-Callback-clause-ok : goal.returns-in-Callback-clause-ok
returns-in-Callback-clause-ok c = same_written item_text c.put_row-in-Callback.result c.args.out.now c.put_row-in-Callback.new.out c.args.item.now _ c.in-Callback.is c.put_row-in-Callback.ensures.ok

pub returns-in-Init-clause-ok : goal.returns-in-Init-clause-ok
returns-in-Init-clause-ok c = same_written item_text c.put_row-in-Init.result c.args.out.now c.put_row-in-Init.new.out c.args.item.now _ c.in-Init.is c.put_row-in-Init.ensures.ok

pub returns-in-Print-clause-ok : goal.returns-in-Print-clause-ok
returns-in-Print-clause-ok c = same_written item_text c.put_row-in-Print.result c.args.out.now c.put_row-in-Print.new.out c.args.item.now _ c.in-Print.is c.put_row-in-Print.ensures.ok

pub returns-in-Attach-clause-ok : goal.returns-in-Attach-clause-ok
returns-in-Attach-clause-ok c = same_written item_text c.put_row-in-Attach.result c.args.out.now c.put_row-in-Attach.new.out c.args.item.now _ c.in-Attach.is c.put_row-in-Attach.ensures.ok

pub returns-in-Store-clause-ok : goal.returns-in-Store-clause-ok
returns-in-Store-clause-ok c = same_written item_text c.put_row-in-Store.result c.args.out.now c.put_row-in-Store.new.out c.args.item.now _ c.in-Store.is c.put_row-in-Store.ensures.ok

pub returns-in-Commit-clause-ok : goal.returns-in-Commit-clause-ok
returns-in-Commit-clause-ok c = same_written item_text c.put_row-in-Commit.result c.args.out.now c.put_row-in-Commit.new.out c.args.item.now _ c.in-Commit.is c.put_row-in-Commit.ensures.ok

pub returns-in-Restore-clause-ok : goal.returns-in-Restore-clause-ok
returns-in-Restore-clause-ok c = same_written item_text c.put_row-in-Restore.result c.args.out.now c.put_row-in-Restore.new.out c.args.item.now _ c.in-Restore.is c.put_row-in-Restore.ensures.ok

pub returns-in-Refused-clause-ok : goal.returns-in-Refused-clause-ok
returns-in-Refused-clause-ok c = same_written item_text c.put_row-in-Refused.result c.args.out.now c.put_row-in-Refused.new.out c.args.item.now _ c.in-Refused.is c.put_row-in-Refused.ensures.ok

pub returns-in-Barrier-clause-ok : goal.returns-in-Barrier-clause-ok
returns-in-Barrier-clause-ok c = same_written item_text c.put_row-in-Barrier.result c.args.out.now c.put_row-in-Barrier.new.out c.args.item.now _ c.in-Barrier.is c.put_row-in-Barrier.ensures.ok

pub returns-in-Reduce-clause-ok : goal.returns-in-Reduce-clause-ok
returns-in-Reduce-clause-ok c = same_written item_text c.put_row-in-Reduce.result c.args.out.now c.put_row-in-Reduce.new.out c.args.item.now _ c.in-Reduce.is c.put_row-in-Reduce.ensures.ok

pub returns-in-Agree-clause-ok : goal.returns-in-Agree-clause-ok
returns-in-Agree-clause-ok c = same_written item_text c.put_row-in-Agree.result c.args.out.now c.put_row-in-Agree.new.out c.args.item.now _ c.in-Agree.is c.put_row-in-Agree.ensures.ok

pub returns-in-Shift-clause-ok : goal.returns-in-Shift-clause-ok
returns-in-Shift-clause-ok c = same_written item_text c.put_row-in-Shift.result c.args.out.now c.put_row-in-Shift.new.out c.args.item.now _ c.in-Shift.is c.put_row-in-Shift.ensures.ok

pub returns-in-Group-clause-ok : goal.returns-in-Group-clause-ok
returns-in-Group-clause-ok c = same_written item_text c.put_row-in-Group.result c.args.out.now c.put_row-in-Group.new.out c.args.item.now _ c.in-Group.is c.put_row-in-Group.ensures.ok

pub returns-in-Close-clause-ok : goal.returns-in-Close-clause-ok
returns-in-Close-clause-ok c = same_written item_text c.put_row-in-Close.result c.args.out.now c.put_row-in-Close.new.out c.args.item.now _ c.in-Close.is c.put_row-in-Close.ensures.ok

pub returns-in-Drop-clause-ok : goal.returns-in-Drop-clause-ok
returns-in-Drop-clause-ok c = same_written item_text c.put_row-in-Drop.result c.args.out.now c.put_row-in-Drop.new.out c.args.item.now _ c.in-Drop.is c.put_row-in-Drop.ensures.ok

pub returns-in-Passed-clause-ok : goal.returns-in-Passed-clause-ok
returns-in-Passed-clause-ok c = same_written item_text c.put_row-in-Passed.result c.args.out.now c.put_row-in-Passed.new.out c.args.item.now _ c.in-Passed.is c.put_row-in-Passed.ensures.ok

pub returns-in-Value-clause-ok : goal.returns-in-Value-clause-ok
returns-in-Value-clause-ok c = same_written item_text c.put_row-in-Value.result c.args.out.now c.put_row-in-Value.new.out c.args.item.now _ c.in-Value.is c.put_row-in-Value.ensures.ok

pub returns-in-Shifted-clause-ok : goal.returns-in-Shifted-clause-ok
returns-in-Shifted-clause-ok c = same_written item_text c.put_row-in-Shifted.result c.args.out.now c.put_row-in-Shifted.new.out c.args.item.now _ c.in-Shifted.is c.put_row-in-Shifted.ensures.ok

pub returns-in-Created-clause-ok : goal.returns-in-Created-clause-ok
returns-in-Created-clause-ok c = same_written item_text c.put_row-in-Created.result c.args.out.now c.put_row-in-Created.new.out c.args.item.now _ c.in-Created.is c.put_row-in-Created.ensures.ok

pub returns-in-Closed-clause-ok : goal.returns-in-Closed-clause-ok
returns-in-Closed-clause-ok c = same_written item_text c.put_row-in-Closed.result c.args.out.now c.put_row-in-Closed.new.out c.args.item.now _ c.in-Closed.is c.put_row-in-Closed.ensures.ok

pub returns-in-Failed-clause-ok : goal.returns-in-Failed-clause-ok
returns-in-Failed-clause-ok c = same_written item_text c.put_row-in-Failed.result c.args.out.now c.put_row-in-Failed.new.out c.args.item.now _ c.in-Failed.is c.put_row-in-Failed.ensures.ok

pub returns-in-Revoked-clause-ok : goal.returns-in-Revoked-clause-ok
returns-in-Revoked-clause-ok c = same_written item_text c.put_row-in-Revoked.result c.args.out.now c.put_row-in-Revoked.new.out c.args.item.now _ c.in-Revoked.is c.put_row-in-Revoked.ensures.ok

pub returns-in-Ended-clause-ok : goal.returns-in-Ended-clause-ok
returns-in-Ended-clause-ok c = same_written item_text c.put_row-in-Ended.result c.args.out.now c.put_row-in-Ended.new.out c.args.item.now _ c.in-Ended.is c.put_row-in-Ended.ensures.ok

pub returns-in_ok-put_row-in-Send-clause-ok : goal.returns-in_ok-put_row-in-Send-clause-ok
returns-in_ok-put_row-in-Send-clause-ok c =
    same_written item_text c.put_message.result c.args.out.now c.put_message.new.out c.args.item.now _ c.in-Send.is
    (on_ok c.put_message.result
    (then_written c.args.out.now c.put_row-in-Send.new.out c.put_message.new.out (codes "send") (a_process.spell c.in-Send.p ∷ a_process.spell c.in-Send.q ∷ [])
    ((tabled messages).words c.in-Send.message) c.in_ok-put_row-in-Send.ensures.ok)
    c.put_message.ensures.ok)

pub returns-in_ok-put_row-in-Deliver-clause-ok : goal.returns-in_ok-put_row-in-Deliver-clause-ok
returns-in_ok-put_row-in-Deliver-clause-ok c =
    same_written item_text c.put_message-in-Deliver.result c.args.out.now c.put_message-in-Deliver.new.out c.args.item.now _ c.in-Deliver.is
    (on_ok c.put_message-in-Deliver.result
    (then_written c.args.out.now c.put_row-in-Deliver.new.out c.put_message-in-Deliver.new.out (codes "deliver") (a_process.spell c.in-Deliver.p ∷ a_process.spell c.in-Deliver.q ∷ [])
    ((tabled messages).words c.in-Deliver.message) c.in_ok-put_row-in-Deliver.ensures.ok)
    c.put_message-in-Deliver.ensures.ok)

pub returns-in-Told-clause-ok : goal.returns-in-Told-clause-ok
returns-in-Told-clause-ok c = same_written item_text c.put_row-in-Told.result c.args.out.now c.put_row-in-Told.new.out c.args.item.now _ c.in-Told.is c.put_row-in-Told.ensures.ok
