use Rattle.std.proofs.Common.{◌++◌, ◌+◌, map, drop}
use Rattle.fx_script.specs.Canonical.{text_of}
use Rattle.fx_script.specs.Spelling.{callback_entries, chained}
use Rattle.fx_script.proofs.TextLemmas.{goes_on}
use Rattle.fx_script.proofs.JobText.{callbacks_from}
use Rattle.fx_script.proofs.print.put_callbacks.Goals as goal

pub loop-callback-preserved : goal.loop-callback-preserved
loop-callback-preserved c =
    goes_on c.loop-callback.out c.put_callback.new.out (text_of (callback_entries c.callback-item.result))
    (text_of (chained (map callback_entries (drop (c.loop-callback.callback-index + 1) c.args.callbacks.now))))
    (text_of (chained (map callback_entries (drop c.loop-callback.callback-index c.args.callbacks.now))))
    (c.args.out.now ++ text_of (chained (map callback_entries c.args.callbacks.now)))
    c.in_ok-put_callback.ensures
    (callbacks_from c.args.callbacks.now c.loop-callback.callback-index c.callback-item.result c.loop-callback-test.true c.callback-item.is)
    c.loop-callback.invariant
