-- What is written so far, with the callbacks that are left, is the whole.
use Rattle.std.proofs.Common.{◌≡◌, ◌++◌, map, drop}
use Rattle.fx_script.specs.Canonical.{text_of}
use Rattle.fx_script.specs.Spelling.{callback_entries, chained}
use Rattle.fx_script.proofs.print.put_callbacks.Given as goal

abbrev pub invariant-loop-callback : goal.invariant-loop-callback
invariant-loop-callback l =
    l.out ++ text_of (chained (map callback_entries (drop l.callback-index l.callbacks))) ≡ l.fn.out ++ text_of (chained (map callback_entries l.callbacks))
