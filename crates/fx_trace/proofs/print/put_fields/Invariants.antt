-- What is written so far, with the fields that are left, is the whole.
use Rattle.std.proofs.Common.{◌≡◌, ◌++◌, map, drop}
use Rattle.fx_text.specs.Written.{Keeps, spaced}
use Rattle.fx_trace.specs.Printed.{word_of}
use Rattle.fx_trace.proofs.print.put_fields.Given as goal

abbrev pub invariant-loop-field : goal.invariant-loop-field
invariant-loop-field l = (l.out ++ spaced (map word_of (drop l.field-index l.fields)) ≡ l.fn.out ++ spaced (map word_of l.fields)) × Keeps l.fn.out l.out
