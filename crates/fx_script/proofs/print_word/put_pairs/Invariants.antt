-- What is written so far, with the pairs that are left, is the whole.
use Rattle.std.proofs.Common.{◌≡◌, ◌++◌, drop}
use Rattle.fx_text.specs.Written.{spaced}
use Rattle.fx_script.specs.Spelling.{pairs_words}
use Rattle.fx_script.proofs.print_word.put_pairs.Given as goal

abbrev pub invariant-loop-pair : goal.invariant-loop-pair
invariant-loop-pair l = l.out ++ spaced (pairs_words (drop l.pair-index l.pairs)) ≡ l.fn.out ++ spaced (pairs_words l.pairs)
