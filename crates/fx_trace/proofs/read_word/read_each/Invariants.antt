-- What is read so far, in front of what the pieces that are left say, is what all of them say.
use Rattle.std.proofs.Common.{◌≡◌, ◌++◌, length}
use Rattle.std.specs.Option.{option_map}
use Rattle.fx_lines.specs.Forms.{read_each}
use Rattle.fx_trace.proofs.read_word.read_each.Given as goal

abbrev pub invariant-loop-piece : goal.invariant-loop-piece
invariant-loop-piece g l = read_each g.T.Field.form.read l.fn.pieces ≡ option_map (λ rest. l.list ++ rest) (read_each g.T.Field.form.read l.pieces)

abbrev pub decreases-loop-piece : goal.decreases-loop-piece
decreases-loop-piece g l = length l.pieces
