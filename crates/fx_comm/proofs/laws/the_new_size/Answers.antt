use Rattle.std.proofs.Common.{min, length, ◌∙◌, ap}
use Rattle.std.specs.FinSet as set
use Rattle.fx_base.proofs.Bits.{length_members}
use Rattle.fx_comm.proofs.Repairs.{repaired_length}
use Rattle.fx_comm.proofs.laws.the_new_size.Goals as goal

pub returns : goal.returns
returns c = λ old present comm below.
    repaired_length (set.contains present) old comm.apart comm.below ∙ ap (min (length old)) (length_members present below)
