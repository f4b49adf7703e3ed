use Rattle.std.proofs.Common.{◌<◌, length}
use Rattle.std.specs.FinSet as set
use Rattle.fx_base.specs.Sets.{members_of}
use Rattle.fx_base.proofs.Bits.{length_members}
use Rattle.fx_comm.proofs.Repairs.{repaired_comm}
use Rattle.fx_comm.proofs.laws.a_repair_gives_a_communicator.Goals as goal

pub returns : goal.returns
returns c = λ old present comm below some.
    let members : 0 < length (members_of present) = rw (length_members present below) some in
    repaired_comm (set.contains present) old comm members
