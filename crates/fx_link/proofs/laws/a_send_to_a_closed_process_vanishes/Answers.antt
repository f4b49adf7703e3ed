use Rattle.std.proofs.Common.{refl}
use Rattle.fx_link.proofs.laws.a_send_to_a_closed_process_vanishes.Goals as goal

pub returns : goal.returns
returns c = λ links from to message closed. rw closed refl
