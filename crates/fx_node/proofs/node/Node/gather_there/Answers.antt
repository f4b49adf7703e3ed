use Rattle.std.proofs.Common.{◌≡◌, None, subst, sym}
use Rattle.fx_comm.specs.Seats.{place_in}
use Rattle.fx_node.specs.Standing.{Standing}
use Rattle.fx_node.proofs.Calling.{has_its_place}
use Rattle.fx_node.proofs.node.Node.gather_there.Goals as goal

pub returns-in-None-clause-steps : goal.returns-in-None-clause-steps
returns-in-None-clause-steps c = λ job n sends is.
    absurd (has_its_place job c.args.self.now n is c.requires.gathering (subst (λ (s : Standing). place_in s.comm s.me ≡ None) c.self.view_is (sym c.in-None.ensures.place)))
