use Rattle.std.proofs.Common.{◌≡◌, None, refl, subst, sym}
use Rattle.fx_ballot.specs.Names.{seat_of}
use Rattle.fx_comm.specs.Seats.{place_in}
use Rattle.fx_machine.specs.Nodes.{procs_of}
use Rattle.fx_node.proofs.Agreeing.{no_place}
use Rattle.fx_node.proofs.Begun.{seat_is_place}
use Rattle.fx_node.specs.Standing.{Standing}
use Rattle.fx_node.proofs.node.Node.say_call_estimate.Goals as goal

pub returns-in_default-clause-says : goal.returns-in_default-clause-says
returns-in_default-clause-says c = λ placed. absurd (no_place c.args.self.now.comm c.args.self.now.me placed (subst (λ (s : Standing). place_in s.comm s.me ≡ None) c.self.view_is (sym c.in_default.ensures.place)))

pub returns-clause-says : goal.returns-clause-says
returns-clause-says c = λ placed.
    let seat : seat_of (procs_of c.self.inside.comm) c.self.inside.me.0 ≡ c.in-Some.place.0 = seat_is_place c.self.inside.comm c.self.inside.me.0 c.in-Some.place.0 (sym c.in-Some.ensures.place) in
    (refl, rw (← c.self.view_is, seat) (rw (← c.self.view_is) at c.in_ok-tell_places.ensures.sends), rw (← c.self.view_is, seat) (rw (← c.self.view_is) at c.in_ok-tell_places.ensures.says))
