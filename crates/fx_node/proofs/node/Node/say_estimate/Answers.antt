use Rattle.std.proofs.Common.{◌≡◌, suc, refl, arith}
use Rattle.fx_ballot.specs.Names.{seat_of}
use Rattle.fx_node.proofs.node.Node.say_estimate.Goals as goal

pub returns-clause-says : goal.returns-clause-says
returns-clause-says c = λ below.
    let next : c.in-Some.next ≡ suc c.self.inside.epoch.0 = omega (arith, c.in-Some.ensures) in
    let seat : c.seat_of.result ≡ seat_of c.self.inside.present c.self.inside.me.0 = rw (← c.as_slice.ensures) c.seat_of.ensures.same in
    (refl, rw (← c.self.view_is, ← next, ← seat) (rw (← c.self.view_is) at c.in_ok-broadcast.ensures.says))
