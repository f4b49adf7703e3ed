use Rattle.std.proofs.Common.{arith, ◌≡◌, ◌<◌, ℕ, List, length, ap, sym, ◌∙◌}
use Rattle.fx_comm.specs.Seats.{Seat}
use Rattle.fx_inbox.specs.Keeping.{part_from}
use Rattle.fx_machine.specs.Gathering.{due_from}
use Rattle.fx_machine.specs.Nodes.{my_place, size}
use Rattle.fx_node.proofs.Begun.{my_place_is}
use Rattle.fx_node.proofs.Calling.{proc_there}
use Rattle.fx_node.proofs.Learning.{kinds_so, learnt, told_so}
use Rattle.fx_node.proofs.node.Node.learn.Goals as goal

pub returns-clause-this : goal.returns-clause-this
returns-clause-this c = λ job n is carried fresh.
    let w = rw (← c.self.view_is) at is in
    let low : c.args.one.0 < length c.args.known.now = omega (arith, c.requires.below, c.requires.all) in
    let who = c.proc_at-who.result.0 in
    let asked = c.args.wanted.now in
    let counted : c.due-due.result ≡ due_from asked (size n) (my_place n) c.args.one.0 =
    c.due-due.ensures
    ∙ ap (λ (k : ℕ). due_from asked k c.args.own.0 c.args.one.0) (c.size.ensures.size ∙ ap (λ (l : List Seat). length l) (sym w.comm))
    ∙ ap (λ (k : ℕ). due_from asked (size n) k c.args.one.0) (sym (my_place_is n c.args.self.now.comm c.args.self.now.me c.args.own.0 is.comm is.me c.requires.there)) in
    told_so n asked c.args.one.0 who c.in_ok-part.part c.is_lost.result c.has_left.result c.args.known.now c.leave_if.new.known carried
    (learnt c.args.one.0 c.in_ok-part.part c.is_lost.result c.has_left.result c.args.known.now c.give_if.new.known c.lose_if.new.known c.leave_if.new.known low
    c.give_if.ensures c.lose_if.ensures c.leave_if.ensures)
    (proc_there n c.self.inside.comm c.args.one.0 c.proc_at-who.result w.comm c.proc_at-who.ensures.there) fresh
    (c.in_ok-part.ensures.read job n c.size.result c.args.own.0 c.args.one.0 is c.due-due.ensures ∙ ap (λ (d : ℕ). part_from n d who) counted) (c.is_lost.ensures n w.knows) (c.has_left.ensures job n is)

pub returns-clause-kind : goal.returns-clause-kind
returns-clause-kind c = λ kinds.
    let low : c.args.one.0 < length c.args.known.now = omega (arith, c.requires.below, c.requires.all) in
    kinds_so c.args.wanted.now c.args.one.0 c.in_ok-part.part c.is_lost.result c.has_left.result c.args.known.now c.leave_if.new.known low
    (learnt c.args.one.0 c.in_ok-part.part c.is_lost.result c.has_left.result c.args.known.now c.give_if.new.known c.lose_if.new.known c.leave_if.new.known low
    c.give_if.ensures c.lose_if.ensures c.leave_if.ensures) c.in_ok-part.ensures.kind kinds
