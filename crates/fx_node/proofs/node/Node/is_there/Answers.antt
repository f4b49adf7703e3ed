use Rattle.std.proofs.Common.{◌≡◌, ℕ, List, length, ap, sym, ◌∙◌}
use Rattle.std.specs.Prelude.{is_some}
use Rattle.fx_comm.specs.Seats.{Seat}
use Rattle.fx_machine.specs.Gathering.{due_from}
use Rattle.fx_machine.specs.Nodes.{my_place, size}
use Rattle.fx_node.proofs.Begun.{my_place_is}
use Rattle.fx_node.proofs.Calling.{proc_there}
use Rattle.fx_node.proofs.Glancing.{another_is_there, own_is_there, some_copied}
use Rattle.fx_node.proofs.node.Node.is_there.Goals as goal

pub returns-then-one-own : goal.returns-then-one-own
returns-then-one-own c = λ job n is carried.
    sym (own_is_there n c.args.wanted.now c.args.one.0 (c.if-one-own.true ∙ sym (my_place_is n c.args.self.now.comm c.args.self.now.me c.args.own.0 is.comm is.me c.requires.there)))

pub returns : goal.returns
returns c = λ job n is carried.
    let w = rw (← c.self.view_is) at is in
    let who = c.proc_at-who.result.0 in
    let asked = c.args.wanted.now in
    let counted : c.due-due.result ≡ due_from asked (size n) (my_place n) c.args.one.0 =
    c.due-due.ensures
    ∙ ap (λ (k : ℕ). due_from asked k c.args.own.0 c.args.one.0) (c.size.ensures.size ∙ ap (λ (l : List Seat). length l) (sym w.comm))
    ∙ ap (λ (k : ℕ). due_from asked (size n) k c.args.one.0) (sym (my_place_is n c.args.self.now.comm c.args.self.now.me c.args.own.0 is.comm is.me c.requires.there)) in
    sym
    (another_is_there n asked c.args.one.0 c.due-due.result who c.is_some.result
    (λ same. c.if-one-own.false (same ∙ my_place_is n c.args.self.now.comm c.args.self.now.me c.args.own.0 is.comm is.me c.requires.there)) counted
    (sym (proc_there n c.self.inside.comm c.args.one.0 c.proc_at-who.result w.comm c.proc_at-who.ensures.there))
    (ap is_some (sym (c.part_of.ensures n w.knows w.epoch w.calls)) ∙ sym (c.is_some.ensures ∙ some_copied c.part_of.result)))
