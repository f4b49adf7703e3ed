use Rattle.std.proofs.Common.{ℤ, List, [], Option, ap, sym, ◌∙◌}
use Rattle.std.specs.Prelude.{get_or, pos, unwrap_or}
use Rattle.std.specs.Option.{option_copied}
use Rattle.std.specs.Int.{w64}
use Rattle.std.proofs.lemmas.Int.{to_z-of_z}
use Rattle.fx_node.proofs.Begun.{my_place_is}
use Rattle.fx_node.proofs.Calling.{proc_there}
use Rattle.fx_node.proofs.Totals.{another_number, own_number}
use Rattle.fx_node.proofs.node.Node.number_of.Goals as goal

pub returns-then-one-own : goal.returns-then-one-own
returns-then-one-own c = λ job n op number is reduces.
    to_z-of_z w64 c.own_number.result (record { sfits = c.own_number.type_inv }) ∙ c.own_number.ensures op number reduces ∙ sym (own_number n c.args.wanted.now op number c.args.one.0 reduces (c.if-one-own.true ∙ sym (my_place_is n c.args.self.now.comm c.args.self.now.me c.args.own.0 is.comm is.me c.requires.there)))

pub returns-in-Some : goal.returns-in-Some
returns-in-Some c = λ job n op number is reduces.
    let w = rw (← c.self.view_is) at is in
    to_z-of_z w64 c.first_number.result (record { sfits = c.first_number.type_inv }) ∙ c.first_number.ensures
    ∙ ap (λ (o : Option (List ℤ)). get_or (unwrap_or o []) 0 (pos 0)) (ap (λ o. option_copied o) (sym c.in-Some.is) ∙ c.part_of.ensures n w.knows w.epoch w.calls)
    ∙ sym
    (another_number n c.args.wanted.now op number c.args.one.0 c.proc_at-who.result.0 reduces
    (λ same. c.if-one-own.false (same ∙ my_place_is n c.args.self.now.comm c.args.self.now.me c.args.own.0 is.comm is.me c.requires.there))
    (sym (proc_there n c.self.inside.comm c.args.one.0 c.proc_at-who.result w.comm c.proc_at-who.ensures.there)))

pub returns-in-None : goal.returns-in-None
returns-in-None c = λ job n op number is reduces.
    let w = rw (← c.self.view_is) at is in
    ap (λ (o : Option (List ℤ)). get_or (unwrap_or o []) 0 (pos 0)) (ap (λ o. option_copied o) (sym c.in-None.is) ∙ c.part_of.ensures n w.knows w.epoch w.calls)
    ∙ sym
    (another_number n c.args.wanted.now op number c.args.one.0 c.proc_at-who.result.0 reduces
    (λ same. c.if-one-own.false (same ∙ my_place_is n c.args.self.now.comm c.args.self.now.me c.args.own.0 is.comm is.me c.requires.there))
    (sym (proc_there n c.self.inside.comm c.args.one.0 c.proc_at-who.result w.comm c.proc_at-who.ensures.there)))
