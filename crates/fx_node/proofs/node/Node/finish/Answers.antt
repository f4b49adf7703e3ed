use Rattle.std.proofs.Common.{◌≡◌, ◌<◌, ℕ, ℤ, List, length, ap, sym, subst, arith, ◌∙◌}
use Rattle.fx_coll.proofs.Machine.{folds, gives as gives_as}
use Rattle.fx_coll.specs.Machine.{StandsFor, values_in}
use Rattle.fx_comm.specs.Seats.{Seat}
use Rattle.fx_machine.specs.Gathering.{gathered, numbers_of, returns_elements, returns_number, source_of, total}
use Rattle.fx_machine.specs.Nodes.{my_place, size}
use Rattle.std.specs.Int.{w64}
use Rattle.std.proofs.lemmas.Int.{to_z-of_z}
use Rattle.fx_node.specs.Asking.{HaveKind}
use Rattle.fx_node.proofs.Begun.{my_place_is}
use Rattle.fx_node.proofs.Learning.{numbers_so, source_fits}
use Rattle.fx_node.specs.Standing.{Standing}
use Rattle.fx_value.specs.Shape.{Fits}
use Rattle.fx_walk.specs.Walk.{Elements}
use Rattle.std.specs.Prelude.{Some}
use Rattle.fx_node.specs.Stepping.{Steps}
use Rattle.fx_node.proofs.Telling.{if_ok}
use Rattle.fx_walk.specs.declared.wanted.Wanted.{Wanted}
use Rattle.fx_walk.specs.declared.wanted.Wanted.TheVariants as wanted
use Rattle.fx_node.proofs.node.Node.finish.Goals as goal

pub returns-in-Barrier-clause-returns : goal.returns-in-Barrier-clause-returns
returns-in-Barrier-clause-returns c = if_ok c.pass.result _ _ (λ moved passes. λ job n sends place state rest is at stands.
    subst (λ (w : Wanted). Steps job n (gathered n w rest) moved c.pass.new.self sends sends c.args.items.now c.pass.new.items) (sym c.in-Barrier.is)
    (passes job n sends place c.args.wanted.now state rest is at)) c.pass.ensures.passes

pub returns-in-Reduce-clause-returns : goal.returns-in-Reduce-clause-returns
returns-in-Reduce-clause-returns c = if_ok c.give_number.result _ _ (λ moved gives. λ job n sends place state rest is at stands.
    let value : c.folded.result ≡ total c.in-Reduce.op n (wanted.Reduce c.in-Reduce.op c.in-Reduce.field-1) =
    c.folded.ensures
    ∙ folds c.args.known.now n c.in-Reduce.op c.in-Reduce.field-1 (subst (λ (w : Wanted). StandsFor c.args.known.now n w) c.in-Reduce.is stands)
    (numbers_so c.in-Reduce.op c.in-Reduce.field-1 c.args.known.now c.requires.whole (subst (λ (w : Wanted). HaveKind w c.args.known.now) c.in-Reduce.is c.requires.kind)) in
    subst (λ (w : Wanted). Steps job n (gathered n w rest) moved c.give_number.new.self sends sends c.args.items.now c.give_number.new.items) (sym c.in-Reduce.is)
    (subst (λ (v : ℤ). Steps job n (Some (returns_number n rest v)) moved c.give_number.new.self sends sends c.args.items.now c.give_number.new.items) value
    (rw (to_z-of_z w64 c.folded.result (record { sfits = c.folded.type_inv })) at (gives job n sends place c.args.wanted.now state rest is at)))) c.give_number.ensures.gives

pub returns-in-Shift-clause-returns : goal.returns-in-Shift-clause-returns
returns-in-Shift-clause-returns c = if_ok c.give_elements.result _ _ (λ moved gives. λ job n sends place state rest is at stands.
    let by : ℕ = c.in-Shift.by in
    let own : List ℤ = c.in-Shift.field-1 in
    let known = c.args.known.now in
    let x : ℕ = c.source_of-source.result in
    let values : List ℤ = values_in c.part_of.result.now in
    let stands_so : StandsFor known n (wanted.Shift by own) = subst (λ (w : Wanted). StandsFor known n w) c.in-Shift.is stands in
    let counted : c.size.result ≡ size n = c.size.ensures.size ∙ ap (λ (s : Standing). length s.comm) c.self.view_is ∙ ap (λ (l : List Seat). length l) (sym is.comm) in
    let source : x ≡ source_of (size n) by (my_place n) =
    c.source_of-source.ensures.is ∙ ap (λ (k : ℕ). source_of k by c.args.own.0) counted
    ∙ ap (source_of (size n) by) (sym (my_place_is n c.args.self.now.comm c.args.self.now.me c.args.own.0 is.comm is.me c.requires.there)) in
    let below : x < size n = omega (arith, c.source_of-source.ensures.below, counted) in
    let value : values ≡ numbers_of n (wanted.Shift by own) (source_of (size n) by (my_place n)) =
    gives_as known n (wanted.Shift by own) x c.part_of.result.now stands_so below c.part_of.ensures ∙ ap (numbers_of n (wanted.Shift by own)) source in
    let fits : Fits c.args.wanted.now (Elements values) =
    subst (λ (w : Wanted). Fits w (Elements values)) (sym c.in-Shift.is) (source_fits n by x own known c.part_of.result.now stands_so source below c.part_of.ensures) in
    subst (λ (w : Wanted). Steps job n (gathered n w rest) moved c.give_elements.new.self sends sends c.args.items.now c.give_elements.new.items) (sym c.in-Shift.is)
    (subst (λ (v : List ℤ). Steps job n (Some (returns_elements n rest v)) moved c.give_elements.new.self sends sends c.args.items.now c.give_elements.new.items) value
    (gives job n sends place c.args.wanted.now state rest is at fits))) c.give_elements.ensures.gives
