use Rattle.std.proofs.Common.{◌≤◌, sym, ap, ◌∙◌, length, arith}
use Rattle.std.specs.Prelude.{is_some}
use Rattle.fx_node.proofs.Testing.{left_on, one_left, below_32, lost_on, one_lost, none_helps}
use Rattle.fx_node.proofs.node.Node.may_help_out.Goals as goal

pub returns-then-is_some : goal.returns-then-is_some
returns-then-is_some c = λ job n is.
    let w = rw (← c.self.view_is) at is in
    one_left n c.as_slice-member-items.result.now c.loop-member.member-index (w.present ∙ sym c.as_slice-member-items.ensures) c.loop-member-test.true
    (sym (c.if-is_some.ensures ∙ ap is_some (c.vote_of.ensures n w.knows w.epoch))) (c.loop-member.invariant job n is)

pub loop-member-preserved : goal.loop-member-preserved
loop-member-preserved c = λ job n is.
    let w = rw (← c.self.view_is) at is in
    left_on n c.as_slice-member-items.result.now c.loop-member.member-index (w.present ∙ sym c.as_slice-member-items.ensures) c.loop-member-test.true
    (sym (c.if-is_some.ensures ∙ ap is_some (c.vote_of.ensures n w.knows w.epoch))) (c.loop-member.invariant job n is)

pub is_lost-requires : goal.is_lost-requires
is_lost-requires c = below_32 c.self.inside.comm c.loop-place.place c.proc_at.result c.size-place-end.ensures.comm.below c.proc_at.ensures.there

pub returns-then-is_lost : goal.returns-then-is_lost
returns-then-is_lost c = λ job n is.
    let w = rw (← c.self.view_is) at is in
    one_lost n c.self.inside.comm c.loop-place.place c.proc_at.result w.comm c.proc_at.ensures.there (sym (c.is_lost.ensures n w.knows) ∙ c.if-is_lost.true) (c.loop-place.invariant n w.knows)

pub loop-place-preserved : goal.loop-place-preserved
loop-place-preserved c = λ n knows.
    lost_on n.lost c.self.inside.comm c.loop-place.place c.proc_at.result c.proc_at.ensures.there (sym (c.is_lost.ensures n knows) ∙ c.if-is_lost.false) (c.loop-place.invariant n knows)

pub returns : goal.returns
returns c = λ job n is.
    let w = rw (← c.self.view_is) at is in
    let last : length c.self.inside.comm ≤ c.loop-place.place = omega (arith, c.size-place-end.ensures.size, c.loop-place-test.false) in
    none_helps n c.as_slice-member-items.result.now c.self.inside.comm c.loop-member.member-index c.loop-place.place (w.present ∙ sym c.as_slice-member-items.ensures) w.comm
    c.loop-member-test.false last (c.loop-member.invariant job n is) (c.loop-place.invariant n w.knows)
