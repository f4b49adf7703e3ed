use Rattle.std.proofs.Common.{◌≡◌, ◌∙◌, List, ap, arith, length, map, set, subst, sym}
use Rattle.std.proofs.lemmas.Bool.Decides.{nat_tests}
use Rattle.std.proofs.lemmas.List.{length-map}
use Rattle.std.proofs.lemmas.Grind.{common_steps}
use Rattle.std.proofs.lemmas.List.Edits.{map_over_more}
use Rattle.std.specs.Vec.{with_items}
use Rattle.fx_inbox.specs.Keeping.{Kept}
use Rattle.fx_inbox.specs.contracts.inbox.Inbox.{the_view}
use Rattle.fx_link.specs.declared.message.Message.{Message}
use Rattle.fx_inbox.proofs.Keeping.{all_written, knows_later, of_later}
use Rattle.fx_inbox.specs.Joins.{HasNoJoin}
use Rattle.fx_inbox.proofs.Joins.{left}
use Rattle.fx_inbox.proofs.inbox.Inbox.forget.Goals as goal
use Rattle.fx_inbox.proofs.inbox.Inbox.forget.Goals.{then-self, else-self}

pub loop-row-preserved : goal.loop-row-preserved
loop-row-preserved c =
    ap (λ (row : List Message). set c.loop-row.row-items c.loop-row.row-index row) (c.forget.ensures ∙ ap (of_later c.args.epoch.0 c.args.call.0) (sym c.row-item.is))
    ∙ map_over_more (of_later c.args.epoch.0 c.args.call.0) c.deref_mut-row-items.result.now c.loop-row.row-items c.loop-row.row-index c.row-item.result c.loop-row-test.true c.loop-row.invariant c.row-item.is

pub returns-clause-ok : goal.returns-clause-ok
returns-clause-ok c = λ me before calls lost texts low know.
    let rows : c.loop-row.row-items ≡ map (of_later c.args.epoch.0 c.args.call.0) c.args.self.now.messages =
    all_written (of_later c.args.epoch.0 c.args.call.0) c.deref_mut-row-items.result.now c.loop-row.row-items c.loop-row.row-index c.loop-row-test.false c.loop-row.invariant
    ∙ ap (λ (rows : List (List Message)). map (of_later c.args.epoch.0 c.args.call.0) rows) (c.deref_mut-row-items.ensures.value ∙ ap (λ (b : Kept). b.messages) c.self.view_is)
    in
    let left : Kept = the_view (record { me = c.self.inside.me; lost = c.self.inside.lost; rows = with_items c.self.inside.rows c.loop-row.row-items; joined = c.self.inside.joined }) in
    let written : left.messages ≡ c.loop-row.row-items = grind (arith, common_steps) in
    knows_later me before calls c.args.epoch.0 c.args.call.0 lost texts c.args.self.now
    left (λ i. record { me = (c.self.view_is i).me; lost = (c.self.view_is i).lost; messages = (written ∙ rows) i }) low know

pub invariant_of-self : goal.invariant_of-self
invariant_of-self c =
    let rows : c.loop-row.row-items ≡ map (of_later c.args.epoch.0 c.args.call.0) c.self.inside.rows.items =
    all_written (of_later c.args.epoch.0 c.args.call.0) c.deref_mut-row-items.result.now c.loop-row.row-items c.loop-row.row-index c.loop-row-test.false c.loop-row.invariant
    ∙ ap (λ (rows : List (List Message)). map (of_later c.args.epoch.0 c.args.call.0) rows) c.deref_mut-row-items.ensures.value
    in
    let kept : Kept = the_view (record { me = c.self.inside.me; lost = c.self.inside.lost; rows = with_items c.self.inside.rows c.loop-row.row-items; joined = c.self.inside.joined }) in
    let written : kept.messages ≡ c.loop-row.row-items = grind (arith, common_steps) in
    let all : kept.messages ≡ map (of_later c.args.epoch.0 c.args.call.0) c.self.inside.rows.items = written ∙ rows in
    let counted : length kept.messages ≡ length c.self.inside.rows.items = ap (λ (rows : List (List Message)). length rows) all ∙ length-map c.self.inside.rows.items (of_later c.args.epoch.0 c.args.call.0) in
    let few = c.self.invariant.0 in (
      (omega (arith, counted, few.0), omega (arith, counted, few.1)),
      elim c.if-self.branch [
        | then-self w ↦ λ still. subst (λ (rows : List (List Message)). HasNoJoin rows) w.deref.ensures.value (w.has_joins-self-inside.ensures (sym w.self-is ∙ still))
        | else-self w ↦ λ still. subst (λ (rows : List (List Message)). HasNoJoin rows) (sym all) (left c.args.epoch.0 c.args.call.0 c.self.inside.rows.items (c.self.invariant.1 (grind (arith, nat_tests, w.if-self.false))))
      ],
    )
