use Rattle.std.proofs.Common.{◌≡◌, ◌++◌, ◌<◌, ◌+◌, ℕ, drop, All, List, refl, ap, subst, sym, ◌∙◌}
use Rattle.fx_base.specs.declared.names.Proc.{Proc}
use Rattle.fx_comm.specs.Seats.{Seat}
use Rattle.fx_link.specs.declared.message.Message.{Message}
use Rattle.fx_link.specs.declared.message.Message.TheVariants as message
use Rattle.fx_machine.specs.Numbers.{epoch_no}
use Rattle.fx_node.specs.Asking.{share_of, to_seats}
use Rattle.fx_node.specs.Standing.{Standing, processes}
use Rattle.fx_node.proofs.Calling.{agree, all_sent, differ, seat_passed, seat_sent, sent_below}
use Rattle.fx_node.proofs.node.Node.send_to_places.Goals as goal
use Rattle.fx_node.proofs.node.Node.send_to_places.Goals.{then-ne+in_ok-elems+in_ok-push, else-ne}

pub loop-place-init : goal.loop-place-init
loop-place-init c = record {
  sent =
      ap (λ (l : List (Proc × Message)). l ++ to_seats c.args.self.now.me (λ x. message.Part (epoch_no c.args.self.now.epoch) c.args.call (share_of c.args.only c.args.values.now x)) 0 c.as_slice-seats.result.now)
      c.reserve.ensures;
  values = refl;
}

pub loop-place-preserved : goal.loop-place-preserved
loop-place-preserved c =
    let me : ℕ = c.args.self.now.me in
    let meant : ℕ → Message = λ x. message.Part (epoch_no c.args.self.now.epoch) c.args.call (share_of c.args.only c.args.values.now x) in
    let items : List Seat = c.as_slice-seats.result.now in
    let place : ℕ = c.loop-place.place in
    let mine : c.self.inside.me.0 ≡ me = ap (λ (s : Standing). s.me) c.self.view_is in
    elim c.if-ne.branch [
      | then-ne+in_ok-elems+in_ok-push w ↦ record {
        sent =
            ap (λ (l : List (Proc × Message)). l ++ to_seats me meant (place + 1) (drop (place + 1) items)) (w.sends-is ∙ w.in_ok-push.ensures.ok)
            ∙ seat_sent me meant items place _ _ c.loop-place.sends _ c.loop-place-test.true (λ same. differ c.ne.result _ _ c.ne.ensures w.if-ne.true (same ∙ sym mine))
            (ap (λ (s : Standing). message.Part (epoch_no s.epoch) c.args.call w.in_ok-elems.elems) c.self.view_is ∙ ap (λ l. message.Part (epoch_no c.args.self.now.epoch) c.args.call l) w.in_ok-elems.ensures) c.loop-place.invariant.sent;
        values = refl;
      }
      | else-ne w ↦ record {
        sent =
            ap (λ (l : List (Proc × Message)). l ++ to_seats me meant (place + 1) (drop (place + 1) items)) w.sends-is
            ∙ seat_passed me meant items place _ c.loop-place.sends _ c.loop-place-test.true (agree c.ne.result _ _ c.ne.ensures w.if-ne.false ∙ mine) c.loop-place.invariant.sent;
        values = refl;
      }
    ]

pub returns-clause-sends : goal.returns-clause-sends
returns-clause-sends c =
    let meant : ℕ → Message = λ x. message.Part (epoch_no c.args.self.now.epoch) c.args.call (share_of c.args.only c.args.values.now x) in
    let items : List Seat = c.as_slice-seats.result.now in
    all_sent c.args.self.now.me meant items c.loop-place.place c.loop-place.sends _ c.loop-place-test.false c.loop-place.invariant.sent
    ∙ ap (λ (l : List Seat). c.args.sends.now ++ to_seats c.args.self.now.me meant 0 l) (c.as_slice-seats.ensures ∙ c.seats.ensures ∙ ap (λ (s : Standing). s.comm) c.self.view_is)

pub returns-clause-to_processes : goal.returns-clause-to_processes
returns-clause-to_processes c = λ were.
    let bound = processes c.args.self.now in
    let meant : ℕ → Message = λ x. message.Part (epoch_no c.args.self.now.epoch) c.args.call (share_of c.args.only c.args.values.now x) in
    let items : List Seat = c.as_slice-seats.result.now in
    let sent : c.loop-place.sends ≡ c.args.sends.now ++ to_seats c.args.self.now.me meant 0 items =
    all_sent c.args.self.now.me meant items c.loop-place.place c.loop-place.sends _ c.loop-place-test.false c.loop-place.invariant.sent in
    let below : All (λ (s : Seat). s.1.0 < processes c.args.self.now) items = rw (← c.self.view_is, c.as_slice-seats.ensures, c.seats.ensures) c.self.invariant.seats in
    subst (λ (l : List (Proc × Message)). All (λ (x : Proc × Message). x.0.0 < processes c.args.self.now) l) (sym sent)
    (sent_below bound c.args.self.now.me meant items c.args.sends.now below were)
