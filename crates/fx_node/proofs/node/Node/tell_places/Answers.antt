use Rattle.std.proofs.Common.{◌≡◌, ◌++◌, ◌<◌, ◌+◌, ℕ, drop, All, List, refl, ap, subst, sym, ◌∙◌}
use Rattle.fx_base.specs.declared.names.Proc.{Proc}
use Rattle.fx_comm.specs.Seats.{Seat}
use Rattle.fx_link.specs.declared.message.Message.{Message}
use Rattle.fx_node.specs.Asking.{to_seats}
use Rattle.fx_machine.specs.Nodes.{procs_of}
use Rattle.fx_node.specs.Standing.{Standing, processes}
use Rattle.fx_node.specs.Stepping.{broadcast}
use Rattle.fx_node.proofs.Agreeing.{told_seats}
use Rattle.fx_node.proofs.Calling.{agree, all_sent, differ, seat_passed, seat_sent, sent_below}
use Rattle.fx_node.proofs.Telling.{on_ok}
use Rattle.fx_node.proofs.node.Node.tell_places.Goals as goal
use Rattle.fx_node.proofs.node.Node.tell_places.Goals.{then-ne+in_ok-copy+in_ok-push, else-ne}

pub loop-seat-init : goal.loop-seat-init
loop-seat-init c = record { sent = ap (λ (l : List (Proc × Message)). l ++ to_seats c.args.self.now.me (λ x. c.args.message) 0 c.as_slice-seats.result.now) c.reserve.ensures; same = refl }

pub loop-seat-preserved : goal.loop-seat-preserved
loop-seat-preserved c =
    let me : ℕ = c.args.self.now.me in
    let meant : ℕ → Message = λ x. c.args.message in
    let items : List Seat = c.as_slice-seats.result.now in
    let k : ℕ = c.loop-seat.seat-index in
    let mine : c.self.inside.me.0 ≡ me = ap (λ (s : Standing). s.me) c.self.view_is in
    elim c.if-ne.branch [
      | then-ne+in_ok-copy+in_ok-push w ↦ record {
        sent =
            ap (λ (l : List (Proc × Message)). l ++ to_seats me meant (k + 1) (drop (k + 1) items)) (w.sends-is ∙ w.in_ok-push.ensures.ok)
            ∙ seat_sent me meant items k _ _ c.loop-seat.sends _ c.loop-seat-test.true (λ same. differ c.ne.result _ _ c.ne.ensures w.if-ne.true (same ∙ sym mine))
            (w.in_ok-copy.ensures ∙ c.loop-seat.invariant.same) c.loop-seat.invariant.sent;
        same = c.loop-seat.invariant.same;
      }
      | else-ne w ↦ record {
        sent =
            ap (λ (l : List (Proc × Message)). l ++ to_seats me meant (k + 1) (drop (k + 1) items)) w.sends-is
            ∙ seat_passed me meant items k _ c.loop-seat.sends _ c.loop-seat-test.true (agree c.ne.result _ _ c.ne.ensures w.if-ne.false ∙ mine) c.loop-seat.invariant.sent;
        same = c.loop-seat.invariant.same;
      }
    ]

pub returns-clause-sends : goal.returns-clause-sends
returns-clause-sends c =
    let meant : ℕ → Message = λ x. c.args.message in
    let items : List Seat = c.as_slice-seats.result.now in
    on_ok c.say.result _
    (all_sent c.args.self.now.me meant items c.loop-seat.seat-index c.loop-seat.sends _ c.loop-seat-test.false c.loop-seat.invariant.sent
    ∙ ap (λ (l : List (Proc × Message)). c.args.sends.now ++ l)
    (told_seats c.args.self.now.me c.args.message items 0
    ∙ ap (λ (l : List Seat). broadcast c.args.self.now.me (procs_of l) c.args.message) (c.as_slice-seats.ensures ∙ c.seats.ensures ∙ ap (λ (s : Standing). s.comm) c.self.view_is)))

pub returns-clause-says : goal.returns-clause-says
returns-clause-says c = rw (← c.self.view_is, ← c.loop-seat.invariant.same) c.say.ensures.ok

pub returns-clause-to_processes : goal.returns-clause-to_processes
returns-clause-to_processes c =
    let bound = processes c.args.self.now in
    let meant : ℕ → Message = λ x. c.args.message in
    let items : List Seat = c.as_slice-seats.result.now in
    let sent : c.loop-seat.sends ≡ c.args.sends.now ++ to_seats c.args.self.now.me meant 0 items =
    all_sent c.args.self.now.me meant items c.loop-seat.seat-index c.loop-seat.sends _ c.loop-seat-test.false c.loop-seat.invariant.sent in
    let below : All (λ (s : Seat). s.1.0 < processes c.args.self.now) items = rw (← c.self.view_is, c.as_slice-seats.ensures, c.seats.ensures) c.self.invariant.seats in
    on_ok c.say.result (All (λ (x : Proc × Message). x.0.0 < processes c.args.self.now) c.args.sends.now → All (λ (x : Proc × Message). x.0.0 < processes c.args.self.now) c.loop-seat.sends)
    (λ were. subst (λ (l : List (Proc × Message)). All (λ (x : Proc × Message). x.0.0 < processes c.args.self.now) l) (sym sent)
    (sent_below bound c.args.self.now.me meant items c.args.sends.now below were))
