use Rattle.std.proofs.Common.{ℕ, List, ◌-◌, length, drop, take, arith}
use Rattle.fx_subset.proofs.Apart.{grows_join_at, grows_close_at, apart_push}
use Rattle.fx_subset.proofs.runs.joined_in_order.Goals as goal
use Rattle.fx_subset.proofs.runs.joined_in_order.Goals.{then-next-last, else-next-last+in_ok-push}

pub loop-next-preserved : goal.loop-next-preserved
loop-next-preserved c =
    let rest : List (ℕ × ℕ) = take (length c.args.sorted.now - 1) (drop 1 c.args.sorted.now) in
    elim c.if-next-last.branch [
      | then-next-last w ↦
          let joined = grows_join_at c.loop-next.runs.items c.loop-next.first c.loop-next.last rest c.args.sorted.now c.loop-next.next-index (0, 0) (omega arith) c.loop-next.invariant (omega arith) in
          rw (w.runs-is, w.first-is, w.last-is, w.max-last.ensures) joined
      | else-next-last+in_ok-push w ↦
          let closed = grows_close_at c.loop-next.runs.items c.loop-next.first c.loop-next.last rest c.args.sorted.now c.loop-next.next-index (0, 0) (omega arith) c.loop-next.invariant (omega arith) in
          rw (w.runs-is, w.first-is, w.last-is, w.in_ok-push.ensures.items) closed
    ]

pub returns-clause-apart : goal.returns-clause-apart
returns-clause-apart c =
    let grown = c.loop-next.invariant in
    rw c.in_ok-push-2.ensures.items (apart_push 0 c.loop-next.runs.items c.loop-next.first c.loop-next.last grown.apart grown.room grown.up grown.low)
