use Rattle.std.proofs.Common.{sym, ap, ◌∙◌, ◌++◌, ◌∷◌, [], List, ℕ, arith, length-append, ◌<◌, ◌+◌}
use Rattle.std.proofs.lemmas.List.Elements.{All-nil}
use Rattle.fx_node.proofs.Electing.{none_below, one_more_below, one_more_all, below_apart}
use Rattle.fx_node.proofs.node.all_below.Goals as goal

pub loop-process-init : goal.loop-process-init
loop-process-init c = rw c.new-all.ensures (record { all = sym none_below; below = All-nil (λ q. q < 0); count = omega arith })

pub loop-process-preserved : goal.loop-process-preserved
loop-process-preserved c =
    let n : ℕ = c.loop-process.process in
    let i = c.loop-process.invariant in
    rw c.in_ok-push.ensures.ok (record {
      all = ap (λ (l : List ℕ). l ++ n ∷ []) i.all ∙ sym (one_more_below n);
      below = one_more_all c.loop-process.all n i.below;
      count = rw (length-append c.loop-process.all (n ∷ [])) (ap (λ k. k + 1) i.count);
    })

pub returns-clause-apart : goal.returns-clause-apart
returns-clause-apart c = rw c.loop-process.invariant.all (below_apart c.loop-process.process)
