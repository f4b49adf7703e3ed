use Rattle.std.proofs.Common.{◌≡◌, ◌++◌, ◌∷◌, [], ◌+◌, ℕ, List, length, set, take, arith, ap, sym, ◌∙◌}
use Rattle.std.proofs.lemmas.List.{length-set, take_all, take_more_set}
use Rattle.fx_comm.specs.Seats.{Seat}
use Rattle.fx_machine.specs.Nodes.{procs_of}
use Rattle.fx_node.proofs.Agreeing.{one_more_process}
use Rattle.fx_node.proofs.agree.processes_of.Goals as goal

pub loop-place-preserved : goal.loop-place-preserved
loop-place-preserved c =
    let sized = c.size-place-end.ensures.size in
    let few = c.size-place-end.ensures.comm.at_most_32 in
    let long = c.loop-place.invariant.long in
    let place : ℕ = c.loop-place.place in
    record {
      long = length-set c.loop-place.processes c.from.result c.proc_at.result.0 ∙ long;
      within = omega (arith, sized, c.loop-place-test.true);
      listed =
          ap (λ (k : ℕ). take (place + 1) (set c.loop-place.processes k c.proc_at.result.0)) c.from.ensures
          ∙ take_more_set c.loop-place.processes place c.proc_at.result.0 (omega (arith, sized, few, long, c.loop-place-test.true))
          ∙ ap (λ (l : List ℕ). l ++ c.proc_at.result.0 ∷ []) c.loop-place.invariant.listed
          ∙ one_more_process c.args.comm.now place c.proc_at.result c.proc_at.ensures.there;
    }

pub returns : goal.returns
returns c =
    let sized = c.size-place-end.ensures.size in
    let all : c.loop-place.place ≡ length c.args.comm.now = omega (arith, sized, c.loop-place.invariant.within, c.loop-place-test.false) in
    ap (λ (k : ℕ). take k c.loop-place.processes) (sym all) ∙ c.loop-place.invariant.listed
    ∙ ap (λ (l : List Seat). procs_of l) (take_all c.loop-place.place c.args.comm.now (omega (arith, all)))
