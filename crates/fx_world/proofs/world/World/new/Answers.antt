use Rattle.std.proofs.Common.{arith, false, ◌+◌, Some, refl, sym, ◌∙◌, ap}
use Rattle.std.proofs.lemmas.Bool.Decides.{nat_tests}
use Rattle.std.proofs.lemmas.List.{length_push}
use Rattle.std.proofs.lemmas.List.Elements.{All-push}
use Rattle.fx_world.specs.Standings.{IsOneOf}
use Rattle.fx_world.proofs.First.{first_is, stands_too}
use Rattle.fx_world.proofs.world.World.new.Goals as goal

pub loop-process-preserved : goal.loop-process-preserved
loop-process-preserved c =
    let so = c.loop-process.invariant in
    let node = c.in_ok-new.field-0 in
    rw (c.in_ok-push.ensures.items, c.new-in-loop-process-2.ensures) record {
      count = length_push c.loop-process.posts.items (Some node) ∙ ap (λ n. n + 1) so.count;
      each = All-push (IsOneOf c.procs-procs.result) c.loop-process.posts.items (Some node) so.each (c.in_ok-new.ensures.of_all ∙ sym c.procs-procs.ensures.same);
      stand = stands_too c.args.job.now c.loop-process.posts.items c.loop-process.process (Some node) so.count (refl, c.in_ok-new.ensures.begins) so.stand;
    }

pub returns-clause-begins : goal.returns-clause-begins
returns-clause-begins c =
    first_is c.args.job.now c.procs-procs.result c.rest_bound.result c.loop-process.posts.items c.in_ok-new-2.field-0 c.new-3.result false c.procs-procs.ensures.same
    (rw (c.rest_bound.ensures, c.from.ensures, c.from-2.ensures, c.procs-procs.ensures.same, c.work.ensures.same) refl) c.in_ok-new-2.ensures
    (λ q below. c.loop-process.invariant.stand q (grind (arith, nat_tests, below, c.loop-process-test.false, c.loop-process.auto.process-end)))
