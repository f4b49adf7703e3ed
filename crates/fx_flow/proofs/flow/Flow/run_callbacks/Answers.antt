use Rattle.std.proofs.Common.{ap, ◌∙◌}
use Rattle.fx_flow.specs.Flowing.{Flowing}
use Rattle.fx_flow.proofs.Calls.{run_begins}
use Rattle.fx_flow.proofs.flow.Flow.run_callbacks.Goals as goal

pub returns-clause-begins : goal.returns-clause-begins
returns-clause-begins c =
    let now : Flowing = record { code = c.self-2.inside.code.value.instrs; begin = c.self-2.inside.code.value.begin; routines = c.self-2.inside.code.value.routines; stand = c.self-2.inside.cursor } in
    let stays = rw (← c.self-2.view_is) at c.run_registered-run.ensures.stays in
    λ job of begins view. run_begins job c.args.self.now now c.move_to.new.self c.place-place.result (c.place-place.ensures ∙ ap (λ (f : Flowing). f.stand.place) c.self.view_is) c.move_to.ensures (stays job of) of begins view
