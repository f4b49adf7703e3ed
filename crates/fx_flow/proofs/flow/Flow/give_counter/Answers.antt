use Rattle.fx_flow.specs.Flowing.{Flowing}
use Rattle.fx_flow.proofs.Answered.{number_stays}
use Rattle.fx_flow.proofs.flow.Flow.give_counter.Goals as goal

pub returns-in-Some-counter_of-clause-same_job : goal.returns-in-Some-counter_of-clause-same_job
returns-in-Some-counter_of-clause-same_job c =
    let f : Flowing = record { code = c.self.inside.code.value.instrs; begin = c.self.inside.code.value.begin; routines = c.self.inside.code.value.routines; stand = c.self.inside.cursor } in
    rw (← c.self.view_is) (number_stays f c.take_number.new.self _ _ _ c.take_number.ensures)
