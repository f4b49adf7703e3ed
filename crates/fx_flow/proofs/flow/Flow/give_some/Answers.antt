use Rattle.fx_flow.specs.Flowing.{Flowing}
use Rattle.fx_flow.proofs.Answered.{entries_stay}
use Rattle.fx_flow.proofs.flow.Flow.give_some.Goals as goal

pub returns-in-Some-restored_of-clause-same_job : goal.returns-in-Some-restored_of-clause-same_job
returns-in-Some-restored_of-clause-same_job c =
    let f : Flowing = record { code = c.self.inside.code.value.instrs; begin = c.self.inside.code.value.begin; routines = c.self.inside.code.value.routines; stand = c.self.inside.cursor } in
    rw (← c.self.view_is) (entries_stay f c.take_entries.new.self _ _ _ c.take_entries.ensures)
