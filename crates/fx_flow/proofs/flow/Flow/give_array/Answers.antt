use Rattle.std.proofs.Common.{refl, sym}
use Rattle.fx_flow.specs.Flowing.{Flowing}
use Rattle.fx_flow.proofs.Answered.{elements_given, elements_stay}
use Rattle.fx_flow.proofs.flow.Flow.give_array.Goals as goal

pub returns-in-Some-target_of-clause-same_job : goal.returns-in-Some-target_of-clause-same_job
returns-in-Some-target_of-clause-same_job c =
    let f : Flowing = record { code = c.self.inside.code.value.instrs; begin = c.self.inside.code.value.begin; routines = c.self.inside.code.value.routines; stand = c.self.inside.cursor } in
    let due = rw (c.place.ensures, c.deref.ensures) at c.in-Some.ensures in
    let goes = elements_given f c.take_elements.new.self c.in-Some.what.now c.in-Some.next c.in-Some-target_of.target c.args.values (sym due) (sym c.in-Some-target_of.ensures) c.take_elements.ensures in
    rw (← c.self.view_is) (elements_stay f (record f { stand = c.take_elements.new.self }) c.args.values refl goes)
