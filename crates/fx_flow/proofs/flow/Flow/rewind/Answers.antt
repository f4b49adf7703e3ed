use Rattle.fx_flow.specs.Flowing.{Flowing}
use Rattle.fx_flow.proofs.Kept.{rewound_begins, rewound_stays}
use Rattle.fx_flow.proofs.flow.Flow.rewind.Goals as goal

pub returns-clause-begins : goal.returns-clause-begins
returns-clause-begins c =
    let f : Flowing = record { code = c.self.inside.code.value.instrs; begin = c.self.inside.code.value.begin; routines = c.self.inside.code.value.routines; stand = c.self.inside.cursor } in
    rw (← c.self.view_is) (λ job of view. rewound_begins job f c.rewind.new.self c.args.role (rw c.deref.ensures at c.rewind.ensures) of view)

pub returns-clause-same_job : goal.returns-clause-same_job
returns-clause-same_job c =
    let f : Flowing = record { code = c.self.inside.code.value.instrs; begin = c.self.inside.code.value.begin; routines = c.self.inside.code.value.routines; stand = c.self.inside.cursor } in
    rw (← c.self.view_is) (λ job of. rewound_stays job f c.rewind.new.self c.args.role (rw c.deref.ensures at c.rewind.ensures) of)
