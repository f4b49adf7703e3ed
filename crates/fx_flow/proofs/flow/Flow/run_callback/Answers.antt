use Rattle.std.proofs.Common.{ℕ}
use Rattle.fx_flow.specs.Flowing.{Flowing}
use Rattle.fx_flow.proofs.Calls.{call_prints, call_leaves, call_stays, nothing_printed, nothing_left_behind}
use Rattle.fx_flow.proofs.flow.Flow.run_callback.Goals as goal

pub returns-in-Some-clause-prints : goal.returns-in-Some-clause-prints
returns-in-Some-clause-prints c =
    let f : Flowing = record { code = c.self.inside.code.value.instrs; begin = c.self.inside.code.value.begin; routines = c.self.inside.code.value.routines; stand = c.self.inside.cursor } in
    let part : ℕ × ℕ = (c.in-Some.part.begin, c.in-Some.part.count) in
    let is = rw (c.as_slice.ensures, c.deref.ensures) at c.in-Some.ensures in
    rw (← c.self.view_is) (call_prints c.run_statements.result c.args.view.now f c.move_to.new.self c.args.name.now part is c.move_to.ensures c.run_statements.ensures.prints)

pub returns-in-Some-clause-leaves : goal.returns-in-Some-clause-leaves
returns-in-Some-clause-leaves c =
    let f : Flowing = record { code = c.self.inside.code.value.instrs; begin = c.self.inside.code.value.begin; routines = c.self.inside.code.value.routines; stand = c.self.inside.cursor } in
    let part : ℕ × ℕ = (c.in-Some.part.begin, c.in-Some.part.count) in
    let is = rw (c.as_slice.ensures, c.deref.ensures) at c.in-Some.ensures in
    rw (← c.self.view_is) (call_leaves c.run_statements.result c.args.view.now f c.run_statements.new.self c.move_to.new.self c.args.name.now part is c.move_to.ensures c.run_statements.ensures.leaves)

pub returns-in-Some-clause-stays : goal.returns-in-Some-clause-stays
returns-in-Some-clause-stays c =
    let f : Flowing = record { code = c.self.inside.code.value.instrs; begin = c.self.inside.code.value.begin; routines = c.self.inside.code.value.routines; stand = c.self.inside.cursor } in
    let part : ℕ × ℕ = (c.in-Some.part.begin, c.in-Some.part.count) in
    let is = rw (c.as_slice.ensures, c.deref.ensures) at c.in-Some.ensures in
    rw (← c.self.view_is) (call_stays f c.run_statements.new.self c.move_to.new.self c.args.name.now part is c.move_to.ensures c.run_statements.ensures.stays)

pub returns-in-None-clause-prints : goal.returns-in-None-clause-prints
returns-in-None-clause-prints c =
    let f : Flowing = record { code = c.self.inside.code.value.instrs; begin = c.self.inside.code.value.begin; routines = c.self.inside.code.value.routines; stand = c.self.inside.cursor } in
    let is = rw (c.as_slice.ensures, c.deref.ensures) at c.in-None.ensures in
    rw (← c.self.view_is, c.new.ensures) (λ job of. nothing_printed job c.args.view.now f c.args.name.now is of)

pub returns-in-None-clause-leaves : goal.returns-in-None-clause-leaves
returns-in-None-clause-leaves c =
    let f : Flowing = record { code = c.self.inside.code.value.instrs; begin = c.self.inside.code.value.begin; routines = c.self.inside.code.value.routines; stand = c.self.inside.cursor } in
    let is = rw (c.as_slice.ensures, c.deref.ensures) at c.in-None.ensures in
    rw (← c.self.view_is) (λ job of. nothing_left_behind job c.args.view.now f c.args.name.now is of)
