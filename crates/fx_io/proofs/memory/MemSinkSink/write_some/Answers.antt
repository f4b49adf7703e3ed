use Rattle.std.proofs.Common.{refl, arith}
use Rattle.std.proofs.lemmas.Grind.{common_steps}
use Rattle.fx_io.proofs.memory.MemSinkSink.write_some.Goals as goal
use Rattle.fx_io.proofs.memory.MemSinkSink.write_some.Goals.{in-Ok, in-Err}

pub returns-clause-answer : goal.returns-clause-answer
returns-clause-answer c =
    elim c.match-append.branch [
      | in-Ok w ↦ rw (w.result-is, ← c.self.view_is) (grind (arith, common_steps), refl)
      | in-Err w ↦ rw (w.result-is, ← c.self.view_is) (grind (arith, common_steps))
    ]
