use Rattle.std.specs.Int.{w32}
use Rattle.std.proofs.lemmas.Nat.Bits.{bit_at-trailing_zeros}
use Rattle.std.proofs.Common.{◌<◌, sym, ◌∙◌, ap, arith}
use Rattle.fx_base.specs.Sets.{set_below, has_bit}
use Rattle.fx_base.proofs.Bits.{zero_is_empty, trailing_is_least}
use Rattle.fx_base.proofs.procset.ProcSet.least.Goals as goal

pub returns-then-self-eq0-clause-none : goal.returns-then-self-eq0-clause-none
returns-then-self-eq0-clause-none c = sym c.self.view_is ∙ ap (λ b. set_below (has_bit b) 32) c.if-self-eq0.true ∙ zero_is_empty

pub returns-clause-least : goal.returns-clause-least
returns-clause-least c =
    let some : 0 < c.self.inside.bits = omega arith in
    rw (← c.self.view_is) (trailing_is_least c.self.inside.bits some c.self.invariant)

pub returns-clause-below : goal.returns-clause-below
returns-clause-below c =
    let some : 0 < c.self.inside.bits = omega arith in
    (bit_at-trailing_zeros w32 c.self.inside.bits some c.self.invariant).0
