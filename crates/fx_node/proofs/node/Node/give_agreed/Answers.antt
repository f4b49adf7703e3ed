use Rattle.std.proofs.Common.{subst}
use Rattle.std.specs.Int.{w64}
use Rattle.std.proofs.lemmas.Int.{to_z-of_z}
use Rattle.fx_flow.specs.Flowing.{AsksFor, DoesRest}
use Rattle.fx_node.proofs.Agreeing.{wants_agreement}
use Rattle.fx_node.proofs.Telling.{if_ok}
use Rattle.fx_node.specs.Standing.{Standing}
use Rattle.fx_walk.specs.Walk.{Walk}
use Rattle.fx_walk.specs.declared.wanted.Wanted.TheVariants as wanted
use Rattle.fx_node.proofs.node.Node.give_agreed.Goals as goal
use Rattle.fx_node.proofs.node.Node.give_agreed.Goals.{in-Agree, in_default-2}

pub returns-clause-gives : goal.returns-clause-gives
returns-clause-gives c = elim c.match-branch-2.branch [
  | in-Agree w ↦ rw (w.result-is, w.self-is, w.items-is) (if_ok w.give_number.result _ _ (λ moved gives. λ job n sends place flag state rest is at.
      (rw (to_z-of_z w64 c.args.bits c.ranges.bits) at gives) job n sends place (wanted.Agree flag) state rest is at) w.give_number.ensures.gives)
  | in_default-2 w ↦ rw w.result-is (λ job n sends place flag state rest is at.
      absurd (w.in_default-2.not-Agree flag (wants_agreement job c.args.self.now n place flag state rest c.in_ok-wanted.field-0 is c.requires at
      (subst (λ (s : Standing). (walk : Walk) → DoesRest s.view walk s.flow → AsksFor walk c.in_ok-wanted.field-0) c.self.view_is c.in_ok-wanted.ensures.asked))))
]
