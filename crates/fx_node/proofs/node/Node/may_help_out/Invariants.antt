use Rattle.fx_machine.specs.Nodes.{Node}
use Rattle.fx_inbox.specs.Keeping.{IsInboxOf}
use Rattle.fx_node.specs.Standing.{IsNodeOf}
use Rattle.fx_script.specs.declared.job.Job.{Job}
use Rattle.fx_node.proofs.Testing.{AnyLeft, AnyLost}
use Rattle.fx_node.proofs.node.Node.may_help_out.Given as goal

-- of the members that are left one has left, exactly where one has
abbrev pub invariant-loop-member : goal.invariant-loop-member
invariant-loop-member l = (job : Job) (n : Node) → IsNodeOf job l.self n → AnyLeft n l.member-items l.member-index

-- of the places that are left one is lost, exactly where one is
abbrev pub invariant-loop-place : goal.invariant-loop-place
invariant-loop-place l = (n : Node) → IsInboxOf n l.self-inside.inbox → AnyLost n.lost l.self-inside.comm l.place
