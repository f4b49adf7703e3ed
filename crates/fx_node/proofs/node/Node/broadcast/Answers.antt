use Rattle.std.proofs.Common.{◌<◌, All, take}
use Rattle.std.proofs.lemmas.List.Elements.{All-take}
use Rattle.fx_base.specs.declared.names.Proc.{Proc}
use Rattle.fx_link.specs.declared.message.Message.{Message}
use Rattle.fx_node.specs.Standing.{processes}
use Rattle.fx_node.proofs.Telling.{on_ok, told_below}
use Rattle.fx_node.proofs.node.Node.broadcast.Goals as goal

pub returns-clause-says : goal.returns-clause-says
returns-clause-says c = rw (← c.self.view_is, ← c.loop-member.invariant.same) c.say.ensures.ok

pub returns-clause-to_processes : goal.returns-clause-to_processes
returns-clause-to_processes c =
    let bound = processes c.args.self.now in
    let members : All (λ q. q < processes c.args.self.now) c.as_slice-members.result.now = rw (← c.self.view_is, c.as_slice-members.ensures) c.self.invariant.members in
    on_ok c.say.result (All (λ (x : Proc × Message). x.0.0 < processes c.args.self.now) c.args.sends.now → All (λ (x : Proc × Message). x.0.0 < processes c.args.self.now) c.loop-member.sends)
    (λ were. rw c.loop-member.invariant.sent
    (told_below bound c.args.self.now.me (take c.loop-member.member-index c.as_slice-members.result.now) c.args.message c.args.sends.now (All-take (λ q. q < bound) c.loop-member.member-index c.as_slice-members.result.now members) were))
