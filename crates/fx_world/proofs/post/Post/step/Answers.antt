use Rattle.std.proofs.Common.{◌≡◌, ◌<◌, ◌∙◌, All, Option, subst, sym}
use Rattle.std.proofs.lemmas.Result.{on_ok_weaker}
use Rattle.fx_base.specs.declared.names.Proc.{Proc}
use Rattle.fx_link.specs.declared.message.Message.{Message}
use Rattle.fx_node.specs.Standing.{Standing, processes}
use Rattle.fx_world.specs.Standings.{IsOneOf}
use Rattle.fx_world.proofs.post.Post.step.Goals as goal

pub returns-clause-to_processes : goal.returns-clause-to_processes
returns-clause-to_processes c = on_ok_weaker c.step.result (λ h. λ procs one were.
    let e : processes c.in-Some.node ≡ procs = subst (λ (o : Option Standing). IsOneOf procs o) (sym c.self.view_is ∙ c.in-Some.is) one in
    subst (λ n. All (λ (x : Proc × Message). x.0.0 < n) c.step.new.sends) e
    (h (subst (λ n. All (λ (x : Proc × Message). x.0.0 < n) c.args.sends.now) (sym e) were))) c.step.ensures.to_processes
