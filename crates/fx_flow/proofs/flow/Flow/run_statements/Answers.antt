use Rattle.std.proofs.Common.{◌≡◌, ◌<◌, ◌++◌, ◌-◌, true, List, Option, Some, None, arith, ap, subst, ◌∙◌}
use Rattle.fx_script.specs.declared.job.Job.{Job}
use Rattle.fx_script.specs.declared.job.Stmt.{Stmt}
use Rattle.fx_walk.specs.declared.action.At.{At}
use Rattle.fx_walk.specs.declared.action.At.TheVariants as at
use Rattle.fx_walk.specs.declared.printed.Printed.{Printed}
use Rattle.fx_walk.specs.contracts.action.At.{the_type}
use Rattle.std.proofs.lemmas.List.{append-nil}
use denote.Enum.Bare.{sameb}
use Rattle.fx_flow.specs.Flowing.{IsDue}
use Rattle.fx_flow.proofs.Calls.{Continues, one_less, none_left, plain_where_left, told}
use Rattle.fx_flow.proofs.flow.Flow.run_statements.Goals as goal
use Rattle.fx_flow.proofs.flow.Flow.run_statements.Goals.{in-Some+in_ok-push, in_default, then-loop-left-test+else-eq, else-loop-left-test}

pub loop-left-preserved : goal.loop-left-preserved
loop-left-preserved c = λ job body due.
    let left = c.loop-left.left in
    let some : 0 < left = c.loop-left-test.true in
    let on = one_less job c.args.view.now body c.args.self.now c.loop-left.self c.act.new.self c.loop-left.prints left c.in_ok-printed.field-0
    (c.loop-left.invariant job body due) some c.in_ok-printed.ensures.same c.in_ok-printed.ensures.acts in
    let onward : (printed : Option Printed) → c.in_ok-printed.field-0 ≡ printed → Continues job c.args.view.now body c.args.self.now c.act.new.self (c.loop-left.prints ++ told printed) (left - 1) =
    λ printed is. subst (λ (p : Option Printed). Continues job c.args.view.now body c.args.self.now c.act.new.self (c.loop-left.prints ++ told p) (left - 1)) is on in
    elim c.match-branch-2.branch [
      | in-Some+in_ok-push w ↦ rw (w.prints-is, w.in_ok-push.ensures.ok) (onward (Some w.in-Some.printed) w.in-Some.is)
      | in_default w ↦ rw (w.prints-is) (rw append-nil at (onward None w.in_default.is))
    ]

-- where the loop ends nothing is left
over : (c : goal.Left-loop-left) (job : Job) (body : List Stmt) → IsDue job body c.args.count c.args.self.now → c.loop-left.left ≡ 0
over c job body due =
    elim c.loop-left-test.branch [
      | then-loop-left-test+else-eq w ↦
          let plain : w.at.result ≡ at.Plain = w.at.ensures.same ∙ plain_where_left job c.args.view.now body c.args.self.now c.loop-left.self c.loop-left.prints c.loop-left.left (c.loop-left.invariant job body due) w.loop-left-test.true in
          let equal : w.eq.result ≡ true = w.eq.ensures ∙ ap (λ (a : At). sameb the_type a at.Plain) plain in
          absurd cc
      | else-loop-left-test w ↦ omega arith
    ]

pub returns-clause-prints : goal.returns-clause-prints
returns-clause-prints c = λ job body due.
    (none_left job c.args.view.now body c.args.self.now c.loop-left.self c.loop-left.prints c.loop-left.left (c.loop-left.invariant job body due) (over c job body due)).0

pub returns-clause-leaves : goal.returns-clause-leaves
returns-clause-leaves c = λ job body due.
    (none_left job c.args.view.now body c.args.self.now c.loop-left.self c.loop-left.prints c.loop-left.left (c.loop-left.invariant job body due) (over c job body due)).1
