use Rattle.std.proofs.Common.{◌≡◌, Some, sym, ap, ◌∙◌}
use Rattle.std.specs.Option.{option_copied}
use Rattle.fx_inbox.specs.Keeping.{part_from}
use Rattle.fx_node.proofs.Learning.{read_length}
use Rattle.fx_node.proofs.node.Node.heard.Goals as goal

pub returns-in_ok-as_part-in-Some-clause-read : goal.returns-in_ok-as_part-in-Some-clause-read
returns-in_ok-as_part-in-Some-clause-read c = λ job n places own one is due.
    let w = rw (← c.self.view_is) at is in
    let read : Some c.in-Some.values.now ≡ part_from n c.args.due c.args.who = ap option_copied (sym c.in-Some.is) ∙ c.part_of.ensures n w.knows w.epoch w.calls in
    ap Some (c.in_ok-as_part-in-Some.ensures.same places own one (read_length n c.args.due c.args.who c.in-Some.values.now (sym read) ∙ due)) ∙ read
