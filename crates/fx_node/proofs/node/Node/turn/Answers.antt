use Rattle.std.proofs.Common.{sym, ap, subst, ◌∙◌}
use Rattle.fx_ballot.specs.Names.{Distinct}
use Rattle.fx_inbox.specs.Keeping.{IsInboxOf}
use Rattle.fx_inbox.specs.declared.ballot.Ballot.{Ballot as Described}
use Rattle.fx_node.proofs.Turned.{takes_next}
use Rattle.fx_node.specs.declared.stage.Stage.TheVariants as stage
use Rattle.fx_node.specs.Standing.{Standing}
use Rattle.fx_node.proofs.Telling.{both_ok}
use Rattle.fx_node.proofs.node.Node.turn.Goals as goal

pub returns-clause-turned : goal.returns-clause-turned
returns-clause-turned c = both_ok c.turn.result _ _ _ (λ said takes stays. record {
  before = c.in-Joining.phase;
  later = c.turn.new.phase;
  at = ap (λ (s : Standing). s.stage) (sym c.self.view_is) ∙ c.in-Joining.is;
  apart = subst (λ (s : Standing). Distinct s.present) c.self.view_is c.self.invariant.apart;
  same = ap (λ (s : Standing). record s { stage = stage.Joining c.turn.new.phase }) c.self.view_is;
  takes = λ n knows epoch present. takes_next n c.of_next-ballot.result c.self.inside.epoch _ _ said c.turn.new.phase
      (ap (λ (d : Described). d.about) c.of_next-ballot.ensures)
      (ap (λ (d : Described). d.members.now) c.of_next-ballot.ensures ∙ c.as_slice.ensures)
      (ap (λ (d : Described). d.present.now) c.of_next-ballot.ensures ∙ c.as_slice.ensures)
      (epoch ∙ ap (λ (s : Standing). s.epoch) (sym c.self.view_is))
      (present ∙ ap (λ (s : Standing). s.present) (sym c.self.view_is))
      (takes n (subst (λ (s : Standing). IsInboxOf n s.inbox) (sym c.self.view_is) knows));
  stays = stays;
}) c.turn.ensures.takes c.turn.ensures.stays
