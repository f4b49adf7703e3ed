use Rattle.std.proofs.Common.{◌≡◌, ◌<◌, ◌∙◌, ap, length, subst, sym}
use Rattle.fx_ballot.specs.Turn.{Turn}
use Rattle.fx_ballot.proofs.Readings.{in_world_polled, seat_turn_of, turn_waits_as}
use Rattle.fx_ballot.proofs.Alike.{quiet_polled}
use Rattle.fx_ballot.proofs.Wholes.{whole_given}
use Rattle.fx_agree.specs.contracts.ballot.Ballot.{the_view}
use Rattle.fx_agree.specs.Stages.{IsKept}
use Rattle.fx_agree.proofs.Keeping.{kept_spent}
use Rattle.fx_agree.proofs.ballot.Ballot.poll.Goals as goal

pub returns-in-Ok-clause-takes_its_turn_in_the_world : goal.returns-in-Ok-clause-takes_its_turn_in_the_world
returns-in-Ok-clause-takes_its_turn_in_the_world c =
    let whole : length c.args.self.now.heard ≡ c.args.self.now.members = rw (← c.self.view_is) c.self.invariant.0 in
    let low : c.args.self.now.me < c.args.self.now.members = rw (← c.self.view_is) c.self.invariant.1 in
    in_world_polled c.args.self.now c.turn.new.self c.in-Ok.ensures.takes low whole

pub returns-in-Ok-clause-says_its_turn_in_the_world : goal.returns-in-Ok-clause-says_its_turn_in_the_world
returns-in-Ok-clause-says_its_turn_in_the_world c name apart =
    c.in-Ok.ensures.says ∙ ap (λ (t : Turn). t.poll) (seat_turn_of name c.args.self.now apart)

pub returns-in-Ok-clause-waits_for_a_message : goal.returns-in-Ok-clause-waits_for_a_message
returns-in-Ok-clause-waits_for_a_message c = turn_waits_as c.args.self.now c.in-Ok.answer c.in-Ok.ensures.says

pub returns-in-Ok-clause-gives_one_slot_each : goal.returns-in-Ok-clause-gives_one_slot_each
returns-in-Ok-clause-gives_one_slot_each c =
    let kept : IsKept c.args.self.now = subst IsKept c.self.view_is c.self.invariant in
    whole_given c.args.self.now c.in-Ok.answer c.in-Ok.ensures.says kept.3

pub returns-in-Ok-clause-waits_unchanged : goal.returns-in-Ok-clause-waits_unchanged
returns-in-Ok-clause-waits_unchanged c = λ quiet. c.in-Ok.ensures.takes ∙ quiet_polled c.args.self.now (sym c.in-Ok.ensures.says ∙ quiet)

pub invariant_of-self : goal.invariant_of-self
invariant_of-self c = kept_spent (the_view c.self-2.inside) c.self-2.invariant
