use Rattle.std.proofs.Common.{arith, Some, false}
use Rattle.std.proofs.lemmas.Grind.{elements}
use Rattle.std.specs.Vec.{with_item}
use Rattle.fx_agree.specs.contracts.ballot.Ballot.{the_view}
use Rattle.fx_agree.specs.declared.stage.Stage.TheVariants as stage
use Rattle.fx_ballot.proofs.Readings.{in_world_seated}
use Rattle.fx_agree.proofs.Keeping.{kept_entering}
use Rattle.fx_agree.proofs.ballot.Ballot.new.Goals as goal

pub returns-clause-has_entered : goal.returns-clause-has_entered
returns-clause-has_entered c =
    in_world_seated
    (the_view (record {
      members = c.args.members;
      me = c.args.me;
      stage = stage.Voting;
      heard =
          with_item c.in_ok-heard.heard c.from.result
          (record {
            vote = Some c.args.vote;
            estimate = c.index_mut.result.now.estimate;
            lost = c.index_mut.result.now.lost;
            left = c.index_mut.result.now.left;
          });
      failed = false;
    }))
    c.args.members c.args.me c.args.vote (grind (arith, elements)) c.requires.member

pub invariant_of-result : goal.invariant_of-result
invariant_of-result c =
    kept_entering
    (the_view (record {
      members = c.args.members;
      me = c.args.me;
      stage = stage.Voting;
      heard =
          with_item c.in_ok-heard.heard c.from.result
          (record {
            vote = Some c.args.vote;
            estimate = c.index_mut.result.now.estimate;
            lost = c.index_mut.result.now.lost;
            left = c.index_mut.result.now.left;
          });
      failed = false;
    }))
    c.args.members c.args.me c.args.vote (grind (arith, elements)) c.requires.member c.requires.few
