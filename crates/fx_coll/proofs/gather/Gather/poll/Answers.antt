use Rattle.fx_coll.specs.declared.poll.CollPoll.TheVariants as poll
use Rattle.fx_coll.proofs.Answers.{exactly}
use Rattle.fx_coll.proofs.gather.Gather.poll.Goals as goal

pub returns-clause-done : goal.returns-clause-done
returns-clause-done c = exactly c.args.self.now c.answer.result poll.Done c.answer.ensures

pub returns-clause-failed : goal.returns-clause-failed
returns-clause-failed c x = exactly c.args.self.now c.answer.result (poll.Failed x) c.answer.ensures

pub returns-clause-revoked : goal.returns-clause-revoked
returns-clause-revoked c x = exactly c.args.self.now c.answer.result (poll.Revoked x) c.answer.ensures

pub returns-clause-not_yet : goal.returns-clause-not_yet
returns-clause-not_yet c = exactly c.args.self.now c.answer.result poll.NotYet c.answer.ensures
