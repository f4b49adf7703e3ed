use Rattle.fx_check.specs.Facts.{facts_of}
use Rattle.fx_calls.proofs.Bodies.{nothing_asks_no_groups}
use Rattle.fx_calls.proofs.Groupless.{groupless_calls}
use Rattle.fx_calls.proofs.laws.groupless_bodies_ask_no_groups.Goals as goal

pub returns : goal.returns
returns c = record {
  statements = λ job room fits groupless view state. groupless_calls (facts_of job) job.body room fits groupless view state;
  nothing = nothing_asks_no_groups;
}
