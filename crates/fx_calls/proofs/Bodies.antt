-- A body that asks nothing asks nothing of data groups.
use Rattle.fx_check.specs.Facts.{facts_of}
use Rattle.fx_script.specs.declared.job.Job.{Job}
use Rattle.fx_walk.specs.Lengths.{OnlyPrints}
use Rattle.fx_walk.specs.Walk.{Walk, Ends, Passes, Prints, Asks, walk_of}
use Rattle.fx_fleet.specs.Runs.{AsksNothing}
use Rattle.fx_calls.specs.Bodies.{IsOfNoGroup, OnlyAsks, AsksNoGroups}

prints_ask : (walk : Walk) → OnlyPrints walk → OnlyAsks IsOfNoGroup walk
prints_ask (Ends state) only = tt
prints_ask (Passes rest) only = prints_ask rest only
prints_ask (Prints printed rest) only = (only.0, prints_ask rest only.1)
prints_ask (Asks place wanted state rest) only = absurd only

pub nothing_asks_no_groups : (job : Job) → AsksNothing job → AsksNoGroups job
nothing_asks_no_groups job asks view state = prints_ask (walk_of (facts_of job) job.body view state) (asks view state)
