-- What stands in front in a legal journal is legal.
use Rattle.std.proofs.Common.{List, [], ◌∷◌, ◌++◌}
use Rattle.fx_item.specs.declared.item.Item.{Item}
use Rattle.fx_script.specs.declared.job.Job.{Job}
use Rattle.fx_legal.specs.Effects.{written}
use Rattle.fx_legal.specs.Ledger.{Ledger}
use Rattle.fx_legal.specs.Legal.{GoesOn, written_all}
use Rattle.fx_legal.specs.Rules.{MayWrite}

pub front_goes_on : (job : Job) (l : Ledger) (front more : List Item) → GoesOn job l (front ++ more) → GoesOn job l front
front_goes_on job l [] more goes = tt
front_goes_on job l (item ∷ front) more goes = (goes.0, front_goes_on job (written job l item) front more goes.1)

-- and each item may come behind those in front of it
pub item_may_come : (job : Job) (l : Ledger) (front more : List Item) (it : Item) → GoesOn job l (front ++ it ∷ more) → MayWrite job (written_all job l front) it
item_may_come job l [] more it goes = goes.0
item_may_come job l (first ∷ front) more it goes = item_may_come job (written job l first) front more it goes.1
