use Rattle.fx_item.specs.declared.item.Item.TheVariants as item
use Rattle.fx_legal.proofs.Fronts.{item_may_come}
use Rattle.fx_legal.specs.Ledger.{first_ledger}
use Rattle.fx_legal.proofs.laws.restores_give_what_was_stored.Goals as goal

pub returns : goal.returns
returns c = λ job front more p e g m t list goes. (item_may_come job (first_ledger job) front more (item.Restore p e g m t list) goes).1.1
