-- The texts of the items that are shown.
use Rattle.std.proofs.Common.{◌≡◌, List, [], ◌∷◌, refl, ap}
use Rattle.std.specs.List.{filter}
use Rattle.fx_item.specs.declared.item.Item.{Item}
use Rattle.fx_script.specs.declared.job.Job.{Job}
use Rattle.fx_fleet.specs.Runs.{wire_of, journal_of}
use Rattle.fx_world.specs.declared.shown.Shown.TheVariants as shown
use Rattle.fx_world.specs.Texts.{is_shown, shown_text, text_of}

all_shown : (items : List Item) → filter (is_shown shown.Wire) items ≡ items
all_shown [] = refl
all_shown (i ∷ items) = ap (λ (l : List Item). i ∷ l) (all_shown items)

-- all that happens
pub wire_text : (job : Job) → shown_text shown.Wire (wire_of job) ≡ text_of (wire_of job)
wire_text job = ap text_of (all_shown (wire_of job))

-- the journal of it
pub journal_text : (job : Job) → shown_text shown.Journal (wire_of job) ≡ text_of (journal_of job)
journal_text job = refl
