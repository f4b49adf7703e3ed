-- Which journals a run of a job may have. Nothing here knows machines, messages or ballots.
use Rattle.std.specs.Prelude.{◌≡◌, ℕ, ◌<◌, true, List, [], ◌∷◌}
use Rattle.fx_item.specs.declared.item.Item.{Item}
use Rattle.fx_script.specs.declared.job.Job.{Job}
use Rattle.fx_legal.specs.Effects.{due_kills, written}
use Rattle.fx_legal.specs.Ledger.{Ledger, procs_of, first_ledger}
use Rattle.fx_legal.specs.Rules.{MayWrite}
use Rattle.fx_legal.specs.Stands.{is_gone}

-- each item may come where it comes
abbrev pub GoesOn : Job → Ledger → List Item → Type 0
GoesOn job l [] = Unit {0}
GoesOn job l (item ∷ items) = MayWrite job l item × GoesOn job (written job l item) items

-- a journal is legal, also one that stops anywhere
abbrev pub IsLegal : Job → List Item → Type 0
IsLegal job items = GoesOn job (first_ledger job) items

-- the ledger behind items
abbrev pub written_all : Job → Ledger → List Item → Ledger
written_all job l [] = l
written_all job l (item ∷ items) = written_all job (written job l item) items

-- the ledger behind a journal
abbrev pub ledger_of : Job → List Item → Ledger
ledger_of job items = written_all job (first_ledger job) items

-- no kill of the schedule is left but of processes that are gone
abbrev pub HasKilledAll : Job → List Item → Type 0
HasKilledAll job items = due_kills (ledger_of job items).stands (ledger_of job items).kills ≡ []

-- a journal that tells a whole schedule is legal
abbrev pub IsLegalWhole : Job → List Item → Type 0
IsLegalWhole job items = IsLegal job items × HasKilledAll job items

-- every process was killed or has ended
abbrev pub AllHaveEnded : Job → List Item → Type 0
AllHaveEnded job items = (p : ℕ) → p < procs_of job → is_gone ((ledger_of job items).stands p) ≡ true
