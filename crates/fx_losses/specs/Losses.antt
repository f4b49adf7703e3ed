-- What a journal tells of losses, and what a world shows of epochs.
use Rattle.std.specs.Prelude.{◌≡◌, ◌≢◌, ◌<◌, min, ℕ, zero, suc, true, false, List, [], ◌∷◌, length, Some}
use Rattle.fx_base.specs.Sets.{those_below}
use Rattle.fx_ballot.specs.Names.{has}
use Rattle.fx_comm.specs.Seats.{has_place}
use Rattle.fx_item.specs.declared.item.Item.{Item}
use Rattle.fx_item.specs.declared.item.Item.TheVariants as item
use Rattle.fx_script.specs.declared.job.Job.{Job}
use Rattle.fx_machine.specs.Setup.{Setup}
use Rattle.fx_fleet.specs.Rounds.{is_quiet}
use Rattle.fx_fleet.specs.World.{World, up}
use Rattle.fx_legal.specs.Effects.{written}
use Rattle.fx_legal.specs.Ledger.{Chapter, Ledger, ranks_of, procs_of, comm_in, first_ledger}
use Rattle.fx_legal.specs.Stands.{is_killed}

-- a process that has a place in the epoch was killed
abbrev pub HasLoss : Ledger → ℕ → Type 0
HasLoss l epoch = (q : ℕ) × (has_place (comm_in l epoch) q ≡ true) × (is_killed (l.stands q) ≡ true)

-- from epoch 1 on, an epoch is repaired only where a place of it was lost
abbrev pub RepairsLoss : Ledger → ℕ → Type 0
RepairsLoss l zero = Unit {0}
RepairsLoss l (suc zero) = Unit {0}
RepairsLoss l (suc (suc epoch)) = HasLoss l (suc epoch)

abbrev pub IsOwedLoss : Ledger → Item → Type 0
IsOwedLoss l (item.Repaired p e size warn list) = RepairsLoss l e.0
IsOwedLoss l other = Unit {0}

-- and so for each item, from the ledger in front of it
abbrev pub RepairLosses : Job → Ledger → List Item → Type 0
RepairLosses job l [] = Unit {0}
RepairLosses job l (it ∷ items) = IsOwedLoss l it × RepairLosses job (written job l it) items

-- each epoch of a journal has its loss
abbrev pub EachEpochHasItsLoss : Job → List Item → Type 0
EachEpochHasItsLoss job items = RepairLosses job (first_ledger job) items

-- the size of each epoch is the lesser of the ranks and the number of those present, who are processes of the job
pub record EpochsAreSized (job : Job) (l : Ledger) : Type 0 where
  pub size : (e : ℕ) (c : Chapter) → l.chapters e ≡ Some c → length c.comm ≡ min (ranks_of job) (length (those_below c.present 32))
  pub below : (e : ℕ) (c : Chapter) → l.chapters e ≡ Some c → (q : ℕ) → c.present q ≡ true → q < procs_of job

-- ---- worlds

-- processes that weren't killed, in one epoch, have the same present set and communicator of it; and each is present in its own
pub record EpochsAgree (s : Setup) (w : World) : Type 0 where
  pub present : (p q : ℕ) → w.killed p ≡ false → w.killed q ≡ false → (w.node p).epoch ≡ (w.node q).epoch → (w.node p).present ≡ (w.node q).present
  pub comm : (p q : ℕ) → w.killed p ≡ false → w.killed q ≡ false → (w.node p).epoch ≡ (w.node q).epoch → (w.node p).comm ≡ (w.node q).comm
  pub there : (p : ℕ) → p < s.procs → w.killed p ≡ false → has (w.node p).present p ≡ true

-- Nothing more can happen but a loss: nothing is under way between processes that are up and others of the job, each was told of each
-- loss, and no action of any is enabled.
pub record IsStill (s : Setup) (w : World) : Type 0 where
  pub clear : (p q : ℕ) → p < s.procs → p ≢ q → up s w q ≡ true → w.link p q ≡ []
  pub told : (p q : ℕ) → p < s.procs → w.killed p ≡ true → up s w q ≡ true → (w.node q).lost p ≡ true
  pub quiet : (p : ℕ) → up s w p ≡ true → is_quiet s p w ≡ true
