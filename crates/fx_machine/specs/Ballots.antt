-- The action of a ballot, joins, and the decision of an epoch.
use Rattle.std.specs.Prelude.{ℕ, suc, Bool, true, false, ◌&&◌, if◌then◌else◌, ◌==◌, nat_lt, List, [], ◌∷◌, get_or, Option, Some, None}
use Rattle.std.specs.List.{list_all}
use Rattle.fx_base.specs.declared.names.Role.{Role}
use Rattle.fx_base.specs.declared.names.Role.TheVariants as role
use Rattle.fx_ballot.specs.declared.poll.Poll.{Poll}
use Rattle.fx_ballot.specs.declared.poll.Poll.TheVariants as poll
use Rattle.fx_ballot.specs.Names.{seat_of, has}
use Rattle.fx_ballot.specs.Turn.{Phase, Voting, Turn}
use Rattle.fx_comm.specs.Seats.{has_place, repaired}
use Rattle.fx_item.specs.declared.item.Item.TheVariants as item
use Rattle.fx_link.specs.declared.slot.Slot.{Slot}
use Rattle.fx_link.specs.declared.slot.Slot.TheVariants as slot
use Rattle.fx_machine.specs.Groups.{discarding, uncreated}
use Rattle.fx_machine.specs.Nodes.{Node, Act, Stage, Joining, Arrived, Over, members, size, silently, writing, saying}
use Rattle.fx_machine.specs.Numbers.{proc, epoch_no}
use Rattle.fx_machine.specs.Reading.{Ballot, vote_text, estimate_text, is_join, next_ballot, turn_in}
use Rattle.fx_machine.specs.Setup.{Setup}

-- it goes on in the ballot, and says nothing
abbrev pub moves : Node → (Phase → Stage) → Phase → Act
moves n at phase = silently (record n { stage = at phase })

-- it goes on in the ballot, and says the estimate of its own round to all other members
abbrev pub speaks : Ballot → Node → (Phase → Stage) → Phase → List Slot → Act
speaks b n at phase slots = saying b.members (estimate_text b.about (seat_of b.members n.me) slots) [] (record n { stage = at phase })

-- the action of a turn, where it is one: given are how a stage holds a phase, and what a decision does
abbrev pub turned : Ballot → Node → (Phase → Stage) → (List Slot → Option Act) → Turn → Option Act
turned b n at decides t = by t.poll
  where
    by : Poll → Option Act
    by poll.NotYet = None
    by poll.Moved = Some (moves n at t.phase)
    by (poll.SendEstimate slots) = Some (speaks b n at t.phase slots)
    by (poll.Decided slots) = decides slots

-- the action in a phase of a ballot
abbrev pub in_ballot : Ballot → Node → (Phase → Stage) → (List Slot → Option Act) → Phase → Option Act
in_ballot b n at decides phase = turned b n at decides (turn_in b n phase)

-- ---- joins

-- A join gives up what isn't closed, and votes in the ballot of the next epoch.
abbrev pub joined : Slot → Node → Act
joined kind n =
    saying n.present (vote_text (next_ballot n).about kind) (item.Join (proc n.me) (epoch_no (suc n.epoch)) kind ∷ [])
    (record n { stage = Joining Voting; groups = λ g. discarding (n.groups g) })

-- no join is enabled in the last epoch that a number of 32 bits counts
abbrev pub may_join : Node → Bool
may_join n = nat_lt n.epoch 4294967295

-- a join, where it is enabled
abbrev pub joins : Slot → Node → Option Act
joins kind n = if may_join n then Some (joined kind n) else None

-- ---- the decision of an epoch

-- the members whose slot is a vote
abbrev pub voters : (Slot → Bool) → List ℕ → List Slot → List ℕ
voters is_vote [] slots = []
voters is_vote (q ∷ qs) [] = []
voters is_vote (q ∷ qs) (x ∷ xs) = if is_vote x then q ∷ voters is_vote qs xs else voters is_vote qs xs

abbrev pub is_final : Slot → Bool
is_final slot.Final = true
is_final other = false

-- each process of the communicator has the slot `final`
abbrev pub all_final : Node → List Slot → Bool
all_final n slots = list_all (λ q. is_final (get_or slots (seat_of n.present q) slot.Lost)) (members n)

-- the role behind a repair: initial in the first epoch; then of who had a place survivor, and of another recovered
abbrev pub role_behind : Node → Role
role_behind n = if n.epoch == 0 then role.Initial else (if has_place n.comm n.me then role.Survivor else role.Recovered)

-- the node in the next epoch, with a present set
abbrev pub arrived : List ℕ → Node → Node
arrived present n = record n {
  epoch = suc n.epoch;
  comm = repaired n.comm (has present);
  present = present;
  role = role_behind n;
  calls = 0;
  stage = Arrived;
  groups = λ g. uncreated (n.groups g);
}

-- there are fewer places than ranks
abbrev pub warns : Setup → Node → Bool
warns s n = nat_lt (size n) s.ranks

-- it tells the communicator of its new epoch
abbrev pub repairs : Setup → Node → Act
repairs s n = writing (item.Repaired (proc n.me) (epoch_no n.epoch) (size n) (warns s n) n.comm ∷ []) n

-- it has ended
abbrev pub ends : Node → Act
ends n = writing (item.Ended (proc n.me) ∷ []) (record n { stage = Over })

-- the job ends where all ranks of an epoch came to the end
abbrev pub is_end : Node → List Slot → Bool
is_end n slots = nat_lt 0 n.epoch && all_final n slots

-- where it doesn't, the present set repairs the communicator
abbrev pub decides_epoch : Setup → Node → List Slot → Act
decides_epoch s n slots = if is_end n slots then ends n else repairs s (arrived (voters (is_join (suc n.epoch)) n.present slots) n)
