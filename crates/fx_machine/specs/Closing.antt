-- The commit barrier: snapshots go to keepers, and are closed once all places have those of their wards.
use Rattle.std.specs.Prelude.{ℕ, ℤ, ◌-ℤ◌, pos, Bool, if◌then◌else◌, List, [], ◌∷◌, map, Option, Some, None, is_some}
use Rattle.std.specs.Ordering.{int_eq}
use Rattle.fx_base.specs.declared.names.GroupId.{GroupId}
use Rattle.fx_item.specs.declared.item.Item.TheVariants as item
use Rattle.fx_link.specs.declared.slot.Slot.TheVariants as slot
use Rattle.fx_store.specs.Redundancy.{share_of}
use Rattle.fx_walk.specs.Walk.{Walk, Reply, Nothing, stamp_at}
use Rattle.fx_machine.specs.Groups.{Group, bytes_of, stamps_in, next_stamp, closing}
use Rattle.fx_machine.specs.Nodes.{Node, Act, size, proc_at, my_place, goes_on, with_group, writing}
use Rattle.fx_machine.specs.Numbers.{proc, epoch_no, call_no, are_alike}
use Rattle.fx_machine.specs.Packings.{Packing, Snapshot}
use Rattle.fx_machine.specs.Reading.{first_read, only, share_in}
use Rattle.fx_machine.specs.Setup.{Setup}
use Rattle.fx_machine.specs.Texts.{Packed, Text, Share}
use Rattle.fx_machine.specs.Waits.{Wait, casts, behind, no_of_absence}

-- snapshots as bytes, by stamp
abbrev pub packed : Packing → List (ℤ × Snapshot) → Packed
packed packing snapshots = map (λ e. (e.0, packing.pack e.1)) snapshots

-- the same stamps
abbrev pub same_stamps : List ℤ → List ℤ → Bool
same_stamps = are_alike int_eq

-- it keeps a share of the place
abbrev pub is_ward : Setup → Node → ℕ → Bool
is_ward s n x = s.redundancy.wards (size n) (my_place n) x

-- the place keeps a share of it
abbrev pub is_keeper : Setup → Node → ℕ → Bool
is_keeper s n x = s.redundancy.keepers (size n) (my_place n) x

-- what a place is sent as the barrier is entered
abbrev pub shares_for : Setup → (epoch call : ℕ) → Node → Group → ℕ → List Text
shares_for s e k n g x = if is_keeper s n x then Share e k (packed s.packing g.tentative) ∷ [] else []

-- the share that was heard of a place: it has exactly the stamps of one's own tentative snapshots
abbrev pub share_heard : Node → Group → ℕ → Option Packed
share_heard n g x = first_read (λ t. only (λ p. same_stamps (stamps_in p) (stamps_in g.tentative)) (share_in n.epoch n.calls t)) (n.texts (proc_at n x))

-- the wait for the shares of the wards: a no vote of theirs doesn't end it
abbrev pub share_wait : Setup → Node → Group → Wait
share_wait s n g = record { places = size n; awaited = is_ward s n; heard = λ x. is_some (share_heard n g x); no = no_of_absence n }

-- the action while shares are awaited
abbrev pub in_sharing : Setup → Node → Group → Option Act
in_sharing s n g = behind n (share_wait s n g) (Some (casts n slot.Yes))

-- the bytes of a place at a stamp, from what was heard of it; empty ones where there are none
abbrev pub bytes_heard : Option Packed → ℤ → List ℕ
bytes_heard None stamp = []
bytes_heard (Some packed) stamp = bytes_of packed stamp

-- the share that it keeps at each of these stamps, from what was heard of each place
abbrev pub kept_shares : Setup → Node → (ℕ → Option Packed) → List ℤ → Packed
kept_shares s n heard stamps = map (λ t. (t, share_of s.redundancy (size n) (my_place n) (λ x. bytes_heard (heard x) t))) stamps

-- the last stamp that is closed
abbrev pub last_stamp : Group → ℤ
last_stamp g = next_stamp g -ℤ pos 1

-- all voted yes: its snapshots are closed, with the shares of its wards
abbrev pub closes : Setup → Node → GroupId → (Reply → Walk) → Act
closes s n g rest =
    writing (item.Closed (proc n.me) (epoch_no n.epoch) (call_no n.calls) g (stamp_at (last_stamp (n.groups g.0))) ∷ [])
    (goes_on rest Nothing
    (with_group g.0 (closing (kept_shares s n (share_heard n (n.groups g.0)) (stamps_in (n.groups g.0).tentative)) (n.groups g.0)) n))
