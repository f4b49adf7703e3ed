-- What a process keeps of a group, as the store of its snapshots, its shares and the creation that it stems from.
use Rattle.std.specs.Prelude.{ℤ, List, map}
use Rattle.std.specs.FinMap as finite
use Rattle.std.specs.FinSet as set
use Rattle.fx_base.specs.declared.shares.StampShares.{StampShares}
use Rattle.fx_base.specs.declared.snapshot.Snapshot.{Snapshot as SnapshotMap}
use Rattle.fx_store.specs.Store.{Store, Stamped}
use Rattle.fx_walk.specs.Walk.{stamp_at}
use Rattle.fx_machine.specs.Groups.{Group, next_stamp}
use Rattle.fx_machine.specs.Messages.{shares_of}
use Rattle.fx_machine.specs.Packings.{Snapshot}

-- a snapshot as a map
abbrev pub map_of : Snapshot → SnapshotMap
map_of snapshot = finite.from_sorted (map (λ m. (record { 0 = m.0 }, finite.from_sorted m.1)) snapshot)

-- snapshots by stamp
abbrev pub stamped : List (ℤ × Snapshot) → List Stamped
stamped snapshots = map (λ e. (stamp_at e.0, map_of e.1)) snapshots

-- the store of a group
abbrev pub store_of : Group → Store
store_of g = record {
  pending = map_of g.pending;
  tentative = stamped g.tentative;
  kept = stamped g.held.kept;
  attached = set.from_list g.attached;
  next = stamp_at (next_stamp g);
  depth = g.depth;
}

-- the shares that are kept for the wards
abbrev pub held_shares : Group → StampShares
held_shares g = shares_of g.held.shares
