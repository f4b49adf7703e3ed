-- How a store is kept, and how its value is coded.
use Rattle.std.specs.Prelude.{◌≡◌, refl, ℕ, List, Some, slice_get, take, drop}
use Rattle.std.specs.Coded.{Coded, code_by, coded×, coded_list, coded_ℕ, coded_ℤ}
use Rattle.std.specs.Ordering.{nat_cmp}
use Rattle.std.specs.FinMap as finite
use Rattle.std.specs.FinSet as set
use Rattle.fx_base.specs.Keys.{member_code, stamp_code}
use Rattle.fx_base.specs.declared.names.Stamp.{Stamp}
use Rattle.fx_base.specs.declared.snapshot.Snapshot.{Snapshot}
use Rattle.fx_store.specs.Store.{Store, Stamped}

abbrev pub snapshot_code : Coded Snapshot
snapshot_code = finite.code member_code (finite.code coded_ℕ coded_ℤ)

abbrev pub stamped_code : Coded (List Stamped)
stamped_code = coded_list (coded× stamp_code snapshot_code)

-- a store as its parts
abbrev pub Parts : Type 0
Parts = Snapshot × (List Stamped × (List Stamped × (set.FinSet nat_cmp × (Stamp × ℕ))))

abbrev pub store_code : Coded Store
store_code =
    code_by Parts (coded× snapshot_code (coded× stamped_code (coded× stamped_code (coded× (set.code coded_ℕ) (coded× stamp_code coded_ℕ)))))
    (λ s. (s.pending, (s.tentative, (s.kept, (s.attached, (s.next, s.depth))))))
    (λ p. record { pending = p.0; tentative = p.1.0; kept = p.1.1.0; attached = p.1.1.1.0; next = p.1.1.1.1.0; depth = p.1.1.1.1.1 })
    (λ s. refl)

-- the store of which so many of the snapshots are closed
abbrev pub store_of : Snapshot → List Stamped → ℕ → set.FinSet nat_cmp → Stamp → ℕ → Store
store_of pending snapshots closed attached next depth =
    record { pending = pending; tentative = drop closed snapshots; kept = take closed snapshots; attached = attached; next = next; depth = depth }

-- an entry of the stamp stands there
pub record IsPlaceOfStamp (stamp : Stamp) (entries : List Stamped) (at : ℕ) : Type 0 where
  pub entry : Stamped
  pub there : slice_get entries at ≡ Some entry
  pub same : entry.0 ≡ stamp
