-- Redundancy: who keeps a share of whose bytes, and what can be made again when places are lost.
use Rattle.std.specs.Prelude.{◌≡◌, ◌⊎◌, ◌≤◌, ◌<◌, ℕ, zero, suc, ◌^◌, Bool, true, false, not, ◌&&◌, if◌then◌else◌, ◌==◌, nat_lt, List, [], ◌∷◌, length, Option, Some, None}
use Rattle.std.specs.Ordering.{nat_cmp}
use Rattle.std.specs.FinSet.{FinSet, contains}

-- A set of places is a test of a place. Bytes by place are a function of the place, and no bytes are empty ones.
pub record Redundancy : Type 0 where
  -- among n places: who keeps a share of the place
  pub keepers : (n place : ℕ) → ℕ → Bool
  -- among n places: whose keeper the place is
  pub wards : (n place : ℕ) → ℕ → Bool
  -- among n places: sets of places whose bytes can surely be made again without them
  pub covers : (n : ℕ) → (ℕ → Bool) → Bool
  -- the share that a place keeps, from the bytes by place
  pub fold : (n place : ℕ) → (ℕ → List ℕ) → List ℕ
  -- what one place gives for another that is lost, from its own bytes and its share
  pub help : (n from for_place : ℕ) → (own share : List ℕ) → List ℕ
  -- the bytes of a place, made again from the helps by place
  pub rebuild : (n place : ℕ) → (ℕ → List ℕ) → Option (List ℕ)

-- each number below n passes the test
abbrev pub each_below : ℕ → (ℕ → Bool) → Bool
each_below zero test = true
each_below (suc n) test = each_below n test && test n

-- so many places there may be
abbrev pub IsSize : ℕ → Type 0
IsSize n = (0 < n) × (n ≤ 32)

-- bytes that the laws speak of
abbrev pub IsPayload : List ℕ → Type 0
IsPayload bytes = (0 < length bytes) × (length bytes < 2 ^ 32)

-- each place has such bytes
abbrev pub HavePayloads : ℕ → (ℕ → List ℕ) → Type 0
HavePayloads n bytes = (j : ℕ) → j < n → IsPayload (bytes j)

-- the bytes of the wards of a place, and of nobody else
abbrev pub of_wards : Redundancy → (n place : ℕ) → (ℕ → List ℕ) → ℕ → List ℕ
of_wards r n place bytes j = if r.wards n place j then bytes j else []

-- the share of a place
abbrev pub share_of : Redundancy → (n place : ℕ) → (ℕ → List ℕ) → List ℕ
share_of r n place bytes = r.fold n place (of_wards r n place bytes)

-- what each place outside the lost ones gives for a place
abbrev pub helps : Redundancy → (n place : ℕ) → (ℕ → List ℕ) → (ℕ → Bool) → ℕ → List ℕ
helps r n place bytes lost j = if nat_lt j n && not (lost j) then r.help n j place (bytes j) (share_of r n j bytes) else []

-- the helps are those of all places outside the lost ones
abbrev pub AreHelps : Redundancy → (n place : ℕ) → (ℕ → List ℕ) → (ℕ → Bool) → (ℕ → List ℕ) → Type 0
AreHelps r n place bytes lost given = (j : ℕ) → j < n → given j ≡ helps r n place bytes lost j

-- a lost place of a covered set is made again from the helps of all places outside the set
abbrev pub RebuildsCovered : Redundancy → Type 0
RebuildsCovered r =
    (n i : ℕ) (bytes : ℕ → List ℕ) (lost : ℕ → Bool) (given : ℕ → List ℕ)
    → IsSize n → i < n → HavePayloads n bytes → r.covers n lost ≡ true → lost i ≡ true → AreHelps r n i bytes lost given
    → r.rebuild n i given ≡ Some (bytes i)

-- from the helps of any places without it, a place is made again as it was or not at all
abbrev pub RebuildsNothingElse : Redundancy → Type 0
RebuildsNothingElse r =
    (n i : ℕ) (bytes : ℕ → List ℕ) (lost : ℕ → Bool) (given : ℕ → List ℕ)
    → IsSize n → i < n → HavePayloads n bytes → lost i ≡ true → AreHelps r n i bytes lost given
    → (r.rebuild n i given ≡ None) ⊎ (r.rebuild n i given ≡ Some (bytes i))

-- a place is a keeper of those that are its wards
abbrev pub WardsAreKept : Redundancy → Type 0
WardsAreKept r = (n i j : ℕ) → IsSize n → i < n → j < n → r.keepers n i j ≡ r.wards n j i

-- no place is its own keeper
abbrev pub NoneKeepsItself : Redundancy → Type 0
NoneKeepsItself r = (n i : ℕ) → IsSize n → i < n → r.keepers n i i ≡ false

-- keepers and wards are places
abbrev pub ArePlaces : Redundancy → Type 0
ArePlaces r = (n i j : ℕ) → IsSize n → i < n → ((r.keepers n i j ≡ true → j < n) × (r.wards n i j ≡ true → j < n))

-- a set of places that are all in a covered set is covered
abbrev pub CoversSmaller : Redundancy → Type 0
CoversSmaller r =
    (n : ℕ) (lost some : ℕ → Bool) → IsSize n → r.covers n lost ≡ true → ((j : ℕ) → j < n → some j ≡ true → lost j ≡ true)
    → r.covers n some ≡ true

-- the set of no place is covered
abbrev pub CoversNone : Redundancy → Type 0
CoversNone r = (n : ℕ) → IsSize n → r.covers n (λ j. false) ≡ true

-- a share depends on the bytes of the wards alone
abbrev pub FoldsWardsAlone : Redundancy → Type 0
FoldsWardsAlone r =
    (n i : ℕ) (a b : ℕ → List ℕ) → IsSize n → i < n → ((j : ℕ) → r.wards n i j ≡ true → a j ≡ b j) → r.fold n i a ≡ r.fold n i b

-- the set of all places isn't covered
abbrev pub LeavesAllUncovered : Redundancy → Type 0
LeavesAllUncovered r = (n : ℕ) (lost : ℕ → Bool) → IsSize n → ((j : ℕ) → j < n → lost j ≡ true) → r.covers n lost ≡ false

-- the laws that each way of redundancy keeps; from the first follows that all places are never covered
pub record MeetsLaws (r : Redundancy) : Type 0 where
  pub rebuilds_covered : RebuildsCovered r
  pub rebuilds_nothing_else : RebuildsNothingElse r
  pub wards_are_kept : WardsAreKept r
  pub none_keeps_itself : NoneKeepsItself r
  pub are_places : ArePlaces r
  pub covers_smaller : CoversSmaller r
  pub covers_none : CoversNone r
  pub folds_wards_alone : FoldsWardsAlone r

-- ---- sets and bytes by place, as lists and sets have them

-- the bytes that a list has at a place; empty ones where it has none
abbrev pub bytes_at : List (ℕ × List ℕ) → ℕ → List ℕ
bytes_at [] place = []
bytes_at (share ∷ shares) place = if share.0 == place then share.1 else bytes_at shares place

-- the set has exactly the places that pass the test
abbrev pub HasExactly : (ℕ → Bool) → FinSet nat_cmp → Type 0
HasExactly test places = (j : ℕ) → contains places j ≡ test j
