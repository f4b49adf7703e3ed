-- The mirror: each place has one keeper, its buddy, who keeps its bytes as they are.
use Rattle.std.specs.Prelude.{◌≡◌, ◌≢◌, ◌<◌, ℕ, ◌+◌, ◌-◌, ◌%◌, Bool, not, ◌&&◌, if◌then◌else◌, ◌==◌, nat_lt, List, [], ◌∷◌, Option, Some, None}
use Rattle.std.specs.List.{flat_map}
use Rattle.fx_base.specs.Sets.{those_below}
use Rattle.fx_store.specs.Redundancy.{Redundancy, IsSize, each_below}

-- the buddy of a place among n, at a separation; alone, a place is its own buddy
abbrev pub buddy : (separation n place : ℕ) → ℕ
buddy separation n place = if n == 1 then 0 else (place + 1 + (separation - 1) % (n - 1)) % n

-- bytes, where there are any
abbrev pub some_bytes : List ℕ → Option (List ℕ)
some_bytes [] = None
some_bytes (byte ∷ bytes) = Some (byte ∷ bytes)

-- whoever the buddies are
module _ (of : (n place : ℕ) → ℕ) where
  -- the one keeper is the buddy; alone, a place has none
  abbrev pub is_keeper : (n place : ℕ) → ℕ → Bool
  is_keeper n place j = not (n == 1) && (j == of n place)

  -- the places whose keeper it is
  abbrev pub is_ward : (n place : ℕ) → ℕ → Bool
  is_ward n place j = nat_lt j n && is_keeper n j place

  -- each place is kept by its buddy
  abbrev pub kept_by_buddies : Redundancy
  kept_by_buddies = record {
    keepers = is_keeper;
    wards = is_ward;
    -- no place and its buddy are both in the set
    covers = λ n lost. each_below n (λ i. not (lost i && lost (of n i)));
    -- the bytes of the one ward; none where there is no ward
    fold = λ n place bytes. flat_map bytes (those_below (is_ward n place) n);
    -- the share, for the ward alone
    help = λ n from for_place own share. if is_keeper n for_place from then share else [];
    -- the buddy's help, where it is any
    rebuild = λ n place given. some_bytes (given (of n place));
  }

  -- what is asked of buddies: each is a place, and among more than one another place, and no two places have the same
  pub record AreBuddies : Type 0 where
    pub below : (n i : ℕ) → IsSize n → i < n → of n i < n
    pub away : (n i : ℕ) → 1 < n → i < n → of n i ≢ i
    pub apart : (n i j : ℕ) → 1 < n → i < n → j < n → of n i ≡ of n j → i ≡ j

-- the mirror at a separation
abbrev pub mirror : ℕ → Redundancy
mirror separation = kept_by_buddies (buddy separation)
