-- What the entries into one call, and the returns from it, have to do with each other.
use Rattle.std.specs.Prelude.{◌≡◌, refl, ℕ, ◌+◌, ◌-◌, ◌%◌, ℤ, pos, negsuc, Bool, true, false, List, [], ◌∷◌, map, length, get_or, Option, Some, None, is_some}
use Rattle.std.specs.Int.{w64, int_bit_and}
use Rattle.fx_base.specs.declared.names.CallNo.{CallNo}
use Rattle.fx_base.specs.declared.names.Epoch.{Epoch}
use Rattle.fx_base.specs.declared.names.Proc.{Proc}
use Rattle.fx_comm.specs.Seats.{Seat, place_in}
use Rattle.fx_item.specs.declared.item.Item.{Item}
use Rattle.fx_item.specs.declared.item.Item.TheVariants as item
use Rattle.fx_walk.specs.declared.wanted.Wanted.{Wanted}
use Rattle.fx_walk.specs.declared.wanted.Wanted.TheVariants as wanted
use Rattle.fx_walk.specs.Plan.{Common, common_of}
use Rattle.fx_walk.specs.Values.{reduced}
use Rattle.fx_legal.specs.Ledger.{Ledger, comm_in}
use Rattle.fx_legal.specs.Stands.{asked_of}

-- ---- entries

-- who hasn't entered asks nothing yet; who has asked the same, but for its own number, flag or elements
abbrev pub IsLike : Common → Option Wanted → Type 0
IsLike common None = Unit {0}
IsLike common (Some asked) = common_of asked ≡ common

abbrev pub AreLike : Common → (ℕ → Option Wanted) → List Seat → Type 0
AreLike common entered [] = Unit {0}
AreLike common entered (s ∷ seats) = IsLike common (entered s.1.0) × AreLike common entered seats

-- all places that have entered the call so far entered it with this
abbrev pub EntersAlike : Ledger → Epoch → CallNo → Wanted → Type 0
EntersAlike l e k asked = AreLike (common_of asked) (l.entered e.0 k.0) (comm_in l e.0)

abbrev pub AllAsked : (ℕ → Option Wanted) → List Seat → Type 0
AllAsked entered [] = Unit {0}
AllAsked entered (s ∷ seats) = (is_some (entered s.1.0) ≡ true) × AllAsked entered seats

-- all places have entered the call
abbrev pub AllHaveEntered : Ledger → Epoch → CallNo → Type 0
AllHaveEntered l e k = AllAsked (l.entered e.0 k.0) (comm_in l e.0)

-- ---- what was entered with

-- the number of a reduction or the flag of an agreement, and the elements of a shift; 0 and none of others
abbrev pub own_number : Option Wanted → ℤ
own_number (Some (wanted.Reduce op n)) = n
own_number (Some (wanted.Agree n)) = n
own_number other = pos 0

abbrev pub own_elements : Option Wanted → List ℤ
own_elements (Some (wanted.Shift d elements)) = elements
own_elements other = []

-- those of all places, in their order
abbrev pub numbers_in : Ledger → Epoch → CallNo → List ℤ
numbers_in l e k = map (λ s. own_number (l.entered e.0 k.0 s.1.0)) (comm_in l e.0)

abbrev pub elements_in : Ledger → Epoch → CallNo → List (List ℤ)
elements_in l e k = map (λ s. own_elements (l.entered e.0 k.0 s.1.0)) (comm_in l e.0)

-- ---- what a return carries

-- the bits that all flags have; all bits of none
abbrev pub common_bits : List ℤ → ℤ
common_bits [] = negsuc 0
common_bits (n ∷ ns) = int_bit_and w64 n (common_bits ns)

-- a reduction gives the reduction of all numbers, an agreement the bits that all flags have
abbrev pub IsValue : ℤ → List ℤ → Option Wanted → Type 0
IsValue n numbers (Some (wanted.Reduce op own)) = n ≡ reduced op numbers
IsValue n numbers (Some (wanted.Agree own)) = n ≡ common_bits numbers
IsValue n numbers other = ⊥

abbrev pub HasValue : Ledger → Proc → Epoch → CallNo → ℤ → Type 0
HasValue l p e k n = IsValue n (numbers_in l e k) (asked_of (l.stands p.0))

-- among n places, the one whose elements come to a place by a shift of so many places
abbrev pub source_of : (n by place : ℕ) → ℕ
source_of n by place = (place + (n - by % n)) % n

-- a shift gives the elements of the place that shifts to this one
abbrev pub IsShifted : List ℤ → List (List ℤ) → Option ℕ → Option Wanted → Type 0
IsShifted list all (Some place) (Some (wanted.Shift d own)) = list ≡ get_or all (source_of (length all) d place) []
IsShifted list all place other = ⊥

abbrev pub HasShifted : Ledger → Proc → Epoch → CallNo → List ℤ → Type 0
HasShifted l p e k list = IsShifted list (elements_in l e k) (place_in (comm_in l e.0) p.0) (asked_of (l.stands p.0))

-- ---- calls that return to all alike

-- calls that all places decide together; in others one may fail while another doesn't
abbrev pub is_agreed : Option Wanted → Bool
is_agreed (Some (wanted.Agree n)) = true
is_agreed (Some (wanted.Group g start depth)) = true
is_agreed (Some (wanted.Close g)) = true
is_agreed (Some (wanted.Delete g t)) = true
is_agreed other = false

-- two returns from one call are the same but for their processes
abbrev pub SaysTheSame : Item → Item → Type 0
SaysTheSame (item.Passed p e k) (item.Passed q f c) = Unit {0}
SaysTheSame (item.Value p e k n) (item.Value q f c m) = n ≡ m
SaysTheSame (item.Shifted p e k list) (item.Shifted q f c other) = list ≡ other
SaysTheSame (item.Created p e k g how list) (item.Created q f c h found other) = (g ≡ h) × (how ≡ found) × (list ≡ other)
SaysTheSame (item.Closed p e k g t) (item.Closed q f c h s) = (g ≡ h) × (t ≡ s)
SaysTheSame (item.Failed p e k x) (item.Failed q f c y) = x ≡ y
SaysTheSame (item.Revoked p e k x) (item.Revoked q f c y) = x ≡ y
SaysTheSame a b = ⊥

abbrev pub IsLikeFirst : Item → Bool → List Item → Type 0
IsLikeFirst it false returns = Unit {0}
IsLikeFirst it true [] = Unit {0}
IsLikeFirst it true (first ∷ returns) = SaysTheSame it first

-- where the call is decided together, the return says what the first one said
abbrev pub ReturnsAlike : Ledger → Proc → Epoch → CallNo → Item → Type 0
ReturnsAlike l p e k it = IsLikeFirst it (is_agreed (asked_of (l.stands p.0))) (l.returns e.0 k.0)

-- ---- rows

-- 6 and 3 have one bit in common, and the flag -1 has all
one_bit : common_bits (pos 6 ∷ pos 3 ∷ negsuc 0 ∷ []) ≡ pos 2
one_bit = refl

-- among three places the elements of place 2 come to place 0 by a shift of 1, and by one of 4; those of place 1 by one of 2
from_the_last : source_of 3 1 0 ≡ 2
from_the_last = refl

from_the_last_again : source_of 3 4 0 ≡ 2
from_the_last_again = refl

from_the_next : source_of 3 2 0 ≡ 1
from_the_next = refl
