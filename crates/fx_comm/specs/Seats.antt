-- Communicators as lists of seats: an identity, and the process that has it. A place is an index in the list.
use Rattle.std.specs.Prelude.{◌≡◌, ℕ, ◌+◌, ◌<◌, ◌≤◌, zero, suc, Bool, true, false, cond, not, ◌&&◌, ◌||◌, ◌==◌, ◌⊎◌, List, [], ◌∷◌, ◌++◌, length, refl}
use Rattle.std.specs.Option.{option_map}
use Rattle.std.specs.declared.option.Option.{Option}
use Rattle.std.specs.declared.option.Option.TheVariants.{None, Some}
use Rattle.fx_base.specs.declared.names.Ident.{Ident}
use Rattle.fx_base.specs.declared.names.Proc.{Proc}
use Rattle.fx_base.specs.Sets.{those_below}

-- an identity, and the process that has it
abbrev pub Seat : Type 0
Seat = Ident × Proc

-- the seat of an identity and a process by their numbers
abbrev pub seat : ℕ → ℕ → Seat
seat ident proc = (record { 0 = ident }, record { 0 = proc })

-- so many identities from one on, each at the process of its number
unfoldable pub seats_from : ℕ → ℕ → List Seat
seats_from next zero = []
seats_from next (suc n) = seat next next ∷ seats_from (next + 1) n

-- the first communicator
abbrev pub first_seats : ℕ → List Seat
first_seats ranks = seats_from 0 ranks

-- whether a process has a place
abbrev pub has_place : List Seat → ℕ → Bool
has_place [] proc = false
has_place (s ∷ seats) proc = (s.1.0 == proc) || has_place seats proc

-- the place of a process
abbrev pub place_in : List Seat → ℕ → Option ℕ
place_in [] proc = None
place_in (s ∷ seats) proc = cond (s.1.0 == proc) (Some 0) (option_map (λ place. place + 1) (place_in seats proc))

-- whether an identity is somebody's
abbrev pub has_ident : List Seat → ℕ → Bool
has_ident [] ident = false
has_ident (s ∷ seats) ident = (s.0.0 == ident) || has_ident seats ident

-- the identities, in order of places
abbrev pub idents_of : List Seat → List ℕ
idents_of [] = []
idents_of (s ∷ seats) = s.0.0 ∷ idents_of seats

-- the present processes that have no place, in rising order
abbrev pub spares_of : List Seat → (ℕ → Bool) → List ℕ
spares_of old is_present = those_below (λ proc. is_present proc && not (has_place old proc)) 32

-- the seat of a lost identity once the spares stand by: that of the first one, or none
abbrev pub refilled : Ident → List ℕ → List Seat
refilled ident [] = []
refilled ident (spare ∷ spares) = (ident, record { 0 = spare }) ∷ []

-- the spares that are left then
abbrev pub spares_left : List ℕ → List ℕ
spares_left [] = []
spares_left (spare ∷ spares) = spares

-- a seat whose process is present stays, and each other identity goes to the next spare while there is one
abbrev pub filled : (ℕ → Bool) → List Seat → List ℕ → List Seat
filled is_present [] spares = []
filled is_present (s ∷ seats) spares =
    cond (is_present s.1.0) (s ∷ filled is_present seats spares) (refilled s.0 spares ++ filled is_present seats (spares_left spares))

-- the communicator after a repair
abbrev pub repaired : List Seat → (ℕ → Bool) → List Seat
repaired old is_present = filled is_present old (spares_of old is_present)

-- the communicator after so many repairs, by those who were present at each
abbrev pub after_repairs : List Seat → (ℕ → ℕ → Bool) → ℕ → List Seat
after_repairs first present zero = first
after_repairs first present (suc n) = repaired (after_repairs first present n) (present n)

-- who is present at a repair was present at the one before
abbrev pub NobodyComesBack : (ℕ → ℕ → Bool) → Type 0
NobodyComesBack present = (n proc : ℕ) → present (n + 1) proc ≡ true → present n proc ≡ true

-- the identities rise, and each is above the bound
abbrev pub RiseAbove : ℕ → List Seat → Type 0
RiseAbove bound [] = Unit {0}
RiseAbove bound (s ∷ seats) = (bound < s.0.0) × RiseAbove s.0.0 seats

-- the identities rise
abbrev pub IdentsRise : List Seat → Type 0
IdentsRise [] = Unit {0}
IdentsRise (s ∷ seats) = RiseAbove s.0.0 seats

-- no process has two places
abbrev pub NoTwoPlaces : List Seat → Type 0
NoTwoPlaces [] = Unit {0}
NoTwoPlaces (s ∷ seats) = (has_place seats s.1.0 ≡ false) × NoTwoPlaces seats

-- identities and processes are below 32
abbrev pub AllBelow32 : List Seat → Type 0
AllBelow32 [] = Unit {0}
AllBelow32 (s ∷ seats) = (s.0.0 < 32) × (s.1.0 < 32) × AllBelow32 seats

-- each process that has a place is present
abbrev pub AllPresent : (ℕ → Bool) → List Seat → Type 0
AllPresent is_present [] = Unit {0}
AllPresent is_present (s ∷ seats) = (is_present s.1.0 ≡ true) × AllPresent is_present seats

-- the seat is one of them
abbrev pub IsSeated : Seat → List Seat → Type 0
IsSeated x [] = ⊥
IsSeated x (s ∷ seats) = (s ≡ x) ⊎ IsSeated x seats

-- what is true of each communicator
pub record IsComm (seats : List Seat) : Type 0 where
  pub some : 0 < length seats
  pub at_most_32 : length seats ≤ 32
  pub rise : IdentsRise seats
  pub apart : NoTwoPlaces seats
  pub below : AllBelow32 seats

-- four ranks, of which 1 and 2 are lost

abbrev four : List Seat
four = seat 0 0 ∷ seat 1 1 ∷ seat 2 2 ∷ seat 3 3 ∷ []

first_four : first_seats 4 ≡ four
unfolding seats_from
first_four = refl

-- with one spare

abbrev with_one_spare : List Seat
with_one_spare = seat 0 0 ∷ seat 1 4 ∷ seat 3 3 ∷ []

one_spare : repaired four (λ proc. (proc == 0) || ((proc == 3) || (proc == 4))) ≡ with_one_spare
unfolding those_below
one_spare = refl

place_of_3 : place_in with_one_spare 3 ≡ Some 2
place_of_3 = refl

no_place_of_2 : place_in with_one_spare 2 ≡ None
no_place_of_2 = refl

-- with two spares: the lesser lost identity goes to the lesser spare

abbrev with_two_spares : List Seat
with_two_spares = seat 0 0 ∷ seat 1 4 ∷ seat 2 5 ∷ seat 3 3 ∷ []

two_spares : repaired four (λ proc. (proc == 0) || ((proc == 3) || ((proc == 4) || (proc == 5)))) ≡ with_two_spares
unfolding those_below
two_spares = refl

-- then 4 is lost too: 5 keeps its identity, at another place

abbrev there : ℕ → ℕ → Bool
there zero proc = (proc == 0) || ((proc == 3) || ((proc == 4) || (proc == 5)))
there (suc n) proc = (proc == 0) || ((proc == 3) || (proc == 5))

two_repairs : after_repairs four there 2 ≡ seat 0 0 ∷ seat 2 5 ∷ seat 3 3 ∷ []
unfolding those_below
two_repairs = refl
