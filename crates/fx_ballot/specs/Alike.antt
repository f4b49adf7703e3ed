-- Members that differ only in what they know of processes without a seat, and what a change of a member does to them.
use Rattle.std.specs.Prelude.{◌≡◌, ◌≢◌, ◌<◌, ℕ, false}
use Rattle.fx_link.specs.declared.slot.Slot.{Slot}
use Rattle.fx_ballot.specs.declared.poll.Poll.TheVariants as poll
use Rattle.fx_ballot.specs.Turn.{Message}
use Rattle.fx_ballot.specs.World.{Member, among, after, told, entered, acted, turn_of}
use Rattle.fx_ballot.specs.Seats.{Seated, seat_turn, polled}

-- two members of one phase that know the same of each of the first n seats
pub record SameOnSeats (n : ℕ) (name : ℕ → ℕ) (m t : Member) : Type 0 where
  pub phase : m.phase ≡ t.phase
  pub heard : (k : ℕ) → k < n → m.heard (name k) ≡ t.heard (name k)

-- a change of a member keeps such members so
abbrev pub KeepsThemAlike : ℕ → (ℕ → ℕ) → (Member → Member) → Type 0
KeepsThemAlike n name change = (m t : Member) → SameOnSeats n name m t → SameOnSeats n name (change m) (change t)

-- a change doesn't show on the seats
abbrev pub HidesFromSeats : ℕ → (ℕ → ℕ) → (Member → Member) → Type 0
HidesFromSeats n name change = (m : Member) → SameOnSeats n name (change m) m

-- members that are alike on the seats stay so by all that comes, and take the same turn; what comes of a process without a
-- seat doesn't show there
pub record AlikeOnSeats (n : ℕ) (name : ℕ → ℕ) : Type 0 where
  pub hearing : (p : ℕ) (x : Message) → KeepsThemAlike n name (after p x)
  pub being_told : (p : ℕ) → KeepsThemAlike n name (told p)
  pub entering : (p : ℕ) (vote : Slot) → KeepsThemAlike n name (entered p vote)
  pub acting : (i : ℕ) → i < n → KeepsThemAlike n name (acted n name i)
  pub turns : (i : ℕ) (m t : Member) → SameOnSeats n name m t → turn_of n name i m ≡ turn_of n name i t
  pub strange_message : (p : ℕ) (x : Message) → among n name p ≡ false → HidesFromSeats n name (after p x)
  pub strange_loss : (p : ℕ) → among n name p ≡ false → HidesFromSeats n name (told p)

-- what was heard or told of another process before one entered may as well come after
pub record EarlyMessages (me p : ℕ) : Type 0 where
  pub heard : (vote : Slot) (x : Message) (m : Member) → me ≢ p → entered me vote (after p x m) ≡ after p x (entered me vote m)
  pub told : (vote : Slot) (m : Member) → me ≢ p → entered me vote (told p m) ≡ told p (entered me vote m)

-- a turn that does nothing changes nothing, of a member as the ballot world has it and as it keeps itself
pub record QuietTurns : Type 0 where
  pub of_member : (n : ℕ) (name : ℕ → ℕ) (i : ℕ) (m : Member) → (turn_of n name i m).poll ≡ poll.NotYet → acted n name i m ≡ m
  pub of_seated : (b : Seated) → (seat_turn b).poll ≡ poll.NotYet → polled b ≡ b
