-- What processes say to one another: messages, with their maps as lists in rising key, so that what is done with them computes.
use Rattle.std.specs.Prelude.{ℕ, ℤ, List, Option}
use Rattle.fx_comm.specs.Seats.{Seat}
use Rattle.fx_link.specs.declared.slot.Slot.{Slot}

-- packed snapshots by stamp
abbrev pub Packed : Type 0
Packed = List (ℤ × List ℕ)

-- what a place holds of the last creation of a group: the epoch of that, the next stamp, its communicator, the retained stamps
pub record Known : Type 0 where
  pub created : ℕ
  pub next : ℤ
  pub comm : List Seat
  pub stamps : List ℤ

-- Each text is of an epoch, and all but the first two are of a call in it. A vote and the estimate of a round, in the ballot of the
-- epoch; a part of a gathering; a vote and the estimate of a round, in the ballot of a call; snapshots for a keeper; what is held
-- under a group, if anything is; help for what is to be made again; snapshots for a keeper in a new communicator.
pub data Text : Type 0 where
  Join : (epoch : ℕ) (kind : Slot) → Text
  Jest : (epoch round : ℕ) (slots : List Slot) → Text
  Part : (epoch call : ℕ) (values : List ℤ) → Text
  Vote : (epoch call : ℕ) (slot : Slot) → Text
  Est : (epoch call round : ℕ) (slots : List Slot) → Text
  Share : (epoch call : ℕ) (packed : Packed) → Text
  Tell : (epoch call : ℕ) (known : Option Known) → Text
  Help : (epoch call : ℕ) (packed : Packed) → Text
  Give : (epoch call : ℕ) (packed : Packed) → Text
