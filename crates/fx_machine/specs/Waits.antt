-- What stands in the way of a call: waits for other places, and the votes and errors that end them.
use Rattle.std.specs.Prelude.{ℕ, Bool, true, false, not, ◌&&◌, ◌||◌, if◌then◌else◌, List, [], ◌∷◌, Option, Some, None, is_some, option_map}
use Rattle.std.specs.List.{list_all}
use Rattle.fx_ballot.specs.Turn.{Voting}
use Rattle.std.specs.Option.{option_or}
use Rattle.fx_comm.specs.Seats.{Seat, has_place}
use Rattle.fx_item.specs.declared.item.Item.TheVariants as item
use Rattle.fx_link.specs.declared.slot.Slot.{Slot}
use Rattle.fx_link.specs.declared.slot.Slot.TheVariants as slot
use Rattle.fx_store.specs.Redundancy.{each_below}
use Rattle.fx_walk.specs.declared.wanted.Wanted.{Wanted}
use Rattle.fx_walk.specs.declared.wanted.Wanted.TheVariants as wanted
use Rattle.fx_machine.specs.Nodes.{Node, Act, Calling, Balloting, Failed, members, proc_at, writing, saying}
use Rattle.fx_machine.specs.Numbers.{proc, epoch_no, call_no, first_below}
use Rattle.fx_machine.specs.Reading.{Ballot, OfCall, vote_text, vote_of, has_left, only}

-- ---- the ballot of a call

abbrev pub is_flag : Slot → Bool
is_flag (slot.Flag n) = true
is_flag other = false

abbrev pub is_yes : Slot → Bool
is_yes slot.Yes = true
is_yes other = false

-- an affirmative vote in a creation
abbrev pub is_finding : Slot → Bool
is_finding slot.Fresh = true
is_finding slot.Kept = true
is_finding slot.Gone = true
is_finding other = false

-- a no names a process of the communicator
abbrev pub is_no : List Seat → Slot → Bool
is_no comm (slot.NoLost q) = has_place comm q.0
is_no comm (slot.NoLeft q) = has_place comm q.0
is_no comm other = false

-- what a vote may be in the ballot of a call
abbrev pub is_call_vote : List Seat → Wanted → Slot → Bool
is_call_vote comm (wanted.Agree flag) x = is_flag x
is_call_vote comm (wanted.Delete g stamp) x = is_yes x
is_call_vote comm (wanted.Close g) x = is_yes x || is_no comm x
is_call_vote comm (wanted.Group g start depth) x = is_finding x || is_no comm x
is_call_vote comm other x = false

-- the ballot of the call that it is in
abbrev pub call_ballot : Node → Wanted → Ballot
call_ballot n wanted = record { about = OfCall n.epoch n.calls; members = members n; is_vote = is_call_vote n.comm wanted }

-- it votes in that ballot
abbrev pub casts : Node → Slot → Act
casts n vote = saying (members n) (vote_text (OfCall n.epoch n.calls) vote) [] (record n { stage = Calling (Balloting Voting) })

-- ---- waits

-- the no of a place of which nothing comes any more: it is lost, else it left
abbrev pub no_of_absence : Node → ℕ → Option Slot
no_of_absence n x =
    if n.lost (proc_at n x) then Some (slot.NoLost (proc (proc_at n x)))
    else (if has_left n (proc_at n x) then Some (slot.NoLeft (proc (proc_at n x))) else None)

-- the no of a place in a creation: its own where it voted so, else that of its absence
abbrev pub no_of : Node → Wanted → ℕ → Option Slot
no_of n wanted x = option_or (only (is_no n.comm) (vote_of (call_ballot n wanted) n (proc_at n x))) (no_of_absence n x)

-- a wait of a call among so many places: for whom, who was heard, and the no that ends it for one that wasn't
pub record Wait : Type 0 where
  pub places : ℕ
  pub awaited : ℕ → Bool
  pub heard : ℕ → Bool
  pub no : ℕ → Option Slot

-- each awaited place was heard, or has its no
abbrev pub is_settled : Wait → Bool
is_settled w = each_below w.places (λ x. not (w.awaited x) || (w.heard x || is_some (w.no x)))

-- the first awaited place that wasn't heard
abbrev pub first_unheard : Wait → Option ℕ
first_unheard w = first_below w.places (λ x. w.awaited x && not (w.heard x))

-- it votes the no of the first place that wasn't heard; where all were heard comes what is next
abbrev pub unless_unheard : Node → Wait → Option ℕ → Option Act → Option Act
unless_unheard n w None next = next
unless_unheard n w (Some x) next = option_map (casts n) (w.no x)

-- behind a wait
abbrev pub behind : Node → Wait → Option Act → Option Act
behind n w next = if is_settled w then unless_unheard n w (first_unheard w) next else None

-- ---- errors

-- why a call didn't do what was asked: a process is lost, or it left
pub data Error : Type 0 where
  ByLoss : (proc : ℕ) → Error
  ByLeaving : (proc : ℕ) → Error

-- the call fails by a lost process, or is revoked by one that left
abbrev pub returns_error : Node → Error → Act
returns_error n (ByLoss x) = writing (item.Failed (proc n.me) (epoch_no n.epoch) (call_no n.calls) (proc x) ∷ []) (record n { stage = Failed })
returns_error n (ByLeaving x) = writing (item.Revoked (proc n.me) (epoch_no n.epoch) (call_no n.calls) (proc x) ∷ []) (record n { stage = Failed })

-- the error of a slot of process q
abbrev pub error_in : ℕ → Slot → Option Error
error_in q slot.Lost = Some (ByLoss q)
error_in q slot.Left = Some (ByLeaving q)
error_in q (slot.NoLost x) = Some (ByLoss x.0)
error_in q (slot.NoLeft x) = Some (ByLeaving x.0)
error_in q other = None

-- the error of the first slot that has one, in the order of seats
abbrev pub first_error : List ℕ → List Slot → Option Error
first_error [] slots = None
first_error (q ∷ qs) [] = None
first_error (q ∷ qs) (x ∷ xs) = option_or (error_in q x) (first_error qs xs)

-- what says that a member agrees
abbrev pub is_affirmative : Slot → Bool
is_affirmative x = is_yes x || (is_flag x || is_finding x)

-- all members agree
abbrev pub all_agree : List Slot → Bool
all_agree slots = list_all is_affirmative slots
