-- Outward statements: each is refused, answered at once, or enters its call.
use Rattle.std.specs.Prelude.{ℕ, suc, ℤ, if◌then◌else◌, ◌==◌, List, [], ◌∷◌, Option, Some, None, unwrap_or}
use Rattle.fx_base.specs.declared.names.GroupId.{GroupId}
use Rattle.fx_base.specs.declared.names.Op.{Op}
use Rattle.fx_base.specs.declared.names.Stamp.{Stamp}
use Rattle.fx_ballot.specs.Turn.{Voting}
use Rattle.fx_item.specs.declared.item.Item.{Item}
use Rattle.fx_item.specs.declared.item.Item.TheVariants as item
use Rattle.fx_link.specs.declared.slot.Slot.{Slot}
use Rattle.fx_link.specs.declared.slot.Slot.TheVariants as slot
use Rattle.fx_walk.specs.declared.wanted.Wanted.{Wanted}
use Rattle.fx_walk.specs.declared.wanted.Wanted.TheVariants as wanted
use Rattle.fx_walk.specs.Walk.{Walk, Reply}
use Rattle.fx_machine.specs.Closing.{shares_for}
use Rattle.fx_machine.specs.Gathering.{target_of}
use Rattle.fx_machine.specs.Groups.{committing, known_of}
use Rattle.fx_machine.specs.Local.{Refusal, refusal_of, is_refused, found_at, attaches, stores, commits, restores}
use Rattle.fx_machine.specs.Nodes.{Node, Act, Core, Gathering, Sharing, Telling, Balloting, Calling, members, size, my_place, with_group, to_places, saying}
use Rattle.fx_machine.specs.Numbers.{proc, epoch_no, call_no}
use Rattle.fx_machine.specs.Reading.{OfCall, vote_text}
use Rattle.fx_machine.specs.Setup.{Setup}
use Rattle.fx_machine.specs.Texts.{Text, Part, Tell}

-- ---- entering a call: it takes the next number, and its first sends go in the same step

-- the node in its next call
abbrev pub entered : Core → Node → Node
entered core n = record n { calls = suc n.calls; stage = Calling core }

-- a call in which each other place gets what is meant for it
abbrev pub enters : Node → Core → Item → (ℕ → List Text) → Act
enters n core entering meant = record { node = entered core n; sends = to_places n meant; items = entering ∷ [] }

-- a call that begins with its ballot
abbrev pub enters_voting : Node → Item → Slot → Act
enters_voting n entering vote = saying (members n) (vote_text (OfCall n.epoch (suc n.calls)) vote) (entering ∷ []) (entered (Balloting Voting) n)

-- a flag is the vote
abbrev pub enters_agreement : Node → ℤ → Act
enters_agreement n flag = enters_voting n (item.Agree (proc n.me) (epoch_no n.epoch) (call_no (suc n.calls)) flag) (slot.Flag flag)

abbrev pub enters_deletion : Node → GroupId → Stamp → Act
enters_deletion n g stamp = enters_voting n (item.Drop (proc n.me) (epoch_no n.epoch) (call_no (suc n.calls)) g stamp) slot.Yes

-- a part of the next call
abbrev pub part : Node → List ℤ → Text
part n values = Part n.epoch (suc n.calls) values

abbrev pub enters_barrier : Node → Act
enters_barrier n = enters n Gathering (item.Barrier (proc n.me) (epoch_no n.epoch) (call_no (suc n.calls))) (λ x. part n [] ∷ [])

-- a number goes to all
abbrev pub enters_reduction : Node → Op → ℤ → Act
enters_reduction n op own = enters n Gathering (item.Reduce (proc n.me) (epoch_no n.epoch) (call_no (suc n.calls)) op own) (λ x. part n (own ∷ []) ∷ [])

-- elements go to one place, and an empty part to the others
abbrev pub enters_shift : Node → ℕ → List ℤ → Act
enters_shift n by elements =
    enters n Gathering (item.Shift (proc n.me) (epoch_no n.epoch) (call_no (suc n.calls)) by elements)
    (λ x. part n (if x == target_of (size n) by (my_place n) then elements else []) ∷ [])

-- what is held is told to all
abbrev pub enters_creation : Node → GroupId → Act
enters_creation n g =
    enters n Telling (item.Group (proc n.me) (epoch_no n.epoch) (call_no (suc n.calls)) g)
    (λ x. Tell n.epoch (suc n.calls) (known_of (n.groups g.0).held) ∷ [])

-- a commit barrier freezes what is pending
abbrev pub frozen : GroupId → Node → Node
frozen g n = with_group g.0 (committing (n.groups g.0)) n

-- and sends its snapshots to its keepers
abbrev pub enters_closing : Setup → Node → GroupId → Act
enters_closing s n g =
    enters n Sharing (item.Close (proc n.me) (epoch_no n.epoch) (call_no (suc n.calls)) g) (shares_for s n.epoch (suc n.calls) n (n.groups g.0))

-- ---- all statements

-- an outward statement that isn't refused
abbrev pub granted : Setup → Node → (Reply → Walk) → Wanted → Act
granted s n rest wanted.Barrier = enters_barrier n
granted s n rest (wanted.Reduce op own) = enters_reduction n op own
granted s n rest (wanted.Agree flag) = enters_agreement n flag
granted s n rest (wanted.Shift by elements) = enters_shift n by elements
granted s n rest (wanted.Group g start depth) = enters_creation n g
granted s n rest (wanted.Attach g m) = attaches n rest g m
granted s n rest (wanted.Store g m piece) = stores n rest g m piece
granted s n rest (wanted.Commit g) = commits n rest g
granted s n rest (wanted.Close g) = enters_closing s (frozen g n) g
granted s n rest (wanted.Restore g m stamp) = restores n rest g m stamp (unwrap_or (found_at (s.member_len g m) m.0 (n.groups g.0) stamp.0) [])
granted s n rest (wanted.Delete g stamp) = enters_deletion n g stamp

-- the refusal, where there is one
abbrev pub unless_refused : Node → (Reply → Walk) → Option Refusal → Act → Act
unless_refused n rest None act = act
unless_refused n rest (Some refusal) act = is_refused n rest refusal

-- the action of an outward statement
abbrev pub asked : Setup → Node → (Reply → Walk) → Wanted → Act
asked s n rest w = unless_refused n rest (refusal_of s n w) (granted s n rest w)
