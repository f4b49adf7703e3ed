-- The creation of a group: what is held is told, what was lost is made again, and new keepers get their shares.
use Rattle.std.specs.Prelude.{ℕ, suc, ◌+◌, ◌*◌, ℤ, pos, Bool, true, not, ◌&&◌, if◌then◌else◌, ◌==◌, nat_lt, nat_le, int_lt, int_le, List, [], ◌∷◌, ◌++◌, map, length, slice_get, Option, Some, None, is_some, is_none, option_map, option_and_then, unwrap_or}
use Rattle.std.specs.List.{list_all, position}
use Rattle.std.specs.Ordering.{int_eq}
use Rattle.fx_base.specs.declared.names.GroupId.{GroupId}
use Rattle.fx_base.specs.declared.names.How.{How}
use Rattle.fx_base.specs.declared.names.How.TheVariants as how
use Rattle.fx_base.specs.declared.names.Stamp.{Stamp}
use Rattle.fx_ballot.specs.Names.{seat_of, has}
use Rattle.std.specs.Option.{option_flatten}
use Rattle.fx_comm.specs.Seats.{Seat, idents_of, has_ident}
use Rattle.fx_item.specs.declared.item.Item.TheVariants as item
use Rattle.fx_link.specs.declared.slot.Slot.{Slot}
use Rattle.fx_link.specs.declared.slot.Slot.TheVariants as slot
use Rattle.fx_walk.specs.declared.wanted.Wanted.{Wanted}
use Rattle.fx_walk.specs.declared.wanted.Wanted.TheVariants as wanted
use Rattle.fx_walk.specs.Walk.{Walk, Reply, Nothing, stamp_at}
use Rattle.fx_machine.specs.Closing.{packed, same_stamps, is_ward, is_keeper, bytes_heard, kept_shares}
use Rattle.fx_machine.specs.Groups.{Birth, Held, Group, empty_held, bytes_of, stamps_in, retained, known_of, holds, created_with}
use Rattle.fx_machine.specs.Nodes.{Node, Act, Calling, Giving, procs_of, size, proc_at, ident_at, my_place, goes_on, with_group, writing, to_places}
use Rattle.fx_machine.specs.Numbers.{proc, epoch_no, call_no, first_below, rises, are_alike}
use Rattle.fx_machine.specs.Packings.{Snapshot}
use Rattle.fx_machine.specs.Reading.{first_read, only, tell_in, help_in, give_in, same_slot}
use Rattle.fx_machine.specs.Setup.{Setup}
use Rattle.fx_machine.specs.Texts.{Packed, Known, Text, Help, Give}
use Rattle.fx_machine.specs.Waits.{Wait, casts, behind, no_of}

-- a creation that a node is in: the group, its start stamp and its depth
pub record Creation : Type 0 where
  pub group : GroupId
  pub start : Stamp
  pub depth : ℕ

-- the creation that a statement asks for
abbrev pub creation : GroupId → Stamp → ℕ → Creation
creation group start depth = record { group = group; start = start; depth = depth }

-- what the statement asks for
abbrev pub wanted_by : Creation → Wanted
wanted_by c = wanted.Group c.group c.start c.depth

-- what the node keeps of the group
abbrev pub group_of : Node → Creation → Group
group_of n c = n.groups c.group.0

-- ---- tells

-- the same identities, or the same processes
abbrev pub same_numbers : List ℕ → List ℕ → Bool
same_numbers = are_alike (λ a b. a == b)

-- no process stands twice
abbrev pub are_apart : List ℕ → Bool
are_apart [] = true
are_apart (p ∷ ps) = not (has ps p) && are_apart ps

-- the greatest start stamp and the greatest work of an accepted job
abbrev pub greatest_start : ℕ
greatest_start = 1000000000

abbrev pub greatest_work : ℕ
greatest_work = 20000

-- two places hold the same creation and the same stamps
abbrev pub same_known : Known → Known → Bool
same_known a b =
    (a.created == b.created) && (int_eq a.next b.next && (same_numbers (idents_of a.comm) (idents_of b.comm) && (same_numbers (procs_of a.comm) (procs_of b.comm)
    && same_stamps a.stamps b.stamps)))

-- where anything is held here, it is the same
abbrev pub same_as_own : Option Known → Known → Bool
same_as_own None b = true
same_as_own (Some a) b = same_known a b

-- the next stamp is one that a start stamp and the work of so many epochs can come to; there are at most depth + 1 stamps, which rise and are
-- below it
abbrev pub stamps_fit : (epoch depth : ℕ) → Known → Bool
stamps_fit epoch depth k =
    int_le k.next (pos (greatest_start + greatest_work * epoch))
    && (nat_le (length k.stamps) (suc depth) && (rises int_lt k.stamps && list_all (λ t. int_lt t k.next) k.stamps))

-- at most 32 seats in rising identity, no process twice, and each identity of the communicator now
abbrev pub comm_fits : List Seat → Known → Bool
comm_fits now k =
    nat_le (length k.comm) 32
    && (rises nat_lt (idents_of k.comm) && (are_apart (procs_of k.comm) && list_all (has_ident k.comm) (idents_of now)))

-- what is told as known fits: it is of an earlier epoch, and like what is held here
abbrev pub fits_known : Node → Creation → Known → Bool
fits_known n c k =
    nat_lt k.created n.epoch && (stamps_fit n.epoch c.depth k && (comm_fits n.comm k && same_as_own (known_of (group_of n c).held) k))

abbrev pub fits_tell : Node → Creation → Option Known → Bool
fits_tell n c None = true
fits_tell n c (Some k) = fits_known n c k

-- what a place told, once it did; of oneself what one holds
abbrev pub tell_heard : Node → Creation → ℕ → Option (Option Known)
tell_heard n c x =
    if x == my_place n then Some (known_of (group_of n c).held)
    else first_read (λ t. only (fits_tell n c) (tell_in n.epoch n.calls t)) (n.texts (proc_at n x))

-- what a place holds that told so
abbrev pub known_at : Node → Creation → ℕ → Option Known
known_at n c x = option_flatten (tell_heard n c x)

-- the creation that is told of: that of the first place that holds anything
abbrev pub first_known : Node → Creation → Option Known
first_known n c = option_and_then (known_at n c) (first_below (size n) (λ x. is_some (known_at n c x)))

-- ---- helps

-- the place in the told communicator of the identity of a place
abbrev pub old_place : Node → Known → ℕ → ℕ
old_place n k x = seat_of (idents_of k.comm) (ident_at n x)

-- the place now of the identity that had a place in the told communicator, if it still has one
abbrev pub new_place : Node → Known → ℕ → Option ℕ
new_place n k y = option_and_then (λ ident. position (λ i. i == ident) (idents_of n.comm)) (slice_get (idents_of k.comm) y)

-- its help for a place that holds nothing, for each retained stamp, from its own snapshot and its share
abbrev pub help_for : Setup → Node → Creation → Known → ℕ → Packed
help_for s n c k x =
    map
    (λ e. (e.0, s.redundancy.help (length k.comm) (old_place n k (my_place n)) (old_place n k x) (s.packing.pack e.1) (bytes_of (group_of n c).held.shares e.0)))
    (group_of n c).held.kept

-- the help that was heard of a place: it has exactly the told stamps
abbrev pub help_heard : Node → Known → ℕ → Option Packed
help_heard n k x = first_read (λ t. only (λ p. same_stamps (stamps_in p) k.stamps) (help_in n.epoch n.calls t)) (n.texts (proc_at n x))

-- of those that told that they hold something, the help counts
abbrev pub help_of : Node → Creation → Known → ℕ → Option Packed
help_of n c k x = if is_some (known_at n c x) then help_heard n k x else None

-- the bytes of a help at a stamp, by place in the told communicator
abbrev pub helps_at : Node → Creation → Known → ℤ → ℕ → List ℕ
helps_at n c k t y = bytes_heard (option_and_then (help_of n c k) (new_place n k y)) t

-- the snapshot of a stamp made again, where its bytes are one
abbrev pub rebuilt_at : Setup → Node → Creation → Known → ℤ → Option Snapshot
rebuilt_at s n c k t = option_and_then s.packing.unpack (s.redundancy.rebuild (length k.comm) (old_place n k (my_place n)) (helps_at n c k t))

-- the snapshots of these stamps made again, where each one can be
abbrev pub rebuilt : Setup → Node → Creation → Known → List ℤ → Option (List (ℤ × Snapshot))
rebuilt s n c k [] = Some []
rebuilt s n c k (t ∷ ts) = option_and_then (λ snapshot. option_map (λ later. (t, snapshot) ∷ later) (rebuilt s n c k ts)) (rebuilt_at s n c k t)

-- its own snapshots: those that it holds, else those that are made again
abbrev pub own_snapshots : Setup → Node → Creation → Known → Option (List (ℤ × Snapshot))
own_snapshots s n c k = if holds (group_of n c) then Some (group_of n c).held.kept else rebuilt s n c k k.stamps

-- ---- gives

-- no entry where the snapshots couldn't be made again
abbrev pub give_by : Setup → Option (List (ℤ × Snapshot)) → Packed
give_by s None = []
give_by s (Some snapshots) = packed s.packing snapshots

-- it holds something, and the place told that it holds nothing
abbrev pub needs_help : Node → Creation → ℕ → Bool
needs_help n c x = holds (group_of n c) && is_none (known_at n c x)

-- who holds something helps who told that it holds nothing, and each gives to its keepers in the new communicator
abbrev pub meant_for : Setup → Node → Creation → Known → ℕ → List Text
meant_for s n c k x =
    (if needs_help n c x then Help n.epoch n.calls (help_for s n c k x) ∷ [] else [])
    ++ (if is_keeper s n x then Give n.epoch n.calls (give_by s (own_snapshots s n c k)) ∷ [] else [])

-- helps and gives are sent
abbrev pub helps_and_gives : Setup → Node → Creation → Known → Act
helps_and_gives s n c k = record { node = record n { stage = Calling Giving }; sends = to_places n (meant_for s n c k); items = [] }

-- a give has no entry, or exactly the told stamps
abbrev pub fits_give : Known → Packed → Bool
fits_give k [] = true
fits_give k (e ∷ es) = same_stamps (stamps_in (e ∷ es)) k.stamps

-- the give that was heard of a place
abbrev pub give_heard : Node → Known → ℕ → Option Packed
give_heard n k x = first_read (λ t. only (fits_give k) (give_in n.epoch n.calls t)) (n.texts (proc_at n x))

-- ---- the actions

-- the wait for the tells of all others
abbrev pub tell_wait : Node → Creation → Wait
tell_wait n c = record { places = size n; awaited = λ x. not (x == my_place n); heard = λ x. is_some (tell_heard n c x); no = no_of n (wanted_by c) }

-- the wait for the help of all that hold something
abbrev pub help_wait : Node → Creation → Known → Wait
help_wait n c k = record { places = size n; awaited = λ x. is_some (known_at n c x); heard = λ x. is_some (help_of n c k x); no = no_of n (wanted_by c) }

-- the wait for the gives of the wards
abbrev pub give_wait : Setup → Node → Creation → Known → Wait
give_wait s n c k = record { places = size n; awaited = is_ward s n; heard = λ x. is_some (give_heard n k x); no = no_of n (wanted_by c) }

-- all have told: where nobody holds anything it votes so; who holds something helps; another waits for the help of those
abbrev pub behind_tells : Setup → Node → Creation → Option Known → Option Act
behind_tells s n c None = Some (casts n slot.Fresh)
behind_tells s n c (Some k) =
    if holds (group_of n c) then Some (helps_and_gives s n c k) else behind n (help_wait n c k) (Some (helps_and_gives s n c k))

-- the action while tells or helps are awaited
abbrev pub in_telling : Setup → Node → Creation → Option Act
in_telling s n c = behind n (tell_wait n c) (behind_tells s n c (first_known n c))

-- whether its own snapshots are all there
abbrev pub finding : Option (List (ℤ × Snapshot)) → Slot
finding None = slot.Gone
finding (Some snapshots) = slot.Kept

-- all wards gave: it votes by its own snapshots
abbrev pub behind_gives : Setup → Node → Creation → Option Known → Option Act
behind_gives s n c None = None
behind_gives s n c (Some k) = behind n (give_wait s n c k) (Some (casts n (finding (own_snapshots s n c k))))

-- the action while gives are awaited
abbrev pub in_giving : Setup → Node → Creation → Option Act
in_giving s n c = behind_gives s n c (first_known n c)

-- ---- the return

-- what all found
abbrev pub how_of : List Slot → How
how_of slots = if list_all (same_slot slot.Fresh) slots then how.Fresh else (if list_all (same_slot slot.Kept) slots then how.Kept else how.Lost)

-- a creation in the epoch now
abbrev pub birth : Node → Birth
birth n = record { epoch = n.epoch; comm = n.comm }

-- what is held behind a creation that kept all: own snapshots, and the shares of the new wards
abbrev pub held_of : Setup → Node → Creation → Known → Held
held_of s n c k = record {
  born = Some (birth n);
  shares = kept_shares s n (give_heard n k) k.stamps;
  kept = unwrap_or (own_snapshots s n c k) [];
  free = k.next;
}

-- what is held behind a creation; but for one that kept all, nothing
abbrev pub held_behind : Setup → Node → Creation → How → Option Known → Held
held_behind s n c how.Kept (Some k) = held_of s n c k
held_behind s n c h known = empty_held (Some (birth n)) c.start.0

-- the return of a creation with this
abbrev pub creates_with : Node → Creation → (Reply → Walk) → How → Held → Act
creates_with n c rest h held =
    writing
    (item.Created (proc n.me) (epoch_no n.epoch) (call_no n.calls) c.group h (map stamp_at (retained (created_with c.depth held (group_of n c)))) ∷ [])
    (goes_on rest Nothing (with_group c.group.0 (created_with c.depth held (group_of n c)) n))

-- all votes are affirmative
abbrev pub creates : Setup → Node → Creation → (Reply → Walk) → List Slot → Act
creates s n c rest slots = creates_with n c rest (how_of slots) (held_behind s n c (how_of slots) (first_known n c))
