-- What a process keeps of a data group.
use Rattle.std.specs.Prelude.{ℕ, suc, ◌+ℤ◌, ℤ, pos, negsuc, Bool, true, false, not, if◌then◌else◌, ◌==◌, nat_le, List, [], ◌∷◌, ◌++◌, map, length, Option, Some, None, is_some, unwrap_or, option_map}
use Rattle.std.specs.FinMap.Entries.{find, put}
use Rattle.std.specs.List.{filter, list_any, last_or}
use Rattle.std.specs.Ordering.{nat_cmp, int_eq}
use Rattle.fx_comm.specs.Seats.{Seat}
use Rattle.fx_store.specs.Store.{newest}
use Rattle.fx_machine.specs.Packings.{Piece, Snapshot}
use Rattle.fx_machine.specs.Texts.{Packed, Known}

-- the epoch and the communicator of a creation
pub record Birth : Type 0 where
  pub epoch : ℕ
  pub comm : List Seat

-- What the last creation and the closings since then left: its birth; the shares that are kept for the wards, and the own snapshots,
-- by the same stamps in rising order; and the first stamp that is free, which no closed snapshot has or had.
pub record Held : Type 0 where
  pub born : Option Birth
  pub shares : Packed
  pub kept : List (ℤ × Snapshot)
  pub free : ℤ

-- What is held; how many snapshots are kept beside the newest; whether the group was created in this epoch; the members that are
-- attached; what was stored since the last commit; and what was committed and isn't closed.
-- Members and indices rise in each snapshot, and stamps in each list.
pub record Group : Type 0 where
  pub held : Held
  pub depth : ℕ
  pub created : Bool
  pub attached : List ℕ
  pub pending : Snapshot
  pub tentative : List (ℤ × Snapshot)

-- nothing is retained, and the next stamp is the start stamp
abbrev pub empty_held : Option Birth → ℤ → Held
empty_held born start = record { born = born; shares = []; kept = []; free = start }

-- a group that was never created
abbrev pub untouched : Group
untouched = record { held = empty_held None (pos 0); depth = 0; created = false; attached = []; pending = []; tentative = [] }

-- ---- stamps

abbrev pub stamps_in : {X : Type 0} → List (ℤ × X) → List ℤ
stamps_in entries = map (λ e. e.0) entries

-- what stands at a stamp
abbrev pub at_stamp : {X : Type 0} → ℤ → List (ℤ × X) → Option X
at_stamp stamp [] = None
at_stamp stamp (e ∷ entries) = if int_eq stamp e.0 then Some e.1 else at_stamp stamp entries

-- what stands at other stamps
abbrev pub without : {X : Type 0} → ℤ → List (ℤ × X) → List (ℤ × X)
without stamp entries = filter (λ e. not (int_eq stamp e.0)) entries

-- the bytes at a stamp; empty ones where there are none
abbrev pub bytes_of : Packed → ℤ → List ℕ
bytes_of packed stamp = unwrap_or (at_stamp stamp packed) []

-- the stamp of the next snapshot
abbrev pub next_stamp : Group → ℤ
next_stamp g = g.held.free +ℤ pos (length g.tentative)

-- the retained stamps, in rising order
abbrev pub retained : Group → List ℤ
retained g = stamps_in g.held.kept

-- the newest retained stamp; -1 where the group isn't created in this epoch or nothing is retained
abbrev pub newest_stamp : Group → ℤ
newest_stamp g = if g.created then unwrap_or (last_or None (retained g)) (negsuc 0) else negsuc 0

-- ---- what statements and returns do

-- a member is attached
abbrev pub attaching : ℕ → Group → Group
attaching m g = record g { attached = m ∷ g.attached }

abbrev pub is_attached : ℕ → Group → Bool
is_attached m g = list_any (λ other. other == m) g.attached

-- the new elements, and the old ones at the indices that those lack
abbrev pub put_over : (new old : Piece) → Piece
put_over [] old = old
put_over (e ∷ new) old = put nat_cmp e.0 e.1 (put_over new old)

-- a piece is put over what is pending of the member, which has an entry from then on
abbrev pub storing : ℕ → Piece → Group → Group
storing m piece g = record g { pending = put nat_cmp m (put_over piece (unwrap_or (find nat_cmp m g.pending) [])) g.pending }

-- as many tentative snapshots wait as a commit allows
abbrev pub is_full : Group → Bool
is_full g = nat_le 16 (length g.tentative)

-- what is pending becomes the last tentative snapshot, under the next stamp
abbrev pub committing : Group → Group
committing g = record g { pending = []; tentative = g.tentative ++ (next_stamp g, g.pending) ∷ [] }

-- the tentative snapshots are closed, with the shares of their stamps; the newest depth + 1 of both stay
abbrev pub closing : Packed → Group → Group
closing shares g = record g {
  held = record (g.held) {
    shares = newest (suc g.depth) (g.held.shares ++ shares);
    kept = newest (suc g.depth) (g.held.kept ++ g.tentative);
    free = next_stamp g;
  };
  tentative = [];
}

-- a join gives up what isn't closed, and all attachments
abbrev pub discarding : Group → Group
discarding g = record g { attached = []; pending = []; tentative = [] }

-- no group counts as created in a new epoch
abbrev pub uncreated : Group → Group
uncreated g = record g { created = false }

-- the snapshot of a stamp and its share go
abbrev pub deleting : ℤ → Group → Group
deleting stamp g = record g { held = record (g.held) { shares = without stamp g.held.shares; kept = without stamp g.held.kept } }

-- it is created in this epoch, at this depth, and holds this
abbrev pub created_with : ℕ → Held → Group → Group
created_with depth held g = record g { held = held; depth = depth; created = true }

-- ---- what is told of it

-- what a place tells in a creation
abbrev pub known_of : Held → Option Known
known_of held = option_map (λ b. record { created = b.epoch; next = held.free; comm = b.comm; stamps = stamps_in held.kept }) held.born

-- it holds something of a creation
abbrev pub holds : Group → Bool
holds g = is_some g.held.born
