-- What a journal says so far of a data group, for all processes at once: which stamps are retained, and what each identity stored.
use Rattle.std.specs.Prelude.{◌≡◌, ℕ, ◌+◌, pos, Bool, ◌&&◌, not, ◌==◌, if◌then◌else◌, List, [], ◌∷◌, ◌++◌, length, Option, Some, None, refl}
use Rattle.std.specs.List.{filter, list_any}
use Rattle.std.specs.FinMap as finite
use Rattle.std.specs.Ordering.{eq_by_cmp}
use Rattle.fx_base.specs.Keys.{by_time}
use Rattle.fx_base.specs.declared.names.How.{How}
use Rattle.fx_base.specs.declared.names.How.TheVariants as how
use Rattle.fx_base.specs.declared.names.MemberId.{MemberId}
use Rattle.fx_base.specs.declared.names.Stamp.{Stamp}
use Rattle.fx_base.specs.declared.snapshot.Snapshot.{Snapshot}
use Rattle.fx_base.specs.declared.sparse.Sparse.{Sparse}
use Rattle.fx_store.specs.Store.{Stamped, stamps_of, newest, put_over, later, earlier}

pub record Group : Type 0 where
  -- the epoch of the last creation that returned, if one did
  pub born : Option ℕ
  -- the stamp of the next snapshot that is closed
  pub next : Stamp
  -- the retained stamps, rising
  pub stamps : List Stamp
  -- the closed snapshots of each identity, at the retained stamps
  pub closed : (ident : ℕ) → List Stamped
  -- what each identity stored in an epoch since its last commit there
  pub pending : (epoch ident : ℕ) → Snapshot
  -- what it committed there since the last closing that a process returned from
  pub tentative : (epoch ident : ℕ) → List Stamped

-- before anything is said of it
abbrev pub unborn : Group
unborn = record {
  born = None;
  next = record { 0 = pos 0 };
  stamps = [];
  closed = λ ident. [];
  pending = λ epoch ident. finite.empty;
  tentative = λ epoch ident. [];
}

-- a table with another entry at one key, or at one pair of keys
abbrev pub at_key : {X : Type 0} → ℕ → X → (ℕ → X) → ℕ → X
at_key key x table k = if k == key then x else table k

abbrev pub at_pair : {X : Type 0} → ℕ → ℕ → X → (ℕ → ℕ → X) → ℕ → ℕ → X
at_pair first second x table a b = if (a == first) && (b == second) then x else table a b

-- ---- what an identity does by itself

abbrev pub pending_piece : Option Sparse → Sparse
pending_piece None = finite.empty
pending_piece (Some piece) = piece

-- a piece of a member is put over what is pending of it; there is an entry even where the piece is empty
abbrev pub put_piece : MemberId → Sparse → Snapshot → Snapshot
put_piece member piece snapshot = finite.insert snapshot member (put_over piece (pending_piece (finite.get snapshot member)))

abbrev pub with_piece : (epoch ident : ℕ) → MemberId → Sparse → Group → Group
with_piece epoch ident member piece g = record g { pending = at_pair epoch ident (put_piece member piece (g.pending epoch ident)) g.pending }

-- the stamp of an identity's next commit
abbrev pub commit_stamp : (epoch ident : ℕ) → Group → Stamp
commit_stamp epoch ident g = later g.next (length (g.tentative epoch ident))

-- what is pending becomes the last tentative snapshot, under this stamp
abbrev pub with_commit : (epoch ident : ℕ) → Stamp → Group → Group
with_commit epoch ident stamp g = record g {
  tentative = at_pair epoch ident (g.tentative epoch ident ++ (stamp, g.pending epoch ident) ∷ []) g.tentative;
  pending = at_pair epoch ident finite.empty g.pending;
}

-- ---- what a call does, at the first of its returns

abbrev pub has_stamp : Stamp → List Stamp → Bool
has_stamp stamp stamps = list_any (eq_by_cmp by_time stamp) stamps

-- the snapshots at stamps of the list
abbrev pub those_at : List Stamp → List Stamped → List Stamped
those_at stamps snapshots = filter (λ s. has_stamp s.0 stamps) snapshots

-- the stamps of the second list that the first one lacks go behind it
abbrev pub joined_stamps : List Stamp → List Stamp → List Stamp
joined_stamps stamps [] = stamps
joined_stamps stamps (s ∷ more) = joined_stamps (if has_stamp s stamps then stamps else stamps ++ s ∷ []) more

-- these stamps, and behind them those of what these identities committed in the epoch
abbrev pub all_stamps : Group → ℕ → List ℕ → List Stamp → List Stamp
all_stamps g epoch [] stamps = stamps
all_stamps g epoch (ident ∷ idents) stamps = all_stamps g epoch idents (joined_stamps stamps (stamps_of (g.tentative epoch ident)))

-- the last of some stamps
abbrev pub last_of : Stamp → List Stamp → Stamp
last_of otherwise [] = otherwise
last_of otherwise (s ∷ stamps) = last_of s stamps

-- the last stamp that these identities committed in the epoch
abbrev pub last_waiting : (epoch : ℕ) → List ℕ → Group → Stamp
last_waiting epoch idents g = last_of (earlier g.next 1) (all_stamps g epoch idents [])

-- what these identities committed in the epoch is closed: of all closed stamps the newest depth + 1 stay
abbrev pub with_closing : (depth epoch : ℕ) → List ℕ → Group → Group
with_closing depth epoch idents g = retaining (newest (depth + 1) (all_stamps g epoch idents g.stamps))
  where
    retaining : List Stamp → Group
    retaining stamps = record g {
      next = later (last_waiting epoch idents g) 1;
      stamps = stamps;
      closed = λ ident. those_at stamps (g.closed ident ++ g.tentative epoch ident);
      tentative = λ e ident. if e == epoch then [] else g.tentative e ident;
    }

-- the snapshots of this stamp are gone
abbrev pub without_stamp : Stamp → Group → Group
without_stamp stamp g = record g {
  stamps = filter (λ s. not (eq_by_cmp by_time stamp s)) g.stamps;
  closed = λ ident. filter (λ s. not (eq_by_cmp by_time stamp s.0)) (g.closed ident);
}

-- a creation that finds the data leaves it; any other begins anew with the start stamp
abbrev pub with_creation : ℕ → How → Stamp → Group → Group
with_creation epoch how.Kept start g = record g { born = Some epoch }
with_creation epoch how.Fresh start g = record g { born = Some epoch; next = start; stamps = []; closed = λ ident. [] }
with_creation epoch how.Lost start g = record g { born = Some epoch; next = start; stamps = []; closed = λ ident. [] }

-- ---- rows

-- identity 0 commits twice from stamp 5 on in epoch 1, and a closing with depth 0 keeps the second
abbrev committed_twice : Group
committed_twice = with_commit 1 0 (record { 0 = pos 6 }) (with_commit 1 0 (record { 0 = pos 5 }) (with_creation 1 how.Fresh (record { 0 = pos 5 }) unborn))

second_stays : (with_closing 0 1 (0 ∷ []) committed_twice).stamps ≡ record { 0 = pos 6 } ∷ []
second_stays = refl

both_stay : (with_closing 1 1 (0 ∷ []) committed_twice).stamps ≡ record { 0 = pos 5 } ∷ record { 0 = pos 6 } ∷ []
both_stay = refl

then_seven : commit_stamp 1 0 (with_closing 1 1 (0 ∷ []) committed_twice) ≡ record { 0 = pos 7 }
then_seven = refl

first_is_deleted : (without_stamp (record { 0 = pos 5 }) (with_closing 1 1 (0 ∷ []) committed_twice)).stamps ≡ record { 0 = pos 6 } ∷ []
first_is_deleted = refl
