-- What an item says: the ledger behind it.
use Rattle.std.specs.Prelude.{ℕ, suc, ◌-◌, pos, Bool, true, false, ◌&&◌, ◌||◌, not, if◌then◌else◌, List, [], ◌∷◌, ◌++◌, length, Option, Some, None, is_some}
use Rattle.fx_base.specs.declared.names.CallNo.{CallNo}
use Rattle.fx_base.specs.declared.names.Epoch.{Epoch}
use Rattle.fx_base.specs.declared.names.GroupId.{GroupId}
use Rattle.fx_base.specs.declared.names.Ident.{Ident}
use Rattle.fx_base.specs.declared.names.MemberId.{MemberId}
use Rattle.fx_base.specs.declared.names.Proc.{Proc}
use Rattle.fx_base.specs.declared.names.Role.{Role}
use Rattle.fx_base.specs.declared.names.Stamp.{Stamp}
use Rattle.fx_check.specs.Facts.{Facts, facts_of, first_created}
use Rattle.fx_check.specs.Rules.{count_of}
use Rattle.fx_check.specs.declared.tables.Created.{Created}
use Rattle.fx_comm.specs.Seats.{Seat, has_place, place_in, idents_of}
use Rattle.fx_item.specs.declared.item.Item.{Item}
use Rattle.fx_item.specs.declared.item.Item.TheVariants as item
use Rattle.fx_script.specs.declared.job.Job.{Job}
use Rattle.fx_walk.specs.declared.wanted.Wanted.TheVariants as wanted
use Rattle.fx_walk.specs.Callbacks.{view_at_init, callbacks_at_init, body_start}
use Rattle.fx_walk.specs.State.{State, blank}
use Rattle.fx_walk.specs.Walk.{Given, Nothing, Number, Elements, Entries, Reply, Walk, Ends, Passes, Prints, Asks, walk_of}
use Rattle.fx_legal.specs.Groups.{Group, at_key, at_pair, with_piece, commit_stamp, with_commit, with_closing, without_stamp, with_creation}
use Rattle.fx_legal.specs.Ledger.{Chapter, Ledger, comm_in, is_present, role_in, first_success, all_latest}
use Rattle.fx_legal.specs.Stands.{notes_of, asked_of, Stay, Stand, Joined, Spare, Opening, Walking, Calling, Failed, Killed, Ended, shown, is_killed, is_gone}

-- ---- where a process stands behind its item

-- the state at the end of a walk
abbrev pub ended_state : State → Walk → State
ended_state otherwise (Ends state) = state
ended_state otherwise (Passes rest) = otherwise
ended_state otherwise (Prints printed rest) = otherwise
ended_state otherwise (Asks place wanted state rest) = otherwise

-- the state that a process joins with: that in which its call failed or its body came to the end; a new process and a spare have none
abbrev pub state_left : State → Stand → State
state_left otherwise (Walking stay walk) = ended_state otherwise walk
state_left otherwise (Failed epoch state) = state
state_left otherwise other = otherwise

-- the state that a process keeps while it waits
abbrev pub state_kept : State → Stand → State
state_kept otherwise (Joined epoch state) = state
state_kept otherwise other = otherwise

-- an epoch begins for a process with this place in it, or none
abbrev pub opened : Facts → (epoch : ℕ) → Role → Option ℕ → (size : ℕ) → State → Stand
opened f epoch role None size kept = Spare epoch
opened f epoch role (Some place) size kept =
    Opening epoch (notes_of (callbacks_at_init f role place size kept)) (body_start f role place size kept)

-- it has written the first of its notes
abbrev pub noted : Stand → Stand
noted (Opening epoch (note ∷ notes) state) = Opening epoch notes state
noted other = other

-- it has printed: a note of a callback, or the next thing that its body shows
abbrev pub printed : Stand → Stand
printed (Walking stay (Prints what rest)) = Walking stay (shown rest)
printed other = noted other

-- `Init` has returned
abbrev pub first_stay : ℕ → Ident → Stay
first_stay epoch ident = record { epoch = epoch; ident = ident; calls = 0; has_created = λ group. false; has_attached = λ group member. false }

abbrev pub returned_from_init : Job → Role → Ident → (rank size : ℕ) → Stand → Stand
returned_from_init job role ident rank size (Opening epoch notes state) =
    Walking (first_stay epoch ident) (shown (walk_of (facts_of job) job.body (view_at_init role rank size) state))
returned_from_init job role ident rank size other = other

-- a reply is given, and the newest stamps are those of the tables behind it
abbrev pub resumed : (ℕ → Group) → Stay → (Reply → Walk) → Given → Stand
resumed groups stay rest given = Walking stay (shown (rest (record { given = given; latest = all_latest groups stay })))

-- it has answered its own statement
abbrev pub answered : (ℕ → Group) → Given → Stand → Stand
answered groups given (Walking stay (Asks place asked state rest)) = resumed groups stay rest given
answered groups given other = other

-- and has attached the member
abbrev pub attached : (ℕ → Group) → GroupId → MemberId → Stand → Stand
attached groups group member (Walking stay (Asks place asked state rest)) =
    resumed groups (record stay { has_attached = at_pair group.0 member.0 true stay.has_attached }) rest Nothing
attached groups group member other = other

-- it has entered a call
abbrev pub entered : Stand → Stand
entered (Walking stay (Asks place asked state rest)) = Calling (record stay { calls = suc stay.calls }) asked state rest
entered other = other

-- its call has returned
abbrev pub returned : (ℕ → Group) → Given → Stand → Stand
returned groups given (Calling stay asked state rest) = resumed groups stay rest given
returned groups given other = other

-- and has created the group
abbrev pub created : (ℕ → Group) → GroupId → Stand → Stand
created groups group (Calling stay asked state rest) = resumed groups (record stay { has_created = at_key group.0 true stay.has_created }) rest Nothing
created groups group other = other

-- its call has failed
abbrev pub failed : Stand → Stand
failed (Calling stay asked state rest) = Failed stay.epoch state
failed other = other

-- ---- the tables of the groups behind an item

-- the identity of a process that `Init` has returned to; no other stores, commits or enters a call
abbrev pub ident_of : Stand → ℕ
ident_of (Walking stay walk) = stay.ident.0
ident_of (Calling stay asked state rest) = stay.ident.0
ident_of other = 0

-- the start stamp and the depth that the job gives to a group
abbrev pub start_of : Option Created → Stamp
start_of None = record { 0 = pos 0 }
start_of (Some created) = record { 0 = created.start }

abbrev pub depth_of : Option Created → ℕ
depth_of None = 0
depth_of (Some created) = count_of created.depth

abbrev pub creation_in : Job → GroupId → Option Created
creation_in job group = first_created (facts_of job).created (pos group.0)

-- another entry for one group
abbrev pub with_group : GroupId → (Group → Group) → (ℕ → Group) → ℕ → Group
with_group group change groups = at_key group.0 (change (groups group.0)) groups

-- only the first process that returns from a call changes the tables
abbrev pub unless_returned : Ledger → Epoch → CallNo → ((ℕ → Group) → ℕ → Group) → ℕ → Group
unless_returned l e k change = if is_some (first_success l e.0 k.0) then l.groups else change l.groups

-- a deletion has returned
abbrev pub without_asked : Stand → (ℕ → Group) → ℕ → Group
without_asked (Calling stay (wanted.Delete group stamp) state rest) groups = with_group group (without_stamp stamp) groups
without_asked other groups = groups

abbrev pub groups_behind : Job → Ledger → Item → ℕ → Group
groups_behind job l (item.Kill p) = l.groups
groups_behind job l (item.Join p e kind) = l.groups
groups_behind job l (item.Repaired p e size warn list) = l.groups
groups_behind job l (item.Callback p e name) = l.groups
groups_behind job l (item.Init p e role id rank size warn) = l.groups
groups_behind job l (item.Print p e name list) = l.groups
groups_behind job l (item.Attach p e g m) = l.groups
groups_behind job l (item.Store p e g m list) = with_group g (with_piece e.0 (ident_of (l.stands p.0)) m list) l.groups
groups_behind job l (item.Commit p e g t) = with_group g (with_commit e.0 (ident_of (l.stands p.0)) t) l.groups
groups_behind job l (item.Restore p e g m t list) = l.groups
groups_behind job l (item.Refused p e statement g m t answer) = l.groups
groups_behind job l (item.Barrier p e k) = l.groups
groups_behind job l (item.Reduce p e k op n) = l.groups
groups_behind job l (item.Agree p e k n) = l.groups
groups_behind job l (item.Shift p e k d list) = l.groups
groups_behind job l (item.Group p e k g) = l.groups
groups_behind job l (item.Close p e k g) =
    with_group g (with_commit e.0 (ident_of (l.stands p.0)) (commit_stamp e.0 (ident_of (l.stands p.0)) (l.groups g.0))) l.groups
groups_behind job l (item.Drop p e k g t) = l.groups
groups_behind job l (item.Passed p e k) = unless_returned l e k (without_asked (l.stands p.0))
groups_behind job l (item.Value p e k n) = l.groups
groups_behind job l (item.Shifted p e k list) = l.groups
groups_behind job l (item.Created p e k g how list) = unless_returned l e k (with_group g (with_creation e.0 how (start_of (creation_in job g))))
groups_behind job l (item.Closed p e k g t) =
    unless_returned l e k (with_group g (with_closing (depth_of (creation_in job g)) e.0 (idents_of (comm_in l e.0))))
groups_behind job l (item.Failed p e k x) = l.groups
groups_behind job l (item.Revoked p e k x) = l.groups
groups_behind job l (item.Ended p) = l.groups
groups_behind job l (item.Send p q message) = l.groups
groups_behind job l (item.Deliver p q message) = l.groups
groups_behind job l (item.Told p q) = l.groups

-- ---- the epochs and the schedule behind an item

-- who is present in an epoch that begins with this communicator: who has a place, and who was present, has joined and wasn't killed
abbrev pub belongs : Ledger → ℕ → List Seat → ℕ → Bool
belongs l epoch comm q =
    has_place comm q || (is_present l (epoch - 1) q && (is_some (l.joined epoch q) && not (is_killed (l.stands q))))

-- the first `repaired` of an epoch begins it
abbrev pub begun_by : Ledger → ℕ → List Seat → Option Chapter → Option Chapter
begun_by l epoch comm None = Some (record { comm = comm; present = belongs l epoch comm })
begun_by l epoch comm (Some chapter) = Some chapter

-- the kills that are left, without those in front whose processes are gone
abbrev pub due_kills : (ℕ → Stand) → List ℕ → List ℕ
due_kills stands [] = []
due_kills stands (p ∷ more) = if is_gone (stands p) then due_kills stands more else p ∷ more

abbrev pub behind_first : List ℕ → List ℕ
behind_first [] = []
behind_first (p ∷ more) = more

-- ---- the ledger behind an item

abbrev pub stands_at : Proc → Stand → Ledger → Ledger
stands_at p stand l = record l { stands = at_key p.0 stand l.stands }

-- with another return from a call
abbrev pub with_return : Epoch → CallNo → Item → Ledger → Ledger
with_return e k it l = record l { returns = at_pair e.0 k.0 (l.returns e.0 k.0 ++ it ∷ []) l.returns }

-- with what the process has asked in this call
abbrev pub with_entry : Proc → Epoch → CallNo → Ledger → Ledger
with_entry p e k l = record l { entered = at_pair e.0 k.0 (at_key p.0 (asked_of (l.stands p.0)) (l.entered e.0 k.0)) l.entered }

-- with the tables behind the item
abbrev pub tabled : Job → Item → Ledger → Ledger
tabled job it l = record l { groups = groups_behind job l it }

-- the process stands elsewhere, by the tables behind the item
abbrev pub moved : Job → Item → Proc → ((ℕ → Group) → Stand → Stand) → Ledger → Ledger
moved job it p move l = stands_at p (move (groups_behind job l it) (l.stands p.0)) (tabled job it l)

-- an epoch begins for a process
abbrev pub opens : Job → Proc → Epoch → List Seat → Ledger → Ledger
opens job p e comm l = stands_at p (opened (facts_of job) e.0 (role_in l e.0 p.0) (place_in comm p.0) (length comm) (state_kept (blank (facts_of job)) (l.stands p.0))) now
  where
    now : Ledger
    now = record l { chapters = at_key e.0 (begun_by l e.0 comm (l.chapters e.0)) l.chapters }

abbrev pub written : Job → Ledger → Item → Ledger
written job l (item.Kill p) = record (stands_at p Killed l) { kills = behind_first (due_kills l.stands l.kills) }
written job l (item.Join p e kind) =
    record (stands_at p (Joined e.0 (state_left (blank (facts_of job)) (l.stands p.0))) l) { joined = at_pair e.0 p.0 (Some kind) l.joined }
written job l (item.Repaired p e size warn list) = opens job p e list l
written job l (item.Callback p e name) = stands_at p (noted (l.stands p.0)) l
written job l (item.Init p e role id rank size warn) = stands_at p (returned_from_init job role id rank size (l.stands p.0)) l
written job l (item.Print p e name list) = stands_at p (printed (l.stands p.0)) l
written job l (item.Attach p e g m) = moved job (item.Attach p e g m) p (λ groups. attached groups g m) l
written job l (item.Store p e g m list) = moved job (item.Store p e g m list) p (λ groups. answered groups Nothing) l
written job l (item.Commit p e g t) = moved job (item.Commit p e g t) p (λ groups. answered groups Nothing) l
written job l (item.Restore p e g m t list) = moved job (item.Restore p e g m t list) p (λ groups. answered groups (Entries list)) l
written job l (item.Refused p e statement g m t answer) = moved job (item.Refused p e statement g m t answer) p (λ groups. answered groups Nothing) l
written job l (item.Barrier p e k) = with_entry p e k (moved job (item.Barrier p e k) p (λ groups. entered) l)
written job l (item.Reduce p e k op n) = with_entry p e k (moved job (item.Reduce p e k op n) p (λ groups. entered) l)
written job l (item.Agree p e k n) = with_entry p e k (moved job (item.Agree p e k n) p (λ groups. entered) l)
written job l (item.Shift p e k d list) = with_entry p e k (moved job (item.Shift p e k d list) p (λ groups. entered) l)
written job l (item.Group p e k g) = with_entry p e k (moved job (item.Group p e k g) p (λ groups. entered) l)
written job l (item.Close p e k g) = with_entry p e k (moved job (item.Close p e k g) p (λ groups. entered) l)
written job l (item.Drop p e k g t) = with_entry p e k (moved job (item.Drop p e k g t) p (λ groups. entered) l)
written job l (item.Passed p e k) = with_return e k (item.Passed p e k) (moved job (item.Passed p e k) p (λ groups. returned groups Nothing) l)
written job l (item.Value p e k n) = with_return e k (item.Value p e k n) (moved job (item.Value p e k n) p (λ groups. returned groups (Number n)) l)
written job l (item.Shifted p e k list) = with_return e k (item.Shifted p e k list) (moved job (item.Shifted p e k list) p (λ groups. returned groups (Elements list)) l)
written job l (item.Created p e k g how list) = with_return e k (item.Created p e k g how list) (moved job (item.Created p e k g how list) p (λ groups. created groups g) l)
written job l (item.Closed p e k g t) = with_return e k (item.Closed p e k g t) (moved job (item.Closed p e k g t) p (λ groups. returned groups Nothing) l)
written job l (item.Failed p e k x) = with_return e k (item.Failed p e k x) (stands_at p (failed (l.stands p.0)) l)
written job l (item.Revoked p e k x) = with_return e k (item.Revoked p e k x) (stands_at p (failed (l.stands p.0)) l)
written job l (item.Ended p) = stands_at p Ended l
written job l (item.Send p q message) = l
written job l (item.Deliver p q message) = l
written job l (item.Told p q) = l
