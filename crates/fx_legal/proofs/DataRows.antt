-- Rows of what a process shows and answers by itself, and of closings and deletions.
use Rattle.std.proofs.Common.{◌≡◌, ℕ, Bool, true, false, not, ◌==◌, List, [], ◌∷◌, ◌++◌, get_or, map, Some, None, is_some, nat_cmp, refl, ap, sym, ◌∙◌, arith}
use Rattle.std.specs.Prelude.{Option, is_none, cond, ℤ, pos, codes}
use Rattle.std.specs.Ordering.{int_eq}
use Rattle.std.specs.FinMap.{get-empty, get-insert}
use Rattle.std.specs.FinMap as finite
use Rattle.std.specs.Cmp.{nat_cmp_total}
use Rattle.fx_base.specs.declared.names.GroupId.{GroupId}
use Rattle.fx_base.specs.Keys.{by_number, by_number_total}
use Rattle.fx_store.specs.Store.{Stamped}
use Rattle.fx_base.specs.declared.names.Stamp.{Stamp}
use Rattle.fx_base.specs.declared.sparse.Sparse.{Sparse}
use Rattle.fx_base.specs.declared.snapshot.Snapshot.{Snapshot}
use Rattle.fx_item.specs.declared.answer.Answer.{Answer}
use Rattle.fx_item.specs.declared.answer.Answer.TheVariants as answer
use Rattle.fx_item.specs.declared.answer.Refusable.{Refusable}
use Rattle.fx_item.specs.declared.answer.Refusable.TheVariants as refusable
use Rattle.fx_item.specs.declared.item.Item.{Item}
use Rattle.fx_item.specs.declared.item.Item.TheVariants as item
use Rattle.fx_walk.specs.declared.wanted.Wanted.{Wanted}
use Rattle.fx_walk.specs.declared.wanted.Wanted.TheVariants as wanted
use Rattle.fx_walk.specs.Walk.{Prints, stamp_at}
use Rattle.fx_legal.specs.Groups.{Group, unborn, at_key}
use Rattle.fx_legal.specs.Ledger.{Ledger}
use Rattle.fx_legal.specs.Legal.{written_all}
use Rattle.fx_legal.specs.Rules.{stored_at}
use Rattle.fx_legal.specs.Stands.{Note, Callback, Print, Opening, Walking}
use Rattle.fx_legal.proofs.Words.{Accepts, Refuses, not_both, apart, alone_pair, proc, epoch, call, group_0, group_1, member_0, standing, stay_of, walking, walking_with, nothing, done, asks, close, drop, passed, closed}

-- ---- what is shown

abbrev callback : List ℕ → Item
callback name = item.Callback (proc 0) (epoch 1) name

abbrev print : List ℕ → List ℤ → Item
print name values = item.Print (proc 0) (epoch 1) name values

-- a callback named `f`, which prints the counter `c`, with 5 in it

abbrev notes : List Note
notes = Callback (codes "f") ∷ Print (record { name = codes "c"; values = pos 5 ∷ [] }) ∷ []

abbrev calling_back : Ledger
calling_back = standing alone_pair (λ p. Opening 1 notes nothing)

runs : Accepts alone_pair calling_back [] (callback (codes "f"))
runs = (omega arith, ((refl, refl), refl))

not_another_callback : Refuses alone_pair calling_back [] (callback (codes "g"))
not_another_callback may = apart is_f (Callback (codes "f")) (Callback (codes "g")) refl refl may.1.0.1
  where
    is_f : Note → Bool
    is_f (Callback name) = get_or name 0 0 == 102
    is_f (Print printed) = false

prints_behind_it : Accepts alone_pair calling_back (callback (codes "f") ∷ []) (print (codes "c") (pos 5 ∷ []))
prints_behind_it = (omega arith, ((refl, refl), refl))

not_in_front_of_it : Refuses alone_pair calling_back [] (print (codes "c") (pos 5 ∷ []))
not_in_front_of_it may = apart is_callback (Callback (codes "f")) (Print (record { name = codes "c"; values = pos 5 ∷ [] })) refl refl may.1.0.1
  where
    is_callback : Note → Bool
    is_callback (Callback name) = true
    is_callback (Print printed) = false

-- the body prints `c`

abbrev printing : Ledger
printing = walking alone_pair (λ p. Prints (record { name = codes "c"; values = pos 5 ∷ [] }) done)

prints : Accepts alone_pair printing [] (print (codes "c") (pos 5 ∷ []))
prints = (omega arith, ((refl, refl), refl))

not_another_value : Refuses alone_pair printing [] (print (codes "c") (pos 6 ∷ []))
not_another_value may = apart (λ printed. int_eq (get_or printed.values 0 (pos 0)) (pos 5)) (record { name = codes "c"; values = pos 5 ∷ [] }) (record { name = codes "c"; values = pos 6 ∷ [] }) refl refl may.1.0.1

-- an epoch behind which the next has begun has no more items

over : Refuses alone_pair (record printing { chapters = λ e. Some (record { comm = []; present = λ p. false }) }) [] (print (codes "c") (pos 5 ∷ []))
over may = apart is_some _ _ refl refl may.1.1

-- ---- what a process answers by itself

abbrev attach : Item
attach = item.Attach (proc 0) (epoch 1) group_0 member_0

abbrev store : Sparse → Item
store list = item.Store (proc 0) (epoch 1) group_0 member_0 list

abbrev commit : ℤ → Item
commit t = item.Commit (proc 0) (epoch 1) group_0 (stamp_at t)

abbrev restore : ℤ → Sparse → Item
restore t list = item.Restore (proc 0) (epoch 1) group_0 member_0 (stamp_at t) list

-- `t` is 0 where the statement has no stamp
abbrev refused : Refusable → ℤ → Answer → Item
refused statement t why = item.Refused (proc 0) (epoch 1) statement group_0 member_0 (stamp_at t) why

-- without a member
abbrev refused_for_all : Refusable → Answer → Item
refused_for_all statement why = refused statement (pos 0) why

abbrev refused_group : Answer → Item
refused_group = refused_for_all refusable.Group

abbrev refused_closing : Answer → Item
refused_closing = refused_for_all refusable.CommitBarrier

abbrev refused_commit : Answer → Item
refused_commit = refused_for_all refusable.Commit

abbrev creates : Wanted
creates = wanted.Group group_0 (stamp_at (pos 0)) 0

-- 15 snapshots with nothing in them, and 16
abbrev empty_at : ℕ → Stamped
empty_at t = (stamp_at (pos t), finite.empty)

abbrev fifteen : List Stamped
fifteen = map empty_at (0 ∷ 1 ∷ 2 ∷ 3 ∷ 4 ∷ 5 ∷ 6 ∷ 7 ∷ 8 ∷ 9 ∷ 10 ∷ 11 ∷ 12 ∷ 13 ∷ 14 ∷ [])

abbrev sixteen : List Stamped
sixteen = fifteen ++ empty_at 15 ∷ []

abbrev wants : Wanted → Ledger
wants wanted = walking alone_pair (λ p. asks wanted)

-- where the group is created and the member attached
abbrev wants_with : Wanted → Ledger
wants_with wanted = walking_with alone_pair (λ p. asks wanted)

abbrev three_at_0 : Sparse
three_at_0 = finite.insert finite.empty 0 (pos 3)

-- a member of a group that was created is attached; of one that wasn't it is refused

attaches : Accepts alone_pair (wants_with (wanted.Attach group_0 member_0)) [] attach
attaches = (omega arith, record { asks = (refl, refl); granted = refl; current = refl })

not_attached : Refuses alone_pair (wants (wanted.Attach group_0 member_0)) [] attach
not_attached may = apart is_some (Some answer.NotCreated) None refl refl may.1.granted

refuses_member : Accepts alone_pair (wants (wanted.Attach group_0 member_0)) [] (refused refusable.Member (pos 0) answer.NotCreated)
refuses_member = (omega arith, ((refl, (refl, refl, refl), refl), refl))

not_refused : Refuses alone_pair (wants_with (wanted.Attach group_0 member_0)) [] (refused refusable.Member (pos 0) answer.NotCreated)
not_refused may = apart is_none None (Some answer.NotCreated) refl refl may.1.0.2

-- the first reason that holds is told
not_a_later_reason : Refuses alone_pair (wants (wanted.Store group_0 member_0 three_at_0)) [] (refused refusable.Store (pos 0) answer.NotAttached)
not_a_later_reason may = apart is_not_created (Some answer.NotCreated) (Some answer.NotAttached) refl refl may.1.0.2
  where
    is_not_created : Option Answer → Bool
    is_not_created (Some answer.NotCreated) = true
    is_not_created other = false

stores : Accepts alone_pair (wants_with (wanted.Store group_0 member_0 three_at_0)) [] (store three_at_0)
stores = (omega arith, record { asks = (refl, refl); granted = refl; current = refl })

not_stored : Refuses alone_pair (wants (wanted.Store group_0 member_0 three_at_0)) [] (store three_at_0)
not_stored may = apart is_some (Some answer.NotCreated) None refl refl may.1.granted

refuses_store : Accepts alone_pair (wants (wanted.Store group_0 member_0 three_at_0)) [] (refused refusable.Store (pos 0) answer.NotCreated)
refuses_store = (omega arith, ((refl, (refl, refl, refl), refl), refl))

-- nothing is stored of a member that wasn't attached, and of one that was it isn't refused

-- where the group is created and no member is attached
abbrev wants_unattached : Wanted → Ledger
wants_unattached wanted = standing alone_pair (λ p. Walking (record (stay_of p) { has_created = λ g. g == 0 }) (asks wanted))

refuses_unattached : Accepts alone_pair (wants_unattached (wanted.Store group_0 member_0 three_at_0)) [] (refused refusable.Store (pos 0) answer.NotAttached)
refuses_unattached = (omega arith, ((refl, (refl, refl, refl), refl), refl))

not_stored_unattached : Refuses alone_pair (wants_unattached (wanted.Store group_0 member_0 three_at_0)) [] (store three_at_0)
not_stored_unattached may = apart is_some (Some answer.NotAttached) None refl refl may.1.granted

not_refused_attached : Refuses alone_pair (wants_with (wanted.Store group_0 member_0 three_at_0)) [] (refused refusable.Store (pos 0) answer.NotAttached)
not_refused_attached may = apart is_none None (Some answer.NotAttached) refl refl may.1.0.2

-- what isn't asked isn't answered
not_asked : Refuses alone_pair (wants_with (wanted.Commit group_0)) [] attach
not_asked may = apart is_commit (wanted.Commit group_0) (wanted.Attach group_0 member_0) refl refl may.1.asks.1
  where
    is_commit : Wanted → Bool
    is_commit (wanted.Commit g) = true
    is_commit other = false

-- a group that was created isn't created again, and one that wasn't isn't closed

refuses_group : Accepts alone_pair (wants_with creates) [] (refused_group answer.AlreadyCreated)
refuses_group = (omega arith, ((refl, (refl, refl, refl), refl), refl))

not_created_again : Refuses alone_pair (wants_with creates) [] (item.Group (proc 0) (epoch 1) (call 1) group_0)
not_created_again may = apart is_none None (Some _) refl refl (sym may.1.2.0.0.granted)

refuses_closing : Accepts alone_pair (wants (wanted.Close group_0)) [] (refused_closing answer.NotCreated)
refuses_closing = (omega arith, ((refl, (refl, refl, refl), refl), refl))

not_closed : Refuses alone_pair (wants (wanted.Close group_0)) [] (close 0 1)
not_closed may = apart is_none None (Some _) refl refl (sym may.1.0.0.granted)

-- where 16 wait no more is committed, and where 15 wait one is

abbrev waiting : List Stamped → Ledger
waiting snapshots = record (wants_with (wanted.Commit group_0)) { groups = λ g. record unborn { tentative = λ e ident. snapshots } }

refuses_commit : Accepts alone_pair (waiting sixteen) [] (refused_commit answer.Full)
refuses_commit = (omega arith, ((refl, (refl, refl, refl), refl), refl))

not_a_seventeenth : Refuses alone_pair (waiting sixteen) [] (commit (pos 16))
not_a_seventeenth may = apart is_none None (Some _) refl refl (sym may.1.0.granted)

not_full : Refuses alone_pair (waiting fifteen) [] (refused_commit answer.Full)
not_full may = apart is_none None (Some _) refl refl may.1.0.2

commits_a_sixteenth : Accepts alone_pair (waiting fifteen) [] (commit (pos 15))
commits_a_sixteenth = (omega arith, (record { asks = (refl, refl); granted = refl; current = refl }, refl))

abbrev is_1 : Stamp → Bool
is_1 stamp = int_eq stamp.0 (pos 1)

-- the first commit of a group that starts at stamp 0

commits : Accepts alone_pair (wants_with (wanted.Commit group_0)) [] (commit (pos 0))
commits = (omega arith, (record { asks = (refl, refl); granted = refl; current = refl }, refl))

not_at_1 : Refuses alone_pair (wants_with (wanted.Commit group_0)) [] (commit (pos 1))
not_at_1 may = apart is_1 (stamp_at (pos 1)) (stamp_at (pos 0)) refl refl may.1.1

-- ---- closings, restores and deletions

-- both ranks close, and nothing waited: the last stamp that is closed is that of the closing itself

abbrev closing : Ledger
closing = wants_with (wanted.Close group_0)

abbrev both_close : List Item
both_close = close 0 1 ∷ close 1 1 ∷ []

closes : Accepts alone_pair closing both_close (closed 0 1 (pos 0))
closes = (omega arith, ((((refl, refl, refl), refl), (refl, (refl, tt)), tt), refl))

not_at_another : Refuses alone_pair closing both_close (closed 0 1 (pos 1))
not_at_another may = apart is_1 (stamp_at (pos 1)) (stamp_at (pos 0)) refl refl may.1.1

closes_too : Accepts alone_pair closing (close 0 1 ∷ close 1 1 ∷ closed 0 1 (pos 0) ∷ []) (closed 1 1 (pos 0))
closes_too = (omega arith, ((((refl, refl, refl), refl), (refl, (refl, tt)), (refl, refl)), refl))

not_at_another_then : Refuses alone_pair closing (close 0 1 ∷ close 1 1 ∷ closed 0 1 (pos 0) ∷ []) (closed 1 1 (pos 1))
not_at_another_then may = apart is_1 (stamp_at (pos 1)) (stamp_at (pos 0)) refl refl may.1.1

-- nor is another group closed, though its last stamp is 0 too

abbrev closing_beside : Ledger
closing_beside = record closing { groups = at_key 1 (record unborn { next = stamp_at (pos 1) }) closing.groups }

not_group_1 : Refuses alone_pair closing_beside both_close (item.Closed (proc 0) (epoch 1) (call 1) group_1 (stamp_at (pos 0)))
not_group_1 may = apart (λ (g : GroupId). g.0 == 1) group_1 group_0 refl refl may.1.0.0.0.2

-- at stamp 0 each identity stored 3 at index 0 of the member: that is restored, and nothing else

abbrev stored_once : Group
stored_once = record unborn { born = Some 1; next = stamp_at (pos 1); stamps = stamp_at (pos 0) ∷ []; closed = λ ident. (stamp_at (pos 0), with_three) ∷ [] }
  where
    with_three : Snapshot
    with_three = finite.insert finite.empty member_0 three_at_0

abbrev with_data : Wanted → Ledger
with_data wanted = record (wants_with wanted) { groups = λ g. stored_once }

three_is_there : stored_at stored_once 0 member_0 (stamp_at (pos 0)) ≡ Some three_at_0
three_is_there = get-insert by_number_total finite.empty member_0 three_at_0 member_0

restores : Accepts alone_pair (with_data (wanted.Restore group_0 member_0 (stamp_at (pos 0)))) [] (restore (pos 0) three_at_0)
restores = (omega arith, (record { asks = (refl, refl); granted = ap (λ entry. cond (not (is_some entry)) (Some answer.NotStored) None) three_is_there; current = refl }, three_is_there))

not_nothing : Refuses alone_pair (with_data (wanted.Restore group_0 member_0 (stamp_at (pos 0)))) [] (restore (pos 0) finite.empty)
not_nothing may = apart has_0 (Some three_at_0) (Some finite.empty) (ap is_some (get-insert nat_cmp_total finite.empty 0 (pos 3) 0)) (ap is_some (get-empty nat_cmp 0)) (sym three_is_there ∙ may.1.1)
  where
    has_0 : Option Sparse → Bool
    has_0 None = false
    has_0 (Some list) = is_some (finite.get list 0)

-- an identity that stored nothing of the member has nothing to restore

abbrev with_nothing : Ledger
with_nothing = record (wants_with restore_0) { groups = λ g. record stored_once { closed = λ ident. (stamp_at (pos 0), finite.empty) ∷ [] } }
  where
    restore_0 : Wanted
    restore_0 = wanted.Restore group_0 member_0 (stamp_at (pos 0))

not_there : stored_at (with_nothing.groups 0) 0 member_0 (stamp_at (pos 0)) ≡ None
not_there = get-empty by_number member_0

refuses_restore : Accepts alone_pair with_nothing [] (refused refusable.Restore (pos 0) answer.NotStored)
refuses_restore = (omega arith, ((refl, (refl, refl, refl), ap (λ entry. cond (not (is_some entry)) (Some answer.NotStored) None) not_there), refl))

-- a refusal names what was asked
not_of_another_stamp : Refuses alone_pair with_nothing [] (refused refusable.Restore (pos 1) answer.NotStored)
not_of_another_stamp may = apart is_1 (stamp_at (pos 1)) (stamp_at (pos 0)) refl refl may.1.0.1.2

no_stamp_1 : Accepts alone_pair (with_data (wanted.Restore group_0 member_0 (stamp_at (pos 1)))) [] (refused refusable.Restore (pos 1) answer.NoStamp)
no_stamp_1 = (omega arith, ((refl, (refl, refl, refl), refl), refl))

not_no_stamp : Refuses alone_pair (with_data (wanted.Restore group_0 member_0 (stamp_at (pos 0)))) [] (refused refusable.Restore (pos 0) answer.NoStamp)
not_no_stamp may =
    apart is_none None (Some answer.NoStamp) refl refl (sym (ap (λ entry. cond (not (is_some entry)) (Some answer.NotStored) None) three_is_there) ∙ may.1.0.2)

-- both delete stamp 0: with the first return it is gone for both

abbrev deletes : ℤ → Wanted
deletes t = wanted.Delete group_0 (stamp_at t)

abbrev deleting : Ledger
deleting = with_data (deletes (pos 0))

abbrev both_delete : List Item
both_delete = drop 0 1 (pos 0) ∷ drop 1 1 (pos 0) ∷ []

abbrev one_deleted : List Item
one_deleted = drop 0 1 (pos 0) ∷ drop 1 1 (pos 0) ∷ passed 0 1 ∷ []

passes : Accepts alone_pair deleting both_delete (passed 0 1)
passes = (omega arith, (((refl, refl, tt), refl), (refl, (refl, tt)), tt))

passes_too : Accepts alone_pair deleting one_deleted (passed 1 1)
passes_too = (omega arith, (((refl, refl, tt), refl), (refl, (refl, tt)), tt))

abbrev deleted : Group
deleted = (written_all alone_pair deleting one_deleted).groups 0

stamp_is_gone : deleted.stamps ≡ []
stamp_is_gone = refl

data_is_gone : (ident : ℕ) → deleted.closed ident ≡ []
data_is_gone ident = refl

not_gone_before : ((written_all alone_pair deleting both_delete).groups 0).stamps ≡ stamp_at (pos 0) ∷ []
not_gone_before = refl

not_before_all_ask : Refuses alone_pair deleting (drop 0 1 (pos 0) ∷ []) (passed 0 1)
not_before_all_ask may = not_both (sym may.1.1.1.0)

-- what isn't retained isn't deleted, nor is anything of a group that wasn't created

refuses_deletion : Accepts alone_pair (with_data (deletes (pos 1))) [] (refused refusable.Drop (pos 1) answer.NoStamp)
refuses_deletion = (omega arith, ((refl, (refl, refl, refl), refl), refl))

not_deleted : Refuses alone_pair (with_data (deletes (pos 1))) [] (drop 0 1 (pos 1))
not_deleted may = apart is_none None (Some _) refl refl (sym may.1.0.0.granted)

refuses_uncreated : Accepts alone_pair (wants (deletes (pos 0))) [] (refused refusable.Drop (pos 0) answer.NotCreated)
refuses_uncreated = (omega arith, ((refl, (refl, refl, refl), refl), refl))
