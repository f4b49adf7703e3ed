-- Rows of calls: what may be entered and returned, and what may not. Two ranks, each with one call in its body.
use Rattle.std.proofs.Common.{◌≡◌, ℕ, zero, suc, Bool, true, false, ◌==◌, List, [], ◌∷◌, get_or, Some, None, is_some, refl, ap, sym, ◌∙◌, arith}
use Rattle.std.specs.Prelude.{ℤ, pos, negsuc, if◌then◌else◌, nat_lt}
use Rattle.std.specs.Ordering.{int_eq}
use Rattle.fx_base.specs.declared.names.GroupId.{GroupId}
use Rattle.fx_base.specs.declared.names.Op.TheVariants as op
use Rattle.fx_base.specs.declared.names.Proc.{Proc}
use Rattle.fx_comm.specs.Seats.{seat}
use Rattle.fx_item.specs.declared.item.Item.{Item}
use Rattle.fx_item.specs.declared.item.Item.TheVariants as item
use Rattle.fx_link.specs.declared.slot.Slot.TheVariants as slot
use Rattle.fx_script.specs.declared.job.Job.{Job}
use Rattle.fx_walk.specs.declared.wanted.Wanted.{Wanted}
use Rattle.fx_walk.specs.declared.wanted.Wanted.TheVariants as wanted
use Rattle.fx_walk.specs.Plan.{Common, Barrier, Reduce, Agree, Shift, Group, Close, Delete, common_of}
use Rattle.fx_walk.specs.Walk.{Walk, Asks, stamp_at}
use Rattle.fx_legal.specs.Groups.{unborn, at_key}
use Rattle.fx_legal.specs.Ledger.{Chapter, Ledger, first_ledger}
use Rattle.fx_legal.specs.Stands.{Spare, Walking}
use Rattle.fx_legal.proofs.Words.{Accepts, Refuses, not_both, apart, proc, epoch, call, group_0, group_1, here, nothing, pair, alone_pair, two_and_spares, standing, stay_of, walking, done, asks, kill, join, barrier, reduce, agree, shift, group, close, drop, passed, value, shifted, failed, revoked}

-- rank 0 asks the one thing, rank 1 the other
abbrev each : Wanted → Wanted → ℕ → Walk
each first second zero = asks first
each first second (suc p) = asks second

abbrev asking : Wanted → Wanted → Ledger
asking first second = walking alone_pair (each first second)

-- process 0 is lost
abbrev with_kill : Job
with_kill = pair (pos 0) (0 ∷ [])

abbrev losing : Wanted → Wanted → Ledger
losing first second = walking with_kill (each first second)

-- ---- entries

abbrev barriers : Ledger
barriers = asking wanted.Barrier wanted.Barrier

enters_call_1 : Accepts alone_pair barriers [] (barrier 0 1)
enters_call_1 = (omega arith, ((record { asks = (refl, refl); granted = refl; current = refl }, refl), (tt, (tt, tt))))

not_call_2 : Refuses alone_pair barriers [] (barrier 0 2)
not_call_2 may = apart (λ n. n == 2) 2 1 refl refl may.1.0.1

-- what isn't asked isn't entered
not_a_sum : Refuses alone_pair barriers [] (reduce 0 1 op.Sum (pos 3))
not_a_sum may = apart is_barrier wanted.Barrier (wanted.Reduce op.Sum (pos 3)) refl refl may.1.0.0.asks.1
  where
    is_barrier : Wanted → Bool
    is_barrier wanted.Barrier = true
    is_barrier other = false

-- both enter alike, each with its own number
abbrev sums : Ledger
sums = asking (wanted.Reduce op.Sum (pos 3)) (wanted.Reduce op.Sum (pos 4))

enters_alike : Accepts alone_pair sums (reduce 0 1 op.Sum (pos 3) ∷ []) (reduce 1 1 op.Sum (pos 4))
enters_alike = (omega arith, ((record { asks = (refl, refl); granted = refl; current = refl }, refl), (refl, (tt, tt))))

not_another_operation : Refuses alone_pair (asking (wanted.Reduce op.Sum (pos 3)) (wanted.Reduce op.Min (pos 4))) (reduce 0 1 op.Sum (pos 3) ∷ []) (reduce 1 1 op.Min (pos 4))
not_another_operation may = apart is_sum (Reduce op.Sum) (Reduce op.Min) refl refl may.1.1.0
  where
    is_sum : Common → Bool
    is_sum (Reduce op.Sum) = true
    is_sum other = false

not_another_kind : Refuses alone_pair (asking wanted.Barrier (wanted.Agree (pos 3))) (barrier 0 1 ∷ []) (agree 1 1 (pos 3))
not_another_kind may = apart is_barrier Barrier Agree refl refl may.1.1.0
  where
    is_barrier : Common → Bool
    is_barrier Barrier = true
    is_barrier other = false

not_another_distance : Refuses alone_pair (asking (wanted.Shift 1 []) (wanted.Shift 2 [])) (shift 0 1 1 [] ∷ []) (shift 1 1 2 [])
not_another_distance may = apart is_by_1 (Shift 1) (Shift 2) refl refl may.1.1.0
  where
    is_by_1 : Common → Bool
    is_by_1 (Shift by) = by == 1
    is_by_1 other = false

enters_agreement : Accepts alone_pair (asking (wanted.Agree (pos 6)) (wanted.Agree (pos 3))) (agree 0 1 (pos 6) ∷ []) (agree 1 1 (pos 3))
enters_agreement = (omega arith, ((record { asks = (refl, refl); granted = refl; current = refl }, refl), (refl, (tt, tt))))

enters_shift : Accepts alone_pair (asking (wanted.Shift 1 (pos 10 ∷ [])) (wanted.Shift 1 (pos 20 ∷ []))) (shift 0 1 1 (pos 10 ∷ []) ∷ []) (shift 1 1 1 (pos 20 ∷ []))
enters_shift = (omega arith, ((record { asks = (refl, refl); granted = refl; current = refl }, refl), (refl, (tt, tt))))

-- ---- entries of groups

-- a creation of the group, from this stamp on
abbrev creates : GroupId → ℤ → Wanted
creates g t = wanted.Group g (stamp_at t) 0

enters_creation : Accepts alone_pair (asking (creates group_0 (pos 5)) (creates group_0 (pos 5))) (group 0 1 1 ∷ []) (group 1 1 1)
enters_creation = (omega arith, (stamp_at (pos 5), 0, ((record { asks = (refl, refl); granted = refl; current = refl }, refl), (refl, (tt, tt)))))

-- what rank 0 entered with can't be what rank 1 is to enter with
not_created_alike : (c d : Common) (test : Common → Bool) (own : Wanted) → common_of own ≡ d → test c ≡ true → test d ≡ false
    → (entered : Wanted) → own ≡ entered → c ≡ common_of entered → ⊥
not_created_alike c d test own owns holds fails entered asks same = apart test c d holds fails (same ∙ (sym (ap common_of asks) ∙ owns))

not_another_creation : Refuses alone_pair (asking (creates group_0 (pos 0)) (creates group_1 (pos 0))) (group 0 1 1 ∷ []) (item.Group (proc 1) (epoch 1) (call 1) group_1)
not_another_creation may =
    not_created_alike (Group group_0 (stamp_at (pos 0)) 0) (Group group_1 (stamp_at (pos 0)) 0) is_of_0 (creates group_1 (pos 0)) refl refl refl
    (wanted.Group group_1 may.1.0 may.1.1) may.1.2.0.0.asks.1 may.1.2.1.0
  where
    is_of_0 : Common → Bool
    is_of_0 (Group g start depth) = g.0 == 0
    is_of_0 other = false

not_another_start : Refuses alone_pair (asking (creates group_0 (pos 0)) (creates group_0 (pos 5))) (group 0 1 1 ∷ []) (group 1 1 1)
not_another_start may =
    not_created_alike (Group group_0 (stamp_at (pos 0)) 0) (Group group_0 (stamp_at (pos 5)) 0) is_from_0 (creates group_0 (pos 5)) refl refl refl
    (wanted.Group group_0 may.1.0 may.1.1) may.1.2.0.0.asks.1 may.1.2.1.0
  where
    is_from_0 : Common → Bool
    is_from_0 (Group g start depth) = int_eq start.0 (pos 0)
    is_from_0 other = false

-- both ranks have created groups 0 and 1, and stamps 0 and 1 are retained

abbrev with_groups : Wanted → Wanted → Ledger
with_groups first second = record (standing alone_pair (λ p. Walking (record (stay_of p) { has_created = λ g. true }) (each first second p))) {
  groups = λ g. record unborn { born = Some 1; next = stamp_at (pos 2); stamps = stamp_at (pos 0) ∷ stamp_at (pos 1) ∷ [] };
}

enters_closing : Accepts alone_pair (with_groups (wanted.Close group_0) (wanted.Close group_0)) (close 0 1 ∷ []) (close 1 1)
enters_closing = (omega arith, ((record { asks = (refl, refl); granted = refl; current = refl }, refl), (refl, (tt, tt))))

not_another_group : Refuses alone_pair (with_groups (wanted.Close group_0) (wanted.Close group_1)) (close 0 1 ∷ []) (item.Close (proc 1) (epoch 1) (call 1) group_1)
not_another_group may = apart is_of_0 (Close group_0) (Close group_1) refl refl may.1.1.0
  where
    is_of_0 : Common → Bool
    is_of_0 (Close g) = g.0 == 0
    is_of_0 other = false

abbrev deletes : ℤ → Wanted
deletes t = wanted.Delete group_0 (stamp_at t)

enters_deletion : Accepts alone_pair (with_groups (deletes (pos 1)) (deletes (pos 1))) (drop 0 1 (pos 1) ∷ []) (drop 1 1 (pos 1))
enters_deletion = (omega arith, ((record { asks = (refl, refl); granted = refl; current = refl }, refl), (refl, (tt, tt))))

not_another_stamp : Refuses alone_pair (with_groups (deletes (pos 0)) (deletes (pos 1))) (drop 0 1 (pos 0) ∷ []) (drop 1 1 (pos 1))
not_another_stamp may = apart is_at_0 (Delete group_0 (stamp_at (pos 0))) (Delete group_0 (stamp_at (pos 1))) refl refl may.1.1.0
  where
    is_at_0 : Common → Bool
    is_at_0 (Delete g stamp) = int_eq stamp.0 (pos 0)
    is_at_0 other = false

-- ---- where the next epoch has begun

abbrev begun : Job → Ledger → Ledger
begun job l = record l { chapters = at_key 2 (Some (two_and_spares job)) l.chapters }

-- no call is entered, and none returns or fails

not_entered_then : Refuses alone_pair (begun alone_pair barriers) [] (barrier 0 1)
not_entered_then may = apart is_some (Some (two_and_spares alone_pair)) None refl refl may.1.0.0.current

not_passed_then : Refuses alone_pair (begun alone_pair barriers) (barrier 0 1 ∷ barrier 1 1 ∷ []) (passed 0 1)
not_passed_then may = apart is_some (Some (two_and_spares alone_pair)) None refl refl may.1.0.1

not_failed_then : Refuses with_kill (begun with_kill (losing wanted.Barrier wanted.Barrier)) (barrier 1 1 ∷ kill 0 ∷ []) (failed 1 1 0)
not_failed_then may = apart is_some (Some (two_and_spares with_kill)) None refl refl may.1.0.0.1

-- ---- returns

-- nobody passes a barrier that not all have entered

passes : Accepts alone_pair barriers (barrier 0 1 ∷ barrier 1 1 ∷ []) (passed 0 1)
passes = (omega arith, (((refl, refl, tt), refl), (refl, (refl, tt)), tt))

not_alone : Refuses alone_pair barriers (barrier 0 1 ∷ []) (passed 0 1)
not_alone may = not_both (sym may.1.1.1.0)

-- a return is of the call that the process is inside of, and of its kind

not_outside : Refuses alone_pair barriers (barrier 0 1 ∷ barrier 1 1 ∷ passed 0 1 ∷ []) (passed 0 1)
not_outside may = absurd may.1.0.0

-- rank 0 has gone on to a second barrier

abbrev two_barriers : Walk
two_barriers = Asks (record { spot = here; in_when = false }) wanted.Barrier nothing (λ reply. asks wanted.Barrier)

not_of_call_1 : Refuses alone_pair (walking alone_pair (λ p. two_barriers)) (barrier 0 1 ∷ barrier 1 1 ∷ passed 0 1 ∷ barrier 0 2 ∷ []) (passed 0 1)
not_of_call_1 may = apart (λ n. n == 2) 2 1 refl refl may.1.0.0.1

not_a_value : Refuses alone_pair barriers (barrier 0 1 ∷ barrier 1 1 ∷ []) (value 0 1 (pos 0))
not_a_value may = absurd may.1.0.0.0.2

-- 3 and 4 come to 7

abbrev both_sums : List Item
both_sums = reduce 0 1 op.Sum (pos 3) ∷ reduce 1 1 op.Sum (pos 4) ∷ []

seven : Accepts alone_pair sums both_sums (value 1 1 (pos 7))
seven = (omega arith, ((((refl, refl, tt), refl), (refl, (refl, tt)), tt), refl))

not_six : Refuses alone_pair sums both_sums (value 1 1 (pos 6))
not_six may = apart (int_eq (pos 6)) (pos 6) (pos 7) refl refl may.1.1

-- the lesser of -2 and 4, the greater, and a sum that wraps: 2^63 - 1 and 1 come to -2^63

least : Accepts alone_pair (asking (wanted.Reduce op.Min (negsuc 1)) (wanted.Reduce op.Min (pos 4)))
    (reduce 0 1 op.Min (negsuc 1) ∷ reduce 1 1 op.Min (pos 4) ∷ []) (value 0 1 (negsuc 1))
least = (omega arith, ((((refl, refl, tt), refl), (refl, (refl, tt)), tt), refl))

greatest : Accepts alone_pair (asking (wanted.Reduce op.Max (negsuc 1)) (wanted.Reduce op.Max (pos 4)))
    (reduce 0 1 op.Max (negsuc 1) ∷ reduce 1 1 op.Max (pos 4) ∷ []) (value 0 1 (pos 4))
greatest = (omega arith, ((((refl, refl, tt), refl), (refl, (refl, tt)), tt), refl))

wraps : Accepts alone_pair (asking (wanted.Reduce op.Sum (pos 9223372036854775807)) (wanted.Reduce op.Sum (pos 1)))
    (reduce 0 1 op.Sum (pos 9223372036854775807) ∷ reduce 1 1 op.Sum (pos 1) ∷ []) (value 0 1 (negsuc 9223372036854775807))
wraps = (omega arith, ((((refl, refl, tt), refl), (refl, (refl, tt)), tt), refl))

-- the flags 6 and 3 have one bit in common, and both hear of it

abbrev flags : Ledger
flags = asking (wanted.Agree (pos 6)) (wanted.Agree (pos 3))

abbrev both_flags : List Item
both_flags = agree 0 1 (pos 6) ∷ agree 1 1 (pos 3) ∷ []

two_is_common : Accepts alone_pair flags both_flags (value 0 1 (pos 2))
two_is_common = (omega arith, ((((refl, refl, tt), refl), (refl, (refl, tt)), tt), refl))

both_hear_two : Accepts alone_pair flags (agree 0 1 (pos 6) ∷ agree 1 1 (pos 3) ∷ value 0 1 (pos 2) ∷ []) (value 1 1 (pos 2))
both_hear_two = (omega arith, ((((refl, refl, tt), refl), (refl, (refl, tt)), refl), refl))

not_own_flag : Refuses alone_pair flags both_flags (value 0 1 (pos 6))
not_own_flag may = apart (int_eq (pos 6)) (pos 6) (pos 2) refl refl may.1.1

-- of two places each has the other's elements by a shift of 1, and its own by one of 2

abbrev shifts : ℕ → Ledger
shifts d = asking (wanted.Shift d (pos 10 ∷ [])) (wanted.Shift d (pos 20 ∷ []))

abbrev both_shifts : ℕ → List Item
both_shifts d = shift 0 1 d (pos 10 ∷ []) ∷ shift 1 1 d (pos 20 ∷ []) ∷ []

others : Accepts alone_pair (shifts 1) (both_shifts 1) (shifted 0 1 (pos 20 ∷ []))
others = (omega arith, ((((refl, refl, tt), refl), (refl, (refl, tt)), tt), refl))

owns : Accepts alone_pair (shifts 2) (both_shifts 2) (shifted 1 1 (pos 20 ∷ []))
owns = (omega arith, ((((refl, refl, tt), refl), (refl, (refl, tt)), tt), refl))

not_its_own : Refuses alone_pair (shifts 1) (both_shifts 1) (shifted 0 1 (pos 10 ∷ []))
not_its_own may = apart (λ list. int_eq (pos 10) (get_or list 0 (pos 0))) (pos 10 ∷ []) (pos 20 ∷ []) refl refl may.1.1

-- ---- failures

-- a call fails by a process of the communicator that was killed

abbrev a_barrier : Ledger
a_barrier = losing wanted.Barrier wanted.Barrier

fails : Accepts with_kill a_barrier (barrier 1 1 ∷ kill 0 ∷ []) (failed 1 1 0)
fails = (omega arith, ((((refl, refl, tt), refl), tt), refl, refl))

not_by_a_living : Refuses with_kill a_barrier (barrier 1 1 ∷ []) (failed 1 1 0)
not_by_a_living may = not_both (sym may.1.2)

-- outside a call nothing fails, nor does a call of another number

not_failed_outside : Refuses with_kill a_barrier (kill 0 ∷ []) (failed 1 1 0)
not_failed_outside may = absurd may.1.0.0.0

not_failed_in_call_2 : Refuses with_kill a_barrier (barrier 1 1 ∷ kill 0 ∷ []) (failed 1 2 0)
not_failed_in_call_2 may = apart (λ n. n == 1) 1 2 refl refl may.1.0.0.0.1

-- nor does a call by a spare, which has no place: by one that was killed, or one that joined behind the loss of rank 0

abbrev with_spare : Job → Ledger
with_spare job = standing job (λ p. if nat_lt p 2 then Walking (stay_of p) (asks wanted.Barrier) else Spare 1)

not_by_a_lost_spare : Refuses (pair (pos 1) (2 ∷ [])) (with_spare (pair (pos 1) (2 ∷ []))) (barrier 1 1 ∷ kill 2 ∷ []) (failed 1 1 2)
not_by_a_lost_spare may = not_both (sym may.1.1)

not_by_a_joined_spare : Refuses (pair (pos 1) (0 ∷ [])) (with_spare (pair (pos 1) (0 ∷ []))) (barrier 1 1 ∷ kill 0 ∷ join 2 2 slot.Spare ∷ []) (revoked 1 1 2)
not_by_a_joined_spare may = not_both (sym may.1.1)

-- it is revoked by one that joined the next epoch

abbrev one_done : Ledger
one_done = walking alone_pair leaves
  where
    leaves : ℕ → Walk
    leaves zero = done
    leaves (suc p) = asks wanted.Barrier

is_revoked : Accepts alone_pair one_done (barrier 1 1 ∷ join 0 2 slot.Final ∷ []) (revoked 1 1 0)
is_revoked = (omega arith, ((((refl, refl, tt), refl), tt), refl, refl))

not_by_one_that_stays : Refuses alone_pair one_done (barrier 1 1 ∷ []) (revoked 1 1 0)
not_by_one_that_stays may = not_both (sym may.1.2)

not_revoked_outside : Refuses alone_pair one_done (join 0 2 slot.Final ∷ []) (revoked 1 1 0)
not_revoked_outside may = absurd may.1.0.0.0

-- behind a barrier that one has passed another may fail, and behind an agreement that one has returned from it may not

abbrev passed_once : List Item
passed_once = barrier 0 1 ∷ barrier 1 1 ∷ passed 0 1 ∷ kill 0 ∷ []

barrier_may_fail : Accepts with_kill a_barrier passed_once (failed 1 1 0)
barrier_may_fail = (omega arith, ((((refl, refl, tt), refl), tt), refl, refl))

agreement_may_not : Refuses with_kill (losing (wanted.Agree (pos 6)) (wanted.Agree (pos 3))) (agree 0 1 (pos 6) ∷ agree 1 1 (pos 3) ∷ value 0 1 (pos 2) ∷ kill 0 ∷ []) (failed 1 1 0)
agreement_may_not may = absurd may.1.0.1

-- and where one has failed by a process another fails by the same

agreement_fails : Accepts with_kill (losing (wanted.Agree (pos 6)) (wanted.Agree (pos 3))) (agree 1 1 (pos 3) ∷ kill 0 ∷ []) (failed 1 1 0)
agreement_fails = (omega arith, ((((refl, refl, tt), refl), tt), refl, refl))

-- of four ranks two are lost, and rank 2 has failed by rank 0

abbrev four_ranks : Job
four_ranks = record (pair (pos 0) (0 ∷ 1 ∷ [])) { ranks = pos 4 }

abbrev four : Chapter
four = record { comm = seat 0 0 ∷ seat 1 1 ∷ seat 2 2 ∷ seat 3 3 ∷ []; present = λ p. nat_lt p 4 }

abbrev four_agree : Ledger
four_agree = record (walking four_ranks (λ p. asks (wanted.Agree (pos 3)))) { chapters = at_key 1 (Some four) (first_ledger four_ranks).chapters }

abbrev one_failed : List Item
one_failed = agree 2 1 (pos 3) ∷ agree 3 1 (pos 3) ∷ kill 0 ∷ kill 1 ∷ failed 2 1 0 ∷ []

by_the_same : Accepts four_ranks four_agree one_failed (failed 3 1 0)
by_the_same = (omega arith, ((((refl, refl, tt), refl), refl), refl, refl))

not_by_another : Refuses four_ranks four_agree one_failed (failed 3 1 1)
not_by_another may = apart (λ (p : Proc). p.0 == 0) (record { 0 = 0 }) (record { 0 = 1 }) refl refl (sym may.1.0.1)

-- nor is it revoked once rank 2 has joined
not_revoked_instead : Refuses four_ranks four_agree (agree 2 1 (pos 3) ∷ agree 3 1 (pos 3) ∷ kill 0 ∷ kill 1 ∷ failed 2 1 0 ∷ join 2 2 slot.Error ∷ []) (revoked 3 1 2)
not_revoked_instead may = absurd may.1.0.1
