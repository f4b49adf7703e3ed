-- Rows of losses, joins, the begin of epochs and ends, and the whole journal of two ranks that have nothing to do.
use Rattle.std.proofs.Common.{◌≡◌, ◌<◌, inl, inr, ℕ, zero, suc, Bool, true, false, ◌||◌, ◌&&◌, ◌==◌, List, [], ◌∷◌, Some, None, is_some, refl, ap, sym, arith}
use Rattle.std.specs.Prelude.{Option, pos, codes, if◌then◌else◌, is_none, nat_lt}
use Rattle.fx_base.specs.Sets.{those_below}
use Rattle.fx_base.specs.declared.names.Role.{Role}
use Rattle.fx_base.specs.declared.names.Role.TheVariants as role
use Rattle.fx_comm.specs.Seats.{Seat, seat, has_place, seats_from}
use Rattle.fx_item.specs.declared.item.Item.{Item}
use Rattle.fx_item.specs.declared.item.Item.TheVariants as item
use Rattle.fx_link.specs.declared.slot.Slot.{Slot}
use Rattle.fx_link.specs.declared.slot.Slot.TheVariants as slot
use Rattle.fx_script.specs.declared.job.Job.{Job}
use Rattle.fx_walk.specs.declared.wanted.Wanted.TheVariants as wanted
use Rattle.fx_walk.specs.Walk.{Walk}
use Rattle.fx_legal.specs.Groups.{at_key}
use Rattle.fx_legal.specs.Ledger.{Ledger, first_ledger, comm_in, is_present}
use Rattle.fx_legal.specs.Legal.{HasKilledAll, IsLegalWhole, written_all, ledger_of}
use Rattle.fx_legal.specs.Rules.{Begins, MayEnd}
use Rattle.fx_legal.specs.Stands.{Callback, Joined, Spare, Opening, Walking, Ended, is_killed}
use Rattle.fx_legal.proofs.Words.{Accepts, Refuses, not_both, apart, pair, alone_pair, two, nothing, proc, epoch, full, two_and_spares, stay_of, walking, standing, done, asks, kill, join, repaired, barrier, failed, revoked, ended}

-- a process below 2 is 0 or 1

below_two : (P : ℕ → Type 0) → P 0 → P 1 → (q : ℕ) → nat_lt q 2 ≡ true → P q
below_two P first second zero e = first
below_two P first second (suc zero) e = second
below_two P first second (suc (suc q)) e = absurd (grind (arith, e))

-- and who has a place is 0 or 1
seated_in_two : (P : ℕ → Type 0) → P 0 → P 1 → (q : ℕ) → has_place two q ≡ true → P q
seated_in_two P first second zero e = first
seated_in_two P first second (suc zero) e = second
seated_in_two P first second (suc (suc q)) e = absurd (grind (arith, e))

lt_of : (q n : ℕ) → q < n → nat_lt q n ≡ true
lt_of q n few = grind (arith, few)

-- ---- processes and losses

-- two ranks and a spare, whose schedule kills 1 twice and then 0

abbrev trio : Job
trio = pair (pos 1) (1 ∷ 1 ∷ 0 ∷ [])

abbrev at_first : Ledger
at_first = first_ledger trio

not_of_the_job : Refuses trio at_first [] (join 3 1 slot.Start)
not_of_the_job may = absurd (omega (arith, may.0))

kills : Accepts trio at_first [] (kill 1)
kills = (omega arith, refl)

-- what would kill 1 again is passed over
then_kills : Accepts trio at_first (kill 1 ∷ []) (kill 0)
then_kills = (omega arith, refl)

not_in_that_order : Refuses trio at_first [] (kill 0)
not_in_that_order may = apart (λ n. n == 1) 1 0 refl refl may.1

not_unscheduled : Refuses trio at_first (kill 1 ∷ kill 0 ∷ []) (kill 2)
not_unscheduled may = absurd may.1

-- so is what would kill a process that has ended

abbrev ends_first : Job
ends_first = pair (pos 0) (0 ∷ 1 ∷ [])

kills_behind_an_end : Accepts ends_first (walking ends_first (λ p. done)) (join 0 2 slot.Final ∷ join 1 2 slot.Final ∷ ended 0 ∷ []) (kill 1)
kills_behind_an_end = (omega arith, refl)

-- ---- joins

joins : Accepts trio at_first [] (join 2 1 slot.Start)
joins = (omega arith, (refl, refl))

abbrev is_error : Slot → Bool
is_error slot.Error = true
is_error other = false

abbrev is_spare : Slot → Bool
is_spare slot.Spare = true
is_spare other = false

not_as_spare : Refuses trio at_first [] (join 2 1 slot.Spare)
not_as_spare may = apart is_spare slot.Spare slot.Start refl refl may.1.0

not_later : Refuses trio at_first [] (join 2 2 slot.Start)
not_later may = apart (λ n. n == 2) 2 1 refl refl may.1.1

-- a body that is done joins as final, and one that isn't doesn't

joins_as_final : Accepts alone_pair (walking alone_pair (λ p. done)) [] (join 0 2 slot.Final)
joins_as_final = (omega arith, (refl, refl))

not_before_the_end : Refuses alone_pair (walking alone_pair (λ p. asks wanted.Barrier)) [] (join 0 2 slot.Final)
not_before_the_end may = absurd may.1

not_final_as_error : Refuses alone_pair (walking alone_pair (λ p. done)) [] (join 0 2 slot.Error)
not_final_as_error may = apart is_error slot.Error slot.Final refl refl may.1.0

not_final_for_epoch_3 : Refuses alone_pair (walking alone_pair (λ p. done)) [] (join 0 3 slot.Final)
not_final_for_epoch_3 may = apart (λ n. n == 3) 3 2 refl refl may.1.1

-- a failed call is left by a join as error, and no other

abbrev lossy : Job
lossy = pair (pos 0) (1 ∷ [])

abbrev at_barriers : Ledger
at_barriers = walking lossy (λ p. asks wanted.Barrier)

abbrev one_failed : List Item
one_failed = barrier 0 1 ∷ kill 1 ∷ failed 0 1 1 ∷ []

joins_as_error : Accepts lossy at_barriers one_failed (join 0 2 slot.Error)
joins_as_error = (omega arith, (refl, refl))

not_error_as_final : Refuses lossy at_barriers one_failed (join 0 2 slot.Final)
not_error_as_final may = apart is_error slot.Error slot.Final refl refl (sym may.1.0)

not_error_for_epoch_3 : Refuses lossy at_barriers one_failed (join 0 3 slot.Error)
not_error_for_epoch_3 may = apart (λ n. n == 3) 3 2 refl refl may.1.1

not_inside_a_call : Refuses lossy at_barriers (barrier 0 1 ∷ kill 1 ∷ []) (join 0 2 slot.Error)
not_inside_a_call may = absurd may.1

-- a spare joins once somebody who has a place was killed, or somebody who is present joined

-- both bodies are done, and every other process is a spare
abbrev with_spares : Job → Ledger
with_spares job = standing job (λ p. if nat_lt p 2 then Walking (stay_of p) done else Spare 1)

abbrev with_spare : Ledger
with_spare = with_spares trio

joins_as_spare : Accepts trio with_spare (kill 1 ∷ []) (join 2 2 slot.Spare)
joins_as_spare = (omega arith, (refl, refl, (1, inr (refl, refl))))

joins_behind_another : Accepts trio with_spare (join 0 2 slot.Final ∷ []) (join 2 2 slot.Spare)
joins_behind_another = (omega arith, (refl, refl, (0, inl (refl, refl))))

not_spare_as_error : Refuses trio with_spare (kill 1 ∷ []) (join 2 2 slot.Error)
not_spare_as_error may = apart is_spare slot.Spare slot.Error refl refl (sym may.1.0)

not_spare_for_epoch_3 : Refuses trio with_spare (kill 1 ∷ []) (join 2 3 slot.Spare)
not_spare_for_epoch_3 may = apart (λ n. n == 3) 3 2 refl refl may.1.1

-- where nobody was killed and nobody joined it stays
not_unstirred : Refuses trio with_spare [] (join 2 2 slot.Spare)
not_unstirred may = elim may.1.2.1 [ inl joined ↦ not_both (sym joined.1) | inr lost ↦ nobody may.1.2.0 lost.0 lost.1 ]
  where
    nobody : (q : ℕ) → has_place two q ≡ true → is_killed (with_spare.stands q) ≡ true → ⊥
    nobody q place = seated_in_two (λ n. is_killed (with_spare.stands n) ≡ true → ⊥) (λ e. not_both (sym e)) (λ e. not_both (sym e)) q place

-- nor does it join where only another spare was killed

abbrev loses_a_spare : Job
loses_a_spare = pair (pos 2) (3 ∷ [])

not_stirred_by_a_spare : Refuses loses_a_spare (with_spares loses_a_spare) (kill 3 ∷ []) (join 2 2 slot.Spare)
not_stirred_by_a_spare may = elim may.1.2.1 [ inl joined ↦ not_both (sym joined.1) | inr lost ↦ nobody may.1.2.0 lost.0 lost.1 ]
  where
    behind : Ledger
    behind = written_all loses_a_spare (with_spares loses_a_spare) (kill 3 ∷ [])

    nobody : (q : ℕ) → has_place two q ≡ true → is_killed (behind.stands q) ≡ true → ⊥
    nobody q place = seated_in_two (λ n. is_killed (behind.stands n) ≡ true → ⊥) (λ e. not_both (sym e)) (λ e. not_both (sym e)) q place

-- ---- epochs

abbrev both_done : Ledger
both_done = walking alone_pair (λ p. done)

abbrev both_joined : List Item
both_joined = join 0 1 slot.Start ∷ join 1 1 slot.Start ∷ []

abbrev swapped : List Seat
swapped = seat 0 1 ∷ seat 1 0 ∷ []

abbrev is_swapped : List Seat → Bool
is_swapped [] = false
is_swapped (s ∷ seats) = s.1.0 == 1

not_ended : (q : ℕ) → q < 2 → (ledger_of alone_pair both_joined).stands q ≡ Ended → ⊥
not_ended q few = below_two (λ n. (ledger_of alone_pair both_joined).stands n ≡ Ended → ⊥) (λ e. absurd cc) (λ e. absurd cc) q (lt_of q 2 few)

begins : Begins alone_pair (ledger_of alone_pair both_joined) 1 two
unfolding those_below seats_from
begins = record {
  none_ended = not_ended;
  all_joined = λ q there living. below_two (λ n. is_some ((ledger_of alone_pair both_joined).joined 1 n) ≡ true) refl refl q there;
  seated = λ q place. seated_in_two (λ n. (is_present (ledger_of alone_pair both_joined) 0 n ≡ true) × (is_some ((ledger_of alone_pair both_joined).joined 1 n) ≡ true)) (refl, refl) (refl, refl) q place;
  mended = refl;
}

is_repaired : Accepts alone_pair (first_ledger alone_pair) both_joined (repaired 1 1 2 full two)
is_repaired = (omega arith, record { waits = refl; one = begins; sized = (refl, refl); current = refl })

-- not with those alone that have joined, while another lives
not_before_all_join : Refuses alone_pair (first_ledger alone_pair) (join 1 1 slot.Start ∷ []) (repaired 1 1 1 true (seat 1 1 ∷ []))
not_before_all_join may = not_both (sym (may.1.one.all_joined 0 refl refl))

not_swapped : Refuses alone_pair (first_ledger alone_pair) both_joined (repaired 1 1 2 full swapped)
unfolding those_below seats_from
not_swapped may = apart is_swapped swapped two refl refl may.1.one.mended

not_with_a_warning : Refuses alone_pair (first_ledger alone_pair) both_joined (repaired 1 1 2 true two)
not_with_a_warning may = not_both may.1.sized.1

not_of_size_3 : Refuses alone_pair (first_ledger alone_pair) both_joined (repaired 1 1 3 full two)
not_of_size_3 may = apart (λ n. n == 3) 3 2 refl refl may.1.sized.0

-- who doesn't wait for it isn't repaired
not_twice : Refuses alone_pair (first_ledger alone_pair) (join 0 1 slot.Start ∷ join 1 1 slot.Start ∷ repaired 1 1 2 full two ∷ []) (repaired 1 1 2 full two)
not_twice may = absurd may.1.waits

-- no epoch begins behind one whose end somebody has come to
not_behind_an_end : Refuses alone_pair both_done (join 0 2 slot.Final ∷ join 1 2 slot.Final ∷ ended 0 ∷ []) (repaired 1 2 2 full two)
not_behind_an_end may = may.1.one.none_ended 0 (omega arith) refl

-- nobody has a place that hasn't joined: rank 1 and the spare are killed in front of their joins

abbrev loses_two : Job
loses_two = pair (pos 1) (1 ∷ 2 ∷ [])

not_unjoined : Refuses loses_two (first_ledger loses_two) (join 0 1 slot.Start ∷ kill 1 ∷ kill 2 ∷ []) (repaired 0 1 2 full (seat 0 0 ∷ seat 1 2 ∷ []))
not_unjoined may = not_both (sym (may.1.one.seated 2 refl).1)

-- nor in an epoch behind which the next has begun

abbrev begun : Ledger → Ledger
begun l = record l { chapters = at_key 2 (Some (two_and_spares alone_pair)) l.chapters }

not_in_the_past : Refuses alone_pair (begun (standing alone_pair (λ p. Joined 1 nothing))) [] (repaired 1 1 2 full two)
not_in_the_past may = apart is_none None (Some _) refl refl (sym may.1.current)

-- the second carries what the first one did

repaired_too : Accepts alone_pair (first_ledger alone_pair) (join 0 1 slot.Start ∷ join 1 1 slot.Start ∷ repaired 1 1 2 full two ∷ []) (repaired 0 1 2 full two)
repaired_too = (omega arith, record { waits = refl; one = refl; sized = (refl, refl); current = refl })

not_otherwise : Refuses alone_pair (first_ledger alone_pair) (join 0 1 slot.Start ∷ join 1 1 slot.Start ∷ repaired 1 1 2 full two ∷ []) (repaired 0 1 2 full swapped)
not_otherwise may = apart is_swapped swapped two refl refl may.1.one

-- ---- the return from `Init`

abbrev init_of : (size : ℕ) (warn : Bool) (p : ℕ) → Role → (ident rank : ℕ) → Item
init_of size warn p kind ident rank = item.Init (proc p) (epoch 1) kind (record { 0 = ident }) rank size warn

abbrev init : (p : ℕ) → Role → (ident rank : ℕ) → Item
init = init_of 2 full

abbrev both_repaired : List Item
both_repaired = join 0 1 slot.Start ∷ join 1 1 slot.Start ∷ repaired 1 1 2 full two ∷ repaired 0 1 2 full two ∷ []

returns : Accepts alone_pair (first_ledger alone_pair) both_repaired (init 1 role.Initial 1 1)
returns = (omega arith, record { opened = refl; named = refl; seated = refl; sized = (refl, refl); current = refl })

-- behind the callbacks, and not before they have written

abbrev calling_back : Ledger
calling_back = standing alone_pair (λ p. Opening 1 (Callback (codes "f") ∷ []) nothing)

returns_behind_callbacks : Accepts alone_pair calling_back (item.Callback (proc 1) (epoch 1) (codes "f") ∷ []) (init 1 role.Initial 1 1)
returns_behind_callbacks = (omega arith, record { opened = refl; named = refl; seated = refl; sized = (refl, refl); current = refl })

not_unopened : Refuses alone_pair calling_back [] (init 1 role.Initial 1 1)
not_unopened may = absurd may.1.opened

not_into_size_3 : Refuses alone_pair (first_ledger alone_pair) both_repaired (init_of 3 full 1 role.Initial 1 1)
not_into_size_3 may = apart (λ n. n == 3) 3 2 refl refl may.1.sized.0

not_into_a_warning : Refuses alone_pair (first_ledger alone_pair) both_repaired (init_of 2 true 1 role.Initial 1 1)
not_into_a_warning may = not_both may.1.sized.1

not_returned_in_the_past : Refuses alone_pair (begun (standing alone_pair (λ p. Opening 1 [] nothing))) [] (init 1 role.Initial 1 1)
not_returned_in_the_past may = apart is_none None (Some _) refl refl (sym may.1.current)

not_as_survivor : Refuses alone_pair (first_ledger alone_pair) both_repaired (init 1 role.Survivor 1 1)
not_as_survivor may = apart is_survivor role.Survivor role.Initial refl refl may.1.named
  where
    is_survivor : Role → Bool
    is_survivor role.Survivor = true
    is_survivor other = false

not_at_place_0 : Refuses alone_pair (first_ledger alone_pair) both_repaired (init 1 role.Initial 1 0)
not_at_place_0 may = apart (λ s. s.1.0 == 0) (seat 0 0) (seat 1 1) refl refl may.1.seated

-- ---- ends

abbrev both_final : List Item
both_final = join 0 2 slot.Final ∷ join 1 2 slot.Final ∷ []

may_end : (l : Ledger) → l.joined 2 0 ≡ Some slot.Final → l.joined 2 1 ≡ Some slot.Final
    → ((q : ℕ) → has_place (comm_in l 1) q ≡ true → has_place two q ≡ true)
    → ((q : ℕ) → is_present l 1 q ≡ true → nat_lt q 2 ≡ true) → l.chapters 2 ≡ None → MayEnd alone_pair l 2
may_end l first second seated present unbegun = record {
  late = omega arith;
  final = λ q place. seated_in_two (λ n. l.joined 2 n ≡ Some slot.Final) first second q (seated q place);
  all_joined = λ q there living. below_two (λ n. is_some (l.joined 2 n) ≡ true) (ap is_some first) (ap is_some second) q (present q there);
  unbegun = unbegun;
}

ends : Accepts alone_pair both_done both_final (ended 0)
ends = (omega arith, may_end (written_all alone_pair both_done both_final) refl refl (λ q e. e) (λ q e. e) refl)

not_before_both_join : Refuses alone_pair both_done (join 0 2 slot.Final ∷ []) (ended 0)
not_before_both_join may = apart is_none None (Some slot.Final) refl refl (may.1.final 1 refl)

-- nor where one joined by an error: its barrier was revoked

abbrev leaves_to_one : ℕ → Walk
leaves_to_one zero = done
leaves_to_one (suc p) = asks wanted.Barrier

not_behind_an_error : Refuses alone_pair (walking alone_pair leaves_to_one) (barrier 1 1 ∷ join 0 2 slot.Final ∷ revoked 1 1 0 ∷ join 1 2 slot.Error ∷ []) (ended 0)
not_behind_an_error may = apart is_failure (Some slot.Error) (Some slot.Final) refl refl (may.1.final 1 refl)
  where
    is_failure : Option Slot → Bool
    is_failure None = false
    is_failure (Some kind) = is_error kind

-- nor while a spare that is present hasn't joined
not_without_the_spare : Refuses (pair (pos 1) []) (with_spares (pair (pos 1) [])) both_final (ended 0)
not_without_the_spare may = not_both (sym (may.1.all_joined 2 refl refl))

-- nor in epoch 1
not_at_first : Refuses alone_pair (first_ledger alone_pair) both_joined (ended 0)
not_at_first may = absurd (omega (arith, may.1.late))

-- nor where the epoch has begun
not_once_begun : Refuses alone_pair (begun both_done) both_final (ended 0)
not_once_begun may = apart is_none None (Some _) refl refl (sym may.1.unbegun)

-- ---- what stands in no journal

not_told : Refuses alone_pair (first_ledger alone_pair) [] (item.Told (proc 0) (proc 1))
not_told may = absurd may.1

-- ---- whole journals

-- the schedule kills 1, and it is killed

abbrev to_kill : Job
to_kill = pair (pos 0) (1 ∷ [])

has_killed : HasKilledAll to_kill (kill 1 ∷ [])
has_killed = refl

has_not_killed : HasKilledAll to_kill [] → ⊥
has_not_killed all = apart is_nil [] (1 ∷ []) refl refl (sym all)
  where
    is_nil : List ℕ → Bool
    is_nil [] = true
    is_nil (p ∷ more) = false

-- two ranks that have nothing to do

abbrev journal : List Item
journal =
    join 0 1 slot.Start
    ∷ join 1 1 slot.Start
    ∷ repaired 1 1 2 full two
    ∷ repaired 0 1 2 full two
    ∷ init 1 role.Initial 1 1
    ∷ init 0 role.Initial 0 0
    ∷ join 0 2 slot.Final
    ∷ join 1 2 slot.Final
    ∷ ended 1
    ∷ ended 0
    ∷ []

present_is : (q : ℕ) → is_present (ledger_of alone_pair journal) 1 q ≡ true → nat_lt q 2 ≡ true
present_is q e = below (has_place two q) (nat_lt q 2) _ (λ place. seated_in_two (λ n. nat_lt n 2 ≡ true) refl refl q place) e
  where
    below : (place few other : Bool) → (place ≡ true → few ≡ true) → (place || (few && other)) ≡ true → few ≡ true
    below true few other seated e = seated refl
    below false true other seated e = refl
    below false false other seated e = absurd (not_both (sym e))

is_legal : IsLegalWhole alone_pair journal
is_legal = (((omega arith, (refl, refl)), ((omega arith, (refl, refl)), ((omega arith, record { waits = refl; one = begins; sized = (refl, refl); current = refl }), ((omega arith, record { waits = refl; one = refl; sized = (refl, refl); current = refl }), ((omega arith, record { opened = refl; named = refl; seated = refl; sized = (refl, refl); current = refl }), ((omega arith, record { opened = refl; named = refl; seated = refl; sized = (refl, refl); current = refl }), ((omega arith, (refl, refl)), ((omega arith, (refl, refl)), ((omega arith, may_end _ refl refl (λ q e. e) present_is refl), ((omega arith, may_end _ refl refl (λ q e. e) present_is refl), tt)))))))))), refl)
