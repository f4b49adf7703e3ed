-- Rows of one loss: rank 0 of two is killed, rank 1 has come to the end of its body, and the spare joins too.
use Rattle.std.proofs.Common.{◌≡◌, ◌<◌, ℕ, zero, suc, Bool, true, false, List, [], ◌∷◌, ◌++◌, Some, None, is_some, refl, sym, arith}
use Rattle.std.specs.Prelude.{pos, codes, is_none, nat_lt, if◌then◌else◌}
use Rattle.fx_base.specs.Sets.{those_below}
use Rattle.fx_base.specs.declared.names.Role.{Role}
use Rattle.fx_base.specs.declared.names.Role.TheVariants as role
use Rattle.fx_comm.specs.Seats.{Seat, seat, has_place}
use Rattle.fx_item.specs.declared.item.Item.{Item}
use Rattle.fx_item.specs.declared.item.Item.TheVariants as item
use Rattle.fx_link.specs.declared.slot.Slot.TheVariants as slot
use Rattle.fx_script.specs.declared.job.Job.{Job}
use Rattle.fx_walk.specs.State.{State}
use Rattle.fx_walk.specs.Walk.{Ends}
use Rattle.fx_legal.specs.Ledger.{Ledger, is_present}
use Rattle.fx_legal.specs.Legal.{written_all}
use Rattle.fx_legal.specs.Rules.{Begins}
use Rattle.fx_legal.specs.Stands.{Stand, Callback, Joined, Spare, Opening, Walking, Ended, is_killed}
use Rattle.fx_legal.proofs.Words.{Accepts, Refuses, not_both, apart, pair, nothing, proc, epoch, full, stay_of, standing, kill, join, repaired, ended}

abbrev job : Job
job = pair (pos 1) (0 ∷ 2 ∷ [])

-- what rank 1 has at the end of its body: an element, and a callback
abbrev kept : State
kept = record { counters = []; arrays = (pos 7 ∷ []) ∷ []; callbacks = codes "n" ∷ [] }

abbrev stands : ℕ → Stand
stands p = if nat_lt p 2 then Walking (stay_of p) (Ends kept) else Spare 1

abbrev at_end : Ledger
at_end = standing job stands

abbrev joins : List Item
joins = kill 0 ∷ join 1 2 slot.Final ∷ join 2 2 slot.Spare ∷ []

abbrev mended : List Seat
mended = seat 0 2 ∷ seat 1 1 ∷ []

-- ---- the begin of the next epoch

below_three : (P : ℕ → Type 0) → P 0 → P 1 → P 2 → (q : ℕ) → nat_lt q 3 ≡ true → P q
below_three P first second third zero e = first
below_three P first second third (suc zero) e = second
below_three P first second third (suc (suc zero)) e = third
below_three P first second third (suc (suc (suc q))) e = absurd (grind (arith, e))

lt_of : (q n : ℕ) → q < n → nat_lt q n ≡ true
lt_of q n few = grind (arith, few)

seated_in_mended : (P : ℕ → Type 0) → P 1 → P 2 → (q : ℕ) → has_place mended q ≡ true → P q
seated_in_mended P second third zero e = absurd (not_both (sym e))
seated_in_mended P second third (suc zero) e = second
seated_in_mended P second third (suc (suc zero)) e = third
seated_in_mended P second third (suc (suc (suc q))) e = absurd (grind (arith, e))

-- the spare has the lost identity
begins : Begins job (written_all job at_end joins) 2 mended
unfolding those_below
begins = record {
  none_ended = λ q few. below_three (λ n. (written_all job at_end joins).stands n ≡ Ended → ⊥) (λ e. absurd cc) (λ e. absurd cc) (λ e. absurd cc) q (lt_of q 3 few);
  all_joined = λ q there. below_three (λ n. is_killed ((written_all job at_end joins).stands n) ≡ false → is_some ((written_all job at_end joins).joined 2 n) ≡ true) (λ e. absurd (not_both e)) (λ e. refl) (λ e. refl) q there;
  seated = λ q place. seated_in_mended (λ n. (is_present (written_all job at_end joins) 1 n ≡ true) × (is_some ((written_all job at_end joins).joined 2 n) ≡ true)) (refl, refl) (refl, refl) q place;
  mended = refl;
}

is_mended : Accepts job at_end joins (repaired 1 2 2 full mended)
is_mended = (omega arith, record { waits = refl; one = begins; sized = (refl, refl); current = refl })

-- and has it as well where it is killed behind its join: what was decided counts, and not who lives now

abbrev joins_and_dies : List Item
joins_and_dies = joins ++ kill 2 ∷ []

begins_all_the_same : Begins job (written_all job at_end joins_and_dies) 2 mended
unfolding those_below
begins_all_the_same = record {
  none_ended = λ q few. below_three (λ n. (written_all job at_end joins_and_dies).stands n ≡ Ended → ⊥) (λ e. absurd cc) (λ e. absurd cc) (λ e. absurd cc) q (lt_of q 3 few);
  all_joined = λ q there. below_three (λ n. is_killed ((written_all job at_end joins_and_dies).stands n) ≡ false → is_some ((written_all job at_end joins_and_dies).joined 2 n) ≡ true) (λ e. absurd (not_both e)) (λ e. refl) (λ e. absurd (not_both e)) q there;
  seated = λ q place. seated_in_mended (λ n. (is_present (written_all job at_end joins_and_dies) 1 n ≡ true) × (is_some ((written_all job at_end joins_and_dies).joined 2 n) ≡ true)) (refl, refl) (refl, refl) q place;
  mended = refl;
}

is_mended_all_the_same : Accepts job at_end joins_and_dies (repaired 1 2 2 full mended)
is_mended_all_the_same = (omega arith, record { waits = refl; one = begins_all_the_same; sized = (refl, refl); current = refl })

abbrev is_one : List Seat → Bool
is_one (s ∷ []) = true
is_one other = false

-- the identity isn't given up while the spare lives
not_given_up : Refuses job at_end joins (repaired 1 2 1 true (seat 1 1 ∷ []))
unfolding those_below
not_given_up may = apart is_one (seat 1 1 ∷ []) mended refl refl may.1.one.mended

-- nor does the epoch begin while the spare lives and hasn't joined
not_without_the_spare : Refuses job at_end (kill 0 ∷ join 1 2 slot.Final ∷ []) (repaired 1 2 1 true (seat 1 1 ∷ []))
not_without_the_spare may = not_both (sym (may.1.one.all_joined 2 refl refl))

-- ---- who begins how

abbrev begun : List Item
begun = joins ++ repaired 1 2 2 full mended ∷ repaired 2 2 2 full mended ∷ []

-- the survivor has its array, and is still to write its callback; the spare has neither
survivor_goes_on : (written_all job at_end begun).stands 1 ≡ Opening 2 (Callback (codes "n") ∷ []) kept
survivor_goes_on = refl

recovered_begins : (written_all job at_end begun).stands 2 ≡ Opening 2 [] nothing
recovered_begins = refl

-- whatever it waited with
abbrev waits_with_it : Ledger
waits_with_it = standing job (λ p. Joined 2 kept)

recovered_keeps_nothing : (written_all job waits_with_it (repaired 2 2 2 full mended ∷ [])).stands 2 ≡ Opening 2 [] nothing
recovered_keeps_nothing = refl

abbrev init : (p : ℕ) → Role → (ident rank : ℕ) → Item
init p kind ident rank = item.Init (proc p) (epoch 2) kind (record { 0 = ident }) rank 2 full

abbrev is_survivor : Role → Bool
is_survivor role.Survivor = true
is_survivor other = false

returns_to_the_survivor : Accepts job at_end (begun ++ item.Callback (proc 1) (epoch 2) (codes "n") ∷ []) (init 1 role.Survivor 1 1)
returns_to_the_survivor = (omega arith, record { opened = refl; named = refl; seated = refl; sized = (refl, refl); current = refl })

not_as_recovered : Refuses job at_end (begun ++ item.Callback (proc 1) (epoch 2) (codes "n") ∷ []) (init 1 role.Recovered 1 1)
not_as_recovered may = apart is_survivor role.Survivor role.Recovered refl refl (sym may.1.named)

returns_to_the_spare : Accepts job at_end begun (init 2 role.Recovered 0 0)
returns_to_the_spare = (omega arith, record { opened = refl; named = refl; seated = refl; sized = (refl, refl); current = refl })

not_as_survivor : Refuses job at_end begun (init 2 role.Survivor 0 0)
not_as_survivor may = apart is_survivor role.Survivor role.Recovered refl refl may.1.named

-- ---- ends

-- a lost rank that hadn't joined doesn't count as final
not_final_of_a_lost_one : Refuses job at_end joins (ended 1)
not_final_of_a_lost_one may = apart is_none None (Some slot.Final) refl refl (may.1.final 0 refl)
