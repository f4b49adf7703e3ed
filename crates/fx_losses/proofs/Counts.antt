-- How many epochs there are: each from 1 on has fewer members than the one before, where who has a place votes `final`.
use Rattle.std.proofs.Common.{◌≡◌, ℕ, ◌+◌, ◌<◌, ◌≤◌, ◌==◌, zero, suc, Bool, true, false, cond, ◌||◌, ◌&&◌, List, [], ◌∷◌, length, get_or, Option, Some, arith, refl, subst, sym, ◌∙◌, ap}
use Rattle.std.specs.Prelude.{nat_lt}
use Rattle.std.proofs.lemmas.Bool.Decides.{nat_tests}
use Rattle.std.proofs.lemmas.Bool.{cond_both}
use Rattle.fx_ballot.specs.Laws.{held, TrueSlots}
use Rattle.fx_ballot.specs.Names.{seat_at, seat_of, has}
use Rattle.fx_ballot.specs.Turn.{Decided}
use Rattle.fx_ballot.specs.World as ballot
use Rattle.fx_comm.specs.Seats.{has_place}
use Rattle.fx_link.specs.declared.slot.Slot.{Slot}
use Rattle.fx_link.specs.declared.slot.Slot.TheVariants as slot
use Rattle.fx_machine.specs.Ballots.{voters, is_final}
use Rattle.fx_machine.specs.Reading.{is_join}
use Rattle.fx_machine.specs.Setup.{Setup}
use Rattle.fx_fleet.specs.World.{World}
use Rattle.fx_calm.proofs.Seats.{has_all, length_all}
use Rattle.fx_losses.specs.Eras.{Era, first_era, era}
use Rattle.fx_losses.proofs.Closings.{era_places}
use Rattle.fx_losses.proofs.Eras.{Born, born, era_distinct, voters_among}
use Rattle.fx_losses.proofs.Finals.{one_not_final}
use Rattle.fx_losses.proofs.Moves.{some_era}
use Rattle.fx_losses.proofs.Shows.{Shows}
use Rattle.fx_losses.proofs.Tests.{is_less, less_is}
use Rattle.fx_losses.proofs.Voted.{Kinds, got_is}
use Rattle.fx_losses.proofs.Votes.{Slotted, voter_voted}

module _ (is_vote : Slot → Bool) where
  voters_few : (who : List ℕ) (ss : List Slot) → length (voters is_vote who ss) ≤ length who
  voters_few [] ss = omega arith
  voters_few (q ∷ qs) [] = omega arith
  voters_few (q ∷ qs) (s ∷ ss) =
      let few : length (voters is_vote qs ss) ≤ length qs = voters_few qs ss in
      cond_both {A = List ℕ} (is_vote s) (q ∷ voters is_vote qs ss) (voters is_vote qs ss) (λ (l : List ℕ). length l ≤ suc (length qs)) (λ e. omega (arith, few)) (λ e. omega (arith, few))

  -- where a member is no voter
  voters_fewer : (who : List ℕ) (ss : List Slot) (q : ℕ) → has who q ≡ true → has (voters is_vote who ss) q ≡ false → length (voters is_vote who ss) < length who
  voters_fewer [] ss q e none = absurd (let bad : false ≡ true = e in cc)
  voters_fewer (x ∷ xs) [] q e none = omega arith
  voters_fewer (x ∷ xs) (s ∷ ss) q e none = of (voters_fewer xs ss q) (is_vote s) none
    where
      rest : (a b c : Bool) → (a || b) ≡ true → (a || c) ≡ false → (b ≡ true) × (c ≡ false)
      rest true b c i j = absurd (let bad : true ≡ false = j in cc)
      rest false b c i j = (i, j)

      of : (has xs q ≡ true → has (voters is_vote xs ss) q ≡ false → length (voters is_vote xs ss) < length xs) → (b : Bool) → has (cond b (x ∷ voters is_vote xs ss) (voters is_vote xs ss)) q ≡ false
          → length (cond b (x ∷ voters is_vote xs ss) (voters is_vote xs ss)) < suc (length xs)
      of later true i = let r = rest (x == q) (has xs q) (has (voters is_vote xs ss) q) e i in let less = later r.0 r.1 in omega (arith, less)
      of later false i = let few = voters_few xs ss in omega (arith, few)

module _ (s : Setup) (w : World) (z : ℕ → ballot.World) (fate : ℕ → Option (List Slot)) (h : Shows s w z fate) (ks : Kinds s z fate) where
  -- from epoch 1 on a member is lost
  shrinks : (d : ℕ) (x y : Era) → 0 < d → era (first_era s) fate d ≡ Some x → Born d (era (first_era s) fate d) (fate d) y → length y.who < length x.who
  shrinks d x y later at b =
      let same : b.before ≡ x = some_era b.before x (sym b.at ∙ at) in
      subst (λ (o : Era). length o.who < length x.who) b.next (subst (λ (o : Era). length (voters (is_join (suc d)) o.who b.slots) < length x.who) (sym same)
      (voters_fewer (is_join (suc d)) x.who b.slots lost.0 (era_places s fate d x lost.0 later at lost.1) (no_voter (has (voters (is_join (suc d)) x.who b.slots) lost.0) refl)))
    where
      by : (p : ℕ) × (((z d).member p).phase ≡ Decided b.slots)
      by = (h.owes d).by b.slots b.fated

      origin : TrueSlots (length x.who) (seat_at x.who) (z d) b.slots
      origin = ((h.owes d).kept x at).sound.genuine.lists by.0 b.slots (ap held by.1)

      not_all : (a c : Bool) → a ≡ true → (a && c) ≡ false → c ≡ false
      not_all a c i j = grind (arith, nat_tests)

      lost : (q : ℕ) × (has_place x.comm q ≡ true) × (is_final (get_or b.slots (seat_of x.who q) slot.Lost) ≡ false)
      lost = subst (λ (o : Era). (q : ℕ) × (has_place o.comm q ≡ true) × (is_final (get_or b.slots (seat_of o.who q) slot.Lost) ≡ false)) (some_era b.before x (sym b.at ∙ at))
          (one_not_final (λ q. is_final (get_or b.slots (seat_of b.before.who q) slot.Lost)) b.before.comm (not_all (nat_lt 0 d) _ (less_is 0 d later) b.goes))

      no_voter : (c : Bool) → has (voters (is_join (suc d)) x.who b.slots) lost.0 ≡ c → has (voters (is_join (suc d)) x.who b.slots) lost.0 ≡ false
      no_voter false e = e
      no_voter true e =
          let v : Slotted x.who b.slots (z d) lost.0 = voter_voted (suc d) x.who b.slots (z d) lost.0 (era_distinct s fate d x at) origin e in
          let final : v.slot ≡ slot.Final = ks.final d lost.0 v.slot x later at v.vote lost.1 in
          absurd (let bad : true ≡ false = sym (ap is_final (got_is b.slots (seat_of x.who lost.0) v.slot v.at ∙ final)) ∙ lost.2 in cc)

  few_members : (d : ℕ) (x : Era) → era (first_era s) fate (suc d) ≡ Some x → length x.who + suc d ≤ s.procs + 1
  few_members zero x e =
      let b = born 0 (era (first_era s) fate 0) (fate 0) x e in
      let same : b.before ≡ first_era s = some_era b.before (first_era s) (sym b.at) in
      let few : length (voters (is_join 1) b.before.who b.slots) ≤ length b.before.who = voters_few (is_join 1) b.before.who b.slots in
      let all : length b.before.who ≡ s.procs = ap (λ (o : Era). length o.who) same ∙ length_all s.procs in
      subst (λ (o : Era). length o.who + 1 ≤ s.procs + 1) b.next (omega (arith, few, all))
  few_members (suc d) x e =
      let b = born (suc d) (era (first_era s) fate (suc d)) (fate (suc d)) x e in
      let less : length x.who < length b.before.who = shrinks (suc d) b.before x (omega arith) b.at b in
      let rest : length b.before.who + suc d ≤ s.procs + 1 = few_members d b.before b.at in
      omega (arith, less, rest)

  -- no more than all processes are members of an epoch
  pub members_few : (d : ℕ) (x : Era) → era (first_era s) fate d ≡ Some x → length x.who ≤ s.procs
  members_few zero x e = let all : length x.who ≡ s.procs = ap (λ (o : Era). length o.who) (some_era x (first_era s) (sym e)) ∙ length_all s.procs in omega (arith, all)
  members_few (suc d) x e = let few = few_members d x e in omega (arith, few)

  -- there are at most as many epochs as processes, beside the first two
  pub epochs_few : (d : ℕ) (x : Era) → era (first_era s) fate d ≡ Some x → d ≤ s.procs + 1
  epochs_few zero x e = omega arith
  epochs_few (suc d) x e = let few = few_members d x e in omega (arith, few)

-- who is present in an epoch is a process of the job
pub era_below : (s : Setup) (fate : ℕ → Option (List Slot)) (d : ℕ) (x : Era) (q : ℕ) → era (first_era s) fate d ≡ Some x → has x.who q ≡ true → q < s.procs
era_below s fate zero x q e there = is_less q s.procs (sym (has_all s.procs q) ∙ ap (λ (o : Era). has o.who q) (some_era (first_era s) x e) ∙ there)
era_below s fate (suc d) x q e there =
    let b = born d (era (first_era s) fate d) (fate d) x e in
    era_below s fate d b.before q b.at (voters_among (is_join (suc d)) b.before.who b.slots q (ap (λ (o : Era). has o.who q) b.next ∙ there))
