-- How many epochs there are: each from 1 on has fewer members than the second one before it, where each that is repaired has its loss.
use Rattle.std.proofs.Common.{◌≡◌, ℕ, ◌+◌, ◌*◌, ◌<◌, ◌≤◌, ◌==◌, zero, suc, Bool, true, false, cond, ◌||◌, List, [], ◌∷◌, length, Option, Some, None, arith, refl, subst, sym, ◌∙◌, ap}
use Rattle.std.specs.Prelude.{is_some}
use Rattle.std.proofs.lemmas.Bool.{cond_both}
use Rattle.fx_ballot.specs.Laws.{held, TrueSlots}
use Rattle.fx_ballot.specs.Names.{seat_at, has}
use Rattle.fx_ballot.specs.Turn.{Decided}
use Rattle.fx_ballot.specs.World as ballot
use Rattle.fx_comm.specs.Seats.{Seat, has_place}
use Rattle.fx_link.specs.declared.slot.Slot.{Slot}
use Rattle.fx_script.specs.declared.job.Job.{Job}
use Rattle.fx_machine.specs.Ballots.{voters}
use Rattle.fx_machine.specs.Reading.{is_join}
use Rattle.fx_machine.specs.Setup.{Setup}
use Rattle.fx_fleet.specs.Runs.{job_setup}
use Rattle.fx_fleet.specs.World.{World}
use Rattle.fx_calm.proofs.Seats.{length_all}
use Rattle.fx_legal.specs.Ledger.{Ledger, comm_of}
use Rattle.fx_losses.specs.Eras.{Era, first_era, era}
use Rattle.fx_losses.proofs.Closings.{era_places}
use Rattle.fx_losses.proofs.Eras.{Born, born, era_distinct}
use Rattle.fx_losses.proofs.Moves.{some_era}
use Rattle.fx_losses.proofs.Shows.{Shows}
use Rattle.fx_losses.proofs.Standing.{Liked, liked}
use Rattle.fx_losses.proofs.Votes.{Slotted, voter_voted}
use Rattle.fx_calls.proofs.Lapses.{Lapse, HaveLapses}
use Rattle.fx_calls.proofs.Linked.{Linked}

some_members : (who : List ℕ) (q : ℕ) → has who q ≡ true → 1 ≤ length who
some_members [] q e = absurd (let bad : false ≡ true = e in cc)
some_members (x ∷ xs) q e = omega arith

module _ (is_vote : Slot → Bool) where
  voters_few : (who : List ℕ) (ss : List Slot) → length (voters is_vote who ss) ≤ length who
  voters_few [] ss = omega arith
  voters_few (q ∷ qs) [] = omega arith
  voters_few (q ∷ qs) (s ∷ ss) =
      let few : length (voters is_vote qs ss) ≤ length qs = voters_few qs ss in
      cond_both {A = List ℕ} (is_vote s) (q ∷ voters is_vote qs ss) (voters is_vote qs ss) (λ (l : List ℕ). length l ≤ suc (length qs)) (λ e. omega (arith, few)) (λ e. omega (arith, few))

  -- where a member is no voter
  voters_fewer : (who : List ℕ) (ss : List Slot) (q : ℕ) → has who q ≡ true → has (voters is_vote who ss) q ≡ false → length (voters is_vote who ss) < length who
  voters_fewer [] ss q e none = absurd (let bad : false ≡ true = e in cc)
  voters_fewer (x ∷ xs) [] q e none = omega arith
  voters_fewer (x ∷ xs) (s ∷ ss) q e none = of (voters_fewer xs ss q) (is_vote s) none
    where
      rest : (a b c : Bool) → (a || b) ≡ true → (a || c) ≡ false → (b ≡ true) × (c ≡ false)
      rest true b c i j = absurd (let bad : true ≡ false = j in cc)
      rest false b c i j = (i, j)

      of : (has xs q ≡ true → has (voters is_vote xs ss) q ≡ false → length (voters is_vote xs ss) < length xs) → (b : Bool) → has (cond b (x ∷ voters is_vote xs ss) (voters is_vote xs ss)) q ≡ false
          → length (cond b (x ∷ voters is_vote xs ss) (voters is_vote xs ss)) < suc (length xs)
      of later true i = let r = rest (x == q) (has xs q) (has (voters is_vote xs ss) q) e i in let less = later r.0 r.1 in omega (arith, less)
      of later false i = let few = voters_few xs ss in omega (arith, few)

-- ---- members

module _ (s : Setup) (fate : ℕ → Option (List Slot)) where
  fewer_born : (d : ℕ) (y : Era) → (b : Born d (era (first_era s) fate d) (fate d) y) → length y.who ≤ length b.before.who
  fewer_born d y b = subst (λ (o : Era). length o.who ≤ length b.before.who) b.next (voters_few (is_join (suc d)) b.before.who b.slots)

  lost_born : (d q : ℕ) (y : Era) → (b : Born d (era (first_era s) fate d) (fate d) y) → has b.before.who q ≡ true → has y.who q ≡ false → length y.who < length b.before.who
  lost_born d q y b there gone =
      subst (λ (o : Era). length o.who < length b.before.who) b.next
      (voters_fewer (is_join (suc d)) b.before.who b.slots q there (ap (λ (o : Era). has o.who q) b.next ∙ gone))

  -- no more than all processes are members of an epoch
  pub members_few : (d : ℕ) (x : Era) → era (first_era s) fate d ≡ Some x → length x.who ≤ s.procs
  members_few zero x e = let all : length x.who ≡ s.procs = ap (λ (o : Era). length o.who) (some_era x (first_era s) (sym e)) ∙ length_all s.procs in omega (arith, all)
  members_few (suc d) x e =
      let b = born d (era (first_era s) fate d) (fate d) x e in
      let few = fewer_born d x b in
      let all = members_few d b.before b.at in
      omega (arith, few, all)

module _ (job : Job) (w : World) (z : ℕ → ballot.World) (fate : ℕ → Option (List Slot)) (l : Ledger) (h : Shows (job_setup job) w z fate) (t : Linked job w z fate l) (have : HaveLapses l) where
  abbrev s : Setup
  s = job_setup job

  like : (d : ℕ) (x : Era) → era (first_era s) fate d ≡ Some x → Liked l d x (l.chapters d)
  like d x at = liked l d x (era (first_era s) fate d) (l.chapters d) (t.eras d) at

  lapse : (d : ℕ) (y : Era) → 0 < d → era (first_era s) fate (suc d) ≡ Some y → Lapse l d
  lapse d y pos at = have d pos (ap is_some (like (suc d) y at).at)

  -- the one that was lost was a member
  was_member : (d : ℕ) (x : Era) → 0 < d → era (first_era s) fate d ≡ Some x → (k : Lapse l d) → has x.who k.who ≡ true
  was_member d x pos at k =
      era_places s fate d x k.who pos at (ap (λ (c : List Seat). has_place c k.who) ((like d x at).like.comm ∙ sym (ap comm_of (like d x at).at)) ∙ k.place)

  -- and is no member of the second epoch behind it
  no_member : (d : ℕ) (y : Era) → (b : Born (suc d) (era (first_era s) fate (suc d)) (fate (suc d)) y) → (k : Lapse l d) → has y.who k.who ≡ false
  no_member d y b k = ap (λ (o : Era). has o.who k.who) (sym b.next) ∙ of (has (voters (is_join (suc (suc d))) b.before.who b.slots) k.who) refl
    where
      by : (p : ℕ) × (((z (suc d)).member p).phase ≡ Decided b.slots)
      by = (h.owes (suc d)).by b.slots b.fated

      origin : TrueSlots (length b.before.who) (seat_at b.before.who) (z (suc d)) b.slots
      origin = ((h.owes (suc d)).kept b.before b.at).sound.genuine.lists by.0 b.slots (ap held by.1)

      of : (c : Bool) → has (voters (is_join (suc (suc d))) b.before.who b.slots) k.who ≡ c → has (voters (is_join (suc (suc d))) b.before.who b.slots) k.who ≡ false
      of false e = e
      of true e =
          let v : Slotted b.before.who b.slots (z (suc d)) k.who = voter_voted (suc (suc d)) b.before.who b.slots (z (suc d)) k.who (era_distinct s fate (suc d) b.before b.at) origin e in
          absurd (let bad : None ≡ Some v.slot = sym k.never ∙ t.joined (suc d) k.who ∙ v.vote in cc)

  shrinks : (d : ℕ) (y : Era) → 0 < d → era (first_era s) fate (suc (suc d)) ≡ Some y → (x : Era) × (era (first_era s) fate d ≡ Some x) × (length y.who < length x.who)
  shrinks d y pos at = (a.before, a.at, of (has b.before.who k.who) refl)
    where
      b : Born (suc d) (era (first_era s) fate (suc d)) (fate (suc d)) y
      b = born (suc d) (era (first_era s) fate (suc d)) (fate (suc d)) y at

      a : Born d (era (first_era s) fate d) (fate d) b.before
      a = born d (era (first_era s) fate d) (fate d) b.before b.at

      k : Lapse l d
      k = lapse d b.before pos b.at

      of : (c : Bool) → has b.before.who k.who ≡ c → length y.who < length a.before.who
      of true e =
          let less = lost_born s fate (suc d) k.who y b e (no_member d y b k) in
          let few = fewer_born s fate d b.before a in
          omega (arith, less, few)
      of false e =
          let less = lost_born s fate d k.who b.before a (was_member d a.before pos a.at k) e in
          let few = fewer_born s fate (suc d) y b in
          omega (arith, less, few)

  few_members : (d : ℕ) (x : Era) → 0 < d → era (first_era s) fate d ≡ Some x → 2 * length x.who + d ≤ 2 * s.procs + 2
  few_members zero x pos e = absurd (omega (arith, pos))
  few_members (suc zero) x pos e = let all = members_few s fate 1 x e in omega (arith, all)
  few_members (suc (suc zero)) x pos e = let all = members_few s fate 2 x e in omega (arith, all)
  few_members (suc (suc (suc d))) x pos e =
      let r = shrinks (suc d) x (omega arith) e in
      let less : length x.who < length r.0.who = r.2 in
      let rest : 2 * length r.0.who + suc d ≤ 2 * s.procs + 2 = few_members (suc d) r.0 (omega arith) r.1 in
      omega (arith, less, rest)

  -- there are at most twice as many epochs as processes, beside the first two
  pub epochs_few : (d : ℕ) (x : Era) → era (first_era (job_setup job)) fate d ≡ Some x → d ≤ 2 * (job_setup job).procs + 1
  epochs_few zero x e = omega arith
  epochs_few (suc zero) x e = omega arith
  epochs_few (suc (suc d)) x e =
      let b = born (suc d) (era (first_era s) fate (suc d)) (fate (suc d)) x e in
      let few : 2 * length b.before.who + suc d ≤ 2 * s.procs + 2 = few_members (suc d) b.before (omega arith) b.at in
      let k = lapse (suc d) x (omega arith) e in
      let some : 1 ≤ length b.before.who = some_members b.before.who k.who (was_member (suc d) b.before (omega arith) b.at k) in
      omega (arith, few, some)
