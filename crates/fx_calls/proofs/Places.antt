-- Places of communicators, and what is sent to them.
use Rattle.std.proofs.Common.{◌≡◌, ℕ, ◌+◌, ◌<◌, ◌==◌, zero, suc, Bool, true, false, ◌||◌, List, [], ◌∷◌, map, length, Option, Some, arith, refl, ap, sym, subst, ◌∙◌}
use Rattle.std.specs.Prelude.{if◌then◌else◌}
use Rattle.std.specs.List.{flat_map, enumerate_from}
use Rattle.std.proofs.lemmas.Bool.Decides.{nat_tests}
use Rattle.std.proofs.lemmas.Bool.{ne_eqb}
use Rattle.fx_ballot.specs.Names.{seat_of, has, Distinct}
use Rattle.fx_comm.specs.Seats.{Seat, seats_from, has_place, NoTwoPlaces}
use Rattle.fx_comm.proofs.Repairs.{repaired_apart}
use Rattle.fx_link.specs.declared.slot.Slot.{Slot}
use Rattle.fx_machine.specs.Nodes.{Node, procs_of, members, to_places}
use Rattle.fx_machine.specs.Setup.{Setup}
use Rattle.fx_machine.specs.Texts.{Text}
use Rattle.fx_machine.specs.Ballots.{voters}
use Rattle.fx_machine.specs.Reading.{is_join}
use Rattle.fx_fleet.specs.World.{sent_to}
use Rattle.fx_calm.proofs.Lists.{Each, each_append, chosen, equal}
use Rattle.fx_losses.specs.Eras.{Era, first_era, era}
use Rattle.fx_losses.proofs.Eras.{born}
use Rattle.fx_losses.proofs.Moves.{some_era}

-- ---- nobody has two places

no_earlier : (proc next n : ℕ) → proc < next → has_place (seats_from next n) proc ≡ false
unfolding seats_from
no_earlier proc next zero less = refl
no_earlier proc next (suc n) less = rw (ne_eqb next proc (λ same. omega arith)) (no_earlier proc (next + 1) n (omega arith))

apart_from : (next n : ℕ) → NoTwoPlaces (seats_from next n)
unfolding seats_from
apart_from next zero = tt
apart_from next (suc n) = (no_earlier next (next + 1) n (omega arith), apart_from (next + 1) n)

pub era_apart : (s : Setup) (fate : ℕ → Option (List Slot)) (d : ℕ) (x : Era) → era (first_era s) fate d ≡ Some x → NoTwoPlaces x.comm
era_apart s fate zero x e = subst (λ (y : Era). NoTwoPlaces y.comm) (some_era (first_era s) x e) (apart_from 0 s.ranks)
era_apart s fate (suc d) x e =
    let n = born d (era (first_era s) fate d) (fate d) x e in
    subst (λ (y : Era). NoTwoPlaces y.comm) n.next (repaired_apart (has (voters (is_join (suc d)) n.before.who n.slots)) n.before.comm (era_apart s fate d n.before n.at))

pub has_seat : (seats : List Seat) (q : ℕ) → has (procs_of seats) q ≡ has_place seats q
has_seat [] q = refl
has_seat (s ∷ seats) q = ap (λ (b : Bool). (s.1.0 == q) || b) (has_seat seats q)

pub procs_distinct : (seats : List Seat) → NoTwoPlaces seats → Distinct (procs_of seats)
procs_distinct [] apart = tt
procs_distinct (s ∷ seats) apart = (has_seat seats s.1.0 ∙ apart.0, procs_distinct seats apart.1)

-- the number of processes is that of places
pub same_length : (seats : List Seat) → length (procs_of seats) ≡ length seats
same_length [] = refl
same_length (s ∷ seats) = ap suc (same_length seats)

-- ---- what is sent to places

-- each index is the seat of its process
pub record IsSeat (who : List ℕ) (first : ℕ) (place : ℕ × ℕ) : Type 0 where
  pub at : place.0 ≡ first + seat_of who place.1
  pub member : has who place.1 ≡ true

later_seat : (q : ℕ) (qs : List ℕ) (first : ℕ) (place : ℕ × ℕ) → has qs q ≡ false → IsSeat qs (first + 1) place → IsSeat (q ∷ qs) first place
later_seat q qs first place apart is = of (q == place.1) refl
  where
    of : (b : Bool) → (q == place.1) ≡ b → IsSeat (q ∷ qs) first place
    of true same = absurd (let bad : false ≡ true = sym apart ∙ ap (has qs) (equal q place.1 same) ∙ is.member in cc)
    of false far = record {
      at = let at = is.at in let one : (if q == place.1 then 0 else suc (seat_of qs place.1)) ≡ suc (seat_of qs place.1) = ap (λ (b : Bool). if b then 0 else suc (seat_of qs place.1)) far in omega (arith, at, one);
      member = ap (λ (b : Bool). b || has qs place.1) far ∙ is.member;
    }

first_seat : (q : ℕ) (qs : List ℕ) (first : ℕ) → IsSeat (q ∷ qs) first (first, q)
first_seat q qs first = record {
  at = let one : (if q == q then 0 else suc (seat_of qs q)) ≡ 0 = ap (λ (b : Bool). if b then 0 else suc (seat_of qs q)) (itself q) in omega (arith, one);
  member = ap (λ (b : Bool). b || has qs q) (itself q);
}
  where
    itself : (q : ℕ) → (q == q) ≡ true
    itself q = grind (arith, nat_tests)

each_later : (q : ℕ) (qs : List ℕ) (first : ℕ) (places : List (ℕ × ℕ)) → has qs q ≡ false → Each (IsSeat qs (first + 1)) places → Each (IsSeat (q ∷ qs) first) places
each_later q qs first [] apart all = tt
each_later q qs first (p ∷ places) apart all = (later_seat q qs first p apart all.0, each_later q qs first places apart all.1)

seats_from_first : (qs : List ℕ) (first : ℕ) → Distinct qs → Each (IsSeat qs first) (enumerate_from first qs)
seats_from_first [] first apart = tt
seats_from_first (q ∷ qs) first apart = (first_seat q qs first, each_later q qs first (enumerate_from (first + 1) qs) apart.0 (seats_from_first qs (first + 1) apart.1))

-- what is sent to one process, of texts that are each true for whom they are sent to
pub sent_true : (Is : ℕ → Text → Type 0) (b : ℕ) (xs : List (ℕ × Text)) → Each (λ (x : ℕ × Text). Is x.0 x.1) xs → Each (Is b) (sent_to b xs)
sent_true Is b [] all = tt
sent_true Is b (x ∷ xs) all =
    chosen (Each (Is b)) (x.0 == b) (x.1 ∷ sent_to b xs) (sent_to b xs)
    (λ e. (subst (λ (o : ℕ). Is o x.1) (equal x.0 b e) all.0, sent_true Is b xs all.1)) (λ e. sent_true Is b xs all.1)

each_to : (Is : ℕ → Text → Type 0) (q : ℕ) (ts : List Text) → Each (Is q) ts → Each (λ (x : ℕ × Text). Is x.0 x.1) (map (λ t. (q, t)) ts)
each_to Is q [] all = tt
each_to Is q (t ∷ ts) all = (all.0, each_to Is q ts all.1)

-- what is meant for each place is true for its process
pub places_true : (Is : ℕ → Text → Type 0) (n : Node) (meant : ℕ → List Text) → Distinct (members n) → ((q : ℕ) → has (members n) q ≡ true → Each (Is q) (meant (seat_of (members n) q)))
    → Each (λ (x : ℕ × Text). Is x.0 x.1) (to_places n meant)
places_true Is n meant apart all = of (enumerate_from 0 (members n)) (seats_from_first (members n) 0 apart)
  where
    either : (b : Bool) (place : ℕ × ℕ) → IsSeat (members n) 0 place → Each (λ (x : ℕ × Text). Is x.0 x.1) (if b then [] else map (λ t. (place.1, t)) (meant place.0))
    either true place is = tt
    either false place is = each_to Is place.1 (meant place.0) (subst (λ (x : ℕ). Each (Is place.1) (meant x)) (let at = is.at in omega (arith, at)) (all place.1 is.member))

    of : (places : List (ℕ × ℕ)) → Each (IsSeat (members n) 0) places
        → Each (λ (x : ℕ × Text). Is x.0 x.1) (flat_map (λ (place : ℕ × ℕ). if place.1 == n.me then [] else map (λ t. (place.1, t)) (meant place.0)) places)
    of [] is = tt
    of (p ∷ places) is = each_append (λ (x : ℕ × Text). Is x.0 x.1) (if p.1 == n.me then [] else map (λ t. (p.1, t)) (meant p.0)) (flat_map (λ (place : ℕ × ℕ). if place.1 == n.me then [] else map (λ t. (place.1, t)) (meant place.0)) places) (either (p.1 == n.me) p is.0) (of places is.1)
