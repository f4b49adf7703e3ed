-- Places, and who keeps one in a repair.
use Rattle.std.proofs.Common.{◌≡◌, ℕ, ◌+◌, ◌==◌, suc, Bool, true, false, cond, ◌||◌, List, [], ◌∷◌, ◌++◌, Option, Some, arith, refl, sym, ◌∙◌, ap}
use Rattle.std.specs.Prelude.{if◌then◌else◌}
use Rattle.std.specs.Option.{option_map}
use Rattle.fx_base.specs.declared.names.Ident.{Ident}
use Rattle.fx_ballot.specs.Names.{seat_of}
use Rattle.fx_comm.specs.Seats.{Seat, has_place, place_in, spares_of, refilled, spares_left, filled, repaired}
use Rattle.fx_machine.specs.Nodes.{procs_of}
use Rattle.fx_losses.proofs.Tests.{or_left, or_right}
use Rattle.fx_calm.proofs.Lists.{equal}

plus_one : (k : ℕ) → k + 1 ≡ suc k
plus_one k = omega arith

-- the place of a process that has one is its seat among the processes
pub place_is : (seats : List Seat) (p : ℕ) → has_place seats p ≡ true → place_in seats p ≡ Some (seat_of (procs_of seats) p)
place_is [] p e = absurd (let bad : false ≡ true = e in cc)
place_is (s ∷ seats) p e = of (place_is seats p) (s.1.0 == p) e
  where
    of : (has_place seats p ≡ true → place_in seats p ≡ Some (seat_of (procs_of seats) p)) → (b : Bool) → (b || has_place seats p) ≡ true → cond b (Some 0) (option_map (λ place. place + 1) (place_in seats p)) ≡ Some (if b then 0 else suc (seat_of (procs_of seats) p))
    of later true h = refl
    of later false h = ap (λ (o : Option ℕ). option_map (λ place. place + 1) o) (later h) ∙ ap (λ (k : ℕ). Some k) (plus_one (seat_of (procs_of seats) p))

later_place : (ident : Ident) (spares : List ℕ) (seats : List Seat) (p : ℕ) → has_place seats p ≡ true → has_place (refilled ident spares ++ seats) p ≡ true
later_place ident [] seats p e = e
later_place ident (x ∷ xs) seats p e = or_right (x == p) (has_place seats p) e

filled_keeps : (present : ℕ → Bool) (p : ℕ) → present p ≡ true → (seats : List Seat) (spares : List ℕ) → has_place seats p ≡ true → has_place (filled present seats spares) p ≡ true
filled_keeps present p there [] spares e = absurd (let bad : false ≡ true = e in cc)
filled_keeps present p there (s ∷ seats) spares e = of (λ l h. filled_keeps present p there seats l h) (s.1.0 == p) refl (present s.1.0) refl e
  where
    of : ((l : List ℕ) → has_place seats p ≡ true → has_place (filled present seats l) p ≡ true) → (b : Bool) → (s.1.0 == p) ≡ b → (c : Bool) → present s.1.0 ≡ c → (b || has_place seats p) ≡ true
        → has_place (cond c (s ∷ filled present seats spares) (refilled s.0 spares ++ filled present seats (spares_left spares))) p ≡ true
    of later true same true here h = or_left (s.1.0 == p) (has_place (filled present seats spares) p) same
    of later true same false here h = absurd (let bad : true ≡ false = sym there ∙ ap present (sym (equal s.1.0 p same)) ∙ here in cc)
    of later false same true here h = or_right (s.1.0 == p) (has_place (filled present seats spares) p) (later spares h)
    of later false same false here h = later_place s.0 spares (filled present seats (spares_left spares)) p (later (spares_left spares) h)

-- who has a place and is present keeps it
pub keeps_place : (present : ℕ → Bool) (old : List Seat) (p : ℕ) → present p ≡ true → has_place old p ≡ true → has_place (repaired old present) p ≡ true
keeps_place present old p there e = filled_keeps present p there old (spares_of old present) e
