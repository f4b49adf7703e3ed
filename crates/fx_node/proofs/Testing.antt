-- What is tested of a node: its role behind a repair, whether all came to the end, and whether a spare may help.
use Rattle.std.proofs.Common.{◌≡◌, ℕ, ◌+◌, ◌<◌, ◌≤◌, zero, suc, Bool, true, false, ◌==◌, List, [], ◌∷◌, length, drop, get_or, slice_index_or, Option, Some, None, refl, sym, ap, subst, ◌∙◌, add-one, drop-cons}
use Rattle.std.specs.Prelude.{if◌then◌else◌, is_some, option_map, slice_get}
use Rattle.std.specs.List.{list_all, list_any}
use Rattle.std.proofs.Math.ListN.{drop_of_length-le}
use Rattle.std.proofs.lemmas.Bool.{ne_eqb, or_left, or_right}
use Rattle.fx_ballot.specs.Names.{has, seat_of}
use Rattle.fx_ballot.proofs.Names.{has_seat}
use Rattle.fx_base.specs.declared.names.Place.{Place}
use Rattle.fx_base.specs.declared.names.Proc.{Proc}
use Rattle.fx_base.specs.declared.names.Role.TheVariants as role
use Rattle.fx_comm.specs.Seats.{Seat, AllBelow32, has_place, place_in}
use Rattle.fx_comm.proofs.Places.{has_place_in}
use Rattle.fx_comm.proofs.Steps.{seats_at}
use Rattle.fx_link.specs.declared.slot.Slot.{Slot}
use Rattle.fx_link.specs.declared.slot.Slot.TheVariants as slot
use Rattle.fx_machine.specs.Ballots.{role_behind, all_final, is_final}
use Rattle.fx_machine.specs.Nodes.{Node, members, procs_of}
use Rattle.fx_machine.specs.Reading.{has_left, next_ballot, vote_of}
use Rattle.fx_machine.specs.Steps.{may_help_out}

-- ---- the role behind a repair

same_some : (place : Option Place) → is_some (option_map (λ (p : Place). p.0) place) ≡ is_some place
same_some None = refl
same_some (Some p) = refl

pub role_of_place : (n : Node) (comm : List Seat) (me epoch : ℕ) (place : Option Place) (b : Bool) → n.epoch ≡ epoch → n.comm ≡ comm → n.me ≡ me → (epoch ≡ 0 → ⊥)
    → option_map (λ (p : Place). p.0) place ≡ place_in comm me → is_some place ≡ b → (if b then role.Survivor else role.Recovered) ≡ role_behind n
role_of_place n comm me epoch place b is_epoch is_comm is_me later at is =
    let first : (n.epoch == 0) ≡ false = ne_eqb n.epoch 0 (λ e. later (sym is_epoch ∙ e)) in
    let there : has_place n.comm n.me ≡ b = rw (is_comm, is_me) (has_place_in comm me ∙ ap is_some (sym at) ∙ same_some place ∙ is) in
    rw (first, there) refl

-- ---- all came to the end

pub one_passes : {X : Type 0} (test : X → Bool) (x : X) (xs : List X) (all : Bool) → test x ≡ true → list_all test (x ∷ xs) ≡ all → list_all test xs ≡ all
one_passes test x xs all is so = rw is at so

pub one_fails : {X : Type 0} (test : X → Bool) (x : X) (xs : List X) (all : Bool) → test x ≡ false → list_all test (x ∷ xs) ≡ all → false ≡ all
one_fails test x xs all is so = rw is at so

pub one_isnt : {X : Type 0} (test : X → Bool) (x : X) (xs : List X) (any : Bool) → test x ≡ false → list_any test (x ∷ xs) ≡ any → list_any test xs ≡ any
one_isnt test x xs any is so = rw is at so

pub one_is : {X : Type 0} (test : X → Bool) (x : X) (xs : List X) (any : Bool) → test x ≡ true → list_any test (x ∷ xs) ≡ any → true ≡ any
one_is test x xs any is so = rw is at so

-- whether the slot of a process of the communicator is `final`
abbrev pub ended_at : List ℕ → List Slot → ℕ → Bool
ended_at present slots q = is_final (get_or slots (seat_of present q) slot.Lost)

-- a loop over the seats: all of those that are left came to the end, exactly where all did
abbrev pub AllEnd : List ℕ → List Slot → List Seat → ℕ → Type 0
AllEnd present slots seats k = list_all (ended_at present slots) (procs_of (drop k seats)) ≡ list_all (ended_at present slots) (procs_of seats)

pub no_slot : (slots : List Slot) (k j : ℕ) → None ≡ slice_get slots k → k ≡ j → false ≡ is_final (get_or slots j slot.Lost)
no_slot slots k j none same = subst (λ i. false ≡ is_final (get_or slots i slot.Lost)) same (past slots k none)
  where
    past : (slots : List Slot) (k : ℕ) → None ≡ slice_get slots k → false ≡ is_final (get_or slots k slot.Lost)
    past [] k none = refl
    past (x ∷ xs) zero none = absurd cc
    past (x ∷ xs) (suc k) none = past xs k none

pub ended_on : (present : List ℕ) (slots : List Slot) (seats : List Seat) (k : ℕ) (d : Seat) → k < length seats → ended_at present slots (slice_index_or seats k d).1.0 ≡ true
    → AllEnd present slots seats k → AllEnd present slots seats (k + 1)
ended_on present slots seats k d within is so =
    let x : Seat = slice_index_or seats k d in
    one_passes (ended_at present slots) x.1.0 (procs_of (drop (k + 1) seats)) _ is (rw (seats_at seats k d within) at so)

pub not_all_end : (present : List ℕ) (slots : List Slot) (seats : List Seat) (k : ℕ) (d : Seat) → k < length seats → ended_at present slots (slice_index_or seats k d).1.0 ≡ false
    → AllEnd present slots seats k → false ≡ list_all (ended_at present slots) (procs_of seats)
not_all_end present slots seats k d within is so =
    let x : Seat = slice_index_or seats k d in
    one_fails (ended_at present slots) x.1.0 (procs_of (drop (k + 1) seats)) _ is (rw (seats_at seats k d within) at so)

pub all_end : (present : List ℕ) (slots : List Slot) (seats : List Seat) (k : ℕ) → length seats ≤ k → AllEnd present slots seats k → true ≡ list_all (ended_at present slots) (procs_of seats)
all_end present slots seats k past so = rw (drop_of_length-le seats past) at so

pub same_end : (n : Node) (present : List ℕ) (comm : List Seat) (slots : List Slot) (b : Bool) → n.present ≡ present → n.comm ≡ comm → b ≡ list_all (ended_at present slots) (procs_of comm) → b ≡ all_final n slots
same_end n present comm slots b is_present is_comm e = rw (is_present, is_comm) e

-- ---- whether a spare may help

members_at : (qs : List ℕ) (k d : ℕ) → k < length qs → drop k qs ≡ slice_index_or qs k d ∷ drop (k + 1) qs
members_at qs k d within = rw add-one (drop-cons qs k d within)

-- a loop over the members: of those that are left one has left, exactly where one has
abbrev pub AnyLeft : Node → List ℕ → ℕ → Type 0
AnyLeft n qs k = list_any (has_left n) (drop k qs) ≡ list_any (has_left n) qs

left_at : (n : Node) (qs : List ℕ) (k : ℕ) (b : Bool) → n.present ≡ qs → k < length qs → is_some (vote_of (next_ballot n) n (slice_index_or qs k 0)) ≡ b → has_left n (slice_index_or qs k 0) ≡ b
left_at n qs k b is within voted =
    let there : has n.present (slice_index_or qs k 0) ≡ true = rw is (has_seat qs k within) in
    rw there voted

pub left_on : (n : Node) (qs : List ℕ) (k : ℕ) → n.present ≡ qs → k < length qs → is_some (vote_of (next_ballot n) n (slice_index_or qs k 0)) ≡ false → AnyLeft n qs k → AnyLeft n qs (k + 1)
left_on n qs k is within voted so =
    one_isnt (has_left n) (slice_index_or qs k 0) (drop (k + 1) qs) _ (left_at n qs k false is within voted) (rw (members_at qs k 0 within) at so)

pub one_left : (n : Node) (qs : List ℕ) (k : ℕ) → n.present ≡ qs → k < length qs → is_some (vote_of (next_ballot n) n (slice_index_or qs k 0)) ≡ true → AnyLeft n qs k → true ≡ may_help_out n
one_left n qs k is within voted so =
    let any : true ≡ list_any (has_left n) qs = one_is (has_left n) (slice_index_or qs k 0) (drop (k + 1) qs) _ (left_at n qs k true is within voted) (rw (members_at qs k 0 within) at so) in
    let here : list_any (has_left n) n.present ≡ true = ap (list_any (has_left n)) is ∙ sym any in
    sym (or_left _ (list_any n.lost (members n)) here)

-- a loop over the places: of those that are left one is lost, exactly where one is
abbrev pub AnyLost : (ℕ → Bool) → List Seat → ℕ → Type 0
AnyLost lost seats k = list_any lost (procs_of (drop k seats)) ≡ list_any lost (procs_of seats)

seat_from : (seats : List Seat) (k : ℕ) (p : Proc) → option_map (λ (s : Seat). s.1) (slice_get seats k) ≡ Some p → (x : Seat) × (x.1 ≡ p) × (drop k seats ≡ x ∷ drop (suc k) seats)
seat_from [] k p e = absurd cc
seat_from (s ∷ seats) zero p e = (s, let same : Some s.1 ≡ Some p = e in cc, refl)
seat_from (s ∷ seats) (suc k) p e = seat_from seats k p e

pub seat_there : (seats : List Seat) (k : ℕ) (p : Proc) → option_map (λ (s : Seat). s.1) (slice_get seats k) ≡ Some p → (x : Seat) × (x.1 ≡ p) × (drop k seats ≡ x ∷ drop (k + 1) seats)
seat_there seats k p e = let x = seat_from seats k p e in (x.0, x.1, rw add-one x.2)

pub below_32 : (seats : List Seat) (k : ℕ) (p : Proc) → AllBelow32 seats → option_map (λ (s : Seat). s.1) (slice_get seats k) ≡ Some p → p.0 < 32
below_32 [] k p below e = absurd cc
below_32 (s ∷ seats) zero p below e = let same : s.1 ≡ p = (let some : Some s.1 ≡ Some p = e in cc) in subst (λ (q : Proc). q.0 < 32) same below.1
below_32 (s ∷ seats) (suc k) p below e = below_32 seats k p below.2 e

pub lost_on : (lost : ℕ → Bool) (seats : List Seat) (k : ℕ) (p : Proc) → option_map (λ (s : Seat). s.1) (slice_get seats k) ≡ Some p → lost p.0 ≡ false → AnyLost lost seats k → AnyLost lost seats (k + 1)
lost_on lost seats k p at is so =
    let x = seat_there seats k p at in
    one_isnt lost x.0.1.0 (procs_of (drop (k + 1) seats)) _ (ap (λ (q : Proc). lost q.0) x.1 ∙ is) (rw x.2 at so)

pub one_lost : (n : Node) (comm : List Seat) (k : ℕ) (p : Proc) → n.comm ≡ comm → option_map (λ (s : Seat). s.1) (slice_get comm k) ≡ Some p → n.lost p.0 ≡ true → AnyLost n.lost comm k → true ≡ may_help_out n
one_lost n comm k p is at told so =
    let x = seat_there comm k p at in
    let any : true ≡ list_any n.lost (procs_of comm) = one_is n.lost x.0.1.0 (procs_of (drop (k + 1) comm)) _ (ap (λ (q : Proc). n.lost q.0) x.1 ∙ told) (rw x.2 at so) in
    let here : list_any n.lost (members n) ≡ true = ap (λ (l : List Seat). list_any n.lost (procs_of l)) is ∙ sym any in
    sym (or_right (list_any (has_left n) n.present) _ here)

-- none has left, and none is lost
pub none_helps : (n : Node) (qs : List ℕ) (comm : List Seat) (i k : ℕ) → n.present ≡ qs → n.comm ≡ comm → length qs ≤ i → length comm ≤ k → AnyLeft n qs i → AnyLost n.lost comm k → false ≡ may_help_out n
none_helps n qs comm i k is_present is_comm past last any lost =
    let none : false ≡ list_any (has_left n) qs = rw (drop_of_length-le qs past) at any in
    let all : false ≡ list_any n.lost (procs_of comm) = rw (drop_of_length-le comm last) at lost in
    let here : list_any (has_left n) n.present ≡ false = ap (list_any (has_left n)) is_present ∙ sym none in
    let there : list_any n.lost (members n) ≡ false = ap (λ (l : List Seat). list_any n.lost (procs_of l)) is_comm ∙ sym all in
    rw (here, there) refl
