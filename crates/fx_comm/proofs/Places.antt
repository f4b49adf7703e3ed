-- Places, and who is at them.
use Rattle.std.proofs.Common.{◌≡◌, ℕ, ◌+◌, ◌<◌, zero, suc, true, false, ◌==◌, inl, inr, List, [], ◌∷◌, length, slice_get, refl, sym, ap, ◌∙◌, arith, add-one, true≢false}
use Rattle.std.specs.Prelude.{is_some}
use Rattle.std.specs.Option.{option_map}
use Rattle.std.specs.declared.option.Option.{Option}
use Rattle.std.specs.declared.option.Option.TheVariants.{None, Some}
use Rattle.std.proofs.lemmas.Bool.{eq-eqb, ne_eqb, eqb-true}
use Rattle.fx_comm.specs.Seats.{Seat, has_place, place_in, NoTwoPlaces, IsSeated}
use Rattle.fx_comm.proofs.Lists.{tells}

-- a place that isn't the first is one above a place among the others
one_further : (found : Option ℕ) (place : ℕ) → option_map (λ k. k + 1) found ≡ Some place → (k : ℕ) × (found ≡ Some k) × (place ≡ suc k)
one_further None place e = absurd (cc)
one_further (Some k) place e = (k, refl, (let same : k + 1 ≡ place = cc in sym same ∙ add-one k))

pub place_below : (seats : List Seat) (proc place : ℕ) → place_in seats proc ≡ Some place → place < length seats
place_below [] proc place e = absurd (cc)
place_below (s ∷ seats) proc place e = elim (tells (s.1.0 == proc)) [
  | inl here ↦ let first : Some 0 ≡ Some place = rw here at e in let same : 0 ≡ place = cc in omega arith
  | inr later ↦
      let w = one_further (place_in seats proc) place (rw later at e) in
      let before : w.0 < length seats = place_below seats proc w.0 w.1 in omega (arith, w.2)
]

pub at_its_place : (seats : List Seat) (proc place : ℕ) → place_in seats proc ≡ Some place → option_map (λ (s : Seat). s.1.0) (slice_get seats place) ≡ Some proc
at_its_place [] proc place e = absurd (cc)
at_its_place (s ∷ seats) proc place e = elim (tells (s.1.0 == proc)) [
  | inl here ↦
      let first : Some 0 ≡ Some place = rw here at e in
      let same : place ≡ 0 = cc in
      rw same (ap Some (eqb-true s.1.0 proc here))
  | inr later ↦
      let w = one_further (place_in seats proc) place (rw later at e) in
      rw (w.2) (at_its_place seats proc w.0 w.1)
]

pub has_place_in : (seats : List Seat) (proc : ℕ) → has_place seats proc ≡ is_some (place_in seats proc)
has_place_in [] proc = refl
has_place_in (s ∷ seats) proc = elim (tells (s.1.0 == proc)) [
  | inl here ↦ rw here refl
  | inr later ↦ rw later (has_place_in seats proc ∙ still (place_in seats proc))
]
  where
    still : (found : Option ℕ) → is_some found ≡ is_some (option_map (λ k. k + 1) found)
    still None = refl
    still (Some k) = refl

-- who is at a place has one
pub has_place_at : (seats : List Seat) (place : ℕ) (member : Seat) → slice_get seats place ≡ Some member → has_place seats member.1.0 ≡ true
has_place_at [] place member e = absurd (cc)
has_place_at (s ∷ seats) zero member e =
    let same : s ≡ member = cc in
    rw (eq-eqb s.1.0 member.1.0 (ap (λ (x : Seat). x.1.0) same)) refl
has_place_at (s ∷ seats) (suc place) member e = elim (tells (s.1.0 == member.1.0)) [
  | inl here ↦ rw here refl
  | inr later ↦ rw later (has_place_at seats place member e)
]

pub its_place : (seats : List Seat) (place : ℕ) (member : Seat) → NoTwoPlaces seats → slice_get seats place ≡ Some member → place_in seats member.1.0 ≡ Some place
its_place [] place member apart e = absurd (cc)
its_place (s ∷ seats) zero member apart e =
    let same : s ≡ member = cc in
    rw (eq-eqb s.1.0 member.1.0 (ap (λ (x : Seat). x.1.0) same)) refl
its_place (s ∷ seats) (suc place) member apart e =
    let other : (s.1.0 == member.1.0) ≡ false = ne_eqb s.1.0 member.1.0 (λ same. true≢false (sym (has_place_at seats place member e) ∙ ap (has_place seats) (sym same) ∙ apart.0)) in
    rw (other, its_place seats place member apart.1 e) (ap Some (add-one place))

-- ---- seats

pub has_place_seated : (seats : List Seat) (member : Seat) → IsSeated member seats → has_place seats member.1.0 ≡ true
has_place_seated [] member is_seated = absurd is_seated
has_place_seated (s ∷ seats) member (inl same) = rw (eq-eqb s.1.0 member.1.0 (ap (λ (x : Seat). x.1.0) same)) refl
has_place_seated (s ∷ seats) member (inr later) = elim (tells (s.1.0 == member.1.0)) [
  | inl here ↦ rw here refl
  | inr apart ↦ rw apart (has_place_seated seats member later)
]

-- a process has one seat
pub one_seat : (seats : List Seat) (a b : Seat) → NoTwoPlaces seats → IsSeated a seats → IsSeated b seats → a.1 ≡ b.1 → a ≡ b
one_seat [] a b apart is_a is_b same = absurd is_a
one_seat (s ∷ seats) a b apart (inl is_a) (inl is_b) same = sym is_a ∙ is_b
one_seat (s ∷ seats) a b apart (inl is_a) (inr is_b) same =
    let at : s.1.0 ≡ b.1.0 = ap (λ (x : Seat). x.1.0) is_a ∙ ap (λ p. p.0) same in
    absurd (true≢false (sym (has_place_seated seats b is_b) ∙ ap (has_place seats) (sym at) ∙ apart.0))
one_seat (s ∷ seats) a b apart (inr is_a) (inl is_b) same =
    let at : s.1.0 ≡ a.1.0 = ap (λ (x : Seat). x.1.0) is_b ∙ sym (ap (λ p. p.0) same) in
    absurd (true≢false (sym (has_place_seated seats a is_a) ∙ ap (has_place seats) (sym at) ∙ apart.0))
one_seat (s ∷ seats) a b apart (inr is_a) (inr is_b) same = one_seat seats a b apart.1 is_a is_b same
