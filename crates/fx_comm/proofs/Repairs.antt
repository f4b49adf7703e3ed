-- What a repair does to the seats of a communicator.
use Rattle.std.proofs.Common.{◌≡◌, ℕ, ◌+◌, ◌<◌, ◌≤◌, suc, min, Bool, true, false, cond, not, ◌&&◌, ◌||◌, ◌==◌, inl, inr, List, [], ◌∷◌, ◌++◌, length, refl, sym, ap, ◌∙◌, arith, true≢false}
use Rattle.std.proofs.lemmas.Bool.{eq-eqb, ne_eqb, eqb-true}
use Rattle.fx_base.specs.declared.names.Ident.{Ident}
use Rattle.fx_base.specs.Sets.{those_below}
use Rattle.fx_comm.specs.Seats.{Seat, has_place, has_ident, idents_of, spares_of, filled, refilled, spares_left, repaired, RiseAbove, IdentsRise, NoTwoPlaces, AllBelow32, AllPresent, IsSeated, IsComm}
use Rattle.fx_comm.proofs.Lists.{tells, is_in, IsApart, first_false, second_false, not_true, fails_those, those_apart, those_same, those_none, count_parts, count_one, AllUnder, those_under}

or_later : (a b : Bool) → b ≡ true → (a || b) ≡ true
or_later true b e = refl
or_later false b e = e

same_or_later : (a b c : Bool) → (b ≡ true → c ≡ true) → (a || b) ≡ true → (a || c) ≡ true
same_or_later true b c f e = refl
same_or_later false b c f e = f e

module _ (present : ℕ → Bool) where
  -- ---- with all members present nothing changes

  pub all_stay : (seats : List Seat) (spares : List ℕ) → AllPresent present seats → filled present seats spares ≡ seats
  all_stay [] spares all = refl
  all_stay (s ∷ seats) spares all = rw all.0 (ap (λ rest. s ∷ rest) (all_stay seats spares all.1))

  -- ---- a present member keeps its identity

  seated_later : (member : Seat) (ident : Ident) (spares : List ℕ) (seats : List Seat) → IsSeated member seats → IsSeated member (refilled ident spares ++ seats)
  seated_later member ident [] seats is_seated = is_seated
  seated_later member ident (spare ∷ spares) seats is_seated = inr is_seated

  pub keeps : (seats : List Seat) (spares : List ℕ) (member : Seat) → IsSeated member seats → present member.1.0 ≡ true → IsSeated member (filled present seats spares)
  keeps [] spares member is_seated here = absurd is_seated
  keeps (s ∷ seats) spares member (inl same) here =
      let stays : present s.1.0 ≡ true = rw same here in
      rw stays (inl same)
  keeps (s ∷ seats) spares member (inr later) here = elim (tells (present s.1.0)) [
    | inl e ↦ rw e (inr (keeps seats spares member later here))
    | inr e ↦ rw e (seated_later member s.0 spares (filled present seats (spares_left spares)) (keeps seats (spares_left spares) member later here))
  ]

  -- ---- the identities rise

  lower : (low high : ℕ) (seats : List Seat) → low < high → RiseAbove high seats → RiseAbove low seats
  lower low high [] less rise = tt
  lower low high (s ∷ seats) less rise = (omega (arith, rise.0), rise.1)

  rising : (bound : ℕ) (seats : List Seat) → RiseAbove bound seats → IdentsRise seats
  rising bound [] rise = tt
  rising bound (s ∷ seats) rise = rise.1

  filled_above : (bound : ℕ) (seats : List Seat) (spares : List ℕ) → RiseAbove bound seats → RiseAbove bound (filled present seats spares)
  filled_above bound [] spares rise = tt
  filled_above bound (s ∷ seats) [] rise = elim (tells (present s.1.0)) [
    | inl e ↦ rw e (rise.0, filled_above s.0.0 seats [] rise.1)
    | inr e ↦ rw e (filled_above bound seats [] (lower bound s.0.0 seats rise.0 rise.1))
  ]
  filled_above bound (s ∷ seats) (spare ∷ spares) rise = elim (tells (present s.1.0)) [
    | inl e ↦ rw e (rise.0, filled_above s.0.0 seats (spare ∷ spares) rise.1)
    | inr e ↦ rw e (rise.0, filled_above s.0.0 seats spares rise.1)
  ]

  pub filled_rise : (seats : List Seat) (spares : List ℕ) → IdentsRise seats → IdentsRise (filled present seats spares)
  filled_rise [] spares rise = tt
  filled_rise (s ∷ seats) [] rise = elim (tells (present s.1.0)) [
    | inl e ↦ rw e (filled_above s.0.0 seats [] rise)
    | inr e ↦ rw e (rising s.0.0 (filled present seats []) (filled_above s.0.0 seats [] rise))
  ]
  filled_rise (s ∷ seats) (spare ∷ spares) rise = elim (tells (present s.1.0)) [
    | inl e ↦ rw e (filled_above s.0.0 seats (spare ∷ spares) rise)
    | inr e ↦ rw e (filled_above s.0.0 seats spares rise)
  ]

  -- ---- no process has two places

  later_too : (s : Seat) (seats : List Seat) (proc : ℕ) → has_place seats proc ≡ true → has_place (s ∷ seats) proc ≡ true
  later_too s seats proc placed = elim (tells (s.1.0 == proc)) [ inl e ↦ rw e refl | inr e ↦ rw e placed ]

  here_too : (s : Seat) (seats : List Seat) (proc : ℕ) → s.1.0 ≡ proc → has_place (s ∷ seats) proc ≡ true
  here_too s seats proc same = rw (eq-eqb s.1.0 proc same) refl

  stays_apart : (s : Seat) (seats : List Seat) (proc : ℕ) → present s.1.0 ≡ true → (has_place (s ∷ seats) proc ≡ true → present proc ≡ false) → (s.1.0 == proc) ≡ false
  stays_apart s seats proc e lost =
      ne_eqb s.1.0 proc (λ same. true≢false (sym e ∙ ap present same ∙ lost (here_too s seats proc same)))

  -- a process is new to the communicator if it didn't stay, and is no spare
  new_to : (seats : List Seat) (spares : List ℕ) (proc : ℕ) → (has_place seats proc ≡ true → present proc ≡ false) → is_in proc spares ≡ false → has_place (filled present seats spares) proc ≡ false
  new_to [] spares proc lost fresh = refl
  new_to (s ∷ seats) [] proc lost fresh = elim (tells (present s.1.0)) [
    | inl e ↦ rw (e, stays_apart s seats proc e lost) (new_to seats [] proc (λ placed. lost (later_too s seats proc placed)) fresh)
    | inr e ↦ rw e (new_to seats [] proc (λ placed. lost (later_too s seats proc placed)) fresh)
  ]
  new_to (s ∷ seats) (spare ∷ spares) proc lost fresh = elim (tells (present s.1.0)) [
    | inl e ↦ rw (e, stays_apart s seats proc e lost) (new_to seats (spare ∷ spares) proc (λ placed. lost (later_too s seats proc placed)) fresh)
    | inr e ↦
        rw (e, first_false (spare == proc) (is_in proc spares) fresh)
        (new_to seats spares proc (λ placed. lost (later_too s seats proc placed)) (second_false (spare == proc) (is_in proc spares) fresh))
  ]

  -- no spare has a place
  abbrev AreOutside : List Seat → List ℕ → Type 0
  AreOutside seats spares = (proc : ℕ) → has_place seats proc ≡ true → is_in proc spares ≡ false

  fewer_outside : (s : Seat) (seats : List Seat) (spares : List ℕ) → AreOutside (s ∷ seats) spares → AreOutside seats spares
  fewer_outside s seats spares outside proc placed = outside proc (later_too s seats proc placed)

  not_placed : (s : Seat) (seats : List Seat) (spare : ℕ) (spares : List ℕ) → AreOutside (s ∷ seats) (spare ∷ spares) → has_place seats spare ≡ false
  not_placed s seats spare spares outside =
      not_true _ (λ placed.
      let itself : (spare == spare) ≡ true = eq-eqb spare spare refl in
      true≢false (sym itself ∙ first_false (spare == spare) (is_in spare spares) (outside spare (later_too s seats spare placed))))

  pub filled_apart : (seats : List Seat) (spares : List ℕ) → NoTwoPlaces seats → IsApart spares → AreOutside seats spares → NoTwoPlaces (filled present seats spares)
  filled_apart [] spares apart fresh outside = tt
  filled_apart (s ∷ seats) [] apart fresh outside = elim (tells (present s.1.0)) [
    | inl e ↦ rw e (
      new_to seats [] s.1.0 (λ placed. absurd (true≢false (sym placed ∙ apart.0))) refl,
      filled_apart seats [] apart.1 tt (λ proc placed. refl),
    )
    | inr e ↦ rw e (filled_apart seats [] apart.1 tt (λ proc placed. refl))
  ]
  filled_apart (s ∷ seats) (spare ∷ spares) apart fresh outside =
      let fewer : AreOutside seats (spare ∷ spares) = fewer_outside s seats (spare ∷ spares) outside in
      elim (tells (present s.1.0)) [
        | inl e ↦ rw e (
          new_to seats (spare ∷ spares) s.1.0 (λ placed. absurd (true≢false (sym placed ∙ apart.0))) (outside s.1.0 (here_too s seats s.1.0 refl)),
          filled_apart seats (spare ∷ spares) apart.1 fresh fewer,
        )
        | inr e ↦ rw e (
          new_to seats spares spare (λ placed. absurd (true≢false (sym placed ∙ not_placed s seats spare spares outside))) fresh.0,
          filled_apart seats spares apart.1 fresh.1 (λ proc placed. second_false (spare == proc) (is_in proc spares) (fewer proc placed)),
        )
      ]

  -- the spares of a communicator

  outside_all : (seats : List Seat) → AreOutside seats (spares_of seats present)
  outside_all seats proc placed = fails_those (λ p. present p && not (has_place seats p)) 32 proc (rw placed (none_of (present proc)))
    where
      none_of : (b : Bool) → (b && false) ≡ false
      none_of true = refl
      none_of false = refl

  pub repaired_apart : (old : List Seat) → NoTwoPlaces old → NoTwoPlaces (repaired old present)
  repaired_apart old apart = filled_apart old (spares_of old present) apart (those_apart _ 32) (outside_all old)

  -- ---- the new size

  pub staying : List Seat → ℕ
  staying [] = 0
  staying (s ∷ seats) = cond (present s.1.0) 1 0 + staying seats

  staying_le : (seats : List Seat) → staying seats ≤ length seats
  unfolding staying
  staying_le [] = omega arith
  staying_le (s ∷ seats) = elim (tells (present s.1.0)) [
    | inl e ↦ rw e (omega (arith, staying_le seats))
    | inr e ↦ rw e (omega (arith, staying_le seats))
  ]

  filled_length : (seats : List Seat) (spares : List ℕ) → length (filled present seats spares) ≡ min (length seats) (staying seats + length spares)
  unfolding staying
  filled_length [] spares = omega arith
  filled_length (s ∷ seats) [] = elim (tells (present s.1.0)) [
    | inl e ↦ rw e (omega (arith, filled_length seats []))
    | inr e ↦ rw e (omega (arith, filled_length seats [], staying_le seats))
  ]
  filled_length (s ∷ seats) (spare ∷ spares) = elim (tells (present s.1.0)) [
    | inl e ↦ rw e (omega (arith, filled_length seats (spare ∷ spares)))
    | inr e ↦ rw e (omega (arith, filled_length seats spares))
  ]

  none_passes : (b : Bool) → (b && false) ≡ false
  none_passes true = refl
  none_passes false = refl

  here_or_later : (b x y : Bool) → (x ≡ true → y ≡ false) → ((b && (x || y)) && not x) ≡ (b && y)
  here_or_later true true y apart = sym (apart refl)
  here_or_later true false true apart = refl
  here_or_later true false false apart = refl
  here_or_later false x y apart = refl

  here_alone : (b x y : Bool) → ((b && (x || y)) && x) ≡ (b && x)
  here_alone true true y = refl
  here_alone true false true = refl
  here_alone true false false = refl
  here_alone false x y = refl

  -- the present processes that have a place are those that stay
  placed_stay : (seats : List Seat) → NoTwoPlaces seats → AllBelow32 seats → length (those_below (λ p. present p && has_place seats p) 32) ≡ staying seats
  unfolding staying
  placed_stay [] apart below = ap length (those_none (λ p. present p && has_place [] p) 32 (λ m within. none_passes (present m)))
  placed_stay (s ∷ seats) apart below =
      count_parts (λ p. present p && has_place (s ∷ seats) p) (λ p. s.1.0 == p) 32
      ∙ (λ i. length (this_one i) + length (the_others i))
      ∙ (λ i. count_one present s.1.0 32 below.1 i + placed_stay seats apart.1 below.2 i)
    where
      this_one : those_below (λ p. (present p && has_place (s ∷ seats) p) && (s.1.0 == p)) 32 ≡ those_below (λ p. present p && (s.1.0 == p)) 32
      this_one = those_same _ _ 32 (λ m within. here_alone (present m) (s.1.0 == m) (has_place seats m))

      the_others : those_below (λ p. (present p && has_place (s ∷ seats) p) && not (s.1.0 == p)) 32 ≡ those_below (λ p. present p && has_place seats p) 32
      the_others = those_same _ _ 32 (λ m within. here_or_later (present m) (s.1.0 == m) (has_place seats m) (λ same. ap (has_place seats) (sym (eqb-true s.1.0 m same)) ∙ apart.0))

  pub repaired_length : (old : List Seat) → NoTwoPlaces old → AllBelow32 old → length (repaired old present) ≡ min (length old) (length (those_below present 32))
  repaired_length old apart below =
      filled_length old (spares_of old present)
      ∙ ap (min (length old)) (sym (count_parts present (has_place old) 32 ∙ ap (λ n. n + length (spares_of old present)) (placed_stay old apart below)))

  -- ---- no identity is new

  ident_among : (seats : List Seat) (spares : List ℕ) (ident : ℕ) → has_ident (filled present seats spares) ident ≡ true → has_ident seats ident ≡ true
  ident_among [] spares ident has = has
  ident_among (s ∷ seats) [] ident has = elim (tells (present s.1.0)) [
    | inl e ↦ same_or_later (s.0.0 == ident) _ _ (ident_among seats [] ident) (rw e at has)
    | inr e ↦ or_later (s.0.0 == ident) _ (ident_among seats [] ident (rw e at has))
  ]
  ident_among (s ∷ seats) (spare ∷ spares) ident has = elim (tells (present s.1.0)) [
    | inl e ↦ same_or_later (s.0.0 == ident) _ _ (ident_among seats (spare ∷ spares) ident) (rw e at has)
    | inr e ↦ same_or_later (s.0.0 == ident) _ _ (ident_among seats spares ident) (rw e at has)
  ]

  pub repaired_among : (old : List Seat) (ident : ℕ) → has_ident (repaired old present) ident ≡ true → has_ident old ident ≡ true
  repaired_among old ident = ident_among old (spares_of old present) ident

  -- of as many identities none was dropped
  same_idents : (seats : List Seat) (spares : List ℕ) → length (filled present seats spares) ≡ length seats → idents_of (filled present seats spares) ≡ idents_of seats
  same_idents [] spares size = refl
  same_idents (s ∷ seats) [] size = elim (tells (present s.1.0)) [
    | inl e ↦
        let as_many : suc (length (filled present seats [])) ≡ suc (length seats) = rw e at size in
        rw e (ap (λ rest. s.0.0 ∷ rest) (same_idents seats [] (omega arith)))
    | inr e ↦
        let fewer : length (filled present seats []) ≡ suc (length seats) = rw e at size in
        absurd (omega (arith, filled_length seats []))
  ]
  same_idents (s ∷ seats) (spare ∷ spares) size = elim (tells (present s.1.0)) [
    | inl e ↦
        let as_many : suc (length (filled present seats (spare ∷ spares))) ≡ suc (length seats) = rw e at size in
        rw e (ap (λ rest. s.0.0 ∷ rest) (same_idents seats (spare ∷ spares) (omega arith)))
    | inr e ↦
        let as_many : suc (length (filled present seats spares)) ≡ suc (length seats) = rw e at size in
        rw e (ap (λ rest. s.0.0 ∷ rest) (same_idents seats spares (omega arith)))
  ]

  pub repaired_idents : (old : List Seat) → length (repaired old present) ≡ length old → idents_of (repaired old present) ≡ idents_of old
  repaired_idents old = same_idents old (spares_of old present)

  -- ---- identities and processes stay below 32

  filled_below : (seats : List Seat) (spares : List ℕ) → AllBelow32 seats → AllUnder 32 spares → AllBelow32 (filled present seats spares)
  filled_below [] spares below under = tt
  filled_below (s ∷ seats) [] below under = elim (tells (present s.1.0)) [
    | inl e ↦ rw e (below.0, below.1, filled_below seats [] below.2 tt)
    | inr e ↦ rw e (filled_below seats [] below.2 tt)
  ]
  filled_below (s ∷ seats) (spare ∷ spares) below under = elim (tells (present s.1.0)) [
    | inl e ↦ rw e (below.0, below.1, filled_below seats (spare ∷ spares) below.2 under)
    | inr e ↦ rw e (below.0, under.0, filled_below seats spares below.2 under.1)
  ]

  -- a repair with someone present gives a communicator
  pub repaired_comm : (old : List Seat) → IsComm old → 0 < length (those_below present 32) → IsComm (repaired old present)
  repaired_comm old comm some =
      let size = repaired_length old comm.apart comm.below in
      record {
        some = omega (arith, size, comm.some);
        at_most_32 = omega (arith, size, comm.at_most_32);
        rise = filled_rise old (spares_of old present) comm.rise;
        apart = repaired_apart old comm.apart;
        below = filled_below old (spares_of old present) comm.below (those_under _ 32 32 (omega arith));
      }

  -- ---- each process of the new communicator is present

  abbrev ArePresent : List ℕ → Type 0
  ArePresent [] = Unit {0}
  ArePresent (n ∷ ns) = (present n ≡ true) × ArePresent ns

  passing : (spares : List ℕ) → ((m : ℕ) → is_in m spares ≡ true → present m ≡ true) → ArePresent spares
  passing [] each = tt
  passing (n ∷ ns) each = (
    each n (rw (eq-eqb n n refl) refl),
    passing ns (λ m later. each m (elim (tells (n == m)) [ inl e ↦ rw e refl | inr e ↦ rw e later ])),
  )

  spares_present : (old : List Seat) → ArePresent (spares_of old present)
  spares_present old =
      passing (spares_of old present) (λ m is_spare.
      elim (tells (present m)) [
        | inl e ↦ e
        | inr e ↦ absurd (true≢false (sym is_spare ∙ fails_those (λ p. present p && not (has_place old p)) 32 m (rw e refl)))
      ])

  filled_present : (seats : List Seat) (spares : List ℕ) → ArePresent spares → AllPresent present (filled present seats spares)
  filled_present [] spares are = tt
  filled_present (s ∷ seats) [] are = elim (tells (present s.1.0)) [
    | inl e ↦ rw e (e, filled_present seats [] tt)
    | inr e ↦ rw e (filled_present seats [] tt)
  ]
  filled_present (s ∷ seats) (spare ∷ spares) are = elim (tells (present s.1.0)) [
    | inl e ↦ rw e (e, filled_present seats (spare ∷ spares) are)
    | inr e ↦ rw e (are.0, filled_present seats spares are.1)
  ]

  pub repaired_present : (old : List Seat) → AllPresent present (repaired old present)
  repaired_present old = filled_present old (spares_of old present) (spares_present old)
