-- What decided slots of an agreement tell.
use Rattle.std.proofs.Common.{◌≡◌, ℕ, ◌<◌, zero, suc, true, false, List, [], ◌∷◌, ◌++◌, length, Option, Some, None, inl, inr, arith, refl, ap, sym, subst, ◌∙◌}
use Rattle.std.specs.Prelude.{ℤ, slice_get}
use Rattle.std.specs.Option.{option_or}
use Rattle.std.specs.Int.{w64, int_bit_and}
use Rattle.std.specs.List.{list_all}
use Rattle.std.proofs.lemmas.Bool.{and_parts}
use Rattle.fx_ballot.specs.Laws.{vote_of, IsTrueSlot}
use Rattle.fx_ballot.specs.Names.{seat_at}
use Rattle.fx_ballot.specs.Turn.{Outside}
use Rattle.fx_ballot.specs.World as ballot
use Rattle.fx_comm.specs.Seats.{Seat}
use Rattle.fx_link.specs.declared.slot.Slot.{Slot}
use Rattle.fx_link.specs.declared.slot.Slot.TheVariants as slot
use Rattle.fx_walk.specs.declared.wanted.Wanted.{Wanted}
use Rattle.fx_walk.specs.declared.wanted.Wanted.TheVariants as wanted
use Rattle.fx_machine.specs.Calls.{common_bits}
use Rattle.fx_machine.specs.Nodes.{procs_of}
use Rattle.fx_machine.specs.Reading.{first_read}
use Rattle.fx_machine.specs.Texts.{Text}
use Rattle.fx_machine.specs.Waits.{Error, ByLoss, ByLeaving, error_in, first_error, is_affirmative, all_agree}
use Rattle.fx_legal.specs.Calls as calls
use Rattle.fx_legal.specs.Ledger.{Ledger}
use Rattle.fx_calls.proofs.Plans.{numbers_of}
use Rattle.fx_calls.proofs.Polled.{IsFlag}

-- ---- errors

-- the first error is that of one of the slots
pub record ErrorAt (qs : List ℕ) (slots : List Slot) (error : Error) : Type 0 where
  pub place : ℕ
  pub below : place < length qs
  pub slot : Slot
  pub at : slice_get slots place ≡ Some slot
  pub is : error_in (seat_at qs place) slot ≡ Some error

pub error_at : (qs : List ℕ) (slots : List Slot) (error : Error) → first_error qs slots ≡ Some error → ErrorAt qs slots error
error_at [] slots error e = absurd (let bad : None ≡ Some error = e in cc)
error_at (q ∷ qs) [] error e = absurd (let bad : None ≡ Some error = e in cc)
error_at (q ∷ qs) (x ∷ xs) error e = of (error_at qs xs error) (error_in q x) refl e
  where
    of : (first_error qs xs ≡ Some error → ErrorAt qs xs error) → (o : Option Error) → error_in q x ≡ o → option_or o (first_error qs xs) ≡ Some error → ErrorAt (q ∷ qs) (x ∷ xs) error
    of later (Some y) is e = record { place = 0; below = omega arith; slot = x; at = refl; is = is ∙ e }
    of later None is e = let r = later e in record { place = suc r.place; below = (let less = r.below in omega (arith, less)); slot = r.slot; at = r.at; is = r.is }

-- an error tells of one that was killed, or has left without having voted
abbrev pub IsOwed : ballot.World → Error → Type 0
IsOwed y (ByLoss q) = (y.member q).living ≡ false
IsOwed y (ByLeaving q) = ((y.member q).gone ≡ true) × ((y.member q).phase ≡ Outside)

-- and of the process of that place
abbrev pub error_of : Error → ℕ
error_of (ByLoss q) = q
error_of (ByLeaving q) = q

same_error : (a b : Error) → Some a ≡ Some b → a ≡ b
same_error a b e = cc

pub true_error : (l : Ledger) (e k : ℕ) (y : ballot.World) (q : ℕ) (x : Slot) (error : Error) → ((v : Slot) → vote_of y q ≡ Some v → IsFlag l e k q v) → IsTrueSlot y q x → error_in q x ≡ Some error → IsOwed y error × (error_of error ≡ q)
true_error l e k y q x error flags (inl v) is = let f = flags x v in absurd (let bad : None ≡ Some error = sym (ap (error_in q) f.is) ∙ is in cc)
true_error l e k y q x error flags (inr (inl v)) is =
    let same : ByLoss q ≡ error = same_error (ByLoss q) error (sym (ap (error_in q) v.0) ∙ is) in
    (subst (IsOwed y) same v.1, sym (ap error_of same))
true_error l e k y q x error flags (inr (inr v)) is =
    let same : ByLeaving q ≡ error = same_error (ByLeaving q) error (sym (ap (error_in q) v.0) ∙ is) in
    (subst (IsOwed y) same (v.1, v.2), sym (ap error_of same))

-- ---- flags

-- the slot is the flag that its process entered the call with
pub record FlagAt (into : ℕ → Option Wanted) (q : ℕ) (x : Slot) : Type 0 where
  pub flag : ℤ
  pub is : x ≡ slot.Flag flag
  pub entered : into q ≡ Some (wanted.Agree flag)

affirmative_at : (slots : List Slot) (k : ℕ) (x : Slot) → all_agree slots ≡ true → slice_get slots k ≡ Some x → is_affirmative x ≡ true
affirmative_at [] k x all at = absurd (let bad : None ≡ Some x = at in cc)
affirmative_at (y ∷ ys) zero x all at = let same : y ≡ x = the_slot y x at in ap is_affirmative (sym same) ∙ (and_parts (is_affirmative y) (list_all is_affirmative ys) all).0
  where
    the_slot : (a b : Slot) → Some a ≡ Some b → a ≡ b
    the_slot a b e = cc
affirmative_at (y ∷ ys) (suc k) x all at = affirmative_at ys k x (and_parts (is_affirmative y) (list_all is_affirmative ys) all).1 at

pub flag_at : (l : Ledger) (e k : ℕ) (y : ballot.World) (slots : List Slot) (j q : ℕ) (x : Slot) → all_agree slots ≡ true → slice_get slots j ≡ Some x → ((v : Slot) → vote_of y q ≡ Some v → IsFlag l e k q v) → IsTrueSlot y q x
    → FlagAt (l.entered e k) q x
flag_at l e k y slots j q x all at flags (inl v) = let f = flags x v in record { flag = f.flag; is = f.is; entered = f.entered }
flag_at l e k y slots j q x all at flags (inr (inl v)) = absurd (let bad : false ≡ true = sym (ap is_affirmative v.0) ∙ affirmative_at slots j x all at in cc)
flag_at l e k y slots j q x all at flags (inr (inr v)) = absurd (let bad : false ≡ true = sym (ap is_affirmative v.0) ∙ affirmative_at slots j x all at in cc)

-- the bits that all flags have are those of what was entered
pub bits_are : (entered : ℕ → Option Wanted) (seats : List Seat) (slots : List Slot) → length slots ≡ length (procs_of seats) → ((k : ℕ) (x : Slot) → slice_get slots k ≡ Some x → FlagAt entered (seat_at (procs_of seats) k) x)
    → common_bits slots ≡ calls.common_bits (numbers_of entered seats)
bits_are entered [] [] long flags = refl
bits_are entered [] (x ∷ xs) long flags = absurd (let bad : suc (length xs) ≡ 0 = long in omega (arith, bad))
bits_are entered (s ∷ seats) [] long flags = absurd (let bad : 0 ≡ suc (length (procs_of seats)) = long in omega (arith, bad))
bits_are entered (s ∷ seats) (x ∷ xs) long flags =
    let f = flags 0 x refl in
    let rest = bits_are entered seats xs (let m : suc (length xs) ≡ suc (length (procs_of seats)) = long in omega (arith, m)) (λ k y at. flags (suc k) y at) in
    ap (λ (o : Slot). common_bits (o ∷ xs)) f.is ∙ ap (λ (n : ℤ). int_bit_and w64 f.flag n) rest ∙ sym (ap (λ (o : Option Wanted). int_bit_and w64 (calls.own_number o) (calls.common_bits (numbers_of entered seats))) f.entered)

-- one slot for each place
pub slot_there : (slots : List Slot) (n k : ℕ) → length slots ≡ n → k < n → (x : Slot) × (slice_get slots k ≡ Some x)
slot_there [] n k long less = absurd (omega (arith, long, less))
slot_there (x ∷ xs) n zero long less = (x, refl)
slot_there (x ∷ xs) zero (suc k) long less = absurd (omega (arith, less))
slot_there (x ∷ xs) (suc n) (suc k) long less = slot_there xs n k (let m : suc (length xs) ≡ suc n = long in omega (arith, m)) (omega (arith, less))

-- ---- a text more

pub read_more : {X : Type 0} (read : Text → Option X) (ts : List Text) (t : Text) → first_read read (ts ++ t ∷ []) ≡ option_or (first_read read ts) (read t)
read_more {X} read [] t = of (read t)
  where
    of : (o : Option X) → option_or o None ≡ o
    of None = refl
    of (Some x) = refl
read_more {X} read (u ∷ ts) t = ap (λ (o : Option X). option_or (read u) o) (read_more read ts t) ∙ of (read u)
  where
    of : (o : Option X) → option_or o (option_or (first_read read ts) (read t)) ≡ option_or (option_or o (first_read read ts)) (read t)
    of None = refl
    of (Some x) = refl

-- nothing that is read can be nothing
pub none_read : {X : Type 0} (o : Option X) → ((x : X) → o ≡ Some x → ⊥) → o ≡ None
none_read None never = refl
none_read (Some x) never = absurd (never x refl)
