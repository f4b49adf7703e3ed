-- The names that a list of distinct processes gives to seats.
use Rattle.std.proofs.Common.{◌≡◌, ℕ, ◌<◌, ◌≢◌, ◌==◌, zero, suc, Bool, true, false, cond, ◌||◌, List, [], ◌∷◌, length, arith, refl, sym, ◌∙◌, ap}
use Rattle.std.proofs.lemmas.Bool.Decides.{nat_tests}
use Rattle.std.proofs.lemmas.Bool.{cond_both}
use Rattle.fx_ballot.specs.World.{Apart, among}
use Rattle.fx_ballot.specs.Names.{seat_at, seat_of, has, Distinct, NamesSeats}
use Rattle.fx_ballot.proofs.Strangers.{among_seat}

has_first : (q p : ℕ) (rest : Bool) → ((q == p) || rest) ≡ true → q ≢ p → rest ≡ true
has_first q p rest e ne = grind (arith, nat_tests)

is_first : (q : ℕ) (rest : Bool) → ((q == q) || rest) ≡ true
is_first q rest = grind (arith, nat_tests)

or_later : (a b : Bool) → b ≡ true → (a || b) ≡ true
or_later a b e = grind (arith, nat_tests)

equal : (a b : ℕ) → (a == b) ≡ true → a ≡ b
equal a b e = grind (arith, nat_tests)

unequal : (a b : ℕ) → (a == b) ≡ false → a ≢ b
unequal a b e = grind (arith, nat_tests)

-- the process at a seat has one
pub has_seat : (who : List ℕ) (k : ℕ) → k < length who → has who (seat_at who k) ≡ true
has_seat [] k l = absurd (omega (arith, l))
has_seat (q ∷ qs) zero l = is_first q (has qs q)
has_seat (q ∷ qs) (suc k) l = or_later (q == seat_at qs k) (has qs (seat_at qs k)) (has_seat qs k (let m : suc k < suc (length qs) = l in omega (arith, m)))

-- the seat of a process that has one is in the list, and the process stands there
pub seat_found : (who : List ℕ) (p : ℕ) → has who p ≡ true → (seat_of who p < length who) × (seat_at who (seat_of who p) ≡ p)
seat_found [] p e = absurd (let bad : false ≡ true = e in cc)
seat_found (q ∷ qs) p e =
    cond_both {A = ℕ} (q == p) 0 (suc (seat_of qs p)) (λ k. (k < suc (length qs)) × (seat_at (q ∷ qs) k ≡ p))
    (λ t. (omega arith, equal q p t))
    (λ t.
    let r : (seat_of qs p < length qs) × (seat_at qs (seat_of qs p) ≡ p) = seat_found qs p (has_first q p (has qs p) e (unequal q p t)) in
    (let l : seat_of qs p < length qs = r.0 in omega (arith, l), r.1))

-- distinct processes are names apart
pub names_apart : (who : List ℕ) → Distinct who → Apart (length who) (seat_at who)
names_apart [] h i j a b e = absurd (omega (arith, a))
names_apart (q ∷ qs) h zero zero a b e = refl
names_apart (q ∷ qs) h zero (suc j) a b e =
    let m : suc j < suc (length qs) = b in
    let there : has qs (seat_at qs j) ≡ true = has_seat qs j (omega (arith, m)) in
    let same : q ≡ seat_at qs j = e in
    absurd (let bad : false ≡ true = sym h.0 ∙ ap (has qs) same ∙ there in cc)
names_apart (q ∷ qs) h (suc i) zero a b e =
    let m : suc i < suc (length qs) = a in
    let there : has qs (seat_at qs i) ≡ true = has_seat qs i (omega (arith, m)) in
    let same : seat_at qs i ≡ q = e in
    absurd (let bad : false ≡ true = sym h.0 ∙ ap (has qs) (sym same) ∙ there in cc)
names_apart (q ∷ qs) h (suc i) (suc j) a b e =
    let x : suc i < suc (length qs) = a in
    let y : suc j < suc (length qs) = b in
    ap suc (names_apart qs h.1 i j (omega (arith, x)) (omega (arith, y)) e)

-- who is among the members has one of their seats
pub among_found : (n : ℕ) (name : ℕ → ℕ) (p : ℕ) → among n name p ≡ true → (k : ℕ) × (k < n) × (name k ≡ p)
among_found zero name p e = absurd (let bad : false ≡ true = e in cc)
among_found (suc n) name p e = last (p == name n) refl (λ rest. among_found n name p rest) e
  where
    last : (t : Bool) → (p == name n) ≡ t → (among n name p ≡ true → (k : ℕ) × (k < n) × (name k ≡ p)) → cond t true (among n name p) ≡ true
        → (k : ℕ) × (k < suc n) × (name k ≡ p)
    last true s before rest = (n, omega arith, sym (equal p (name n) s))
    last false s before rest = let f : (k : ℕ) × (k < n) × (name k ≡ p) = before rest in (f.0, omega (arith, f.1), f.2)

-- the members are the processes of the list
pub names_members : (who : List ℕ) (p : ℕ) → among (length who) (seat_at who) p ≡ has who p
names_members who p = both (among (length who) (seat_at who) p) refl (has who p) refl
  where
    both : (a : Bool) → among (length who) (seat_at who) p ≡ a → (b : Bool) → has who p ≡ b → a ≡ b
    both true ea true eb = refl
    both false ea false eb = refl
    both true ea false eb =
        let f : (k : ℕ) × (k < length who) × (seat_at who k ≡ p) = among_found (length who) (seat_at who) p ea in
        absurd (let bad : true ≡ false = sym (has_seat who f.0 f.1) ∙ ap (has who) f.2 ∙ eb in cc)
    both false ea true eb =
        let r : (seat_of who p < length who) × (seat_at who (seat_of who p) ≡ p) = seat_found who p eb in
        absurd (let bad : true ≡ false = sym (among_seat (length who) (seat_at who) (seat_of who p) r.0) ∙ ap (among (length who) (seat_at who)) r.1 ∙ ea in cc)

pub names_seats : (who : List ℕ) → Distinct who → NamesSeats who
names_seats who h = record {
  apart = names_apart who h;
  members = λ p. names_members who p;
  seat = λ p e. seat_found who p e;
  process = λ k l.
      let there : has who (seat_at who k) ≡ true = has_seat who k l in
      let r : (seat_of who (seat_at who k) < length who) × (seat_at who (seat_of who (seat_at who k)) ≡ seat_at who k) = seat_found who (seat_at who k) there in
      (there, names_apart who h (seat_of who (seat_at who k)) k r.0 l r.1);
}
