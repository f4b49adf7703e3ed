-- Voters, their slots, and how the epochs follow from what was decided.
use Rattle.std.proofs.Common.{◌≡◌, ℕ, ◌<◌, ◌≤◌, ◌≢◌, ◌==◌, zero, suc, Bool, true, false, cond, ◌||◌, List, [], ◌∷◌, length, Option, Some, None, inl, inr, arith, refl, subst, sym, ◌∙◌, ap}
use Rattle.std.specs.Prelude.{slice_get}
use Rattle.std.proofs.lemmas.Bool.Decides.{nat_tests}
use Rattle.std.proofs.lemmas.Bool.{cond_both, cases_eq}
use Rattle.fx_base.specs.Sets.{those_below}
use Rattle.fx_ballot.specs.Names.{seat_of, has, Distinct}
use Rattle.fx_ballot.specs.World.{put}
use Rattle.fx_comm.proofs.Lists.{is_in, IsApart, those_apart}
use Rattle.fx_link.specs.declared.slot.Slot.{Slot}
use Rattle.fx_machine.specs.Ballots.{voters}
use Rattle.fx_machine.specs.Reading.{is_join}
use Rattle.fx_machine.specs.Setup.{Setup}
use Rattle.fx_losses.specs.Eras.{Era, first_era, is_last, next_of, next_era, era}
use Rattle.fx_losses.proofs.Tests.{or_right}
use Rattle.fx_calm.proofs.Lists.{equal, unequal}

has_first : (q p : ℕ) (rest : Bool) → ((q == p) || rest) ≡ true → q ≢ p → rest ≡ true
has_first q p rest e ne = grind (arith, nat_tests)

-- ---- voters

or_front : (t : Bool) (a b c : Bool) → (b ≡ true → c ≡ true) → (a || b) ≡ true → (a || c) ≡ true
or_front t true b c f e = refl
or_front t false b c f e = f e

module _ (is_vote : Slot → Bool) where
  pub voters_among : (who : List ℕ) (ss : List Slot) (p : ℕ) → has (voters is_vote who ss) p ≡ true → has who p ≡ true
  voters_among [] ss p e = e
  voters_among (q ∷ qs) [] p e = absurd (let bad : false ≡ true = e in cc)
  voters_among (q ∷ qs) (s ∷ ss) p e = both (λ h. voters_among qs ss p h) (is_vote s) e
    where
      both : (has (voters is_vote qs ss) p ≡ true → has qs p ≡ true) → (t : Bool) → has (cond t (q ∷ voters is_vote qs ss) (voters is_vote qs ss)) p ≡ true → ((q == p) || has qs p) ≡ true
      both f true e = or_front true (q == p) (has (voters is_vote qs ss) p) (has qs p) f e
      both f false e = or_right (q == p) (has qs p) (f e)

  not_among : (who : List ℕ) (ss : List Slot) (p : ℕ) → has who p ≡ false → has (voters is_vote who ss) p ≡ false
  not_among who ss p e = both (has (voters is_vote who ss) p) refl
    where
      both : (t : Bool) → has (voters is_vote who ss) p ≡ t → has (voters is_vote who ss) p ≡ false
      both true h = absurd (let bad : false ≡ true = sym e ∙ voters_among who ss p h in cc)
      both false h = h

  pub voters_distinct : (who : List ℕ) (ss : List Slot) → Distinct who → Distinct (voters is_vote who ss)
  voters_distinct [] ss h = tt
  voters_distinct (q ∷ qs) [] h = tt
  voters_distinct (q ∷ qs) (s ∷ ss) h =
      cond_both {A = List ℕ} (is_vote s) (q ∷ voters is_vote qs ss) (voters is_vote qs ss) Distinct
      (λ t. (not_among qs ss q h.0, voters_distinct qs ss h.1)) (λ t. voters_distinct qs ss h.1)

  got_nil : (k : ℕ) (s : Slot) (xs : List Slot) → xs ≡ [] → slice_get xs k ≡ Some s → ⊥
  got_nil zero s [] e h = let bad : None ≡ Some s = h in cc
  got_nil (suc k) s [] e h = let bad : None ≡ Some s = h in cc
  got_nil k s (x ∷ xs) e h = cc

  -- whose slot is a vote is a voter, and the other way round
  pub voter_by : (who : List ℕ) (ss : List Slot) (p : ℕ) (s : Slot) → has who p ≡ true → slice_get ss (seat_of who p) ≡ Some s → is_vote s ≡ true → has (voters is_vote who ss) p ≡ true
  voter_by [] ss p s e g v = e
  voter_by (q ∷ qs) [] p s e g v = absurd (got_nil (seat_of (q ∷ qs) p) s [] refl g)
  voter_by (q ∷ qs) (x ∷ xs) p s e g v = both (λ a h. voter_by qs xs p s (has_first q p (has qs p) e (unequal q p a)) h v) (q == p) refl (is_vote x) refl g
    where
      both : ((q == p) ≡ false → slice_get xs (seat_of qs p) ≡ Some s → has (voters is_vote qs xs) p ≡ true) → (t : Bool) → (q == p) ≡ t → (u : Bool) → is_vote x ≡ u
          → slice_get (x ∷ xs) (cond t 0 (suc (seat_of qs p))) ≡ Some s → has (cond u (q ∷ voters is_vote qs xs) (voters is_vote qs xs)) p ≡ true
      both f true a true b h = ap (λ z. z || has (voters is_vote qs xs) p) a
      both f true a false b h = absurd (let same : Some x ≡ Some s = h in let eq : x ≡ s = cc in let bad : false ≡ true = sym b ∙ ap is_vote eq ∙ v in cc)
      both f false a true b h = or_right (q == p) (has (voters is_vote qs xs) p) (f a h)
      both f false a false b h = f a h

  pub voter_slot : (who : List ℕ) (ss : List Slot) (p : ℕ) → Distinct who → has (voters is_vote who ss) p ≡ true
      → (s : Slot) × (slice_get ss (seat_of who p) ≡ Some s) × (is_vote s ≡ true)
  voter_slot [] ss p d e = absurd (let bad : false ≡ true = e in cc)
  voter_slot (q ∷ qs) [] p d e = absurd (let bad : false ≡ true = e in cc)
  voter_slot (q ∷ qs) (x ∷ xs) p d e = both (λ h. voter_slot qs xs p d.1 h) (q == p) refl (is_vote x) refl e
    where
      drop : (a b : Bool) → a ≡ false → (a || b) ≡ true → b ≡ true
      drop a b f g = grind (arith, nat_tests)

      both : (has (voters is_vote qs xs) p ≡ true → (s : Slot) × (slice_get xs (seat_of qs p) ≡ Some s) × (is_vote s ≡ true))
          → (t : Bool) → (q == p) ≡ t → (u : Bool) → is_vote x ≡ u → has (cond u (q ∷ voters is_vote qs xs) (voters is_vote qs xs)) p ≡ true
          → (s : Slot) × (slice_get (x ∷ xs) (cond t 0 (suc (seat_of qs p))) ≡ Some s) × (is_vote s ≡ true)
      both f true a true b h = (x, refl, b)
      both f true a false b h = absurd (let bad : false ≡ true = sym d.0 ∙ ap (has qs) (equal q p a) ∙ voters_among qs xs p h in cc)
      both f false a true b h = f (drop (q == p) (has (voters is_vote qs xs) p) a h)
      both f false a false b h = f h

-- the slot of one that has a seat
pub slot_at : (who : List ℕ) (ss : List Slot) (p : ℕ) → has who p ≡ true → length ss ≡ length who → (s : Slot) × (slice_get ss (seat_of who p) ≡ Some s)
slot_at [] ss p e l = absurd (let bad : false ≡ true = e in cc)
slot_at (q ∷ qs) [] p e l = absurd (let bad : 0 ≡ suc (length qs) = l in omega (arith, bad))
slot_at (q ∷ qs) (s ∷ ss) p e l =
    cond_both {A = ℕ} (q == p) 0 (suc (seat_of qs p)) (λ k. (x : Slot) × (slice_get (s ∷ ss) k ≡ Some x))
    (λ t. (s, refl))
    (λ t. slot_at qs ss p (has_first q p (has qs p) e (unequal q p t)) (let m : suc (length ss) ≡ suc (length qs) = l in omega (arith, m)))

-- ---- all processes

is_in_has : (m : ℕ) (xs : List ℕ) → is_in m xs ≡ has xs m
is_in_has m [] = refl
is_in_has m (x ∷ xs) = ap (λ b. (x == m) || b) (is_in_has m xs)

distinct_from : (xs : List ℕ) → IsApart xs → Distinct xs
distinct_from [] h = tt
distinct_from (x ∷ xs) h = (sym (is_in_has x xs) ∙ h.0, distinct_from xs h.1)

-- ---- how epochs follow from decisions

pub next_none : (d : ℕ) (o : Option Era) → next_era d o None ≡ None
next_none d None = refl
next_none d (Some x) = refl

-- the epoch in front, and its decision
pub record Born (d : ℕ) (o : Option Era) (f : Option (List Slot)) (y : Era) : Type 0 where
  pub before : Era
  pub slots : List Slot
  pub at : o ≡ Some before
  pub fated : f ≡ Some slots
  pub goes : is_last d before slots ≡ false
  pub next : next_of d before slots ≡ y

pub born : (d : ℕ) (o : Option Era) (f : Option (List Slot)) (y : Era) → next_era d o f ≡ Some y → Born d o f y
born d None f y e = absurd (let bad : None ≡ Some y = e in cc)
born d (Some x) None y e = absurd (let bad : None ≡ Some y = e in cc)
born d (Some x) (Some g) y e = both (is_last d x g) refl e
  where
    both : (t : Bool) → is_last d x g ≡ t → cond {A = Option Era} t None (Some (next_of d x g)) ≡ Some y → Born d (Some x) (Some g) y
    both true t e = absurd (let bad : None ≡ Some y = e in cc)
    both false t e = record { before = x; slots = g; at = refl; fated = refl; goes = t; next = cc }

pub era_grows : (first : Era) (f g : ℕ → Option (List Slot)) → ((d : ℕ) (x : List Slot) → f d ≡ Some x → g d ≡ Some x)
    → (e : ℕ) (x : Era) → era first f e ≡ Some x → era first g e ≡ Some x
era_grows first f g h zero x i = i
era_grows first f g h (suc d) x i =
    let n = born d (era first f d) (f d) x i in
    ap (λ (o : Option Era). next_era d o (g d)) (era_grows first f g h d n.before n.at) ∙ ap (λ (o : Option (List Slot)). next_era d (Some n.before) o) (h d n.slots n.fated)
    ∙ ap (λ (o : Option (List Slot)). next_era d (Some n.before) o) (sym n.fated) ∙ ap (λ (o : Option Era). next_era d o (f d)) (sym n.at) ∙ i

pub era_before : (first : Era) (fate : ℕ → Option (List Slot)) (d : ℕ) (o : Option (List Slot)) (e : ℕ) → e ≤ d → era first (put fate d o) e ≡ era first fate e
era_before first fate d o zero l = refl
era_before first fate d o (suc e) l =
    ap (λ (x : Option Era). next_era e x (put fate d o e)) (era_before first fate d o e (omega (arith, l)))
    ∙ ap (λ (f : Option (List Slot)). next_era e (era first fate e) f) (far fate d o e (omega (arith, l)))
  where
    far : (fate : ℕ → Option (List Slot)) (d : ℕ) (o : Option (List Slot)) (e : ℕ) → e < d → put fate d o e ≡ fate e
    far fate d o e l = grind (arith, nat_tests)

-- once there is no epoch there is none after
pub era_dead : (first : Era) (fate : ℕ → Option (List Slot)) (d e : ℕ) → d ≤ e → era first fate d ≡ None → era first fate e ≡ None
era_dead first fate d zero l i = let z : d ≡ 0 = omega (arith, l) in subst (λ k. era first fate k ≡ None) z i
era_dead first fate d (suc e) l i = elim (cases_eq d (suc e)) [
  | inl s ↦ subst (λ k. era first fate k ≡ None) s i
  | inr ne ↦ ap (λ (o : Option Era). next_era e o (fate e)) (era_dead first fate d e (omega (arith, l, ne)) i)
]

-- nobody is a member twice
pub era_distinct : (s : Setup) (fate : ℕ → Option (List Slot)) (d : ℕ) (x : Era) → era (first_era s) fate d ≡ Some x → Distinct x.who
era_distinct s fate zero x e =
    subst (λ (y : Era). Distinct y.who) (let same : Some (first_era s) ≡ Some x = e in let eq : first_era s ≡ x = cc in eq)
    (distinct_from (those_below (λ q. true) s.procs) (those_apart (λ q. true) s.procs))
era_distinct s fate (suc d) x e =
    let n = born d (era (first_era s) fate d) (fate d) x e in
    subst (λ (y : Era). Distinct y.who) n.next (voters_distinct (is_join (suc d)) n.before.who n.slots (era_distinct s fate d n.before n.at))
