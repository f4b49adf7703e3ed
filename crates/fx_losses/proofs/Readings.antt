-- What a node reads of its ballot is all that it was sent: nothing that was said fails a test of its reading.
use Rattle.std.proofs.Common.{◌≡◌, ℕ, ◌<◌, ◌==◌, suc, zero, Bool, true, false, ◌||◌, ◌&&◌, List, [], ◌∷◌, length, Option, Some, None, inl, inr, arith, refl, subst, sym, ◌∙◌, ap}
use Rattle.std.specs.Prelude.{not, slice_get, is_some}
use Rattle.std.specs.List.{list_all}
use Rattle.std.specs.Option.{option_or}
use Rattle.std.proofs.lemmas.Bool.Decides.{nat_tests}
use Rattle.fx_ballot.specs.declared.heard.Heard.{Heard}
use Rattle.fx_ballot.specs.Laws.{vote_of, estimate_of, IsTrueSlot, TrueSlots}
use Rattle.fx_ballot.specs.Names.{seat_at, seat_of, has}
use Rattle.fx_ballot.specs.Turn.{Phase, Vote, Estimate, earliest, hear, turn}
use Rattle.fx_ballot.specs.World as ballot
use Rattle.fx_ballot.proofs.Face.{sound_reaches}
use Rattle.fx_ballot.proofs.Names.{seat_found}
use Rattle.fx_link.specs.declared.slot.Slot.{Slot}
use Rattle.fx_link.specs.declared.slot.Slot.TheVariants as slot
use Rattle.fx_machine.specs.Nodes.{Node, has_ended}
use Rattle.fx_machine.specs.Reading as reading
use Rattle.fx_machine.specs.Reading.{given_that, only, first_read, OfEpoch, vote_in, estimate_in, is_join, next_ballot, is_lost, is_left, same_slot, are_same, may_stand, fits, seen, turn_in, has_left}
use Rattle.fx_machine.specs.Setup.{Setup}
use Rattle.fx_machine.specs.Texts as text
use Rattle.fx_machine.specs.Texts.{Text}
use Rattle.fx_fleet.specs.World.{World, up}
use Rattle.fx_calm.proofs.Lists.{Each, equal}
use Rattle.fx_losses.specs.Eras.{Era, era_of}
use Rattle.fx_losses.proofs.Actions.{kept_here}
use Rattle.fx_losses.proofs.Moves.{some_era}
use Rattle.fx_losses.proofs.Shows.{Shows, Spoke, IsTrue, Truthful, up_parts}
use Rattle.fx_losses.proofs.Texts.{with_front, of_epoch, heard_of, knowing, shown}
use Rattle.fx_losses.proofs.Turns.{shown_turn}
use Rattle.fx_losses.proofs.Votes.{Slotted, alive_slot}
use Rattle.fx_losses.proofs.Tests.{or_left, or_right}

-- ---- what is heard, read text by text

abbrev estimate_at : ℕ → Text → Option (List Slot)
estimate_at e (text.Jest d r slots) = given_that (d == e) slots
estimate_at e other = None

vote_heard : (e : ℕ) (ts : List Text) (h : Heard) → (heard_of (of_epoch e ts) h).vote ≡ option_or h.vote (first_read (vote_in (OfEpoch e)) ts)
vote_heard e [] h = nothing h.vote
  where
    nothing : (o : Option Slot) → o ≡ option_or o None
    nothing None = refl
    nothing (Some x) = refl
vote_heard e (text.Join d x ∷ ts) h = of (λ g. vote_heard e ts g) (d == e)
  where
    first : (o : Option Slot) → option_or (earliest o x) (first_read (vote_in (OfEpoch e)) ts) ≡ option_or o (option_or (Some x) (first_read (vote_in (OfEpoch e)) ts))
    first None = refl
    first (Some y) = refl

    of : ((g : Heard) → (heard_of (of_epoch e ts) g).vote ≡ option_or g.vote (first_read (vote_in (OfEpoch e)) ts)) → (b : Bool) → (heard_of (with_front (given_that b (Vote x)) (of_epoch e ts)) h).vote ≡ option_or h.vote (option_or (given_that b x) (first_read (vote_in (OfEpoch e)) ts))
    of later true = later (hear (Vote x) h) ∙ first h.vote
    of later false = later h
vote_heard e (text.Jest d r slots ∷ ts) h = of (λ g. vote_heard e ts g) (d == e)
  where
    of : ((g : Heard) → (heard_of (of_epoch e ts) g).vote ≡ option_or g.vote (first_read (vote_in (OfEpoch e)) ts)) → (b : Bool) → (heard_of (with_front (given_that b (Estimate r slots)) (of_epoch e ts)) h).vote ≡ option_or h.vote (first_read (vote_in (OfEpoch e)) ts)
    of later true = later (hear (Estimate r slots) h)
    of later false = later h
vote_heard e (text.Part d k values ∷ ts) h = vote_heard e ts h
vote_heard e (text.Vote d k x ∷ ts) h = vote_heard e ts h
vote_heard e (text.Est d k r slots ∷ ts) h = vote_heard e ts h
vote_heard e (text.Share d k packed ∷ ts) h = vote_heard e ts h
vote_heard e (text.Tell d k known ∷ ts) h = vote_heard e ts h
vote_heard e (text.Help d k packed ∷ ts) h = vote_heard e ts h
vote_heard e (text.Give d k packed ∷ ts) h = vote_heard e ts h

estimate_heard : (e : ℕ) (ts : List Text) (h : Heard) → (heard_of (of_epoch e ts) h).estimate ≡ option_or h.estimate (first_read (estimate_at e) ts)
estimate_heard e [] h = nothing h.estimate
  where
    nothing : (o : Option (List Slot)) → o ≡ option_or o None
    nothing None = refl
    nothing (Some x) = refl
estimate_heard e (text.Jest d r slots ∷ ts) h = of (λ g. estimate_heard e ts g) (d == e)
  where
    first : (o : Option (List Slot)) → option_or (earliest o slots) (first_read (estimate_at e) ts) ≡ option_or o (option_or (Some slots) (first_read (estimate_at e) ts))
    first None = refl
    first (Some y) = refl

    of : ((g : Heard) → (heard_of (of_epoch e ts) g).estimate ≡ option_or g.estimate (first_read (estimate_at e) ts)) → (b : Bool) → (heard_of (with_front (given_that b (Estimate r slots)) (of_epoch e ts)) h).estimate ≡ option_or h.estimate (option_or (given_that b slots) (first_read (estimate_at e) ts))
    of later true = later (hear (Estimate r slots) h) ∙ first h.estimate
    of later false = later h
estimate_heard e (text.Join d x ∷ ts) h = of (λ g. estimate_heard e ts g) (d == e)
  where
    of : ((g : Heard) → (heard_of (of_epoch e ts) g).estimate ≡ option_or g.estimate (first_read (estimate_at e) ts)) → (b : Bool) → (heard_of (with_front (given_that b (Vote x)) (of_epoch e ts)) h).estimate ≡ option_or h.estimate (first_read (estimate_at e) ts)
    of later true = later (hear (Vote x) h)
    of later false = later h
estimate_heard e (text.Part d k values ∷ ts) h = estimate_heard e ts h
estimate_heard e (text.Vote d k x ∷ ts) h = estimate_heard e ts h
estimate_heard e (text.Est d k r slots ∷ ts) h = estimate_heard e ts h
estimate_heard e (text.Share d k packed ∷ ts) h = estimate_heard e ts h
estimate_heard e (text.Tell d k known ∷ ts) h = estimate_heard e ts h
estimate_heard e (text.Help d k packed ∷ ts) h = estimate_heard e ts h
estimate_heard e (text.Give d k packed ∷ ts) h = estimate_heard e ts h

-- no text of a ballot at the begin of an epoch tells of losses or leavings
pub lost_heard : (e : ℕ) (ts : List Text) (h : Heard) → ((heard_of (of_epoch e ts) h).lost ≡ h.lost) × ((heard_of (of_epoch e ts) h).left ≡ h.left)
lost_heard e [] h = (refl, refl)
lost_heard e (text.Join d x ∷ ts) h = of (λ g. lost_heard e ts g) (d == e)
  where
    of : ((g : Heard) → ((heard_of (of_epoch e ts) g).lost ≡ g.lost) × ((heard_of (of_epoch e ts) g).left ≡ g.left)) → (b : Bool) → ((heard_of (with_front (given_that b (Vote x)) (of_epoch e ts)) h).lost ≡ h.lost) × ((heard_of (with_front (given_that b (Vote x)) (of_epoch e ts)) h).left ≡ h.left)
    of later true = later (hear (Vote x) h)
    of later false = later h
lost_heard e (text.Jest d r slots ∷ ts) h = of (λ g. lost_heard e ts g) (d == e)
  where
    of : ((g : Heard) → ((heard_of (of_epoch e ts) g).lost ≡ g.lost) × ((heard_of (of_epoch e ts) g).left ≡ g.left)) → (b : Bool) → ((heard_of (with_front (given_that b (Estimate r slots)) (of_epoch e ts)) h).lost ≡ h.lost) × ((heard_of (with_front (given_that b (Estimate r slots)) (of_epoch e ts)) h).left ≡ h.left)
    of later true = later (hear (Estimate r slots) h)
    of later false = later h
lost_heard e (text.Part d k values ∷ ts) h = lost_heard e ts h
lost_heard e (text.Vote d k x ∷ ts) h = lost_heard e ts h
lost_heard e (text.Est d k r slots ∷ ts) h = lost_heard e ts h
lost_heard e (text.Share d k packed ∷ ts) h = lost_heard e ts h
lost_heard e (text.Tell d k known ∷ ts) h = lost_heard e ts h
lost_heard e (text.Help d k packed ∷ ts) h = lost_heard e ts h
lost_heard e (text.Give d k packed ∷ ts) h = lost_heard e ts h

-- ---- tests

same_join : (e : ℕ) (x : Slot) → is_join e x ≡ true → same_slot x x ≡ true
same_join e slot.Start i = refl
same_join e slot.Spare i = refl
same_join e slot.Error i = refl
same_join e slot.Final i = refl
same_join e slot.Yes i = refl
same_join e (slot.Flag a) i = absurd (let bad : false ≡ true = i in cc)
same_join e slot.Fresh i = refl
same_join e slot.Kept i = refl
same_join e slot.Gone i = refl
same_join e (slot.NoLost a) i = absurd (let bad : false ≡ true = i in cc)
same_join e (slot.NoLeft a) i = absurd (let bad : false ≡ true = i in cc)
same_join e slot.Lost i = refl
same_join e slot.Left i = refl

all_of : (test : Slot → Bool) (slots : List Slot) → ((k : ℕ) (x : Slot) → slice_get slots k ≡ Some x → test x ≡ true) → list_all test slots ≡ true
all_of test [] h = refl
all_of test (x ∷ xs) h = both (test x) (list_all test xs) (h 0 x refl) (all_of test xs (λ k y e. h (suc k) y e))
  where
    both : (a b : Bool) → a ≡ true → b ≡ true → (a && b) ≡ true
    both a b x y = grind (arith, nat_tests)

all_three : (a b c : Bool) → a ≡ true → b ≡ true → c ≡ true → (a && (b && c)) ≡ true
all_three a b c x y z = grind (arith, nat_tests)

same_number : (a b : ℕ) → a ≡ b → (a == b) ≡ true
same_number a b e = grind (arith, nat_tests)

some_passes : {X : Type 0} (b : Bool) (test : X → Bool) (x : X) → (b ≡ true → test x ≡ true) → only test (given_that b x) ≡ given_that b x
some_passes true test x h = ap (λ o. given_that o x) (h refl)
some_passes false test x h = refl

module _ (s : Setup) (w : World) (z : ℕ → ballot.World) (fate : ℕ → Option (List Slot)) (p : ℕ) (here : up s w p ≡ true) (h : Shows s w z fate) (t : Truthful s w z fate) where
  abbrev n : Node
  n = w.node p

  abbrev d : ℕ
  d = n.epoch

  abbrev small : ballot.World
  small = z d

  k : (p < s.procs) × (w.killed p ≡ false) × (has_ended n ≡ false)
  k = up_parts s w p here

  -- ---- votes

  vote_passes : (c : ℕ) (x : Text) → IsTrue s z fate c x → only (λ v. (c == n.me) || is_join (suc d) v) (vote_in (OfEpoch (suc d)) x) ≡ vote_in (OfEpoch (suc d)) x
  vote_passes c (text.Join zero kind) is = absurd is
  vote_passes c (text.Join (suc e) kind) is = some_passes (suc e == suc d) (λ v. (c == n.me) || is_join (suc d) v) kind
      (λ same. or_right (c == n.me) (is_join (suc d) kind) (let eq : suc e ≡ suc d = equal (suc e) (suc d) same in (h.owes d).votes c kind (subst (λ o. vote_of (z o) c ≡ Some kind) (omega (arith, eq)) is)))
  vote_passes c (text.Jest e r slots) is = refl
  vote_passes c (text.Part e j values) is = refl
  vote_passes c (text.Vote e j x) is = refl
  vote_passes c (text.Est e j r slots) is = refl
  vote_passes c (text.Share e j packed) is = refl
  vote_passes c (text.Tell e j known) is = refl
  vote_passes c (text.Help e j packed) is = refl
  vote_passes c (text.Give e j packed) is = refl

  votes_pass : (c : ℕ) (xs : List Text) → Each (IsTrue s z fate c) xs → first_read (λ x. only (λ v. (c == n.me) || is_join (suc d) v) (vote_in (OfEpoch (suc d)) x)) xs ≡ first_read (vote_in (OfEpoch (suc d))) xs
  votes_pass c [] is = refl
  votes_pass c (x ∷ xs) is =
      ap (λ (o : Option Slot). option_or o (first_read (λ x. only (λ v. (c == n.me) || is_join (suc d) v) (vote_in (OfEpoch (suc d)) x)) xs)) (vote_passes c x is.0)
      ∙ ap (λ (o : Option Slot). option_or (vote_in (OfEpoch (suc d)) x) o) (votes_pass c xs is.1)

  -- the vote that it reads of a process is the one that was heard of it
  pub vote_read : (c : ℕ) → reading.vote_of (next_ballot (w.node p)) (w.node p) c ≡ (shown (suc (w.node p).epoch) (w.node p) c).vote
  vote_read c = votes_pass c (n.texts c) (t.texts p c) ∙ sym (vote_heard (suc d) (n.texts c) (knowing (n.lost c)))

  pub vote_shown : (c : ℕ) → reading.vote_of (next_ballot (w.node p)) (w.node p) c ≡ (((z (w.node p).epoch).member p).heard c).vote
  vote_shown c = vote_read c ∙ ap (λ (y : Heard). y.vote) (sym ((h.at d).heard p c here))

  -- and so that process cast it
  pub vote_cast : (c : ℕ) (v : Slot) → reading.vote_of (next_ballot (w.node p)) (w.node p) c ≡ Some v → vote_of (z (w.node p).epoch) c ≡ Some v
  vote_cast c v e = (kept_here s w z fate p here h).sound.messages.knows.votes p c v (sym (vote_shown c) ∙ e)

  -- ---- estimates

  own_read : (slots : List Slot) (a : Slotted n.present slots small p) → are_same (slice_get slots (seat_of n.present n.me)) (reading.vote_of (next_ballot n) n n.me) ≡ true
  own_read slots a =
      ap (λ (o : ℕ). are_same (slice_get slots (seat_of n.present o)) (reading.vote_of (next_ballot n) n o)) (h.sane p k.1).me
      ∙ ap (λ (o : Option Slot). are_same o (reading.vote_of (next_ballot n) n p)) a.at ∙ ap (λ (o : Option Slot). are_same (Some a.slot) o) (vote_shown p ∙ a.vote)
      ∙ same_join (suc d) a.slot ((h.owes d).votes p a.slot a.vote)

  stands_there : (x : Slot) (q : ℕ) → IsTrueSlot small q x → may_stand (next_ballot n) x ≡ true
  stands_there x q (inl v) = or_left (is_join (suc d) x) _ ((h.owes d).votes q x v)
  stands_there x q (inr (inl v)) = or_right (is_join (suc d) x) _ (or_left (is_lost x) _ (ap is_lost v.0))
  stands_there x q (inr (inr v)) = absurd (let bad : false ≡ true = sym ((h.at d).gone q) ∙ v.1 in cc)

  spoken_true : (c : ℕ) (slots : List Slot) → has n.present c ≡ true → estimate_of small c ≡ Some slots → TrueSlots (length n.present) (seat_at n.present) small slots
  spoken_true c slots in_it said =
      let seat = seat_found n.present c in_it in
      sound_reaches (length n.present) (seat_at n.present) small (kept_here s w z fate p here h).sound c (seat_of n.present c) slots seat.0 (inl (ap (λ (o : ℕ). ((small.member c).heard o).estimate) seat.1 ∙ said))

  fits_it : (c : ℕ) (slots : List Slot) → has n.present c ≡ true → estimate_of small c ≡ Some slots → fits (next_ballot n) n slots ≡ true
  fits_it c slots in_it said =
      let true_ones = spoken_true c slots in_it said in
      let own = alive_slot n.present slots small p true_ones ((h.sane p k.1).mine k.0) ((h.at d).living p ∙ ap not k.1) ((h.at d).gone p) in
      all_three (length slots == length n.present) (list_all (may_stand (next_ballot n)) slots) (are_same (slice_get slots (seat_of n.present n.me)) (reading.vote_of (next_ballot n) n n.me))
      (same_number (length slots) (length n.present) true_ones.size)
      (all_of (may_stand (next_ballot n)) slots (λ i x e. stands_there x (seat_at n.present i) (true_ones.each i x e))) (own_read slots own)

  abbrev reader : ℕ → Text → Option (List Slot)
  reader c x = only (λ slots. (c == n.me) || fits (next_ballot n) n slots) (estimate_in (OfEpoch (suc d)) (seat_of n.present c) x)

  estimate_passes : (c : ℕ) (x : Text) → IsTrue s z fate c x → reader c x ≡ estimate_at (suc d) x
  estimate_passes c (text.Jest zero r slots) is = absurd is
  estimate_passes c (text.Jest (suc e) r slots) is = of (suc e == suc d) refl
    where
      of : (b : Bool) → (suc e == suc d) ≡ b → only (λ slots. (c == n.me) || fits (next_ballot n) n slots) (given_that (b && (r == seat_of n.present c)) slots) ≡ given_that b slots
      of false same = refl
      of true same =
          let eq : suc e ≡ suc d = equal (suc e) (suc d) same in
          let spoke : Spoke s z fate c r slots d = subst (Spoke s z fate c r slots) (omega (arith, eq)) is in
          let x : spoke.era_then ≡ era_of n = some_era spoke.era_then (era_of n) (sym spoke.at ∙ h.here p k.1) in
          let round : (r == seat_of n.present c) ≡ true = same_number r (seat_of n.present c) (spoke.round ∙ ap (λ (o : Era). seat_of o.who c) x) in
          let in_it : has n.present c ≡ true = ap (λ (o : Era). has o.who c) (sym x) ∙ spoke.seated in
          ap (λ (o : Bool). only (λ slots. (c == n.me) || fits (next_ballot n) n slots) (given_that o slots)) round
          ∙ some_passes true (λ slots. (c == n.me) || fits (next_ballot n) n slots) slots (λ u. or_right (c == n.me) (fits (next_ballot n) n slots) (fits_it c slots in_it spoke.said))
  estimate_passes c (text.Join e kind) is = refl
  estimate_passes c (text.Part e j values) is = refl
  estimate_passes c (text.Vote e j x) is = refl
  estimate_passes c (text.Est e j r slots) is = refl
  estimate_passes c (text.Share e j packed) is = refl
  estimate_passes c (text.Tell e j known) is = refl
  estimate_passes c (text.Help e j packed) is = refl
  estimate_passes c (text.Give e j packed) is = refl

  estimates_pass : (c : ℕ) (xs : List Text) → Each (IsTrue s z fate c) xs → first_read (reader c) xs ≡ first_read (estimate_at (suc d)) xs
  estimates_pass c [] is = refl
  estimates_pass c (x ∷ xs) is =
      ap (λ (o : Option (List Slot)). option_or o (first_read (reader c) xs)) (estimate_passes c x is.0)
      ∙ ap (λ (o : Option (List Slot)). option_or (estimate_at (suc d) x) o) (estimates_pass c xs is.1)

  estimate_read : (c : ℕ) → reading.estimate_of (next_ballot n) n c ≡ (shown (suc d) n c).estimate
  estimate_read c = estimates_pass c (n.texts c) (t.texts p c) ∙ sym (estimate_heard (suc d) (n.texts c) (knowing (n.lost c)))

  -- ---- the turn

  seen_shown : (c : ℕ) → seen (next_ballot n) n c ≡ shown (suc d) n c
  seen_shown c =
      let rest = lost_heard (suc d) (n.texts c) (knowing (n.lost c)) in
      λ i. record { vote = vote_read c i; estimate = estimate_read c i; lost = sym rest.0 i; left = sym rest.1 i }

  -- the turn that a node takes in its ballot is the one by all that it was sent
  pub turn_shown : (phase : Phase) → turn_in (next_ballot (w.node p)) (w.node p) phase ≡ shown_turn (w.node p) p phase
  turn_shown phase =
      ap (λ (o : ℕ). turn (length n.present) (seat_of n.present o) (λ j. seen (next_ballot n) n (seat_at n.present j)) phase) (h.sane p k.1).me
      ∙ ap (λ (f : ℕ → Heard). turn (length n.present) (seat_of n.present p) f phase) (λ i j. seen_shown (seat_at n.present j) i)

  -- and a spare that is stirred has heard a join, or was told of a loss
  pub left_joined : (c : ℕ) → has_left (w.node p) c ≡ true → (has (w.node p).present c ≡ true) × (is_some (vote_of (z (w.node p).epoch) c) ≡ true)
  left_joined c e = parts (has n.present c) (reading.vote_of (next_ballot n) n c) refl refl e
    where
      parts : (b : Bool) (o : Option Slot) → has n.present c ≡ b → reading.vote_of (next_ballot n) n c ≡ o → (b && is_some o) ≡ true → (has n.present c ≡ true) × (is_some (vote_of small c) ≡ true)
      parts true (Some v) x y e = (x, ap is_some (vote_cast c v y))
      parts true None x y e = absurd (let bad : false ≡ true = e in cc)
      parts false o x y e = absurd (let bad : false ≡ true = e in cc)
