-- What a member keeps by seat, read by process, does what the ballot world says.
use Rattle.std.proofs.Common.{◌≡◌, ℕ, ◌<◌, ◌≤◌, ◌≢◌, ◌==◌, zero, suc, length, set, replicate, Bool, true, false, cond, ◌&&◌, ◌||◌, List, Option, Some, None, inl, inr, arith, refl, subst, sym, ◌∙◌, ap, get_or-set_other}
use Rattle.std.specs.Prelude.{nat_lt, ◌↔◌}
use Rattle.std.proofs.lemmas.Bool.Decides.{nat_tests}
use Rattle.std.proofs.lemmas.List.{length-replicate}
use Rattle.std.proofs.lemmas.Bool.{cases_eq}
use Rattle.std.proofs.lemmas.Grind.{get_or-set_at}
use Rattle.fx_link.specs.declared.slot.Slot.{Slot}
use Rattle.fx_ballot.specs.declared.heard.Heard.{Heard}
use Rattle.fx_ballot.specs.declared.poll.Poll.{Poll}
use Rattle.fx_ballot.specs.declared.poll.Poll.TheVariants as poll
use Rattle.fx_ballot.specs.Turn.{Phase, Outside, Voting, Round, Decided, Message, hear, learn_loss, unheard, slot_of, slots_of, with_slot, Turn, turn, form, speak, follow, decide}
use Rattle.fx_ballot.specs.World.{Member, put, after, told, entered, fresh, own_after, turn_of, acted, Apart}
use Rattle.fx_ballot.specs.Seats.{Seated, at_seat, with_seat, seated, hears_seat, told_seat, seat_turn, noting, polled, known_of, as_member, NoVote, NoEstimate, Awaits, InWorld}

-- a list written at k, read at m
at_set : (heard : List Heard) (k m : ℕ) (h : Heard) → k < length heard → at_seat (set heard k h) m ≡ cond (m == k) h (at_seat heard m)
at_set heard k m h l = grind (arith, nat_tests, get_or-set_at heard k m h unheard, get_or-set_other heard k m h unheard)

step : (p nm nk m k : ℕ) (written old h rest' rest : Heard) → written ≡ cond (m == k) h old → (nm ≡ nk → m ≡ k) → (m ≡ k → nm ≡ nk)
    → rest' ≡ cond ((p == nk) && nat_lt k m) h rest
    → cond (p == nm) written rest' ≡ cond ((p == nk) && nat_lt k (suc m)) h (cond (p == nm) old rest)
step p nm nk m k written old h rest' rest w a b r = grind (arith, nat_tests)

known_set_below : (n m : ℕ) (name : ℕ → ℕ) (heard : List Heard) (k : ℕ) (h : Heard) (p : ℕ) → Apart n name → m ≤ n → k < n → k < length heard
    → known_of m name (set heard k h) p ≡ cond ((p == name k) && nat_lt k m) h (known_of m name heard p)
known_set_below n zero name heard k h p apart all low inside = empty (p == name k) k h
  where
    empty : (b : Bool) (k : ℕ) (h : Heard) → unheard ≡ cond (b && nat_lt k 0) h unheard
    empty b k h = grind (arith, nat_tests)
known_set_below n (suc m) name heard k h p apart all low inside =
    step p (name m) (name k) m k (at_seat (set heard k h) m) (at_seat heard m) h (known_of m name (set heard k h) p) (known_of m name heard p)
    (at_set heard k m h inside) (apart m k (omega arith) low) (λ e. ap name e)
    (known_set_below n m name heard k h p apart (omega arith) low inside)

pub known_set : (n : ℕ) (name : ℕ → ℕ) (heard : List Heard) (k : ℕ) (h : Heard) (p : ℕ) → Apart n name → k < n → k < length heard
    → known_of n name (set heard k h) p ≡ put (known_of n name heard) (name k) h p
known_set n name heard k h p apart low inside =
    known_set_below n n name heard k h p apart (omega arith) low inside ∙ within (p == name k) k n h (known_of n name heard p) low
  where
    within : (b : Bool) (k n : ℕ) (h x : Heard) → k < n → cond (b && nat_lt k n) h x ≡ cond b h x
    within b k n h x l = grind (arith, nat_tests)

known_below : (n m : ℕ) (name : ℕ → ℕ) (heard : List Heard) (k : ℕ) → Apart n name → m ≤ n → k < m → known_of m name heard (name k) ≡ at_seat heard k
known_below n zero name heard k apart all low = absurd (omega arith)
known_below n (suc m) name heard k apart all low =
    elim (cases_eq k m) [
      | inl same ↦ this (name k) (name m) (at_seat heard m) (at_seat heard k) (known_of m name heard (name k)) (ap name same) (ap (at_seat heard) same)
      | inr ne ↦
          that (name k) (name m) (at_seat heard m) (at_seat heard k) (known_of m name heard (name k))
          (λ e. ne (apart k m (omega arith) (omega arith) e))
          (known_below n m name heard k apart (omega arith) (omega (arith, ne)))
    ]
  where
    this : (p q : ℕ) (a b rest : Heard) → p ≡ q → b ≡ a → cond (p == q) a rest ≡ b
    this p q a b rest e f = grind (arith, nat_tests)

    that : (p q : ℕ) (a b rest : Heard) → p ≢ q → rest ≡ b → cond (p == q) a rest ≡ b
    that p q a b rest e f = grind (arith, nat_tests)

-- what is known of the process at a seat is what is known of the seat
pub known_at : (n : ℕ) (name : ℕ → ℕ) (heard : List Heard) (k : ℕ) → Apart n name → k < n → known_of n name heard (name k) ≡ at_seat heard k
known_at n name heard k apart low = known_below n n name heard k apart (omega arith) low

pub same_member : (m t : Member) → m.phase ≡ t.phase → ((p : ℕ) → m.heard p ≡ t.heard p) → m.living ≡ t.living → m.gone ≡ t.gone → m ≡ t
same_member m t a b c d = λ i. record { phase = a i; heard = λ p. b p i; living = c i; gone = d i }

-- a change of what is known of one seat is that change of what is known of its process
changed : (name : ℕ → ℕ) (b : Seated) (phase : Phase) (k : ℕ) (h : Heard) → Apart b.members name → k < b.members → length b.heard ≡ b.members
    → as_member name (with_seat k h (record b { phase = phase }))
    ≡ record (as_member name b) { phase = phase; heard = put (known_of b.members name b.heard) (name k) h }
changed name b phase k h apart low whole =
    same_member (as_member name (with_seat k h (record b { phase = phase })))
    (record (as_member name b) { phase = phase; heard = put (known_of b.members name b.heard) (name k) h }) refl
    (λ p. known_set b.members name b.heard k h p apart low (subst (λ (m : ℕ). k < m) (sym whole) low)) refl refl

with_known : (name : ℕ → ℕ) (b : Seated) (phase : Phase) (k : ℕ) (f : Heard → Heard) → Apart b.members name → k < b.members → length b.heard ≡ b.members
    → as_member name (with_seat k (f (at_seat b.heard k)) (record b { phase = phase }))
    ≡ record (as_member name b) { phase = phase; heard = put (known_of b.members name b.heard) (name k) (f (known_of b.members name b.heard (name k))) }
with_known name b phase k f apart low whole =
    changed name b phase k (f (at_seat b.heard k)) apart low whole
    ∙ ap (λ (h : Heard). record (as_member name b) { phase = phase; heard = put (known_of b.members name b.heard) (name k) (f h) })
    (sym (known_at b.members name b.heard k apart low))

-- hearing and being told
pub hears_as_member : (name : ℕ → ℕ) (b : Seated) (k : ℕ) (x : Message) → Apart b.members name → k < b.members → length b.heard ≡ b.members
    → as_member name (hears_seat k x b) ≡ after (name k) x (as_member name b)
hears_as_member name b k x apart low whole = with_known name b b.phase k (hear x) apart low whole

pub told_as_member : (name : ℕ → ℕ) (b : Seated) (k : ℕ) → Apart b.members name → k < b.members → length b.heard ≡ b.members
    → as_member name (told_seat k b) ≡ told (name k) (as_member name b)
told_as_member name b k apart low whole = with_known name b b.phase k learn_loss apart low whole

-- a member that has just entered
none_known : (n m : ℕ) (name : ℕ → ℕ) (p : ℕ) → known_of m name (replicate n unheard) p ≡ unheard
none_known n zero name p = refl
none_known n (suc m) name p = both_same (p == name m) (at_seat (replicate n unheard) m) (known_of m name (replicate n unheard) p) (at_none n m) (none_known n m name p)
  where
    at_none : (n k : ℕ) → at_seat (replicate n unheard) k ≡ unheard
    at_none zero k = refl
    at_none (suc n) zero = refl
    at_none (suc n) (suc k) = at_none n k

    both_same : (b : Bool) (x y : Heard) → x ≡ unheard → y ≡ unheard → cond b x y ≡ unheard
    both_same true x y e f = e
    both_same false x y e f = f

pub seated_as_member : (name : ℕ → ℕ) (members me : ℕ) (vote : Slot) → Apart members name → me < members
    → as_member name (seated members me vote) ≡ entered (name me) vote fresh
seated_as_member name members me vote apart low =
    same_member (as_member name (seated members me vote)) (entered (name me) vote fresh) refl
    (λ p.
    known_set members name (replicate members unheard) me (record unheard { vote = Some vote }) p apart low
    (subst (λ (m : ℕ). me < m) (sym (length-replicate members unheard)) low)
    ∙ put_same (name me) p (record unheard { vote = Some vote }) (known_of members name (replicate members unheard)) (λ q. none_known members members name q))
    refl refl
  where
    put_same : (k p : ℕ) (h : Heard) (f : ℕ → Heard) → ((q : ℕ) → f q ≡ unheard) → put f k h p ≡ put (λ q. unheard) k h p
    put_same k p h f e = grind (arith, nat_tests, e p)

-- two members that know the same of each seat have the same turn
slots_same : (n : ℕ) (seen other : ℕ → Heard) → ((k : ℕ) → k < n → seen k ≡ other k) → slots_of seen n ≡ slots_of other n
slots_same zero seen other e = refl
slots_same (suc n) seen other e =
    ap (λ (o : Option (List Slot)). with_slot o (slot_of (seen n).vote (seen n).lost (seen n).left)) (slots_same n seen other (λ k l. e k (omega arith)))
    ∙ ap (λ (h : Heard). with_slot (slots_of other n) (slot_of h.vote h.lost h.left)) (e n (omega arith))

pub turn_same : (n i : ℕ) (seen other : ℕ → Heard) (phase : Phase) → ((k : ℕ) → k < n → seen k ≡ other k) → turn n i seen phase ≡ turn n i other phase
turn_same n i seen other Outside e = refl
turn_same n i seen other Voting e = ap form (slots_same n seen other e)
turn_same n i seen other (Round r held) e = at_round (nat_lt r n) refl
  where
    is_below : (r n : ℕ) → nat_lt r n ≡ true → r < n
    is_below r n t = grind (arith, nat_tests)

    follows : Heard → Turn
    follows h = follow r held h.estimate (h.lost || h.left)

    at_round : (t : Bool) → nat_lt r n ≡ t
        → cond t (cond (r == i) (speak r held) (follow r held (seen r).estimate ((seen r).lost || (seen r).left))) (decide held)
        ≡ cond t (cond (r == i) (speak r held) (follow r held (other r).estimate ((other r).lost || (other r).left))) (decide held)
    at_round true t =
        ap (λ (h : Heard). cond {A = Turn} (r == i) (speak r held) (follow r held h.estimate (h.lost || h.left))) (e r (is_below r n t))
    at_round false t = refl
turn_same n i seen other (Decided held) e = refl

-- a turn in which nothing is said changes the phase alone
quietly : (name : ℕ → ℕ) (b : Seated) (phase : Phase)
    → as_member name (record b { phase = phase })
    ≡ record (as_member name b) { phase = phase; heard = put (known_of b.members name b.heard) (name b.me) (known_of b.members name b.heard (name b.me)) }
quietly name b phase =
    same_member (as_member name (record b { phase = phase }))
    (record (as_member name b) { phase = phase; heard = put (known_of b.members name b.heard) (name b.me) (known_of b.members name b.heard (name b.me)) })
    refl (λ p. unchanged (known_of b.members name b.heard) (name b.me) p) refl refl
  where
    unchanged : (f : ℕ → Heard) (k p : ℕ) → f p ≡ put f k (f k) p
    unchanged f k p = grind (arith, nat_tests)

-- its turn is that of the member that it is
pub seat_turn_of : (name : ℕ → ℕ) (b : Seated) → Apart b.members name → seat_turn b ≡ turn_of b.members name b.me (as_member name b)
seat_turn_of name b apart =
    turn_same b.members b.me (at_seat b.heard) (λ k. known_of b.members name b.heard (name k)) b.phase
    (λ k l. sym (known_at b.members name b.heard k apart l))

noted : (name : ℕ → ℕ) (b : Seated) (phase : Phase) (answer : Poll) → Apart b.members name → b.me < b.members → length b.heard ≡ b.members
    → as_member name (noting answer (record b { phase = phase }))
    ≡ record (as_member name b) { phase = phase; heard = put (known_of b.members name b.heard) (name b.me) (own_after answer (known_of b.members name b.heard (name b.me))) }
noted name b phase poll.NotYet apart low whole = quietly name b phase
noted name b phase poll.Moved apart low whole = quietly name b phase
noted name b phase (poll.SendEstimate slots) apart low whole = with_known name b phase b.me (λ (h : Heard). record h { estimate = Some slots }) apart low whole
noted name b phase (poll.Decided slots) apart low whole = quietly name b phase

pub polled_as_member : (name : ℕ → ℕ) (b : Seated) → Apart b.members name → b.me < b.members → length b.heard ≡ b.members
    → as_member name (polled b) ≡ acted b.members name b.me (as_member name b)
polled_as_member name b apart low whole =
    noted name b (seat_turn b).phase (seat_turn b).poll apart low whole
    ∙ ap (λ (t : Turn). record (as_member name b) { phase = t.phase; heard = put (known_of b.members name b.heard) (name b.me) (own_after t.poll (known_of b.members name b.heard (name b.me))) })
    (seat_turn_of name b apart)

-- a slot is unknown exactly where the vote is awaited
slot_unknown : (vote : Option Slot) (lost left : Bool) → slot_of vote lost left ≡ None → (vote ≡ None) × (lost ≡ false) × (left ≡ false)
slot_unknown (Some s) lost left e = absurd (cc)
slot_unknown None true left e = absurd (cc)
slot_unknown None false true e = absurd (cc)
slot_unknown None false false e = (refl, refl, refl)

unknown_slot : (vote : Option Slot) (lost left : Bool) → vote ≡ None → lost ≡ false → left ≡ false → slot_of vote lost left ≡ None
unknown_slot (Some s) lost left a b c = absurd (cc)
unknown_slot None true left a b c = absurd (cc)
unknown_slot None false true a b c = absurd (cc)
unknown_slot None false false a b c = refl

with_none : (a : Option (List Slot)) → with_slot a None ≡ None
with_none None = refl
with_none (Some xs) = refl

-- one unknown slot makes the whole unknown
pub slots_none : (seen : ℕ → Heard) (n k : ℕ) → k < n → slot_of (seen k).vote (seen k).lost (seen k).left ≡ None → slots_of seen n ≡ None
slots_none seen zero k l e = absurd (omega arith)
slots_none seen (suc n) k l e =
    elim (cases_eq k n) [
      | inl same ↦
          ap (λ (j : ℕ). with_slot (slots_of seen n) (slot_of (seen j).vote (seen j).lost (seen j).left)) (sym same)
          ∙ ap (λ (o : Option Slot). with_slot (slots_of seen n) o) e
          ∙ with_none (slots_of seen n)
      | inr ne ↦
          ap (λ (o : Option (List Slot)). with_slot o (slot_of (seen n).vote (seen n).lost (seen n).left)) (slots_none seen n k (omega (arith, ne)) e)
    ]

none_found : (seen : ℕ → Heard) (n : ℕ) → slots_of seen n ≡ None → (k : ℕ) × (k < n) × NoVote (seen k)
none_found seen zero e = absurd (cc)
none_found seen (suc n) e = last (slots_of seen n) refl (slot_of (seen n).vote (seen n).lost (seen n).left) refl e (none_found seen n)
  where
    last : (a : Option (List Slot)) → slots_of seen n ≡ a → (b : Option Slot) → slot_of (seen n).vote (seen n).lost (seen n).left ≡ b
        → with_slot a b ≡ None → (slots_of seen n ≡ None → (k : ℕ) × (k < n) × NoVote (seen k)) → (k : ℕ) × (k < suc n) × NoVote (seen k)
    last None ea b eb e before = let f : (k : ℕ) × (k < n) × NoVote (seen k) = before ea in (f.0, omega (arith, f.1), f.2)
    last (Some xs) ea None eb e before = (n, omega arith, slot_unknown (seen n).vote (seen n).lost (seen n).left eb)
    last (Some xs) ea (Some x) eb e before = absurd (cc)

formed : (n : ℕ) (seen : ℕ → Heard) (o : Option (List Slot)) → slots_of seen n ≡ o → ((form o).poll ≡ poll.NotYet) ↔ ((k : ℕ) × (k < n) × NoVote (seen k))
formed n seen None e =
    (λ q. none_found seen n e, λ m. refl)
formed n seen (Some slots) e = (
  λ q. absurd (cc),
  λ m. absurd (let bad : None ≡ Some slots = sym (slots_none seen n m.0 m.1 (unknown_slot (seen m.0).vote (seen m.0).lost (seen m.0).left m.2.0 m.2.1 m.2.2)) ∙ e in cc),
)

followed : (r n i : ℕ) (held : List Slot) (h : Heard) (o : Option (List Slot)) (lost left : Bool) → h.estimate ≡ o → h.lost ≡ lost → h.left ≡ left
    → r < n → r ≢ i → ((follow r held o (lost || left)).poll ≡ poll.NotYet) ↔ ((r < n) × (r ≢ i) × NoEstimate h)
followed r n i held h (Some slots) lost left a b c low ne = (λ q. absurd (cc), λ m. absurd (let bad : None ≡ Some slots = sym m.2.0 ∙ a in cc))
followed r n i held h None true left a b c low ne = (λ q. absurd (cc), λ m. absurd (let bad : true ≡ false = sym b ∙ m.2.1 in cc))
followed r n i held h None false true a b c low ne = (λ q. absurd (cc), λ m. absurd (let bad : true ≡ false = sym c ∙ m.2.2 in cc))
followed r n i held h None false false a b c low ne = (λ q. (low, ne, (a, b, c)), λ m. refl)

-- a turn does nothing exactly where a message is awaited
pub turn_waits : (n i : ℕ) (seen : ℕ → Heard) (phase : Phase) → ((turn n i seen phase).poll ≡ poll.NotYet) ↔ Awaits n i seen phase
turn_waits n i seen Outside = (λ q. tt, λ m. refl)
turn_waits n i seen Voting = formed n seen (slots_of seen n) refl
turn_waits n i seen (Round r held) = at_round (nat_lt r n) (r == i) refl refl
  where
    is_below : (r n : ℕ) → nat_lt r n ≡ true → r < n
    is_below r n t = grind (arith, nat_tests)

    is_past : (r n : ℕ) → nat_lt r n ≡ false → r < n → ⊥
    is_past r n t l = grind (arith, nat_tests)

    is_same : (r i : ℕ) → (r == i) ≡ true → r ≡ i
    is_same r i t = grind (arith, nat_tests)

    is_other : (r i : ℕ) → (r == i) ≡ false → r ≢ i
    is_other r i t = grind (arith, nat_tests)

    at_round : (a b : Bool) → nat_lt r n ≡ a → (r == i) ≡ b
        → ((cond a (cond b (speak r held) (follow r held (seen r).estimate ((seen r).lost || (seen r).left))) (decide held)).poll ≡ poll.NotYet)
        ↔ Awaits n i seen (Round r held)
    at_round false b e f = (λ q. absurd (cc), λ m. absurd (is_past r n e m.0))
    at_round true true e f = (λ q. absurd (cc), λ m. absurd (m.1 (is_same r i f)))
    at_round true false e f = followed r n i held (seen r) (seen r).estimate (seen r).lost (seen r).left refl refl refl (is_below r n e) (is_other r i f)
turn_waits n i seen (Decided held) = (λ q. absurd (cc), λ m. absurd m)

pub in_world_hears : (old new : Seated) (k : ℕ) (x : Message) → new ≡ hears_seat k x old → k < old.members → length old.heard ≡ old.members
    → InWorld old new (λ name. after (name k) x)
in_world_hears old new k x e low whole name apart = ap (as_member name) e ∙ hears_as_member name old k x apart low whole

pub in_world_told : (old new : Seated) (k : ℕ) → new ≡ told_seat k old → k < old.members → length old.heard ≡ old.members
    → InWorld old new (λ name. told (name k))
in_world_told old new k e low whole name apart = ap (as_member name) e ∙ told_as_member name old k apart low whole

pub in_world_polled : (old new : Seated) → new ≡ polled old → old.me < old.members → length old.heard ≡ old.members
    → InWorld old new (λ name. acted old.members name old.me)
in_world_polled old new e low whole name apart = ap (as_member name) e ∙ polled_as_member name old apart low whole

pub in_world_seated : (new : Seated) (members me : ℕ) (vote : Slot) → new ≡ seated members me vote → me < members
    → (name : ℕ → ℕ) → Apart members name → as_member name new ≡ entered (name me) vote fresh
in_world_seated new members me vote e low name apart = ap (as_member name) e ∙ seated_as_member name members me vote apart low

pub turn_waits_as : (b : Seated) (answer : Poll) → answer ≡ (seat_turn b).poll
    → (answer ≡ poll.NotYet) ↔ Awaits b.members b.me (at_seat b.heard) b.phase
turn_waits_as b answer e =
    let P : Poll → Type 0 = λ a. (a ≡ poll.NotYet) ↔ Awaits b.members b.me (at_seat b.heard) b.phase in
    subst P (sym e) (turn_waits b.members b.me (at_seat b.heard) b.phase)
