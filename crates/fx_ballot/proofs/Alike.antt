-- Members alike on the seats, early messages, and turns that do nothing.
use Rattle.std.proofs.Common.{◌≡◌, ℕ, ◌<◌, ◌≢◌, ◌==◌, zero, suc, Bool, true, false, cond, ◌||◌, List, Option, Some, None, inl, inr, arith, refl, sym, ◌∙◌, ap}
use Rattle.std.specs.Prelude.{nat_lt}
use Rattle.std.proofs.lemmas.Bool.Decides.{nat_tests}
use Rattle.std.proofs.lemmas.Bool.{cases_eq}
use Rattle.fx_link.specs.declared.slot.Slot.{Slot}
use Rattle.fx_ballot.specs.declared.heard.Heard.{Heard}
use Rattle.fx_ballot.specs.declared.poll.Poll.{Poll}
use Rattle.fx_ballot.specs.declared.poll.Poll.TheVariants as poll
use Rattle.fx_ballot.specs.Turn.{Phase, Outside, Voting, Round, Decided, Message, hear, learn_loss, Turn, turn, form, speak, follow, decide, slots_of}
use Rattle.fx_ballot.specs.World.{Member, put, after, told, entered, own_after, turn_of, acted, among}
use Rattle.fx_ballot.specs.Seats.{Seated, at_seat, seat_turn, polled, noting}
use Rattle.fx_ballot.specs.Alike.{SameOnSeats, AlikeOnSeats, EarlyMessages, QuietTurns}
use Rattle.fx_ballot.proofs.Readings.{turn_same, same_member}

-- the relation itself
pub same_self : (n : ℕ) (name : ℕ → ℕ) (m : Member) → SameOnSeats n name m m
same_self n name m = record { phase = refl; heard = λ k l. refl }

pub same_sym : (n : ℕ) (name : ℕ → ℕ) (m t : Member) → SameOnSeats n name m t → SameOnSeats n name t m
same_sym n name m t s = record { phase = sym s.phase; heard = λ k l. sym (s.heard k l) }

pub same_trans : (n : ℕ) (name : ℕ → ℕ) (m t u : Member) → SameOnSeats n name m t → SameOnSeats n name t u → SameOnSeats n name m u
same_trans n name m t u a b = record { phase = a.phase ∙ b.phase; heard = λ k l. a.heard k l ∙ b.heard k l }

-- equal members are alike
pub same_equal : (n : ℕ) (name : ℕ → ℕ) (m t : Member) → m ≡ t → SameOnSeats n name m t
same_equal n name m t e = record { phase = ap (λ (x : Member). x.phase) e; heard = λ k l. ap (λ (x : Member). x.heard (name k)) e }

-- a change of what is known of one process, made alike
changed : (j p : ℕ) (f g : ℕ → Heard) (x y : Heard) → (j ≡ p → x ≡ y) → f j ≡ g j → put f p x j ≡ put g p y j
changed j p f g x y a e = grind (arith, nat_tests, e, a)

pub same_after : (n : ℕ) (name : ℕ → ℕ) (p : ℕ) (x : Message) (m t : Member) → SameOnSeats n name m t → SameOnSeats n name (after p x m) (after p x t)
same_after n name p x m t s = record {
  phase = s.phase;
  heard = λ k l. changed (name k) p m.heard t.heard (hear x (m.heard p)) (hear x (t.heard p)) (λ e. at k l e) (s.heard k l);
}
  where
    at : (k : ℕ) → k < n → name k ≡ p → hear x (m.heard p) ≡ hear x (t.heard p)
    at k l e = ap (λ (q : ℕ). hear x (m.heard q)) (sym e) ∙ ap (hear x) (s.heard k l) ∙ ap (λ (q : ℕ). hear x (t.heard q)) e

pub same_told : (n : ℕ) (name : ℕ → ℕ) (p : ℕ) (m t : Member) → SameOnSeats n name m t → SameOnSeats n name (told p m) (told p t)
same_told n name p m t s = record {
  phase = s.phase;
  heard = λ k l. changed (name k) p m.heard t.heard (learn_loss (m.heard p)) (learn_loss (t.heard p)) (λ e. at k l e) (s.heard k l);
}
  where
    at : (k : ℕ) → k < n → name k ≡ p → learn_loss (m.heard p) ≡ learn_loss (t.heard p)
    at k l e = ap (λ (q : ℕ). learn_loss (m.heard q)) (sym e) ∙ ap learn_loss (s.heard k l) ∙ ap (λ (q : ℕ). learn_loss (t.heard q)) e

-- what one knows of oneself once one entered
abbrev casting : Slot → Heard → Heard
casting vote h = record h { vote = Some vote }

pub same_entered : (n : ℕ) (name : ℕ → ℕ) (p : ℕ) (vote : Slot) (m t : Member) → SameOnSeats n name m t → SameOnSeats n name (entered p vote m) (entered p vote t)
same_entered n name p vote m t s = record {
  phase = refl;
  heard = λ k l. changed (name k) p m.heard t.heard (casting vote (m.heard p)) (casting vote (t.heard p)) (λ e. at k l e) (s.heard k l);
}
  where
    at : (k : ℕ) → k < n → name k ≡ p → casting vote (m.heard p) ≡ casting vote (t.heard p)
    at k l e = ap (λ (q : ℕ). casting vote (m.heard q)) (sym e) ∙ ap (casting vote) (s.heard k l) ∙ ap (λ (q : ℕ). casting vote (t.heard q)) e

pub same_turn : (n : ℕ) (name : ℕ → ℕ) (i : ℕ) (m t : Member) → SameOnSeats n name m t → turn_of n name i m ≡ turn_of n name i t
same_turn n name i m t s =
    turn_same n i (λ k. m.heard (name k)) (λ k. t.heard (name k)) m.phase s.heard
    ∙ ap (λ (p : Phase). turn n i (λ k. t.heard (name k)) p) s.phase

pub same_acted : (n : ℕ) (name : ℕ → ℕ) (i : ℕ) (m t : Member) → i < n → SameOnSeats n name m t → SameOnSeats n name (acted n name i m) (acted n name i t)
same_acted n name i m t low s =
    let turns : turn_of n name i m ≡ turn_of n name i t = same_turn n name i m t s in
    record {
      phase = ap (λ (x : Turn). x.phase) turns;
      heard = λ k l.
          changed (name k) (name i) m.heard t.heard (own_after (turn_of n name i m).poll (m.heard (name i))) (own_after (turn_of n name i t).poll (t.heard (name i)))
          (λ e. ap (λ (x : Turn). own_after x.poll (m.heard (name i))) turns ∙ ap (own_after (turn_of n name i t).poll) (s.heard i low)) (s.heard k l);
    }

-- who has a seat is another process
pub seat_apart : (n : ℕ) (name : ℕ → ℕ) (p k : ℕ) → among n name p ≡ false → k < n → name k ≢ p
seat_apart zero name p k a l = λ same. absurd (omega (arith, l))
seat_apart (suc n) name p k a l = λ same.
    elim (cases_eq k n) [
      | inl here ↦ hit (name n) p (among n name p) (sym (ap name here) ∙ same) a
      | inr ne ↦ seat_apart n name p k (rest (p == name n) (among n name p) a) (omega (arith, ne, l)) same
    ]
  where
    hit : (x p : ℕ) (r : Bool) → x ≡ p → cond (p == x) true r ≡ false → ⊥
    hit x p r e a = grind (arith, nat_tests)

    rest : (b r : Bool) → cond b true r ≡ false → r ≡ false
    rest true r e = absurd (let bad : true ≡ false = e in cc)
    rest false r e = e

untouched : (j p : ℕ) (f : ℕ → Heard) (x : Heard) → j ≢ p → put f p x j ≡ f j
untouched j p f x ne = grind (arith, nat_tests, ne)

-- what a stranger says, and that it is lost
pub after_stranger : (n : ℕ) (name : ℕ → ℕ) (p : ℕ) (x : Message) (m : Member) → among n name p ≡ false → SameOnSeats n name (after p x m) m
after_stranger n name p x m a = record { phase = refl; heard = λ k l. untouched (name k) p m.heard (hear x (m.heard p)) (seat_apart n name p k a l) }

pub told_stranger : (n : ℕ) (name : ℕ → ℕ) (p : ℕ) (m : Member) → among n name p ≡ false → SameOnSeats n name (told p m) m
told_stranger n name p m a = record { phase = refl; heard = λ k l. untouched (name k) p m.heard (learn_loss (m.heard p)) (seat_apart n name p k a l) }

pub alike_on_seats : (n : ℕ) (name : ℕ → ℕ) → AlikeOnSeats n name
alike_on_seats n name = record {
  hearing = λ p x m t s. same_after n name p x m t s;
  being_told = λ p m t s. same_told n name p m t s;
  entering = λ p vote m t s. same_entered n name p vote m t s;
  acting = λ i low m t s. same_acted n name i m t low s;
  turns = λ i m t s. same_turn n name i m t s;
  strange_message = λ p x a m. after_stranger n name p x m a;
  strange_loss = λ p a m. told_stranger n name p m a;
}

-- entering after early messages
pub entered_after : (me p : ℕ) (vote : Slot) (x : Message) (m : Member) → me ≢ p → entered me vote (after p x m) ≡ after p x (entered me vote m)
entered_after me p vote x m ne =
    same_member (entered me vote (after p x m)) (after p x (entered me vote m)) refl (λ q. swapped me p q m.heard (casting vote) (hear x) ne) refl refl
  where
    swapped : (me p q : ℕ) (f : ℕ → Heard) (a b : Heard → Heard) → me ≢ p
        → put (put f p (b (f p))) me (a (put f p (b (f p)) me)) q ≡ put (put f me (a (f me))) p (b (put f me (a (f me)) p)) q
    swapped me p q f a b ne = grind (arith, nat_tests, ne)

pub entered_told : (me p : ℕ) (vote : Slot) (m : Member) → me ≢ p → entered me vote (told p m) ≡ told p (entered me vote m)
entered_told me p vote m ne = same_member (entered me vote (told p m)) (told p (entered me vote m)) refl (λ q. grind (arith, nat_tests, ne)) refl refl

pub early_messages : (me p : ℕ) → EarlyMessages me p
early_messages me p = record { heard = λ vote x m ne. entered_after me p vote x m ne; told = λ vote m ne. entered_told me p vote m ne }

-- where nothing is enabled a turn changes nothing
pub quiet_turn : (n i : ℕ) (seen : ℕ → Heard) (phase : Phase) → (turn n i seen phase).poll ≡ poll.NotYet → (turn n i seen phase).phase ≡ phase
quiet_turn n i seen Outside e = refl
quiet_turn n i seen Voting e = formed (slots_of seen n) e
  where
    formed : (o : Option (List Slot)) → (form o).poll ≡ poll.NotYet → (form o).phase ≡ Voting
    formed None e = refl
    formed (Some s) e = absurd (cc)
quiet_turn n i seen (Round r h) e = at_round (nat_lt r n) (r == i) (seen r).estimate ((seen r).lost || (seen r).left) e
  where
    at_round : (a b : Bool) (o : Option (List Slot)) (c : Bool) → (cond a (cond b (speak r h) (follow r h o c)) (decide h)).poll ≡ poll.NotYet
        → (cond a (cond b (speak r h) (follow r h o c)) (decide h)).phase ≡ Round r h
    at_round false b o c e = absurd (cc)
    at_round true true o c e = absurd (cc)
    at_round true false (Some s) c e = absurd (cc)
    at_round true false None true e = absurd (cc)
    at_round true false None false e = refl
quiet_turn n i seen (Decided h) e = refl

pub quiet_polled : (b : Seated) → (seat_turn b).poll ≡ poll.NotYet → polled b ≡ b
quiet_polled b e =
    ap (λ (a : Poll). noting a (record b { phase = (seat_turn b).phase })) e
    ∙ ap (λ (p : Phase). record b { phase = p }) (quiet_turn b.members b.me (at_seat b.heard) b.phase e)

pub quiet_acted : (n : ℕ) (name : ℕ → ℕ) (i : ℕ) (m : Member) → (turn_of n name i m).poll ≡ poll.NotYet → acted n name i m ≡ m
quiet_acted n name i m e =
    same_member (acted n name i m) m (quiet_turn n i (λ k. m.heard (name k)) m.phase e)
    (λ q. ap (λ (a : Poll). put m.heard (name i) (own_after a (m.heard (name i))) q) e ∙ unchanged m.heard (name i) q) refl refl
  where
    unchanged : (f : ℕ → Heard) (k p : ℕ) → put f k (f k) p ≡ f p
    unchanged f k p = grind (arith, nat_tests)

pub quiet_turns : QuietTurns
quiet_turns = record { of_member = λ n name i m e. quiet_acted n name i m e; of_seated = λ b e. quiet_polled b e }
