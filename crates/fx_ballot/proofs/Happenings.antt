-- Votes are cast by enterings, leavings are moves, and so are killings.
use Rattle.std.proofs.Common.{◌≡◌, ℕ, ◌≢◌, Bool, true, false, List, [], ◌∷◌, Some, None, ◌⊎◌, inl, inr, arith, refl, subst, sym, ◌∙◌}
use Rattle.std.proofs.lemmas.Bool.Decides.{nat_tests}
use Rattle.std.proofs.lemmas.Bool.{cond_both, cases_eq}
use Rattle.fx_link.specs.declared.slot.Slot.{Slot}
use Rattle.fx_ballot.specs.declared.heard.Heard.{Heard}
use Rattle.fx_ballot.specs.declared.poll.Poll.{Poll}
use Rattle.fx_ballot.specs.declared.poll.Poll.TheVariants as poll
use Rattle.fx_ballot.specs.Turn.{Message, Turn}
use Rattle.fx_ballot.specs.World.{World, Move, Enter, Act, Hear, Leave, Kill, Tell, enabled, among, Apart, start, put_link, own_after, enters, hears, leaves, kills, tells, acts, turn_of, happens, run}
use Rattle.fx_ballot.specs.Laws.{vote_of, EntersWith, Leaves, KillsIt, SomeMove, Happened}
use Rattle.fx_ballot.proofs.Lists.{Each}
use Rattle.fx_ballot.proofs.Messages.{Said, Messages}
use Rattle.fx_ballot.proofs.Trails.{own_kept, gone_kept}
use Rattle.fx_ballot.proofs.Turns.{stepped}
use Rattle.fx_ballot.proofs.Runs.{Kept, keeps, kept}

-- what one move brought about
record Brought (name : ℕ → ℕ) (move : Move) (w v : World) : Type 0 where
  pub votes : (p : ℕ) (vote : Slot) → vote_of v p ≡ Some vote → (vote_of w p ≡ Some vote) ⊎ EntersWith name p vote move
  pub gone : (p : ℕ) → (v.member p).gone ≡ true → ((w.member p).gone ≡ true) ⊎ Leaves name p move
  pub killed : (p : ℕ) → (v.member p).living ≡ false → ((w.member p).living ≡ false) ⊎ KillsIt name p move

-- the same, and the move was enabled where it brought something about
record Caused (n : ℕ) (name : ℕ → ℕ) (move : Move) (w v : World) : Type 0 where
  pub votes : (p : ℕ) (vote : Slot) → vote_of v p ≡ Some vote
      → (vote_of w p ≡ Some vote) ⊎ (EntersWith name p vote move × (enabled n name w move ≡ true))
  pub gone : (p : ℕ) → (v.member p).gone ≡ true → ((w.member p).gone ≡ true) ⊎ (Leaves name p move × (enabled n name w move ≡ true))
  pub killed : (p : ℕ) → (v.member p).living ≡ false → ((w.member p).living ≡ false) ⊎ (KillsIt name p move × (enabled n name w move ≡ true))

was_enabled : (n : ℕ) (name : ℕ → ℕ) (move : Move) (w v : World) → enabled n name w move ≡ true → Brought name move w v → Caused n name move w v
was_enabled n name move w v on b = record {
  votes = λ p vote e. elim (b.votes p vote e) [ inl before ↦ inl before | inr it ↦ inr (it, on) ];
  gone = λ p e. elim (b.gone p e) [ inl before ↦ inl before | inr it ↦ inr (it, on) ];
  killed = λ p e. elim (b.killed p e) [ inl before ↦ inl before | inr it ↦ inr (it, on) ];
}

unmoved : (name : ℕ → ℕ) (move : Move) (w : World) → Brought name move w w
unmoved name move w = record { votes = λ p vote e. inl e; gone = λ p e. inl e; killed = λ p e. inl e }

nothing : (n : ℕ) (name : ℕ → ℕ) (move : Move) (w : World) → Caused n name move w w
nothing n name move w = record { votes = λ p vote e. inl e; gone = λ p e. inl e; killed = λ p e. inl e }

-- a move that casts no vote, and by which nobody leaves or is killed
same : (name : ℕ → ℕ) (move : Move) (w v : World) → ((p : ℕ) → vote_of v p ≡ vote_of w p) → ((p : ℕ) → (v.member p).gone ≡ (w.member p).gone)
    → ((p : ℕ) → (v.member p).living ≡ (w.member p).living) → Brought name move w v
same name move w v a b c = record { votes = λ p vote e. inl (sym (a p) ∙ e); gone = λ p e. inl (sym (b p) ∙ e); killed = λ p e. inl (sym (c p) ∙ e) }

enter_votes : (to : ℕ → Bool) (q : ℕ) (slot : Slot) (w : World) (p : ℕ) (vote : Slot) → vote_of (enters to q slot w) p ≡ Some vote
    → (vote_of w p ≡ Some vote) ⊎ ((q ≡ p) × (slot ≡ vote))
enter_votes to q slot w p vote e =
    elim (cases_eq p q) [
      | inl here ↦ inr (sym here, entered_vote to q slot w p vote here e)
      | inr other ↦ inl (sym (other_vote to q slot w p other) ∙ e)
    ]
  where
    entered_vote : (to : ℕ → Bool) (q : ℕ) (slot : Slot) (w : World) (p : ℕ) (vote : Slot) → p ≡ q → vote_of (enters to q slot w) p ≡ Some vote → slot ≡ vote
    entered_vote to q slot w p vote here e = grind (arith, nat_tests)

    other_vote : (to : ℕ → Bool) (q : ℕ) (slot : Slot) (w : World) (p : ℕ) → p ≢ q → vote_of (enters to q slot w) p ≡ vote_of w p
    other_vote to q slot w p other = grind (arith, nat_tests)

entered_brings : (name : ℕ → ℕ) (to : ℕ → Bool) (i : ℕ) (slot : Slot) (w : World) → Brought name (Enter i slot) w (enters to (name i) slot w)
entered_brings name to i slot w = record {
  votes = λ p vote e. enter_votes to (name i) slot w p vote e;
  gone = λ p e. inl (kept_gone to (name i) slot w p e);
  killed = λ p e. inl (kept_living to (name i) slot w p e);
}
  where
    kept_gone : (to : ℕ → Bool) (q : ℕ) (slot : Slot) (w : World) (p : ℕ) → ((enters to q slot w).member p).gone ≡ true → (w.member p).gone ≡ true
    kept_gone to q slot w p e = grind (arith, nat_tests)

    kept_living : (to : ℕ → Bool) (q : ℕ) (slot : Slot) (w : World) (p : ℕ) → ((enters to q slot w).member p).living ≡ false → (w.member p).living ≡ false
    kept_living to q slot w p e = grind (arith, nat_tests)

own_vote : (answer : Poll) (h : Heard) → (own_after answer h).vote ≡ h.vote
own_vote poll.NotYet h = refl
own_vote poll.Moved h = refl
own_vote (poll.SendEstimate slots) h = refl
own_vote (poll.Decided slots) h = refl

stepped_vote : (n : ℕ) (name : ℕ → ℕ) (i : ℕ) (w : World) (t : Turn) (p : ℕ) → vote_of (stepped n name i w t) p ≡ vote_of w p
stepped_vote n name i w t p = grind (arith, nat_tests, own_vote t.poll ((w.member (name i)).heard (name i)))

stepped_gone : (n : ℕ) (name : ℕ → ℕ) (i : ℕ) (w : World) (t : Turn) (p : ℕ) → ((stepped n name i w t).member p).gone ≡ (w.member p).gone
stepped_gone n name i w t p = grind (arith, nat_tests)

stepped_living : (n : ℕ) (name : ℕ → ℕ) (i : ℕ) (w : World) (t : Turn) (p : ℕ) → ((stepped n name i w t).member p).living ≡ (w.member p).living
stepped_living n name i w t p = grind (arith, nat_tests)

acted_brings : (n : ℕ) (name : ℕ → ℕ) (i : ℕ) (w : World) → Brought name (Act i) w (acts n name i w)
acted_brings n name i w =
    same name (Act i) w (acts n name i w) (stepped_vote n name i w (turn_of n name i (w.member (name i))))
    (stepped_gone n name i w (turn_of n name i (w.member (name i)))) (stepped_living n name i w (turn_of n name i (w.member (name i))))

heard_living : (a b : ℕ) (x : Message) (rest : List Message) (w : World) (p : ℕ) → ((hears a b (x ∷ rest) w).member p).living ≡ (w.member p).living
heard_living a b x rest w p = grind (arith, nat_tests)

heard_brings : (n : ℕ) (name : ℕ → ℕ) (i j : ℕ) (w : World) → Messages n name w → (xs : List Message) → w.link (name i) (name j) ≡ xs
    → Brought name (Hear i j) w (hears (name i) (name j) xs w)
heard_brings n name i j w m [] front = unmoved name (Hear i j) w
heard_brings n name i j w m (x ∷ rest) front =
    let both : Each (Said n name w (name i)) (x ∷ rest) = subst (Each (Said n name w (name i))) front (m.links (name i) (name j)) in
    let link : ℕ → ℕ → List Message = put_link w.link (name i) (name j) rest in
    same name (Hear i j) w (hears (name i) (name j) (x ∷ rest) w) (λ p. (own_kept link n name (name i) (name j) p x w both.0).0)
    (λ p. gone_kept link (name i) (name j) p x w) (heard_living (name i) (name j) x rest w)

left_brings : (name : ℕ → ℕ) (to : ℕ → Bool) (i : ℕ) (w : World) → Brought name (Leave i) w (leaves to (name i) w)
left_brings name to i w = record {
  votes = λ p vote e. inl (sym (left_vote to (name i) w p) ∙ e);
  gone = λ p e. left_gone to (name i) w p e;
  killed = λ p e. inl (sym (left_living to (name i) w p) ∙ e);
}
  where
    left_vote : (to : ℕ → Bool) (q : ℕ) (w : World) (p : ℕ) → vote_of (leaves to q w) p ≡ vote_of w p
    left_vote to q w p = grind (arith, nat_tests)

    left_living : (to : ℕ → Bool) (q : ℕ) (w : World) (p : ℕ) → ((leaves to q w).member p).living ≡ (w.member p).living
    left_living to q w p = grind (arith, nat_tests)

    left_gone : (to : ℕ → Bool) (q : ℕ) (w : World) (p : ℕ) → ((leaves to q w).member p).gone ≡ true → ((w.member p).gone ≡ true) ⊎ (q ≡ p)
    left_gone to q w p e = grind (arith, nat_tests)

killed_brings : (name : ℕ → ℕ) (i : ℕ) (w : World) → Brought name (Kill i) w (kills (name i) w)
killed_brings name i w = record {
  votes = λ p vote e. inl (sym (killed_vote (name i) w p) ∙ e);
  gone = λ p e. inl (sym (killed_gone (name i) w p) ∙ e);
  killed = λ p e. killed_living (name i) w p e;
}
  where
    killed_vote : (q : ℕ) (w : World) (p : ℕ) → vote_of (kills q w) p ≡ vote_of w p
    killed_vote q w p = grind (arith, nat_tests)

    killed_gone : (q : ℕ) (w : World) (p : ℕ) → ((kills q w).member p).gone ≡ (w.member p).gone
    killed_gone q w p = grind (arith, nat_tests)

    killed_living : (q : ℕ) (w : World) (p : ℕ) → ((kills q w).member p).living ≡ false → ((w.member p).living ≡ false) ⊎ (q ≡ p)
    killed_living q w p e = grind (arith, nat_tests)

told_brings : (name : ℕ → ℕ) (i j : ℕ) (w : World) → Brought name (Tell i j) w (tells (name i) (name j) w)
told_brings name i j w =
    same name (Tell i j) w (tells (name i) (name j) w) (told_vote (name i) (name j) w) (told_gone (name i) (name j) w) (told_living (name i) (name j) w)
  where
    told_vote : (a b : ℕ) (w : World) (p : ℕ) → vote_of (tells a b w) p ≡ vote_of w p
    told_vote a b w p = grind (arith, nat_tests)

    told_gone : (a b : ℕ) (w : World) (p : ℕ) → ((tells a b w).member p).gone ≡ (w.member p).gone
    told_gone a b w p = grind (arith, nat_tests)

    told_living : (a b : ℕ) (w : World) (p : ℕ) → ((tells a b w).member p).living ≡ (w.member p).living
    told_living a b w p = grind (arith, nat_tests)

brings : (n : ℕ) (name : ℕ → ℕ) (w : World) (move : Move) → Messages n name w → Caused n name move w (happens n name w move)
brings n name w (Enter i slot) m =
    cond_both {A = World} (enabled n name w (Enter i slot)) (enters (among n name) (name i) slot w) w (Caused n name (Enter i slot) w)
    (λ e. was_enabled n name (Enter i slot) w (enters (among n name) (name i) slot w) e (entered_brings name (among n name) i slot w))
    (λ e. nothing n name (Enter i slot) w)
brings n name w (Act i) m =
    cond_both {A = World} (enabled n name w (Act i)) (acts n name i w) w (Caused n name (Act i) w)
    (λ e. was_enabled n name (Act i) w (acts n name i w) e (acted_brings n name i w)) (λ e. nothing n name (Act i) w)
brings n name w (Hear i j) m =
    cond_both {A = World} (enabled n name w (Hear i j)) (hears (name i) (name j) (w.link (name i) (name j)) w) w (Caused n name (Hear i j) w)
    (λ e. was_enabled n name (Hear i j) w (hears (name i) (name j) (w.link (name i) (name j)) w) e (heard_brings n name i j w m (w.link (name i) (name j)) refl))
    (λ e. nothing n name (Hear i j) w)
brings n name w (Leave i) m =
    cond_both {A = World} (enabled n name w (Leave i)) (leaves (among n name) (name i) w) w (Caused n name (Leave i) w)
    (λ e. was_enabled n name (Leave i) w (leaves (among n name) (name i) w) e (left_brings name (among n name) i w)) (λ e. nothing n name (Leave i) w)
brings n name w (Kill i) m =
    cond_both {A = World} (enabled n name w (Kill i)) (kills (name i) w) w (Caused n name (Kill i) w)
    (λ e. was_enabled n name (Kill i) w (kills (name i) w) e (killed_brings name i w)) (λ e. nothing n name (Kill i) w)
brings n name w (Tell i j) m =
    cond_both {A = World} (enabled n name w (Tell i j)) (tells (name i) (name j) w) w (Caused n name (Tell i j) w)
    (λ e. was_enabled n name (Tell i j) w (tells (name i) (name j) w) e (told_brings name i j w)) (λ e. nothing n name (Tell i j) w)

-- it held before the moves, or one of them that was enabled brought it about
votes_from : (n : ℕ) (name : ℕ → ℕ) (moves : List Move) (w : World) → Apart n name → Kept n name w → (p : ℕ) (vote : Slot)
    → vote_of (run n name moves w) p ≡ Some vote → (vote_of w p ≡ Some vote) ⊎ SomeMove n name (EntersWith name p vote) w moves
votes_from n name [] w apart h p vote e = inl e
votes_from n name (move ∷ moves) w apart h p vote e =
    elim (votes_from n name moves (happens n name w move) apart (keeps n name w move apart h) p vote e) [
      | inl now ↦ elim ((brings n name w move h.sound.messages).votes p vote now) [ inl before ↦ inl before | inr it ↦ inr (inl it) ]
      | inr later ↦ inr (inr later)
    ]

gone_from : (n : ℕ) (name : ℕ → ℕ) (moves : List Move) (w : World) → Apart n name → Kept n name w → (p : ℕ)
    → ((run n name moves w).member p).gone ≡ true → ((w.member p).gone ≡ true) ⊎ SomeMove n name (Leaves name p) w moves
gone_from n name [] w apart h p e = inl e
gone_from n name (move ∷ moves) w apart h p e =
    elim (gone_from n name moves (happens n name w move) apart (keeps n name w move apart h) p e) [
      | inl now ↦ elim ((brings n name w move h.sound.messages).gone p now) [ inl before ↦ inl before | inr it ↦ inr (inl it) ]
      | inr later ↦ inr (inr later)
    ]

killed_from : (n : ℕ) (name : ℕ → ℕ) (moves : List Move) (w : World) → Apart n name → Kept n name w → (p : ℕ)
    → ((run n name moves w).member p).living ≡ false → ((w.member p).living ≡ false) ⊎ SomeMove n name (KillsIt name p) w moves
killed_from n name [] w apart h p e = inl e
killed_from n name (move ∷ moves) w apart h p e =
    elim (killed_from n name moves (happens n name w move) apart (keeps n name w move apart h) p e) [
      | inl now ↦ elim ((brings n name w move h.sound.messages).killed p now) [ inl before ↦ inl before | inr it ↦ inr (inl it) ]
      | inr later ↦ inr (inr later)
    ]

pub happened : (n : ℕ) (name : ℕ → ℕ) (moves : List Move) → Apart n name → Happened n name moves
happened n name moves apart = record {
  votes = λ p vote e.
      elim (votes_from n name moves start apart (kept n name [] apart) p vote e) [ inl before ↦ absurd (no_vote vote before) | inr it ↦ it ];
  gone = λ p e. elim (gone_from n name moves start apart (kept n name [] apart) p e) [ inl before ↦ absurd (no_flag before) | inr it ↦ it ];
  killed = λ p e. elim (killed_from n name moves start apart (kept n name [] apart) p e) [ inl before ↦ absurd (no_death before) | inr it ↦ it ];
}
  where
    no_vote : (vote : Slot) → None ≡ Some vote → ⊥
    no_vote vote e = cc

    no_flag : false ≡ true → ⊥
    no_flag e = cc

    no_death : true ≡ false → ⊥
    no_death e = cc
