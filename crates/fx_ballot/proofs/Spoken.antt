-- Who is past its own round has sent its estimate.
use Rattle.std.proofs.Common.{◌≡◌, ℕ, ◌<◌, ◌≢◌, ◌==◌, suc, Bool, true, false, cond, ◌||◌, List, Option, Some, None, ◌⊎◌, inl, inr, arith, refl, subst, sym, ◌∙◌, ap}
use Rattle.std.specs.Prelude.{nat_lt, IsSome}
use Rattle.std.proofs.lemmas.Bool.Decides.{nat_tests}
use Rattle.std.proofs.lemmas.Bool.{cond_both, cases_eq}
use Rattle.fx_link.specs.declared.slot.Slot.{Slot}
use Rattle.fx_ballot.specs.declared.heard.Heard.{Heard}
use Rattle.fx_ballot.specs.declared.poll.Poll.{Poll}
use Rattle.fx_ballot.specs.declared.poll.Poll.TheVariants as poll
use Rattle.fx_ballot.specs.Turn.{Phase, Outside, Voting, Round, Decided, Message, Turn, turn, form, speak, follow, decide, slots_of}
use Rattle.fx_ballot.specs.World.{Member, World, put, Apart, own_after, sent_by, told_all, among, acts, tells, kills, leaves, enters}
use Rattle.fx_ballot.specs.Laws.{estimate_of, past}
use Rattle.fx_ballot.proofs.Messages.{Said}
use Rattle.fx_ballot.proofs.Grows.{heard_by}
use Rattle.fx_ballot.proofs.Trails.{own_kept}

-- the world after the member at seat i took the turn given
abbrev pub stepped : ℕ → (ℕ → ℕ) → ℕ → World → Turn → World
stepped n name i w t = record {
  member =
      put w.member (name i)
      (record (w.member (name i)) { phase = t.phase; heard = put (w.member (name i)).heard (name i) (own_after t.poll ((w.member (name i)).heard (name i))) });
  link = told_all (among n name) w.link (name i) (sent_by i t.poll);
}

-- what the member at seat i knows of each seat
abbrev pub seen_by : (ℕ → ℕ) → ℕ → World → ℕ → Heard
seen_by name i w k = (w.member (name i)).heard (name k)

pub record Spoken (n : ℕ) (name : ℕ → ℕ) (w : World) : Type 0 where
  pub said : (c : ℕ) → c < n → past c (w.member (name c)).phase ≡ true → IsSome (estimate_of w (name c))

pub spoken_tell : (n : ℕ) (name : ℕ → ℕ) (p q : ℕ) (w : World) → Spoken n name w → Spoken n name (tells p q w)
spoken_tell n name p q w h = record { said = λ c l e. grind (arith, nat_tests, h.said c l) }

pub spoken_kill : (n : ℕ) (name : ℕ → ℕ) (p : ℕ) (w : World) → Spoken n name w → Spoken n name (kills p w)
spoken_kill n name p w h = record { said = λ c l e. grind (arith, nat_tests, h.said c l) }

pub spoken_leave : (n : ℕ) (name : ℕ → ℕ) (to : ℕ → Bool) (p : ℕ) (w : World) → Spoken n name w → Spoken n name (leaves to p w)
spoken_leave n name to p w h = record { said = λ c l e. grind (arith, nat_tests, h.said c l) }

pub spoken_enter : (n : ℕ) (name : ℕ → ℕ) (to : ℕ → Bool) (p : ℕ) (vote : Slot) (w : World) → Spoken n name w → Spoken n name (enters to p vote w)
spoken_enter n name to p vote w h = record { said = λ c l e. grind (arith, nat_tests, h.said c l) }

phase_kept : (link : ℕ → ℕ → List Message) (a b c : ℕ) (x : Message) (w : World) → ((heard_by link a b x w).member c).phase ≡ (w.member c).phase
phase_kept link a b c x w = grind (arith, nat_tests)

pub spoken_hear : (link : ℕ → ℕ → List Message) (n : ℕ) (name : ℕ → ℕ) (a b : ℕ) (x : Message) (w : World) → Said n name w a x
    → Spoken n name w → Spoken n name (heard_by link a b x w)
spoken_hear link n name a b x w said h = record {
  said = λ c l e.
      subst (λ (o : Option (List Slot)). IsSome o) (sym (own_kept link n name a b (name c) x w said).1)
      (h.said c l (sym (ap (past c) (phase_kept link a b (name c) x w)) ∙ e));
}

-- a turn of the member at seat i leaves it past its own round only where it was so, or speaks
abbrev OwnRound : ℕ → Phase → Turn → Type 0
OwnRound i old t = past i t.phase ≡ true → (past i old ≡ true) ⊎ ((s : List Slot) × (t.poll ≡ poll.SendEstimate s))

own_some : (answer : Poll) (h : Heard) → IsSome h.estimate → IsSome (own_after answer h).estimate
own_some poll.NotYet h e = e
own_some poll.Moved h e = e
own_some (poll.SendEstimate s) h e = refl
own_some (poll.Decided s) h e = e

own_spoke : (answer : Poll) (h : Heard) (s : List Slot) → answer ≡ poll.SendEstimate s → IsSome (own_after answer h).estimate
own_spoke answer h s e = subst (λ (z : Poll). IsSome (own_after z h).estimate) (sym e) refl

stepped_estimate : (n : ℕ) (name : ℕ → ℕ) (i : ℕ) (w : World) (t : Turn)
    → estimate_of (stepped n name i w t) (name i) ≡ (own_after t.poll ((w.member (name i)).heard (name i))).estimate
stepped_estimate n name i w t = grind (arith, nat_tests)

stepped_phase : (n : ℕ) (name : ℕ → ℕ) (i : ℕ) (w : World) (t : Turn) → ((stepped n name i w t).member (name i)).phase ≡ t.phase
stepped_phase n name i w t = grind (arith, nat_tests)

stepped_other : (n : ℕ) (name : ℕ → ℕ) (i : ℕ) (w : World) (t : Turn) (q : ℕ) → q ≢ name i → (stepped n name i w t).member q ≡ (w.member q)
stepped_other n name i w t q ne = grind (arith, nat_tests)

spoken_stepped : (n : ℕ) (name : ℕ → ℕ) (i : ℕ) (w : World) (t : Turn) → Apart n name → i < n → OwnRound i (w.member (name i)).phase t
    → Spoken n name w → Spoken n name (stepped n name i w t)
spoken_stepped n name i w t apart low o h = record {
  said = λ c l e.
      elim (cases_eq c i) [
        | inl same ↦
            let now : past i ((stepped n name i w t).member (name i)).phase ≡ true = subst (λ (k : ℕ). past k ((stepped n name i w t).member (name k)).phase ≡ true) same e in
            subst (λ (k : ℕ). IsSome (estimate_of (stepped n name i w t) (name k))) (sym same)
            (subst (λ (z : Option (List Slot)). IsSome z) (sym (stepped_estimate n name i w t)) (mine (o (sym (ap (past i) (stepped_phase n name i w t)) ∙ now))))
        | inr ne ↦
            let far : (stepped n name i w t).member (name c) ≡ w.member (name c) = stepped_other n name i w t (name c) (λ z. ne (apart c i l low z)) in
            subst (λ (m : Member). IsSome (m.heard (name c)).estimate) (sym far) (h.said c l (sym (ap (λ (m : Member). past c m.phase) far) ∙ e))
      ];
}
  where
    mine : (past i (w.member (name i)).phase ≡ true) ⊎ ((s : List Slot) × (t.poll ≡ poll.SendEstimate s))
        → IsSome (own_after t.poll ((w.member (name i)).heard (name i))).estimate
    mine (inl e) = own_some t.poll ((w.member (name i)).heard (name i)) (h.said i low e)
    mine (inr e) = own_spoke t.poll ((w.member (name i)).heard (name i)) e.0 e.1

own_form : (i : ℕ) (o : Option (List Slot)) → OwnRound i Voting (form o)
own_form i None = λ e. absurd (cc)
own_form i (Some s) = λ e. absurd (never i e)
  where
    never : (i : ℕ) → nat_lt i 0 ≡ true → ⊥
    never i e = grind (arith, nat_tests)

one_later : (i r : ℕ) → r ≢ i → nat_lt i (suc r) ≡ true → nat_lt i r ≡ true
one_later i r ne e = grind (arith, nat_tests)

own_follow : (i r : ℕ) (held : List Slot) (o : Option (List Slot)) (away : Bool) → r ≢ i → OwnRound i (Round r held) (follow r held o away)
own_follow i r held (Some s) away ne = λ e. inl (one_later i r ne e)
own_follow i r held None true ne = λ e. inl (one_later i r ne e)
own_follow i r held None false ne = λ e. inl e

beyond_own : (i r n : ℕ) → i < n → nat_lt r n ≡ false → nat_lt i r ≡ true
beyond_own i r n l e = grind (arith, nat_tests)

is_other : (r i : ℕ) → (r == i) ≡ false → r ≢ i
is_other r i e = grind (arith, nat_tests)

own_round : (n i : ℕ) (seen : ℕ → Heard) (phase : Phase) → i < n → OwnRound i phase (turn n i seen phase)
own_round n i seen Outside l = λ e. absurd (cc)
own_round n i seen Voting l = own_form i (slots_of seen n)
own_round n i seen (Round r held) l =
    cond_both {A = Turn} (nat_lt r n)
    (cond (r == i) (speak r held) (follow r held (seen r).estimate ((seen r).lost || (seen r).left))) (decide held) (OwnRound i (Round r held))
    (λ below.
    cond_both {A = Turn} (r == i) (speak r held) (follow r held (seen r).estimate ((seen r).lost || (seen r).left)) (OwnRound i (Round r held))
    (λ own. λ e. inr (held, refl))
    (λ other. own_follow i r held (seen r).estimate ((seen r).lost || (seen r).left) (is_other r i other)))
    (λ beyond. λ e. inl (beyond_own i r n l beyond))
own_round n i seen (Decided held) l = λ e. inl e

pub spoken_act : (n : ℕ) (name : ℕ → ℕ) (i : ℕ) (w : World) → Apart n name → i < n → Spoken n name w → Spoken n name (acts n name i w)
spoken_act n name i w apart low h =
    spoken_stepped n name i w (turn n i (seen_by name i w) (w.member (name i)).phase) apart low (own_round n i (seen_by name i w) (w.member (name i)).phase low) h
