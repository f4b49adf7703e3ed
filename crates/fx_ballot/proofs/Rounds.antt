-- Who is past a round holds what the member of that round holds, while that member lives and hasn't left.
use Rattle.std.proofs.Common.{◌≡◌, ℕ, ◌<◌, ◌≤◌, ◌≢◌, suc, Bool, true, false, List, Some, arith, sym, ◌∙◌}
use Rattle.std.proofs.lemmas.Bool.Decides.{nat_tests}
use Rattle.fx_link.specs.declared.slot.Slot.{Slot}
use Rattle.fx_ballot.specs.Turn.{Phase, Outside, Voting, Round, Decided, Message, Vote, Estimate, Leaving}
use Rattle.fx_ballot.specs.World.{World, stays, enters, leaves, kills, tells, Apart}
use Rattle.fx_ballot.specs.Laws.{estimate_of, held, past}
use Rattle.fx_ballot.proofs.Grows.{goes, says, heard_by}
use Rattle.fx_ballot.proofs.Messages.{Said}

pub record Rounds (n : ℕ) (name : ℕ → ℕ) (w : World) : Type 0 where
  pub spoke : (c : ℕ) (s : List Slot) → c < n → estimate_of w (name c) ≡ Some s
      → (past c (w.member (name c)).phase ≡ true) × (held (w.member (name c)).phase ≡ Some s)
  pub agree : (b p : ℕ) → b < n → stays (w.member (name b)) ≡ true → past b (w.member p).phase ≡ true
      → (past b (w.member (name b)).phase ≡ true) × (held (w.member p).phase ≡ held (w.member (name b)).phase)
  pub one : (p q : ℕ) (f g : List Slot) → (w.member p).phase ≡ Decided f → (w.member q).phase ≡ Decided g → f ≡ g

-- no phase changed, nobody came back, and nobody said an estimate
pub record Still (w v : World) : Type 0 where
  pub phase : (p : ℕ) → (v.member p).phase ≡ (w.member p).phase
  pub stays : (p : ℕ) → stays (v.member p) ≡ true → stays (w.member p) ≡ true
  pub said : (c : ℕ) (s : List Slot) → estimate_of v c ≡ Some s → estimate_of w c ≡ Some s

rounds_still : (n : ℕ) (name : ℕ → ℕ) (w v : World) → Still w v → Rounds n name w → Rounds n name v
rounds_still n name w v t h = record {
  spoke = λ c s l e. grind (arith, h.spoke c s l (t.said (name c) s e), t.phase (name c));
  agree = λ b p l st e. grind (arith, h.agree b p l (t.stays (name b) st), t.phase p, t.phase (name b));
  one = λ p q f g a b. h.one p q f g (sym (t.phase p) ∙ a) (sym (t.phase q) ∙ b);
}

pub still_kill : (p : ℕ) (w : World) → Still w (kills p w)
still_kill p w = record { phase = λ q. grind (arith, nat_tests); stays = λ q e. grind (arith, nat_tests); said = λ c s e. grind (arith, nat_tests) }

pub rounds_kill : (n : ℕ) (name : ℕ → ℕ) (p : ℕ) (w : World) → Rounds n name w → Rounds n name (kills p w)
rounds_kill n name p w h =
    rounds_still n name w (kills p w)
    (still_kill p w) h

pub still_tell : (p q : ℕ) (w : World) → Still w (tells p q w)
still_tell p q w = record { phase = λ o. grind (arith, nat_tests); stays = λ o e. grind (arith, nat_tests); said = λ c s e. grind (arith, nat_tests) }

pub rounds_tell : (n : ℕ) (name : ℕ → ℕ) (p q : ℕ) (w : World) → Rounds n name w → Rounds n name (tells p q w)
rounds_tell n name p q w h =
    rounds_still n name w (tells p q w)
    (still_tell p q w) h

pub still_leave : (to : ℕ → Bool) (p : ℕ) (w : World) → Still w (leaves to p w)
still_leave to p w = record { phase = λ q. grind (arith, nat_tests); stays = λ q e. grind (arith, nat_tests); said = λ c s e. grind (arith, nat_tests) }

pub rounds_leave : (n : ℕ) (name : ℕ → ℕ) (to : ℕ → Bool) (p : ℕ) (w : World) → Rounds n name w → Rounds n name (leaves to p w)
rounds_leave n name to p w h =
    rounds_still n name w (leaves to p w)
    (still_leave to p w) h

pub still_hear : (link : ℕ → ℕ → List Message) (n : ℕ) (name : ℕ → ℕ) (a b : ℕ) (x : Message) (w : World) → Said n name w a x → Still w (heard_by link a b x w)
still_hear link n name a b (Vote s) w said =
    record { phase = λ q. grind (arith, nat_tests); stays = λ q e. grind (arith, nat_tests); said = λ c t e. grind (arith, nat_tests) }
still_hear link n name a b (Estimate r s) w said = record {
  phase = λ q. grind (arith, nat_tests);
  stays = λ q e. grind (arith, nat_tests);
  said = λ c t e. grind (arith, nat_tests, said.0);
}
still_hear link n name a b Leaving w said =
    record { phase = λ q. grind (arith, nat_tests); stays = λ q e. grind (arith, nat_tests); said = λ c t e. grind (arith, nat_tests) }

pub rounds_hear : (link : ℕ → ℕ → List Message) (n : ℕ) (name : ℕ → ℕ) (a b : ℕ) (x : Message) (w : World)
    → Said n name w a x → Rounds n name w → Rounds n name (heard_by link a b x w)
rounds_hear link n name a b x w said h = rounds_still n name w (heard_by link a b x w) (still_hear link n name a b x w said) h

-- a turn that changes no phase
pub rounds_wait : (link : ℕ → ℕ → List Message) (n : ℕ) (name : ℕ → ℕ) (p : ℕ) (phase : Phase) (w : World)
    → (w.member p).phase ≡ phase → Rounds n name w → Rounds n name (goes link p phase w)
rounds_wait link n name p phase w same h =
    rounds_still n name w (goes link p phase w)
    (record { phase = λ q. grind (arith, nat_tests, same); stays = λ q e. grind (arith, nat_tests); said = λ c s e. grind (arith, nat_tests) }) h

pub rounds_enter : (n : ℕ) (name : ℕ → ℕ) (to : ℕ → Bool) (p : ℕ) (vote : Slot) (w : World)
    → (w.member p).phase ≡ Outside → Rounds n name w → Rounds n name (enters to p vote w)
rounds_enter n name to p vote w out h = record {
  spoke = λ c s l e. grind (arith, nat_tests, out, h.spoke c s l);
  agree = λ b q l st e. grind (arith, nat_tests, out, h.agree b q l);
  one = λ q r f g a b. grind (arith, nat_tests, out, h.one q r f g);
}

-- the list of votes is made: nobody can be past the member's own round yet
pub rounds_form : (link : ℕ → ℕ → List Message) (n : ℕ) (name : ℕ → ℕ) (i : ℕ) (slots : List Slot) (w : World)
    → i < n → stays (w.member (name i)) ≡ true → (w.member (name i)).phase ≡ Voting
    → Rounds n name w → Rounds n name (goes link (name i) (Round 0 slots) w)
rounds_form link n name i slots w low here at h = record {
  spoke = λ c s l e. grind (arith, nat_tests, at, h.spoke c s l);
  agree = λ b q l st e. grind (arith, nat_tests, at, h.agree b q l);
  one = λ q r f g a b. grind (arith, nat_tests, at, h.one q r f g);
}

-- a member says its estimate in its own round
pub rounds_speak : (link : ℕ → ℕ → List Message) (n : ℕ) (name : ℕ → ℕ) (i : ℕ) (slots : List Slot) (w : World)
    → Apart n name → i < n → stays (w.member (name i)) ≡ true → (w.member (name i)).phase ≡ Round i slots
    → Rounds n name w → Rounds n name (says link (name i) (Round (suc i) slots) slots w)
rounds_speak link n name i slots w apart low here at h = record {
  spoke = λ c s l e. grind (arith, nat_tests, at, apart c i l low, h.spoke c s l);
  agree = λ b q l st e. grind (arith, nat_tests, at, apart b i l low, h.agree b q l, h.agree b (name i) l);
  one = λ q r f g a b. grind (arith, nat_tests, at, h.one q r f g);
}

-- a member passes the round of one that doesn't stay
pub rounds_pass : (link : ℕ → ℕ → List Message) (n : ℕ) (name : ℕ → ℕ) (i r : ℕ) (slots : List Slot) (w : World)
    → Apart n name → i < n → r < n → i ≢ r → stays (w.member (name i)) ≡ true → stays (w.member (name r)) ≡ false
    → (w.member (name i)).phase ≡ Round r slots
    → Rounds n name w → Rounds n name (goes link (name i) (Round (suc r) slots) w)
rounds_pass link n name i r slots w apart low lower other here away at h = record {
  spoke = λ c s l e. grind (arith, nat_tests, at, apart c i l low, h.spoke c s l);
  agree = λ b q l st e. grind (arith, nat_tests, at, apart b i l low, h.agree b q l, h.agree b (name i) l);
  one = λ q o f g a b. grind (arith, nat_tests, at, h.one q o f g);
}

-- a member adopts the estimate of another's round
pub rounds_adopt : (link : ℕ → ℕ → List Message) (n : ℕ) (name : ℕ → ℕ) (i r : ℕ) (old slots : List Slot) (w : World)
    → Apart n name → i < n → r < n → i ≢ r → stays (w.member (name i)) ≡ true
    → estimate_of w (name r) ≡ Some slots → (w.member (name i)).phase ≡ Round r old
    → Rounds n name w → Rounds n name (goes link (name i) (Round (suc r) slots) w)
rounds_adopt link n name i r old slots w apart low lower other here said at h = record {
  spoke = λ c s l e. grind (arith, nat_tests, at, apart c i l low, h.spoke c s l, h.spoke r slots lower said, h.agree i (name r) low here);
  agree = λ b q l st e. grind (arith, nat_tests, at, apart b i l low, apart b r l lower, h.agree b q l, h.agree b (name i) l, h.agree b (name r) l, h.agree i (name r) low here, h.spoke r slots lower said);
  one = λ q o f g a b. grind (arith, nat_tests, at, h.one q o f g);
}

-- a member decides: whoever decided before is past its round
pub rounds_decide : (link : ℕ → ℕ → List Message) (n : ℕ) (name : ℕ → ℕ) (i r : ℕ) (slots : List Slot) (w : World)
    → Apart n name → i < n → n ≤ r → stays (w.member (name i)) ≡ true → (w.member (name i)).phase ≡ Round r slots
    → Rounds n name w → Rounds n name (goes link (name i) (Decided slots) w)
rounds_decide link n name i r slots w apart low all here at h = record {
  spoke = λ c s l e. grind (arith, nat_tests, at, apart c i l low, h.spoke c s l);
  agree = λ b q l st e. grind (arith, nat_tests, at, apart b i l low, h.agree b q l, h.agree b (name i) l);
  one = λ q o f g a b. grind (arith, nat_tests, at, h.one q o f g, h.agree i q low here, h.agree i o low here);
}
