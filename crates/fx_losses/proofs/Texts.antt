-- The messages of one ballot among texts, and what a step does to them.
use Rattle.std.proofs.Common.{◌≡◌, ℕ, ◌≢◌, ◌==◌, suc, Bool, true, false, cond, ◌&&◌, List, [], ◌∷◌, ◌++◌, Option, Some, None, inl, inr, arith, refl, subst, sym, ◌∙◌, ap}
use Rattle.std.specs.Prelude.{if◌then◌else◌, not}
use Rattle.std.proofs.lemmas.Bool.Decides.{nat_tests}
use Rattle.std.proofs.lemmas.Bool.{cases_eq}
use Rattle.fx_link.specs.declared.slot.Slot.{Slot}
use Rattle.fx_ballot.specs.declared.heard.Heard.{Heard}
use Rattle.fx_ballot.specs.Turn.{Message, Vote, Estimate, Leaving, hear, learn_loss}
use Rattle.fx_ballot.specs.World.{put, told_all}
use Rattle.fx_machine.specs.Nodes.{Node, Act}
use Rattle.fx_machine.specs.Reading.{given_that}
use Rattle.fx_machine.specs.Setup.{Setup}
use Rattle.fx_machine.specs.Texts as text
use Rattle.fx_machine.specs.Texts.{Text}
use Rattle.fx_fleet.specs.World.{World, up, sent_to, does}
use Rattle.fx_calm.proofs.Lists.{equal}

-- ---- lists

pub append_none : {X : Type 0} (xs : List X) → xs ++ [] ≡ xs
append_none [] = refl
append_none {X} (x ∷ xs) = ap (λ (ys : List X). x ∷ ys) (append_none xs)

pub put_same : {X : Type 0} (f : ℕ → X) (k : ℕ) (x : X) → put f k x k ≡ x
put_same f k x = grind (arith, nat_tests)

pub put_other : {X : Type 0} (f : ℕ → X) (k j : ℕ) (x : X) → j ≢ k → put f k x j ≡ f j
put_other f k j x ne = grind (arith, nat_tests)

-- ---- the messages of one ballot

-- what a text says in the ballot at the begin of an epoch
abbrev pub text_in : ℕ → Text → Option Message
text_in e (text.Join d x) = given_that (d == e) (Vote x)
text_in e (text.Jest d r slots) = given_that (d == e) (Estimate r slots)
text_in e other = None

abbrev pub with_front : Option Message → List Message → List Message
with_front None ms = ms
with_front (Some m) ms = m ∷ ms

-- the messages of that ballot
abbrev pub of_epoch : ℕ → List Text → List Message
of_epoch e [] = []
of_epoch e (t ∷ ts) = with_front (text_in e t) (of_epoch e ts)

abbrev pub heard_of : List Message → Heard → Heard
heard_of [] h = h
heard_of (x ∷ xs) h = heard_of xs (hear x h)

abbrev pub knowing : Bool → Heard
knowing lost = record { vote = None; estimate = None; lost = lost; left = false }

-- what a node has heard of a process in it
abbrev pub shown : ℕ → Node → ℕ → Heard
shown e n c = heard_of (of_epoch e (n.texts c)) (knowing (n.lost c))

front_append : (o : Option Message) (xs ys : List Message) → with_front o (xs ++ ys) ≡ with_front o xs ++ ys
front_append None xs ys = refl
front_append (Some x) xs ys = refl

pub of_append : (e : ℕ) (xs ys : List Text) → of_epoch e (xs ++ ys) ≡ of_epoch e xs ++ of_epoch e ys
of_append e [] ys = refl
of_append e (t ∷ ts) ys = ap (with_front (text_in e t)) (of_append e ts ys) ∙ front_append (text_in e t) (of_epoch e ts) (of_epoch e ys)

pub heard_append : (xs ys : List Message) (h : Heard) → heard_of (xs ++ ys) h ≡ heard_of ys (heard_of xs h)
heard_append [] ys h = refl
heard_append (x ∷ xs) ys h = heard_append xs ys (hear x h)

pub lost_later : (xs : List Message) (h : Heard) → heard_of xs (learn_loss h) ≡ learn_loss (heard_of xs h)
lost_later [] h = refl
lost_later (Vote v ∷ xs) h = lost_later xs (hear (Vote v) h)
lost_later (Estimate r v ∷ xs) h = lost_later xs (hear (Estimate r v) h)
lost_later (Leaving ∷ xs) h = lost_later xs (hear Leaving h)

-- what was heard first stays
vote_kept : (xs : List Message) (h : Heard) (v : Slot) → h.vote ≡ Some v → (heard_of xs h).vote ≡ Some v
vote_kept [] h v e = e
vote_kept (Vote x ∷ xs) h v e = vote_kept xs (hear (Vote x) h) v (earliest_kept h.vote x e)
  where
    earliest_kept : (o : Option Slot) (x : Slot) → o ≡ Some v → (hear (Vote x) (record h { vote = o })).vote ≡ Some v
    earliest_kept None x e = absurd (let bad : None ≡ Some v = e in cc)
    earliest_kept (Some y) x e = e
vote_kept (Estimate r x ∷ xs) h v e = vote_kept xs (hear (Estimate r x) h) v e
vote_kept (Leaving ∷ xs) h v e = vote_kept xs (hear Leaving h) v e

estimate_kept : (xs : List Message) (h : Heard) (v : List Slot) → h.estimate ≡ Some v → (heard_of xs h).estimate ≡ Some v
estimate_kept [] h v e = e
estimate_kept (Vote x ∷ xs) h v e = estimate_kept xs (hear (Vote x) h) v e
estimate_kept (Estimate r x ∷ xs) h v e = estimate_kept xs (hear (Estimate r x) h) v (earliest_kept h.estimate e)
  where
    earliest_kept : (o : Option (List Slot)) → o ≡ Some v → (hear (Estimate r x) (record h { estimate = o })).estimate ≡ Some v
    earliest_kept None e = absurd (let bad : None ≡ Some v = e in cc)
    earliest_kept (Some y) e = e
estimate_kept (Leaving ∷ xs) h v e = estimate_kept xs (hear Leaving h) v e

pub this_vote : (d : ℕ) (x : Slot) → of_epoch (suc d) (text.Join (suc d) x ∷ []) ≡ Vote x ∷ []
this_vote d x = grind (arith, nat_tests)

pub other_vote : (d e : ℕ) (x : Slot) → e ≢ d → of_epoch (suc e) (text.Join (suc d) x ∷ []) ≡ []
other_vote d e x ne = grind (arith, nat_tests)

pub this_estimate : (d r : ℕ) (slots : List Slot) → of_epoch (suc d) (text.Jest (suc d) r slots ∷ []) ≡ Estimate r slots ∷ []
this_estimate d r slots = grind (arith, nat_tests)

pub other_estimate : (d e r : ℕ) (slots : List Slot) → e ≢ d → of_epoch (suc e) (text.Jest (suc d) r slots ∷ []) ≡ []
other_estimate d e r slots ne = grind (arith, nat_tests)

-- ---- what a step says

-- The node keeps what it says itself behind its own texts, and says it to the others that the test picks. What it says beside that is of no ballot
-- at the begin of an epoch. Of others nothing changes, and of nobody's loss it learns.
pub record Acted (p : ℕ) (n : Node) (act : Act) (said : List Text) (to : ℕ → Bool) : Type 0 where
  pub own : act.node.texts p ≡ n.texts p ++ said
  pub other : (c : ℕ) → c ≢ p → act.node.texts c ≡ n.texts c
  pub lost : (c : ℕ) → act.node.lost c ≡ n.lost c
  pub sends : (e b : ℕ) → b ≢ p → of_epoch e (sent_to b act.sends) ≡ (if to b then of_epoch e said else [])

shown_from : (e : ℕ) (n m : Node) (c : ℕ) → m.texts c ≡ n.texts c → m.lost c ≡ n.lost c → shown e m c ≡ shown e n c
shown_from e n m c k t = ap (λ (xs : List Text). heard_of (of_epoch e xs) (knowing (m.lost c))) k ∙ ap (λ b. heard_of (of_epoch e (n.texts c)) (knowing b)) t

module _ (p : ℕ) (n : Node) (act : Act) (said : List Text) (to : ℕ → Bool) (a : Acted p n act said to) where
  pub shown_rest : (e c : ℕ) → c ≢ p → shown e act.node c ≡ shown e n c
  shown_rest e c ne = shown_from e n act.node c (a.other c ne) (a.lost c)

  pub shown_own : (e : ℕ) → shown e act.node p ≡ heard_of (of_epoch e said) (shown e n p)
  shown_own e =
      ap (λ (xs : List Text). heard_of (of_epoch e xs) (knowing (act.node.lost p))) a.own
      ∙ ap (λ (xs : List Message). heard_of xs (knowing (act.node.lost p))) (of_append e (n.texts p) said)
      ∙ heard_append (of_epoch e (n.texts p)) (of_epoch e said) (knowing (act.node.lost p))
      ∙ ap (λ b. heard_of (of_epoch e said) (heard_of (of_epoch e (n.texts p)) (knowing b))) (a.lost p)

  pub shown_quiet : (e c : ℕ) → of_epoch e said ≡ [] → shown e act.node c ≡ shown e n c
  shown_quiet e c none = elim (cases_eq c p) [
    | inl same ↦ subst (λ z. shown e act.node z ≡ shown e n z) (sym same) (shown_own e ∙ ap (λ (xs : List Message). heard_of xs (shown e n p)) none)
    | inr ne ↦ shown_rest e c ne
  ]

  -- its own vote and estimate stay
  pub own_vote_stays : (e : ℕ) (v : Slot) → (shown e n p).vote ≡ Some v → (shown e act.node p).vote ≡ Some v
  own_vote_stays e v k = ap (λ (h : Heard). h.vote) (shown_own e) ∙ vote_kept (of_epoch e said) (shown e n p) v k

  pub own_estimate_stays : (e : ℕ) (v : List Slot) → (shown e n p).estimate ≡ Some v → (shown e act.node p).estimate ≡ Some v
  own_estimate_stays e v k = ap (λ (h : Heard). h.estimate) (shown_own e) ∙ estimate_kept (of_epoch e said) (shown e n p) v k

-- ---- links

pub told_none : (to : ℕ → Bool) (link : ℕ → ℕ → List Message) (p a b : ℕ) → told_all to link p [] a b ≡ link a b
told_none to link p a b = both ((a == p) && (to b && not (b == p))) (link a b)
  where
    both : (t : Bool) (l : List Message) → cond t (l ++ []) l ≡ l
    both true l = append_none l
    both false l = refl

-- what is under way in one ballot behind a step
pub link_shows : (s : Setup) (e p : ℕ) (n : Node) (act : Act) (said : List Text) (to : ℕ → Bool) (w : World) (link : ℕ → ℕ → List Message) (a b : ℕ) → Acted p n act said to → a ≢ b
    → up s w b ≡ true → link a b ≡ of_epoch e (w.link a b) → told_all to link p (of_epoch e said) a b ≡ of_epoch e ((does s p act w).link a b)
link_shows s e p n act said to w link a b acted ne u h = of (a == p) refl
  where
    differ : (c d : ℕ) → c ≢ d → (c == d) ≡ false
    differ c d ne = grind (arith, nat_tests)

    said_too : (t : Bool) → of_epoch e (sent_to b act.sends) ≡ (if t then of_epoch e said else [])
        → cond t (link a b ++ of_epoch e said) (link a b) ≡ of_epoch e (w.link a b ++ sent_to b act.sends)
    said_too true k = ap (λ (l : List Message). l ++ of_epoch e said) h ∙ ap (λ (l : List Message). of_epoch e (w.link a b) ++ l) (sym k) ∙ sym (of_append e (w.link a b) (sent_to b act.sends))
    said_too false k = h ∙ sym (append_none (of_epoch e (w.link a b))) ∙ ap (λ (l : List Message). of_epoch e (w.link a b) ++ l) (sym k) ∙ sym (of_append e (w.link a b) (sent_to b act.sends))

    both : (t same v : Bool) → same ≡ false → v ≡ true → of_epoch e (sent_to b act.sends) ≡ (if t then of_epoch e said else [])
        → cond (t && not same) (link a b ++ of_epoch e said) (link a b) ≡ of_epoch e (if v then w.link a b ++ sent_to b act.sends else w.link a b)
    both true false true x y k = said_too true k
    both false same true x y k = said_too false k
    both t true v x y k = absurd (let bad : true ≡ false = x in cc)
    both t same false x y k = absurd (let bad : false ≡ true = y in cc)

    of : (m : Bool) → (a == p) ≡ m → cond (m && (to b && not (b == p))) (link a b ++ of_epoch e said) (link a b) ≡ of_epoch e (if m && up s w b then w.link a b ++ sent_to b act.sends else w.link a b)
    of true same =
        let far : b ≢ p = λ eq. ne (equal a p same ∙ sym eq) in
        both (to b) (b == p) (up s w b) (differ b p far) u (acted.sends e b far)
    of false same = h
