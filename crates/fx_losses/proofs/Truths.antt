-- All that is kept and all that is under way was said, whatever happens.
use Rattle.std.proofs.Common.{◌≡◌, ℕ, ◌==◌, suc, zero, Bool, true, ◌&&◌, List, [], ◌∷◌, ◌++◌, Option, Some, inl, inr, subst, sym, ◌∙◌, ap}
use Rattle.std.proofs.lemmas.Bool.{cases_eq}
use Rattle.fx_ballot.specs.declared.heard.Heard.{Heard}
use Rattle.fx_ballot.specs.Laws.{vote_of, estimate_of}
use Rattle.fx_ballot.specs.World.{Member, put, start, tells, kills}
use Rattle.fx_ballot.specs.World as ballot
use Rattle.fx_link.specs.declared.slot.Slot.{Slot}
use Rattle.fx_machine.specs.Nodes.{Node, Act, first_node, receives, is_told}
use Rattle.fx_machine.specs.Setup.{Setup}
use Rattle.fx_machine.specs.Texts as text
use Rattle.fx_machine.specs.Texts.{Text}
use Rattle.fx_fleet.specs.World.{World, first_world, up, sent_to, does, receives_front, learns, loses}
use Rattle.fx_calm.proofs.Lists.{Each, each_append, each_weaker, chosen, equal}
use Rattle.fx_losses.specs.Eras.{Era, first_era, era}
use Rattle.fx_losses.proofs.Moves.{Steps, at_one, one_here, one_far, each_node}
use Rattle.fx_losses.proofs.Shows.{Shows, IsVote, IsEstimate, IsTrue, Truthful}
use Rattle.fx_losses.proofs.Texts.{own_vote_stays, own_estimate_stays}
use Rattle.fx_losses.proofs.Tests.{first_of}

-- ---- what was said stays said

module _ (s : Setup) (z y : ℕ → ballot.World) (old fate : ℕ → Option (List Slot)) (votes : (d c : ℕ) (v : Slot) → vote_of (z d) c ≡ Some v → vote_of (y d) c ≡ Some v)
    (estimates : (d c : ℕ) (v : List Slot) → estimate_of (z d) c ≡ Some v → estimate_of (y d) c ≡ Some v) (grows : (d : ℕ) (x : Era) → era (first_era s) old d ≡ Some x → era (first_era s) fate d ≡ Some x) where
  vote_grows : (c : ℕ) (kind : Slot) (e : ℕ) → IsVote z c kind e → IsVote y c kind e
  vote_grows c kind zero is = is
  vote_grows c kind (suc d) is = votes d c kind is

  estimate_grows : (c r : ℕ) (slots : List Slot) (e : ℕ) → IsEstimate s z old c r slots e → IsEstimate s y fate c r slots e
  estimate_grows c r slots zero is = is
  estimate_grows c r slots (suc d) is = record { era_then = is.era_then; at = grows d is.era_then is.at; seated = is.seated; round = is.round; said = estimates d c slots is.said }

  text_grows : (c : ℕ) (t : Text) → IsTrue s z old c t → IsTrue s y fate c t
  text_grows c (text.Join e kind) is = vote_grows c kind e is
  text_grows c (text.Jest e r slots) is = estimate_grows c r slots e is
  text_grows c (text.Part e k values) is = tt
  text_grows c (text.Vote e k x) is = tt
  text_grows c (text.Est e k r slots) is = tt
  text_grows c (text.Share e k packed) is = tt
  text_grows c (text.Tell e k known) is = tt
  text_grows c (text.Help e k packed) is = tt
  text_grows c (text.Give e k packed) is = tt

  texts_grow : (c : ℕ) (ts : List Text) → Each (IsTrue s z old c) ts → Each (IsTrue s y fate c) ts
  texts_grow c ts all = each_weaker (IsTrue s z old c) (IsTrue s y fate c) (text_grows c) ts all

  pub truthful_grows : (w : World) → Truthful s w z old → Truthful s w y fate
  truthful_grows w h = record { texts = λ q c. texts_grow c ((w.node q).texts c) (h.texts q c); links = λ a b. texts_grow a (w.link a b) (h.links a b) }

-- where each has of itself what it had
pub truthful_same : (s : Setup) (z y : ℕ → ballot.World) (fate : ℕ → Option (List Slot)) (w : World) → ((d q : ℕ) → ((y d).member q).heard q ≡ ((z d).member q).heard q) → Truthful s w z fate → Truthful s w y fate
truthful_same s z y fate w own h =
    truthful_grows s z y fate fate (λ d c v e. ap (λ (x : Heard). x.vote) (own d c) ∙ e) (λ d c v e. ap (λ (x : Heard). x.estimate) (own d c) ∙ e) (λ d x e. e) w h

-- ---- a step

module _ (s : Setup) (p : ℕ) (act : Act) (said : List Text) (to : ℕ → Bool) (w : World) (z : ℕ → ballot.World) (old fate : ℕ → Option (List Slot)) (y : ballot.World) (here : up s w p ≡ true)
    (t : Steps s p act said to w z y) (h : Shows s w z old) (grows : (d : ℕ) (x : Era) → era (first_era s) old d ≡ Some x → era (first_era s) fate d ≡ Some x) where
  abbrev n : Node
  n = w.node p

  abbrev d : ℕ
  d = n.epoch

  abbrev now : ℕ → ballot.World
  now = at_one d y z

  own_votes : (c : ℕ) (v : Slot) → vote_of (z d) c ≡ Some v → vote_of y c ≡ Some v
  own_votes c v e = elim (cases_eq c p) [
    | inl same ↦ subst (λ o. vote_of y o ≡ Some v) (sym same)
        (ap (λ (x : Heard). x.vote) (t.here.heard p)
        ∙ own_vote_stays p n act said to t.acted (suc d) v (ap (λ (x : Heard). x.vote) (sym ((h.at d).heard p p here)) ∙ subst (λ o. vote_of (z d) o ≡ Some v) same e))
    | inr ne ↦ ap (λ (m : Member). (m.heard c).vote) (t.here.other c ne) ∙ e
  ]

  own_estimates : (c : ℕ) (v : List Slot) → estimate_of (z d) c ≡ Some v → estimate_of y c ≡ Some v
  own_estimates c v e = elim (cases_eq c p) [
    | inl same ↦ subst (λ o. estimate_of y o ≡ Some v) (sym same)
        (ap (λ (x : Heard). x.estimate) (t.here.heard p)
        ∙ own_estimate_stays p n act said to t.acted (suc d) v (ap (λ (x : Heard). x.estimate) (sym ((h.at d).heard p p here)) ∙ subst (λ o. estimate_of (z d) o ≡ Some v) same e))
    | inr ne ↦ ap (λ (m : Member). (m.heard c).estimate) (t.here.other c ne) ∙ e
  ]

  votes_grow : (e c : ℕ) (v : Slot) → vote_of (z e) c ≡ Some v → vote_of (now e) c ≡ Some v
  votes_grow e c v is = elim (cases_eq e d) [
    | inl same ↦ subst (λ o. vote_of (now o) c ≡ Some v) (sym same) (ap (λ (x : ballot.World). vote_of x c) (one_here d y z) ∙ own_votes c v (subst (λ o. vote_of (z o) c ≡ Some v) same is))
    | inr ne ↦ ap (λ (x : ballot.World). vote_of x c) (one_far d e y z ne) ∙ is
  ]

  estimates_grow : (e c : ℕ) (v : List Slot) → estimate_of (z e) c ≡ Some v → estimate_of (now e) c ≡ Some v
  estimates_grow e c v is = elim (cases_eq e d) [
    | inl same ↦ subst (λ o. estimate_of (now o) c ≡ Some v) (sym same) (ap (λ (x : ballot.World). estimate_of x c) (one_here d y z) ∙ own_estimates c v (subst (λ o. estimate_of (z o) c ≡ Some v) same is))
    | inr ne ↦ ap (λ (x : ballot.World). estimate_of x c) (one_far d e y z ne) ∙ is
  ]

  pub truthful_step : Each (IsTrue s (at_one (w.node p).epoch y z) fate p) said → ((b : ℕ) → Each (IsTrue s (at_one (w.node p).epoch y z) fate p) (sent_to b act.sends))
      → Truthful s w z old → Truthful s (does s p act w) (at_one (w.node p).epoch y z) fate
  truthful_step saying sending before = record {
    texts = λ q c. each_node s p act w (λ o m. Each (IsTrue s now fate c) (m.texts c))
        (elim (cases_eq c p) [
          | inl same ↦ subst (λ o. Each (IsTrue s now fate o) (act.node.texts o)) (sym same) (subst (Each (IsTrue s now fate p)) (sym t.acted.own) (each_append (IsTrue s now fate p) (n.texts p) said (after.texts p p) saying))
          | inr ne ↦ subst (Each (IsTrue s now fate c)) (sym (t.acted.other c ne)) (after.texts p c)
        ]) (λ o ne. after.texts o c) q;
    links = λ a b. chosen (Each (IsTrue s now fate a)) ((a == p) && up s w b) (w.link a b ++ sent_to b act.sends) (w.link a b)
        (λ e. each_append (IsTrue s now fate a) (w.link a b) (sent_to b act.sends) (after.links a b)
        (subst (λ o. Each (IsTrue s now fate o) (sent_to b act.sends)) (sym (equal a p (first_of (a == p) (up s w b) e))) (sending b)))
        (λ e. after.links a b);
  }
    where
      after : Truthful s w (at_one (w.node p).epoch y z) fate
      after = truthful_grows s z now old fate votes_grow estimates_grow grows w before

-- a text of one of them that is true is true in all that is sent of it
pub sent_true : (Is : Text → Type 0) (b : ℕ) (sends : List (ℕ × Text)) → Each (λ (x : ℕ × Text). Is x.1) sends → Each Is (sent_to b sends)
sent_true Is b [] all = tt
sent_true Is b (x ∷ xs) all = chosen (Each Is) (x.0 == b) (x.1 ∷ sent_to b xs) (sent_to b xs) (λ e. (all.0, sent_true Is b xs all.1)) (λ e. sent_true Is b xs all.1)

-- ---- events

pub truthful_receives : (s : Setup) (z : ℕ → ballot.World) (fate : ℕ → Option (List Slot)) (a b : ℕ) (t : Text) (rest : List Text) (w : World) → w.link a b ≡ t ∷ rest
    → Truthful s w z fate → Truthful s (receives_front a b (t ∷ rest) w) z fate
truthful_receives s z fate a b t rest w front h = record {
  texts = λ q c. chosen (λ (m : Node). Each (IsTrue s z fate c) (m.texts c)) (q == b) (receives a t (w.node b)) (w.node q) (λ e. received c) (λ e. h.texts q c);
  links = λ c q. chosen (Each (IsTrue s z fate c)) ((c == a) && (q == b)) rest (w.link c q)
      (λ e. subst (λ o. Each (IsTrue s z fate o) rest) (sym (equal c a (first_of (c == a) (q == b) e))) under.1) (λ e. h.links c q);
}
  where
    under : Each (IsTrue s z fate a) (t ∷ rest)
    under = subst (Each (IsTrue s z fate a)) front (h.links a b)

    kept : (c : ℕ) → Each (IsTrue s z fate c) (put (w.node b).texts a ((w.node b).texts a ++ t ∷ []) c)
    kept c = chosen (Each (IsTrue s z fate c)) (c == a) ((w.node b).texts a ++ t ∷ []) ((w.node b).texts c)
        (λ e. subst (λ o. Each (IsTrue s z fate o) ((w.node b).texts a ++ t ∷ [])) (sym (equal c a e)) (each_append (IsTrue s z fate a) ((w.node b).texts a) (t ∷ []) (h.texts b a) (under.0, tt))) (λ e. h.texts b c)

    received : (c : ℕ) → Each (IsTrue s z fate c) ((receives a t (w.node b)).texts c)
    received c = chosen (λ (f : ℕ → List Text). Each (IsTrue s z fate c) (f c)) (a == (w.node b).me) (w.node b).texts (put (w.node b).texts a ((w.node b).texts a ++ t ∷ [])) (λ e. h.texts b c) (λ e. kept c)

pub truthful_learns : (s : Setup) (z : ℕ → ballot.World) (fate : ℕ → Option (List Slot)) (a b : ℕ) (w : World) → Truthful s w z fate → Truthful s (learns a b w) z fate
truthful_learns s z fate a b w h = record {
  texts = λ q c. chosen (λ (m : Node). Each (IsTrue s z fate c) (m.texts c)) (q == b) (is_told a (w.node b)) (w.node q) (λ e. h.texts b c) (λ e. h.texts q c);
  links = λ c q. chosen (Each (IsTrue s z fate c)) ((c == a) && (q == b)) [] (w.link c q) (λ e. tt) (λ e. h.links c q);
}

pub truthful_loses : (s : Setup) (z : ℕ → ballot.World) (fate : ℕ → Option (List Slot)) (p : ℕ) (w : World) → Truthful s w z fate → Truthful s (loses s p w) z fate
truthful_loses s z fate p w h = record {
  texts = λ q c. chosen (λ (m : Node). Each (IsTrue s z fate c) (m.texts c)) (q == p) (first_node s p) (w.node q) (λ e. tt) (λ e. h.texts q c);
  links = λ a b. chosen (Each (IsTrue s z fate a)) (b == p) [] (w.link a b) (λ e. tt) (λ e. h.links a b);
}

pub truthful_first : (s : Setup) (z : ℕ → ballot.World) (fate : ℕ → Option (List Slot)) → Truthful s (first_world s) z fate
truthful_first s z fate = record { texts = λ q c. tt; links = λ a b. tt }
