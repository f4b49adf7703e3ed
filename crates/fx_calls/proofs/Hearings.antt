-- What a node reads in the ballot of its call was said there.
use Rattle.std.proofs.Common.{◌≡◌, ℕ, ◌==◌, Bool, true, false, ◌&&◌, ◌||◌, List, [], ◌∷◌, Option, Some, None, inl, inr, arith, refl, ap, sym, subst, ◌∙◌}
use Rattle.std.specs.Option.{option_or}
use Rattle.std.proofs.lemmas.Bool.Decides.{nat_tests}
use Rattle.std.proofs.lemmas.Bool.{cases_eq}
use Rattle.fx_ballot.specs.Laws.{vote_of, estimate_of}
use Rattle.fx_ballot.specs.Names.{seat_of}
use Rattle.fx_ballot.specs.World.{Member}
use Rattle.fx_ballot.specs.World as ballot
use Rattle.fx_link.specs.declared.slot.Slot.{Slot}
use Rattle.fx_walk.specs.declared.wanted.Wanted.{Wanted}
use Rattle.fx_machine.specs.Nodes.{Node, members}
use Rattle.fx_machine.specs.Reading as reading
use Rattle.fx_machine.specs.Reading.{OfCall, given_that, only, first_read, vote_in, estimate_in, seen, fits}
use Rattle.fx_machine.specs.Texts as text
use Rattle.fx_machine.specs.Texts.{Text}
use Rattle.fx_machine.specs.Waits.{call_ballot}
use Rattle.fx_calm.proofs.Lists.{Each, each_weaker, equal}
use Rattle.fx_losses.proofs.Tests.{first_of, second_of}
use Rattle.fx_calls.proofs.Parts.{given_is, only_is}
use Rattle.fx_calls.proofs.Polls.{ReadsTrue, knowing, known_own, known_other}

-- the ballots of all calls
abbrev pub Polls : Type 0
Polls = (epoch call : ℕ) → ballot.World

-- a vote or an estimate of a call was said
abbrev pub TrueText : Polls → ℕ → Text → Type 0
TrueText polls a (text.Join e kind) = Unit {0}
TrueText polls a (text.Jest e r slots) = Unit {0}
TrueText polls a (text.Part e k values) = Unit {0}
TrueText polls a (text.Vote e k x) = vote_of (polls e k) a ≡ Some x
TrueText polls a (text.Est e k r slots) = estimate_of (polls e k) a ≡ Some slots
TrueText polls a (text.Share e k packed) = Unit {0}
TrueText polls a (text.Tell e k known) = Unit {0}
TrueText polls a (text.Help e k packed) = Unit {0}
TrueText polls a (text.Give e k packed) = Unit {0}

-- what was said stays said
pub record PollsGrow (polls now : Polls) : Type 0 where
  pub vote : (e k q : ℕ) (x : Slot) → vote_of (polls e k) q ≡ Some x → vote_of (now e k) q ≡ Some x
  pub estimate : (e k q : ℕ) (x : List Slot) → estimate_of (polls e k) q ≡ Some x → estimate_of (now e k) q ≡ Some x

pub polls_same : (polls : Polls) → PollsGrow polls polls
polls_same polls = record { vote = λ e k q x is. is; estimate = λ e k q x is. is }

pub text_grows : (polls now : Polls) → PollsGrow polls now → (a : ℕ) (t : Text) → TrueText polls a t → TrueText now a t
text_grows polls now g a (text.Join e kind) x = tt
text_grows polls now g a (text.Jest e r slots) x = tt
text_grows polls now g a (text.Part e k values) x = tt
text_grows polls now g a (text.Vote e k v) x = g.vote e k a v x
text_grows polls now g a (text.Est e k r slots) x = g.estimate e k a slots x
text_grows polls now g a (text.Share e k packed) x = tt
text_grows polls now g a (text.Tell e k known) x = tt
text_grows polls now g a (text.Help e k packed) x = tt
text_grows polls now g a (text.Give e k packed) x = tt

pub texts_grow : (polls now : Polls) → PollsGrow polls now → (a : ℕ) (ts : List Text) → Each (TrueText polls a) ts → Each (TrueText now a) ts
texts_grow polls now g a ts all = each_weaker (TrueText polls a) (TrueText now a) (text_grows polls now g a) ts all

-- ---- readings

pub vote_here : (polls : Polls) (e k a : ℕ) (t : Text) (x : Slot) → TrueText polls a t → vote_in (OfCall e k) t ≡ Some x → vote_of (polls e k) a ≡ Some x
vote_here polls e k a (text.Join d kind) x is at = absurd (let bad : None ≡ Some x = at in cc)
vote_here polls e k a (text.Jest d r slots) x is at = absurd (let bad : None ≡ Some x = at in cc)
vote_here polls e k a (text.Part d j values) x is at = absurd (let bad : None ≡ Some x = at in cc)
vote_here polls e k a (text.Vote d j v) x is at =
    let r = given_is ((d == e) && (j == k)) v x at in
    let epoch : d ≡ e = equal d e (first_of (d == e) (j == k) r.0) in
    let call : j ≡ k = equal j k (second_of (d == e) (j == k) r.0) in
    ap (λ (o : ℕ). vote_of (polls o k) a) (sym epoch) ∙ ap (λ (o : ℕ). vote_of (polls d o) a) (sym call) ∙ is ∙ ap Some r.1
vote_here polls e k a (text.Est d j r slots) x is at = absurd (let bad : None ≡ Some x = at in cc)
vote_here polls e k a (text.Share d j packed) x is at = absurd (let bad : None ≡ Some x = at in cc)
vote_here polls e k a (text.Tell d j known) x is at = absurd (let bad : None ≡ Some x = at in cc)
vote_here polls e k a (text.Help d j packed) x is at = absurd (let bad : None ≡ Some x = at in cc)
vote_here polls e k a (text.Give d j packed) x is at = absurd (let bad : None ≡ Some x = at in cc)

pub estimate_here : (polls : Polls) (e k r a : ℕ) (t : Text) (x : List Slot) → TrueText polls a t → estimate_in (OfCall e k) r t ≡ Some x → estimate_of (polls e k) a ≡ Some x
estimate_here polls e k r a (text.Join d kind) x is at = absurd (let bad : None ≡ Some x = at in cc)
estimate_here polls e k r a (text.Jest d q slots) x is at = absurd (let bad : None ≡ Some x = at in cc)
estimate_here polls e k r a (text.Part d j values) x is at = absurd (let bad : None ≡ Some x = at in cc)
estimate_here polls e k r a (text.Vote d j v) x is at = absurd (let bad : None ≡ Some x = at in cc)
estimate_here polls e k r a (text.Est d j q slots) x is at =
    let g = given_is ((d == e) && ((j == k) && (q == r))) slots x at in
    let epoch : d ≡ e = equal d e (first_of (d == e) ((j == k) && (q == r)) g.0) in
    let call : j ≡ k = equal j k (first_of (j == k) (q == r) (second_of (d == e) ((j == k) && (q == r)) g.0)) in
    ap (λ (o : ℕ). estimate_of (polls o k) a) (sym epoch) ∙ ap (λ (o : ℕ). estimate_of (polls d o) a) (sym call) ∙ is ∙ ap Some g.1
estimate_here polls e k r a (text.Share d j packed) x is at = absurd (let bad : None ≡ Some x = at in cc)
estimate_here polls e k r a (text.Tell d j known) x is at = absurd (let bad : None ≡ Some x = at in cc)
estimate_here polls e k r a (text.Help d j packed) x is at = absurd (let bad : None ≡ Some x = at in cc)
estimate_here polls e k r a (text.Give d j packed) x is at = absurd (let bad : None ≡ Some x = at in cc)

-- what is read among texts is what one of them says
read_one : {X : Type 0} (Is : X → Type 0) (read : Text → Option X) (Holds : Text → Type 0) → ((t : Text) (x : X) → Holds t → read t ≡ Some x → Is x) → (ts : List Text) (x : X) → Each Holds ts → first_read read ts ≡ Some x → Is x
read_one Is read Holds one [] x all e = absurd (let bad : None ≡ Some x = e in cc)
read_one Is read Holds one (t ∷ ts) x all e = of (read_one Is read Holds one ts x all.1) (read t) refl e
  where
    of : (first_read read ts ≡ Some x → Is x) → (o : Option _) → read t ≡ o → option_or o (first_read read ts) ≡ Some x → Is x
    of later None is e = later e
    of later (Some y) is e = one t x all.0 (is ∙ e)

pub vote_said : (polls : Polls) (e k a : ℕ) (test : Slot → Bool) (ts : List Text) (x : Slot) → Each (TrueText polls a) ts → first_read (λ t. only test (vote_in (OfCall e k) t)) ts ≡ Some x → vote_of (polls e k) a ≡ Some x
vote_said polls e k a test ts x all is =
    read_one (λ v. vote_of (polls e k) a ≡ Some v) (λ t. only test (vote_in (OfCall e k) t)) (TrueText polls a) (λ t v true_text at. vote_here polls e k a t v true_text (only_is test (vote_in (OfCall e k) t) v at)) ts x all is

pub estimate_said : (polls : Polls) (e k r a : ℕ) (test : List Slot → Bool) (ts : List Text) (x : List Slot) → Each (TrueText polls a) ts → first_read (λ t. only test (estimate_in (OfCall e k) r t)) ts ≡ Some x
    → estimate_of (polls e k) a ≡ Some x
estimate_said polls e k r a test ts x all is =
    read_one (λ v. estimate_of (polls e k) a ≡ Some v) (λ t. only test (estimate_in (OfCall e k) r t)) (TrueText polls a) (λ t v true_text at. estimate_here polls e k r a t v true_text (only_is test (estimate_in (OfCall e k) r t) v at)) ts x all is

-- one's own texts are read as they are
only_all : {X : Type 0} (test : X → Bool) (o : Option X) → ((x : X) → test x ≡ true) → only test o ≡ o
only_all test None all = refl
only_all test (Some x) all = ap (λ (b : Bool). given_that b x) (all x)

pub read_own : {X : Type 0} (test : X → Bool) (read : Text → Option X) (ts : List Text) → ((x : X) → test x ≡ true) → first_read (λ t. only test (read t)) ts ≡ first_read read ts
read_own test read [] all = refl
read_own {X} test read (t ∷ ts) all =
    ap (λ (o : Option X). option_or o (first_read (λ t. only test (read t)) ts)) (only_all test (read t) all) ∙ ap (λ (o : Option X). option_or (read t) o) (read_own test read ts all)

-- ---- what a node sees in the ballot of its call

pub record OwnWords (z : ballot.World) (p : ℕ) (n : Node) : Type 0 where
  pub vote : first_read (vote_in (OfCall n.epoch n.calls)) (n.texts p) ≡ vote_of z p
  pub estimate : first_read (estimate_in (OfCall n.epoch n.calls) (seat_of (members n) p)) (n.texts p) ≡ estimate_of z p
  pub untold : n.lost p ≡ false
  pub stayed : reading.has_left n p ≡ false
  pub unlost : ((z.member p).heard p).lost ≡ false
  pub unleft : ((z.member p).heard p).left ≡ false

module _ (polls : Polls) (n : Node) (p : ℕ) (own : n.me ≡ p) (v : Wanted) (texts : (c : ℕ) → Each (TrueText polls c) (n.texts c))
    (lost : (c : ℕ) → n.lost c ≡ true → ((polls n.epoch n.calls).member c).living ≡ false) (left : (c : ℕ) → reading.has_left n c ≡ true → ((polls n.epoch n.calls).member c).gone ≡ true) where
  abbrev z : ballot.World
  z = polls n.epoch n.calls

  pub reads_true : ReadsTrue (polls n.epoch n.calls) p (seen (call_ballot n v) n)
  reads_true = record {
    votes = λ c x is. vote_said polls n.epoch n.calls c (λ o. (c == n.me) || (call_ballot n v).is_vote o) (n.texts c) x (texts c) is;
    estimates = λ c x is. estimate_said polls n.epoch n.calls (seat_of (members n) c) c (λ o. (c == n.me) || fits (call_ballot n v) n o) (n.texts c) x (texts c) is;
    lost = lost;
    left = left;
  }

  itself : (b : Bool) → ((p == n.me) || b) ≡ true
  itself b = grind (arith, nat_tests, own)

  module _ (words : OwnWords (polls n.epoch n.calls) p n) where
    own_seen : (z.member p).heard p ≡ seen (call_ballot n v) n p
    own_seen = λ i. record {
      vote = (sym words.vote ∙ sym (read_own (λ o. (p == n.me) || (call_ballot n v).is_vote o) (vote_in (OfCall n.epoch n.calls)) (n.texts p) (λ x. itself ((call_ballot n v).is_vote x)))) i;
      estimate = (sym words.estimate ∙ sym (read_own (λ o. (p == n.me) || fits (call_ballot n v) n o) (estimate_in (OfCall n.epoch n.calls) (seat_of (members n) p)) (n.texts p) (λ x. itself (fits (call_ballot n v) n x)))) i;
      lost = (words.unlost ∙ sym words.untold) i;
      left = (words.unleft ∙ sym words.stayed) i;
    }

    pub all_seen : (c : ℕ) → ((knowing p (seen (call_ballot n v) n) (polls n.epoch n.calls)).member p).heard c ≡ seen (call_ballot n v) n c
    all_seen c = elim (cases_eq c p) [
      | inl same ↦ subst (λ o. ((knowing p (seen (call_ballot n v) n) z).member p).heard o ≡ seen (call_ballot n v) n o) (sym same) (known_own p (seen (call_ballot n v) n) z ∙ own_seen)
      | inr ne ↦ known_other p (seen (call_ballot n v) n) z c ne
    ]
