-- What is kept reads as what was sent and told: what is past is never read, and forgetting twice is forgetting later.
use Rattle.std.proofs.Common.{◌≡◌, inl, inr, ◌≤◌, ℕ, ℤ, suc, Bool, true, false, not, cond, ◌&&◌, ◌||◌, ◌==◌, List, [], ◌∷◌, ◌++◌, map, length, replicate, take, drop, Option, None, refl, sym, ap, ◌∙◌, subst, arith}
use Rattle.std.specs.Prelude.{slice_get, slice_index_or}
use Rattle.std.specs.Cmp.{nat_cmp_total, unsigned_tied}
use Rattle.std.specs.FinSet as set
use Rattle.std.specs.List.{filter, list_all, list_any}
use Rattle.std.specs.Ordering.{nat_cmp}
use Rattle.std.proofs.lemmas.Bool.Decides.{nat_tests}
use Rattle.std.proofs.lemmas.Bool.{cases_lt, or_parts}
use Rattle.std.proofs.lemmas.List.{append-nil, drop_all, get_or-replicate, get_or_past, length-replicate, take_all}
use Rattle.std.proofs.Math.ListN as lists
use Rattle.fx_link.specs.declared.message.Message.{Message}
use Rattle.fx_link.specs.declared.slot.Slot.{Slot}
use Rattle.fx_machine.specs.Messages.{wire_text}
use Rattle.fx_ballot.specs.Names.{seat_of}
use Rattle.fx_ballot.specs.World.{put}
use Rattle.fx_machine.specs.Nodes.{Node}
use Rattle.fx_machine.specs.Reading.{About, Ballot, OfCall, OfEpoch, first_read, only, part_in, is_past_at, vote_in, estimate_in, are_same, fits, may_stand, vote_of, estimate_of}
use Rattle.fx_machine.specs.Texts.{Text, Join, Jest, Part, Vote, Est, Share, Tell, Help, Give}
use Rattle.fx_inbox.specs.Ballots.{IsNow, about_of, ballot_of}
use Rattle.fx_inbox.specs.declared.ballot.Ballot.{Ballot as Described}
use Rattle.fx_inbox.specs.declared.estimate.Measure.{Measure}
use Rattle.fx_inbox.specs.Keeping.{Kept, Knows, IsInboxOf, current, goes_on, part_from, texts_from}
use Rattle.fx_inbox.specs.Measures.{is_estimate_in, is_fit}

-- ---- filters

-- a filter behind a weaker one
pub filter_twice : {X : Type 0} (p q : X → Bool) (xs : List X) → ((x : X) → q x ≡ true → p x ≡ true) → filter q (filter p xs) ≡ filter q xs
filter_twice p q [] weaker = refl
filter_twice p q (x ∷ xs) weaker = grind (arith, nat_tests, weaker x, filter_twice p q xs weaker)

-- what isn't read may be left out
pub read_kept : {X : Type 0} (read : Text → Option X) (p : Text → Bool) (ts : List Text) → ((t : Text) → p t ≡ false → read t ≡ None)
    → first_read read (filter p ts) ≡ first_read read ts
read_kept read p [] unread = refl
read_kept read p (t ∷ ts) unread = grind (arith, nat_tests, unread t, read_kept read p ts unread)

pub filter_texts : (p : Text → Bool) (ms : List Message) → map wire_text (filter (λ m. p (wire_text m)) ms) ≡ filter p (map wire_text ms)
filter_texts p [] = refl
filter_texts p (m ∷ ms) = grind (arith, nat_tests, filter_texts p ms)

-- ---- what is past

pub past_later : (before calls e k : ℕ) (t : Text) → goes_on before calls e k ≡ true → not (is_past_at e k t) ≡ true → not (is_past_at before calls t) ≡ true
past_later before calls e k (Join d x) on = grind (arith, nat_tests)
past_later before calls e k (Jest d r slots) on = grind (arith, nat_tests)
past_later before calls e k (Part d j values) on = grind (arith, nat_tests)
past_later before calls e k (Vote d j x) on = grind (arith, nat_tests)
past_later before calls e k (Est d j r slots) on = grind (arith, nat_tests)
past_later before calls e k (Share d j packed) on = grind (arith, nat_tests)
past_later before calls e k (Tell d j known) on = grind (arith, nat_tests)
past_later before calls e k (Help d j packed) on = grind (arith, nat_tests)
past_later before calls e k (Give d j packed) on = grind (arith, nat_tests)

no_join : (e k : ℕ) (test : Slot → Bool) (t : Text) → not (is_past_at e k t) ≡ false → only test (vote_in (OfEpoch (suc e)) t) ≡ None
no_join e k test (Join d x) = grind (arith, nat_tests)
no_join e k test (Jest d q slots) = λ h. refl
no_join e k test (Part d j values) = λ h. refl
no_join e k test (Vote d j x) = λ h. refl
no_join e k test (Est d j q slots) = λ h. refl
no_join e k test (Share d j packed) = λ h. refl
no_join e k test (Tell d j known) = λ h. refl
no_join e k test (Help d j packed) = λ h. refl
no_join e k test (Give d j packed) = λ h. refl

no_call_vote : (e k : ℕ) (test : Slot → Bool) (t : Text) → not (is_past_at e k t) ≡ false → only test (vote_in (OfCall e k) t) ≡ None
no_call_vote e k test (Join d x) = λ h. refl
no_call_vote e k test (Jest d q slots) = λ h. refl
no_call_vote e k test (Part d j values) = λ h. refl
no_call_vote e k test (Vote d j x) = grind (arith, nat_tests)
no_call_vote e k test (Est d j q slots) = λ h. refl
no_call_vote e k test (Share d j packed) = λ h. refl
no_call_vote e k test (Tell d j known) = λ h. refl
no_call_vote e k test (Help d j packed) = λ h. refl
no_call_vote e k test (Give d j packed) = λ h. refl

-- what is past is no vote in a ballot of now
pub no_vote : (e k : ℕ) (about : About) (test : Slot → Bool) (t : Text) → IsNow e k about → not (is_past_at e k t) ≡ false → only test (vote_in about t) ≡ None
no_vote e k (OfEpoch d) test t now past = ap (λ (d : ℕ). only test (vote_in (OfEpoch d) t)) now ∙ no_join e k test t past
no_vote e k (OfCall d j) test t now past = (λ i. only test (vote_in (OfCall (now.0 i) (now.1 i)) t)) ∙ no_call_vote e k test t past

no_joint_estimate : (e k r : ℕ) (test : List Slot → Bool) (t : Text) → not (is_past_at e k t) ≡ false → only test (estimate_in (OfEpoch (suc e)) r t) ≡ None
no_joint_estimate e k r test (Join d x) = λ h. refl
no_joint_estimate e k r test (Jest d q slots) = grind (arith, nat_tests)
no_joint_estimate e k r test (Part d j values) = λ h. refl
no_joint_estimate e k r test (Vote d j x) = λ h. refl
no_joint_estimate e k r test (Est d j q slots) = λ h. refl
no_joint_estimate e k r test (Share d j packed) = λ h. refl
no_joint_estimate e k r test (Tell d j known) = λ h. refl
no_joint_estimate e k r test (Help d j packed) = λ h. refl
no_joint_estimate e k r test (Give d j packed) = λ h. refl

no_call_estimate : (e k r : ℕ) (test : List Slot → Bool) (t : Text) → not (is_past_at e k t) ≡ false → only test (estimate_in (OfCall e k) r t) ≡ None
no_call_estimate e k r test (Join d x) = λ h. refl
no_call_estimate e k r test (Jest d q slots) = λ h. refl
no_call_estimate e k r test (Part d j values) = λ h. refl
no_call_estimate e k r test (Vote d j x) = λ h. refl
no_call_estimate e k r test (Est d j q slots) = grind (arith, nat_tests)
no_call_estimate e k r test (Share d j packed) = λ h. refl
no_call_estimate e k r test (Tell d j known) = λ h. refl
no_call_estimate e k r test (Help d j packed) = λ h. refl
no_call_estimate e k r test (Give d j packed) = λ h. refl

-- what is past is no estimate in a ballot of now
pub no_estimate : (e k : ℕ) (about : About) (r : ℕ) (test : List Slot → Bool) (t : Text) → IsNow e k about → not (is_past_at e k t) ≡ false → only test (estimate_in about r t) ≡ None
no_estimate e k (OfEpoch d) r test t now past = ap (λ (d : ℕ). only test (estimate_in (OfEpoch d) r t)) now ∙ no_joint_estimate e k r test t past
no_estimate e k (OfCall d j) r test t now past = (λ i. only test (estimate_in (OfCall (now.0 i) (now.1 i)) r t)) ∙ no_call_estimate e k r test t past

pub no_part : (e k : ℕ) (test : List ℤ → Bool) (t : Text) → not (is_past_at e k t) ≡ false → only test (part_in e k t) ≡ None
no_part e k test (Join d x) = λ h. refl
no_part e k test (Jest d r slots) = λ h. refl
no_part e k test (Part d j values) = grind (arith, nat_tests)
no_part e k test (Vote d j x) = λ h. refl
no_part e k test (Est d j r slots) = λ h. refl
no_part e k test (Share d j packed) = λ h. refl
no_part e k test (Tell d j known) = λ h. refl
no_part e k test (Help d j packed) = λ h. refl
no_part e k test (Give d j packed) = λ h. refl

-- ---- what is read of texts whose currents are the same

pub reads_alike : {X : Type 0} (e k : ℕ) (read : Text → Option X) (xs ys : List Text) → ((t : Text) → not (is_past_at e k t) ≡ false → read t ≡ None)
    → current e k xs ≡ current e k ys → first_read read xs ≡ first_read read ys
reads_alike e k read xs ys unread same =
    sym (read_kept read (λ t. not (is_past_at e k t)) xs unread)
    ∙ ap (λ (ts : List Text). first_read read ts) same
    ∙ read_kept read (λ t. not (is_past_at e k t)) ys unread

pub votes_alike : (n : Node) (box : Kept) (b : Ballot) (q : ℕ) → IsInboxOf n box → IsNow n.epoch n.calls b.about
    → first_read (λ t. only (λ x. (q == box.me) || b.is_vote x) (vote_in b.about t)) (texts_from box q) ≡ vote_of b n q
votes_alike n box b q know now =
    (λ i. first_read (λ t. only (λ x. (q == know.same i) || b.is_vote x) (vote_in b.about t)) (texts_from box q))
    ∙ reads_alike n.epoch n.calls (λ t. only (λ x. (q == n.me) || b.is_vote x) (vote_in b.about t)) (texts_from box q) (n.texts q)
    (λ t. no_vote n.epoch n.calls b.about (λ x. (q == n.me) || b.is_vote x) t now) (know.heard q)

-- ---- estimates

pub fits_alike : (n : Node) (d : Described) (w : Measure) (slots : List Slot) → w.seat ≡ seat_of d.members.now n.me → w.vote ≡ vote_of (ballot_of d) n n.me
    → is_fit d w slots ≡ fits (ballot_of d) n slots
fits_alike n d w slots seat vote = λ i.
    (length slots == length d.members.now) && (list_all (may_stand (ballot_of d)) slots && are_same (slice_get slots (seat i)) (vote i))

pub estimates_alike : (n : Node) (box : Kept) (d : Described) (w : Measure) (own : Bool) (q r : ℕ) → IsInboxOf n box → IsNow n.epoch n.calls (about_of d.about)
    → w.seat ≡ seat_of d.members.now n.me → w.vote ≡ vote_of (ballot_of d) n n.me → own ≡ (q == n.me) → r ≡ seat_of d.members.now q
    → first_read (λ t. only (λ slots. own || is_fit d w slots) (estimate_in (about_of d.about) r t)) (texts_from box q) ≡ estimate_of (ballot_of d) n q
estimates_alike n box d w own q r know now seat vote mine round =
    (λ i. first_read (λ t. only (λ slots. mine i || fits_alike n d w slots seat vote i) (estimate_in (about_of d.about) (round i) t)) (texts_from box q))
    ∙ reads_alike n.epoch n.calls (λ t. only (λ slots. (q == n.me) || fits (ballot_of d) n slots) (estimate_in (about_of d.about) (seat_of d.members.now q) t)) (texts_from box q) (n.texts q)
    (λ t. no_estimate n.epoch n.calls (about_of d.about) (seat_of d.members.now q) (λ slots. (q == n.me) || fits (ballot_of d) n slots) t now) (know.heard q)

-- a text that is no estimate of this ballot tells none, of whatever round
tells_none : (about : About) (r : ℕ) (t : Text) → is_estimate_in about t ≡ false → estimate_in about r t ≡ None
tells_none (OfEpoch e) r (Join d x) other = refl
tells_none (OfEpoch e) r (Jest d q slots) other = rw other refl
tells_none (OfEpoch e) r (Part d j values) other = refl
tells_none (OfEpoch e) r (Vote d j x) other = refl
tells_none (OfEpoch e) r (Est d j q slots) other = refl
tells_none (OfEpoch e) r (Share d j packed) other = refl
tells_none (OfEpoch e) r (Tell d j known) other = refl
tells_none (OfEpoch e) r (Help d j packed) other = refl
tells_none (OfEpoch e) r (Give d j packed) other = refl
tells_none (OfCall e k) r (Join d x) other = refl
tells_none (OfCall e k) r (Jest d q slots) other = refl
tells_none (OfCall e k) r (Part d j values) other = refl
tells_none (OfCall e k) r (Vote d j x) other = refl
tells_none (OfCall e k) r (Est d j q slots) other = grind (arith, nat_tests)
tells_none (OfCall e k) r (Share d j packed) other = refl
tells_none (OfCall e k) r (Tell d j known) other = refl
tells_none (OfCall e k) r (Help d j packed) other = refl
tells_none (OfCall e k) r (Give d j packed) other = refl

pub none_is_read : (about : About) (r : ℕ) (may : List Slot → Bool) (ts : List Text) → list_any (is_estimate_in about) ts ≡ false
    → first_read (λ t. only may (estimate_in about r t)) ts ≡ None
none_is_read about r may [] other = refl
none_is_read about r may (t ∷ ts) other =
    let parts = or_parts (is_estimate_in about t) (list_any (is_estimate_in about) ts) other in
    rw (tells_none about r t parts.0) (none_is_read about r may ts parts.1)

-- ---- what a reading of the rows gives

pub vote_read : (n : Node) (box : Kept) (b : Ballot) (q : ℕ) (own : Bool) (messages : List Message) (result : Option Slot) → IsInboxOf n box → IsNow n.epoch n.calls b.about
    → own ≡ (q == box.me) → messages ≡ slice_index_or box.messages q []
    → result ≡ first_read (λ t. only (λ x. own || b.is_vote x) (vote_in b.about t)) (map wire_text messages) → result ≡ vote_of b n q
vote_read n box b q own messages result know now mine row read =
    read
    ∙ (λ i. first_read (λ t. only (λ x. mine i || b.is_vote x) (vote_in b.about t)) (map wire_text (row i)))
    ∙ votes_alike n box b q know now

pub estimate_read : (n : Node) (box : Kept) (d : Described) (w : Measure) (own : Bool) (q r : ℕ) (messages : List Message) (result : Option (List Slot)) → IsInboxOf n box
    → IsNow n.epoch n.calls (about_of d.about) → w.seat ≡ seat_of d.members.now n.me → w.vote ≡ vote_of (ballot_of d) n n.me → own ≡ (q == n.me) → r ≡ seat_of d.members.now q
    → messages ≡ slice_index_or box.messages q []
    → result ≡ first_read (λ t. only (λ slots. own || is_fit d w slots) (estimate_in (about_of d.about) r t)) (map wire_text messages) → result ≡ estimate_of (ballot_of d) n q
estimate_read n box d w own q r messages result know now seat vote mine round row read =
    read
    ∙ ap (λ (ms : List Message). first_read (λ t. only (λ slots. own || is_fit d w slots) (estimate_in (about_of d.about) r t)) (map wire_text ms)) row
    ∙ estimates_alike n box d w own q r know now seat vote mine round

pub part_read : (n : Node) (box : Kept) (e k due q : ℕ) (messages : List Message) (result : Option (List ℤ)) → IsInboxOf n box → n.epoch ≡ e → n.calls ≡ k
    → messages ≡ slice_index_or box.messages q []
    → result ≡ first_read (λ t. only (λ values. length values == due) (part_in e k t)) (map wire_text messages) → result ≡ part_from n due q
part_read n box e k due q messages result know at call row read =
    read
    ∙ (λ i. first_read (λ t. only (λ values. length values == due) (part_in (sym at i) (sym call i) t)) (map wire_text (row i)))
    ∙ reads_alike n.epoch n.calls (λ t. only (λ values. length values == due) (part_in n.epoch n.calls t)) (texts_from box q) (n.texts q)
    (no_part n.epoch n.calls (λ values. length values == due)) (know.heard q)

-- ---- what a call leaves

pub knows_loss : (me e k q : ℕ) (lost : ℕ → Bool) (texts : ℕ → List Text) (old new : Kept) → new ≡ record old { lost = set.insert old.lost q }
    → Knows me e k lost texts old → Knows me e k (put lost q true) texts new
knows_loss me e k q lost texts old new is know =
    subst (λ (box : Kept). Knows me e k (put lost q true) texts box) (sym is)
    (record {
      same = know.same;
      told = λ p. set.contains-insert nat_cmp_total old.lost q p ∙ ap (λ (b : Bool). b || set.contains old.lost p) (unsigned_tied p q) ∙ either (p == q) (set.contains old.lost p) (lost p) (know.told p);
      heard = know.heard;
    })
  where
    either : (b was is : Bool) → was ≡ is → b || was ≡ cond b true is
    either true was is e = refl
    either false was is e = e

pub all_written : {X : Type 0} (f : X → X) (xs ys : List X) (i : ℕ) → length xs ≤ i → ys ≡ map f (take i xs) ++ drop i xs → ys ≡ map f xs
all_written f xs ys i end is = is ∙ (λ j. map f (take_all i xs end j) ++ drop_all i xs end j) ∙ append-nil (map f xs)

-- the messages that aren't past, for who has come to this call of this epoch
abbrev pub of_later : ℕ → ℕ → List Message → List Message
of_later e k ms = filter (λ m. not (is_past_at e k (wire_text m))) ms

current_of_later : (before calls e k : ℕ) (ms : List Message) (ts : List Text) → goes_on before calls e k ≡ true → current before calls (map wire_text ms) ≡ current before calls ts
    → current e k (map wire_text (of_later e k ms)) ≡ current e k ts
current_of_later before calls e k ms ts on same =
    ap (λ (xs : List Text). current e k xs) (filter_texts (λ t. not (is_past_at e k t)) ms)
    ∙ filter_twice (λ t. not (is_past_at e k t)) (λ t. not (is_past_at e k t)) (map wire_text ms) (λ t h. h)
    ∙ sym (filter_twice (λ t. not (is_past_at before calls t)) (λ t. not (is_past_at e k t)) (map wire_text ms) (λ t. past_later before calls e k t on))
    ∙ ap (λ (xs : List Text). current e k xs) same
    ∙ filter_twice (λ t. not (is_past_at before calls t)) (λ t. not (is_past_at e k t)) ts (λ t. past_later before calls e k t on)

pub knows_later : (me before calls e k : ℕ) (lost : ℕ → Bool) (texts : ℕ → List Text) (old new : Kept) → new ≡ record old { messages = map (of_later e k) old.messages }
    → goes_on before calls e k ≡ true → Knows me before calls lost texts old → Knows me e k lost texts new
knows_later me before calls e k lost texts old new is on know =
    subst (λ (box : Kept). Knows me e k lost texts box) (sym is)
    (record {
      same = know.same;
      told = know.told;
      heard = λ q.
          ap (λ (ms : List Message). current e k (map wire_text ms)) (lists.get_or-map (of_later e k) old.messages q [])
          ∙ current_of_later before calls e k (slice_index_or old.messages q []) (texts q) on (know.heard q);
    })

pub always : {X : Type 0} (n q : ℕ) (d : X) → slice_index_or (replicate n d) q d ≡ d
always n q d = elim (cases_lt q n) [
  | inl below ↦ get_or-replicate n q d d below
  | inr beyond ↦ get_or_past (replicate n d) q d (rw (length-replicate n d) beyond)
]

pub knows_nothing : (me n : ℕ) (box : Kept) → box ≡ record { me = me; lost = set.empty; messages = replicate n [] } → Knows me 0 0 (λ q. false) (λ q. []) box
knows_nothing me n box is =
    subst (λ (box : Kept). Knows me 0 0 (λ q. false) (λ q. []) box) (sym is)
    (record {
      same = refl;
      told = λ q. set.contains-empty nat_cmp q;
      heard = λ q. ap (λ (ms : List Message). current 0 0 (map wire_text ms)) (always n q []);
    })
