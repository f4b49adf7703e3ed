-- What the steps of a node owe in a calm run: in ballots, joins, and along the walk.
use Rattle.std.proofs.lemmas.Bool.Decides.{nat_tests}
use Rattle.std.proofs.Common.{arith, ◌≡◌, ◌≢◌, ◌<◌, ℕ, suc, Bool, true, ◌&&◌, ◌==◌, List, [], ◌∷◌, ◌++◌, map, Some, None, refl, sym, ap, subst, ◌∙◌}
use Rattle.std.specs.Prelude.{if◌then◌else◌, not}
use Rattle.std.specs.List.{filter}
use Rattle.fx_ballot.specs.Names.{seat_of}
use Rattle.fx_ballot.specs.Turn.{Phase}
use Rattle.fx_ballot.specs.World.{put}
use Rattle.fx_check.specs.Facts.{facts_of}
use Rattle.fx_item.specs.declared.item.Item.TheVariants as item
use Rattle.fx_link.specs.declared.slot.Slot.{Slot}
use Rattle.fx_script.specs.declared.job.Job.{Job}
use Rattle.fx_walk.specs.declared.printed.Printed.{Printed}
use Rattle.fx_walk.specs.Lengths.{OnlyPrints}
use Rattle.fx_walk.specs.State.{blank}
use Rattle.fx_walk.specs.Walk.{Walk, Passes, Prints}
use Rattle.fx_machine.specs.Ballots.{moves, speaks, joined}
use Rattle.fx_machine.specs.Nodes.{Node, Joining, Walking, silently}
use Rattle.fx_machine.specs.Numbers.{proc, epoch_no}
use Rattle.fx_machine.specs.Reading.{next_ballot}
use Rattle.fx_machine.specs.Steps.{passes_on, prints}
use Rattle.fx_machine.specs.Texts.{Text, Join, Jest}
use Rattle.fx_fleet.specs.World.{sent_to}
use Rattle.fx_legal.specs.Effects.{written, state_left, printed}
use Rattle.fx_legal.specs.Groups.{at_key}
use Rattle.fx_legal.specs.Ledger.{Ledger, procs_of}
use Rattle.fx_legal.specs.Rules.{MayJoin, IsPrint}
use Rattle.fx_legal.specs.Stands as stand
use Rattle.fx_legal.specs.Stands.{shown}
use Rattle.fx_calm.specs.Calm.{vote_in, votes_in}
use Rattle.fx_calm.proofs.Lists.{each_append, chosen, equal, same_number}
use Rattle.fx_calm.proofs.Standing.{HasJoined, IsTrue, AreTrue, InPhase, IsEarly, Waits, InBody, AtStage, IsCalm, Book, Later, Owes, texts_later, early_later}

-- ---- tables

pub key_same : {X : Type 0} (k : ℕ) (x : X) (table : ℕ → X) → at_key k x table k ≡ x
key_same k x table = subst (λ (b : Bool). (if b then x else table k) ≡ x) (sym (same_number k)) refl

pub key_other : {X : Type 0} (k : ℕ) (x : X) (table : ℕ → X) (q : ℕ) → q ≢ k → at_key k x table q ≡ table q
key_other k x table q ne = chosen (λ y. y ≡ table q) (q == k) x (table q) (λ e. absurd (ne (equal q k e))) (λ e. refl)

both_same : (a b : ℕ) → ((a == a) && (b == b)) ≡ true
both_same a b = grind (arith, nat_tests)

first_of_both : (a b : Bool) → (a && b) ≡ true → a ≡ true
first_of_both a b e = grind (arith, nat_tests)

second_of_both : (a b : Bool) → (a && b) ≡ true → b ≡ true
second_of_both a b e = grind (arith, nat_tests)

-- ---- texts

pub kept_texts : (job : Job) (l : Ledger) (me : ℕ) (texts : ℕ → List Text) (t : Text) → IsTrue job l me t → ((q : ℕ) → AreTrue job l q (texts q))
    → (q : ℕ) → AreTrue job l q (put texts me (texts me ++ t ∷ []) q)
kept_texts job l me texts t is all q =
    chosen (AreTrue job l q) (q == me) (texts me ++ t ∷ []) (texts q)
    (λ e. subst (λ (r : ℕ). AreTrue job l r (texts me ++ t ∷ [])) (sym (equal q me e)) (each_append (IsTrue job l me) (texts me) (t ∷ []) (all me) (is, tt))) (λ e. all q)

pub sent_true : (job : Job) (l : Ledger) (me : ℕ) (t : Text) → IsTrue job l me t → (qs : List ℕ) (b : ℕ) → AreTrue job l me (sent_to b (map (λ q. (q, t)) qs))
sent_true job l me t is [] b = tt
sent_true job l me t is (q ∷ qs) b =
    let rest = sent_true job l me t is qs b in
    chosen (AreTrue job l me) (q == b) (t ∷ sent_to b (map (λ q. (q, t)) qs)) (sent_to b (map (λ q. (q, t)) qs)) (λ e. (is, rest)) (λ e. rest)

-- ---- steps that write nothing

pub same_ledger : (job : Job) (p : ℕ) (l : Ledger) → Later job p l l
same_ledger job p l = record { stands = λ q ne. refl; joined = λ e q h. h; begun = λ h. h }

quiet_owes : (job : Job) (l : Ledger) (n m : Node) → m.me ≡ n.me → IsCalm job l m → Book job l → Owes job l n (silently m)
quiet_owes job l n m me is book = record { goes = tt; later = same_ledger job n.me l; me = me; node = is; sends = λ b. tt; book = book }

pub moves_owes : (job : Job) (l : Ledger) (n : Node) (old new : Phase) → IsCalm job l n → Book job l → Waits job l n.me n.epoch old → InPhase job l (suc n.epoch) new
    → Owes job l n (moves n Joining new)
moves_owes job l n old new is book w holds =
    quiet_owes job l n _ refl
    (record { lost = is.lost; comm = is.comm; present = is.present; named = is.named; at = record { early = w.early; state = w.state; stand = w.stand; holds = holds }; texts = is.texts }) book

pub speaks_owes : (job : Job) (l : Ledger) (n : Node) (old new : Phase) (slots : List Slot) → IsCalm job l n → Book job l → Waits job l n.me n.epoch old
    → InPhase job l (suc n.epoch) new → slots ≡ votes_in job (suc n.epoch) → Owes job l n (speaks (next_ballot n) n Joining new slots)
speaks_owes job l n old new slots is book w holds votes = record {
  goes = tt;
  later = same_ledger job n.me l;
  me = refl;
  node = record {
    lost = is.lost;
    comm = is.comm;
    present = is.present;
    named = is.named;
    at = record { early = w.early; state = w.state; stand = w.stand; holds = holds };
    texts = kept_texts job l n.me n.texts (Jest (suc n.epoch) (seat_of n.present n.me) slots) votes is.texts;
  };
  sends = sent_true job l n.me (Jest (suc n.epoch) (seat_of n.present n.me) slots) votes (filter (λ q. not (q == n.me)) n.present);
  book = book;
}

pub passes_owes : (job : Job) (l : Ledger) (n : Node) (rest : Walk) → IsCalm job l n → Book job l → InBody job l n.me n.epoch n.walk → n.walk ≡ Passes rest
    → n.stage ≡ Walking → Owes job l n (passes_on rest n)
passes_owes job l n rest is book w e at =
    quiet_owes job l n _ refl
    (record {
      lost = is.lost;
      comm = is.comm;
      present = is.present;
      named = is.named;
      at = subst (AtStage job l n.me n.epoch rest) (sym at)
          (record { first = w.first; begun = w.begun; seated = w.seated; stay = w.stay; within = w.within; stand = w.stand ∙ ap (λ (x : Walk). stand.Walking w.stay (shown x)) e; only = subst OnlyPrints e w.only });
      texts = is.texts;
    }) book

-- ---- a join

join_later : (job : Job) (l : Ledger) (p e : ℕ) (kind : Slot) → kind ≡ vote_in job e p → Later job p l (written job l (item.Join (proc p) (epoch_no e) kind))
join_later job l p e kind is = record {
  stands = λ q ne. key_other p (stand.Joined e (state_left (blank (facts_of job)) (l.stands p))) l.stands q ne;
  joined = λ d q h.
      chosen (λ x. x ≡ Some (vote_in job d q)) ((d == e) && (q == p)) (Some kind) (l.joined d q)
      (λ b.
      let one = equal d e (first_of_both (d == e) (q == p) b) in
      let two = equal q p (second_of_both (d == e) (q == p) b) in
      ap Some (is ∙ ap (λ (x : ℕ). vote_in job x p) (sym one) ∙ ap (λ (x : ℕ). vote_in job d x) (sym two))) (λ b. h);
  begun = λ h. h;
}

joined_here : (job : Job) (l : Ledger) (p e : ℕ) (kind : Slot) → kind ≡ vote_in job e p → HasJoined job (written job l (item.Join (proc p) (epoch_no e) kind)) e p
joined_here job l p e kind is = subst (λ (b : Bool). (if b then Some kind else l.joined e p) ≡ Some (vote_in job e p)) (sym (both_same e p)) (ap Some is)

pub join_owes : (job : Job) (l : Ledger) (n : Node) (kind : Slot) → n.me < procs_of job → IsCalm job l n → Book job l → IsEarly l n.epoch
    → kind ≡ vote_in job (suc n.epoch) n.me → MayJoin l (suc n.epoch) kind (l.stands n.me) → Owes job l n (joined kind n)
join_owes job l n kind few is book early vote may = record {
  goes = ((few, may), tt);
  later = later;
  me = refl;
  node = record {
    lost = is.lost;
    comm = is.comm;
    present = is.present;
    named = is.named;
    at = record { early = early_later job n.me l m later n.epoch early; state = state_left (blank (facts_of job)) (l.stands n.me); stand = key_same n.me _ l.stands; holds = tt };
    texts = kept_texts job m n.me n.texts (Join (suc n.epoch) kind) said (λ q. texts_later job n.me l m later q (n.texts q) (is.texts q));
  };
  sends = sent_true job m n.me (Join (suc n.epoch) kind) said (filter (λ q. not (q == n.me)) n.present);
  book = record { kills = book.kills; first = book.first; comm = book.comm; there = book.there; all = book.all; later = book.later };
}
  where
    m : Ledger
    m = written job l (item.Join (proc n.me) (epoch_no (suc n.epoch)) kind)

    later : Later job n.me l m
    later = join_later job l n.me (suc n.epoch) kind vote

    said : IsTrue job m n.me (Join (suc n.epoch) kind)
    said = (vote, joined_here job l n.me (suc n.epoch) kind vote)

-- ---- a print

-- only process p stands elsewhere
pub stand_later : (job : Job) (l : Ledger) (p : ℕ) (x : stand.Stand) → Later job p l (record l { stands = at_key p x l.stands })
stand_later job l p x = record { stands = key_other p x l.stands; joined = λ e q h. h; begun = λ h. h }

pub stand_book : (job : Job) (l : Ledger) (stands : ℕ → stand.Stand) → Book job l → Book job (record l { stands = stands })
stand_book job l stands book = record { kills = book.kills; first = book.first; comm = book.comm; there = book.there; all = book.all; later = book.later }

pub prints_owes : (job : Job) (l : Ledger) (n : Node) (what : Printed) (rest : Walk) → n.me < procs_of job → IsCalm job l n → Book job l → InBody job l n.me n.epoch n.walk
    → n.walk ≡ Prints what rest → n.stage ≡ Walking → Owes job l n (prints what rest n)
prints_owes job l n what rest few is book w e at = record {
  goes = (
    (few, (subst (IsPrint n.epoch what) (sym stands) (w.within ∙ sym w.first, refl), subst (λ (d : ℕ). l.chapters (suc d) ≡ None) (sym w.first) book.later)),
    tt,
  );
  later = stand_later job l n.me (printed (l.stands n.me));
  me = refl;
  node = record {
    lost = is.lost;
    comm = is.comm;
    present = is.present;
    named = is.named;
    at = subst (AtStage job (record l { stands = at_key n.me (printed (l.stands n.me)) l.stands }) n.me n.epoch rest) (sym at)
        (record {
          first = w.first;
          begun = w.begun;
          seated = w.seated;
          stay = w.stay;
          within = w.within;
          stand = key_same n.me (printed (l.stands n.me)) l.stands ∙ ap printed stands;
          only = (subst OnlyPrints e w.only).1;
        });
    texts = λ q. texts_later job n.me l _ (stand_later job l n.me (printed (l.stands n.me))) q (n.texts q) (is.texts q);
  };
  sends = λ b. tt;
  book = stand_book job l _ book;
}
  where
    stands : l.stands n.me ≡ stand.Walking w.stay (Prints what rest)
    stands = w.stand ∙ ap (λ (x : Walk). stand.Walking w.stay (shown x)) e
