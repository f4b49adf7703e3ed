-- What the begin of the first epoch, a return from `Init` and the end owe in a calm run.
use Rattle.std.proofs.lemmas.Bool.Decides.{nat_tests}
use Rattle.std.proofs.Common.{arith, ◌≡◌, ◌<◌, ℕ, suc, Bool, true, false, ◌&&◌, ◌||◌, ◌==◌, List, length, get_or, Option, Some, None, is_some, refl, sym, ap, subst, ◌∙◌}
use Rattle.std.specs.Prelude.{if◌then◌else◌, nat_lt, not}
use Rattle.std.specs.List.{list_all}
use Rattle.fx_base.specs.declared.names.Role.TheVariants as role
use Rattle.fx_ballot.specs.Names.{seat_of, has}
use Rattle.fx_ballot.specs.Turn.{Phase}
use Rattle.fx_check.specs.Facts.{facts_of}
use Rattle.fx_comm.specs.Seats.{Seat, has_place, place_in, repaired}
use Rattle.fx_item.specs.declared.item.Item.TheVariants as item
use Rattle.fx_link.specs.declared.slot.Slot.{Slot}
use Rattle.fx_link.specs.declared.slot.Slot.TheVariants as slot
use Rattle.fx_script.specs.declared.job.Job.{Job}
use Rattle.fx_walk.specs.State.{State, blank}
use Rattle.fx_walk.specs.Callbacks.{view_at_init}
use Rattle.fx_machine.specs.Ballots.{voters, is_final, arrived, role_behind, repairs, ends, is_end}
use Rattle.fx_machine.specs.Groups.{uncreated}
use Rattle.fx_machine.specs.Nodes as nodes
use Rattle.fx_machine.specs.Nodes.{Node, Arrived, ident_at, my_place, size}
use Rattle.fx_machine.specs.Numbers.{proc, epoch_no}
use Rattle.fx_machine.specs.Reading.{is_join}
use Rattle.fx_machine.specs.Steps.{inits}
use Rattle.fx_fleet.specs.Runs.{AsksNothing, job_setup}
use Rattle.fx_legal.specs.Effects.{written, state_kept, opened, begun_by, belongs, first_stay, returned_from_init}
use Rattle.fx_legal.specs.Ledger.{Chapter, Ledger, ranks_of, procs_of, comm_in, comm_of, is_in, is_present}
use Rattle.fx_legal.specs.Rules.{IsTheOne, IsWaiting, HasOpened, HasSeat, IsSize, IsEnding, MayEnd}
use Rattle.fx_legal.specs.Stands as stand
use Rattle.fx_legal.specs.Stands.{is_killed}
use Rattle.fx_calm.specs.Calm.{seats_in, all_procs, vote_in, votes_in}
use Rattle.fx_calm.proofs.Lists.{length_of_each, of_each_at, each_of_each}
use Rattle.fx_calm.proofs.Seats.{place_below, seat_is, placed, unplaced, all_seated, repairs_none, has_all, length_all, seat_of_all, all_vote}
use Rattle.fx_calm.proofs.Standing.{HasBegun, Waits, Settled, Agreed, IsCalm, Book, Later, Owes, texts_later}
use Rattle.fx_calm.proofs.Steps.{key_same, stand_later, stand_book}

-- ---- the ledger

some_same : {X : Type 0} (x y : X) → Some x ≡ Some y → x ≡ y
some_same x y e = grind (arith, e)

is_there : {X : Type 0} (o : Option X) → is_some o ≡ true → (x : X) × (o ≡ Some x)
is_there None e = absurd cc
is_there (Some x) e = (x, refl)

less_true : (a b : ℕ) → a < b → nat_lt a b ≡ true
less_true a b e = grind (arith, nat_tests, e)

true_less : (a b : ℕ) → nat_lt a b ≡ true → a < b
true_less a b e = grind (arith, nat_tests, e)

or_left : (a b : Bool) → a ≡ true → (a || b) ≡ true
or_left a b e = grind (arith, nat_tests, e)

-- who has a place is a process of the job
pub seated_below : (job : Job) (q : ℕ) → has_place (seats_in job) q ≡ true → q < procs_of job
seated_below job q e = let less = place_below (ranks_of job) q e in omega (arith, less)

-- at first all are present
present_first : (job : Job) (l : Ledger) → Book job l → (q : ℕ) → is_present l 0 q ≡ nat_lt q (procs_of job)
present_first job l book q = ap (λ (o : Option Chapter). is_in o q) book.first

-- and once the first epoch has begun
pub comm_begun : (job : Job) (l : Ledger) → Book job l → HasBegun l → comm_in l 1 ≡ seats_in job
comm_begun job l book begun = let c = is_there (l.chapters 1) begun in ap comm_of c.1 ∙ book.comm c.0 c.1

pub present_begun : (job : Job) (l : Ledger) → Book job l → HasBegun l → (q : ℕ) → q < procs_of job → is_present l 1 q ≡ true
present_begun job l book begun q few = let c = is_there (l.chapters 1) begun in ap (λ (o : Option Chapter). is_in o q) c.1 ∙ book.all c.0 c.1 q few

below_begun : (job : Job) (l : Ledger) → Book job l → HasBegun l → (q : ℕ) → is_present l 1 q ≡ true → q < procs_of job
below_begun job l book begun q there =
    let c = is_there (l.chapters 1) begun in
    book.there c.0 c.1 q (ap (λ (o : Option Chapter). is_in o q) (sym c.1) ∙ there)

-- nobody was killed, and where somebody has ended the first epoch has begun
pub record Peace (l : Ledger) : Type 0 where
  pub living : (q : ℕ) → is_killed (l.stands q) ≡ false
  pub ended : (q : ℕ) → l.stands q ≡ stand.Ended → HasBegun l

-- ---- the first epoch begins

-- the node in the first epoch
abbrev pub begun_node : Job → Node → Node
begun_node job n = record n {
  epoch = 1;
  comm = seats_in job;
  present = all_procs job;
  role = role.Initial;
  calls = 0;
  stage = Arrived;
  groups = λ g. uncreated (n.groups g);
}

module _ (job : Job) (l : Ledger) (book : Book job l) (peace : Peace l) (slots : List Slot) (agreed : Agreed job l 1 slots) where
  is_first : (o : Option Chapter) → l.chapters 1 ≡ o → IsTheOne job l 1 (seats_in job) o
  is_first None e = record {
    none_ended = λ q few over. absurd (let bad : false ≡ true = ap is_some (sym e) ∙ peace.ended q over in cc);
    all_joined = λ q there living. ap is_some (agreed.joined q (true_less q (procs_of job) (sym (present_first job l book q) ∙ there)));
    seated = λ q place.
        let few = seated_below job q place in
        (present_first job l book q ∙ less_true q (procs_of job) few, ap is_some (agreed.joined q few));
    mended = sym (subst (λ (c : List Seat). repaired c (belongs l 1 (seats_in job)) ≡ seats_in job) (sym (ap comm_of book.first))
        (repairs_none (belongs l 1 (seats_in job)) (seats_in job) (λ q place. or_left (has_place (seats_in job) q) _ place)));
  }
  is_first (Some c) e = sym (book.comm c e)

  belongs_below : (q : ℕ) → (a b c d : Bool) → a ≡ has_place (seats_in job) q → b ≡ is_present l 0 q → (a || (b && (c && d))) ≡ true → q < procs_of job
  belongs_below q true b c d place there e = seated_below job q (sym place)
  belongs_below q false true c d place there e = true_less q (procs_of job) (sym (present_first job l book q) ∙ sym there)
  belongs_below q false false c d place there e = absurd cc

  belongs_all : (q : ℕ) → q < procs_of job → belongs l 1 (seats_in job) q ≡ true
  belongs_all q few = all_four (has_place (seats_in job) q) (is_present l 0 q) (is_some (l.joined 1 q)) (is_killed (l.stands q))
      (present_first job l book q ∙ less_true q (procs_of job) few) (ap is_some (agreed.joined q few)) (peace.living q)
    where
      all_four : (a b c d : Bool) → b ≡ true → c ≡ true → d ≡ false → (a || (b && (c && not d))) ≡ true
      all_four a b c d there joined living = grind (arith, nat_tests, there, joined, living)

  abbrev begun : Option Chapter → Option Chapter
  begun o = begun_by l 1 (seats_in job) o

  begun_comm : (o : Option Chapter) → l.chapters 1 ≡ o → (c : Chapter) → begun o ≡ Some c → c.comm ≡ seats_in job
  begun_comm None e c is = ap (λ (x : Chapter). x.comm) (sym (some_same _ c is))
  begun_comm (Some d) e c is = book.comm c (e ∙ is)

  begun_there : (o : Option Chapter) → l.chapters 1 ≡ o → (c : Chapter) → begun o ≡ Some c → (q : ℕ) → c.present q ≡ true → q < procs_of job
  begun_there None e c is q there =
      belongs_below q (has_place (seats_in job) q) (is_present l 0 q) (is_some (l.joined 1 q)) (not (is_killed (l.stands q))) refl refl
      (ap (λ (x : Chapter). x.present q) (some_same _ c is) ∙ there)
  begun_there (Some d) e c is q there = book.there c (e ∙ is) q there

  begun_all : (o : Option Chapter) → l.chapters 1 ≡ o → (c : Chapter) → begun o ≡ Some c → (q : ℕ) → q < procs_of job → c.present q ≡ true
  begun_all None e c is q few = ap (λ (x : Chapter). x.present q) (sym (some_same _ c is)) ∙ belongs_all q few
  begun_all (Some d) e c is q few = book.all c (e ∙ is) q few

  has_begun : (o : Option Chapter) → is_some (begun o) ≡ true
  has_begun None = refl
  has_begun (Some d) = refl

  module _ (n : Node) (is : IsCalm job l n) (few : n.me < procs_of job) where
    abbrev warned : Bool
    warned = nat_lt (length (seats_in job)) (ranks_of job)

    abbrev next : Ledger
    next = written job l (item.Repaired (proc n.me) (epoch_no 1) (length (seats_in job)) warned (seats_in job))

    abbrev kept : State
    kept = state_kept (blank (facts_of job)) (l.stands n.me)

    abbrev opening : Option ℕ → stand.Stand
    opening place = opened (facts_of job) 1 role.Initial place (length (seats_in job)) kept

    later_now : Later job n.me l next
    later_now = record { stands = (stand_later job l n.me (opening (place_in (seats_in job) n.me))).stands; joined = λ e q h. h; begun = λ h. has_begun (l.chapters 1) }

    begins : Settled job next n.me 1
    begins = record {
      first = refl;
      begun = has_begun (l.chapters 1);
      seated = λ place. key_same n.me (opening (place_in (seats_in job) n.me)) l.stands ∙ ap opening (placed (seats_in job) n.me place).1;
      spare = λ none. key_same n.me (opening (place_in (seats_in job) n.me)) l.stands ∙ ap opening (unplaced (seats_in job) n.me none);
    }

    pub begins_owes : (state : State) → l.stands n.me ≡ stand.Joined 1 state → Owes job l n (repairs (job_setup job) (begun_node job n))
    begins_owes state waits = record {
      goes = (
        (
          few,
          record { waits = subst (IsWaiting 1) (sym waits) refl; one = is_first (l.chapters 1) refl; sized = (refl, refl); current = book.later },
        ),
        tt,
      );
      later = later_now;
      me = refl;
      node = record {
        lost = is.lost;
        comm = refl;
        present = refl;
        named = refl;
        at = begins;
        texts = λ q. texts_later job n.me l next later_now q (n.texts q) (is.texts q);
      };
      sends = λ b. tt;
      book = record {
        kills = book.kills;
        first = book.first;
        comm = begun_comm (l.chapters 1) refl;
        there = begun_there (l.chapters 1) refl;
        all = begun_all (l.chapters 1) refl;
        later = book.later;
      };
    }

-- the decision of the first ballot leads there
pub arrives : (job : Job) (l : Ledger) (n : Node) (slots : List Slot) → IsCalm job l n → n.epoch ≡ 0 → slots ≡ votes_in job 1
    → arrived (voters (is_join (suc n.epoch)) n.present slots) n ≡ begun_node job n
arrives job l n slots is none votes = λ i. record n {
  epoch = suc (none i);
  comm = mended i;
  present = all i;
  role = named i;
  calls = 0;
  stage = Arrived;
  groups = λ g. uncreated (n.groups g);
}
  where
    all : voters (is_join (suc n.epoch)) n.present slots ≡ all_procs job
    all =
        ap (λ (e : ℕ). voters (is_join (suc e)) n.present slots) none ∙ ap (λ (who : List ℕ). voters (is_join 1) who slots) is.present
        ∙ ap (λ (xs : List Slot). voters (is_join 1) (all_procs job) xs) votes
        ∙ all_vote (is_join 1) (all_procs job) (votes_in job 1) (length_all (procs_of job) ∙ sym (length_of_each (procs_of job) (vote_in job 1)))
        (each_of_each (λ x. is_join 1 x ≡ true) (vote_in job 1) (procs_of job) (λ k. refl))

    mended : repaired n.comm (has (voters (is_join (suc n.epoch)) n.present slots)) ≡ seats_in job
    mended =
        ap (λ (c : List Seat). repaired c (has (voters (is_join (suc n.epoch)) n.present slots))) is.comm
        ∙ ap (λ (who : List ℕ). repaired (seats_in job) (has who)) all
        ∙ repairs_none (has (all_procs job)) (seats_in job) (λ q place. has_all (procs_of job) q ∙ less_true q (procs_of job) (seated_below job q place))

    named : role_behind n ≡ role.Initial
    named = ap (λ (e : ℕ). if e == 0 then role.Initial else (if has_place n.comm n.me then role.Survivor else role.Recovered)) none

-- ---- a return from `Init`

module _ (job : Job) (l : Ledger) (n : Node) (few : n.me < procs_of job) (asks : AsksNothing job) (is : IsCalm job l n) (book : Book job l) (at : Settled job l n.me n.epoch)
    (place : has_place (seats_in job) n.me ≡ true) where
  abbrev fresh : Node
  fresh = record n { epoch = 1; comm = seats_in job; role = role.Initial }

  abbrev walks : stand.Stand → stand.Stand
  walks x = returned_from_init job role.Initial (record { 0 = ident_at fresh (my_place fresh) }) (my_place fresh) (size fresh) x

  fresh_owes : Owes job l fresh (inits (job_setup job) fresh)
  fresh_owes = record {
    goes = (
      (
        few,
        record {
          opened = subst (HasOpened 1) (sym (at.seated place)) refl;
          named = refl;
          seated = subst (λ (c : List Seat). HasSeat c (my_place fresh) (record { 0 = ident_at fresh (my_place fresh) }, proc n.me)) (sym (comm_begun job l book at.begun)) (seat_is (seats_in job) n.me place);
          sized = subst (λ (c : List Seat). IsSize job c (size fresh) (nat_lt (size fresh) (ranks_of job))) (sym (comm_begun job l book at.begun)) (refl, refl);
          current = book.later;
        },
      ),
      tt,
    );
    later = stand_later job l n.me (walks (l.stands n.me));
    me = refl;
    node = record {
      lost = is.lost;
      comm = refl;
      present = is.present;
      named = refl;
      at = record {
        first = refl;
        begun = at.begun;
        seated = place;
        stay = first_stay 1 (record { 0 = ident_at fresh (my_place fresh) });
        within = refl;
        stand = key_same n.me (walks (l.stands n.me)) l.stands ∙ ap walks (at.seated place);
        only = asks (view_at_init role.Initial (my_place fresh) (size fresh)) (blank (facts_of job));
      };
      texts = λ q. texts_later job n.me l _ (stand_later job l n.me (walks (l.stands n.me))) q (n.texts q) (is.texts q);
    };
    sends = λ b. tt;
    book = stand_book job l _ book;
  }

  pub inits_owes : Owes job l n (inits (job_setup job) n)
  inits_owes = subst (λ (m : Node). Owes job l m (inits (job_setup job) m)) (λ i. record n { epoch = sym at.first i; comm = sym is.comm i; role = sym is.named i }) fresh_owes

-- ---- the end

-- once epoch 2 is agreed upon the job is at its end
pub is_the_end : (job : Job) (l : Ledger) (n : Node) (slots : List Slot) → IsCalm job l n → n.epoch ≡ 1 → slots ≡ votes_in job 2 → is_end n slots ≡ true
is_the_end job l n slots is one votes = two_true (nat_lt 0 n.epoch) _ (ap (λ (e : ℕ). nat_lt 0 e) one)
    (subst (λ (c : List Seat). list_all (λ q. is_final (get_or slots (seat_of n.present q) slot.Lost)) (nodes.procs_of c) ≡ true) (sym is.comm)
    (all_seated (λ q. is_final (get_or slots (seat_of n.present q) slot.Lost)) (seats_in job) final))
  where
    two_true : (a b : Bool) → a ≡ true → b ≡ true → (a && b) ≡ true
    two_true a b x y = grind (arith, nat_tests, x, y)

    final : (q : ℕ) → has_place (seats_in job) q ≡ true → is_final (get_or slots (seat_of n.present q) slot.Lost) ≡ true
    final q place =
        let few = seated_below job q place in
        ap is_final
        (ap (λ (xs : List Slot). get_or xs (seat_of n.present q) slot.Lost) votes
        ∙ ap (λ (k : ℕ). get_or (votes_in job 2) k slot.Lost) (ap (λ (who : List ℕ). seat_of who q) is.present ∙ seat_of_all (procs_of job) q few)
        ∙ of_each_at (procs_of job) (vote_in job 2) slot.Lost q few
        ∙ ap (λ (b : Bool). if b then slot.Final else slot.Spare) place)

pub ends_owes : (job : Job) (l : Ledger) (n : Node) (phase : Phase) (slots : List Slot) → n.me < procs_of job → IsCalm job l n → Book job l → Waits job l n.me n.epoch phase
    → n.epoch ≡ 1 → HasBegun l → Agreed job l 2 slots → Owes job l n (ends n)
ends_owes job l n phase slots few is book w one begun agreed = record {
  goes = (
    (
      few,
      subst (IsEnding job l) (sym w.stand) (subst (λ (e : ℕ). MayEnd job l (suc e)) (sym one) (record {
        late = omega arith;
        final = λ q place.
            let seated : has_place (seats_in job) q ≡ true = ap (λ (c : List Seat). has_place c q) (sym (comm_begun job l book begun)) ∙ place in
            agreed.joined q (seated_below job q seated) ∙ ap (λ (b : Bool). Some (if b then slot.Final else slot.Spare)) seated;
        all_joined = λ q there living. ap is_some (agreed.joined q (below_begun job l book begun q there));
        unbegun = book.later;
      })),
    ),
    tt,
  );
  later = stand_later job l n.me stand.Ended;
  me = refl;
  node = record {
    lost = is.lost;
    comm = is.comm;
    present = is.present;
    named = is.named;
    at = record { first = one; begun = begun; stand = key_same n.me stand.Ended l.stands };
    texts = λ q. texts_later job n.me l _ (stand_later job l n.me stand.Ended) q (n.texts q) (is.texts q);
  };
  sends = λ b. tt;
  book = stand_book job l _ book;
}
