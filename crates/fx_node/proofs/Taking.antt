-- A turn that is taken is the step of the node.
use Rattle.std.proofs.Common.{◌≡◌, ℕ, suc, Bool, true, ◌||◌, ◌==◌, List, [], ◌∷◌, ◌++◌, Option, Some, None, refl, sym, ap, subst, ◌∙◌, arith}
use Rattle.std.specs.Prelude.{nat_le}
use Rattle.std.specs.List.{list_all}
use Rattle.std.specs.Option.{option_or}
use Rattle.std.proofs.lemmas.Bool.{eq-eqb, le-leb}
use Rattle.std.proofs.lemmas.List.{append-nil}
use Rattle.fx_ballot.specs.declared.poll.Poll.{Poll}
use Rattle.fx_ballot.specs.declared.poll.Poll.TheVariants as poll
use Rattle.fx_ballot.specs.Names.{Distinct, seat_of}
use Rattle.fx_ballot.specs.Turn as ballot
use Rattle.fx_base.specs.declared.names.Proc.{Proc}
use Rattle.fx_fleet.specs.Runs.{job_setup}
use Rattle.fx_item.specs.declared.item.Item.{Item}
use Rattle.fx_link.specs.declared.message.Message.{Message}
use Rattle.fx_link.specs.declared.slot.Slot.{Slot}
use Rattle.fx_machine.specs.Ballots.{decides_epoch, turned}
use Rattle.fx_machine.specs.Messages.{wire_text}
use Rattle.fx_machine.specs.Nodes as node
use Rattle.fx_machine.specs.Nodes.{Node, Act, keeping}
use Rattle.fx_machine.specs.Reading.{OfEpoch, first_read, is_join, next_ballot, only, turn_in, vote_in}
use Rattle.fx_machine.specs.Steps.{next, next_at}
use Rattle.fx_machine.specs.Texts.{Text, Jest}
use Rattle.fx_node.specs.declared.node.Moved.{Moved}
use Rattle.fx_node.specs.declared.node.Moved.TheVariants as moved
use Rattle.fx_inbox.specs.declared.phase.Phase.{Phase}
use Rattle.fx_inbox.specs.declared.phase.Phase.TheVariants as phase
use Rattle.fx_node.specs.declared.stage.Stage.{Stage}
use Rattle.fx_node.specs.declared.stage.Stage.TheVariants as stage
use Rattle.fx_inbox.specs.Keeping.{Kept, IsInboxOf}
use Rattle.fx_node.specs.Standing.{Standing, HasVoted, HoldsVote, IsDeciding, IsNodeOf, IsStill, StandsAs, is_up_to}
use Rattle.fx_node.specs.Stepping.{Steps, broadcast, estimate_message}
use Rattle.fx_inbox.specs.Turns.{phase_of}
use Rattle.fx_node.proofs.Joining.{one_more_up, posted_all}
use Rattle.fx_node.proofs.Turning.{Holds, decided_holds, turn_holds}
use Rattle.fx_script.specs.declared.job.Job.{Job}

-- the turn of the node in a phase
abbrev pub turn_of : Node → Phase → ballot.Turn
turn_of n p = turn_in (next_ballot n) n (phase_of p)

-- the step of a node in its ballot, by what its turn does
pub step_by : (job : Job) (n : Node) (p : Phase) (x : Poll) → n.stage ≡ node.Joining (phase_of p) → x ≡ (turn_of n p).poll → (P : Option Act → Type 0)
    → P (turned (next_ballot n) n node.Joining (λ slots. Some (decides_epoch (job_setup job) n slots)) (record { phase = (turn_of n p).phase; poll = x })) → P (next (job_setup job) n)
step_by job n p x at e P h =
    let same : next (job_setup job) n ≡ turned (next_ballot n) n node.Joining (λ slots. Some (decides_epoch (job_setup job) n slots)) (record { phase = (turn_of n p).phase; poll = x }) =
    ap (next_at (job_setup job) n) at
    ∙ ap (λ (y : Poll). turned (next_ballot n) n node.Joining (λ slots. Some (decides_epoch (job_setup job) n slots)) (record { phase = (turn_of n p).phase; poll = y })) (sym e) in
    subst P (sym same) h

to_holds : (n : Node) (vote : Slot) (p : Phase) → HoldsVote n vote p → Holds n vote (phase_of p)
to_holds n vote phase.Voting h = tt
to_holds n vote (phase.Round r slots) h = h

from_holds : (n : Node) (vote : Slot) (p : Phase) → Holds n vote (phase_of p) → HoldsVote n vote p
from_holds n vote phase.Voting h = tt
from_holds n vote (phase.Round r slots) h = h

-- a node in its ballot
pub record Votes (job : Job) (c : Standing) (n : Node) (p : Phase) : Type 0 where
  pub is : IsNodeOf job c n
  pub at : c.stage ≡ stage.Joining p
  pub apart : Distinct c.present

pub stands_so : (job : Job) (c : Standing) (n : Node) (p : Phase) → Votes job c n p → (n.stage ≡ node.Joining (phase_of p)) × IsStill c n × HasVoted n p
stands_so job c n p v = subst (λ (s : Stage). StandsAs job s c n) v.at v.is.stands

holds_on : (job : Job) (c : Standing) (n : Node) (p later : Phase) → (v : Votes job c n p) → phase_of later ≡ (turn_of n p).phase → HoldsVote n (stands_so job c n p v).2.vote later
holds_on job c n p later v e =
    let voted = (stands_so job c n p v).2 in
    let apart : Distinct n.present = subst Distinct (sym v.is.present) v.apart in
    from_holds n voted.vote later (subst (Holds n voted.vote) (sym e) (turn_holds n voted.vote (phase_of p) v.is.member apart voted.valid voted.own (to_holds n voted.vote p voted.holds)))

-- it waits
pub rests : (job : Job) (c : Standing) (n : Node) (p later : Phase) (sent : List (Proc × Message)) (told : List Item) → Votes job c n p → poll.NotYet ≡ (turn_of n p).poll → later ≡ p
    → Steps job n (next (job_setup job) n) moved.Quiet (record c { stage = stage.Joining later }) sent sent told told
rests job c n p later sent told v e same =
    let d : Standing = record c { stage = stage.Joining later } in
    let stay : c ≡ d = ap (λ (s : Stage). record c { stage = s }) (v.at ∙ ap stage.Joining (sym same)) in
    let here : n.stage ≡ node.Joining (phase_of p) = (stands_so job c n p v).0 in
    step_by job n p poll.NotYet here e (λ o. Steps job n o moved.Quiet d sent sent told told) (record {
      says = rw here refl;
      node = subst (λ (x : Standing). IsNodeOf job x n) stay v.is;
      sends = refl;
      items = refl;
    })

-- it goes on
pub goes_on : (job : Job) (c : Standing) (n : Node) (p later : Phase) (sent : List (Proc × Message)) (told : List Item) → Votes job c n p → poll.Moved ≡ (turn_of n p).poll → phase_of later ≡ (turn_of n p).phase
    → Steps job n (next (job_setup job) n) moved.Acted (record c { stage = stage.Joining later }) sent sent told told
goes_on job c n p later sent told v e on =
    let stands = stands_so job c n p v in
    let voted = stands.2 in
    step_by job n p poll.Moved stands.0 e (λ o. Steps job n o moved.Acted (record c { stage = stage.Joining later }) sent sent told told) (record {
      says = refl;
      node = record {
        me = v.is.me;
        ranks = v.is.ranks;
        epoch = v.is.epoch;
        comm = v.is.comm;
        present = v.is.present;
        member = v.is.member;
        role = v.is.role;
        calls = v.is.calls;
        bare = v.is.bare;
        is_flow = v.is.is_flow;
        knows = v.is.knows;
        stands = (ap node.Joining (sym on), stands.1, record { vote = voted.vote; own = voted.own; valid = voted.valid; holds = holds_on job c n p later v on; counted = voted.counted; told = voted.told });
      };
      sends = sym (append-nil sent);
      items = sym (append-nil told);
    })

itself : (a : ℕ) → (a == a) ≡ true
itself a = eq-eqb a a refl

no_more : {X : Type 0} (o : Option X) → option_or o None ≡ o
no_more None = refl
no_more (Some x) = refl

-- an estimate is no vote
same_vote : (about : ℕ) (test : Slot → Bool) (ts : List Text) (e r : ℕ) (slots : List Slot)
    → first_read (λ t. only test (vote_in (OfEpoch about) t)) (ts ++ Jest e r slots ∷ []) ≡ first_read (λ t. only test (vote_in (OfEpoch about) t)) ts
same_vote about test [] e r slots = refl
same_vote about test (t ∷ ts) e r slots = ap (option_or (only test (vote_in (OfEpoch about) t))) (same_vote about test ts e r slots)

-- the node that said its estimate
abbrev pub spoken : Node → Phase → List Slot → Node
spoken n p slots = keeping (Jest (suc n.epoch) (seat_of n.present n.me) slots) (record n { stage = node.Joining (turn_of n p).phase })

spoken_voted : (job : Job) (c : Standing) (n : Node) (p later : Phase) (slots : List Slot) → Votes job c n p → phase_of later ≡ (turn_of n p).phase → HasVoted (spoken n p slots) later
spoken_voted job c n p later slots v on =
    let voted = (stands_so job c n p v).2 in
    let here : (spoken n p slots).texts n.me ≡ n.texts n.me ++ Jest (suc n.epoch) (seat_of n.present n.me) slots ∷ [] = rw (itself n.me) refl in
    let within : nat_le (suc n.epoch) (suc n.epoch) ≡ true = le-leb (suc n.epoch) (suc n.epoch) (omega arith) in
    record {
      vote = voted.vote;
      own =
          ap (first_read (λ t. only (λ x. (n.me == n.me) || is_join (suc n.epoch) x) (vote_in (OfEpoch (suc n.epoch)) t))) here
          ∙ same_vote (suc n.epoch) (λ x. (n.me == n.me) || is_join (suc n.epoch) x) (n.texts n.me) (suc n.epoch) (seat_of n.present n.me) slots
          ∙ voted.own;
      valid = voted.valid;
      holds = holds_kept n p later slots voted.vote (holds_on job c n p later v on);
      counted = voted.counted;
      told = ap (list_all (is_up_to (suc n.epoch))) here ∙ one_more_up (suc n.epoch) (n.texts n.me) (Jest (suc n.epoch) (seat_of n.present n.me) slots) voted.told within;
    }
  where
    holds_kept : (n : Node) (p later : Phase) (slots : List Slot) (vote : Slot) → HoldsVote n vote later → HoldsVote (spoken n p slots) vote later
    holds_kept n p phase.Voting slots vote h = tt
    holds_kept n p (phase.Round r held) slots vote h = h

-- it says its estimate
pub speaks_so : (job : Job) (c : Standing) (n : Node) (p later : Phase) (slots : List Slot) (inbox : Kept) (sent sent' : List (Proc × Message)) (told : List Item)
    → Votes job c n p → poll.SendEstimate slots ≡ (turn_of n p).poll → phase_of later ≡ (turn_of n p).phase
    → ((x : Node) → IsInboxOf x c.inbox → IsInboxOf (keeping (wire_text (estimate_message c slots)) x) inbox)
    → sent' ≡ sent ++ broadcast c.me c.present (estimate_message c slots)
    → Steps job n (next (job_setup job) n) moved.Acted (record c { stage = stage.Joining later; inbox = inbox }) sent sent' told told
speaks_so job c n p later slots inbox sent sent' told v e on says sends =
    let stands = stands_so job c n p v in
    let said : Jest (suc n.epoch) (seat_of n.present n.me) slots ≡ wire_text (estimate_message c slots) = rw (v.is.epoch, v.is.present, v.is.me) refl in
    step_by job n p (poll.SendEstimate slots) stands.0 e (λ o. Steps job n o moved.Acted (record c { stage = stage.Joining later; inbox = inbox }) sent sent' told told) (record {
      says = refl;
      node = record {
        me = v.is.me;
        ranks = v.is.ranks;
        epoch = v.is.epoch;
        comm = v.is.comm;
        present = v.is.present;
        member = v.is.member;
        role = v.is.role;
        calls = v.is.calls;
        bare = v.is.bare;
        is_flow = v.is.is_flow;
        knows =
            subst (λ (t : Text). IsInboxOf (keeping t (record n { stage = node.Joining (turn_of n p).phase })) inbox) (sym said)
            (says (record n { stage = node.Joining (turn_of n p).phase }) v.is.knows);
        stands = (ap node.Joining (sym on), stands.1, spoken_voted job c n p later slots v on);
      };
      sends = rw (posted_all n.me n.present (Jest (suc n.epoch) (seat_of n.present n.me) slots), v.is.epoch, v.is.present, v.is.me) sends;
      items = sym (append-nil told);
    })

-- it decides
pub decides_so : (job : Job) (c : Standing) (n : Node) (p later : Phase) (slots : List Slot) (said : Moved) (after : Standing) (sent : List (Proc × Message)) (told told' : List Item)
    → Votes job c n p → poll.Decided slots ≡ (turn_of n p).poll → later ≡ p
    → ((vote : Slot) → IsNodeOf job (record c { stage = stage.Joining later }) n → IsDeciding n vote slots (record c { stage = stage.Joining later })
    → Steps job n (Some (decides_epoch (job_setup job) n slots)) said after sent sent told told')
    → Steps job n (next (job_setup job) n) said after sent sent told told'
decides_so job c n p later slots said after sent told told' v e same goes =
    let stands = stands_so job c n p v in
    let voted = stands.2 in
    let stay : c ≡ record c { stage = stage.Joining later } = ap (λ (s : Stage). record c { stage = s }) (v.at ∙ ap stage.Joining (sym same)) in
    step_by job n p (poll.Decided slots) stands.0 e (λ o. Steps job n o said after sent sent told told')
    (goes voted.vote (subst (λ (x : Standing). IsNodeOf job x n) stay v.is)
    (record { still = stands.1; valid = voted.valid; own = decided_holds n voted.vote (phase_of p) slots (sym e) (to_holds n voted.vote p voted.holds); counted = voted.counted; told = voted.told }))
