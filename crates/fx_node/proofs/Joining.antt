-- A node that votes in the ballot of the next epoch.
use Rattle.std.proofs.Common.{◌≡◌, ℕ, ◌<◌, suc, Bool, true, false, not, ◌||◌, ◌==◌, List, [], ◌∷◌, ◌++◌, map, Option, Some, None, refl, sym, ap, subst, ◌∙◌, arith}
use Rattle.std.specs.Prelude.{if◌then◌else◌, nat_le}
use Rattle.std.specs.List.{filter, list_all}
use Rattle.std.proofs.lemmas.Bool.{eq-eqb, lt-ltb, le-leb, and_from, and_parts}
use Rattle.std.proofs.lemmas.Bool.Decides.{nat_tests}
use Rattle.fx_base.specs.declared.names.Proc.{Proc}
use Rattle.fx_item.specs.declared.item.Item.{Item}
use Rattle.fx_item.specs.declared.item.Item.TheVariants as item
use Rattle.fx_link.specs.declared.message.Message.{Message}
use Rattle.fx_link.specs.declared.message.Message.TheVariants as message
use Rattle.fx_link.specs.declared.slot.Slot.{Slot}
use Rattle.fx_machine.specs.Ballots.{joins, joined, may_join}
use Rattle.fx_machine.specs.Groups.{discarding}
use Rattle.fx_machine.specs.Messages.{message_of, wire_text}
use Rattle.fx_machine.specs.Nodes as node
use Rattle.fx_machine.specs.Nodes.{Node, Act, keeping, to_others}
use Rattle.fx_machine.specs.Numbers.{proc, epoch_no}
use Rattle.fx_machine.specs.Reading.{OfEpoch, first_read, only, is_join, vote_in}
use Rattle.fx_machine.specs.Texts.{Text, Join, Jest}
use Rattle.fx_ballot.specs.Turn.{Voting}
use Rattle.fx_node.specs.declared.node.Moved.TheVariants as moved
use Rattle.fx_inbox.specs.declared.phase.Phase.TheVariants as phase
use Rattle.fx_node.specs.declared.stage.Stage.TheVariants as stage
use Rattle.fx_inbox.specs.Keeping.{Kept, IsInboxOf}
use Rattle.fx_node.specs.Standing.{Standing, IsNodeOf, HasVoted, MayVote, OwnAreUpTo, is_up_to}
use Rattle.fx_node.specs.Stepping.{Steps, Takes, posted, broadcast}
use Rattle.fx_script.specs.declared.job.Job.{Job}

-- ---- what is sent

pub posted_all : (me : ℕ) (all : List ℕ) (t : Text) → map posted (to_others me all t) ≡ broadcast me all (message_of t)
posted_all me all t = each (filter (λ q. not (q == me)) all)
  where
    each : (qs : List ℕ) → map posted (map (λ q. (q, t)) qs) ≡ map (λ q. (proc q, message_of t)) qs
    each [] = refl
    each (q ∷ qs) = ap (λ l. (proc q, message_of t) ∷ l) (each qs)

-- ---- own texts

le_on : (epoch e : ℕ) → nat_le e epoch ≡ true → nat_le e (suc epoch) ≡ true
le_on epoch e is = grind (arith, nat_tests)

-- what is of this epoch or of one before is so at the next
up_on : (epoch : ℕ) (t : Text) → is_up_to epoch t ≡ true → is_up_to (suc epoch) t ≡ true
up_on epoch (Join e kind) is = le_on epoch e is
up_on epoch (Jest e r slots) is = le_on epoch e is
up_on epoch other is = refl

pub all_up_on : (epoch : ℕ) (ts : List Text) → list_all (is_up_to epoch) ts ≡ true → list_all (is_up_to (suc epoch)) ts ≡ true
all_up_on epoch [] is = refl
all_up_on epoch (t ∷ ts) is =
    let both = and_parts (is_up_to epoch t) (list_all (is_up_to epoch) ts) is in
    and_from (is_up_to (suc epoch) t) (list_all (is_up_to (suc epoch)) ts) (up_on epoch t both.0) (all_up_on epoch ts both.1)

pub one_more_up : (epoch : ℕ) (ts : List Text) (t : Text) → list_all (is_up_to epoch) ts ≡ true → is_up_to epoch t ≡ true → list_all (is_up_to epoch) (ts ++ t ∷ []) ≡ true
one_more_up epoch [] t is one = and_from (is_up_to epoch t) true one refl
one_more_up epoch (s ∷ ts) t is one =
    let both = and_parts (is_up_to epoch s) (list_all (is_up_to epoch) ts) is in
    and_from (is_up_to epoch s) (list_all (is_up_to epoch) (ts ++ t ∷ [])) both.0 (one_more_up epoch ts t both.1 one)

other_epoch : (epoch e : ℕ) → nat_le e epoch ≡ true → (e == suc epoch) ≡ false
other_epoch epoch e is = grind (arith, nat_tests)

-- what is of this epoch or of one before is no vote of the ballot that comes
no_vote : (epoch : ℕ) (test : Slot → Bool) (t : Text) → is_up_to epoch t ≡ true → only test (vote_in (OfEpoch (suc epoch)) t) ≡ None
no_vote epoch test (Join e kind) is = let other : (e == suc epoch) ≡ false = other_epoch epoch e is in rw other refl
no_vote epoch test other is = refl

itself : (a : ℕ) → (a == a) ≡ true
itself a = eq-eqb a a refl

-- the vote that is said is the first one
pub first_vote : (epoch : ℕ) (test : Slot → Bool) (kind : Slot) (ts : List Text) → test kind ≡ true → list_all (is_up_to epoch) ts ≡ true
    → first_read (λ t. only test (vote_in (OfEpoch (suc epoch)) t)) (ts ++ Join (suc epoch) kind ∷ []) ≡ Some kind
first_vote epoch test kind [] counts is = rw (itself (suc epoch), counts) refl
first_vote epoch test kind (t ∷ ts) counts is =
    let both = and_parts (is_up_to epoch t) (list_all (is_up_to epoch) ts) is in
    let none : only test (vote_in (OfEpoch (suc epoch)) t) ≡ None = no_vote epoch test t both.0 in
    rw none (first_vote epoch test kind ts counts both.1)

-- ---- a join

pub votes_so : (n : Node) (kind : Slot) → is_join (suc n.epoch) kind ≡ true → may_join n ≡ true → OwnAreUpTo n.epoch n → HasVoted (joined kind n).node phase.Voting
votes_so n kind valid counted unheard = record {
  vote = kind;
  own =
      let here : (joined kind n).node.texts n.me ≡ n.texts n.me ++ Join (suc n.epoch) kind ∷ [] = rw (itself n.me) refl in
      let counts : ((n.me == n.me) || is_join (suc n.epoch) kind) ≡ true = rw (itself n.me) refl in
      ap (first_read (λ t. only (λ x. (n.me == n.me) || is_join (suc n.epoch) x) (vote_in (OfEpoch (suc n.epoch)) t))) here
      ∙ first_vote n.epoch (λ x. (n.me == n.me) || is_join (suc n.epoch) x) kind (n.texts n.me) counts unheard;
  valid = valid;
  holds = tt;
  counted = counted;
  told =
      let here : (joined kind n).node.texts n.me ≡ n.texts n.me ++ Join (suc n.epoch) kind ∷ [] = rw (itself n.me) refl in
      let within : nat_le (suc n.epoch) (suc n.epoch) ≡ true = le-leb (suc n.epoch) (suc n.epoch) (omega arith) in
      ap (list_all (is_up_to (suc n.epoch))) here ∙ one_more_up (suc n.epoch) (n.texts n.me) (Join (suc n.epoch) kind) (all_up_on n.epoch (n.texts n.me) unheard) within;
}

goes_joining : (job : Job) (kind : Slot) (c : Standing) (n : Node) (inbox : Kept) → IsNodeOf job c n → MayVote kind c n → may_join n ≡ true
    → ((m : Node) → IsInboxOf m c.inbox → IsInboxOf (keeping (Join (suc c.epoch) kind) m) inbox)
    → IsNodeOf job (record c { inbox = inbox; stage = stage.Joining phase.Voting }) (joined kind n).node
goes_joining job kind c n inbox is may counted says = record {
  me = is.me;
  ranks = is.ranks;
  epoch = is.epoch;
  comm = is.comm;
  present = is.present;
  member = is.member;
  role = is.role;
  calls = is.calls;
  bare = is.bare;
  is_flow = is.is_flow;
  knows =
      subst (λ (e : ℕ). IsInboxOf (keeping (Join (suc e) kind) (record n { stage = node.Joining Voting; groups = λ g. discarding (n.groups g) })) inbox) (sym is.epoch)
      (says (record n { stage = node.Joining Voting; groups = λ g. discarding (n.groups g) }) is.knows);
  stands = (refl, may.still, votes_so n kind may.valid counted may.unheard);
}

of_choice : {X : Type 0} (P : Option X → Type 0) (b : Bool) (x : X) → b ≡ true → P (Some x) → P (if b then Some x else None)
of_choice P true x is p = p
of_choice P false x is p = absurd cc

-- it votes, and tells the other members
pub join_steps : (job : Job) (kind : Slot) (c m : Standing) (n : Node) (next : ℕ) (inbox : Kept) (sent sent' : List (Proc × Message)) (told told' : List Item)
    → m ≡ record c { inbox = inbox } → next ≡ suc c.epoch → c.epoch < 4294967295
    → ((x : Node) → IsInboxOf x c.inbox → IsInboxOf (keeping (wire_text (message.Join (epoch_no next) kind)) x) inbox)
    → sent' ≡ sent ++ broadcast c.me c.present (message.Join (epoch_no next) kind) → told' ≡ told ++ item.Join (proc c.me) (epoch_no next) kind ∷ []
    → IsNodeOf job c n → MayVote kind c n
    → Steps job n (joins kind n) moved.Acted (record m { stage = stage.Joining phase.Voting }) sent sent' told told'
join_steps job kind c m n next inbox sent sent' told told' same is_next below says sends items is may =
    let counted : may_join n ≡ true = lt-ltb n.epoch 4294967295 (let e : n.epoch ≡ c.epoch = is.epoch in omega (arith, e, below)) in
    let after : Standing = record m { stage = stage.Joining phase.Voting } in
    let heard : (x : Node) → IsInboxOf x c.inbox → IsInboxOf (keeping (Join (suc c.epoch) kind) x) inbox =
    subst (λ (e : ℕ). (x : Node) → IsInboxOf x c.inbox → IsInboxOf (keeping (Join e kind) x) inbox) is_next says in
    let done : IsNodeOf job after (joined kind n).node =
    subst (λ (x : Standing). IsNodeOf job (record x { stage = stage.Joining phase.Voting }) (joined kind n).node) (sym same) (goes_joining job kind c n inbox is may counted heard) in
    let of_next : next ≡ suc n.epoch = is_next ∙ ap suc (sym is.epoch) in
    let takes : Takes job (joined kind n) moved.Acted after sent sent' told told' = record {
      says = refl;
      node = done;
      sends = rw (posted_all n.me n.present (Join (suc n.epoch) kind), ← of_next, is.me, is.present) sends;
      items = rw (← of_next, is.me) items;
    } in
    of_choice (λ o. Steps job n o moved.Acted after sent sent' told told') (may_join n) (joined kind n) counted takes
