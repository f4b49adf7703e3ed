-- An agreement: it is entered with a vote, its ballot goes on turn by turn, and it returns or fails as the ballot decides.
use Rattle.std.proofs.lemmas.List.{append-nil}
use Rattle.std.proofs.lemmas.List.Elements.{All-map}
use Rattle.std.proofs.lemmas.Bool.{and_from, eq-eqb, le-leb, or_right, true≢false}
use Rattle.std.proofs.Math.Facts.{of_z-to_z}
use Rattle.std.proofs.lemmas.Nat.{and_comm}
use Rattle.std.proofs.Common.{zero, append_assoc, bit_and, length, All, Fits, of_z, to_z, w64, subst, take, arith, ◌≡◌, ◌++◌, ◌∷◌, ◌==◌, ◌+◌, ◌<◌, ◌≤◌, [], ℕ, ℤ, suc, Bool, true, false, List, Option, Some, None, refl, ap, sym, ◌∙◌}
use Rattle.std.specs.Prelude.{if◌then◌else◌, is_some, nat_le, nat_lt, option_map, slice_get}
use Rattle.std.specs.List.{list_all}
use Rattle.fx_ballot.specs.declared.poll.Poll.{Poll}
use Rattle.fx_ballot.specs.declared.poll.Poll.TheVariants as poll
use Rattle.fx_ballot.specs.Names.{seat_of}
use Rattle.fx_ballot.specs.Turn as ballot
use Rattle.fx_base.specs.declared.names.CallNo.{CallNo}
use Rattle.fx_base.specs.declared.names.Epoch.{Epoch}
use Rattle.fx_base.specs.declared.names.Proc.{Proc}
use Rattle.fx_comm.specs.Seats.{Seat, has_place, place_in}
use Rattle.fx_comm.proofs.Places.{has_place_in}
use Rattle.fx_fleet.specs.Runs.{job_setup}
use Rattle.fx_flow.specs.Flowing.{AsksFor, DoesRest}
use Rattle.fx_inbox.specs.Ballots.{IsNow, TakesPart, about_of, ballot_of, is_vote_in}
use Rattle.fx_inbox.specs.declared.ballot.About.{About}
use Rattle.fx_inbox.specs.declared.ballot.About.TheVariants as about
use Rattle.fx_inbox.specs.declared.ballot.Ballot.{Ballot as Described}
use Rattle.fx_inbox.specs.declared.ballot.Votes.TheVariants as votes
use Rattle.fx_inbox.specs.declared.phase.Phase.{Phase}
use Rattle.fx_inbox.specs.declared.phase.Phase.TheVariants as phase
use Rattle.fx_inbox.specs.Keeping as kept
use Rattle.fx_inbox.specs.Keeping.{IsInboxOf, Kept}
use Rattle.fx_inbox.specs.Turns.{IsTurn, Leaves, Stays, phase_of}
use Rattle.fx_item.specs.declared.item.Item.{Item}
use Rattle.fx_item.specs.declared.item.Item.TheVariants as item
use Rattle.fx_link.specs.declared.message.Message.{Message}
use Rattle.fx_link.specs.declared.message.Message.TheVariants as message
use Rattle.fx_link.specs.declared.slot.Slot.{Slot}
use Rattle.fx_link.specs.declared.slot.Slot.TheVariants as slot
use Rattle.fx_machine.specs.Asking.{enters_agreement, entered}
use Rattle.fx_machine.specs.Ballots.{turned}
use Rattle.fx_machine.specs.Calls.{balloting, common_bits, decides_call, in_asked_call, unless_error}
use Rattle.fx_machine.specs.Gathering.{returns_number}
use Rattle.fx_machine.specs.Messages.{wire_text}
use Rattle.fx_machine.specs.Nodes as node
use Rattle.fx_machine.specs.Nodes.{Act, Node, keeping, members, procs_of}
use Rattle.fx_machine.specs.Numbers.{call_no, epoch_no, proc}
use Rattle.fx_machine.specs.Reading.{Ballot, OfCall, turn_in}
use Rattle.fx_machine.specs.Steps.{next, next_at}
use Rattle.fx_machine.specs.Texts.{Text, Est, Vote}
use Rattle.fx_machine.specs.Waits.{Error, all_agree, call_ballot, first_error, is_flag}
use Rattle.fx_node.specs.Asking.{AsksSuch, is_agreement, to_seats}
use Rattle.fx_node.specs.declared.node.Moved.{Moved}
use Rattle.fx_node.specs.declared.node.Moved.TheVariants as moved
use Rattle.fx_node.specs.declared.stage.Stage.{Stage}
use Rattle.fx_node.specs.declared.stage.Stage.TheVariants as stage
use Rattle.fx_node.specs.Standing.{HasTurnedInCall, InCall, IsBalloting, IsInCall, IsNodeOf, OwnAreUpTo, Standing, StandsAs, WalksAlong, is_up_to}
use Rattle.fx_node.specs.Stepping.{Steps, Takes, broadcast, call_estimate}
use Rattle.fx_node.proofs.Calling.{in_call_at, walks_at, walks_in}
use Rattle.fx_node.proofs.Joining.{one_more_up, posted_all}
use Rattle.fx_script.specs.declared.job.Job.{Job}
use Rattle.fx_walk.specs.State.{State}
use Rattle.fx_walk.specs.Walk.{Asks, Ends, Passes, Prints, Reply, TextPlace, Walk}
use Rattle.fx_walk.specs.declared.wanted.Wanted.{Wanted}
use Rattle.fx_walk.specs.declared.wanted.Wanted.TheVariants as wanted

-- ---- where it stands

-- the walk asks for an agreement with this flag
pub record Agrees (walk : Walk) : Type 0 where
  pub place : TextPlace
  pub flag : ℤ
  pub state : State
  pub rest : Reply → Walk
  pub at : walk ≡ Asks place (wanted.Agree flag) state rest

agrees : (walk : Walk) → AsksSuch is_agreement walk → Agrees walk
agrees (Ends state) asks = absurd asks
agrees (Passes rest) asks = absurd asks
agrees (Prints printed rest) asks = absurd asks
agrees (Asks place (wanted.Agree flag) state rest) asks = record { place = place; flag = flag; state = state; rest = rest; at = refl }
agrees (Asks place other state rest) asks = absurd (true≢false (sym asks))

ballots_at : (job : Job) (c : Standing) (n : Node) (p : Phase) → c.stage ≡ stage.Balloting p → IsNodeOf job c n → StandsAs job (stage.Balloting p) c n
ballots_at job c n p is h = subst (λ (s : Stage). StandsAs job s c n) is h.stands

-- it is in the call at another stage too, with other texts that aren't of a later epoch
calls_on : (job : Job) (c : Standing) (n : Node) (s : Stage) (at : node.Stage) (box : Kept) (texts : ℕ → List Text) → InCall job is_agreement c n → list_all (is_up_to n.epoch) (texts n.me) ≡ true
    → InCall job is_agreement (record c { stage = s; inbox = box }) (record n { stage = at; texts = texts })
calls_on job c n s at box texts h told = record {
  along =
      let w : WalksAlong job 20001 c n = h.along in
      record { sees = w.sees; does = w.does; carried = w.carried; shaped = w.shaped; placed = w.placed; left = w.left; within = w.within; few = w.few };
  told = told;
  begun = h.begun;
  asks = h.asks;
}

itself : (a : ℕ) → (a == a) ≡ true
itself a = eq-eqb a a refl

up_with : (n : Node) (t : Text) → is_up_to n.epoch t ≡ true → OwnAreUpTo n.epoch n → list_all (is_up_to n.epoch) ((keeping t n).texts n.me) ≡ true
up_with n t up told =
    let here : (keeping t n).texts n.me ≡ n.texts n.me ++ t ∷ [] = rw (itself n.me) refl in
    ap (list_all (is_up_to n.epoch)) here ∙ one_more_up n.epoch (n.texts n.me) t told up

-- who has come to a call may come to it and to each later one of the epoch
pub comes_on : (before epoch calls call : ℕ) → before ≡ epoch → calls ≤ call → kept.goes_on before calls epoch call ≡ true
comes_on before epoch calls call same le =
    or_right (nat_lt before epoch) _ (and_from (before == epoch) (nat_le calls call) (eq-eqb before epoch same) (le-leb calls call le))

pub balloting_is : (s : Stage) → IsBalloting s → IsInCall s
balloting_is (stage.Balloting phase) is = tt
balloting_is other is = absurd is

pub no_place : (comm : List Seat) (me : ℕ) → has_place comm me ≡ true → place_in comm me ≡ None → ⊥
no_place comm me placed none = absurd (true≢false (sym placed ∙ has_place_in comm me ∙ ap is_some none))

-- ---- what is said

-- one text to the process of each place is one to all of them
pub told_seats : (me : ℕ) (t : Message) (seats : List Seat) (k : ℕ) → to_seats me (λ x. t) k seats ≡ broadcast me (procs_of seats) t
told_seats me t [] k = refl
told_seats me t (s ∷ seats) k = one (s.1.0 == me) refl (told_seats me t seats (k + 1))
  where
    one : (b : Bool) → (s.1.0 == me) ≡ b → to_seats me (λ x. t) (k + 1) seats ≡ broadcast me (procs_of seats) t → to_seats me (λ x. t) k (s ∷ seats) ≡ broadcast me (procs_of (s ∷ seats)) t
    one true e rest = rw e rest
    one false e rest = rw e (ap (λ (l : List (Proc × Message)). (s.1, t) ∷ l) rest)

-- ---- the entry

-- its inbox with its vote in it, once it has come to the call
abbrev pub Casts : Standing → ℕ → Slot → Kept → Type 0
Casts c next vote box =
    (n : Node) → n.epoch ≡ c.epoch → n.calls ≤ next → IsInboxOf n c.inbox → IsInboxOf (keeping (wire_text (message.Vote (epoch_no c.epoch) (call_no next) vote)) (record n { calls = next })) box

knows_vote : (n : Node) (c : Standing) (next : ℕ) (vote : Slot) (box : Kept) → n.epoch ≡ c.epoch → suc n.calls ≡ next → IsInboxOf n c.inbox → Casts c next vote box
    → IsInboxOf (keeping (Vote n.epoch (suc n.calls) vote) (entered (node.Balloting ballot.Voting) n)) box
knows_vote n c next vote box epoch number knows casts =
    subst (λ (e : ℕ). IsInboxOf (keeping (Vote e (suc n.calls) vote) (record n { calls = suc n.calls })) box) (sym epoch)
    (subst (λ (k : ℕ). IsInboxOf (keeping (Vote c.epoch k vote) (record n { calls = k })) box) (sym number) (casts n epoch (omega (arith, number)) knows))

pub enters_agreement_so : (job : Job) (c after : Standing) (n : Node) (place : TextPlace) (flag : ℤ) (state : State) (rest : Reply → Walk) (next : ℕ) (sent sent' : List (Proc × Message)) (told told' : List Item)
    → IsNodeOf job c n → c.stage ≡ stage.Walking → n.walk ≡ Asks place (wanted.Agree flag) state rest → next ≡ suc c.calls
    → after ≡ record c { calls = next; stage = stage.Balloting phase.Voting; inbox = after.inbox } → Casts c next (slot.Flag flag) after.inbox
    → sent' ≡ sent ++ broadcast c.me (procs_of c.comm) (message.Vote (epoch_no c.epoch) (call_no next) (slot.Flag flag))
    → told' ≡ told ++ item.Agree (proc c.me) (epoch_no c.epoch) (call_no next) flag ∷ []
    → Takes job (enters_agreement n flag) moved.Acted after sent sent' told told'
enters_agreement_so job c after n place flag state rest next sent sent' told told' h is at is_next same casts went wrote =
    let here = walks_at job c n is h in
    let number : suc n.calls ≡ next = ap suc h.calls ∙ sym is_next in
    let vote : Text = Vote n.epoch (suc n.calls) (slot.Flag flag) in
    let texts : ℕ → List Text = (keeping vote n).texts in
    subst (λ (s : Standing). Takes job (enters_agreement n flag) moved.Acted s sent sent' told told') (sym same) (record {
      says = refl;
      node = record {
        me = h.me;
        ranks = h.ranks;
        epoch = h.epoch;
        comm = h.comm;
        present = h.present;
        member = h.member;
        role = h.role;
        calls = number;
        bare = h.bare;
        is_flow = h.is_flow;
        knows = knows_vote n c next (slot.Flag flag) after.inbox h.epoch number h.knows casts;
        stands = (
          refl,
          record {
            along = walks_in job c n (stage.Balloting phase.Voting) (node.Calling (node.Balloting ballot.Voting)) texts next after.inbox here.1;
            told = up_with n vote refl here.2;
            begun = here.3;
            asks = subst (AsksSuch is_agreement) (sym at) refl;
          },
        );
      };
      sends =
          went
          ∙ ap (λ (l : List (Proc × Message)). sent ++ l)
          (sym (posted_all n.me (members n) vote ∙ (λ i. broadcast (h.me i) (procs_of (h.comm i)) (message.Vote (epoch_no (h.epoch i)) (call_no (number i)) (slot.Flag flag)))));
      items = wrote ∙ sym (λ i. told ++ item.Agree (proc (h.me i)) (epoch_no (h.epoch i)) (call_no (number i)) flag ∷ []);
    })

-- ---- its turns

-- the ballot of its agreement, as it is described
pub takes_call : (n : Node) (d : Described) (e : Epoch) (k : CallNo) (members present : List ℕ) (flag : ℤ) (phase : ballot.Phase) (said : Poll) (after : Phase) → d.about ≡ about.Call e k votes.Flags
    → d.members.now ≡ members → d.present.now ≡ present → n.epoch ≡ e.0 → n.calls ≡ k.0 → procs_of n.comm ≡ members → n.present ≡ present
    → (TakesPart d n → IsTurn (turn_in (ballot_of d) n phase) said after) → IsTurn (turn_in (call_ballot n (wanted.Agree flag)) n phase) said after
takes_call n d e k members present flag phase said after is who there epoch calls all present_is takes =
    subst (λ (b : Ballot). IsTurn (turn_in b n phase) said after)
    ((λ i. record { about = about_of (is i); members = who i; is_vote = is_vote_in (is i) })
    ∙ (λ i. record { about = OfCall (sym epoch i) (sym calls i); members = sym all i; is_vote = is_flag }))
    (takes
    (record {
      now = subst (λ (a : About). IsNow n.epoch n.calls (about_of a)) (sym is) (sym epoch, sym calls);
      present = present_is ∙ sym there;
    }))

-- the turn of the node in a phase of the ballot of an agreement
abbrev pub call_turn : Node → ℤ → Phase → ballot.Turn
call_turn n flag p = turn_in (call_ballot n (wanted.Agree flag)) n (phase_of p)

-- the step of a node in the ballot of its agreement, by what its turn does
step_by : (job : Job) (n : Node) (p : Phase) (x : Poll) (a : Agrees n.walk) → n.stage ≡ node.Calling (node.Balloting (phase_of p)) → x ≡ (call_turn n a.flag p).poll → (P : Option Act → Type 0)
    → P (turned (call_ballot n (wanted.Agree a.flag)) n balloting (decides_call (job_setup job) n (wanted.Agree a.flag) a.rest) (record { phase = (call_turn n a.flag p).phase; poll = x })) → P (next (job_setup job) n)
step_by job n p x a at e P h =
    let same : next (job_setup job) n ≡ turned (call_ballot n (wanted.Agree a.flag)) n balloting (decides_call (job_setup job) n (wanted.Agree a.flag) a.rest) (record { phase = (call_turn n a.flag p).phase; poll = x }) =
    ap (next_at (job_setup job) n) at
    ∙ ap (in_asked_call (job_setup job) n (node.Balloting (phase_of p))) a.at
    ∙ ap (λ (y : Poll). turned (call_ballot n (wanted.Agree a.flag)) n balloting (decides_call (job_setup job) n (wanted.Agree a.flag) a.rest) (record { phase = (call_turn n a.flag p).phase; poll = y })) (sym e) in
    subst P (sym same) h

-- a node in the ballot of its agreement
pub record Balloting (job : Job) (c : Standing) (n : Node) (p : Phase) : Type 0 where
  pub is : IsNodeOf job c n
  pub at : c.stage ≡ stage.Balloting p

call_of : (job : Job) (c : Standing) (n : Node) (p : Phase) → Balloting job c n p → InCall job is_agreement c n
call_of job c n p b = (ballots_at job c n p b.at b.is).1

-- its walk asks for the agreement
asks_of : (job : Job) (c : Standing) (n : Node) (p : Phase) → Balloting job c n p → Agrees n.walk
asks_of job c n p b = agrees n.walk (call_of job c n p b).asks

stays_so : (job : Job) (c : Standing) (n : Node) (p later : Phase) → Balloting job c n p → later ≡ p → IsNodeOf job (record c { stage = stage.Balloting later }) n
stays_so job c n p later b same =
    let stay : c ≡ record c { stage = stage.Balloting later } = ap (λ (s : Stage). record c { stage = s }) (b.at ∙ ap stage.Balloting (sym same)) in
    subst (λ (x : Standing). IsNodeOf job x n) stay b.is

-- it waits
waits : (job : Job) (c : Standing) (n : Node) (p later : Phase) (sent : List (Proc × Message)) (told : List Item) → Balloting job c n p → later ≡ p
    → Steps job n None moved.Quiet (record c { stage = stage.Balloting later }) sent sent told told
waits job c n p later sent told b same = record {
  says = sym (ap (λ (s : node.Stage). if node.is_over s then moved.Ended else moved.Quiet) (ballots_at job c n p b.at b.is).0);
  node = stays_so job c n p later b same;
  sends = refl;
  items = refl;
}

rests : (job : Job) (c : Standing) (n : Node) (p later : Phase) (sent : List (Proc × Message)) (told : List Item) (b : Balloting job c n p)
    → poll.NotYet ≡ (call_turn n (asks_of job c n p b).flag p).poll → later ≡ p
    → Steps job n (next (job_setup job) n) moved.Quiet (record c { stage = stage.Balloting later }) sent sent told told
rests job c n p later sent told b e same =
    step_by job n p poll.NotYet (asks_of job c n p b) (ballots_at job c n p b.at b.is).0 e (λ o. Steps job n o moved.Quiet (record c { stage = stage.Balloting later }) sent sent told told)
    (waits job c n p later sent told b same)

-- the node in another phase, with these texts, as the process keeps it
in_phase : (job : Job) (c : Standing) (n : Node) (p later : Phase) (ph : ballot.Phase) (box : Kept) (texts : ℕ → List Text) → Balloting job c n p → phase_of later ≡ ph
    → list_all (is_up_to n.epoch) (texts n.me) ≡ true → IsInboxOf (record n { texts = texts }) box
    → IsNodeOf job (record c { stage = stage.Balloting later; inbox = box }) (record n { stage = balloting ph; texts = texts })
in_phase job c n p later ph box texts b on told knows = record {
  me = b.is.me;
  ranks = b.is.ranks;
  epoch = b.is.epoch;
  comm = b.is.comm;
  present = b.is.present;
  member = b.is.member;
  role = b.is.role;
  calls = b.is.calls;
  bare = b.is.bare;
  is_flow = b.is.is_flow;
  knows = knows;
  stands = (ap balloting (sym on), calls_on job c n (stage.Balloting later) (balloting ph) box texts (call_of job c n p b) told);
}

-- it goes on
goes_on : (job : Job) (c : Standing) (n : Node) (p later : Phase) (sent : List (Proc × Message)) (told : List Item) (b : Balloting job c n p)
    → poll.Moved ≡ (call_turn n (asks_of job c n p b).flag p).poll → phase_of later ≡ (call_turn n (asks_of job c n p b).flag p).phase
    → Steps job n (next (job_setup job) n) moved.Acted (record c { stage = stage.Balloting later }) sent sent told told
goes_on job c n p later sent told b e on =
    step_by job n p poll.Moved (asks_of job c n p b) (ballots_at job c n p b.at b.is).0 e (λ o. Steps job n o moved.Acted (record c { stage = stage.Balloting later }) sent sent told told) (record {
      says = refl;
      node = in_phase job c n p later (call_turn n (asks_of job c n p b).flag p).phase c.inbox n.texts b on (call_of job c n p b).told b.is.knows;
      sends = sym (append-nil sent);
      items = sym (append-nil told);
    })

-- it says its estimate
speaks : (job : Job) (c : Standing) (n : Node) (p later : Phase) (slots : List Slot) (box : Kept) (sent sent' : List (Proc × Message)) (told : List Item) (b : Balloting job c n p)
    → poll.SendEstimate slots ≡ (call_turn n (asks_of job c n p b).flag p).poll → phase_of later ≡ (call_turn n (asks_of job c n p b).flag p).phase
    → ((x : Node) → IsInboxOf x c.inbox → IsInboxOf (keeping (wire_text (call_estimate c slots)) x) box)
    → sent' ≡ sent ++ broadcast c.me (procs_of c.comm) (call_estimate c slots)
    → Steps job n (next (job_setup job) n) moved.Acted (record c { stage = stage.Balloting later; inbox = box }) sent sent' told told
speaks job c n p later slots box sent sent' told b e on says went =
    let estimate : Text = Est n.epoch n.calls (seat_of (members n) n.me) slots in
    let said : wire_text (call_estimate c slots) ≡ estimate = rw (b.is.epoch, b.is.calls, b.is.comm, b.is.me) refl in
    step_by job n p (poll.SendEstimate slots) (asks_of job c n p b) (ballots_at job c n p b.at b.is).0 e (λ o. Steps job n o moved.Acted (record c { stage = stage.Balloting later; inbox = box }) sent sent' told told) (record {
      says = refl;
      node = in_phase job c n p later (call_turn n (asks_of job c n p b).flag p).phase box (keeping estimate n).texts b on (up_with n estimate refl (call_of job c n p b).told)
          (subst (λ (t : Text). IsInboxOf (keeping t n) box) said (says n b.is.knows));
      sends = rw (posted_all n.me (members n) estimate, b.is.epoch, b.is.calls, b.is.comm, b.is.me) went;
      items = sym (append-nil told);
    })

-- ---- behind the turn that it took

balloting_of : (job : Job) (c d : Standing) (n : Node) (said : Poll) → (h : HasTurnedInCall c d said) → IsNodeOf job c n → Balloting job c n h.before
balloting_of job c d n said h is = record { is = is; at = h.at }

taken : (job : Job) (c d : Standing) (n : Node) (said : Poll) → (h : HasTurnedInCall c d said) → (is : IsNodeOf job c n)
    → IsTurn (call_turn n (asks_of job c n h.before (balloting_of job c d n said h is)).flag h.before) said h.later
taken job c d n said h is = h.takes job n (asks_of job c n h.before (balloting_of job c d n said h is)).flag is

pub rests_behind : (job : Job) (c d : Standing) (n : Node) (said : Poll) (sent : List (Proc × Message)) (told : List Item) → HasTurnedInCall c d said → IsNodeOf job c n → said ≡ poll.NotYet
    → Steps job n (next (job_setup job) n) moved.Quiet d sent sent told told
rests_behind job c d n said sent told h is e =
    subst (λ (x : Standing). Steps job n (next (job_setup job) n) moved.Quiet x sent sent told told) (sym h.same)
    (rests job c n h.before h.later sent told (balloting_of job c d n said h is) (sym e ∙ (taken job c d n said h is).says) (subst (λ (x : Poll). Stays x h.before h.later) e h.stays))

pub goes_on_behind : (job : Job) (c d : Standing) (n : Node) (said : Poll) (sent : List (Proc × Message)) (told : List Item) → HasTurnedInCall c d said → IsNodeOf job c n → said ≡ poll.Moved
    → Steps job n (next (job_setup job) n) moved.Acted d sent sent told told
goes_on_behind job c d n said sent told h is e =
    let b = balloting_of job c d n said h is in
    let t = taken job c d n said h is in
    subst (λ (x : Standing). Steps job n (next (job_setup job) n) moved.Acted x sent sent told told) (sym h.same)
    (goes_on job c n h.before h.later sent told b (sym e ∙ t.says) (subst (λ (x : Poll). Leaves x (call_turn n (asks_of job c n h.before b).flag h.before).phase h.later) e t.leaves))

-- what an estimate that is said owes, from a standing on
abbrev pub Says : Standing → Standing → List Slot → Moved → (sent sent' : List (Proc × Message)) → Type 0
Says d after slots m sent sent' =
    has_place d.comm d.me ≡ true → (m ≡ moved.Acted)
    × (sent' ≡ sent ++ broadcast d.me (procs_of d.comm) (call_estimate d slots))
    × ((n : Node) → IsInboxOf n d.inbox → IsInboxOf (keeping (wire_text (call_estimate d slots)) n) after.inbox)

pub speaks_behind : (job : Job) (c d : Standing) (n : Node) (said : Poll) (after : Standing) (slots : List Slot) (m : Moved) (sent sent' : List (Proc × Message)) (told : List Item)
    → HasTurnedInCall c d said → IsNodeOf job c n → said ≡ poll.SendEstimate slots → Says d after slots m sent sent' → after ≡ record d { inbox = after.inbox }
    → Steps job n (next (job_setup job) n) m after sent sent' told told
speaks_behind job c d n said after slots m sent sent' told h is e says same =
    let b = balloting_of job c d n said h is in
    let t = taken job c d n said h is in
    let placed : has_place c.comm c.me ≡ true = (λ i. has_place (sym is.comm i) (sym is.me i)) ∙ (call_of job c n h.before b).along.placed in
    let from = subst (λ (x : Standing). Says x after slots m sent sent') h.same says placed in
    subst (λ (x : Standing). Steps job n (next (job_setup job) n) m x sent sent' told told) (sym (same ∙ ap (λ (x : Standing). record x { inbox = after.inbox }) h.same))
    (subst (λ (x : Moved). Steps job n (next (job_setup job) n) x (record c { stage = stage.Balloting h.later; inbox = after.inbox }) sent sent' told told) (sym from.0)
    (speaks job c n h.before h.later slots after.inbox sent sent' told b (sym e ∙ t.says) (subst (λ (x : Poll). Leaves x (call_turn n (asks_of job c n h.before b).flag h.before).phase h.later) e t.leaves) from.2 from.1))

-- a decision
pub decides_behind : (job : Job) (c d : Standing) (n : Node) (said : Poll) (slots : List Slot) (m : Moved) (after : Standing) (sent : List (Proc × Message)) (told told' : List Item)
    → HasTurnedInCall c d said → IsNodeOf job c n → said ≡ poll.Decided slots
    → (IsNodeOf job d n → (place : TextPlace) (flag : ℤ) (state : State) (rest : Reply → Walk) → n.walk ≡ Asks place (wanted.Agree flag) state rest
    → Steps job n (decides_call (job_setup job) n (wanted.Agree flag) rest slots) m after sent sent told told')
    → Steps job n (next (job_setup job) n) m after sent sent told told'
decides_behind job c d n said slots m after sent told told' h is e goes =
    let b = balloting_of job c d n said h is in
    let a = asks_of job c n h.before b in
    let stay : IsNodeOf job d n = subst (λ (x : Standing). IsNodeOf job x n) (sym h.same) (stays_so job c n h.before h.later b (subst (λ (x : Poll). Stays x h.before h.later) e h.stays)) in
    step_by job n h.before (poll.Decided slots) a (ballots_at job c n h.before h.at is).0 (sym e ∙ (taken job c d n said h is).says) (λ o. Steps job n o m after sent sent told told')
    (goes stay a.place a.flag a.state a.rest a.at)

-- ---- the decision

-- without one, where all agree or not
pub agrees_so : (job : Job) (c : Standing) (n : Node) (flag : ℤ) (rest : Reply → Walk) (slots : List Slot) (b : Bool) (m : Moved) (after : Standing) (sent : List (Proc × Message)) (told told' : List Item)
    → IsNodeOf job c n → None ≡ first_error (procs_of c.comm) slots → all_agree slots ≡ b → Steps job n (if b then Some (returns_number n rest (common_bits slots)) else None) m after sent sent told told'
    → Steps job n (decides_call (job_setup job) n (wanted.Agree flag) rest slots) m after sent sent told told'
agrees_so job c n flag rest slots b m after sent told told' is first agree steps =
    subst (λ (o : Option Error). Steps job n (unless_error (job_setup job) n (wanted.Agree flag) rest slots o) m after sent sent told told')
    (first ∙ ap (λ (l : List Seat). first_error (procs_of l) slots) (sym is.comm))
    (subst (λ (b : Bool). Steps job n (if b then Some (returns_number n rest (common_bits slots)) else None) m after sent sent told told') (sym agree) steps)

-- ---- the bits that all flags have, from the last slot to the first

-- a loop from behind: what is left stands in front of slots whose common bits are these
pub record Behind (slots rest : List Slot) (bits : ℤ) : Type 0 where
  pub tail : List Slot
  pub all : rest ++ tail ≡ slots
  pub are : bits ≡ common_bits tail

split_so : (slots before rest tail : List Slot) (x : Slot) → before ++ tail ≡ slots → before ≡ rest ++ x ∷ [] → rest ++ x ∷ tail ≡ slots
split_so slots before rest tail x all split = sym (append_assoc rest (x ∷ []) tail) ∙ ap (λ (l : List Slot). l ++ tail) (sym split) ∙ all

pub one_more_flag : (slots before rest : List Slot) (x : Slot) (flag : ℤ) (raw : ℕ) → Behind slots before (to_z w64 raw) → before ≡ rest ++ x ∷ [] → x ≡ slot.Flag flag → Fits w64 raw
    → Behind slots rest (to_z w64 (bit_and raw (of_z w64 flag)))
one_more_flag slots before rest x flag raw h split is fits = record {
  tail = slot.Flag flag ∷ h.tail;
  all = split_so slots before rest h.tail (slot.Flag flag) h.all (split ∙ ap (λ (y : Slot). rest ++ y ∷ []) is);
  are = ap (to_z w64) (and_comm raw (of_z w64 flag)) ∙ ap (λ (k : ℕ). to_z w64 (bit_and (of_z w64 flag) k)) (sym (of_z-to_z {w = w64} {n = raw} fits) ∙ ap (of_z w64) h.are);
}

-- ---- the first error

pub no_places_left : (seats : List Seat) (slots : List Slot) (all : Option Error) → length seats ≡ 0 → first_error (procs_of seats) slots ≡ all → None ≡ all
no_places_left [] slots all none so = so
no_places_left (s ∷ seats) slots all none so = absurd (omega (arith, none))

pub no_slots_left : (seats : List Seat) (slots : List Slot) (all : Option Error) → length slots ≡ 0 → first_error (procs_of seats) slots ≡ all → None ≡ all
no_slots_left [] [] all none so = so
no_slots_left (s ∷ seats) [] all none so = so
no_slots_left seats (x ∷ slots) all none so = absurd (omega (arith, none))

-- ---- the processes of places

pub one_more_process : (seats : List Seat) (k : ℕ) (p : Proc) → option_map (λ (s : Seat). s.1) (slice_get seats k) ≡ Some p → procs_of (take k seats) ++ p.0 ∷ [] ≡ procs_of (take (k + 1) seats)
one_more_process [] k p there = absurd cc
one_more_process (s ∷ seats) zero p there = let same : s.1 ≡ p = cc in ap (λ (q : Proc). q.0 ∷ []) (sym same)
one_more_process (s ∷ seats) (suc k) p there =
    let next : suc k + 1 ≡ suc (k + 1) = omega arith in
    rw next (ap (λ (l : List ℕ). s.1.0 ∷ l) (one_more_process seats k p there))

pub all_among : (bound : ℕ) (found : List ℕ) (seats : List Seat) → All (λ (s : Seat). s.1.0 < bound) seats → found ≡ procs_of seats → All (λ q. q < bound) found
all_among bound found seats below is = subst (λ (l : List ℕ). All (λ q. q < bound) l) (sym is) (All-map (λ q. q < bound) (λ (s : Seat). s.1.0) seats below)

-- ---- where nothing is done

-- its flow stands at an agreement
pub wants_agreement : (job : Job) (c : Standing) (n : Node) (place : TextPlace) (flag : ℤ) (state : State) (rest : Reply → Walk) (found : Wanted) → IsNodeOf job c n → IsBalloting c.stage
    → n.walk ≡ Asks place (wanted.Agree flag) state rest → ((walk : Walk) → DoesRest c.view walk c.flow → AsksFor walk found) → found ≡ wanted.Agree flag
wants_agreement job c n place flag state rest found h is at asked =
    let call = in_call_at job c n (balloting_is c.stage is) h in
    subst (λ (w : Walk). AsksFor w found) at (asked n.walk call.1.along.does)
