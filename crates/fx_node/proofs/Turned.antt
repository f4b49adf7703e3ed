-- What a process does behind the turn that it took.
use Rattle.std.proofs.Common.{◌≡◌, ◌<◌, ◌++◌, ℕ, suc, true, List, Some, sym, ap, subst, ◌∙◌, arith}
use Rattle.std.specs.Prelude.{nat_lt}
use Rattle.std.proofs.lemmas.Bool.Decides.{nat_tests}
use Rattle.fx_ballot.specs.declared.poll.Poll.{Poll}
use Rattle.fx_ballot.specs.declared.poll.Poll.TheVariants as poll
use Rattle.fx_ballot.specs.Turn as ballot
use Rattle.fx_base.specs.declared.names.Epoch.{Epoch}
use Rattle.fx_base.specs.declared.names.Proc.{Proc}
use Rattle.fx_fleet.specs.Runs.{job_setup}
use Rattle.fx_inbox.specs.Ballots.{IsNow, TakesPart, about_of, ballot_of, is_vote_in}
use Rattle.fx_inbox.specs.declared.ballot.About.{About}
use Rattle.fx_inbox.specs.declared.ballot.About.TheVariants as about
use Rattle.fx_inbox.specs.declared.ballot.Ballot.{Ballot as Described}
use Rattle.fx_inbox.specs.declared.phase.Phase.{Phase}
use Rattle.fx_inbox.specs.Keeping.{IsInboxOf}
use Rattle.fx_inbox.specs.Turns.{IsTurn, Leaves, Stays}
use Rattle.fx_item.specs.declared.item.Item.{Item}
use Rattle.fx_link.specs.declared.message.Message.{Message}
use Rattle.fx_link.specs.declared.slot.Slot.{Slot}
use Rattle.fx_machine.specs.Ballots.{decides_epoch}
use Rattle.fx_machine.specs.Messages.{wire_text}
use Rattle.fx_machine.specs.Nodes.{Node, keeping}
use Rattle.fx_machine.specs.Reading.{Ballot, OfEpoch, is_join, next_ballot, turn_in}
use Rattle.fx_machine.specs.Steps.{next}
use Rattle.fx_node.specs.declared.node.Moved.{Moved}
use Rattle.fx_node.specs.declared.node.Moved.TheVariants as moved
use Rattle.fx_node.specs.declared.stage.Stage.TheVariants as stage
use Rattle.fx_node.specs.Standing.{Standing, HasTurned, IsDeciding, IsNodeOf}
use Rattle.fx_node.specs.Stepping.{Steps, broadcast, estimate_message}
use Rattle.fx_node.proofs.Taking.{Votes, turn_of, stands_so, rests, goes_on, speaks_so, decides_so}
use Rattle.fx_script.specs.declared.job.Job.{Job}

pub takes_next : (n : Node) (d : Described) (e : Epoch) (members : List ℕ) (phase : ballot.Phase) (said : Poll) (after : Phase) → d.about ≡ about.Epoch e → d.members.now ≡ members → d.present.now ≡ members
    → n.epoch ≡ e.0 → n.present ≡ members → (TakesPart d n → IsTurn (turn_in (ballot_of d) n phase) said after) → IsTurn (turn_in (next_ballot n) n phase) said after
takes_next n d e members phase said after about who there epoch present takes =
    subst (λ (b : Ballot). IsTurn (turn_in b n phase) said after)
    ((λ i. record { about = about_of (about i); members = who i; is_vote = is_vote_in (about i) })
    ∙ (λ i. record { about = OfEpoch (suc (sym epoch i)); members = sym present i; is_vote = is_join (suc (sym epoch i)) }))
    (takes
    (record {
      now = subst (λ (a : About). IsNow n.epoch n.calls (about_of a)) (sym about) (ap suc (sym epoch));
      present = present ∙ sym there;
    }))

votes : (job : Job) (c d : Standing) (n : Node) (said : Poll) → (h : HasTurned c d said) → IsNodeOf job c n → Votes job c n h.before
votes job c d n said h is = record { is = is; at = h.at; apart = h.apart }

taken : (job : Job) (c d : Standing) (n : Node) (said : Poll) → (h : HasTurned c d said) → IsNodeOf job c n → IsTurn (turn_of n h.before) said h.later
taken job c d n said h is = h.takes n is.knows is.epoch is.present

pub rests_behind : (job : Job) (c d : Standing) (n : Node) (said : Poll) (sent : List (Proc × Message)) (told : List Item) → HasTurned c d said → IsNodeOf job c n → said ≡ poll.NotYet
    → Steps job n (next (job_setup job) n) moved.Quiet d sent sent told told
rests_behind job c d n said sent told h is e =
    let t : IsTurn (turn_of n h.before) said h.later = taken job c d n said h is in
    subst (λ (x : Standing). Steps job n (next (job_setup job) n) moved.Quiet x sent sent told told) (sym h.same)
    (rests job c n h.before h.later sent told (votes job c d n said h is) (sym e ∙ t.says) (subst (λ (x : Poll). Stays x h.before h.later) e h.stays))

pub goes_on_behind : (job : Job) (c d : Standing) (n : Node) (said : Poll) (sent : List (Proc × Message)) (told : List Item) → HasTurned c d said → IsNodeOf job c n → said ≡ poll.Moved
    → Steps job n (next (job_setup job) n) moved.Acted d sent sent told told
goes_on_behind job c d n said sent told h is e =
    let t : IsTurn (turn_of n h.before) said h.later = taken job c d n said h is in
    subst (λ (x : Standing). Steps job n (next (job_setup job) n) moved.Acted x sent sent told told) (sym h.same)
    (goes_on job c n h.before h.later sent told (votes job c d n said h is) (sym e ∙ t.says) (subst (λ (x : Poll). Leaves x (turn_of n h.before).phase h.later) e t.leaves))

-- what an estimate that is said owes, from a standing on
pub record Says (d after : Standing) (slots : List Slot) (m : Moved) (sent sent' : List (Proc × Message)) : Type 0 where
  pub sends : d.epoch < 4294967295 → sent' ≡ sent ++ broadcast d.me d.present (estimate_message d slots)
  pub acts : d.epoch < 4294967295 → (m ≡ moved.Acted) × ((n : Node) → IsInboxOf n d.inbox → IsInboxOf (keeping (wire_text (estimate_message d slots)) n) after.inbox)
  pub same : after ≡ record d { inbox = after.inbox }

below : (e : ℕ) → nat_lt e 4294967295 ≡ true → e < 4294967295
below e test = grind (arith, nat_tests)

pub speaks_behind : (job : Job) (c d : Standing) (n : Node) (said : Poll) (after : Standing) (slots : List Slot) (m : Moved) (sent sent' : List (Proc × Message)) (told : List Item)
    → HasTurned c d said → IsNodeOf job c n → said ≡ poll.SendEstimate slots → Says d after slots m sent sent'
    → Steps job n (next (job_setup job) n) m after sent sent' told told
speaks_behind job c d n said after slots m sent sent' told h is e s =
    let v : Votes job c n h.before = votes job c d n said h is in
    let t : IsTurn (turn_of n h.before) said h.later = taken job c d n said h is in
    let few : n.epoch < 4294967295 = below n.epoch (stands_so job c n h.before v).2.counted in
    let own : c.epoch < 4294967295 = subst (λ (k : ℕ). k < 4294967295) is.epoch few in
    let from : Says (record c { stage = stage.Joining h.later }) after slots m sent sent' = subst (λ (x : Standing). Says x after slots m sent sent') h.same s in
    let acts = from.acts own in
    subst (λ (x : Standing). Steps job n (next (job_setup job) n) m x sent sent' told told) (sym from.same)
    (subst (λ (x : Moved). Steps job n (next (job_setup job) n) x (record c { stage = stage.Joining h.later; inbox = after.inbox }) sent sent' told told) (sym acts.0)
    (speaks_so job c n h.before h.later slots after.inbox sent sent' told v (sym e ∙ t.says) (subst (λ (x : Poll). Leaves x (turn_of n h.before).phase h.later) e t.leaves) acts.1 (from.sends own)))

pub decides_behind : (job : Job) (c d : Standing) (n : Node) (said : Poll) (slots : List Slot) (m : Moved) (after : Standing) (sent : List (Proc × Message)) (told told' : List Item)
    → HasTurned c d said → IsNodeOf job c n → said ≡ poll.Decided slots
    → ((vote : Slot) → IsNodeOf job d n → IsDeciding n vote slots d → Steps job n (Some (decides_epoch (job_setup job) n slots)) m after sent sent told told')
    → Steps job n (next (job_setup job) n) m after sent sent told told'
decides_behind job c d n said slots m after sent told told' h is e goes =
    let t : IsTurn (turn_of n h.before) said h.later = taken job c d n said h is in
    decides_so job c n h.before h.later slots m after sent told told' (votes job c d n said h is) (sym e ∙ t.says) (subst (λ (x : Poll). Stays x h.before h.later) e h.stays)
    (λ vote there dec. goes vote (subst (λ (x : Standing). IsNodeOf job x n) (sym h.same) there) (subst (λ (x : Standing). IsDeciding n vote slots x) (sym h.same) dec))
