-- A process that hears and is told stays where it stands.
use Rattle.std.proofs.lemmas.Bool.Decides.{nat_tests}
use Rattle.std.proofs.Common.{arith, ◌≡◌, ◌++◌, ◌∷◌, ◌==◌, [], ℕ, suc, Bool, true, false, List, refl, ap, ◌∙◌}
use Rattle.std.specs.Prelude.{◌||◌, if◌then◌else◌}
use Rattle.std.specs.List.{list_all}
use Rattle.fx_ballot.specs.World.{put}
use Rattle.fx_link.specs.declared.slot.Slot.{Slot}
use Rattle.fx_machine.specs.Nodes.{Node, is_told, receives}
use Rattle.fx_machine.specs.Reading.{first_read, next_ballot, only, vote_in}
use Rattle.fx_machine.specs.Texts.{Text}
use Rattle.fx_inbox.specs.declared.phase.Phase.{Phase}
use Rattle.fx_inbox.specs.declared.phase.Phase.TheVariants as phase
use Rattle.fx_node.specs.declared.stage.Stage.{Stage}
use Rattle.fx_node.specs.declared.stage.Stage.TheVariants as stage
use Rattle.fx_inbox.specs.Keeping.{IsInboxOf, Kept}
use Rattle.fx_node.specs.Standing.{HasVoted, HoldsVote, IsNodeOf, OwnAreUpTo, Standing, InCall, StandsAs, WalksAlong, is_up_to}
use Rattle.fx_node.specs.Asking.{gathers_parts, is_agreement}
use Rattle.fx_script.specs.declared.job.Job.{Job}
use Rattle.fx_walk.specs.declared.wanted.Wanted.{Wanted}

-- ---- with other losses and other texts of others

-- the node with these losses and texts
abbrev with : (ℕ → Bool) → (ℕ → List Text) → Node → Node
with lost texts n = record n { lost = lost; texts = texts }

own_are : (epoch : ℕ) (lost : ℕ → Bool) (texts : ℕ → List Text) (n : Node) → texts n.me ≡ n.texts n.me → OwnAreUpTo epoch n → OwnAreUpTo epoch (with lost texts n)
own_are epoch lost texts n own h = ap (λ mine. list_all (is_up_to epoch) mine) own ∙ h

holds : (lost : ℕ → Bool) (texts : ℕ → List Text) (n : Node) (vote : Slot) (phase : Phase) → HoldsVote n vote phase → HoldsVote (with lost texts n) vote phase
holds lost texts n vote phase.Voting h = h
holds lost texts n vote (phase.Round round slots) h = h

has_voted : (lost : ℕ → Bool) (texts : ℕ → List Text) (n : Node) (phase : Phase) → texts n.me ≡ n.texts n.me → HasVoted n phase → HasVoted (with lost texts n) phase
has_voted lost texts n phase own h = record {
  vote = h.vote;
  own = ap (λ mine. first_read (λ t. only (λ x. (n.me == n.me) || (next_ballot n).is_vote x) (vote_in (next_ballot n).about t)) mine) own ∙ h.own;
  valid = h.valid;
  holds = holds lost texts n h.vote phase h.holds;
  counted = h.counted;
  told = own_are (suc n.epoch) lost texts n own h.told;
}

walks : (job : Job) (most : ℕ) (lost : ℕ → Bool) (texts : ℕ → List Text) (box : Kept) (c : Standing) (n : Node) → WalksAlong job most c n → WalksAlong job most (record c { inbox = box }) (with lost texts n)
walks job most lost texts box c n h = record { sees = h.sees; does = h.does; carried = h.carried; shaped = h.shaped; placed = h.placed; left = h.left; within = h.within; few = h.few }

calls : (job : Job) (test : Wanted → Bool) (lost : ℕ → Bool) (texts : ℕ → List Text) (box : Kept) (c : Standing) (n : Node) → texts n.me ≡ n.texts n.me
    → InCall job test c n → InCall job test (record c { inbox = box }) (with lost texts n)
calls job test lost texts box c n own h = record { along = walks job 20001 lost texts box c n h.along; told = own_are n.epoch lost texts n own h.told; begun = h.begun; asks = h.asks }

stands : (job : Job) (lost : ℕ → Bool) (texts : ℕ → List Text) (box : Kept) (at : Stage) (c : Standing) (n : Node) → texts n.me ≡ n.texts n.me
    → StandsAs job at c n → StandsAs job at (record c { inbox = box }) (with lost texts n)
stands job lost texts box stage.Begins c n own h = (h.0, h.1, own_are n.epoch lost texts n own h.2, h.3)
stands job lost texts box (stage.Joining phase) c n own h = (h.0, h.1, has_voted lost texts n phase own h.2)
stands job lost texts box stage.Arrived c n own h = (h.0, h.1, own_are n.epoch lost texts n own h.2, h.3, h.4)
stands job lost texts box stage.Walking c n own h = (h.0, walks job 20000 lost texts box c n h.1, own_are n.epoch lost texts n own h.2, h.3)
stands job lost texts box stage.Gathering c n own h = (h.0, calls job gathers_parts lost texts box c n own h.1)
stands job lost texts box (stage.Balloting phase) c n own h = (h.0, calls job is_agreement lost texts box c n own h.1)
stands job lost texts box stage.Failed c n own h = (h.0, h.1, own_are n.epoch lost texts n own h.2, h.3)
stands job lost texts box stage.Over c n own h = h

still_is : (job : Job) (lost : ℕ → Bool) (texts : ℕ → List Text) (box : Kept) (c : Standing) (n : Node) → texts n.me ≡ n.texts n.me
    → IsNodeOf job c n → IsInboxOf (with lost texts n) box → IsNodeOf job (record c { inbox = box }) (with lost texts n)
still_is job lost texts box c n own h knows = record {
  me = h.me;
  ranks = h.ranks;
  epoch = h.epoch;
  comm = h.comm;
  present = h.present;
  member = h.member;
  role = h.role;
  calls = h.calls;
  bare = h.bare;
  is_flow = h.is_flow;
  knows = knows;
  stands = stands job lost texts box c.stage c n own h.stands;
}

-- ---- what comes in

own_stays : (texts : ℕ → List Text) (more : List Text) (from me : ℕ) (b : Bool) → (from == me) ≡ b → (if b then texts else put texts from more) me ≡ texts me
own_stays texts more from me true e = refl
own_stays texts more from me false e = grind (arith, nat_tests, e)

pub hears : (job : Job) (c : Standing) (n : Node) (from : ℕ) (t : Text) (box : Kept) → IsNodeOf job c n → IsInboxOf (receives from t n) box
    → IsNodeOf job (record c { inbox = box }) (receives from t n)
hears job c n from t box h knows =
    still_is job n.lost (receives from t n).texts box c n (own_stays n.texts (n.texts from ++ t ∷ []) from n.me (from == n.me) refl) h knows

pub is_told_of : (job : Job) (c : Standing) (n : Node) (q : ℕ) (box : Kept) → IsNodeOf job c n → IsInboxOf (is_told q n) box
    → IsNodeOf job (record c { inbox = box }) (is_told q n)
is_told_of job c n q box h knows = still_is job (is_told q n).lost n.texts box c n refl h knows
