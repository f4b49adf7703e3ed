-- A turn in a ballot, as it is carried out.
use Rattle.std.specs.Prelude.{◌≡◌}
use Rattle.fx_ballot.specs.declared.poll.Poll.{Poll}
use Rattle.fx_ballot.specs.declared.poll.Poll.TheVariants as poll
use Rattle.fx_ballot.specs.Turn as ballot
use Rattle.fx_inbox.specs.declared.phase.Phase.{Phase}
use Rattle.fx_inbox.specs.declared.phase.Phase.TheVariants as phase

-- the phase of a member that has entered and hasn't decided
abbrev pub phase_of : Phase → ballot.Phase
phase_of phase.Voting = ballot.Voting
phase_of (phase.Round round slots) = ballot.Round round slots

-- where the member stands behind the turn; a ballot that is decided is over
abbrev pub Leaves : Poll → ballot.Phase → Phase → Type 0
Leaves (poll.Decided slots) next after = Unit {0}
Leaves poll.NotYet next after = phase_of after ≡ next
Leaves poll.Moved next after = phase_of after ≡ next
Leaves (poll.SendEstimate slots) next after = phase_of after ≡ next

-- this turn was taken
pub record IsTurn (t : ballot.Turn) (said : Poll) (after : Phase) : Type 0 where
  pub says : said ≡ t.poll
  pub leaves : Leaves said t.phase after

-- a turn that waits, and one that decides, leave the phase as it was
abbrev pub Stays : Poll → Phase → Phase → Type 0
Stays poll.NotYet before after = after ≡ before
Stays poll.Moved before after = Unit {0}
Stays (poll.SendEstimate slots) before after = Unit {0}
Stays (poll.Decided slots) before after = after ≡ before
