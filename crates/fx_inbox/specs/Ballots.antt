-- The ballots that a process takes part in, as it describes them.
use Rattle.std.specs.Prelude.{◌≡◌, ℕ, suc, Bool}
use Rattle.fx_inbox.specs.declared.ballot.About.{About}
use Rattle.fx_inbox.specs.declared.ballot.About.TheVariants as about
use Rattle.fx_inbox.specs.declared.ballot.Ballot.{Ballot}
use Rattle.fx_inbox.specs.declared.ballot.Votes.TheVariants as votes
use Rattle.fx_link.specs.declared.slot.Slot.{Slot}
use Rattle.fx_machine.specs.Nodes.{Node}
use Rattle.fx_machine.specs.Reading as defined
use Rattle.fx_machine.specs.Reading.{OfCall, OfEpoch, is_join}
use Rattle.fx_machine.specs.Waits.{is_flag}

abbrev pub about_of : About → defined.About
about_of (about.Epoch e) = OfEpoch (suc e.0)
about_of (about.Call e k votes) = OfCall e.0 k.0

-- what a vote may be
abbrev pub is_vote_in : About → Slot → Bool
is_vote_in (about.Epoch e) x = is_join (suc e.0) x
is_vote_in (about.Call e k votes.Flags) x = is_flag x

-- the ballot that is described
abbrev pub ballot_of : Ballot → defined.Ballot
ballot_of d = record { about = about_of d.about; members = d.members.now; is_vote = is_vote_in d.about }

-- who has come to this call of this epoch votes in the ballot of the epoch behind, and in that of the call
abbrev pub IsNow : (epoch calls : ℕ) → defined.About → Type 0
IsNow epoch calls (OfEpoch e) = e ≡ suc epoch
IsNow epoch calls (OfCall e k) = (e ≡ epoch) × (k ≡ calls)

-- the node may vote in it now, and has these processes present
pub record TakesPart (d : Ballot) (n : Node) : Type 0 where
  pub now : IsNow n.epoch n.calls (about_of d.about)
  pub present : n.present ≡ d.present.now
