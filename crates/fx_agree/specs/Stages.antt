-- The phase of the ballot's definition that a stage of the code is.
use Rattle.std.specs.Prelude.{◌≡◌, ◌<◌, ◌≤◌, ◌+◌, ℕ, length}
use Rattle.fx_agree.specs.declared.stage.Stage.{Stage}
use Rattle.fx_agree.specs.declared.stage.Stage.TheVariants as stage
use Rattle.fx_ballot.specs.Turn.{Phase, Outside, Voting, Round, Decided}
use Rattle.fx_ballot.specs.Seats.{Seated, Whole}

abbrev pub phase_of : Stage → Phase
phase_of stage.Voting = Voting
phase_of (stage.Round r held) = Round r held
phase_of (stage.Decided held) = Decided held

-- the phase is the round of that seat
abbrev pub IsRound : ℕ → Phase → Type 0
IsRound number Outside = ⊥
IsRound number Voting = ⊥
IsRound number (Round r held) = number ≡ r
IsRound number (Decided held) = ⊥

-- a round whose number can be counted on
abbrev pub IsEarly : Stage → Type 0
IsEarly stage.Voting = Unit {0}
IsEarly (stage.Round r held) = r < 255
IsEarly (stage.Decided held) = Unit {0}

-- the stage once its round is passed with the estimate that was held
abbrev pub passed : Stage → Stage
passed stage.Voting = stage.Voting
passed (stage.Round r held) = stage.Round (r + 1) held
passed (stage.Decided held) = stage.Decided held

-- the stage once what is held is decided
abbrev pub closed : Stage → Stage
closed stage.Voting = stage.Voting
closed (stage.Round r held) = stage.Decided held
closed (stage.Decided held) = stage.Decided held

-- what every ballot meets: it knows something of each seat, its own is one of them, there are at most 32, and its own list and
-- each estimate that it heard has one slot for each
abbrev pub IsKept : Seated → Type 0
IsKept b = (length b.heard ≡ b.members) × (b.me < b.members) × (b.members ≤ 32) × Whole b
