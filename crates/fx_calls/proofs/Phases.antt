-- What phases and stages tell of one another.
use Rattle.std.proofs.Common.{◌≡◌, ℕ, Bool, true, false, refl}
use Rattle.fx_ballot.specs.Laws.{past}
use Rattle.fx_ballot.specs.Turn.{Phase, Outside, Voting, Round, Decided}
use Rattle.fx_ballot.specs.World.{is_outside, may_leave}
use Rattle.fx_machine.specs.Nodes.{Stage, Begins, Joining, Arrived, Walking, Calling, Failed, Over, Gathering, Sharing, Telling, Giving, Balloting}
use Rattle.fx_losses.proofs.Shows.{is_decided}
use Rattle.fx_calls.proofs.Polled.{is_balloting}

-- ---- phases

pub decided_inside : (phase : Phase) → is_decided phase ≡ true → is_outside phase ≡ false
decided_inside Outside e = absurd (let bad : false ≡ true = e in cc)
decided_inside Voting e = refl
decided_inside (Round r slots) e = refl
decided_inside (Decided slots) e = refl

pub decided_past : (b : ℕ) (phase : Phase) → is_decided phase ≡ true → past b phase ≡ true
decided_past b Outside e = absurd (let bad : false ≡ true = e in cc)
decided_past b Voting e = absurd (let bad : false ≡ true = e in cc)
decided_past b (Round r slots) e = absurd (let bad : false ≡ true = e in cc)
decided_past b (Decided slots) e = refl

-- one that may leave and has entered is past each round
pub left_past : (r : ℕ) (phase : Phase) → may_leave phase ≡ true → is_outside phase ≡ false → past r phase ≡ true
left_past r Outside may inside = absurd (let bad : true ≡ false = inside in cc)
left_past r Voting may inside = absurd (let bad : false ≡ true = may in cc)
left_past r (Round o held) may inside = absurd (let bad : false ≡ true = may in cc)
left_past r (Decided held) may inside = refl

pub not_outside : (phase : Phase) → (phase ≡ Outside → ⊥) → is_outside phase ≡ false
not_outside Outside out = absurd (out refl)
not_outside Voting out = refl
not_outside (Round r held) out = refl
not_outside (Decided held) out = refl

-- ---- stages

abbrev pub call_phase : Stage → Phase
call_phase (Calling (Balloting phase)) = phase
call_phase other = Outside

pub balloting_at : (a : Stage) → is_balloting a ≡ true → (phase : Phase) × (a ≡ Calling (Balloting phase))
balloting_at (Calling (Balloting phase)) e = (phase, refl)
balloting_at (Calling Gathering) e = absurd (let bad : false ≡ true = e in cc)
balloting_at (Calling Sharing) e = absurd (let bad : false ≡ true = e in cc)
balloting_at (Calling Telling) e = absurd (let bad : false ≡ true = e in cc)
balloting_at (Calling Giving) e = absurd (let bad : false ≡ true = e in cc)
balloting_at Begins e = absurd (let bad : false ≡ true = e in cc)
balloting_at (Joining phase) e = absurd (let bad : false ≡ true = e in cc)
balloting_at Arrived e = absurd (let bad : false ≡ true = e in cc)
balloting_at Walking e = absurd (let bad : false ≡ true = e in cc)
balloting_at Failed e = absurd (let bad : false ≡ true = e in cc)
balloting_at Over e = absurd (let bad : false ≡ true = e in cc)

abbrev pub is_in_call : Stage → Bool
is_in_call (Calling core) = true
is_in_call other = false
