-- The law on the machine at two nodes: its premise can be met, and what they do is what the answer says.
use Rattle.std.proofs.Common.{arith, ◌≡◌, ◌<◌, ℕ, zero, suc, pos, negsuc, Bool, true, false, ◌==◌, List, [], ◌∷◌, Some, refl}
use Rattle.std.specs.Prelude.{option_map, if◌then◌else◌}
use Rattle.fx_base.specs.declared.names.Op.TheVariants as op
use Rattle.fx_base.specs.declared.names.Role.TheVariants as role
use Rattle.fx_comm.specs.Seats.{seat}
use Rattle.fx_walk.specs.State.{State}
use Rattle.fx_walk.specs.Walk.{Walk, Reply, Ends}
use Rattle.fx_walk.specs.declared.wanted.Wanted.TheVariants as wanted
use Rattle.fx_machine.specs.Gathering.{in_gathering, part_of, returns_number}
use Rattle.fx_machine.specs.Groups.{untouched}
use Rattle.fx_machine.specs.Nodes.{Node, Calling, Gathering, proc_at}
use Rattle.fx_machine.specs.Reading.{has_left}
use Rattle.fx_machine.specs.Texts.{Text, Part}
use Rattle.fx_machine.specs.Waits.{ByLoss, returns_error}
use Rattle.fx_coll.specs.Answer.{answer_of}
use Rattle.fx_coll.specs.Keeping.{begun, gives, is_lost, folded, known_at}
use Rattle.fx_coll.specs.Machine.{StandsFor, values_in}
use Rattle.fx_coll.specs.declared.known.Known.{Known}
use Rattle.fx_coll.specs.declared.part.Part.TheVariants as part
use Rattle.fx_coll.specs.declared.poll.CollPoll.TheVariants as poll

abbrev nothing : State
nothing = record { counters = []; arrays = []; callbacks = [] }

abbrev ends : Reply → Walk
ends reply = Ends nothing

-- process 0 of two, at place 0, in call 1 of epoch 2, with these texts of process 1, which may be lost
abbrev gathering : Bool → List Text → Node
gathering lost texts = record {
  me = 0;
  epoch = 2;
  comm = seat 0 0 ∷ seat 1 1 ∷ [];
  present = 0 ∷ 1 ∷ [];
  role = role.Survivor;
  calls = 1;
  stage = Calling Gathering;
  walk = Ends nothing;
  groups = λ g. untouched;
  lost = λ q. if q == 1 then lost else false;
  texts = λ q. if q == 1 then texts else [];
}

of_two : (Is : ℕ → Type 0) → Is 0 → Is 1 → (x : ℕ) → x < 2 → Is x
of_two Is none one zero below = none
of_two Is none one (suc zero) below = one
of_two Is none one (suc (suc x)) below = absurd (omega (arith, below))

-- ---- a barrier in which place 1 is lost

abbrev broken : List Known
broken = is_lost 1 (begun 2 0 part.Empty)

broken_stands : StandsFor broken (gathering true []) wanted.Barrier
broken_stands = record {
  members = refl;
  parts = of_two (λ x. option_map values_in (known_at broken x).part ≡ part_of (gathering true []) wanted.Barrier x) refl refl;
  lost = of_two (λ x. (known_at broken x).lost ≡ (gathering true []).lost (proc_at (gathering true []) x)) refl refl;
  left = of_two (λ x. (known_at broken x).left ≡ has_left (gathering true []) (proc_at (gathering true []) x)) refl refl;
}

fails : answer_of broken ≡ poll.Failed 1
fails = refl

tells_the_process : in_gathering (gathering true []) wanted.Barrier ends ≡ Some (returns_error (gathering true []) (ByLoss 1))
tells_the_process = refl

-- ---- a sum in which both parts are there

-- -4 of process 1 in this call, behind a part of the call before
abbrev heard : List Text
heard = Part 2 0 (pos 9 ∷ []) ∷ Part 2 1 (negsuc 3 ∷ []) ∷ []

abbrev complete : List Known
complete = gives 1 (part.Number (negsuc 3)) (begun 2 0 (part.Number (pos 5)))

complete_stands : StandsFor complete (gathering false heard) (wanted.Reduce op.Sum (pos 5))
complete_stands = record {
  members = refl;
  parts = of_two (λ x. option_map values_in (known_at complete x).part ≡ part_of (gathering false heard) (wanted.Reduce op.Sum (pos 5)) x) refl refl;
  lost = of_two (λ x. (known_at complete x).lost ≡ (gathering false heard).lost (proc_at (gathering false heard) x)) refl refl;
  left = of_two (λ x. (known_at complete x).left ≡ has_left (gathering false heard) (proc_at (gathering false heard) x)) refl refl;
}

is_done : answer_of complete ≡ poll.Done
is_done = refl

returns_the_sum : in_gathering (gathering false heard) (wanted.Reduce op.Sum (pos 5)) ends ≡ Some (returns_number (gathering false heard) ends (folded op.Sum complete))
returns_the_sum = refl
