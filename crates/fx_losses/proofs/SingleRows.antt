-- Single moments of a loss and of a notice, by computation: two ranks, no spare, and an empty body.
use Rattle.std.proofs.Common.{◌≡◌, ℕ, List, [], ◌∷◌, refl}
use Rattle.std.specs.Prelude.{pos}
use Rattle.fx_base.specs.Sets.{those_below}
use Rattle.fx_base.specs.declared.spot.Spot.{Spot}
use Rattle.fx_comm.specs.Seats.{seats_from}
use Rattle.fx_fleet.specs.Rounds.{Step, Deliver, Kill, Notice, all_happen, wire}
use Rattle.fx_fleet.specs.Runs.{job_setup}
use Rattle.fx_fleet.specs.World.{first_world}
use Rattle.fx_item.specs.declared.item.Item.{Item}
use Rattle.fx_item.specs.declared.item.Item.TheVariants as item
use Rattle.fx_link.specs.declared.message.Message.TheVariants as message
use Rattle.fx_link.specs.declared.slot.Slot.TheVariants as slot
use Rattle.fx_machine.specs.Nodes.{first_node}
use Rattle.fx_machine.specs.Numbers.{proc, epoch_no}
use Rattle.fx_machine.specs.Setup.{Setup}
use Rattle.fx_script.specs.declared.job.Job.{Job}

abbrev here : Spot
here = record { line = 1; column = 1 }

abbrev job : Job
job = record {
  ranks = pos 2;
  spares = pos 0;
  separation = pos 1;
  ranks_spot = here;
  spares_spot = here;
  separation_spot = here;
  begin_spot = here;
  names = [];
  callbacks = [];
  body = [];
  events = [];
}

abbrev two : Setup
two = job_setup job

abbrev join : ℕ → Item
join p = item.Join (proc p) (epoch_no 1) slot.Start

abbrev send : (p q : ℕ) → Item
send p q = item.Send (proc p) (proc q) (message.Join (epoch_no 1) slot.Start)

abbrev deliver : (p q : ℕ) → Item
deliver p q = item.Deliver (proc p) (proc q) (message.Join (epoch_no 1) slot.Start)

abbrev kill : ℕ → Item
kill p = item.Kill (proc p)

-- what is under way to a process that is killed goes
empties_links_to_it : (all_happen two 2 (Step 0 ∷ Kill 1 ∷ []) (first_world two)).link 0 1 ≡ []
unfolding those_below seats_from
empties_links_to_it = refl

-- so it doesn't come
nothing_comes_to_it : wire two 2 0 (Step 0 ∷ Kill 1 ∷ Deliver 0 1 ∷ []) ≡ join 0 ∷ send 0 1 ∷ kill 1 ∷ []
unfolding those_below seats_from
nothing_comes_to_it = refl

-- and what is sent to it later vanishes
later_sends_vanish : wire two 2 0 (Kill 1 ∷ Step 0 ∷ Deliver 0 1 ∷ []) ≡ kill 1 ∷ join 0 ∷ send 0 1 ∷ []
unfolding those_below seats_from
later_sends_vanish = refl

-- it takes no step, and isn't killed again
does_nothing_more : wire two 2 0 (Kill 1 ∷ Step 1 ∷ Kill 1 ∷ []) ≡ kill 1 ∷ []
unfolding those_below seats_from
does_nothing_more = refl

-- nothing is left of what it kept
keeps_nothing : (all_happen two 2 (Step 1 ∷ Kill 1 ∷ []) (first_world two)).node 1 ≡ first_node two 1
unfolding those_below seats_from
keeps_nothing = refl

-- what it sent still comes
its_sends_come : wire two 2 0 (Step 1 ∷ Kill 1 ∷ Deliver 1 0 ∷ []) ≡ join 1 ∷ send 1 0 ∷ kill 1 ∷ deliver 1 0 ∷ []
unfolding those_below seats_from
its_sends_come = refl

-- but not to one that was told of the loss; and nobody is told twice
not_once_told : wire two 2 0 (Step 1 ∷ Kill 1 ∷ Notice 1 0 ∷ Deliver 1 0 ∷ Notice 1 0 ∷ []) ≡ join 1 ∷ send 1 0 ∷ kill 1 ∷ item.Told (proc 1) (proc 0) ∷ []
unfolding those_below seats_from
not_once_told = refl

-- nor is anybody told of one that lives
not_of_the_living : wire two 2 0 (Step 1 ∷ Notice 1 0 ∷ []) ≡ join 1 ∷ send 1 0 ∷ []
unfolding those_below seats_from
not_of_the_living = refl
