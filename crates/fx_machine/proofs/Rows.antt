-- Rows of single nodes: what is read of messages that no node of a world would send.
use Rattle.std.specs.Prelude.{◌≡◌, refl, pos, negsuc, Bool, true, false, ◌==◌, if◌then◌else◌, List, [], ◌∷◌, Some, None}
use Rattle.fx_base.specs.declared.names.Role.TheVariants as role
use Rattle.fx_base.specs.Sets.{those_below}
use Rattle.fx_comm.specs.Seats.{Seat, seat}
use Rattle.fx_link.specs.declared.slot.Slot.TheVariants as slot
use Rattle.fx_store.specs.Mirror.{mirror}
use Rattle.fx_store.specs.Packed.{text_in, sections_in}
use Rattle.fx_walk.specs.State.{State}
use Rattle.fx_walk.specs.Walk.{Walk, Ends, Asks, stamp_at}
use Rattle.fx_walk.specs.declared.wanted.Wanted.TheVariants as wanted
use Rattle.fx_machine.specs.Ballots.{is_end}
use Rattle.fx_machine.specs.Calls.{in_asked_call}
use Rattle.fx_machine.specs.Closing.{kept_shares}
use Rattle.fx_machine.specs.Creating.{Creation, creation, give_heard, known_at, own_snapshots}
use Rattle.fx_machine.specs.Groups.{untouched}
use Rattle.fx_machine.specs.Nodes.{Node, Calling, Gathering, Telling}
use Rattle.fx_machine.specs.Packings.{spelling}
use Rattle.fx_machine.specs.Reading.{next_ballot, has_left, is_past, vote_of}
use Rattle.fx_machine.specs.Setup.{Setup}
use Rattle.fx_machine.specs.Texts.{Known, Text, Join, Part, Vote, Tell, Help, Give}

abbrev nothing : State
nothing = record { counters = []; arrays = []; callbacks = [] }

abbrev two : List Seat
two = seat 0 0 ∷ seat 1 1 ∷ []

-- group 0 is created, from stamp 0 on at depth 1
abbrev group_0 : Creation
group_0 = creation (record { 0 = 0 }) (stamp_at (pos 0)) 1

abbrev asks_group : Walk
asks_group = Asks (record { spot = record { line = 9; column = 1 }; in_when = false }) (wanted.Group (record { 0 = 0 }) (stamp_at (pos 0)) 1) nothing (λ reply. Ends nothing)

abbrev two_ranks : Setup
two_ranks = record {
  ranks = 2;
  procs = 2;
  redundancy = mirror 1;
  packing = spelling;
  member_len = λ g m. 1;
  blank = nothing;
  callbacks = λ role rank size before. [];
  body_state = λ role rank size before. before;
  body = λ view state. asks_group;
}

-- process 0 in call 1 of epoch 2, which creates the group; it holds nothing of it, and has this of process 1
abbrev creating : List Text → Node
creating texts = record {
  me = 0;
  epoch = 2;
  comm = two;
  present = 0 ∷ 1 ∷ [];
  role = role.Survivor;
  calls = 1;
  stage = Calling Telling;
  walk = asks_group;
  groups = λ g. untouched;
  lost = λ q. false;
  texts = λ q. if q == 1 then texts else [];
}

-- ---- ballots

-- a vote in call 0 is none in the ballot of the epoch, and a join is
no_call_0 : vote_of (next_ballot (creating (Vote 3 0 slot.Final ∷ []))) (creating (Vote 3 0 slot.Final ∷ [])) 1 ≡ None
no_call_0 = refl

joins_3 : has_left (creating (Join 3 slot.Final ∷ [])) 1 ≡ true
joins_3 = refl

-- `start` is a vote in epoch 1 alone, and of two joins that fit the first is read
first_that_fits : vote_of (next_ballot (creating [])) (creating (Join 3 slot.Start ∷ Join 3 slot.Error ∷ Join 3 slot.Final ∷ [])) 1 ≡ Some slot.Error
first_that_fits = refl

-- ---- the end

-- epoch 0 is never the end, whatever the members voted
no_end_at_0 : is_end (record (creating []) { epoch = 0 }) (slot.Final ∷ slot.Final ∷ []) ≡ false
no_end_at_0 = refl

-- later ones are where each process with a place voted `final`
all_are_final : is_end (creating []) (slot.Final ∷ slot.Final ∷ []) ≡ true
all_are_final = refl

one_is_lost : is_end (creating []) (slot.Final ∷ slot.Lost ∷ []) ≡ false
one_is_lost = refl

-- ---- creations

-- stamps below 0
abbrev early : Known
early = record { created = 1; next = negsuc 2; comm = two; stamps = negsuc 4 ∷ negsuc 3 ∷ [] }

-- -5 and -4, with the next stamp -3
below_zero : known_at (creating (Tell 2 1 (Some early) ∷ [])) group_0 1 ≡ Some early
below_zero = refl

-- three stamps are too many at depth 1
too_many : known_at (creating (Tell 2 1 (Some (record early { stamps = negsuc 5 ∷ negsuc 4 ∷ negsuc 3 ∷ [] })) ∷ [])) group_0 1 ≡ None
too_many = refl

-- one that told that it holds nothing can't help
abbrev one_stamp : Known
one_stamp = record early { stamps = negsuc 3 ∷ [] }

no_help_of_who_has_none :
    own_snapshots two_ranks (creating (Tell 2 1 None ∷ Help 2 1 ((negsuc 3, 70 ∷ 88 ∷ 1 ∷ 0 ∷ []) ∷ []) ∷ [])) group_0 one_stamp ≡ None
no_help_of_who_has_none = refl

-- and one that told what it holds can
help_of_who_has :
    own_snapshots two_ranks (creating (Tell 2 1 (Some one_stamp) ∷ Help 2 1 ((negsuc 3, 70 ∷ 88 ∷ 1 ∷ 0 ∷ []) ∷ []) ∷ [])) group_0 one_stamp
    ≡ Some ((negsuc 3, []) ∷ [])
unfolding text_in sections_in
help_of_who_has = refl

-- a give without an entry counts with empty bytes
empty_give : kept_shares two_ranks (creating (Give 2 1 [] ∷ [])) (give_heard (creating (Give 2 1 [] ∷ [])) one_stamp) (negsuc 3 ∷ []) ≡ (negsuc 3, []) ∷ []
unfolding those_below
empty_give = refl

-- a creation that stands where parts are awaited does nothing, whatever is lost
gathers_nothing : in_asked_call two_ranks (record (creating []) { lost = λ q. true }) Gathering asks_group ≡ None
gathers_nothing = refl

-- ---- what is over

abbrev past_and_present : List Bool
past_and_present =
    is_past (creating []) (Join 2 slot.Error) ∷ is_past (creating []) (Join 3 slot.Error) ∷ is_past (creating []) (Part 2 0 []) ∷ is_past (creating []) (Part 2 1 [])
    ∷ is_past (creating []) (Part 1 9 []) ∷ []

what_is_over : past_and_present ≡ true ∷ false ∷ true ∷ false ∷ true ∷ []
what_is_over = refl
