-- Worked rows, in a world of two members: what each move changes, and that one that isn't enabled changes nothing.
use Rattle.std.specs.Prelude.{◌≡◌, Bool, true, false, List, [], ◌∷◌, ◌++◌, Some, None, refl}
use Rattle.fx_link.specs.declared.slot.Slot.{Slot}
use Rattle.fx_link.specs.declared.slot.Slot.TheVariants.{Yes, Lost, Final}
use Rattle.fx_ballot.specs.declared.heard.Heard.{Heard}
use Rattle.fx_ballot.specs.Turn.{Phase, Outside, Voting, Round, Decided, Message, Vote, Estimate, Leaving, hear, unheard}
use Rattle.fx_ballot.specs.World.{Member, World, Move, Enter, Act, Hear, Leave, Kill, Tell, start, run, plain}

-- all that shows of a member: its phase, what it knows of seats 0 and 1, whether it lives, whether it has left
pub record Shown : Type 0 where
  pub phase : Phase
  pub of_0 : Heard
  pub of_1 : Heard
  pub living : Bool
  pub gone : Bool

-- all that shows of the world: both members, what is under way from 0 to 1, and from 1 to 0
pub record Sight : Type 0 where
  pub member_0 : Shown
  pub member_1 : Shown
  pub from_0 : List Message
  pub from_1 : List Message

abbrev pub shown : Member → Shown
shown m = record { phase = m.phase; of_0 = m.heard 0; of_1 = m.heard 1; living = m.living; gone = m.gone }

-- the world after the moves
abbrev pub after_moves : List Move → World
after_moves moves = run 2 plain moves start

abbrev pub sight : List Move → Sight
sight moves = record {
  member_0 = shown ((after_moves moves).member 0);
  member_1 = shown ((after_moves moves).member 1);
  from_0 = (after_moves moves).link 0 1;
  from_1 = (after_moves moves).link 1 0;
}

-- once the first moves happened the others change nothing: no phase, flag, knowledge or link
abbrev pub Idle : List Move → List Move → Type 0
Idle first others = sight (first ++ others) ≡ sight first

-- a vote alone was heard
abbrev pub voted : Slot → Heard
voted slot = record unheard { vote = Some slot }

-- both have entered, and 0 has heard the vote of 1
abbrev pub both_enter : List Move
both_enter = Enter 0 Yes ∷ Enter 1 Final ∷ Hear 1 0 ∷ []

-- the list of both votes
abbrev pub both_votes : List Slot
both_votes = Yes ∷ Final ∷ []

pub a_vote_goes_to_the_others :
    sight both_enter
    ≡ record {
      member_0 = record { phase = Voting; of_0 = voted Yes; of_1 = voted Final; living = true; gone = false };
      member_1 = record { phase = Voting; of_0 = unheard; of_1 = voted Final; living = true; gone = false };
      from_0 = Vote Yes ∷ [];
      from_1 = [];
    }
a_vote_goes_to_the_others = refl

pub nobody_sends_to_itself_or_outside : (after_moves both_enter).link 0 0 ++ (after_moves both_enter).link 0 2 ≡ []
nobody_sends_to_itself_or_outside = refl

-- 0 has its list, and has said it in its own round
abbrev pub speaks : List Move
speaks = both_enter ++ (Act 0 ∷ Act 0 ∷ [])

-- what 0 knows of itself once it spoke
abbrev pub spoke : Heard
spoke = record { vote = Some Yes; estimate = Some both_votes; lost = false; left = false }

pub an_estimate_goes_after_the_vote :
    sight speaks
    ≡ record {
      member_0 = record { phase = Round 1 both_votes; of_0 = spoke; of_1 = voted Final; living = true; gone = false };
      member_1 = record { phase = Voting; of_0 = unheard; of_1 = voted Final; living = true; gone = false };
      from_0 = Vote Yes ∷ Estimate 0 both_votes ∷ [];
      from_1 = [];
    }
an_estimate_goes_after_the_vote = refl

-- 1 hears the vote and the estimate, adopts it, says it and decides; 0 hears that and decides too
abbrev pub both_decide : List Move
both_decide = speaks ++ (Hear 0 1 ∷ Hear 0 1 ∷ Act 1 ∷ Act 1 ∷ Act 1 ∷ Act 1 ∷ Hear 1 0 ∷ Act 0 ∷ Act 0 ∷ [])

-- one that has decided
abbrev pub decided : Shown
decided = record {
  phase = Decided both_votes;
  of_0 = spoke;
  of_1 = record { vote = Some Final; estimate = Some both_votes; lost = false; left = false };
  living = true;
  gone = false;
}

-- one that was killed
pub one_that_was_killed_does_not_enter_or_leave : Idle (Kill 0 ∷ []) (Enter 0 Yes ∷ Leave 0 ∷ [])
one_that_was_killed_does_not_enter_or_leave = refl

pub one_that_was_killed_does_not_act : Idle (both_enter ++ (Kill 0 ∷ [])) (Act 0 ∷ [])
one_that_was_killed_does_not_act = refl

pub one_that_was_killed_does_not_hear : Idle (Enter 1 Final ∷ Kill 0 ∷ []) (Hear 1 0 ∷ [])
one_that_was_killed_does_not_hear = refl

pub one_that_decided_and_was_killed_does_not_leave :
    sight (both_decide ++ (Kill 0 ∷ Leave 0 ∷ []))
    ≡ record { member_0 = record decided { living = false }; member_1 = decided; from_0 = []; from_1 = [] }
one_that_decided_and_was_killed_does_not_leave = refl

-- what it said stays under way, and what it knows stays as it was
pub a_killing_takes_the_life_alone :
    sight (speaks ++ (Kill 0 ∷ []))
    ≡ record {
      member_0 = record { phase = Round 1 both_votes; of_0 = spoke; of_1 = voted Final; living = false; gone = false };
      member_1 = record { phase = Voting; of_0 = unheard; of_1 = voted Final; living = true; gone = false };
      from_0 = Vote Yes ∷ Estimate 0 both_votes ∷ [];
      from_1 = [];
    }
a_killing_takes_the_life_alone = refl

-- one that left
pub one_that_left_does_not_enter_act_or_leave_again : Idle (Leave 0 ∷ []) (Enter 0 Yes ∷ Act 0 ∷ Leave 0 ∷ [])
one_that_left_does_not_enter_act_or_leave_again = refl

pub one_that_decided_and_left_does_not_leave_again :
    sight (both_decide ++ (Leave 0 ∷ Enter 0 Yes ∷ Act 0 ∷ Leave 0 ∷ []))
    ≡ record { member_0 = record decided { gone = true }; member_1 = decided; from_0 = Leaving ∷ []; from_1 = [] }
one_that_decided_and_left_does_not_leave_again = refl

pub one_that_left_still_hears :
    sight (Leave 0 ∷ Enter 1 Final ∷ Hear 1 0 ∷ [])
    ≡ record {
      member_0 = record { phase = Outside; of_0 = unheard; of_1 = voted Final; living = true; gone = true };
      member_1 = record { phase = Voting; of_0 = unheard; of_1 = voted Final; living = true; gone = false };
      from_0 = Leaving ∷ [];
      from_1 = [];
    }
one_that_left_still_hears = refl

pub one_that_left_can_be_killed :
    sight (Leave 0 ∷ Kill 0 ∷ Tell 0 1 ∷ [])
    ≡ record {
      member_0 = record { phase = Outside; of_0 = unheard; of_1 = unheard; living = false; gone = true };
      member_1 = record { phase = Outside; of_0 = record unheard { lost = true }; of_1 = unheard; living = true; gone = false };
      from_0 = [];
      from_1 = [];
    }
one_that_left_can_be_killed = refl

-- when one may leave, and enter
pub one_that_is_voting_does_not_leave : Idle (Enter 0 Yes ∷ []) (Leave 0 ∷ [])
one_that_is_voting_does_not_leave = refl

pub one_in_a_round_does_not_leave : Idle speaks (Leave 0 ∷ [])
one_in_a_round_does_not_leave = refl

pub one_that_decided_leaves_after_all_that_it_said :
    sight (both_decide ++ (Leave 1 ∷ []))
    ≡ record { member_0 = decided; member_1 = record decided { gone = true }; from_0 = []; from_1 = Leaving ∷ [] }
one_that_decided_leaves_after_all_that_it_said = refl

pub nobody_enters_twice : Idle (Enter 0 Yes ∷ []) (Enter 0 Final ∷ [])
nobody_enters_twice = refl

pub nobody_enters_once_it_decided :
    sight (both_decide ++ (Enter 0 Final ∷ [])) ≡ record { member_0 = decided; member_1 = decided; from_0 = []; from_1 = [] }
nobody_enters_once_it_decided = refl

-- notices
pub nobody_is_told_of_a_living_one : Idle (Enter 0 Yes ∷ []) (Tell 0 1 ∷ [])
nobody_is_told_of_a_living_one = refl

pub nobody_is_told_of_one_that_only_left : Idle (Leave 0 ∷ []) (Tell 0 1 ∷ [])
nobody_is_told_of_one_that_only_left = refl

pub nobody_is_told_of_itself : Idle (Kill 0 ∷ []) (Tell 0 0 ∷ [])
nobody_is_told_of_itself = refl

pub a_notice_empties_the_one_link :
    sight (Enter 0 Yes ∷ Enter 1 Final ∷ Kill 0 ∷ Tell 0 1 ∷ [])
    ≡ record {
      member_0 = record { phase = Voting; of_0 = voted Yes; of_1 = unheard; living = false; gone = false };
      member_1 = record { phase = Voting; of_0 = record unheard { lost = true }; of_1 = voted Final; living = true; gone = false };
      from_0 = [];
      from_1 = Vote Final ∷ [];
    }
a_notice_empties_the_one_link = refl

-- 1 has seen 0 leave, and then was told that it is lost
pub lost_comes_before_left :
    ((after_moves (Leave 0 ∷ Hear 0 1 ∷ Kill 0 ∷ Tell 0 1 ∷ Enter 1 Final ∷ Act 1 ∷ [])).member 1).phase ≡ Round 0 (Lost ∷ Final ∷ [])
lost_comes_before_left = refl

-- the link that is heard from has nothing, or there is no such seat
pub nobody_hears_an_empty_link : Idle both_enter (Hear 1 0 ∷ Hear 0 0 ∷ [])
nobody_hears_an_empty_link = refl

-- here the whole world is compared, since another process is no part of what shows
pub only_members_move : after_moves (Enter 2 Yes ∷ Act 2 ∷ Leave 2 ∷ Kill 2 ∷ Hear 0 2 ∷ Hear 2 1 ∷ Tell 0 2 ∷ Tell 2 0 ∷ []) ≡ start
only_members_move = refl

pub nobody_is_told_outside : after_moves (Kill 0 ∷ Tell 0 2 ∷ []) ≡ after_moves (Kill 0 ∷ [])
nobody_is_told_outside = refl

-- the first of what was heard stays
pub a_second_vote_changes_nothing : hear (Vote Final) (hear (Vote Yes) unheard) ≡ voted Yes
a_second_vote_changes_nothing = refl

pub a_second_estimate_changes_nothing :
    hear (Estimate 1 (Final ∷ [])) (hear (Estimate 0 both_votes) (voted Yes)) ≡ spoke
a_second_estimate_changes_nothing = refl

pub a_vote_is_known_after_a_leaving : hear (Vote Yes) (hear Leaving unheard) ≡ record { vote = Some Yes; estimate = None; lost = false; left = true }
a_vote_is_known_after_a_leaving = refl
