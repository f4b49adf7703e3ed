-- Worked rows: what the definitions give, by computation.
use Rattle.std.specs.Prelude.{◌≡◌, ℕ, zero, suc, ◌+◌, pos, List, [], ◌∷◌, ◌++◌, take, refl}
use Rattle.fx_link.specs.declared.slot.Slot.{Slot}
use Rattle.fx_link.specs.declared.slot.Slot.TheVariants.{Yes, Lost, Left, Final, Error, Flag}
use Rattle.fx_ballot.specs.declared.poll.Poll.{Poll}
use Rattle.fx_ballot.specs.declared.poll.Poll.TheVariants as poll
use Rattle.fx_ballot.specs.Turn.{Phase, Outside, Voting, Round, Decided, Vote, Estimate}
use Rattle.fx_ballot.specs.World.{Member, World, Move, Enter, Act, Hear, Leave, Kill, Tell, fresh, start, after, told, entered, acted, turn_of, run, plain}

-- what so many turns of one member of three answer
abbrev pub polls : ℕ → Member → List Poll
polls zero m = []
polls (suc more) m = (turn_of 3 plain 2 m).poll ∷ polls more (acted 3 plain 2 m)

-- the member after so many turns
abbrev pub turns : ℕ → Member → Member
turns zero m = m
turns (suc more) m = turns more (acted 3 plain 2 m)

-- member 2 of 3 has voted yes, has heard the yes of 0, and was told that 1 is lost
abbrev pub waiting : Member
waiting = told 1 (after 0 (Vote Yes) (entered 2 Yes fresh))

-- the list in which all three say yes
abbrev pub all_yes : List Slot
all_yes = Yes ∷ Yes ∷ Yes ∷ []

pub forms_its_list_and_waits : polls 2 waiting ≡ poll.Moved ∷ poll.NotYet ∷ []
forms_its_list_and_waits = refl

pub adopts_speaks_and_decides :
    polls 5 (after 0 (Estimate 0 all_yes) (turns 2 waiting))
    ≡ poll.Moved ∷ poll.Moved ∷ poll.SendEstimate all_yes ∷ poll.Decided all_yes ∷ poll.Decided all_yes ∷ []
adopts_speaks_and_decides = refl

-- where the members at seats 0, 1 and 2 stand after the moves, the process at each seat given
abbrev pub stands : (ℕ → ℕ) → List Move → List Phase
stands name moves = phases (run 3 name moves start)
  where
    phases : World → List Phase
    phases w = (w.member (name 0)).phase ∷ (w.member (name 1)).phase ∷ (w.member (name 2)).phase ∷ []

-- all three enter, each with a vote of its own, and no message is heard yet
abbrev pub all_enter : List Move
all_enter = Enter 0 (Flag (pos 7)) ∷ Enter 1 (Flag (pos 6)) ∷ Enter 2 (Flag (pos 5)) ∷ []

-- seat 0 hears the votes, says its list in its round, and is killed once seat 1 alone heard its estimate. Seat 2 never heard
-- seat 0 and has a list in which it is lost; it adopts seat 1's, and both decide alike
abbrev pub killed_when_one_heard : List Move
killed_when_one_heard =
    all_enter
    ++ (Hear 1 0 ∷ Hear 2 0 ∷ Act 0 ∷ Act 0 ∷ Hear 0 1 ∷ Hear 2 1 ∷ Hear 0 1 ∷ Kill 0 ∷ Tell 0 2 ∷ Tell 0 1 ∷ [])
    ++ (Hear 1 2 ∷ Act 2 ∷ Act 2 ∷ Act 1 ∷ Act 1 ∷ Act 1 ∷ Hear 1 2 ∷ Act 2 ∷ Act 2 ∷ Act 2 ∷ Hear 2 1 ∷ Act 1 ∷ Act 1 ∷ [])

-- the list of all three votes
abbrev pub all_three : List Slot
all_three = Flag (pos 7) ∷ Flag (pos 6) ∷ Flag (pos 5) ∷ []

pub others_adopt_what_one_heard : stands plain killed_when_one_heard ≡ Round 1 all_three ∷ Decided all_three ∷ Decided all_three ∷ []
others_adopt_what_one_heard = refl

-- the same moves where the seats have the processes 9, 4 and 7
abbrev pub apart : ℕ → ℕ
apart zero = 9
apart (suc zero) = 4
apart (suc (suc k)) = 7 + k

pub others_adopt_under_other_names : stands apart killed_when_one_heard ≡ Round 1 all_three ∷ Decided all_three ∷ Decided all_three ∷ []
others_adopt_under_other_names = refl

-- just before seat 2 adopts, it holds the list in which seat 0 is lost
pub own_list_before_adopting : stands plain (take 20 killed_when_one_heard) ≡ Round 1 all_three ∷ Round 2 all_three ∷ Round 1 (Lost ∷ Flag (pos 6) ∷ Flag (pos 5) ∷ []) ∷ []
own_list_before_adopting = refl

-- seat 0 is the first to decide and is killed at once; the others decide what it decided
abbrev pub killed_once_decided : List Move
killed_once_decided =
    all_enter
    ++ (Hear 1 0 ∷ Hear 2 0 ∷ Hear 0 1 ∷ Hear 2 1 ∷ Hear 0 2 ∷ Hear 1 2 ∷ Act 0 ∷ Act 0 ∷ Hear 0 1 ∷ Act 1 ∷ Act 1 ∷ Act 1 ∷ [])
    ++ (Hear 0 2 ∷ Hear 1 2 ∷ Act 2 ∷ Act 2 ∷ Act 2 ∷ Act 2 ∷ Hear 1 0 ∷ Hear 2 0 ∷ Act 0 ∷ Act 0 ∷ Act 0 ∷ Kill 0 ∷ [])

pub decides_first : stands plain killed_once_decided ≡ Decided all_three ∷ Round 2 all_three ∷ Round 3 all_three ∷ []
decides_first = refl

pub others_decide_what_the_killed_one_did :
    stands plain (killed_once_decided ++ (Tell 0 1 ∷ Tell 0 2 ∷ Hear 2 1 ∷ Act 1 ∷ Act 1 ∷ Act 2 ∷ []))
    ≡ Decided all_three ∷ Decided all_three ∷ Decided all_three ∷ []
others_decide_what_the_killed_one_did = refl

-- seat 2 leaves before it entered, and a later entering of it changes nothing
abbrev pub leaves_before_it_entered : List Move
leaves_before_it_entered =
    (Leave 2 ∷ Enter 0 Yes ∷ Enter 1 Final ∷ Enter 2 Error ∷ Hear 1 0 ∷ Hear 2 0 ∷ Hear 0 1 ∷ Hear 2 1 ∷ Act 0 ∷ Act 0 ∷ [])
    ++ (Hear 0 1 ∷ Act 1 ∷ Act 1 ∷ Act 1 ∷ Act 1 ∷ Act 1 ∷ Hear 1 0 ∷ Act 0 ∷ Act 0 ∷ Act 0 ∷ [])

-- the list of two votes and of one that left
abbrev pub two_and_left : List Slot
two_and_left = Yes ∷ Final ∷ Left ∷ []

pub the_slot_of_one_that_left : stands plain leaves_before_it_entered ≡ Decided two_and_left ∷ Decided two_and_left ∷ Outside ∷ []
the_slot_of_one_that_left = refl

-- seat 0 was killed before it entered; the two others have its slot lost
abbrev pub killed_before_it_entered : List Move
killed_before_it_entered =
    (Kill 0 ∷ Tell 0 1 ∷ Tell 0 2 ∷ Enter 1 Final ∷ Enter 2 Final ∷ Hear 1 2 ∷ Hear 2 1 ∷ Act 1 ∷ Act 1 ∷ Act 1 ∷ [])
    ++ (Act 2 ∷ Act 2 ∷ Hear 1 2 ∷ Act 2 ∷ Act 2 ∷ Act 2 ∷ Hear 2 1 ∷ Act 1 ∷ Act 1 ∷ [])

-- the list of one that is lost and of two votes
abbrev pub lost_and_two : List Slot
lost_and_two = Lost ∷ Final ∷ Final ∷ []

pub the_slot_of_one_that_was_killed : stands plain killed_before_it_entered ≡ Outside ∷ Decided lost_and_two ∷ Decided lost_and_two ∷ []
the_slot_of_one_that_was_killed = refl

-- one member alone
pub alone_it_decides_its_vote : ((run 1 plain (Enter 0 Yes ∷ Act 0 ∷ Act 0 ∷ Act 0 ∷ []) start).member 0).phase ≡ Decided (Yes ∷ [])
alone_it_decides_its_vote = refl

-- one that is voting doesn't leave, one that was killed doesn't act, and nobody hears an empty link
pub what_is_not_enabled_changes_nothing :
    stands plain (Enter 0 Yes ∷ Leave 0 ∷ Enter 0 Final ∷ Hear 1 0 ∷ Act 0 ∷ Kill 1 ∷ Enter 1 Yes ∷ []) ≡ Voting ∷ Outside ∷ Outside ∷ []
what_is_not_enabled_changes_nothing = refl
