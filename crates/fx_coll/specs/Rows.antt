-- Worked rows.
use Rattle.std.specs.Prelude.{◌≡◌, refl, ℤ, pos, negsuc, List, [], ◌∷◌, Some}
use Rattle.fx_base.specs.declared.names.Op.TheVariants as op
use Rattle.fx_coll.specs.Answer.{answer_of}
use Rattle.fx_coll.specs.Keeping.{known_at, begun, gives, is_lost, has_left, folded}
use Rattle.fx_coll.specs.declared.known.Known.{Known}
use Rattle.fx_coll.specs.declared.part.Part.TheVariants as part
use Rattle.fx_coll.specs.declared.poll.CollPoll.TheVariants as poll

-- a barrier of three, at place 0: place 1 gave its part and left
abbrev waits_for_2 : List Known
waits_for_2 = has_left 1 (gives 1 part.Empty (begun 3 0 part.Empty))

not_yet : answer_of waits_for_2 ≡ poll.NotYet
not_yet = refl

revoked_by_2 : answer_of (has_left 2 waits_for_2) ≡ poll.Revoked 2
revoked_by_2 = refl

done : answer_of (gives 2 part.Empty waits_for_2) ≡ poll.Done
done = refl

-- a loss comes before a leaving, whatever the places are
lost_before_left : answer_of (is_lost 2 (has_left 1 (begun 3 0 part.Empty))) ≡ poll.Failed 2
lost_before_left = refl

-- and of two the lesser place
least_of_two : answer_of (is_lost 1 (is_lost 2 (begun 3 0 part.Empty))) ≡ poll.Failed 1
least_of_two = refl

-- a lost one's part counts where it is there
lost_with_its_part : answer_of (is_lost 1 (gives 1 part.Empty (begun 2 0 part.Empty))) ≡ poll.Done
lost_with_its_part = refl

-- a second part of one member changes nothing
second_part : gives 1 (part.Number (pos 9)) (gives 1 (part.Number (pos 7)) (begun 2 0 part.Empty)) ≡ gives 1 (part.Number (pos 7)) (begun 2 0 part.Empty)
second_part = refl

-- a reduction of three numbers
abbrev three_numbers : ℤ → List Known
three_numbers n = gives 2 (part.Number (negsuc 3)) (gives 1 (part.Number n) (begun 3 0 (part.Number (pos 5))))

sum_of_three : folded op.Sum (three_numbers (pos 6)) ≡ pos 7
sum_of_three = refl

least : folded op.Min (three_numbers (pos 6)) ≡ negsuc 3
least = refl

greatest : folded op.Max (three_numbers (pos 6)) ≡ pos 6
greatest = refl

-- 5 and 2^63 - 1 and -4 come to -2^63 + 0
sum_wraps : folded op.Sum (three_numbers (pos 9223372036854775807)) ≡ negsuc 9223372036854775807
sum_wraps = refl

-- the part that a shift takes
elements_of_1 : (known_at (gives 1 (part.Elems (pos 3 ∷ [])) (begun 2 0 part.Empty)) 1).part ≡ Some (part.Elems (pos 3 ∷ []))
elements_of_1 = refl
