-- what is written so far, with the numbers that are left, is the whole
use Rattle.std.proofs.Common.{◌≡◌, ◌≤◌, ◌-◌, ◌++◌, map, drop, length}
use Rattle.std.specs.Fmt.{signed_decimal}
use Rattle.fx_text.specs.Written.{Keeps, spaced}
use Rattle.fx_text.proofs.write.put_numbers.Given as goal

abbrev pub invariant-loop-at : goal.invariant-loop-at
invariant-loop-at l = record {
  within : l.at ≤ length l.numbers;
  rest : l.out ++ spaced (map signed_decimal (drop l.at l.numbers)) ≡ l.fn.out ++ spaced (map signed_decimal l.numbers);
  keeps : Keeps l.fn.out l.out;
}

abbrev pub decreases-loop-at : goal.decreases-loop-at
decreases-loop-at l = length l.numbers - l.at
