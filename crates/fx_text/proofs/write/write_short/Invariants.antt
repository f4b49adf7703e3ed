-- the bytes so far are those of the first numbers
use Rattle.std.proofs.Common.{◌≡◌, ◌≤◌, ◌-◌, map, take, length}
use Rattle.std.specs.Fmt.{signed_decimal}
use Rattle.fx_text.specs.Written.{spaced}
use Rattle.fx_text.proofs.write.write_short.Given as goal

abbrev pub invariant-loop-count : goal.invariant-loop-count
invariant-loop-count l = record {
  within : l.count ≤ length l.numbers;
  fits : l.bytes ≤ 64;
  room : length l.text ≡ 64;
  written : take l.bytes l.text ≡ spaced (map signed_decimal (take l.count l.numbers));
}

abbrev pub decreases-loop-count : goal.decreases-loop-count
decreases-loop-count l = length l.numbers - l.count
