use Rattle.std.proofs.Common.{◌≡◌, ◌+◌, ◌-◌, ◌≤◌, ◌++◌, length, drop, true}
use Rattle.std.specs.List.{flat_map}
use Rattle.std.specs.FinMap.{entries}
use Rattle.fx_store.specs.Packed.{run_bytes, runs_of}
use Rattle.fx_pack.specs.Runs.{have_64_bits}
use Rattle.fx_pack.proofs.writing.push_member.Given as goal

abbrev pub invariant-loop-at : goal.invariant-loop-at
invariant-loop-at l =
    let es = entries l.elements in
    record {
      written : l.runs ++ flat_map run_bytes (runs_of (drop l.at es)) ≡ flat_map run_bytes (runs_of es);
      counted : l.count + length (runs_of (drop l.at es)) ≡ length (runs_of es);
      within : l.at ≤ length es;
      few : l.count ≤ l.at;
      bits : have_64_bits (drop l.at es) ≡ true → have_64_bits es ≡ true;
    }

abbrev pub decreases-loop-at : goal.decreases-loop-at
decreases-loop-at l = length (entries l.elements) - l.at
