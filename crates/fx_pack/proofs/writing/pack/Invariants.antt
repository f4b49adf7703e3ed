use Rattle.std.proofs.Common.{◌≡◌, ◌++◌, drop, true, map}
use Rattle.std.specs.List.{flat_map}
use Rattle.std.specs.FinMap.{entries}
use Rattle.fx_store.specs.Packed.{section_bytes, section_of, spelling_of}
use Rattle.fx_pack.proofs.FirstRuns.{members_have_64_bits}
use Rattle.fx_pack.proofs.writing.pack.Given as goal

abbrev pub invariant-loop-k : goal.invariant-loop-k
invariant-loop-k l =
    let es = entries l.snapshot in
    record {
      written : l.out ++ flat_map section_bytes (map section_of (drop l.k es)) ≡ spelling_of l.snapshot;
      bits : members_have_64_bits (drop l.k es) ≡ true → members_have_64_bits es ≡ true;
    }
