use Rattle.std.proofs.Common.{map, string_bytes}
use Rattle.fx_cli.proofs.InMemory.{in_memory}
use Rattle.fx_cli.proofs.memory.fenix_in_memory.Goals as goal

pub returns : goal.returns
returns c =
    let ends = rw (c.new-source.ensures, c.new-sink.ensures) at c.fenix-status.ensures.ends in
    in_memory (map string_bytes c.args.words.now) c.args.held c.fenix-status.new.source c.fenix-status.new.sink c.fenix-status.result
    ends c.fenix-status.ensures.read_fault_only_if_count_rose c.fenix-status.ensures.write_fault_only_if_count_rose
