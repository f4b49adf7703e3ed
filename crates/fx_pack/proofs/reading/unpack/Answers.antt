use Rattle.std.proofs.Common.{◌≡◌, None, arith}
use Rattle.fx_store.specs.Packed.{snapshot_in}
use Rattle.fx_store.proofs.Numbers.{IsBytes}
use Rattle.fx_store.proofs.Spellings.{read_is, none_is}
use Rattle.fx_pack.proofs.Readings.{reads, reads_none}
use Rattle.fx_pack.proofs.reading.unpack.Goals as goal

pub overflow_sub-result : goal.overflow_sub-result
overflow_sub-result c = (reads c.args.bytes.now c.in-Ok.snapshot c.in-Ok.rest.now (λ i. omega (arith, c.type_inv.bytes i)) c.in-Ok.ensures).0

pub returns-in-Ok : goal.returns-in-Ok
returns-in-Ok c =
    let bytes : IsBytes c.args.bytes.now = λ i. omega (arith, c.type_inv.bytes i) in
    let reading : snapshot_in c.args.bytes.now ≡ _ = (reads c.args.bytes.now c.in-Ok.snapshot c.in-Ok.rest.now bytes c.in-Ok.ensures).1 in
    record { reading = reading; front = read_is c.args.bytes.now c.in-Ok.snapshot _ bytes reading }

pub returns-in-Err-NotOne : goal.returns-in-Err-NotOne
returns-in-Err-NotOne c =
    let reading : snapshot_in c.args.bytes.now ≡ None = reads_none c.args.bytes.now (rw c.in-Err-NotOne.field-0-is at c.in-Err-NotOne.ensures) in
    record { reading = reading; front = none_is c.args.bytes.now reading }
