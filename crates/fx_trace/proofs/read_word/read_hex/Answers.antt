use Rattle.fx_lines.specs.Hex.{bytes_in}
use Rattle.fx_trace.proofs.HexLemmas.{digits_more}
use Rattle.fx_trace.proofs.read_word.read_hex.Goals as goal

pub loop-rest-preserved : goal.loop-rest-preserved
loop-rest-preserved c =
    digits_more (bytes_in c.args.digits.now) c.loop-rest.bytes c.push.new.self c.loop-rest.rest.now c.in-Some-Some.high c.in-Some-Some.low c.in-len2-up.len_at_least
    c.in-Some-Some.ensures.value c.in-Some-Some.ensures'.value c.in_ok-push-in-Some-Some.ensures.ok c.loop-rest.invariant
