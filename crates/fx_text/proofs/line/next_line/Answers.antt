use Rattle.std.proofs.Common.{arith}
use Rattle.fx_text.proofs.LineLemmas.{first_line_is}
use Rattle.fx_text.proofs.line.next_line.Goals as goal

pub returns : goal.returns
returns c =
    let same = c.split_at.ensures.back in
    rw same (first_line_is c.args.text.now c.args.from c.first_line-len.result.0 c.first_line-len.result.1 (omega (arith, c.requires, c.if-from-text.false)) (rw (← same) c.first_line-len.ensures.len) (rw (← same) c.first_line-len.ensures.bad))
