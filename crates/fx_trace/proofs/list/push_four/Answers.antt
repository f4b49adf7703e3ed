use Rattle.fx_trace.proofs.list.push_four.Goals as goal

pub returns-clause-ok : goal.returns-clause-ok
returns-clause-ok c =
    rw (← c.hex_digit.ensures, ← c.hex_digit-2.ensures, ← c.hex_digit-3.ensures, ← c.hex_digit-4.ensures, ← c.hex_digit-5.ensures, ← c.hex_digit-6.ensures, ← c.hex_digit-7.ensures, ← c.hex_digit-8.ensures) c.append.ensures.ok
