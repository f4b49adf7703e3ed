use Rattle.std.proofs.Common.{eqb, ◌∙◌, sym}
use Rattle.fx_text.proofs.Positions.{place_or_length}
use Rattle.fx_text.proofs.LineLemmas.{all_are_good, ends_there, stands_within}
use Rattle.fx_text.proofs.line.first_line.Goals as goal

pub returns-in-None-clause-len : goal.returns-in-None-clause-len
returns-in-None-clause-len c = all_are_good c.args.text.now (sym c.bad_byte.ensures ∙ c.in-None.is)

pub returns-in-Some-clause-len : goal.returns-in-Some-clause-len
returns-in-Some-clause-len c = (ends_there c.args.text.now c.in-Some.place (sym c.bad_byte.ensures ∙ c.in-Some.is) c.if-text-place-eq10.true).0

pub returns-in-Some-clause-bad : goal.returns-in-Some-clause-bad
returns-in-Some-clause-bad c = (ends_there c.args.text.now c.in-Some.place (sym c.bad_byte.ensures ∙ c.in-Some.is) c.if-text-place-eq10.true).1

pub returns-in_default-clause-len : goal.returns-in_default-clause-len
returns-in_default-clause-len c =
    c.unwrap_or.ensures ∙ rw c.line_end.ensures (place_or_length (λ b. eqb b 10) c.args.text.now)

pub returns-in_default-clause-bad : goal.returns-in_default-clause-bad
returns-in_default-clause-bad c =
    rw (c.unwrap_or.ensures, c.line_end.ensures, place_or_length (λ b. eqb b 10) c.args.text.now) (stands_within c.args.text.now c.in-Some.place (sym c.bad_byte.ensures ∙ c.in-Some.is) c.if-text-place-eq10.false)
