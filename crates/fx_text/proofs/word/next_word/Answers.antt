use Rattle.std.proofs.Common.{◌≡◌, ◌+◌, ◌∙◌, not, eqb, None, Some, length, drop, ap, sym}
use Rattle.std.specs.Prelude.{unwrap_or}
use Rattle.std.specs.List.{position}
use Rattle.fx_text.proofs.Positions.{found_nowhere, place_or_length}
use Rattle.fx_text.proofs.WordLemmas.{no_word, first_word}
use Rattle.fx_text.proofs.word.next_word.Goals as goal

pub returns-in_err-start : goal.returns-in_err-start
returns-in_err-start c =
    let none : position (λ b. not (eqb b 32)) (drop c.args.from c.args.line.now) ≡ None =
    rw (← c.split_at.ensures.back) (sym c.first_letter.ensures ∙ c.in_err-start.was) in
    rw c.from_residual.ensures (no_word (c.args.from + 1) (drop c.args.from c.args.line.now) (found_nowhere (λ b. not (eqb b 32)) (drop c.args.from c.args.line.now) none))

pub returns : goal.returns
returns c =
    let start = c.args.from + c.in_ok-start.field-0 in
    let found : position (λ b. not (eqb b 32)) (drop c.args.from c.args.line.now) ≡ Some c.in_ok-start.field-0 =
    rw (← c.split_at.ensures.back) (sym c.first_letter.ensures ∙ c.in_ok-start.was) in
    let rest = c.split_at-2.result.1.now in
    first_word c.args.line.now c.args.from c.in_ok-start.field-0 c.unwrap_or-len.result found
    (rw (← c.split_at-2.ensures.back) (c.unwrap_or-len.ensures ∙ ap (λ o. unwrap_or o (length rest)) c.first_space.ensures ∙ place_or_length (λ b. eqb b 32) rest))
