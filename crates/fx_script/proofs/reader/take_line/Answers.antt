use Rattle.std.proofs.Common.{ap, sym, ◌∙◌}
use Rattle.fx_script.specs.Left.{Left}
use Rattle.fx_script.specs.Next.{word_of}
use Rattle.fx_script.proofs.LineSteps.{met_line}
use Rattle.fx_script.proofs.reader.take_line.Goals as goal

pub returns-in-Some : goal.returns-in-Some
returns-in-Some c =
    let step = met_line c.args.draft.now c.args.number (record { bytes = c.args.line.now; ended = c.args.span.ended }) (word_of c.in-Some.first) c.next.new.self
    (sym c.see_sound.ensures ∙ c.in_ok-see_sound.was)
    (ap (λ (l : Left). l.words) (sym c.new-cursor.ensures) ∙ c.in-Some.ensures.words)
    (c.in-Some.ensures.past ∙ ap (λ (l : Left). l.past) c.new-cursor.ensures)
    (sym c.is_comment.ensures ∙ c.if-not-is_comment.true) in
    rw step c.take_met.ensures
