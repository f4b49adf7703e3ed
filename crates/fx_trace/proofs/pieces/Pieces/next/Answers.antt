use Rattle.std.proofs.Common.{ap, sym, ◌∙◌}
use Rattle.fx_trace.specs.Pieces.{pieces_left}
use Rattle.fx_trace.proofs.PieceLemmas.{cut, last_piece}
use Rattle.fx_trace.proofs.pieces.Pieces.next.Goals as goal

pub returns-in-Some : goal.returns-in-Some
returns-in-Some c =
    sym c.self.view_is ∙ ap (pieces_left c.self.inside.separator) c.in_ok-bytes.was
    ∙ cut c.self.inside.separator c.in_ok-bytes.bytes.now c.in-Some.place c.split_at.result.0.now c.split_at.result.1.now c.split_at-in-Some.result.1.now c.in-Some.ensures
    c.split_at.ensures.front c.split_at.ensures.back c.split_at-in-Some.ensures.back

pub returns-in-None : goal.returns-in-None
returns-in-None c =
    sym c.self.view_is ∙ ap (pieces_left c.self.inside.separator) c.in_ok-bytes.was ∙ last_piece c.self.inside.separator c.in_ok-bytes.bytes.now c.in-None.ensures
