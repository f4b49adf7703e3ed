use Rattle.std.proofs.Common.{not, ap, ◌∙◌, rules, tests}
use Rattle.std.proofs.lemmas.Fn.{filter_same}
use Rattle.std.specs.List.{filter}
use Rattle.fx_link.specs.declared.message.Message.{Message}
use Rattle.std.proofs.Common.{List}
use Rattle.fx_machine.specs.Messages.{wire_text}
use Rattle.fx_machine.specs.Reading.{is_past_at}
use Rattle.fx_inbox.proofs.row.Row.forget.Goals as goal

pub returns : goal.returns
returns c =
    filter_same _ (λ (m : Message). not (is_past_at c.args.epoch.0 c.args.call.0 (wire_text m))) _ (λ m b f h. search (rules, tests)) _ _ c.retain.ensures.filtered
    ∙ ap (λ (ms : List Message). filter (λ (m : Message). not (is_past_at c.args.epoch.0 c.args.call.0 (wire_text m))) ms) c.self.view_is
