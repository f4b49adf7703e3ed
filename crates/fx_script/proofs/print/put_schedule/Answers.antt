use Rattle.std.proofs.Common.{◌≡◌, [], ◌∷◌, ◌++◌, ℕ, List, OnOk, codes, map, subst, ap, sym, ◌∙◌}
use Rattle.fx_script.specs.Canonical.{text_of}
use Rattle.fx_script.specs.Spelling.{event_entry}
use Rattle.fx_script.proofs.TextLemmas.{ended, in_three}
use Rattle.fx_script.proofs.JobText.{schedule_entries, schedule_text}
use Rattle.fx_script.proofs.print.put_schedule.Goals as goal

pub returns : goal.returns
returns c =
    let events = text_of (map event_entry c.args.events.now) in
    let e : c.put_events.new.out ++ ended (codes "stop" ∷ []) ≡ c.args.out.now ++ text_of (schedule_entries c.args.events.now) =
    in_three c.args.out.now (ended (codes "schedule" ∷ [])) events (ended (codes "stop" ∷ [])) c.put_bare.new.out c.put_events.new.out c.in_ok-put_bare.ensures c.in_ok-put_events.ensures
    ∙ ap (λ (l : List ℕ). c.args.out.now ++ l) (sym (schedule_text c.args.events.now)) in
    subst (λ (text : List ℕ). OnOk c.put_bare-2.result (c.put_bare-2.new.out ≡ text)) e c.put_bare-2.ensures
