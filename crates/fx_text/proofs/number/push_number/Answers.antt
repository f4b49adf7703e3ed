use Rattle.std.proofs.Common.{◌≡◌, ◌++◌, subst}
use Rattle.std.specs.Prelude.{OnOk}
use Rattle.fx_text.proofs.NumberLemmas.{one_digit}
use Rattle.fx_text.proofs.number.push_number.Goals as goal

pub returns-in-Ok-clause-ok : goal.returns-in-Ok-clause-ok
returns-in-Ok-clause-ok c =
    subst (λ text. OnOk c.push.result (c.push.new.self ≡ c.args.out.now ++ text)) (one_digit c.in-Ok.digit c.args.value c.if-digit-lt10.true c.ranges.value c.in-Ok.ensures) c.push.ensures.ok
