use Rattle.std.proofs.Common.{◌≡◌, true, false, arith, subst}
use Rattle.std.specs.Prelude.{is_none}
use Rattle.std.specs.FinSet as set
use Rattle.std.proofs.lemmas.Bool.Decides.{nat_tests}
use Rattle.fx_inbox.specs.Joins.{HasNoJoin}
use Rattle.fx_inbox.specs.Keeping.{Kept}
use Rattle.fx_inbox.proofs.Joins.{from_none, none_lost, none_left}
use Rattle.fx_inbox.proofs.inbox.Inbox.is_calm.Goals as goal

pub returns-then-not-self : goal.returns-then-not-self
returns-then-not-self c = λ calm n know q.
    let still : c.self.inside.joined ≡ false = grind (arith, nat_tests, c.if-not-self.true) in
    let least : is_none c.least.result ≡ true = grind (arith, nat_tests, calm, c.is_none.ensures) in
    let lost : c.self.inside.lost ≡ set.empty = from_none c.least.result least c.least.ensures.none in (
      none_lost n c.args.self.now q know (subst (λ (b : Kept). b.lost ≡ set.empty) c.self.view_is lost),
      none_left n c.args.self.now q know (subst (λ (b : Kept). HasNoJoin b.messages) c.self.view_is (c.self.invariant.1 still)),
    )
