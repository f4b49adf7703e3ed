use Rattle.std.proofs.Common.{◌≡◌, [], None, arith, refl}
use Rattle.std.specs.Prelude.{slice_index_or}
use Rattle.std.proofs.lemmas.Grind.{common_steps}
use Rattle.fx_inbox.proofs.Keeping.{part_read}
use Rattle.fx_inbox.proofs.inbox.Inbox.part_of.Goals as goal

pub returns-in-Some : goal.returns-in-Some
returns-in-Some c = λ n know at call.
    let row : c.as_slice.result.now ≡ slice_index_or c.args.self.now.messages c.args.who [] = grind (arith, common_steps) in
    part_read n c.args.self.now c.args.epoch.0 c.args.call.0 c.args.due c.args.who c.as_slice.result.now _ know at call row c.first_part.ensures

pub returns-in-None : goal.returns-in-None
returns-in-None c = λ n know at call.
    let row : [] ≡ slice_index_or c.args.self.now.messages c.args.who [] = grind (arith, common_steps) in
    part_read n c.args.self.now c.args.epoch.0 c.args.call.0 c.args.due c.args.who [] None know at call row refl
