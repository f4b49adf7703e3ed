use Rattle.std.proofs.Common.{ℕ, List, arith, take, drop, ap, ◌∙◌}
use Rattle.std.proofs.lemmas.Grind.{common_steps}
use Rattle.fx_io.proofs.Joined.{front_gone}
use Rattle.fx_io.proofs.sure.SureSourceSource.read_some.Goals as goal

pub returns : goal.returns
returns c =
    let n = c.copy_front-count.result in
    let rest = c.split_at.ensures.back ∙ ap (λ (l : List ℕ). drop c.self.inside.at l) c.as_slice.ensures in
    record {
      content = (
        grind (arith, common_steps),
        grind (arith, common_steps),
        front_gone c.self.inside.held (take n c.copy_front-count.new.into) c.args.self.now c.self.inside.at n c.self.view_is
            (c.copy_front-count.ensures.bytes ∙ ap (λ (l : List ℕ). take n l) rest),
      );
      count_never_falls = omega arith;
      failed_only_if_count_rose = λ e. absurd cc;
    }
