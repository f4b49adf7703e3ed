use Rattle.std.proofs.Common.{◌≡◌, ◌-◌, ◌*◌, ◌≤◌, add-one, refl, sym, ap, ◌∙◌, arith}
use Rattle.std.proofs.Math.Nat.{mul-le-mul_right}
use Rattle.std.proofs.lemmas.Result.{IfOk-weaker}
use Rattle.fx_subset.specs.Indices.{is_covered, blocks_of}
use Rattle.fx_subset.proofs.Apart.{blocks_apart, blocks_cover_one}
use Rattle.fx_subset.proofs.runs.runs_of_blocks.Goals as goal

pub returns-then-stride-end-clause-same : goal.returns-then-stride-end-clause-same
returns-then-stride-end-clause-same c =
    IfOk-weaker c.run_alone.result _ _
    (λ runs is index.
    ap (λ xs. is_covered xs index) is
    ∙ sym (blocks_cover_one c.args.blocks c.args.start c.args.end c.args.stride index c.requires.some c.requires.ordered (omega arith)))
    c.run_alone.ensures

pub loop-block-init : goal.loop-block-init
unfolding blocks_of
loop-block-init c = c.new-runs.ensures.items

pub loop-block-preserved : goal.loop-block-preserved
unfolding blocks_of
loop-block-preserved c = rw (add-one c.loop-block.block, c.in_ok-push.ensures.items, c.loop-block.invariant) refl

pub returns-clause-apart : goal.returns-clause-apart
returns-clause-apart c =
    let end : c.loop-block.block ≡ c.args.blocks = omega arith in
    rw c.loop-block.invariant
    (blocks_apart c.loop-block.block c.args.start c.args.end c.args.stride c.requires.ordered (omega arith)
    (λ k h. let far : k * c.args.stride ≤ (c.args.blocks - 1) * c.args.stride = mul-le-mul_right c.args.stride (omega arith) in omega (arith, far, c.requires.inside))).0
