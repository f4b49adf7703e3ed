use Rattle.std.proofs.Common.{◌≡◌, suc, ◌+◌, ◌-◌, sym, ap, ◌∙◌, subst, arith, rules}
use Rattle.std.specs.Prelude.{FitsSigned}
use Rattle.std.specs.Int.{w64}
use Rattle.std.specs.FinMap.{insert}
use Rattle.std.proofs.lemmas.Int.{to_z-of_z}
use Rattle.std.proofs.lemmas.Result.{err_from_is_err_and}
use Rattle.fx_base.specs.Bounds.{HasIndicesBelow256}
use Rattle.fx_pack.specs.Reading.{elements_put}
use Rattle.fx_pack.proofs.Steps.{element_step, element_fails, elements_end}
use Rattle.fx_store.proofs.Indices.{insert_below}
use Rattle.fx_pack.proofs.reading.read_elements.Goals as goal

pub returns-in_err-element-clause-read : goal.returns-in_err-element-clause-read
returns-in_err-element-clause-read c =
    let p = err_from_is_err_and c.from_residual.result c.from_residual.ensures.1 in
    let more : c.args.start + c.args.count - c.loop-index.index ≡ suc (c.args.start + c.args.count - (c.loop-index.index + 1)) = omega (arith, c.loop-index-test.true) in
    let inv = ap (λ k. elements_put k c.loop-index.index c.loop-index.rest.now c.loop-index.elements) (sym more) ∙ c.loop-index.invariant.read in
    rw (p.1, p.2) (element_fails c.in_err-element.field-0.0 (c.args.start + c.args.count - (c.loop-index.index + 1)) c.loop-index.index c.loop-index.rest.now c.loop-index.elements (elements_put c.args.count c.args.start c.args.bytes.now c.args.elements.now) c.in_err-element.ensures inv)

pub loop-index-preserved : goal.loop-index-preserved
loop-index-preserved c =
    let more : c.args.start + c.args.count - c.loop-index.index ≡ suc (c.args.start + c.args.count - (c.loop-index.index + 1)) = omega (arith, c.loop-index-test.true) in
    let inv = ap (λ k. elements_put k c.loop-index.index c.loop-index.rest.now c.loop-index.elements) (sym more) ∙ c.loop-index.invariant.read in
    let fits : FitsSigned w64 c.in_ok-element.element = search rules in
    let new : c.put.new.self ≡ insert c.loop-index.elements c.loop-index.index c.in_ok-element.element = c.in_ok-put.ensures.ok ∙ ap (insert c.loop-index.elements c.loop-index.index) (to_z-of_z w64 c.in_ok-element.element fits) in
    record {
      read = ap (elements_put (c.args.start + c.args.count - (c.loop-index.index + 1)) (c.loop-index.index + 1) c.in_ok-element.after.now) new
          ∙ element_step (c.args.start + c.args.count - (c.loop-index.index + 1)) c.loop-index.index c.loop-index.rest.now c.in_ok-element.after.now c.loop-index.elements c.in_ok-element.element (elements_put c.args.count c.args.start c.args.bytes.now c.args.elements.now) c.in_ok-element.ensures inv;
      indices = subst HasIndicesBelow256 (sym new) (insert_below c.loop-index.elements c.loop-index.index c.in_ok-element.element (omega (arith, c.loop-index-test.true, c.requires.fits)) c.loop-index.invariant.indices);
    }

pub returns-clause-read : goal.returns-clause-read
returns-clause-read c =
    let none : c.args.start + c.args.count - c.loop-index.index ≡ 0 = omega (arith, c.loop-index-test.false) in
    elements_end c.loop-index.index c.loop-index.rest.now c.loop-index.elements (elements_put c.args.count c.args.start c.args.bytes.now c.args.elements.now)
    (ap (λ k. elements_put k c.loop-index.index c.loop-index.rest.now c.loop-index.elements) (sym none) ∙ c.loop-index.invariant.read)
