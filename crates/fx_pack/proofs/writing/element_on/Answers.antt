use Rattle.std.proofs.Common.{◌≡◌, sym, subst, ◌<◌, None, slice_get, rules}
use Rattle.std.specs.Prelude.{FitsSigned}
use Rattle.std.specs.Int.{w64}
use Rattle.std.specs.FinMap.{entries}
use Rattle.std.proofs.lemmas.Int.{to_z-of_z}
use Rattle.std.proofs.lemmas.Option.{slice_get_within}
use Rattle.fx_pack.proofs.FirstRuns.{goes_on_at, ends_elsewhere, ends_past, index_below}
use Rattle.fx_pack.proofs.writing.element_on.Goals as goal

pub returns-in-Some-clause-some : goal.returns-in-Some-clause-some
returns-in-Some-clause-some c =
    let fits : FitsSigned w64 c.in-Some.element.now = search rules in
    rw (to_z-of_z w64 c.in-Some.element.now fits)
    (goes_on_at (entries c.args.elements.now) c.args.at c.args.index (c.in-Some.found, c.in-Some.element.now) (sym c.in-Some.ensures) c.if-found-index.true fits)

pub returns-in-Some-clause-within : goal.returns-in-Some-clause-within
returns-in-Some-clause-within c = (
  subst (λ k. k < 256) c.if-found-index.true (index_below c.args.elements.now c.args.at (c.in-Some.found, c.in-Some.element.now) c.requires (sym c.in-Some.ensures)),
  slice_get_within (entries c.args.elements.now) c.args.at (c.in-Some.found, c.in-Some.element.now) (sym c.in-Some.ensures),
)

pub returns-in_default-clause-none : goal.returns-in_default-clause-none
returns-in_default-clause-none c =
    ends_elsewhere (entries c.args.elements.now) c.args.at c.args.index (c.in-Some.found, c.in-Some.element.now) (sym c.in-Some.ensures) c.if-found-index.false

pub returns-in_default-2-clause-none : goal.returns-in_default-2-clause-none
returns-in_default-2-clause-none c =
    let none : slice_get (entries c.args.elements.now) c.args.at ≡ None = sym (rw c.in_default.is at c.nth.ensures) in
    ends_past (entries c.args.elements.now) c.args.at c.args.index none
