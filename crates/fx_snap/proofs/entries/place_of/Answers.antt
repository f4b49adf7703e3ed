use Rattle.std.proofs.Common.{◌≡◌, inl, inr, refl, sym, ap, ◌∙◌, length, Some, slice_get, arith}
use Rattle.std.proofs.lemmas.Bool.{cases_lt, true≢false}
use Rattle.std.proofs.lemmas.Option.{slice_get_read}
use Rattle.fx_store.specs.Store.{Stamped}
use Rattle.fx_store.proofs.Sounds.{nowhere, same_stamp, stamps_tie}
use Rattle.fx_snap.proofs.entries.place_of.Goals as goal

pub returns-then-eq : goal.returns-then-eq
returns-then-eq c = record {
  entry = c.index-entries-at.result;
  there = slice_get_read c.args.entries.now (length c.args.entries.now) c.loop-at.at c.index-entries-at.result refl c.loop-at-test.true c.index-entries-at.is;
  same = same_stamp c.index-entries-at.result.0 c.args.stamp (sym c.eq.ensures ∙ c.if-eq.true);
}

pub loop-at-preserved : goal.loop-at-preserved
loop-at-preserved c k e lt is same =
    elim (cases_lt k c.loop-at.at) [
      | inl before ↦ c.loop-at.invariant k e before is same
      | inr le ↦
          let here : k ≡ c.loop-at.at = omega (arith, lt, le) in
          let there : slice_get c.args.entries.now c.loop-at.at ≡ Some c.index-entries-at.result =
          slice_get_read c.args.entries.now (length c.args.entries.now) c.loop-at.at c.index-entries-at.result refl c.loop-at-test.true c.index-entries-at.is in
          let entry : c.index-entries-at.result ≡ e = some_is c.index-entries-at.result e (sym there ∙ ap (slice_get c.args.entries.now) (sym here) ∙ is) in
          let stamp : c.index-entries-at.result.0 ≡ c.args.stamp = ap (λ (x : Stamped). x.0) entry ∙ same in
          true≢false (sym (stamps_tie c.index-entries-at.result.0 c.args.stamp stamp) ∙ sym c.eq.ensures ∙ c.if-eq.false)
    ]
  where
    some_is : (x y : Stamped) → Some x ≡ Some y → x ≡ y
    some_is x y e = cc

pub returns : goal.returns
returns c = nowhere c.args.stamp c.args.entries.now (λ k e lt is. c.loop-at.invariant k e (omega (arith, lt, c.loop-at-test.false)) is)
