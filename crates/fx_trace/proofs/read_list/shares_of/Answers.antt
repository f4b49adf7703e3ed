use Rattle.std.proofs.Common.{◌≡◌, true, false, Some, refl, ◌∙◌}
use Rattle.std.specs.Vec.Iter.{into_iter_items}
use Rattle.fx_base.specs.Keys.{by_time, by_time_total}
use Rattle.fx_trace.specs.Reads.{is_later}
use Rattle.fx_trace.proofs.RisenLemmas.{rises_from_nothing, rises_on, does_not_rise}
use Rattle.fx_trace.proofs.read_list.shares_of.Goals as goal

pub loop-stamp-init : goal.loop-stamp-init
loop-stamp-init c =
    rises_from_nothing by_time c.args.entries (into_iter_items c.into_iter-stamp-iterator.result) c.new-shares.result (λ k. true)
    (c.into_iter-stamp-iterator.ensures.into_iter_gives.0 ∙ c.into_items-stamp-items.ensures) c.new-shares.ensures (λ k. refl)

pub returns-then-not-is_later : goal.returns-then-not-is_later
returns-then-not-is_later c =
    let no : is_later c.loop-stamp.last c.in-Some.stamp ≡ false = cc (c.is_later.ensures, c.if-not-is_later.true) in
    does_not_rise by_time c.args.entries c.loop-stamp.yielded (into_iter_items c.loop-stamp.stamp-iterator) (into_iter_items c.next.new.self) c.loop-stamp.shares
    (is_later c.loop-stamp.last) (c.in-Some.stamp, c.in-Some.bytes) c.in-Some.ensures.steps.0 no c.loop-stamp.invariant

pub loop-stamp-preserved : goal.loop-stamp-preserved
loop-stamp-preserved c =
    let yes : is_later c.loop-stamp.last c.in-Some.stamp ≡ true = cc (c.is_later.ensures, c.if-not-is_later.false) in
    rises_on by_time by_time_total c.args.entries c.loop-stamp.yielded (into_iter_items c.loop-stamp.stamp-iterator) (into_iter_items c.next.new.self) c.loop-stamp.shares c.put.new.self
    (is_later c.loop-stamp.last) (is_later (Some c.in-Some.stamp)) (c.in-Some.stamp, c.in-Some.bytes) c.in-Some.ensures.steps.0 yes
    c.in_ok-put.ensures.ok (λ k. refl) c.loop-stamp.invariant
