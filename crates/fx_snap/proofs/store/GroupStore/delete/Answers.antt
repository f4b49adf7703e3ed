use Rattle.std.proofs.Common.{◌≡◌, ◌-◌, true, length, take, slice_get, sym, ap, ◌∙◌, subst, arith}
use Rattle.std.specs.Prelude.{is_some}
use Rattle.std.specs.List.{remove}
use Rattle.std.specs.FinMap.{find}
use Rattle.std.proofs.lemmas.Bool.{true≢false}
use Rattle.fx_base.specs.Keys.{by_time}
use Rattle.fx_store.specs.Store.{IsSound, deleting, has_stamp}
use Rattle.fx_store.proofs.Sounds.{sound_deleting, found_there}
use Rattle.fx_snap.specs.Stores.{store_of}
use Rattle.fx_snap.proofs.Parts.{taken_out}
use Rattle.fx_snap.proofs.store.GroupStore.delete.Goals as goal

pub remove-requires : goal.remove-requires
remove-requires c =
    let items = c.self.inside.snapshots.items in
    let place = c.in-Some.ensures in
    let here = ap (λ es. slice_get (take c.self.inside.closed es) c.in-Some.at) (sym c.deref.ensures.value) ∙ place.there in
    let out = taken_out c.self.inside.pending items c.self.inside.closed c.self.inside.attached c.self.inside.next c.self.inside.depth c.args.stamp c.in-Some.at place.entry c.self.invariant.0 c.self.invariant.1 here place.same in
    omega (arith, out.among, c.self.invariant.0, c.self.inside.snapshots.ok.0)

pub invariant_of-self : goal.invariant_of-self
invariant_of-self c =
    let items = c.self.inside.snapshots.items in
    let place = c.in-Some.ensures in
    let here = ap (λ es. slice_get (take c.self.inside.closed es) c.in-Some.at) (sym c.deref.ensures.value) ∙ place.there in
    let out = taken_out c.self.inside.pending items c.self.inside.closed c.self.inside.attached c.self.inside.next c.self.inside.depth c.args.stamp c.in-Some.at place.entry c.self.invariant.0 c.self.invariant.1 here place.same in
    let new : c.remove.new.self.items ≡ remove items c.in-Some.at = c.remove.ensures.items in
    let is : store_of c.self.inside.pending c.remove.new.self.items (c.self.inside.closed - 1) c.self.inside.attached c.self.inside.next c.self.inside.depth
    ≡ deleting c.args.stamp (store_of c.self.inside.pending items c.self.inside.closed c.self.inside.attached c.self.inside.next c.self.inside.depth) =
    ap (λ es. store_of c.self.inside.pending es (c.self.inside.closed - 1) c.self.inside.attached c.self.inside.next c.self.inside.depth) new ∙ out.deleted in (
      omega (arith, ap length new, out.left),
      subst IsSound (sym is) (sound_deleting (store_of c.self.inside.pending items c.self.inside.closed c.self.inside.attached c.self.inside.next c.self.inside.depth) c.args.stamp c.self.invariant.1),
    )

pub returns-in-Some-clause-deleted : goal.returns-in-Some-clause-deleted
returns-in-Some-clause-deleted c =
    let items = c.self.inside.snapshots.items in
    let place = c.in-Some.ensures in
    let here = ap (λ es. slice_get (take c.self.inside.closed es) c.in-Some.at) (sym c.deref.ensures.value) ∙ place.there in
    let out = taken_out c.self.inside.pending items c.self.inside.closed c.self.inside.attached c.self.inside.next c.self.inside.depth c.args.stamp c.in-Some.at place.entry c.self.invariant.0 c.self.invariant.1 here place.same in
    ap (λ es. store_of c.self.inside.pending es (c.self.inside.closed - 1) c.self.inside.attached c.self.inside.next c.self.inside.depth) c.remove.ensures.items
    ∙ out.deleted
    ∙ ap (deleting c.args.stamp) c.self.view_is

pub returns-in-Some-clause-no_stamp : goal.returns-in-Some-clause-no_stamp
returns-in-Some-clause-no_stamp c =
    let place = c.in-Some.ensures in
    let here : is_some (find by_time c.args.stamp (take c.self.inside.closed c.deref.result.now)) ≡ true = found_there c.args.stamp (take c.self.inside.closed c.deref.result.now) c.in-Some.at place.entry place.there place.same in
    let there : has_stamp c.args.stamp c.args.self.now ≡ true =
    ap (has_stamp c.args.stamp) (sym c.self.view_is) ∙ ap (λ es. is_some (find by_time c.args.stamp (take c.self.inside.closed es))) (sym c.deref.ensures.value) ∙ here in
    (λ clash. absurd cc, λ none. absurd (true≢false (sym there ∙ none)))
