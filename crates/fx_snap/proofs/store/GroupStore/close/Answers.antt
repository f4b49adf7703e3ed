use Rattle.std.proofs.Common.{◌≡◌, ◌+◌, length, sym, ap, ◌∙◌, subst, arith}
use Rattle.fx_store.specs.Store.{newest, IsSound, closing}
use Rattle.fx_store.proofs.Sounds.{sound_closing}
use Rattle.fx_snap.specs.Stores.{store_of}
use Rattle.fx_snap.proofs.Parts.{parts_closing}
use Rattle.fx_snap.proofs.store.GroupStore.close.Goals as goal

pub invariant_of-self : goal.invariant_of-self
invariant_of-self c =
    let items = c.self.inside.snapshots.items in
    let depth = c.self.inside.depth in
    let new : c.keep_newest.new.entries.items ≡ newest (depth + 1) items = c.keep_newest.ensures ∙ ap (λ d. newest (d + 1) items) c.from.ensures in
    let count : c.len-self-inside.result ≡ length c.keep_newest.new.entries.items = omega (arith, c.len-self-inside.ensures, c.keep_newest.new.entries.ok.0) in
    let len : c.len-self-inside.result ≡ length (newest (depth + 1) items) = count ∙ ap length new in
    let is : store_of c.self.inside.pending c.keep_newest.new.entries.items c.len-self-inside.result c.self.inside.attached c.self.inside.next depth
    ≡ closing (store_of c.self.inside.pending items c.self.inside.closed c.self.inside.attached c.self.inside.next depth) =
    (λ i. store_of c.self.inside.pending (new i) (len i) c.self.inside.attached c.self.inside.next depth)
    ∙ parts_closing c.self.inside.pending items c.self.inside.closed c.self.inside.attached c.self.inside.next depth c.self.invariant.0 in
    (omega (arith, count), subst IsSound (sym is) (sound_closing (store_of c.self.inside.pending items c.self.inside.closed c.self.inside.attached c.self.inside.next depth) c.self.invariant.1))
