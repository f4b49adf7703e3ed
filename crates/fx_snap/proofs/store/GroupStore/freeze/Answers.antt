use Rattle.std.proofs.Common.{◌≡◌, ◌≤◌, ◌∷◌, [], ◌++◌, ◌+ℤ◌, ◌<ℤ◌, pos, length, length-append, sym, ap, ◌∙◌, subst, rules, arith}
use Rattle.std.specs.Prelude.{FitsSigned}
use Rattle.std.specs.Int.{w64, cast_signed, cast_unsigned}
use Rattle.std.specs.FinMap.{empty}
use Rattle.fx_store.specs.Store.{Store, IsSound, committing}
use Rattle.fx_store.proofs.Sounds.{sound_committing}
use Rattle.fx_snap.specs.Stores.{store_of}
use Rattle.fx_snap.proofs.Parts.{parts_committing, next_later}
use Rattle.fx_snap.proofs.store.GroupStore.freeze.Goals as goal

pub invariant_of-self : goal.invariant_of-self
invariant_of-self c =
    let s = c.self.inside in
    let items = s.snapshots.items in
    let fits : FitsSigned w64 s.next.0 = search rules in
    let whole : Store = store_of s.pending items s.closed s.attached s.next s.depth in
    let below : s.next.0 <ℤ pos 9223372036854775807 = subst (λ (x : Store). x.next.0 <ℤ pos 9223372036854775807) (sym c.self.view_is) c.requires.next in
    let room : length whole.tentative ≤ 16 = subst (λ (x : Store). length x.tentative ≤ 16) (sym c.self.view_is) c.requires.room in
    let new : c.push.new.self.items ≡ items ++ (s.next, s.pending) ∷ [] = c.in-Ok.ensures.items ∙ ap (λ p. items ++ (s.next, p) ∷ []) c.replace-pending.ensures.value in
    let dest : c.replace-pending.new.dest ≡ empty = c.replace-pending.ensures.after ∙ c.new-fresh.ensures in
    let next = next_later s.next.0 fits below in
    let is : store_of c.replace-pending.new.dest c.push.new.self.items s.closed s.attached (record { 0 = cast_signed w64 (cast_unsigned w64 (cast_signed w64 (cast_unsigned w64 s.next.0) +ℤ pos 1)) }) s.depth ≡ committing whole =
    (λ i. store_of (dest i) (new i) s.closed s.attached (record { 0 = next i }) s.depth) ∙ parts_committing s.pending items s.closed s.attached s.next s.depth c.self.invariant.0 in (
      omega (arith, ap length new, length-append items ((s.next, s.pending) ∷ []), c.self.invariant.0),
      subst IsSound (sym is) (sound_committing whole room c.self.invariant.1),
    )
