-- As what the members of a ballot vote, where nobody's call fails: who has a place votes `final`, from epoch 1 on.
use Rattle.std.proofs.Common.{◌≡◌, ℕ, ◌<◌, zero, suc, Bool, true, false, List, [], ◌∷◌, ◌++◌, get_or, Option, Some, None, inl, inr, arith, refl, subst, sym, ◌∙◌, ap}
use Rattle.std.specs.Prelude.{if◌then◌else◌, map, slice_get}
use Rattle.std.specs.List.{flat_map}
use Rattle.std.proofs.lemmas.Bool.{cases_eq}
use Rattle.fx_ballot.specs.Laws.{vote_of}
use Rattle.fx_ballot.specs.World as ballot
use Rattle.fx_comm.specs.Seats.{has_place}
use Rattle.fx_item.specs.declared.item.Item.{Item}
use Rattle.fx_item.specs.declared.item.Item.TheVariants as item
use Rattle.fx_link.specs.declared.slot.Slot.{Slot}
use Rattle.fx_link.specs.declared.slot.Slot.TheVariants as slot
use Rattle.fx_script.specs.declared.job.Job.{Job}
use Rattle.fx_walk.specs.declared.printed.Called.{Called}
use Rattle.fx_walk.specs.declared.printed.Printed.{Printed}
use Rattle.fx_machine.specs.Nodes.{Node, my_place, size, state_of}
use Rattle.fx_machine.specs.Setup.{Setup}
use Rattle.fx_machine.specs.Steps.{print_item, callback_items, init_item, inits}
use Rattle.fx_fleet.specs.Rounds.{is_of_journal}
use Rattle.fx_calm.proofs.Lists.{Each, each_append}
use Rattle.fx_calm.proofs.Standing.{noted}
use Rattle.fx_legal.specs.Effects.{written}
use Rattle.fx_legal.specs.Ledger.{Ledger}
use Rattle.fx_legal.specs.Legal.{written_all}
use Rattle.fx_losses.specs.Eras.{Era, first_era, era}
use Rattle.fx_losses.specs.Losses.{HasLoss, RepairsLoss, IsOwedLoss, RepairLosses}
use Rattle.fx_losses.proofs.Moves.{at_one, one_here, one_far}
use Rattle.fx_losses.proofs.Tests.{some_slot}

pub record Kinds (s : Setup) (z : ℕ → ballot.World) (fate : ℕ → Option (List Slot)) : Type 0 where
  pub final : (d q : ℕ) (v : Slot) (x : Era) → 0 < d → era (first_era s) fate d ≡ Some x → vote_of (z d) q ≡ Some v → has_place x.comm q ≡ true → v ≡ slot.Final

-- where nobody votes anew
pub kinds_same : (s : Setup) (z y : ℕ → ballot.World) (fate : ℕ → Option (List Slot)) → ((d q : ℕ) → vote_of (y d) q ≡ vote_of (z d) q) → Kinds s z fate → Kinds s y fate
kinds_same s z y fate votes h = record { final = λ d q v x pos at vote place. h.final d q v x pos at (sym (votes d q) ∙ vote) place }

-- the votes of all ballots, where one of them is another
pub votes_one : (d : ℕ) (y : ballot.World) (z : ℕ → ballot.World) → ((q : ℕ) → vote_of y q ≡ vote_of (z d) q) → (e q : ℕ) → vote_of (at_one d y z e) q ≡ vote_of (z e) q
votes_one d y z votes e q = elim (cases_eq e d) [
  | inl same ↦ subst (λ o. vote_of (at_one d y z o) q ≡ vote_of (z o) q) (sym same) (ap (λ (x : ballot.World). vote_of x q) (one_here d y z) ∙ votes q)
  | inr ne ↦ ap (λ (x : ballot.World). vote_of x q) (one_far d e y z ne)
]

-- the slot that stands there
pub got_is : (slots : List Slot) (k : ℕ) (v : Slot) → slice_get slots k ≡ Some v → get_or slots k slot.Lost ≡ v
got_is [] zero v e = absurd (let bad : None ≡ Some v = e in cc)
got_is [] (suc k) v e = absurd (let bad : None ≡ Some v = e in cc)
got_is (x ∷ xs) zero v e = some_slot x v e
got_is (x ∷ xs) (suc k) v e = got_is xs k v e

-- what an epoch owes that is repaired
pub loss_owed : (l : Ledger) (d : ℕ) → (0 < d → HasLoss l d) → RepairsLoss l (suc d)
loss_owed l zero has = tt
loss_owed l (suc d) has = has (omega arith)

pub losses_more : (job : Job) (l : Ledger) (xs ys : List Item) → RepairLosses job l xs → RepairLosses job (written_all job l xs) ys → RepairLosses job l (xs ++ ys)
losses_more job l [] ys a b = b
losses_more job l (x ∷ xs) ys a b = (a.0, losses_more job (written job l x) xs ys a.1 b)

-- ---- items that repair nothing

abbrev pub is_repair : Item → Bool
is_repair (item.Repaired p e size warn list) = true
is_repair other = false

abbrev pub RepairsNothing : List Item → Type 0
RepairsNothing items = Each (λ it. is_repair it ≡ false) items

no_loss : (l : Ledger) (it : Item) → is_repair it ≡ false → IsOwedLoss l it
no_loss l (item.Repaired p e size warn list) no_repair = absurd (let bad : true ≡ false = no_repair in cc)
no_loss l (item.Kill p) no_repair = tt
no_loss l (item.Join p e kind) no_repair = tt
no_loss l (item.Callback p e name) no_repair = tt
no_loss l (item.Init p e role id rank size warn) no_repair = tt
no_loss l (item.Print p e name list) no_repair = tt
no_loss l (item.Attach p e g m) no_repair = tt
no_loss l (item.Store p e g m list) no_repair = tt
no_loss l (item.Commit p e g t) no_repair = tt
no_loss l (item.Restore p e g m t list) no_repair = tt
no_loss l (item.Refused p e statement g m t why) no_repair = tt
no_loss l (item.Barrier p e k) no_repair = tt
no_loss l (item.Reduce p e k op n) no_repair = tt
no_loss l (item.Agree p e k n) no_repair = tt
no_loss l (item.Shift p e k d list) no_repair = tt
no_loss l (item.Group p e k g) no_repair = tt
no_loss l (item.Close p e k g) no_repair = tt
no_loss l (item.Drop p e k g t) no_repair = tt
no_loss l (item.Passed p e k) no_repair = tt
no_loss l (item.Value p e k n) no_repair = tt
no_loss l (item.Shifted p e k list) no_repair = tt
no_loss l (item.Created p e k g how list) no_repair = tt
no_loss l (item.Closed p e k g t) no_repair = tt
no_loss l (item.Failed p e k x) no_repair = tt
no_loss l (item.Revoked p e k x) no_repair = tt
no_loss l (item.Ended p) no_repair = tt
no_loss l (item.Send p q message) no_repair = tt
no_loss l (item.Deliver p q message) no_repair = tt
no_loss l (item.Told p q) no_repair = tt

-- a test that drops some leaves no more of them
each_noted : (Is : Item → Type 0) (items : List Item) → Each Is items → Each Is (noted items)
each_noted Is [] all = tt
each_noted Is (it ∷ items) all = kept (is_of_journal it) (each_noted Is items all.1)
  where
    kept : (b : Bool) → Each Is (noted items) → Each Is (if b then it ∷ noted items else noted items)
    kept true rest = (all.0, rest)
    kept false rest = rest

pub none_owed : (job : Job) (l : Ledger) (items : List Item) → RepairsNothing items → RepairLosses job l items
none_owed job l [] none = tt
none_owed job l (it ∷ items) none = (no_loss l it none.0, none_owed job (written job l it) items none.1)

pub no_losses : (job : Job) (l : Ledger) (items : List Item) → RepairsNothing items → RepairLosses job l (noted items)
no_losses job l items none = none_owed job l (noted items) (each_noted (λ it. is_repair it ≡ false) items none)

-- what a return from `Init` writes

prints_nothing : (n : Node) (prints : List Printed) → RepairsNothing (map (print_item n) prints)
prints_nothing n [] = tt
prints_nothing n (x ∷ xs) = (refl, prints_nothing n xs)

callbacks_nothing : (n : Node) (called : List Called) → RepairsNothing (flat_map (callback_items n) called)
callbacks_nothing n [] = tt
callbacks_nothing n (c ∷ cs) = (refl, each_append (λ it. is_repair it ≡ false) (map (print_item n) c.prints) (flat_map (callback_items n) cs) (prints_nothing n c.prints) (callbacks_nothing n cs))

pub inits_no_repairs : (s : Setup) (n : Node) → RepairsNothing (inits s n).items
inits_no_repairs s n =
    each_append (λ it. is_repair it ≡ false) (flat_map (callback_items n) (s.callbacks n.role (my_place n) (size n) (state_of n))) (init_item s n ∷ [])
    (callbacks_nothing n (s.callbacks n.role (my_place n) (size n) (state_of n))) (refl, tt)
