-- The items that a deed writes of itself say nothing to anybody: what is said are its sends.
use Rattle.std.proofs.Common.{◌≡◌, ℕ, List, [], ◌∷◌, ◌++◌, map, refl, sym, ap, ◌∙◌}
use Rattle.std.specs.List.{flat_map}
use Rattle.fx_item.specs.declared.item.Item.{Item}
use Rattle.fx_walk.specs.declared.printed.Called.{Called}
use Rattle.fx_walk.specs.declared.printed.Printed.{Printed}
use Rattle.fx_machine.specs.Nodes.{Node, Act, my_place, size, state_of}
use Rattle.fx_machine.specs.Setup.{Setup}
use Rattle.fx_machine.specs.Steps.{print_item, callback_items, init_item}
use Rattle.fx_machine.specs.Waits.{Error, ByLoss, ByLeaving, returns_error}
use Rattle.fx_deeds.specs.Deeds.{Deed, Joins, Moves, Speaks, EndsAll, Repairs, Inits, PassesOn, PrintsOut, IsRefused, Attaches, Stores, Commits, Restores, EntersBarrier, EntersReduction, EntersShift, EntersAgreement, EntersDeletion, EntersClosing, EntersCreation, PassesBarrier, Reduces, Shifts, GathersNoMore, VotesNo, VotesYes, VotesFresh, HelpsAndGives, VotesFinding, ReturnsError, ReturnsBits, Closes, Creates, Deletes}
use Rattle.fx_deeds.specs.Streams.{said_of, said_to}

append_assoc : {X : Type 0} (xs ys zs : List X) → (xs ++ ys) ++ zs ≡ xs ++ (ys ++ zs)
append_assoc [] ys zs = refl
append_assoc (x ∷ xs) ys zs = ap (λ l. x ∷ l) (append_assoc xs ys zs)

pub said_append : (c q : ℕ) (xs ys : List Item) → said_to c q (xs ++ ys) ≡ said_to c q xs ++ said_to c q ys
said_append c q [] ys = refl
said_append c q (x ∷ xs) ys = ap (λ l. said_of c q x ++ l) (said_append c q xs ys) ∙ sym (append_assoc (said_of c q x) (said_to c q xs) (said_to c q ys))

abbrev Silent : ℕ → ℕ → List Item → Type 0
Silent c q items = said_to c q items ≡ []

both : (c q : ℕ) (xs ys : List Item) → Silent c q xs → Silent c q ys → Silent c q (xs ++ ys)
both c q xs ys a e = said_append c q xs ys ∙ (λ i. a i ++ e i)

printing : (c q : ℕ) (n : Node) (printed : List Printed) → Silent c q (map (print_item n) printed)
printing c q n [] = refl
printing c q n (x ∷ printed) = printing c q n printed

calling_back : (c q : ℕ) (n : Node) (called : List Called) → Silent c q (flat_map (callback_items n) called)
calling_back c q n [] = refl
calling_back c q n (x ∷ called) =
    both c q (callback_items n x) (flat_map (callback_items n) called) (printing c q n x.prints) (calling_back c q n called)

of_error : (c q : ℕ) (n : Node) (error : Error) → Silent c q (returns_error n error).items
of_error c q n (ByLoss x) = refl
of_error c q n (ByLeaving x) = refl

pub silent : (c q : ℕ) (s : Setup) (n : Node) (act : Act) → Deed s n act → Silent c q act.items
silent c q s n act (Joins kind why within) = refl
silent c q s n act (Moves b at phase is e) = refl
silent c q s n act (Speaks b at phase slots is e) = refl
silent c q s n act (EndsAll phase slots at e is) = refl
silent c q s n act (Repairs phase slots at e is) = refl
silent c q s n act (Inits at is) =
    both c q (flat_map (callback_items n) (s.callbacks n.role (my_place n) (size n) (state_of n))) (init_item s n ∷ [])
    (calling_back c q n (s.callbacks n.role (my_place n) (size n) (state_of n))) refl
silent c q s n act (PassesOn rest at e) = refl
silent c q s n act (PrintsOut printed rest at e) = refl
silent c q s n act (IsRefused w rest r is e) = refl
silent c q s n act (Attaches g m rest is may) = refl
silent c q s n act (Stores g m piece rest is may) = refl
silent c q s n act (Commits g rest is may) = refl
silent c q s n act (Restores g m stamp rest is may) = refl
silent c q s n act (EntersBarrier rest is) = refl
silent c q s n act (EntersReduction op own rest is) = refl
silent c q s n act (EntersShift by elements rest is) = refl
silent c q s n act (EntersAgreement flag rest is) = refl
silent c q s n act (EntersDeletion g stamp rest is may) = refl
silent c q s n act (EntersClosing g rest is may) = refl
silent c q s n act (EntersCreation g start depth rest is may) = refl
silent c q s n act (PassesBarrier rest is all) = refl
silent c q s n act (Reduces op own rest is all) = refl
silent c q s n act (Shifts by elements rest is all) = refl
silent c q s n act (GathersNoMore w rest error kind is some e) = of_error c q n error
silent c q s n act (VotesNo core w rest wait vote is at un) = refl
silent c q s n act (VotesYes g rest is all) = refl
silent c q s n act (VotesFresh g start depth rest is all none) = refl
silent c q s n act (HelpsAndGives g start depth rest k is all known may) = refl
silent c q s n act (VotesFinding g start depth rest k is known all) = refl
silent c q s n act (ReturnsError w rest phase slots error is decided e) = of_error c q n error
silent c q s n act (ReturnsBits flag rest slots is) = refl
silent c q s n act (Closes g rest slots is) = refl
silent c q s n act (Creates g start depth rest slots is) = refl
silent c q s n act (Deletes g stamp rest slots is) = refl
