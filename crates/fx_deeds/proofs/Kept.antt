-- What a step leaves as it is.
use Rattle.std.proofs.lemmas.Bool.Decides.{nat_tests}
use Rattle.std.proofs.Common.{arith, ◌≡◌, ℕ, List, [], ◌∷◌, ◌++◌, refl, ap, ◌∙◌}
use Rattle.fx_machine.specs.Nodes.{Node, Act, keeping}
use Rattle.fx_machine.specs.Setup.{Setup}
use Rattle.fx_machine.specs.Texts.{Text}
use Rattle.fx_machine.specs.Waits.{Error, ByLoss, ByLeaving, returns_error}
use Rattle.fx_deeds.specs.Deeds.{Deed, Joins, Moves, Speaks, EndsAll, Repairs, Inits, PassesOn, PrintsOut, IsRefused, Attaches, Stores, Commits, Restores, EntersBarrier, EntersReduction, EntersShift, EntersAgreement, EntersDeletion, EntersClosing, EntersCreation, PassesBarrier, Reduces, Shifts, GathersNoMore, VotesNo, VotesYes, VotesFresh, HelpsAndGives, VotesFinding, ReturnsError, ReturnsBits, Closes, Creates, Deletes}
use Rattle.fx_deeds.specs.Streams.{Keeps}

append_none : {X : Type 0} (xs : List X) → xs ≡ xs ++ []
append_none [] = refl
append_none (x ∷ xs) = ap (λ ys. x ∷ ys) (append_none xs)

-- a node that differs elsewhere alone
same : (n m : Node) → m.me ≡ n.me → m.lost ≡ n.lost → m.texts ≡ n.texts → Keeps n m
same n m me lost kept = record {
  me = me;
  lost = lost;
  other = λ q ne. ap (λ (f : ℕ → List Text). f q) kept;
  more = [];
  own = ap (λ (f : ℕ → List Text). f n.me) kept ∙ append_none (n.texts n.me);
}

-- an own text is kept by a node that differs elsewhere alone
adds : (n m : Node) (t : Text) → m.me ≡ n.me → m.lost ≡ n.lost → m.texts ≡ n.texts → Keeps n (keeping t m)
adds n m t me lost kept = record {
  me = me;
  lost = lost;
  other = λ q ne. grind (arith, nat_tests, ne, me, ap (λ (f : ℕ → List Text). f q) kept);
  more = t ∷ [];
  own = grind (arith, nat_tests, me, ap (λ (f : ℕ → List Text). f n.me) kept);
}

of_error : (n : Node) (error : Error) → Keeps n (returns_error n error).node
of_error n (ByLoss x) = same n _ refl refl refl
of_error n (ByLeaving x) = same n _ refl refl refl

pub keeps : (s : Setup) (n : Node) (act : Act) → Deed s n act → Keeps n act.node
keeps s n act (Joins kind why within) = adds n _ _ refl refl refl
keeps s n act (Moves b at phase is e) = same n _ refl refl refl
keeps s n act (Speaks b at phase slots is e) = adds n _ _ refl refl refl
keeps s n act (EndsAll phase slots at e is) = same n _ refl refl refl
keeps s n act (Repairs phase slots at e is) = same n _ refl refl refl
keeps s n act (Inits at is) = same n _ refl refl refl
keeps s n act (PassesOn rest at e) = same n _ refl refl refl
keeps s n act (PrintsOut printed rest at e) = same n _ refl refl refl
keeps s n act (IsRefused w rest r is e) = same n _ refl refl refl
keeps s n act (Attaches g m rest is may) = same n _ refl refl refl
keeps s n act (Stores g m piece rest is may) = same n _ refl refl refl
keeps s n act (Commits g rest is may) = same n _ refl refl refl
keeps s n act (Restores g m stamp rest is may) = same n _ refl refl refl
keeps s n act (EntersBarrier rest is) = same n _ refl refl refl
keeps s n act (EntersReduction op own rest is) = same n _ refl refl refl
keeps s n act (EntersShift by elements rest is) = same n _ refl refl refl
keeps s n act (EntersAgreement flag rest is) = adds n _ _ refl refl refl
keeps s n act (EntersDeletion g stamp rest is may) = adds n _ _ refl refl refl
keeps s n act (EntersClosing g rest is may) = same n _ refl refl refl
keeps s n act (EntersCreation g start depth rest is may) = same n _ refl refl refl
keeps s n act (PassesBarrier rest is all) = same n _ refl refl refl
keeps s n act (Reduces op own rest is all) = same n _ refl refl refl
keeps s n act (Shifts by elements rest is all) = same n _ refl refl refl
keeps s n act (GathersNoMore w rest error kind is some e) = of_error n error
keeps s n act (VotesNo core w rest wait vote is at un) = adds n _ _ refl refl refl
keeps s n act (VotesYes g rest is all) = adds n _ _ refl refl refl
keeps s n act (VotesFresh g start depth rest is all none) = adds n _ _ refl refl refl
keeps s n act (HelpsAndGives g start depth rest k is all known may) = same n _ refl refl refl
keeps s n act (VotesFinding g start depth rest k is known all) = adds n _ _ refl refl refl
keeps s n act (ReturnsError w rest phase slots error is decided e) = of_error n error
keeps s n act (ReturnsBits flag rest slots is) = same n _ refl refl refl
keeps s n act (Closes g rest slots is) = same n _ refl refl refl
keeps s n act (Creates g start depth rest slots is) = same n _ refl refl refl
keeps s n act (Deletes g stamp rest slots is) = same n _ refl refl refl
