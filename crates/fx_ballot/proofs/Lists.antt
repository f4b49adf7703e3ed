-- What holds of each message of a list.
use Rattle.std.proofs.Common.{List, [], ◌∷◌, ◌++◌, inl, inr, sym, subst}
use Rattle.fx_ballot.specs.Turn.{Message}
use Rattle.fx_ballot.specs.Laws.{StandsIn}

-- it holds of each
abbrev pub Each : (Message → Type 0) → List Message → Type 0
Each P [] = Unit {0}
Each P (x ∷ xs) = P x × Each P xs

pub each_append : (P : Message → Type 0) (xs ys : List Message) → Each P xs → Each P ys → Each P (xs ++ ys)
each_append P [] ys a b = b
each_append P (x ∷ xs) ys a b = (a.0, each_append P xs ys a.1 b)

pub each_weaken : (P Q : Message → Type 0) → ((x : Message) → P x → Q x) → (xs : List Message) → Each P xs → Each Q xs
each_weaken P Q f [] a = tt
each_weaken P Q f (x ∷ xs) a = (f x a.0, each_weaken P Q f xs a.1)

pub each_in : (P : Message → Type 0) (x : Message) (xs : List Message) → Each P xs → StandsIn x xs → P x
each_in P x [] a h = absurd h
each_in P x (y ∷ ys) a (inl e) = subst P (sym e) a.0
each_in P x (y ∷ ys) a (inr h) = each_in P x ys a.1 h
