-- The laws of redundancy ask what they say and no less, and a share is what the bytes of all places fold to.
use Rattle.std.proofs.Common.{◌≡◌, refl, sym, ap, ℕ, ◌<◌, Bool, true, false, List, [], ◌∷◌, Option, Some, None, ◌⊎◌, arith, lit≤}
use Rattle.std.specs.Prelude.{if◌then◌else◌, nat_lt}
use Rattle.fx_store.specs.Mirror.{mirror, buddy}
use Rattle.fx_store.specs.Redundancy.{Redundancy, IsSize, IsPayload, RebuildsCovered, RebuildsNothingElse, FoldsWardsAlone, of_wards, share_of}
use Rattle.fx_store.proofs.Uncovered.{leaves_all_uncovered, nobody, nothing, each}

-- whatever the others have, a share is the same
pub share_is_fold : (r : Redundancy) → FoldsWardsAlone r → (n j : ℕ) (bytes : ℕ → List ℕ) → IsSize n → j < n → share_of r n j bytes ≡ r.fold n j bytes
share_is_fold r alone n j bytes size below =
    alone n j (of_wards r n j bytes) bytes size below (λ k is. ap (λ (c : Bool). if c then bytes k else []) is)

-- ---- sizes and payloads

places_32 : IsSize 32
places_32 = (lit≤ tt, lit≤ tt)

not_33 : IsSize 33 → ⊥
not_33 size = omega (arith, size.1)

not_0 : IsSize 0 → ⊥
not_0 size = omega (arith, size.0)

one_byte : IsPayload (7 ∷ [])
one_byte = (lit≤ tt, lit≤ tt)

no_byte : IsPayload [] → ⊥
no_byte payload = omega (arith, payload.0)

-- ---- ways that don't meet the laws

-- a byte is made up where there is no help
abbrev made_up : List ℕ → Option (List ℕ)
made_up [] = Some (0 ∷ [])
made_up (byte ∷ bytes) = Some (byte ∷ bytes)

abbrev making_up : Redundancy
making_up = record (mirror 1) { rebuild = λ n place given. made_up (given (buddy 1 n place)) }

neither : (o : Option (List ℕ)) → o ≡ Some (0 ∷ []) → (o ≡ None) ⊎ (o ≡ Some (1 ∷ [])) → ⊥
neither o is h = grind (arith, is, h)

making_up_is_refused : RebuildsNothingElse making_up → ⊥
making_up_is_refused law =
    neither (Some (0 ∷ [])) refl (law 2 0 (each 1) (λ j. true) nothing (lit≤ tt, lit≤ tt) (lit≤ tt) (λ j below. (lit≤ tt, lit≤ tt)) refl
    (λ j below. sym (nobody (nat_lt j 2) true (making_up.help 2 j 0 (each 1 j) (share_of making_up 2 j (each 1))) refl)))

-- every set counts as covered
abbrev covering_all : Redundancy
covering_all = record (mirror 1) { covers = λ n lost. true }

never_false : true ≡ false → ⊥
never_false e = absurd cc

covering_all_is_refused : RebuildsCovered covering_all → ⊥
covering_all_is_refused law = never_false (leaves_all_uncovered covering_all law 1 (λ j. true) (lit≤ tt, lit≤ tt) (λ j below. refl))
