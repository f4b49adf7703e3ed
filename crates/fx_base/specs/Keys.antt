-- The orders in which the finite maps keep their keys, and where a key stands among the entries.
use Rattle.std.specs.Prelude.{◌≡◌, ℕ, ℤ, refl, suc, zero, List, [], ◌∷◌}
use Rattle.std.specs.Ordering.{nat_cmp, int_cmp}
use Rattle.std.specs.Cmp.{IsTotalOrder, nat_cmp_total, int_cmp_total}
use Rattle.std.specs.FinMap.{IsAntisymmetric, nat_cmp-IsAntisymmetric, int_cmp-IsAntisymmetric}
use Rattle.std.specs.Coded.{Coded, code_by, coded_ℕ, coded_ℤ}
use Rattle.std.specs.declared.cmp.Ordering.{Ordering}
use Rattle.std.specs.declared.cmp.Ordering.TheVariants.{Less, Equal, Greater}
use Rattle.std.proofs.Common.{ap}
use Rattle.std.proofs.lemmas.Cmp.{on_total}
use Rattle.fx_base.specs.declared.names.MemberId.{MemberId}
use Rattle.fx_base.specs.declared.names.Stamp.{Stamp}

-- members in rising number
abbrev pub by_number : MemberId → MemberId → Ordering
by_number a b = nat_cmp a.0 b.0

-- stamps in rising time
abbrev pub by_time : Stamp → Stamp → Ordering
by_time a b = int_cmp a.0 b.0

-- the key is that of entry `at`, and above the keys of those before
abbrev pub IsPlaceOf : {K X : Type 0} → (K → K → Ordering) → K → List (K × X) → ℕ → Type 0
IsPlaceOf R key [] at = ⊥
IsPlaceOf R key (e ∷ es) zero = R key e.0 ≡ Equal
IsPlaceOf R key (e ∷ es) (suc at) = (R key e.0 ≡ Greater) × IsPlaceOf R key es at

-- the key is above those before `at`, and below the one there, if there is one
abbrev pub IsGapFor : {K X : Type 0} → (K → K → Ordering) → K → List (K × X) → ℕ → Type 0
IsGapFor R key [] at = at ≡ 0
IsGapFor R key (e ∷ es) zero = R key e.0 ≡ Less
IsGapFor R key (e ∷ es) (suc at) = (R key e.0 ≡ Greater) × IsGapFor R key es at

-- where 7 stands, and where 5 would go, between the keys 2 and 7

seven_stands : IsPlaceOf {X = ℕ} nat_cmp 7 ((2, 20) ∷ (7, 70) ∷ []) 1
seven_stands = (refl, refl)

five_would_go : IsGapFor {X = ℕ} nat_cmp 5 ((2, 20) ∷ (7, 70) ∷ []) 1
five_would_go = (refl, refl)

-- a member and a stamp are stored as their numbers

abbrev pub member_code : Coded MemberId
member_code = code_by ℕ coded_ℕ (λ m. m.0) (λ n. record { 0 = n }) (λ _. refl)

abbrev pub stamp_code : Coded Stamp
stamp_code = code_by ℤ coded_ℤ (λ s. s.0) (λ z. record { 0 = z }) (λ _. refl)

-- these orders are total, and only equal keys tie

pub by_number_total : IsTotalOrder by_number
by_number_total = on_total (λ m. m.0) nat_cmp_total

pub by_number_same : IsAntisymmetric by_number
by_number_same a b tie = ap (λ n. record { 0 = n }) (nat_cmp-IsAntisymmetric a.0 b.0 tie)

pub by_time_total : IsTotalOrder by_time
by_time_total = on_total (λ s. s.0) int_cmp_total

pub by_time_same : IsAntisymmetric by_time
by_time_same a b tie = ap (λ z. record { 0 = z }) (int_cmp-IsAntisymmetric a.0 b.0 tie)
