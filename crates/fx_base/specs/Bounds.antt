-- How far the members and the indices of a snapshot go.
use Rattle.std.specs.Prelude.{◌≡◌, ℕ, ℤ, ◌<◌, Some}
use Rattle.std.specs.Ordering.{nat_cmp}
use Rattle.std.specs.FinMap.{FinMap, get}
use Rattle.fx_base.specs.Keys.{by_number}
use Rattle.fx_base.specs.declared.names.MemberId.{MemberId}

-- each index is below 256
abbrev pub HasIndicesBelow256 : FinMap nat_cmp ℤ → Type 0
HasIndicesBelow256 held = (index : ℕ) (element : ℤ) → get held index ≡ Some element → index < 256

-- each member is below 8, and each of its indices below 256
abbrev pub IsBounded : FinMap by_number (FinMap nat_cmp ℤ) → Type 0
IsBounded snapshot =
    (member : MemberId) (held : FinMap nat_cmp ℤ) → get snapshot member ≡ Some held → (member.0 < 8) × HasIndicesBelow256 held
