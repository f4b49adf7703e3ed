-- What is declared under a name.
use Rattle.std.proofs.Common.{◌≡◌, ℕ, Bool, true, false, ◌||◌, if◌then◌else◌, List, [], ◌∷◌, Option, Some, refl}
use Rattle.std.specs.Prelude.{ℤ, is_some}
use Rattle.std.specs.List.{list_any}
use Rattle.std.specs.Str.{bytes_eq}
use Rattle.fx_script.specs.declared.job.Decl.{Decl}
use Rattle.fx_script.specs.declared.job.Decl.TheVariants as decl
use Rattle.fx_check.specs.Facts.{array_in, is_array, is_counter, is_of}

with_array : (b : Bool) (len : ℤ) (rest : Option ℤ) (any counter : Bool) → any ≡ (is_some rest || counter) → (b || any) ≡ (is_some (if b then Some len else rest) || counter)
with_array true len rest any counter e = refl
with_array false len rest any counter e = e

with_counter : (b any array counter : Bool) → any ≡ (array || counter) → (b || any) ≡ (array || (b || counter))
with_counter true any true counter e = refl
with_counter true any false counter e = refl
with_counter false any array counter e = e

-- what is declared is an array or a counter
pub declared_is_value : (names : List Decl) (name : List ℕ) → list_any (is_of name) names ≡ (is_array names name || is_counter names name)
declared_is_value [] name = refl
declared_is_value (decl.Array spot own len ∷ names) name =
    with_array (bytes_eq own name) len (array_in names name) (list_any (is_of name) names) (is_counter names name) (declared_is_value names name)
declared_is_value (decl.Counter spot own ∷ names) name =
    with_counter (bytes_eq own name) (list_any (is_of name) names) (is_array names name) (is_counter names name) (declared_is_value names name)
