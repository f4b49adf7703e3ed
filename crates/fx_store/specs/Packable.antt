-- That all snapshots of a store can be packed.
use Rattle.std.specs.Prelude.{◌≡◌, Bool, true, ◌&&◌, nat_lt, List}
use Rattle.std.specs.List.{list_all}
use Rattle.std.specs.FinMap.{entries}
use Rattle.fx_base.specs.declared.sparse.Sparse.{Sparse}
use Rattle.fx_store.specs.Packed.{has_spelling, is_element}
use Rattle.fx_store.specs.Store.{Store, Stamped}

-- indices below 256 and elements of 64 bits
abbrev pub elements_fit : Sparse → Bool
elements_fit elements = list_all (λ entry. nat_lt entry.0 256 && is_element entry.1) (entries elements)

-- each snapshot of the list has a spelling
abbrev pub have_spellings : List Stamped → Bool
have_spellings snapshots = list_all (λ e. has_spelling e.1) snapshots

-- what is pending, what is tentative and what is kept have spellings
pub record IsPackable (s : Store) : Type 0 where
  pub pending : has_spelling s.pending ≡ true
  pub tentative : have_spellings s.tentative ≡ true
  pub kept : have_spellings s.kept ≡ true
