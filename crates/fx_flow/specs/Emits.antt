-- What is put behind code.
use Rattle.std.specs.Prelude.{◌≡◌, ℕ, List, [], ◌∷◌, ◌++◌, slice_get, Some}
use Rattle.fx_script.specs.declared.job.Picked.{Picked}
use Rattle.fx_script.specs.declared.job.Stmt.{Stmt}
use Rattle.fx_check.specs.Facts.{Facts}
use Rattle.fx_walk.specs.Walk.{is_picked}
use Rattle.fx_flow.specs.declared.instr.Instr.{Instr}
use Rattle.fx_flow.specs.declared.instr.Selection.{Selection}
use Rattle.fx_flow.specs.Code.{Leads}
use Rattle.fx_flow.specs.Outward.{is_selected}

-- code grew, and from one place it now does these statements and comes then to another
pub record Emits (f : Facts) (old new : List Instr) (begin : ℕ) (body : List Stmt) (after : ℕ) : Type 0 where
  pub more : List Instr
  pub grew : new ≡ old ++ more
  pub leads : Leads f new begin body after

-- code was put behind code
abbrev pub Grows : List Instr → List Instr → Type 0
Grows old new = (more : List Instr) × (new ≡ old ++ more)

-- one instruction was put behind code
pub record Puts (old new : List Instr) (place : ℕ) (i : Instr) : Type 0 where
  pub grew : new ≡ old ++ i ∷ []
  pub there : slice_get new place ≡ Some i

-- the same indices
abbrev pub Selects : Picked → Selection → Type 0
Selects picked which = (i : ℕ) → is_picked picked i ≡ is_selected which i
