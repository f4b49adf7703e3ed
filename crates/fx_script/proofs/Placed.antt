-- Lines as they stand in a text that has no others: line after line, from the first column.
use Rattle.std.proofs.Common.{ℕ, ◌+◌, List, [], ◌∷◌, Option, Some, None}
use Rattle.fx_base.specs.declared.spot.Spot.{Spot}
use Rattle.fx_script.specs.Spelling.{Entry}

-- the spot of the line of this number, where the job keeps it
abbrev pub spot_at : ℕ → Option Spot → Option Spot
spot_at n None = None
spot_at n (Some spot) = Some (record { line = n; column = 1 })

abbrev pub placed : ℕ → Entry → Entry
placed n e = record { spot = spot_at n e.spot; words = e.words }

-- lines from this number on
abbrev pub placed_from : ℕ → List Entry → List Entry
placed_from n [] = []
placed_from n (e ∷ es) = placed n e ∷ placed_from (n + 1) es
