-- Tables of links keep their shape.
use Rattle.std.proofs.Common.{ℕ, ◌<◌, Bool, true, List, [], length, map, slice_set, slice_index_or, All, sym, ◌∙◌, arith}
use Rattle.std.proofs.lemmas.List.{length-map, length-set, get_or_default}
use Rattle.std.proofs.Math.ListN.{get_or-map}
use Rattle.fx_link.specs.declared.message.Message.{Message}
use Rattle.fx_link.specs.LinkTable.{IsTable}

-- each row has a link to each receiver
pub reaches : (rows : List (List (List Message))) (closed : List Bool) (to : ℕ) → IsTable (record { rows = rows; closed = closed }) → to < length closed → All (λ row. to < length row) rows
reaches rows closed to table within k d below = let row = table.1 k d below in omega arith

pub still_table : (rows : List (List (List Message))) (closed : List Bool) (to : ℕ) → IsTable (record { rows = rows; closed = closed }) → IsTable (record { rows = map (λ row. slice_set row to []) rows; closed = slice_set closed to true })
still_table rows closed to table =
    let emptied : List (List Message) → List (List Message) = λ row. slice_set row to [] in (
      length-map rows emptied ∙ table.0 ∙ sym (length-set closed to true),
      λ k d below.
          let within : k < length rows = rw length-map at below in
          rw (get_or_default (map emptied rows) k d (emptied []) below, get_or-map emptied rows k [], length-set (slice_index_or rows k []) to [], length-set closed to true) (table.1 k [] within),
    )
