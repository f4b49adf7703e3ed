-- What is kept of a world, as plain data.
use Rattle.std.specs.Prelude.{ℕ, Bool, List, Option, refl}
use Rattle.std.specs.Coded.{Coded, code_by, coded×, coded_bool, coded_list, coded_option, coded_ℕ}
use Rattle.fx_link.specs.LinkTable.{LinkTable, table_code}
use Rattle.fx_link.specs.contracts.message.Message as message
use Rattle.fx_node.specs.Codes.{standing_code}
use Rattle.fx_node.specs.Standing.{Standing}
use Rattle.fx_world.specs.contracts.counts.Counts as the_counts
use Rattle.fx_world.specs.declared.counts.Counts.{Counts}
use Rattle.fx_world.specs.Standings.{Standings}

-- its parts one after another
abbrev pub standings_code : Coded Standings
standings_code =
    code_by ((ℕ × ℕ) × ((List (Option Standing) × LinkTable) × (Counts × Bool)))
    (coded× (coded× coded_ℕ coded_ℕ) (coded× (coded× (coded_list (coded_option standing_code)) (table_code message.the_row.coded)) (coded× the_counts.the_row.coded coded_bool)))
    (λ c. ((c.procs, c.fuel), ((c.posts, c.links), (c.counts, c.failed))))
    (λ p. record { procs = p.0.0; fuel = p.0.1; posts = p.1.0.0; links = p.1.0.1; counts = p.1.1.0; failed = p.1.1.1 })
    (λ c. refl)
