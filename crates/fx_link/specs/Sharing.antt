-- A list whose copies share its room.
use Rattle.std.specs.Prelude.{List, []}
use Rattle.std.specs.declared.option.Option.{Option}
use Rattle.std.specs.declared.option.Option.TheVariants.{None, Some}

-- the items of a list, or none where there is no list
abbrev pub items_in : {T : Type 0} → Option (List T) → List T
items_in None = []
items_in (Some items) = items
