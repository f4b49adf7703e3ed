-- What the code's answers say of a reading.
use Rattle.std.specs.Prelude.{◌≡◌, Bool, true, Option, Some, None, Result, Ok, Err}
use Rattle.std.specs.Ordering.{is_lt}
use Rattle.fx_base.specs.Keys.{by_time}
use Rattle.fx_base.specs.declared.names.Stamp.{Stamp}
use Rattle.fx_lines.specs.declared.fault.ItemFault.{ItemFault}
use Rattle.fx_trace.specs.declared.read.ReadItem.{ReadItem}
use Rattle.fx_trace.specs.declared.read.ReadItem.TheVariants as read_item

-- the answer is what the reading gives, or memory ran out
abbrev pub Gives : {A : Type 0} → Result A ReadItem → Result A ItemFault → Type 0
Gives (Ok a) reading = reading ≡ Ok a
Gives (Err read_item.NoMemory) reading = Unit {0}
Gives (Err (read_item.Refused fault)) reading = reading ≡ Err fault

-- a stamp later than the last one, if there is one
abbrev pub is_later : Option Stamp → Stamp → Bool
is_later None stamp = true
is_later (Some last) stamp = is_lt (by_time last stamp)
