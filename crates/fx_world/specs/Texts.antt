-- The lines of items, and which items are shown.
use Rattle.std.specs.Prelude.{◌≡◌, ℕ, Bool, true, false, ◌&&◌, ◌==◌, List, [], ◌∷◌, ◌++◌, refl}
use Rattle.std.specs.List.{filter}
use Rattle.fx_base.specs.declared.names.Proc.{Proc}
use Rattle.fx_fleet.specs.Rounds.{is_of_journal}
use Rattle.fx_item.specs.declared.item.Item.{Item}
use Rattle.fx_item.specs.declared.item.Item.TheVariants as item
use Rattle.fx_lines.specs.Items.{line_of}
use Rattle.fx_world.specs.declared.shown.Shown.{Shown}
use Rattle.fx_world.specs.declared.shown.Shown.TheVariants as shown

-- an item's line with its line end
abbrev pub ended_line : Item → List ℕ
ended_line item = line_of item ++ (10 ∷ [])

-- the lines of items, one after another
abbrev pub text_of : List Item → List ℕ
text_of [] = []
text_of (item ∷ items) = ended_line item ++ text_of items

-- the process that an item's line names first
abbrev pub process_of : Item → Proc
process_of (item.Kill p) = p
process_of (item.Join p e kind) = p
process_of (item.Repaired p e size warn list) = p
process_of (item.Callback p e name) = p
process_of (item.Init p e role id rank size warn) = p
process_of (item.Print p e name list) = p
process_of (item.Attach p e g m) = p
process_of (item.Store p e g m list) = p
process_of (item.Commit p e g t) = p
process_of (item.Restore p e g m t list) = p
process_of (item.Refused p e statement g m t answer) = p
process_of (item.Barrier p e k) = p
process_of (item.Reduce p e k op n) = p
process_of (item.Agree p e k n) = p
process_of (item.Shift p e k d list) = p
process_of (item.Group p e k g) = p
process_of (item.Close p e k g) = p
process_of (item.Drop p e k g t) = p
process_of (item.Passed p e k) = p
process_of (item.Value p e k n) = p
process_of (item.Shifted p e k list) = p
process_of (item.Created p e k g how list) = p
process_of (item.Closed p e k g t) = p
process_of (item.Failed p e k x) = p
process_of (item.Revoked p e k x) = p
process_of (item.Ended p) = p
process_of (item.Send p q message) = p
process_of (item.Deliver p q message) = p
process_of (item.Told p q) = p

-- the journal, all items, those of the journal whose lines name a process first, or none
abbrev pub is_shown : Shown → Item → Bool
is_shown shown.Journal i = is_of_journal i
is_shown shown.Wire i = true
is_shown (shown.Only p) i = is_of_journal i && ((process_of i).0 == p.0)
is_shown shown.Nothing i = false

-- the text of those items that are shown
abbrev pub shown_text : Shown → List Item → List ℕ
shown_text shown items = text_of (filter (is_shown shown) items)

-- a notice stands in no journal
no_notice : (p q : Proc) → shown_text shown.Journal (item.Told p q ∷ item.Ended q ∷ []) ≡ ended_line (item.Ended q) ++ []
no_notice p q = refl
