-- What a process keeps of all that it was sent and told, as the node that it is defined to be has it.
use Rattle.std.specs.Prelude.{◌≡◌, ◌<◌, ◌≤◌, ◌==◌, ◌&&◌, ◌||◌, ℕ, ℤ, Bool, not, nat_le, nat_lt, List, [], map, length, refl, slice_index_or, Option}
use Rattle.std.specs.Coded.{Coded, code_by, coded×, coded_list, coded_ℕ}
use Rattle.std.specs.FinSet as set
use Rattle.std.specs.List.{filter}
use Rattle.std.specs.Ordering.{nat_cmp}
use Rattle.fx_link.specs.contracts.message.Message as message
use Rattle.fx_link.specs.declared.message.Message.{Message}
use Rattle.fx_machine.specs.Messages.{wire_text}
use Rattle.fx_machine.specs.Nodes.{Node}
use Rattle.fx_machine.specs.Reading.{first_read, is_past_at, only, part_in}
use Rattle.fx_machine.specs.Texts.{Text}

-- its own process, of whose loss it was told, and the messages that it keeps of each process, the oldest first; under itself are
-- its own votes and estimates
pub record Kept : Type 0 where
  pub me : ℕ
  pub lost : set.FinSet nat_cmp
  pub messages : List (List Message)

abbrev pub kept_code : Coded Kept
kept_code =
    code_by (ℕ × (set.FinSet nat_cmp × List (List Message))) (coded× coded_ℕ (coded× (set.code coded_ℕ) (coded_list (coded_list message.the_row.coded))))
    (λ box. (box.me, (box.lost, box.messages)))
    (λ p. record { me = p.0; lost = p.1.0; messages = p.1.1 })
    (λ box. refl)

-- from how many processes it keeps messages, itself included
abbrev pub senders : Kept → ℕ
senders box = length box.messages

-- its own process is one of these, of which there are at most 32
abbrev pub IsOfFew : Kept → Type 0
IsOfFew box = (box.me < senders box) × (senders box ≤ 32)

-- what it keeps of one of them
abbrev pub texts_from : Kept → ℕ → List Text
texts_from box q = map wire_text (slice_index_or box.messages q [])

-- the texts that aren't past, for who has come to this call of this epoch
abbrev pub current : (epoch calls : ℕ) → List Text → List Text
current epoch calls texts = filter (λ t. not (is_past_at epoch calls t)) texts

-- It knows what this process of these losses and texts knows. What is past may be forgotten: no later action reads it.
pub record Knows (me epoch calls : ℕ) (lost : ℕ → Bool) (texts : ℕ → List Text) (box : Kept) : Type 0 where
  pub same : box.me ≡ me
  pub told : (q : ℕ) → set.contains box.lost q ≡ lost q
  pub heard : (q : ℕ) → current epoch calls (texts_from box q) ≡ current epoch calls (texts q)

-- it knows what the node knows
abbrev pub IsInboxOf : Node → Kept → Type 0
IsInboxOf n box = Knows n.me n.epoch n.calls n.lost n.texts box

-- who has come to this call of an epoch may go on to that call of that epoch
abbrev pub goes_on : (before calls epoch call : ℕ) → Bool
goes_on before calls epoch call = nat_lt before epoch || ((before == epoch) && nat_le calls call)

-- the first part of this length that was heard of a process in the node's call
abbrev pub part_from : (n : Node) (due who : ℕ) → Option (List ℤ)
part_from n due who = first_read (λ t. only (λ values. length values == due) (part_in n.epoch n.calls t)) (n.texts who)
