-- Links as one list for each ordered pair of processes.
use Rattle.std.specs.Prelude.{◌≡◌, ℕ, Bool, true, false, cond, List, [], ◌∷◌, ◌++◌, map, length, replicate, slice_index_or, slice_set, All, refl}
use Rattle.std.specs.declared.option.Option.{Option}
use Rattle.std.specs.declared.option.Option.TheVariants.{None, Some}
use Rattle.std.specs.Coded.{Coded, code_by, coded×, coded_list, coded_bool}
use Rattle.fx_link.specs.declared.message.Message.{Message}
use Rattle.fx_link.specs.declared.message.Message.TheVariants.{Join}
use Rattle.fx_link.specs.declared.slot.Slot.TheVariants.{Start, Final}

-- what is on the way: row by sender, column by receiver, the oldest message first; and which receivers are closed
pub record LinkTable : Type 0 where
  pub rows : List (List (List Message))
  pub closed : List Bool

-- a table is stored as the pair of its fields
abbrev pub table_code : Coded Message → Coded LinkTable
table_code message =
    code_by (List (List (List Message)) × List Bool) (coded× (coded_list (coded_list (coded_list message))) (coded_list coded_bool)) (λ t. (t.rows, t.closed)) (λ p. record { rows = p.0; closed = p.1 }) (λ _. refl)

-- the number of processes
abbrev pub procs_of : LinkTable → ℕ
procs_of links = length links.closed

-- what is on the way from one process to another
abbrev pub link_of : LinkTable → ℕ → ℕ → List Message
link_of links from to = slice_index_or (slice_index_or links.rows from []) to []

-- whether sends to the process vanish
abbrev pub is_closed : LinkTable → ℕ → Bool
is_closed links to = slice_index_or links.closed to false

-- a row for each process, with a link to each
abbrev pub IsTable : LinkTable → Type 0
IsTable links = (length links.rows ≡ length links.closed) × All (λ row. length row ≡ length links.closed) links.rows

-- the same links, but for that of one pair
abbrev pub with_link : LinkTable → ℕ → ℕ → List Message → LinkTable
with_link links from to messages = record {
  rows = slice_set links.rows from (slice_set (slice_index_or links.rows from []) to messages);
  closed = links.closed;
}

-- no message is on the way, and no process is closed
abbrev pub no_links : ℕ → LinkTable
no_links procs = record { rows = replicate procs (replicate procs []); closed = replicate procs false }

-- the message is the last of its link, or vanishes where the receiver is closed
abbrev pub sent : LinkTable → ℕ → ℕ → Message → LinkTable
sent links from to message = cond (is_closed links to) links (with_link links from to (link_of links from to ++ message ∷ []))

-- the oldest of some messages
abbrev pub first_of : List Message → Option Message
first_of [] = None
first_of (message ∷ rest) = Some message

-- the others
abbrev pub rest_of : List Message → List Message
rest_of [] = []
rest_of (message ∷ rest) = rest

-- the oldest message of a link is taken
abbrev pub taken : LinkTable → ℕ → ℕ → LinkTable
taken links from to = with_link links from to (rest_of (link_of links from to))

-- one link is emptied
abbrev pub emptied : LinkTable → ℕ → ℕ → LinkTable
emptied links from to = with_link links from to []

-- all links to the process are emptied, and later sends to it vanish
abbrev pub closed_to : LinkTable → ℕ → LinkTable
closed_to links to = record {
  rows = map (λ row. slice_set row to []) links.rows;
  closed = slice_set links.closed to true;
}

-- two messages of three processes, and what is left after one is taken, and after the receiver is closed

abbrev first_join : Message
first_join = Join (record { 0 = 1 }) Start

abbrev second_join : Message
second_join = Join (record { 0 = 2 }) Final

abbrev two_sent : LinkTable
two_sent = sent (sent (no_links 3) 0 1 first_join) 0 1 second_join

in_order : link_of two_sent 0 1 ≡ first_join ∷ second_join ∷ []
in_order = refl

one_taken : link_of (taken two_sent 0 1) 0 1 ≡ second_join ∷ []
one_taken = refl

vanishes : link_of (sent (closed_to two_sent 1) 0 1 first_join) 0 1 ≡ []
vanishes = refl
