-- What the definitions of the links say of one link.
use Rattle.std.proofs.Common.{◌≡◌, ℕ, ◌<◌, Bool, true, false, cond, List, [], ◌∷◌, ◌++◌, length, replicate, slice_set, slice_index_or, inl, inr, refl, sym, ap, ◌∙◌, arith}
use Rattle.std.proofs.lemmas.List.{length-set, get_or-replicate, get_or_past, get_or-set_same, get_or-set_other, length-replicate}
use Rattle.std.proofs.lemmas.List.Elements.{All-set}
use Rattle.std.proofs.Math.ListN.{get_or-map}
use Rattle.std.proofs.lemmas.Bool.{cases_eq, cases_lt}
use Rattle.fx_link.specs.declared.message.Message.{Message}
use Rattle.fx_link.specs.LinkTable.{LinkTable, IsTable, procs_of, link_of, is_closed, with_link, no_links, sent, closed_to}

module _ (links : LinkTable) (table : IsTable links) (from to : ℕ) (from_within : from < procs_of links) (to_within : to < procs_of links) where
  row_within : from < length links.rows
  row_within = omega (arith, table.0)

  row_length : length (slice_index_or links.rows from []) ≡ procs_of links
  row_length = table.1 from [] row_within

  -- what is put on a link is on it
  pub link_here : (messages : List Message) → link_of (with_link links from to messages) from to ≡ messages
  link_here messages =
      let column_within : to < length (slice_index_or links.rows from []) = omega (arith, row_length) in
      rw (get_or-set_same links.rows from (slice_set (slice_index_or links.rows from []) to messages) [] row_within)
      (get_or-set_same (slice_index_or links.rows from []) to messages [] column_within)

  -- and on no other
  pub link_elsewhere : (messages : List Message) (a b : ℕ) → (a ≡ from → b ≡ to → ⊥) → link_of (with_link links from to messages) a b ≡ link_of links a b
  link_elsewhere messages a b apart = elim (cases_eq a from) [
    | inl same ↦
        rw (same, get_or-set_same links.rows from (slice_set (slice_index_or links.rows from []) to messages) [] row_within)
        (get_or-set_other (slice_index_or links.rows from []) to b messages [] (apart same))
    | inr other ↦
        ap (λ row. slice_index_or row b []) (get_or-set_other links.rows from a (slice_set (slice_index_or links.rows from []) to messages) [] other)
  ]

  pub with_link_table : (messages : List Message) → IsTable (with_link links from to messages)
  with_link_table messages = (
    length-set links.rows from (slice_set (slice_index_or links.rows from []) to messages) ∙ table.0,
    All-set (λ row. length row ≡ procs_of links) links.rows from (slice_set (slice_index_or links.rows from []) to messages)
        (length-set (slice_index_or links.rows from []) to messages ∙ row_length) table.1,
  )

  pub sent_table : (message : Message) → IsTable (sent links from to message)
  sent_table message = go (is_closed links to)
    where
      go : (b : Bool) → IsTable (cond b links (with_link links from to (link_of links from to ++ message ∷ [])))
      go true = table
      go false = with_link_table (link_of links from to ++ message ∷ [])

  -- ---- after a receiver was closed

  emptied_row : (a : ℕ) → slice_index_or (closed_to links to).rows a [] ≡ slice_set (slice_index_or links.rows a []) to []
  emptied_row a = get_or-map (λ row. slice_set row to []) links.rows a []

  pub closed_here : link_of (closed_to links to) from to ≡ []
  closed_here =
      let column_within : to < length (slice_index_or links.rows from []) = omega (arith, row_length) in
      rw (emptied_row from) (get_or-set_same (slice_index_or links.rows from []) to [] [] column_within)

  pub closed_elsewhere : (a b : ℕ) → (b ≡ to → ⊥) → link_of (closed_to links to) a b ≡ link_of links a b
  closed_elsewhere a b apart = rw (emptied_row a) (get_or-set_other (slice_index_or links.rows a []) to b [] [] apart)

-- ---- who is closed

pub closed_itself : (links : LinkTable) (to : ℕ) → to < procs_of links → is_closed (closed_to links to) to ≡ true
closed_itself links to within = get_or-set_same links.closed to true false within

pub closed_other : (links : LinkTable) (to who : ℕ) → (who ≡ to → ⊥) → is_closed (closed_to links to) who ≡ is_closed links who
closed_other links to who apart = get_or-set_other links.closed to who true false apart

pub sent_closed : (links : LinkTable) (from to : ℕ) (message : Message) (who : ℕ) → is_closed (sent links from to message) who ≡ is_closed links who
sent_closed links from to message who = go (is_closed links to)
  where
    go : (b : Bool) → is_closed (cond b links (with_link links from to (link_of links from to ++ message ∷ []))) who ≡ is_closed links who
    go true = refl
    go false = refl

pub none_closed : (procs who : ℕ) → is_closed (no_links procs) who ≡ false
none_closed procs who = elim (cases_lt who procs) [
  | inl within ↦ get_or-replicate procs who false false within
  | inr past ↦ get_or_past (replicate procs false) who false (omega (arith, length-replicate procs false))
]

pub sent_processes : (links : LinkTable) (from to : ℕ) (message : Message) → procs_of (sent links from to message) ≡ procs_of links
sent_processes links from to message = go (is_closed links to)
  where
    go : (b : Bool) → procs_of (cond b links (with_link links from to (link_of links from to ++ message ∷ []))) ≡ procs_of links
    go true = refl
    go false = refl

-- ---- at first

pub no_links_table : (procs : ℕ) → IsTable (no_links procs)
no_links_table procs = (
  length-replicate procs (replicate procs []) ∙ sym (length-replicate procs false),
  λ k d below.
      let within : k < procs = rw length-replicate at below in
      rw (get_or-replicate procs k (replicate procs []) d within) (length-replicate procs [] ∙ sym (length-replicate procs false)),
)

pub no_links_none : (procs from to : ℕ) → from < procs → to < procs → link_of (no_links procs) from to ≡ []
no_links_none procs from to from_within to_within =
    let row : List (List Message) = replicate procs [] in
    rw (get_or-replicate procs from row [] from_within) (get_or-replicate procs to [] [] to_within)
