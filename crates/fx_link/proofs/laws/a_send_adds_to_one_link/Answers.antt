use Rattle.std.proofs.Common.{true, false, cond, ◌≡◌, ◌++◌, ◌∷◌, [], refl}
use Rattle.fx_link.specs.LinkTable.{link_of, with_link, is_closed}
use Rattle.fx_link.proofs.LinkFacts.{link_here, link_elsewhere}
use Rattle.fx_link.proofs.laws.a_send_adds_to_one_link.Goals as goal

pub returns-clause-this : goal.returns-clause-this
returns-clause-this c = λ links from to message table from_within to_within is_open.
    rw is_open (link_here links table from to from_within to_within (link_of links from to ++ message ∷ []))

pub returns-clause-others : goal.returns-clause-others
returns-clause-others c = λ links from to message a b table from_within to_within apart.
    elim (is_closed links to) as (λ closed. link_of (cond closed links (with_link links from to (link_of links from to ++ message ∷ []))) a b ≡ link_of links a b) [
      | true ↦ refl
      | false ↦ link_elsewhere links table from to from_within to_within (link_of links from to ++ message ∷ []) a b apart
    ]
