use Rattle.std.proofs.Common.{[]}
use Rattle.fx_link.specs.LinkTable.{link_of, rest_of}
use Rattle.fx_link.proofs.LinkFacts.{link_here, link_elsewhere}
use Rattle.fx_link.proofs.laws.one_link_is_taken_from.Goals as goal

pub returns-clause-this : goal.returns-clause-this
returns-clause-this c = λ links from to table from_within to_within.
    link_here links table from to from_within to_within (rest_of (link_of links from to))

pub returns-clause-others : goal.returns-clause-others
returns-clause-others c = λ links from to a b table from_within to_within apart.
    link_elsewhere links table from to from_within to_within (rest_of (link_of links from to)) a b apart

pub returns-clause-emptied : goal.returns-clause-emptied
returns-clause-emptied c = λ links from to table from_within to_within.
    link_here links table from to from_within to_within []

pub returns-clause-others_when_emptied : goal.returns-clause-others_when_emptied
returns-clause-others_when_emptied c = λ links from to a b table from_within to_within apart.
    link_elsewhere links table from to from_within to_within [] a b apart
