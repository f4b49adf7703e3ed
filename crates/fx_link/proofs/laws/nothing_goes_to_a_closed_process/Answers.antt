use Rattle.fx_link.proofs.LinkFacts.{closed_here, closed_elsewhere, closed_itself}
use Rattle.fx_link.proofs.laws.nothing_goes_to_a_closed_process.Goals as goal

pub returns-clause-closed : goal.returns-clause-closed
returns-clause-closed c = λ links from to table from_within to_within. closed_here links table from to from_within to_within

pub returns-clause-later : goal.returns-clause-later
returns-clause-later c = λ links from to message table from_within to_within.
    rw (closed_itself links to to_within) (closed_here links table from to from_within to_within)

pub returns-clause-others : goal.returns-clause-others
returns-clause-others c = λ links from to a b table from_within to_within apart. closed_elsewhere links table from to from_within to_within a b apart
