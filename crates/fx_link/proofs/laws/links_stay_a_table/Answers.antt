use Rattle.std.proofs.Common.{[]}
use Rattle.fx_link.specs.LinkTable.{link_of, rest_of}
use Rattle.fx_link.proofs.LinkFacts.{no_links_table, sent_table, with_link_table}
use Rattle.fx_link.proofs.Tables.{still_table}
use Rattle.fx_link.proofs.laws.links_stay_a_table.Goals as goal

pub returns-clause-new : goal.returns-clause-new
returns-clause-new c = no_links_table

pub returns-clause-sent : goal.returns-clause-sent
returns-clause-sent c = λ links from to message table from_within to_within. sent_table links table from to from_within to_within message

pub returns-clause-taken : goal.returns-clause-taken
returns-clause-taken c = λ links from to table from_within to_within.
    with_link_table links table from to from_within to_within (rest_of (link_of links from to))

pub returns-clause-emptied : goal.returns-clause-emptied
returns-clause-emptied c = λ links from to table from_within to_within. with_link_table links table from to from_within to_within []

pub returns-clause-closed : goal.returns-clause-closed
returns-clause-closed c = λ links to table. still_table links.rows links.closed to table
