use Rattle.implib.proofs.Theorems.{opens, finds, members_open}
use Rattle.implib.proofs.laws.names_are_found_in_their_library.Goals as goal

pub returns-clause-opens : goal.returns-clause-opens
returns-clause-opens c = opens

pub returns-clause-found : goal.returns-clause-found
returns-clause-found c = finds

pub returns-clause-members : goal.returns-clause-members
returns-clause-members c = members_open
