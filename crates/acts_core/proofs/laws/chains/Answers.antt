use Rattle.acts_core.proofs.Chaining.{chain_later, chain_append, chain_one, chain_own, chain_grows, one_history}
use Rattle.acts_core.proofs.laws.chains.Goals as goal

pub returns-clause-later : goal.returns-clause-later
returns-clause-later c = chain_later

pub returns-clause-append : goal.returns-clause-append
returns-clause-append c = chain_append

pub returns-clause-one : goal.returns-clause-one
returns-clause-one c = chain_one

pub returns-clause-own : goal.returns-clause-own
returns-clause-own c = chain_own

pub returns-clause-grows : goal.returns-clause-grows
returns-clause-grows c = chain_grows

pub returns-clause-whole : goal.returns-clause-whole
returns-clause-whole c = one_history
