use Rattle.queue_model.proofs.Histories.{after-append, legal-append, legal_front, legal_rest, own-append, own-mine, own-other}
use Rattle.queue_model.proofs.laws.histories.Goals as goal

pub returns-clause-after_append : goal.returns-clause-after_append
returns-clause-after_append c = after-append

pub returns-clause-legal_append : goal.returns-clause-legal_append
returns-clause-legal_append c = legal-append

pub returns-clause-legal_front : goal.returns-clause-legal_front
returns-clause-legal_front c = legal_front

pub returns-clause-legal_rest : goal.returns-clause-legal_rest
returns-clause-legal_rest c = legal_rest

pub returns-clause-own_append : goal.returns-clause-own_append
returns-clause-own_append c = own-append

pub returns-clause-own_mine : goal.returns-clause-own_mine
returns-clause-own_mine c = own-mine

pub returns-clause-own_other : goal.returns-clause-own_other
returns-clause-own_other c = own-other
