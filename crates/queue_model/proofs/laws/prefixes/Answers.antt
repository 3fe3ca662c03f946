use Rattle.queue_model.proofs.Prefixes.{prefix_self, prefix_more, prefix_trans, prefix_shorter, prefix_whole, prefix_length, legal_prefix, own_between, seen_all}
use Rattle.queue_model.proofs.laws.prefixes.Goals as goal

pub returns-clause-itself : goal.returns-clause-itself
returns-clause-itself c = prefix_self

pub returns-clause-more : goal.returns-clause-more
returns-clause-more c = prefix_more

pub returns-clause-trans : goal.returns-clause-trans
returns-clause-trans c = prefix_trans

pub returns-clause-shorter : goal.returns-clause-shorter
returns-clause-shorter c = prefix_shorter

pub returns-clause-whole : goal.returns-clause-whole
returns-clause-whole c = prefix_whole

pub returns-clause-long : goal.returns-clause-long
returns-clause-long c = prefix_length

pub returns-clause-legal : goal.returns-clause-legal
returns-clause-legal c = legal_prefix

pub returns-clause-own_between : goal.returns-clause-own_between
returns-clause-own_between c = own_between

pub returns-clause-seen_all : goal.returns-clause-seen_all
returns-clause-seen_all c = seen_all
