use Rattle.defs_read.specs.Defined.{queues_in}
use Rattle.resume_core.proofs.Deals.{deals_more}
use Rattle.resume_core.proofs.dealing.deal.Goals as goal

pub entries-preserved : goal.entries-preserved
entries-preserved c =
    deals_more (queues_in c.args.defs.now) c.args.live c.entries.rest c.pop.new.self c.in-Some.entry c.entries.lists.items c.deal_one.new.lists.items c.in-Some.ensures c.in_ok-deal_one.ensures c.entries.invariant
