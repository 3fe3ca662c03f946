use Rattle.any_queue.specs.Kinds.{sight_in}
use Rattle.any_queue.proofs.Sharing.{new_serves}
use Rattle.any_queue.proofs.shared_tests.taker.Goals as goal

pub returns-clause-consumer : goal.returns-clause-consumer
returns-clause-consumer g c =
    new_serves (sight_in c.args.boss.now) (sight_in c.split.new.boss) (sight_in c.split.result) c.args.consumer 0 c.split.ensures.split
