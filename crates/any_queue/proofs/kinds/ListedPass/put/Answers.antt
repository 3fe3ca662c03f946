use Rattle.any_queue.proofs.Serving.{serves_last}
use Rattle.any_queue.proofs.kinds.ListedPass.put.Goals as goal

pub returns-clause-serves : goal.returns-clause-serves
returns-clause-serves g c = serves_last c.args.entries.now c.args.self.now c.enqueue.new.pass _ _ c.requires.serves c.enqueue.ensures.serves c.enqueue.ensures.called (λ k same. absurd (cc))
