use Rattle.any_queue.proofs.Serving.{serves_last}
use Rattle.any_queue.proofs.kinds.ListedPass.lock.Goals as goal

pub returns-clause-serves : goal.returns-clause-serves
returns-clause-serves g c = serves_last c.args.entries.now c.args.self.now c.lock.new.pass _ _ c.requires.serves c.lock.ensures.serves c.lock.ensures.called (λ k same. absurd (cc))
