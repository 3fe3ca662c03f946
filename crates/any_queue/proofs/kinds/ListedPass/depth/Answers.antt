use Rattle.any_queue.proofs.Serving.{serves_last}
use Rattle.any_queue.proofs.kinds.ListedPass.depth.Goals as goal

pub returns-clause-serves : goal.returns-clause-serves
returns-clause-serves g c = serves_last c.args.entries.now c.args.self.now c.depth.new.pass _ _ c.requires.serves c.depth.ensures.serves c.depth.ensures.called (λ k same. absurd (cc))
