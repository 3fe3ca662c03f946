use Rattle.any_queue.proofs.Serving.{serves_last}
use Rattle.any_queue.proofs.kinds.ListedPass.find.Goals as goal

pub returns-clause-serves : goal.returns-clause-serves
returns-clause-serves g c = serves_last c.args.entries.now c.args.self.now c.find.new.pass _ _ c.requires.serves c.find.ensures.serves c.find.ensures.called (λ k same. absurd (cc))
