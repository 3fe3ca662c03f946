use Rattle.any_queue.proofs.Serving.{serves_last}
use Rattle.any_queue.proofs.kinds.ListedPass.reserve.Goals as goal

pub returns-clause-serves : goal.returns-clause-serves
returns-clause-serves g c = serves_last c.args.entries.now c.args.self.now c.reserve.new.pass _ _ c.requires.serves c.reserve.ensures.serves c.reserve.ensures.called (λ k same. absurd (cc))
