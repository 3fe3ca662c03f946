use Rattle.any_queue.proofs.Serving.{serves_last}
use Rattle.any_queue.proofs.kinds.ListedPass.give_back.Goals as goal

pub returns-clause-serves : goal.returns-clause-serves
returns-clause-serves g c = serves_last c.args.entries.now c.args.self.now c.give_back.new.pass _ _ c.requires.serves c.give_back.ensures.serves c.give_back.ensures.called (λ k same. absurd (cc))
