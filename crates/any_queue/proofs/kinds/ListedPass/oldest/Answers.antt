use Rattle.any_queue.proofs.Serving.{serves_last}
use Rattle.any_queue.proofs.kinds.ListedPass.oldest.Goals as goal

pub returns-clause-serves : goal.returns-clause-serves
returns-clause-serves g c = serves_last c.args.entries.now c.args.self.now c.oldest.new.pass _ _ c.requires.serves c.oldest.ensures.serves c.oldest.ensures.called.1 (λ k same. absurd (cc))
