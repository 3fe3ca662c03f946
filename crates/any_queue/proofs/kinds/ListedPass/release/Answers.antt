use Rattle.any_queue.proofs.Serving.{serves_last}
use Rattle.any_queue.proofs.kinds.ListedPass.release.Goals as goal

pub returns-clause-serves : goal.returns-clause-serves
returns-clause-serves g c = serves_last c.args.entries.now c.args.self.now c.release.new.pass _ _ c.requires.serves c.release.ensures.serves c.release.ensures.called.1 (λ k same. absurd (cc))
