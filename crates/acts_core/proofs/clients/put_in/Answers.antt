use Rattle.acts_core.specs.Replies.{of_put}
use Rattle.acts_core.proofs.Running.{put_may, puts_in}
use Rattle.acts_core.proofs.clients.put_in.Goals as goal

pub put-requires-clause-may : goal.put-requires-clause-may
put-requires-clause-may g c =
    let sight = g.Q.SharedQueue.sight in
    let laws = g.met.Q.SharedQueue g.world.𝓛 g.world.𝓜 g.world.𝓡 ((λ s x. x), (λ x. x), (λ x. x), λ x. x) in
    let opens = laws.opens c.args.queue.now c.args.pass.now c.requires.serves in
    put_may (g.Q.SharedQueue.build c.args.queue.now) (sight c.args.pass.now) (sight c.reserve.new.pass) c.args.slip (g.C.Cargo.load c.args.cargo) c.reserve.result
    opens.opening c.reserve.ensures.called c.requires.fits c.requires.key c.requires.id c.requires.size

pub returns-clause-puts : goal.returns-clause-puts
returns-clause-puts g c =
    let sight = g.Q.SharedQueue.sight in
    let load = g.C.Cargo.load in
    puts_in (g.Q.SharedQueue.build c.args.queue.now) (sight c.args.pass.now) (sight c.reserve.new.pass) (sight c.put.new.pass) c.args.slip (load c.args.cargo) c.reserve.result
    (of_put load c.put.result) c.reserve.ensures.called c.put.ensures.called
