use Rattle.any_queue.specs.Kinds.{build_in, sight_in}
use Rattle.any_queue.proofs.Sharing.{fits_two, none_fits}
use Rattle.any_queue.proofs.shared_tests.put_one.Goals as goal

pub put_in-requires-clause-fits : goal.put_in-requires-clause-fits
put_in-requires-clause-fits g c κs within =
    let w = c.wanted-slip.ensures in
    fits_two (sight_in c.args.pass.now) _ c.requires.lists c.requires.consumers w.size w.mask w.list

pub put_in-requires-clause-key : goal.put_in-requires-clause-key
put_in-requires-clause-key g c κs within = none_fits (build_in c.args.queue.now).kind _ c.wanted-slip.ensures.key
