use Rattle.std.proofs.Common.{List, [], ◌++◌, map, reverse, sym, ap, ◌∙◌, subst, append_assoc}
use Rattle.line_core.specs.Fits.{unlock_of, unlocks}
use Rattle.line_core.specs.Hands.{Hand}
use Rattle.workers_core.specs.Held.{hand_of, hands_of}
use Rattle.workers_core.specs.Ready.{Holds}
use Rattle.workers_core.specs.declared.held.Kept.{Kept}
use Rattle.workers_core.proofs.Leaves.{back, last_first, ran_nothing}
use Rattle.workers_core.proofs.Steps.{runs_append}
use Rattle.workers_core.proofs.leaving.leave_all.Goals as goal

pub leaving-init : goal.leaving-init
leaving-init g c =
    let turned = back c.args.held.now.items c.reverse.new.self.items c.reverse.ensures.items in
    record {
      as_many = c.requires.as_many;
      serve = c.requires.serve;
      holds = subst (Holds (map g.Q.SharedQueue.sight c.args.passes.now.items)) turned c.requires.holds;
      dids = [];
      ran = ran_nothing (map g.Q.SharedQueue.build c.args.queues.now) (map g.Q.SharedQueue.sight c.args.passes.now.items);
      rest = ap unlocks turned;
    }

pub leaving-preserved : goal.leaving-preserved
leaving-preserved g c =
    let i = c.leaving.invariant in
    let sight = g.Q.SharedQueue.sight in
    let left = c.pop.new.self.items in
    let k : Hand = hand_of c.in-Some.kept in
    let first = ap (λ (ks : List Kept). reverse (hands_of ks)) c.in-Some.ensures.items ∙ last_first left c.in-Some.kept in
    record {
      as_many = i.as_many ∙ sym c.leave_one.ensures.as_many;
      serve = c.leave_one.ensures.serve;
      holds = c.leave_one.ensures.holds (reverse (hands_of left)) (subst (Holds (map sight c.leaving.passes.items)) first i.holds);
      dids = i.dids ++ unlock_of k k.cargo;
      ran = runs_append (map g.Q.SharedQueue.build c.args.queues.now) (map sight c.args.passes.now.items) (map sight c.leaving.passes.items) (map sight c.leave_one.new.passes.items) i.dids (unlock_of k k.cargo) i.ran c.leave_one.ensures.ran;
      rest = i.rest ∙ ap (λ (ks : List Hand). i.dids ++ unlocks ks) first ∙ sym (append_assoc i.dids (unlock_of k k.cargo) (unlocks (reverse (hands_of left))));
    }
