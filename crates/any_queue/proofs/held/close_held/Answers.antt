use Rattle.std.proofs.Common.{map}
use Rattle.acts_core.specs.Rest.{left_of}
use Rattle.acts_core.specs.Sight.{known}
use Rattle.held_table.specs.Sights.{sight}
use Rattle.held_table.specs.Tales.{wide}
use Rattle.any_queue.proofs.HeldParts.{at_rest, keys_fit, rests_narrow}
use Rattle.any_queue.proofs.held.close_held.Goals as goal

pub bare_into_rest-requires : goal.bare_into_rest-requires
bare_into_rest-requires g c =
    record { rest = at_rest (g.Q.BareCore.keeps c.close.result) (known (sight c.args.boss)) c.close.ensures.closed.stands c.requires.last.settled }

pub returns-clause-closed : goal.returns-clause-closed
returns-clause-closed g c =
    let q = known (sight c.args.boss) in
    record {
      rests = rests_narrow g.Q.BareCore.kind_of q (map (left_of g.C.Freight.goods) c.bare_into_rest.result.items) (c.bare_into_rest.ensures.rest (wide q) c.close.ensures.closed.stands);
      callers = c.close.ensures.closed.callers;
    }

pub returns-clause-keys : goal.returns-clause-keys
returns-clause-keys g c = keys_fit g.Q.BareCore.kind_of c.bare_into_rest.result.items g.met.Q.BareCore.is_held
