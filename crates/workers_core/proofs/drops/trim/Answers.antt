use Rattle.std.proofs.Common.{◌≡◌, ◌≤◌, ◌+◌, length, refl, ap, ◌∙◌, arith}
use Rattle.std.proofs.lemmas.List.{length-append}
use Rattle.txn_core.specs.Parcels.{load_of}
use Rattle.workers_core.specs.Drops.{left_to}
use Rattle.workers_core.specs.Held.{hands_of}
use Rattle.workers_core.proofs.Dropping.{fits_hold, nothing_hold, others_then, over_hold, trim_fits, trim_more, trim_nothing, trim_start, trims_left}
use Rattle.workers_core.proofs.Holds.{others_same}
use Rattle.workers_core.proofs.drops.trim.Goals as goal

pub drop_entry-requires-clause-hold : goal.drop_entry-requires-clause-hold
drop_entry-requires-clause-hold g c κs within =
    let sight = g.Q.SharedQueue.sight in
    let t = c.in-Over.ensures.trimmed in
    over_hold (g.Q.SharedQueue.build c.args.queue.now) (sight c.trimming.pass) (sight c.trim_ring.new.pass) c.args.limits.now c.args.number c.in-Over.row t.0 (load_of c.in-Over.cargo) (hands_of c.trimming.held.items) t.1 c.trimming.invariant.hold

pub trimming-init : goal.trimming-init
trimming-init g c = record {
  serves = c.requires.serves;
  hold = c.requires.hold;
  others = others_same c.args.number (hands_of c.args.held.now.items);
  did = trim_start (g.Q.SharedQueue.build c.args.queue.now) c.args.limits.now c.args.number (g.Q.SharedQueue.sight c.args.pass.now) (hands_of c.args.held.now.items) c.args.drops.now.items;
  room = c.requires.room;
  fewer = omega arith;
  held = refl;
  drops = refl;
}

pub trimming-preserved : goal.trimming-preserved
trimming-preserved g c =
    let i = c.trimming.invariant in
    let sight = g.Q.SharedQueue.sight in
    let build = g.Q.SharedQueue.build c.args.queue.now in
    let t = c.in-Over.ensures.trimmed in
    let d = c.drop_entry.ensures.did in
    let now : left_to build (sight c.trim_ring.new.pass) ≤ left_to build (sight c.trimming.pass) = trims_left build (sight c.trimming.pass) (sight c.trim_ring.new.pass) c.args.limits.now _ t.1 in
    let one : length d.own ≡ 1 = ap length d.fact.1 in
    let more : length c.drop_entry.new.drops.items ≡ length c.trimming.drops.items + length d.own = ap length d.named ∙ length-append c.trimming.drops.items d.own in
    record {
      serves = c.drop_entry.ensures.serves;
      hold = c.drop_entry.ensures.hold;
      others = others_then c.args.number (hands_of c.args.held.now.items) (hands_of c.trimming.held.items) (hands_of c.drop_entry.new.held.items) i.others c.drop_entry.ensures.others;
      did = trim_more build c.args.limits.now c.args.number (sight c.trimming.pass) (sight c.trim_ring.new.pass) (sight c.drop_entry.new.pass) c.in-Over.row t.0 (load_of c.in-Over.cargo) (hands_of c.args.held.now.items) (hands_of c.trimming.held.items) (hands_of c.drop_entry.new.held.items) c.args.drops.now.items c.trimming.drops.items c.drop_entry.new.drops.items
          (sight c.args.pass.now) i.did t.1 d;
      room = λ ring. omega (arith, i.room ring, now, one, more, d.fewer, c.drop_entry.ensures.room.2, c.drop_entry.new.drops.ok.0, c.trimming.drops.ok.0);
      fewer = omega (arith, i.fewer, c.drop_entry.ensures.room.0);
      held = c.drop_entry.ensures.room.1 ∙ i.held;
      drops = c.drop_entry.ensures.room.2 ∙ i.drops;
    }

pub trimming-smaller : goal.trimming-smaller
trimming-smaller g c =
    let sight = g.Q.SharedQueue.sight in
    let build = g.Q.SharedQueue.build c.args.queue.now in
    let t = c.in-Over.ensures.trimmed in
    let d = c.drop_entry.ensures.did in
    let now : left_to build (sight c.trim_ring.new.pass) ≤ left_to build (sight c.trimming.pass) = trims_left build (sight c.trimming.pass) (sight c.trim_ring.new.pass) c.args.limits.now _ t.1 in
    let one : length d.own ≡ 1 = ap length d.fact.1 in
    omega (arith, now, one, d.fewer)

pub returns-in-Fits-clause-hold : goal.returns-in-Fits-clause-hold
returns-in-Fits-clause-hold g c =
    let sight = g.Q.SharedQueue.sight in
    fits_hold (g.Q.SharedQueue.build c.args.queue.now) (sight c.trimming.pass) (sight c.trim_ring.new.pass) c.args.limits.now c.args.number (hands_of c.trimming.held.items) c.in-Fits.ensures.trimmed c.trimming.invariant.hold

pub returns-in-Fits-clause-did : goal.returns-in-Fits-clause-did
returns-in-Fits-clause-did g c =
    let sight = g.Q.SharedQueue.sight in
    trim_fits (g.Q.SharedQueue.build c.args.queue.now) c.args.limits.now c.args.number (sight c.args.pass.now) (sight c.trimming.pass) (sight c.trim_ring.new.pass) (hands_of c.args.held.now.items) (hands_of c.trimming.held.items) c.args.drops.now.items c.trimming.drops.items c.in-Fits.ensures.trimmed c.trimming.invariant.did

pub returns-in-Nothing-clause-hold : goal.returns-in-Nothing-clause-hold
returns-in-Nothing-clause-hold g c =
    let sight = g.Q.SharedQueue.sight in
    nothing_hold (g.Q.SharedQueue.build c.args.queue.now) (sight c.trimming.pass) (sight c.trim_ring.new.pass) c.args.limits.now c.args.number (hands_of c.trimming.held.items) c.in-Nothing.ensures.trimmed c.trimming.invariant.hold

pub returns-in-Nothing-clause-did : goal.returns-in-Nothing-clause-did
returns-in-Nothing-clause-did g c =
    let sight = g.Q.SharedQueue.sight in
    trim_nothing (g.Q.SharedQueue.build c.args.queue.now) c.args.limits.now c.args.number (sight c.args.pass.now) (sight c.trimming.pass) (sight c.trim_ring.new.pass) (hands_of c.args.held.now.items) (hands_of c.trimming.held.items) c.args.drops.now.items c.trimming.drops.items c.in-Nothing.ensures.trimmed c.trimming.invariant.did
