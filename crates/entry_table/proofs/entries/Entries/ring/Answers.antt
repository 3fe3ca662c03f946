use Rattle.std.proofs.Common.{arith, ap, ◌∙◌, sym}
use Rattle.entry_table.specs.declared.view.Shape.{Shape}
use Rattle.entry_table.specs.Passes.{state}
use Rattle.entry_table.proofs.Belled.{list_looked, place_looked, same_place, rings_bell}
use Rattle.entry_table.proofs.Later.{known_later}
use Rattle.entry_table.proofs.entries.Entries.ring.Goals as goal

pub overflow_cast-list : goal.overflow_cast-list
overflow_cast-list g c =
    let k = c.look-list.ensures in
    let t = list_looked c.args.pass.now c.look-list.new.pass c.args.row c.look-list.result k.kept k.did c.requires.known k.shows in
    let lists = c.args.self.now.lists in
    let shape = ap (λ (s : Shape). s.lists) c.requires.table.shape in
    record { fits = omega (arith, t.1, lists, shape) }

pub ring_in-requires-clause-known : goal.ring_in-requires-clause-known
ring_in-requires-clause-known g c =
    known_later c.look-list.new.pass c.look-place.new.pass c.args.row c.look-place.ensures.kept c.look-place.ensures.did
    (known_later c.args.pass.now c.look-list.new.pass c.args.row c.look-list.ensures.kept c.look-list.ensures.did c.requires.known)

pub ring_in-requires-clause-list : goal.ring_in-requires-clause-list
ring_in-requires-clause-list g c =
    let k = c.look-list.ensures in
    let m = c.look-place.ensures in
    let mid = c.look-list.new.pass in
    let there = known_later c.args.pass.now mid c.args.row k.kept k.did c.requires.known in
    (list_looked c.args.pass.now mid c.args.row c.look-list.result k.kept k.did c.requires.known k.shows).0
    ∙ sym (same_place c.args.pass.now mid c.args.row k.kept k.did c.requires.known).0
    ∙ sym (same_place mid c.look-place.new.pass c.args.row m.kept m.did there).0

pub ring_in-requires-clause-place : goal.ring_in-requires-clause-place
ring_in-requires-clause-place g c =
    let k = c.look-list.ensures in
    let m = c.look-place.ensures in
    let mid = c.look-list.new.pass in
    let there = known_later c.args.pass.now mid c.args.row k.kept k.did c.requires.known in
    place_looked mid c.look-place.new.pass c.args.row c.look-place.result m.kept m.did there m.shows
    ∙ sym (same_place mid c.look-place.new.pass c.args.row m.kept m.did there).1

pub returns-clause-rings : goal.returns-clause-rings
returns-clause-rings g c =
    let old = c.args.pass.now in
    let mid = c.look-list.new.pass in
    let k = c.look-list.ensures in
    let m = c.look-place.ensures in
    let there = known_later old mid c.args.row k.kept k.did c.requires.known in
    rings_bell old mid c.look-place.new.pass c.ring_in.new.pass c.args.consumer c.args.row c.look-list.result c.look-place.result
    k.kept k.did k.shown (list_looked old mid c.args.row c.look-list.result k.kept k.did c.requires.known k.shows).0
    m.kept m.did m.shown (place_looked mid c.look-place.new.pass c.args.row c.look-place.result m.kept m.did there m.shows ∙ (same_place old mid c.args.row k.kept k.did c.requires.known).1)
    c.ring_in.ensures.rings
