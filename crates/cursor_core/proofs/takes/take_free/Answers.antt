use Rattle.std.proofs.Common.{◌≡◌, ◌≢◌, rules}
use Rattle.std.specs.Int.{bit_at}
use Rattle.std.specs.Option.{option_map}
use Rattle.entry_table.proofs.Later.{known_later}
use Rattle.cursor_core.proofs.Acquiring.{unwanted, tries_free}
use Rattle.cursor_core.proofs.takes.take_free.Goals as goal

pub take_ready-requires-clause-known : goal.take_ready-requires-clause-known
take_ready-requires-clause-known g c =
    let k = c.look-mask.ensures in
    known_later c.args.pass.now c.look-mask.new.pass c.args.row k.kept k.did c.requires.known

pub returns-then-wants-clause-tries : goal.returns-then-wants-clause-tries
returns-then-wants-clause-tries g c =
    let k = c.look-mask.ensures in
    let there = known_later c.args.pass.now c.look-mask.new.pass c.args.row k.kept k.did c.requires.known in
    let bit : bit_at c.look-mask.result c.args.consumer ≡ 1 = search rules in
    tries_free c.args.pass.now c.look-mask.new.pass c.take_ready.new.pass c.args.consumer c.args.row c.look-mask.result there.0 (option_map g.C.Freight.goods c.take_ready.result)
    k.kept k.rights.0 k.rights.1 k.did k.shows k.shown bit there.1 c.take_ready.ensures.takes

pub returns-else-wants-clause-tries : goal.returns-else-wants-clause-tries
returns-else-wants-clause-tries g c =
    let k = c.look-mask.ensures in
    let there = known_later c.args.pass.now c.look-mask.new.pass c.args.row k.kept k.did c.requires.known in
    let none : bit_at c.look-mask.result c.args.consumer ≢ 1 = search rules in
    unwanted c.args.pass.now c.look-mask.new.pass c.args.consumer c.args.row c.look-mask.result there.0 k.kept k.rights.0 k.rights.1 k.did k.shows k.shown none there.1
