use Rattle.std.proofs.Common.{◌∙◌, sym}
use Rattle.entry_table.proofs.Serving.{serves_split}
use Rattle.any_queue.proofs.Holding.{all_below, boss_true, made_true}
use Rattle.any_queue.proofs.Parting.{is_split, parts}
use Rattle.entry_table.specs.Sights.{sight}
use Rattle.any_queue.proofs.lists.split_listed.Goals as goal

pub split-pass-requires-clause-consumers : goal.split-pass-requires-clause-consumers
split-pass-requires-clause-consumers g c = parts c.args.boss.now.pass c.args.consumers.now c.args.allowance c.requires.may

pub hand-cursors-requires : goal.hand-cursors-requires
hand-cursors-requires g c =
    let old = c.args.boss.now in
    record { few = all_below (sight old.pass) old.cursors.slots 64 c.args.consumers.now c.requires.serves.cursors old.cursors.places c.requires.may.has }

pub returns-clause-serves : goal.returns-clause-serves
returns-clause-serves g c =
    let k = c.split-pass.ensures in
    let old = c.args.boss.now in
    let new = c.split-pass.new.boss in
    let made = c.split-pass.result in
    let tables = serves_split c.args.entries.now old.pass new made c.args.consumers.now c.args.allowance c.requires.serves.table k.tables.0 k.tables.1 k.split in
    let handed = c.hand-cursors.ensures.handed in (
      record { table = tables.0; cursors = boss_true old.pass new made c.args.consumers.now c.args.allowance k.split c.requires.may.has old.cursors.slots c.hand-cursors.new.self.slots c.hand-cursors.result.slots c.requires.serves.cursors handed },
      record { table = tables.1; cursors = made_true old.pass new made c.args.consumers.now c.args.allowance k.split c.requires.may.has old.cursors.slots c.hand-cursors.new.self.slots c.hand-cursors.result.slots c.requires.serves.cursors handed },
    )

pub returns-clause-split : goal.returns-clause-split
returns-clause-split g c =
    let k = c.split-pass.ensures in
    is_split c.args.boss.now.pass c.split-pass.new.boss c.split-pass.result c.args.consumers.now c.args.allowance c.requires.may.boss (k.boss ∙ sym c.requires.may.boss) k.caller k.split
