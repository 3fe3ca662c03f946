use Rattle.entry_table.specs.Passes.{view, callers}
use Rattle.entry_calls.proofs.Closable.{Idle, callers_new, made_new, every_more, settles}
use Rattle.entry_calls.proofs.closing_tests.is_settled.Goals as goal

idle : (c : goal.After-join) → Idle c.split-other.result c.saw_rest-saw.new.pass
idle c = let s = c.saw_rest-saw.ensures in record { kept = s.kept; grows = s.grows; own_same = s.idle }

pub returns-clause-every : goal.returns-clause-every
returns-clause-every c =
    let e = c.args.entries.now in
    let old = c.args.boss.now in
    let mid = c.split-other.new.boss in
    let other = c.split-other.result in
    let looked = c.saw_rest-saw.new.pass in
    let new = c.join.new.into in
    let d = c.split-other.ensures.split in
    let j = c.join.ensures.joined in
    every_more (view new).made (view old).made (callers old) (callers new) (made_new e old mid other looked new d j (idle c)) (callers_new e old mid other looked new d j (idle c)) c.requires.every

pub returns-clause-settled : goal.returns-clause-settled
returns-clause-settled c saw =
    let e = c.args.entries.now in
    let old = c.args.boss.now in
    let mid = c.split-other.new.boss in
    let other = c.split-other.result in
    let looked = c.saw_rest-saw.new.pass in
    let new = c.join.new.into in
    let s = c.split-other.ensures in
    settles e old mid other looked new s.split c.join.ensures.joined (idle c) c.requires.boss s.caller c.requires.every c.args.rows c.requires.rows s.tables.0 (c.saw_rest-saw.ensures.saw saw)
