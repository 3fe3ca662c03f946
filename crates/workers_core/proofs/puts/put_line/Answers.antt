use Rattle.std.proofs.Common.{◌<◌, List, Bool, length, slice_get, slice_set, sym, ap, ◌∙◌, subst, arith}
use Rattle.std.proofs.lemmas.Option.{slice_get_within}
use Rattle.defs_read.specs.Defined.{Defined, queues_in}
use Rattle.script_read.specs.declared.lines.What.TheVariants.{Put}
use Rattle.overflow_core.specs.Limits.{is_ring}
use Rattle.txn_core.specs.Shown.{Shown, load}
use Rattle.line_core.specs.Runs.{DidOn}
use Rattle.workers_core.specs.Held.{hands_of}
use Rattle.workers_core.proofs.OneJob.{read_at}
use Rattle.workers_core.proofs.PutLines.{def_read, displaced_kind, fresh_load, one_def}
use Rattle.workers_core.proofs.puts.put_line.Goals as goal

pub returns-clause-did : goal.returns-clause-did
returns-clause-did g c = λ s hands stopped drops.
    let defs = queues_in c.args.defs.now in
    let on = c.requires.slip in
    let same = def_read c.args.defs.now c.args.number c.index.result.now on.def on.defined c.index.ensures in
    let flags = c.args.stopped.now.items in
    let here : c.args.number < length flags = omega (arith, slice_get_within defs c.args.number on.def on.defined, c.requires.stopped, c.args.stopped.now.ok.0) in
    let at = read_at flags c.args.number c.index_mut-stop.result.now here c.index_mut-stop.ensures.value in
    let did = c.put_by.ensures.did defs s on.def c.args.message on.defined (sym (ap (λ (d : Defined). d.limits) same)) on.fits (sym (ap (λ (x : Shown). x.message.persistent) c.of-cargo.ensures)) (ap (λ (x : Shown). load x) c.of-cargo.ensures ∙ fresh_load c.args.message)
    hands (ap (λ (bs : List Bool). slice_get bs c.args.number) stopped ∙ at) drops in
    subst (λ (bs : List Bool). DidOn defs (g.Q.SharedQueue.build c.args.queue.now) c.args.number (g.Q.SharedQueue.sight c.args.pass.now) s (Put c.args.number c.args.message) c.put_by.result (g.Q.SharedQueue.sight c.put_by.new.pass)
    (record s { hands = hands_of c.put_by.new.held.items; stopped = slice_set bs c.args.number c.put_by.new.stopped; drops = c.put_by.new.drops.items })) stopped did

pub returns-clause-few : goal.returns-clause-few
returns-clause-few g c = λ def there plain.
    let defs = queues_in c.args.defs.now in
    let on = c.requires.slip in
    let same = def_read c.args.defs.now c.args.number c.index.result.now def there c.index.ensures in
    let kind = displaced_kind (g.Q.SharedQueue.build c.args.queue.now) on.def def on.kind (one_def defs c.args.number on.def def on.defined there) in
    omega (arith, kind, c.put_by.ensures.few (ap (λ (d : Defined). is_ring d.limits) same ∙ plain))
