use Rattle.std.proofs.Common.{sym, ◌∙◌}
use Rattle.std.proofs.lemmas.List.Folds.{list_all-map}
use Rattle.defs_read.specs.Defined.{defined}
use Rattle.broker_top.specs.Built.{is_built_queue}
use Rattle.broker_top.proofs.built.are_built.Goals as goal

pub returns : goal.returns
returns c = (rw c.as_slice.ensures.value at c.all_built.ensures) ∙ sym (list_all-map is_built_queue defined c.args.defs.now.queues.items)
