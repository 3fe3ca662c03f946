use Rattle.std.proofs.Common.{inr, sym, ◌∙◌}
use Rattle.defs_read.proofs.Lists.{new_name, old_name}
use Rattle.defs_read.proofs.names.add_name.Goals as goal

pub returns-in-Ok-default-true : goal.returns-in-Ok-default-true
returns-in-Ok-default-true c =
    let h = c.in-Ok-default-true.ensures in
    new_name c.args.name c.args.names.now.keys c.insert_full.new.self.keys c.in-Ok-default-true.index (sym c.in-Ok-default-true.field-0-1-test ∙ c.in-Ok-default-true.ensures.added) c.in-Ok-default-true.ensures.keys c.in-Ok-default-true.ensures.index

pub returns-in-Ok-default-false : goal.returns-in-Ok-default-false
returns-in-Ok-default-false c =
    inr (old_name c.args.name c.args.names.now.keys (sym c.in-Ok-default-false.field-0-1-test ∙ c.in-Ok-default-false.ensures.added))
