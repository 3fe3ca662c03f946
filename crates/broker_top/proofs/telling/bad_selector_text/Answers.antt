use Rattle.std.proofs.Common.{◌++◌, append_assoc, codes}
use Rattle.std.specs.Fmt.{decimal}
use Rattle.broker_top.specs.Faults.{kind_name}
use Rattle.broker_top.proofs.telling.bad_selector_text.Goals as goal

pub returns-in-Ok : goal.returns-in-Ok
returns-in-Ok c = rw (append_assoc (decimal c.args.at) (codes ": " ++ kind_name c.args.kind) (codes "\n")) (rw c.kind_name-name.ensures at c.in-Ok.ensures.ok)
