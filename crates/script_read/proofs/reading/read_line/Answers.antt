use Rattle.std.proofs.Common.{Result, sym, subst}
use Rattle.serde_json.specs.View.{view}
use Rattle.defs_read.specs.Defined.{queues_in}
use Rattle.script_read.specs.Causes.{line_fault}
use Rattle.script_read.specs.Reading.{Gives}
use Rattle.script_read.specs.Values.{line_in}
use Rattle.script_read.specs.declared.faults.LineFault.{LineFault}
use Rattle.script_read.specs.declared.lines.Line.{Line}
use Rattle.script_read.proofs.Says.{text_is}
use Rattle.script_read.proofs.reading.read_line.Goals as goal

pub returns : goal.returns
returns c =
    let said = text_is c.args.line.now (view c.in_ok-value.value) (line_fault (queues_in c.args.defs.now)) (line_in (queues_in c.args.defs.now) c.args.number) c.in_ok-value.ensures in
    subst (λ (said : Result Line LineFault). Gives c.line_of.result said) (sym said) c.line_of.ensures
