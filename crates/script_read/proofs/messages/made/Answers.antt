use Rattle.std.proofs.Common.{Err, subst, sym}
use Rattle.message_core.specs.Spelling.{parts}
use Rattle.script_read.specs.Parts.{content_said}
use Rattle.script_read.specs.Reading.{Gives}
use Rattle.script_read.specs.declared.faults.LineFault.{LineFault}
use Rattle.script_read.proofs.Contents.{made_is, refused_is}
use Rattle.script_read.proofs.messages.made.Goals as goal

pub returns-in-Ok : goal.returns-in-Ok
returns-in-Ok c = made_is (parts c.args.id c.args.persistent c.args.priority c.args.headers.items c.args.body) c.in-Ok.message c.in-Ok.ensures.made.0 c.in-Ok.ensures.made.1

pub returns-in-Err : goal.returns-in-Err
returns-in-Err c =
    subst (λ (fault : LineFault). Gives (Err fault) (content_said (parts c.args.id c.args.persistent c.args.priority c.args.headers.items c.args.body))) (sym c.cause_of.ensures)
    (refused_is (parts c.args.id c.args.persistent c.args.priority c.args.headers.items c.args.body) c.in-Err.fault c.requires.priority c.requires.distinct c.in-Err.ensures.refused)
