use Rattle.std.proofs.Common.{◌≡◌, ◌∙◌, ap, [], ◌∷◌, rules}
use Rattle.script_read.proofs.Actors.{filed_new, seen}
use Rattle.script_read.proofs.open_phase.OpenPhase.file_first.Goals as goal

pub returns-in-Ok-insert : goal.returns-in-Ok-insert
returns-in-Ok-insert c =
    let one : c.push.new.self.items ≡ c.args.op ∷ [] = search rules in
    ap seen c.in-Ok-insert.ensures.entries
    ∙ filed_new c.args.op c.args.self.now.actors.entries c.in-Ok.name c.push.new.self (c.in-Ok.ensures.items ∙ c.as_slice.ensures) one c.requires
