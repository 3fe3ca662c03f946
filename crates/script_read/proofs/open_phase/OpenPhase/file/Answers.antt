use Rattle.std.proofs.Common.{◌∙◌, ap, sym, is_some, position}
use Rattle.std.specs.Map.{keys_of}
use Rattle.script_read.specs.Scripts.{is_in_phase}
use Rattle.script_read.proofs.Actors.{in_table, filed_at, is_named, seen}
use Rattle.script_read.proofs.open_phase.OpenPhase.file.Goals as goal
use Rattle.script_read.proofs.open_phase.OpenPhase.file.Goals.{in-Ok, in-Err}

pub file_first-requires : goal.file_first-requires
file_first-requires c =
    let entries = c.args.self.now.actors.entries in
    ap (λ name. is_in_phase name (seen entries)) (sym c.as_slice.ensures)
    ∙ sym (in_table c.as_slice.result.now entries) ∙ sym c.get_index_of.ensures.found ∙ ap is_some c.in-None.is

pub returns-after-push : goal.returns-after-push
returns-after-push c =
    let entries = c.args.self.now.actors.entries in
    let at = ap (λ name. position (is_named name) (keys_of entries)) (sym c.as_slice.ensures) ∙ sym c.get_index_of.ensures.index ∙ c.in-Some.is in
    elim c.match-push.branch [
      | in-Ok w ↦ rw w.result-is (filed_at c.args.op entries c.in-Some.index c.index_mut.result.now c.push.new.self at c.index_mut.ensures.value w.in-Ok.ensures.items)
      | in-Err w ↦ rw w.result-is tt
    ]
