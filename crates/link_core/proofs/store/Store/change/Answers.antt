use Rattle.std.proofs.Common.{ℕ, ◌∙◌, ap, ap₂, arith}
use Rattle.std.specs.Prelude.{slice_set}
use Rattle.link_core.specs.Kept.{drawers_of}
use Rattle.link_core.specs.Steps.{drawer_after}
use Rattle.link_core.proofs.Stored.{changed_same}
use Rattle.link_core.proofs.store.Store.change.Goals as goal

pub returns-clause-table : goal.returns-clause-table
returns-clause-table c =
    changed_same _ _ _ _ _ _ _ _ c.args.caller c.args.step _ _ _
    (ap₂ (λ (i v : ℕ). slice_set c.args.self.now.words.items i v) c.step_place-place.ensures.place c.word_after-word.ensures)
    (c.set_drawer.ensures.drawers ∙ ap (λ (n : ℕ). drawer_after (drawers_of c.args.self.now.drawers.items) n c.args.caller c.args.step) c.word-next.ensures)
    c.reserves_after-reserved.ensures
    (omega (arith, c.requires.kept.long.entries, c.requires.caller))
    (omega (arith, c.requires.kept.long.bytes, c.requires.caller))
