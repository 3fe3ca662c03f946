-- what a step on the words answers, and what it leaves
use Rattle.std.specs.Prelude.{◌≡◌, ℕ, ◌<◌, Result, Ok, Err}
use Rattle.queue_model.specs.declared.steps.Step.{Step}
use Rattle.link_core.specs.declared.stepping.Unfit.{Unfit}
use Rattle.link_core.specs.Steps.{Fits, shown, moved}
use Rattle.link_core.specs.Table.{Table}

-- the table has this caller, and the step fits
abbrev pub MayStep : Table → ℕ → Step → Type 0
MayStep t h step = (h < t.callers) × Fits t h step

-- Ok: the word that the step showed, and the step was done. Unfit: the step does not fit, or the table has no such
-- caller; nothing changed.
abbrev pub Advances : Result ℕ Unfit → Table → Table → ℕ → Step → Type 0
Advances (Ok word) old new h step = MayStep old h step × (word ≡ shown old step) × (new ≡ moved old h step)
Advances (Err e) old new h step = (MayStep old h step → ⊥) × (new ≡ old)
