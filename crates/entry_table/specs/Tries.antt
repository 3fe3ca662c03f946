-- how often a pass tried to draw a row, and to link one
use Rattle.std.specs.Prelude.{ℕ, Bool, true, false, List, filter, length}
use Rattle.queue_model.specs.declared.steps.Step.{Step}
use Rattle.queue_model.specs.declared.steps.Step.TheVariants.{Draw, Link}
use Rattle.queue_model.specs.declared.steps.Tried.{Tried}

-- the step draws a row, or links one
abbrev pub is_try : Step → Bool
is_try Draw = true
is_try (Link row node) = true
is_try step = false

-- how many of the steps that were tried were to draw a row or to link one
abbrev pub tries : List Tried → ℕ
tries log = length (filter (λ t. is_try t.step) log)
