use Rattle.queue_model.proofs.SoundSteps.{sound_opening, sound_step, sound_after}
use Rattle.queue_model.proofs.laws.soundness.Goals as goal

pub returns-clause-opening : goal.returns-clause-opening
returns-clause-opening c = sound_opening

pub returns-clause-step : goal.returns-clause-step
returns-clause-step c = sound_step

pub returns-clause-after : goal.returns-clause-after
returns-clause-after c = sound_after
