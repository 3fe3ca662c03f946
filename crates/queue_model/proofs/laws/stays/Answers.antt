use Rattle.queue_model.proofs.Bells.{bell_step, bell_stays}
use Rattle.queue_model.proofs.Stable.{new_step, row_step, row_stays, new_stays, list_step, list_stays, place_step, place_stays, held_row_step, held_row_stays, held_step, held_stays, reserved_step, reserved_stays, deleted_step, deleted_stays, gone_step, gone_stays}
use Rattle.queue_model.proofs.laws.stays.Goals as goal

pub returns-clause-row_step : goal.returns-clause-row_step
returns-clause-row_step c = row_step

pub returns-clause-row_stays : goal.returns-clause-row_stays
returns-clause-row_stays c = row_stays

pub returns-clause-new_stays : goal.returns-clause-new_stays
returns-clause-new_stays c = new_stays

pub returns-clause-list_step : goal.returns-clause-list_step
returns-clause-list_step c = list_step

pub returns-clause-list_stays : goal.returns-clause-list_stays
returns-clause-list_stays c = list_stays

pub returns-clause-place_step : goal.returns-clause-place_step
returns-clause-place_step c = place_step

pub returns-clause-place_stays : goal.returns-clause-place_stays
returns-clause-place_stays c = place_stays

pub returns-clause-held_row_step : goal.returns-clause-held_row_step
returns-clause-held_row_step c = held_row_step

pub returns-clause-held_row_stays : goal.returns-clause-held_row_stays
returns-clause-held_row_stays c = held_row_stays

pub returns-clause-held_step : goal.returns-clause-held_step
returns-clause-held_step c = held_step

pub returns-clause-held_stays : goal.returns-clause-held_stays
returns-clause-held_stays c = held_stays

pub returns-clause-reserved_step : goal.returns-clause-reserved_step
returns-clause-reserved_step c = reserved_step

pub returns-clause-reserved_stays : goal.returns-clause-reserved_stays
returns-clause-reserved_stays c = reserved_stays

pub returns-clause-deleted_step : goal.returns-clause-deleted_step
returns-clause-deleted_step c = deleted_step

pub returns-clause-deleted_stays : goal.returns-clause-deleted_stays
returns-clause-deleted_stays c = deleted_stays

pub returns-clause-gone_step : goal.returns-clause-gone_step
returns-clause-gone_step c = gone_step

pub returns-clause-gone_stays : goal.returns-clause-gone_stays
returns-clause-gone_stays c = gone_stays

pub returns-clause-bell_step : goal.returns-clause-bell_step
returns-clause-bell_step c = bell_step

pub returns-clause-bell_stays : goal.returns-clause-bell_stays
returns-clause-bell_stays c = bell_stays

pub returns-clause-new_step : goal.returns-clause-new_step
returns-clause-new_step c = new_step
