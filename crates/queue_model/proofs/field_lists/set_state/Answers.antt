use Rattle.std.proofs.Common.{refl}
use Rattle.std.specs.Option.{option_map}
use Rattle.queue_model.specs.State.{is_row}
use Rattle.queue_model.specs.Table.{in_state}
use Rattle.queue_model.proofs.Positions.{written_is_alter, same_is_alter}
use Rattle.queue_model.proofs.field_lists.set_state.Goals as goal

pub returns-in-Some : goal.returns-in-Some
returns-in-Some c =
    written_is_alter (is_row c.args.number) (option_map (in_state c.args.state)) c.args.rows.now _ c.in-Some.index c.index-rows-index.result _ c.row_index.ensures c.in-Some.is refl

pub returns-in_default : goal.returns-in_default
returns-in_default c =
    same_is_alter (is_row c.args.number) (option_map (in_state c.args.state)) c.args.rows.now _ c.row_index.ensures c.in_default.is refl
