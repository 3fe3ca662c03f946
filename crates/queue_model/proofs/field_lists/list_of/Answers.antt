use Rattle.std.proofs.Common.{ap, sym, ◌∙◌, Option}
use Rattle.std.specs.Option.{option_map_or}
use Rattle.queue_model.specs.declared.rows.Row.{Row}
use Rattle.queue_model.specs.State.{is_row}
use Rattle.queue_model.proofs.Positions.{found_is_at, find_none}
use Rattle.queue_model.proofs.field_lists.list_of.Goals as goal

pub returns-in-Some : goal.returns-in-Some
returns-in-Some c =
    ap (λ (o : Option Row). option_map_or (λ x. x.slip.list) o 0) (sym (found_is_at (is_row c.args.number) c.args.rows.now _ c.in-Some.index c.index-rows-index.result c.row_index.ensures c.in-Some.is))

pub returns-in-None : goal.returns-in-None
returns-in-None c =
    ap (λ (o : Option Row). option_map_or (λ x. x.slip.list) o 0) (sym (find_none (is_row c.args.number) c.args.rows.now (sym c.row_index.ensures ∙ c.in-None.is)))
