use Rattle.std.proofs.Common.{ap, sym, ◌∙◌}
use Rattle.std.specs.Option.{option_map}
use Rattle.queue_model.specs.declared.rows.Row.{Row}
use Rattle.queue_model.specs.State.{is_row}
use Rattle.queue_model.proofs.Positions.{found_is_at, find_none}
use Rattle.queue_model.proofs.field_lists.state_of.Goals as goal

pub returns-in-Some : goal.returns-in-Some
returns-in-Some c =
    ap (option_map (λ (x : Row). x.state)) (sym (found_is_at (is_row c.args.number) c.args.rows.now _ c.in-Some.index c.index-rows-index.result c.row_index.ensures c.in-Some.is))

pub returns-in-None : goal.returns-in-None
returns-in-None c = ap (option_map (λ (x : Row). x.state)) (sym (find_none (is_row c.args.number) c.args.rows.now (sym c.row_index.ensures ∙ c.in-None.is)))
