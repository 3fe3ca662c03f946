use Rattle.queue_model.specs.State.{is_row, is_holder}
use Rattle.queue_model.proofs.KeyedLemmas.{find-append, sum-alter}
use Rattle.queue_model.proofs.RowFacts.{reserved_push, reserved_push_other, row_alter, row_alter_other, row_push, row_push_other, row_number, row_here, row_elsewhere, reserved_alter, reserved_alter_other}
use Rattle.queue_model.proofs.laws.keyed.Goals as goal

pub returns-clause-row_alter : goal.returns-clause-row_alter
returns-clause-row_alter c = row_alter

pub returns-clause-row_alter_other : goal.returns-clause-row_alter_other
returns-clause-row_alter_other c = row_alter_other

pub returns-clause-row_sum : goal.returns-clause-row_sum
returns-clause-row_sum c w r f xs = sum-alter w (is_row r) f xs

pub returns-clause-row_append : goal.returns-clause-row_append
returns-clause-row_append c r xs ys x e = find-append (is_row r) xs ys x e

pub returns-clause-row_push : goal.returns-clause-row_push
returns-clause-row_push c = row_push

pub returns-clause-row_push_other : goal.returns-clause-row_push_other
returns-clause-row_push_other c = row_push_other

pub returns-clause-row_number : goal.returns-clause-row_number
returns-clause-row_number c = row_number

pub returns-clause-row_here : goal.returns-clause-row_here
returns-clause-row_here c = row_here

pub returns-clause-row_elsewhere : goal.returns-clause-row_elsewhere
returns-clause-row_elsewhere c = row_elsewhere

pub returns-clause-reserved_alter : goal.returns-clause-reserved_alter
returns-clause-reserved_alter c = reserved_alter

pub returns-clause-reserved_alter_other : goal.returns-clause-reserved_alter_other
returns-clause-reserved_alter_other c = reserved_alter_other

pub returns-clause-reserved_sum : goal.returns-clause-reserved_sum
returns-clause-reserved_sum c w h f xs = sum-alter w (is_holder h) f xs

pub returns-clause-reserved_push : goal.returns-clause-reserved_push
returns-clause-reserved_push c = reserved_push

pub returns-clause-reserved_push_other : goal.returns-clause-reserved_push_other
returns-clause-reserved_push_other c = reserved_push_other
