use Rattle.cursor_core.proofs.Outlasting.{call_untaken, cursor_outlasts, split_outlasts, join_outlasts}
use Rattle.cursor_core.proofs.laws.cursors_outlast.Goals as goal

pub returns-clause-calls : goal.returns-clause-calls
returns-clause-calls c = cursor_outlasts

pub returns-clause-untaken : goal.returns-clause-untaken
returns-clause-untaken c = call_untaken

pub returns-clause-splits : goal.returns-clause-splits
returns-clause-splits c = split_outlasts

pub returns-clause-joins : goal.returns-clause-joins
returns-clause-joins c = join_outlasts
