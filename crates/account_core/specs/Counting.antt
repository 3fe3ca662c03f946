-- how many messages lines put to a queue, how many of them were admitted, and how many of its rows have an id
use Rattle.std.specs.Prelude.{ℕ, ◌+◌, Bool, false, ◌&&◌, ◌==◌, if◌then◌else◌, List, ◌∷◌, map, sum_by}
use Rattle.std.specs.List.{count_by}
use Rattle.queue_model.specs.declared.rows.Row.{Row}
use Rattle.script_read.specs.Allowed.{ops_in}
use Rattle.script_read.specs.Phases.{Actors}
use Rattle.script_read.specs.declared.lines.Op.{Op}
use Rattle.script_read.specs.declared.lines.What.{What}
use Rattle.script_read.specs.declared.lines.What.TheVariants.{Put}
use Rattle.report_core.specs.declared.answers.Answer.{Answer}
use Rattle.report_core.specs.declared.answers.Answer.TheVariants.{Accepted}
use Rattle.account_core.specs.Stories.{Story}

-- the line puts to queue q a message whose id passes the test
abbrev pub puts_on : ℕ → (ℕ → Bool) → What → Bool
puts_on q test (Put r m) = (r == q) && test m.id
puts_on q test what = false

-- how many of these lines do
abbrev pub puts_among : ℕ → (ℕ → Bool) → List Op → ℕ
puts_among q test ops = count_by (λ op. puts_on q test op.what) ops

-- the actors of stories, each with its lines
abbrev pub actors_of : List Story → Actors
actors_of stories = map (λ s. (s.name, s.ops)) stories

-- how many of the lines of these stories do
abbrev pub puts_by : ℕ → (ℕ → Bool) → List Story → ℕ
puts_by q test stories = puts_among q test (ops_in (actors_of stories))

-- the line was answered that the message was admitted
abbrev pub enters_on : ℕ → (ℕ → Bool) → What → Answer → Bool
enters_on q test (Put r m) (Accepted id flowed acquired) = (r == q) && test m.id
enters_on q test what answer = false

-- how many of the lines with these answers were
abbrev pub entered_among : ℕ → (ℕ → Bool) → List Op → List Answer → ℕ
entered_among q test (op ∷ ops) (a ∷ answers) =
    (if enters_on q test op.what a then 1 else 0) + entered_among q test ops answers
entered_among q test ops answers = 0

-- and of those of these stories
abbrev pub entered_by : ℕ → (ℕ → Bool) → List Story → ℕ
entered_by q test stories = sum_by (λ s. entered_among q test s.ops s.answers) stories

-- how many of these rows have an id that passes the test
abbrev pub with_ids : (ℕ → Bool) → List Row → ℕ
with_ids test rows = count_by (λ x. test x.slip.id) rows
