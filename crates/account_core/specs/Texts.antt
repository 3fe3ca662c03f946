-- the text of a phase and of a run (docs/REPORT.md)
use Rattle.std.specs.Prelude.{◌≡◌, ℕ, Option, Some, None, List, [], ◌∷◌, ◌++◌, flat_map, map}
use Rattle.queue_model.specs.declared.rows.Row.{Row}
use Rattle.queue_model.specs.declared.rows.RowState.{RowState}
use Rattle.queue_model.specs.declared.rows.RowState.TheVariants.{Available, Locked, Unlocked, Dequeued, Deleted}
use Rattle.defs_read.specs.Defined.{Defined}
use Rattle.report_core.specs.declared.answers.Resting.{Resting}
use Rattle.report_core.specs.Texts.{queue_lines}
use Rattle.phase_text.specs.Logs.{line_text}
use Rattle.phase_text.specs.declared.logs.Log.{Log}
use Rattle.phase_text.specs.declared.logs.Rest.{Rest}
use Rattle.account_core.specs.Accounts.{Account}
use Rattle.account_core.specs.Carry.{entries_of}
use Rattle.account_core.specs.Played.{Played, rest_of}
use Rattle.account_core.specs.Stories.{Story, told}

-- the names of queues, and those of actors
abbrev pub queue_names : List Defined → List (List ℕ)
queue_names defs = map (λ d. d.name) defs

abbrev pub actor_names : List Story → List (List ℕ)
actor_names stories = map (λ s. s.name) stories

-- the lines of an actor with their answers, in order; an answer names its own of the entries that were dropped
abbrev pub story_text : List Defined → List Story → Story → List ℕ
story_text defs stories s =
    flat_map (line_text (queue_names defs) (actor_names stories) s.end.drops s.name) (told s.ops s.answers)

-- the actor that had a row, by its number
abbrev pub holder_of : RowState → Option ℕ
holder_of Available = None
holder_of (Locked h) = Some h
holder_of (Unlocked h) = Some h
holder_of Dequeued = None
holder_of Deleted = None

-- an entry that is left
abbrev pub resting : Row → Resting
resting x = record { id = x.slip.id; size = x.slip.size; holder = holder_of x.state }

abbrev pub resting_in : Played → List Resting
resting_in p = map resting (entries_of p.plan.kind (rest_of p))

-- each queue with its entries, in order
abbrev pub queues_text : List (List ℕ) → List Defined → List Played → List ℕ
queues_text actors (def ∷ defs) (p ∷ queues) =
    queue_lines actors def.name (resting_in p) ++ queues_text actors defs queues
queues_text actors defs queues = []

-- the text of a phase: each actor's lines, and then what the queues hold
abbrev pub account_text : List Defined → Account → List ℕ
account_text defs a =
    flat_map (story_text defs a.stories) a.stories ++ queues_text (actor_names a.stories) defs a.queues

-- and that of a run
abbrev pub run_text : List Defined → List Account → List ℕ
run_text defs accounts = flat_map (account_text defs) accounts

-- What is to be told of a phase stands for its account: a log tells of each story, and a rest of each queue.

abbrev pub LogsTell : List Log → List Story → Type 0
LogsTell [] [] = Unit {0}
LogsTell (log ∷ logs) (s ∷ stories) =
    (log.name ≡ s.name) × (log.lines.items ≡ told s.ops s.answers) × (log.drops.items ≡ s.end.drops)
    × LogsTell logs stories
LogsTell logs stories = ⊥

abbrev pub RestsTell : List Rest → List Defined → List Played → Type 0
RestsTell [] [] [] = Unit {0}
RestsTell (rest ∷ rests) (def ∷ defs) (p ∷ queues) =
    (rest.name ≡ def.name) × (rest.entries.items ≡ resting_in p) × RestsTell rests defs queues
RestsTell rests defs queues = ⊥
