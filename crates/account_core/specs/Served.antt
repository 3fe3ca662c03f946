-- what the takes of a story handed to a consumer
use Rattle.std.specs.Prelude.{◌≡◌, ℕ, ◌+◌, ◌==◌, if◌then◌else◌, Option, Some, None, List, ◌∷◌, ◌++◌, length}
use Rattle.std.specs.List.{AllByRecursion}
use Rattle.defs_read.specs.Defined.{Defined}
use Rattle.script_read.specs.declared.lines.Op.{Op}
use Rattle.script_read.specs.declared.lines.What.{What}
use Rattle.script_read.specs.declared.lines.What.TheVariants.{Take}
use Rattle.report_core.specs.declared.answers.Answer.{Answer}
use Rattle.report_core.specs.declared.answers.Answer.TheVariants.{Got}
use Rattle.target_core.specs.Seats.{Seat, seat_at}
use Rattle.target_core.specs.declared.deliveries.Delivery.{Delivery}
use Rattle.account_core.specs.Stories.{Story, IsStory}

-- how many deliveries a line with this answer made to consumer c
abbrev pub served_by : ℕ → What → Answer → ℕ
served_by c (Take d) (Got id n) = if d == c then 1 else 0
served_by c what answer = 0

-- and all these lines
abbrev pub served_in : ℕ → List Op → List Answer → ℕ
served_in c (op ∷ ops) (a ∷ answers) = served_by c op.what a + served_in c ops answers
served_in c ops answers = 0

-- The target of consumer c was closed since; or it has what it had, and then so many deliveries, each to c.
abbrev pub Grew : ℕ → ℕ → Option Seat → Option Seat → Type 0
Grew c n old None = Unit {0}
Grew c n None (Some t) = ⊥
Grew c n (Some s) (Some t) =
    (ds : List Delivery) × (t.deliveries ≡ s.deliveries ++ ds) × (length ds ≡ n)
    × AllByRecursion (λ d. d.consumer ≡ c) ds × (t.limit ≡ s.limit)

-- each target has grown by one delivery for each take of its consumer that got something
abbrev pub StoryServes : Type 0
StoryServes =
    (defs : List Defined) (s : Story) → IsStory defs s
    → (c : ℕ) → Grew c (served_in c s.ops s.answers) (seat_at s.seats c) (seat_at s.end.seats c)
