-- what the actors of a phase did, and how they left the queues and the targets
use Rattle.std.specs.Prelude.{◌≡◌, ℕ, Some, List, [], length, map, slice_get}
use Rattle.queue_model.specs.History.{own}
use Rattle.acts_core.specs.Sight.{Build, Sight}
use Rattle.defs_read.specs.Defined.{Defined}
use Rattle.script_read.specs.Phases.{Actors}
use Rattle.target_core.specs.Seats.{Seats}
use Rattle.phase_text.specs.declared.logs.Log.{Log}
use Rattle.account_core.specs.Played.{IsGathered}
use Rattle.account_core.specs.Settling.{AreStories}
use Rattle.account_core.specs.Stories.{Story}
use Rattle.account_core.specs.Texts.{LogsTell}
use Rattle.phase_core.specs.Joining.{HaveJoined, HaveReturned, IsOfCaller}

-- caller h's passes, before it did anything, of the queues that the bosses' are of
pub record AreUnused (bosses : List Sight) (h : ℕ) (passes : List Sight) : Type 0 where
  pub as_many : length passes ≡ length bosses
  pub each : (q : ℕ) (s t : Sight)
      → slice_get bosses q ≡ Some s → slice_get passes q ≡ Some t → IsOfCaller s.opening h t
  pub idle : (q : ℕ) (t : Sight) → slice_get passes q ≡ Some t → own h t.seen ≡ []

-- The actors ran, and gave back what they had: there is a story of each, its calls are in the history that its queue's
-- boss now knows, and nobody did anything else; its targets are where they were; and the logs tell of the stories.
pub record HavePlayed
    (defs : List Defined) (builds : List Build) (actors : Actors) (owns : List Seats)
    (olds news : List Sight) (seats seats' : Seats) (logs : List Log)
    : Type 0
  where
    pub stories : List Story
    pub lines : map (λ s. (s.name, s.ops)) stories ≡ actors
    pub begun : map (λ s. s.seats) stories ≡ owns
    pub fit : AreStories defs stories
    pub passes : List (List Sight)
    pub as_many : length passes ≡ length stories
    pub joined : HaveJoined passes olds news
    pub gathered : (q : ℕ) (b : Build) (t : Sight)
        → slice_get builds q ≡ Some b → slice_get news q ≡ Some t
        → IsGathered q stories b t.opening t.seen
    pub returned : HaveReturned seats (map (λ s. s.end.seats) stories) seats'
    pub tells : LogsTell logs stories
