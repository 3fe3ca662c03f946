-- the passes of a queue in a phase: its boss's, and those of the actors, which are split off it
use Rattle.std.specs.Prelude.{◌≡◌, ℕ, ◌+◌, ◌≤◌, if◌then◌else◌, Some, List, [], ◌∷◌, length, map, slice_get}
use Rattle.std.specs.Str.{bytes_eq}
use mathlib.Core.List.{Mem}
use Rattle.queue_model.specs.declared.queues.Queue.{Queue}
use Rattle.queue_model.specs.History.{Legal, own}
use Rattle.acts_core.specs.Sight.{Sight}
use Rattle.any_queue.specs.Parting.{IsSplit, MayPart}
use Rattle.defs_read.specs.Defined.{Defined}
use Rattle.defs_read.specs.Slips.{lists_of}
use Rattle.defs_read.specs.declared.defs.ConsumerDef.{ConsumerDef}
use Rattle.script_read.specs.Allowed.{ops_in}
use Rattle.script_read.specs.Phases.{Actors}
use Rattle.script_read.specs.declared.lines.Op.{Op}
use Rattle.workers_core.specs.Made.{puts_in}

-- the places of an actor's consumers among these, the first of which has the place k
abbrev pub places_from : ℕ → List ℕ → List ConsumerDef → List ℕ
places_from k name [] = []
places_from k name (c ∷ cs) =
    if bytes_eq c.actor name then k ∷ places_from (k + 1) name cs else places_from (k + 1) name cs

-- the places of an actor's consumers among those of a queue
abbrev pub places_of : List ℕ → List ConsumerDef → List ℕ
places_of name consumers = places_from 0 name consumers

-- The pass of a queue's boss, who is caller 0 and has done nothing. So many callers were made, with the boss, and
-- others have done nothing; the passes of these have ended.
pub record IsBoss (begin : Queue) (many : ℕ) (gone : List ℕ) (s : Sight) : Type 0 where
  pub opening : s.opening ≡ begin
  pub caller : s.caller ≡ 0
  pub made : s.made ≡ many
  pub ended : s.ended ≡ gone
  pub legal : Legal begin s.seen
  pub idle : own 0 s.seen ≡ []
  pub unmade : (k : ℕ) → many ≤ k → own k s.seen ≡ []

-- A pass as it was split off the boss's, for caller h, who has done nothing: it has these consumers, and may reserve
-- and draw as much as its lines put.
pub record IsFreshPass (opening : Queue) (h : ℕ) (consumers : List ℕ) (puts : ℕ) (t : Sight) : Type 0 where
  pub sight :
      t
      ≡ record {
        opening = opening;
        caller = h;
        consumers = consumers;
        allowance = puts;
        share = puts;
        ended = [];
        made = 0;
        seen = t.seen;
        shown = [];
        turns = 0;
      }
  pub legal : Legal opening t.seen
  pub idle : own h t.seen ≡ []

-- The passes of these actors may be split off this one, which is the boss's of queue q: it has their consumers there,
-- and may reserve and draw as much as their lines put.
pub record MayCast (def : Defined) (q : ℕ) (actors : Actors) (made : ℕ) (s : Sight) : Type 0 where
  pub lists : s.opening.lists ≡ lists_of def.kind
  pub as_many : s.opening.consumers ≡ length def.consumers
  pub boss : IsBoss s.opening made [] s
  pub consumers : (k i : ℕ) (c : ConsumerDef) (a : List ℕ × List Op)
      → slice_get def.consumers k ≡ Some c → slice_get actors i ≡ Some a → c.actor ≡ a.0 → Mem k s.consumers
  pub allowance : puts_in q (ops_in actors) ≤ s.allowance
  pub share : puts_in q (ops_in actors) ≤ s.share

-- and so of each queue
abbrev pub AllMayCast : List Defined → Actors → ℕ → List Sight → Type 0
AllMayCast defs actors made bosses = (q : ℕ) (def : Defined) (s : Sight)
    → slice_get defs q ≡ Some def → slice_get bosses q ≡ Some s → MayCast def q actors made s

-- these are the bosses' passes of the same queues, when so many callers were made
pub record AreBosses (old : List Sight) (made : ℕ) (new : List Sight) : Type 0 where
  pub openings : map (λ s. s.opening) new ≡ map (λ s. s.opening) old
  pub each : (q : ℕ) (s : Sight) → slice_get new q ≡ Some s → IsBoss s.opening made [] s

-- of each queue, the pass of an actor of this name may be split off, with as much as these lines put
abbrev pub AllMayPart : List Defined → List ℕ → List Op → List Sight → Type 0
AllMayPart defs name ops bosses = (q : ℕ) (def : Defined) (s : Sight)
    → slice_get defs q ≡ Some def → slice_get bosses q ≡ Some s
    → MayPart s (places_of name def.consumers) (puts_in q ops)

-- of each queue, the pass of an actor of this name was split off, with as much as these lines put
pub record AreSplit (defs : List Defined) (name : List ℕ) (ops : List Op) (olds news passes : List Sight) : Type 0 where
  pub as_many : length passes ≡ length defs
  pub bosses : length news ≡ length olds
  pub each : (q : ℕ) (def : Defined) (s b t : Sight)
      → slice_get defs q ≡ Some def → slice_get olds q ≡ Some s
      → slice_get news q ≡ Some b → slice_get passes q ≡ Some t
      → IsSplit s b t (places_of name def.consumers) (puts_in q ops)
