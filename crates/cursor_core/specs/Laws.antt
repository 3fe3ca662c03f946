-- the statements of the laws of cursors, each proved as the contract of a function in src/laws.rt
use Rattle.std.specs.Prelude.{◌≡◌, ◌≢◌, ℕ, List, []}
use mathlib.Core.List.{Mem}
use Rattle.queue_model.specs.History.{deeds_of}
use Rattle.acts_core.specs.Calls.{Call, CallNext, Answer, acts_of}
use Rattle.acts_core.specs.Meaning.{Called}
use Rattle.acts_core.specs.Owed.{taken_any}
use Rattle.acts_core.specs.Sight.{Build, Plan, Sight, plan_of}
use Rattle.entry_table.specs.declared.pass.Pass.{Pass}
use Rattle.entry_table.specs.Passes.{opening, view}
use Rattle.entry_table.specs.Plays.{DidSplit, Joined}
use Rattle.entry_table.specs.Sights.{sight}
use Rattle.cursor_core.specs.declared.cursor.Cursor.{Cursor}
use Rattle.cursor_core.specs.Listing.{IsTrueOf}

-- a cursor outlasts each call that takes no bell of its consumer
abbrev pub CallOutlasts : Type 0
CallOutlasts =
    (build : Build) (old new : Sight) (call : Call) (answer : Answer) (k : Cursor)
    → Called build old new call answer → Mem k.consumer old.consumers
    → taken_any k.consumer (deeds_of old.caller (acts_of (plan_of build old.opening) call answer)) ≡ []
    → IsTrueOf old k → IsTrueOf new k

-- no call but the consumer's own next takes its bells
abbrev pub CallUntaken : Type 0
CallUntaken =
    (p : Plan) (h c : ℕ) (call : Call) (answer : Answer)
    → call ≢ CallNext c → taken_any c (deeds_of h (acts_of p call answer)) ≡ []

-- a cursor of a consumer that the boss had outlasts a split, in both passes
abbrev pub SplitOutlasts : Type 0
SplitOutlasts =
    (old new made : Pass) (consumers : List ℕ) (n : ℕ) (k : Cursor)
    → DidSplit (view old) (view new) (view made) consumers n → Mem k.consumer (sight old).consumers
    → IsTrueOf (sight old) k → IsTrueOf (sight new) k × IsTrueOf (sight made) k

-- a cursor of a consumer that either pass had outlasts a join of the two
abbrev pub JoinOutlasts : Type 0
JoinOutlasts =
    (old gone new : Pass) (k : Cursor)
    → Joined (view old) (view gone) (view new) → opening gone ≡ opening old
    → (Mem k.consumer (sight old).consumers → IsTrueOf (sight old) k → IsTrueOf (sight new) k)
    × (Mem k.consumer (sight gone).consumers → IsTrueOf (sight gone) k → IsTrueOf (sight new) k)
