-- what the steps of a pass were on
use Rattle.std.specs.Prelude.{ℕ, Bool, true, false, ◌==◌, if◌then◌else◌, Option, Some, None, List, [], ◌∷◌, length, filter, map}
use Rattle.queue_model.specs.declared.steps.Node.{Node}
use Rattle.queue_model.specs.declared.steps.Node.TheVariants as nodes
use Rattle.queue_model.specs.declared.steps.Step.{Step}
use Rattle.queue_model.specs.declared.steps.Step.TheVariants as steps
use Rattle.queue_model.specs.declared.steps.Tried.{Tried}
use Rattle.queue_model.specs.declared.steps.WordName.TheVariants as names

-- whether two nodes are one
abbrev pub same_node : Node → Node → Bool
same_node (nodes.Head l) (nodes.Head m) = l == m
same_node (nodes.Row r) (nodes.Row s) = r == s
same_node a b = false

-- the step is on the link of this node
abbrev pub on_link_of : Node → Step → Bool
on_link_of node (steps.Load (names.Link m)) = same_node m node
on_link_of node (steps.Link r m) = same_node m node
on_link_of node (steps.Unlink m from to) = same_node m node
on_link_of node s = false

-- the step is on a link
abbrev pub on_link : Step → Bool
on_link (steps.Load (names.Link m)) = true
on_link (steps.Link r m) = true
on_link (steps.Unlink m from to) = true
on_link s = false

-- the step is on the state of a row
abbrev pub on_state : Step → Bool
on_state (steps.Load (names.State r)) = true
on_state (steps.State r change from) = true
on_state s = false

-- how many steps were on states
abbrev pub looks : List Tried → ℕ
looks added = length (filter (λ t. on_state t.step) added)

-- how many steps were on links
abbrev pub hops : List Tried → ℕ
hops added = length (filter (λ t. on_link t.step) added)

-- the second, if there is one
abbrev pub later_or : Option ℕ → Option ℕ → Option ℕ
later_or first None = first
later_or first (Some n) = Some n

-- what the link of a node held after the last step on it, if there was one
abbrev pub link_after : Node → List Tried → Option ℕ
link_after node [] = None
link_after node (t ∷ added) = later_or (if on_link_of node t.step then Some t.later else None) (link_after node added)

-- the step added one to the count of a list
abbrev pub on_count : Step → Bool
on_count (steps.Count l) = true
on_count s = false

-- the numbers that counts showed
abbrev pub counted : List Tried → List ℕ
counted added = map (λ t. t.before) (filter (λ t. on_count t.step) added)
