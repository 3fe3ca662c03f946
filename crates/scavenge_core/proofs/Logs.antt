-- what the steps of a pass were on, one part after the other
use Rattle.std.proofs.Common.{◌≡◌, ◌≢◌, ℕ, zero, suc, ◌+◌, Bool, true, false, cond, Option, Some, None, List, [], ◌∷◌, ◌++◌, length, filter, find, map, refl, sym, ap, ◌∙◌, eq-eqb, ne_eqb, length-append}
use Rattle.std.proofs.lemmas.List.Elements.{filter-append}
use Rattle.queue_model.specs.declared.steps.Node.{Node}
use Rattle.queue_model.specs.declared.steps.Node.TheVariants as nodes
use Rattle.queue_model.specs.declared.steps.Step.{Step}
use Rattle.queue_model.specs.declared.steps.Step.TheVariants as steps
use Rattle.queue_model.specs.declared.steps.Tried.{Tried}
use Rattle.queue_model.specs.declared.steps.WordName.TheVariants as wordnames
use Rattle.queue_model.proofs.KeyedLemmas.{find_none-cons}
use Rattle.acts_core.specs.Sight.{on_head}
use Rattle.acts_core.specs.Steps.{NoHead}
use Rattle.acts_core.specs.Walks.{node_at}
use Rattle.scavenge_core.specs.Shown.{same_node, on_link_of, on_link, on_state, looks, hops, later_or, link_after, on_count, counted}

pub looks-append : (xs ys : List Tried) → looks (xs ++ ys) ≡ looks xs + looks ys
looks-append xs ys = ap length (filter-append (λ t. on_state t.step) xs ys) ∙ length-append (filter (λ t. on_state t.step) xs) (filter (λ t. on_state t.step) ys)

pub hops-append : (xs ys : List Tried) → hops (xs ++ ys) ≡ hops xs + hops ys
hops-append xs ys = ap length (filter-append (λ t. on_link t.step) xs ys) ∙ length-append (filter (λ t. on_link t.step) xs) (filter (λ t. on_link t.step) ys)

-- no count in two parts
pub countless-append : (xs ys : List Tried) → counted xs ≡ [] → counted ys ≡ [] → counted (xs ++ ys) ≡ []
countless-append [] ys a b = b
countless-append (x ∷ xs) ys a b = elim (on_count x.step) as (λ c. map (λ t. t.before) (cond c (x ∷ filter (λ t. on_count t.step) xs) (filter (λ t. on_count t.step) xs)) ≡ [] → map (λ t. t.before) (cond c (x ∷ filter (λ t. on_count t.step) (xs ++ ys)) (filter (λ t. on_count t.step) (xs ++ ys))) ≡ [])
    [ true ↦ (λ e. absurd (cc)) | false ↦ (λ e. countless-append xs ys e b) ] a

later_assoc : (a b c : Option ℕ) → later_or (later_or a b) c ≡ later_or a (later_or b c)
later_assoc a b None = refl
later_assoc a b (Some n) = refl

later_none : (a : Option ℕ) → later_or None a ≡ a
later_none None = refl
later_none (Some n) = refl

pub link_after-append : (node : Node) (xs ys : List Tried) → link_after node (xs ++ ys) ≡ later_or (link_after node xs) (link_after node ys)
link_after-append node [] ys = sym (later_none (link_after node ys))
link_after-append node (t ∷ xs) ys =
    ap (later_or (cond (on_link_of node t.step) (Some t.later) None)) (link_after-append node xs ys)
    ∙ sym (later_assoc (cond (on_link_of node t.step) (Some t.later) None) (link_after node xs) (link_after node ys))

-- the last part tells
pub link_last : (node : Node) (xs ys : List Tried) (n : ℕ) → link_after node ys ≡ Some n → link_after node (xs ++ ys) ≡ Some n
link_last node xs ys n e = link_after-append node xs ys ∙ ap (later_or (link_after node xs)) e

-- or the first, where the last does not
pub link_first : (node : Node) (xs ys : List Tried) → link_after node ys ≡ None → link_after node (xs ++ ys) ≡ link_after node xs
link_first node xs ys e = link_after-append node xs ys ∙ ap (later_or (link_after node xs)) e

pub node_self : (node : Node) → same_node node node ≡ true
node_self (nodes.Head l) = eq-eqb l l refl
node_self (nodes.Row r) = eq-eqb r r refl

-- one step on the link of the node
pub link_one : (node : Node) (t : Tried) → on_link_of node t.step ≡ true → link_after node (t ∷ []) ≡ Some t.later
link_one node t e = ap (λ (b : Bool). cond b (Some t.later) None) e

pub link_other : (node : Node) (t : Tried) → on_link_of node t.step ≡ false → link_after node (t ∷ []) ≡ None
link_other node t e = ap (λ (b : Bool). cond b (Some t.later) None) e

-- two parts that tell nothing
pub link_neither : (node : Node) (xs ys : List Tried) → link_after node xs ≡ None → link_after node ys ≡ None → link_after node (xs ++ ys) ≡ None
link_neither node xs ys a b = link_first node xs ys b ∙ a

-- two stops of a list have two nodes
pub other_stop : (l v w : ℕ) → v ≢ w → same_node (node_at l w) (node_at l v) ≡ false
other_stop l zero zero ne = absurd (ne refl)
other_stop l zero (suc b) ne = refl
other_stop l (suc a) zero ne = refl
other_stop l (suc a) (suc b) ne = ne_eqb b a (λ e. ne (ap (λ (n : ℕ). suc n) (sym e)))

-- the node of a stop is no row but its own
pub other_node : (l w r : ℕ) → w ≢ suc r → same_node (nodes.Row r) (node_at l w) ≡ false
other_node l zero r ne = refl
other_node l (suc a) r ne = ne_eqb r a (λ e. ne (ap (λ (n : ℕ). suc n) (sym e)))

-- Head links

-- one step that is not on the head link of a list
pub head_off : (m : ℕ) (t : Tried) → on_head m t.step ≡ false → NoHead m (t ∷ [])
head_off m t off = find_none-cons (λ (x : Tried). on_head m x.step) t [] off refl

-- a load of a link of one list is not on the head link of another
pub head_load : (l w m : ℕ) → m ≢ l → on_head m (steps.Load (wordnames.Link (node_at l w))) ≡ false
head_load l zero m away = ne_eqb l m (λ e. away (sym e))
head_load l (suc r) m away = refl

-- nor is an exchange of it
pub head_unlink : (l w r b m : ℕ) → m ≢ l → on_head m (steps.Unlink (node_at l w) r b) ≡ false
head_unlink l zero r b m away = ne_eqb l m (λ e. away (sym e))
head_unlink l (suc s) r b m away = refl

-- a load of the link behind the head is on it
pub head_here : (l w : ℕ) → w ≡ 0 → on_head l (steps.Load (wordnames.Link (node_at l w))) ≡ true
head_here l zero head = eq-eqb l l refl
head_here l (suc r) head = absurd (cc)
