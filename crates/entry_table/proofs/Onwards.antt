-- links that passes watch
use Rattle.std.proofs.Common.{◌≡◌, ◌≢◌, ℕ, suc, ◌<◌, ◌≤◌, Option, Some, List, length, set, refl, sym, ap, ◌∙◌, ⊎_elim, arith}
use Rattle.std.specs.Prelude.{slice_index}
use Rattle.std.proofs.lemmas.Bool.{cases_eq}
use mathlib.Core.Option.{some}
use lib.ListN.{get_elem?}
use Rattle.queue_model.specs.declared.deeds.Deed.{Deed}
use Rattle.queue_model.specs.declared.queues.Queue.{Queue}
use Rattle.queue_model.specs.declared.rows.Row.{Row}
use Rattle.queue_model.specs.declared.rows.Slip.{Slip}
use Rattle.queue_model.specs.declared.steps.Node.{Node}
use Rattle.queue_model.specs.declared.steps.Node.TheVariants as nodes
use Rattle.queue_model.specs.History.{after}
use Rattle.queue_model.specs.State.{row_at, place_at}
use Rattle.queue_model.proofs.Stable.{row_stays, place_stays}
use Rattle.link_core.specs.Layout.{row_link_of, head_of, link_of}
use Rattle.link_core.proofs.Frames.{set_here, set_else}
use Rattle.entry_table.specs.declared.view.Shape.{Shape}
use Rattle.entry_table.specs.declared.view.View.{View}
use Rattle.entry_table.specs.declared.view.Watched.{Watched}
use Rattle.entry_table.specs.Rule.{Each, HasNode, IsOnward, MovesOn, Watches}
use Rattle.entry_table.proofs.Frames.{views_set}

-- Rows

pub onward_self : (q : Queue) (r : ℕ) (x : Row) → row_at q r ≡ Some x → IsOnward q r r
onward_self q r x found = record { from = x; from_found = found; to = x; to_found = found; list = refl; later = omega arith }

pub onward_trans : (q : Queue) (r s u : ℕ) → IsOnward q r s → IsOnward q s u → IsOnward q r u
onward_trans q r s u a b =
    let both : Some a.to ≡ Some b.from = sym a.to_found ∙ b.from_found in
    let same : a.to ≡ b.from = cc in
    let first = a.later in let second = b.later in
    record { from = a.from; from_found = a.from_found; to = b.to; to_found = b.to_found; list = b.list ∙ ap (λ (x : Row). x.slip.list) (sym same) ∙ a.list; later = omega (arith, first, second) }

-- rows keep their lists and places
pub onward_later : (q : Queue) (ds : List Deed) (r s : ℕ) → IsOnward q r s → IsOnward (after q ds) r s
onward_later q ds r s a =
    let x = row_stays q ds r a.from a.from_found in
    let y = row_stays q ds s a.to a.to_found in
    let px = place_stays q ds r a.from a.from_found in
    let py = place_stays q ds s a.to a.to_found in
    let before = a.later in record {
      from = x.0;
      from_found = x.1;
      to = y.0;
      to_found = y.1;
      list = ap (λ (z : Slip). z.list) y.2.slip ∙ a.list ∙ ap (λ (z : Slip). z.list) (sym x.2.slip);
      later = omega (arith, px, py, before);
    }

-- Words

-- each link of a table of this shape moved on at most
abbrev pub LinksMove : Shape → Queue → List ℕ → List ℕ → Type 0
LinksMove shape q words words' = (node : Node) → HasNode shape node → (s : ℕ) (y : Row) → slice_index words (link_of shape.rows node) ≡ suc s → row_at q s ≡ Some y → (u : ℕ) × (slice_index words' (link_of shape.rows node) ≡ suc u) × IsOnward q s u

pub links_same : (shape : Shape) (q : Queue) (words : List ℕ) → LinksMove shape q words words
links_same shape q words node has s y named found = (s, named, onward_self q s y found)

-- another word is written
pub links_off : (shape : Shape) (q : Queue) (words : List ℕ) (i n : ℕ) → ((l : ℕ) → l < shape.lists → head_of shape.rows l ≢ i) → ((r : ℕ) → r < shape.rows → row_link_of r ≢ i) → LinksMove shape q words (set words i n)
links_off shape q words i n heads rows (nodes.Head l) has s y named found = (s, set_else words i n (head_of shape.rows l) (heads l has) ∙ named, onward_self q s y found)
links_off shape q words i n heads rows (nodes.Row r) has s y named found = (s, set_else words i n (row_link_of r) (rows r has) ∙ named, onward_self q s y found)

-- a link is written
pub links_written : (shape : Shape) (q : Queue) (words : List ℕ) (i n : ℕ) → i < length words → ((s : ℕ) (y : Row) → slice_index words i ≡ suc s → row_at q s ≡ Some y → (u : ℕ) × (n ≡ suc u) × IsOnward q s u) → LinksMove shape q words (set words i n)
links_written shape q words i n long moves node has s y named found = ⊎_elim
    (λ (hit : link_of shape.rows node ≡ i).
    let t = moves s y (ap (λ (k : ℕ). slice_index words k) (sym hit) ∙ named) found in
    (t.0, ap (λ (k : ℕ). slice_index (set words i n) k) hit ∙ set_here words i n long ∙ t.1, t.2))
    (λ (miss : link_of shape.rows node ≢ i). (s, set_else words i n (link_of shape.rows node) miss ∙ named, onward_self q s y found))
    (cases_eq (link_of shape.rows node) i)

-- Views

watches_on : (shape : Shape) (q : Queue) (ds : List Deed) (words words' : List ℕ) (j : ℕ) (u : View) → LinksMove shape q words words' → Watches shape words q j u → Watches shape words' (after q ds) j u
watches_on shape q ds words words' j u move watches w is =
    let o = watches w is in (
      o.0,
      λ r named.
          let t = o.1 r named in
          let m = move w.node o.0 t.0 t.2.to t.1 t.2.to_found in
          (m.0, m.1, onward_later q ds r m.0 (onward_trans q r t.0 m.0 t.2 m.2)),
    )

-- what all passes watch, after a step of one seat that watches what it is given to watch
pub watches_with : (shape : Shape) (q : Queue) (ds : List Deed) (words words' : List ℕ) (views : List View) (id : ℕ) (w : View) → Watches shape words' (after q ds) id w → LinksMove shape q words words' → Each (Watches shape words q) views → Each (Watches shape words' (after q ds)) (set views id w)
watches_with shape q ds words words' views id w mine move each = views_set (Watches shape words' (after q ds)) views id w (λ j u ne e. watches_on shape q ds words words' j u move (each j u e)) mine

-- or what it watched before
pub watches_set : (shape : Shape) (q : Queue) (ds : List Deed) (words words' : List ℕ) (views : List View) (id : ℕ) (v w : View) → get_elem? views id ≡ some v → w.watched ≡ v.watched → LinksMove shape q words words' → Each (Watches shape words q) views → Each (Watches shape words' (after q ds)) (set views id w)
watches_set shape q ds words words' views id v w at same move each =
    watches_with shape q ds words words' views id w (λ x is. watches_on shape q ds words words' id v move (each id v at) x (sym same ∙ is)) move each
