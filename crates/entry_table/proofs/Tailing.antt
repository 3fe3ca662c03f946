-- helps of tails are allowed
use Rattle.std.proofs.Common.{◌≡◌, ℕ, suc, ◌+◌, ◌<◌, ◌≤◌, ◌==◌, eqb, List, [], ◌∷◌, ◌++◌, set, Option, None, refl, sym, ap, ◌∙◌, subst, arith, append-nil, ne_eqb}
use Rattle.std.specs.Prelude.{slice_index}
use Rattle.std.specs.List.{sum_by}
use Rattle.std.proofs.lemmas.Bool.{cond-false}
use prog.Atomic.{either}
use Rattle.atomic_table.specs.Table.{Me, keeps, Allows}
use Rattle.queue_model.specs.declared.deeds.Deed.{Deed}
use Rattle.queue_model.specs.declared.queues.Queue.{Queue}
use Rattle.queue_model.specs.declared.steps.DraftWord.{DraftWord}
use Rattle.queue_model.specs.declared.steps.Node.{Node}
use Rattle.queue_model.specs.declared.steps.Node.TheVariants as nodes
use Rattle.queue_model.specs.declared.steps.Step.{Step}
use Rattle.queue_model.specs.declared.steps.Step.TheVariants as steps
use Rattle.queue_model.specs.declared.queues.Reservation.{Reservation}
use Rattle.queue_model.specs.History.{after}
use Rattle.queue_model.specs.Packing.{pack_node}
use Rattle.queue_model.specs.State.{entries}
use Rattle.acts_core.specs.Load.{Load}
use Rattle.link_core.specs.Layout.{draft_of, tail_of}
use Rattle.link_core.specs.Stands.{Stands}
use Rattle.link_core.specs.Steps.{FitsHelp}
use Rattle.link_core.specs.Table.{Table, but}
use Rattle.link_core.proofs.Frames.{set_else, draft_high}
use Rattle.link_core.proofs.Helping.{help_step}
use Rattle.entry_table.specs.declared.view.Shape.{Shape}
use Rattle.entry_table.specs.declared.view.View.{View}
use Rattle.entry_table.specs.Views.{entry, AllEnd}
use Rattle.entry_table.specs.Rule.{table_at, Ruled, allowance}
use Rattle.entry_table.specs.Plays.{IsKnown, Within, looked}
use Rattle.entry_table.specs.Helps.{Helpable, HelpableTo, tail_after, help_view, helped}
use Rattle.entry_table.proofs.Frames.{sum_views}
use Rattle.entry_table.proofs.Keeping.{opened, now, me, went}
use Rattle.entry_table.proofs.Onwards.{links_off, watches_set}
use Rattle.entry_table.proofs.Looking.{plain, miss_owes, by_found}
use Rattle.entry_table.proofs.Entering.{shape_now, node_now, node_place}

module _ {C : Type 0} (load : C → Load) (shape : Shape) where
  -- from a node to a row
  helps_row : (slots id l row : ℕ) (from : Node) (m : Me (Option C) View) (h : ℕ) (ended : List ℕ) → m.0.callers ≡ h ∷ ended → m.0.slot ≡ None → Helpable (after m.0.opening m.0.seen) l from row
      → Allows (Ruled load shape) slots id m (tail_of shape.rows l) (λ n. either (eqb n (pack_node from)) (suc row) n) (helped l from (nodes.Row row) m)
  helps_row slots id l row from m h ended is idle can s ruled len at small =
      let v : View = m.0 in
      let r = opened load shape s id v h ended is at ruled in
      let H : List Deed = r.history in
      let q : Queue = now load shape s id v h ended is at r in
      let k : ℕ = me load shape s id v h ended is at r in
      let t : Table = table_at shape s.words r.drawer r.reserved in
      let i : ℕ = tail_of shape.rows l in
      let n : ℕ = slice_index s.words i in
      let to : Node = nodes.Row row in
      let step : Step = steps.HelpTail l from to in
      let source = node_place load shape s id v h ended is at r from can.known in
      let target = node_place load shape s id v h ended is at r to can.there in
      let lists = (shape_now load shape s id v h ended is at r).0 in
      let low : l < shape.lists = let inside = can.list in omega (arith, inside, lists) in
      let later = can.later in
      let fits : FitsHelp t l from row = record {
        list = low;
        node = node_now load shape s id v h ended is at r from can.known;
        row = node_now load shape s id v h ended is at r to can.there;
        node_list = source.0 ∙ can.from_list;
        behind = (target.0 ∙ can.row_list ∙ sym can.from_list ∙ sym source.0, (let a = source.1 in let b = target.1 in omega (arith, a, b, later)));
      } in
      let words : List ℕ = set s.words i (suc row) in
      let reserved : ℕ → Reservation = but r.reserved k (r.reserved k) in
      let stands : Stands (table_at shape words r.drawer reserved) q = help_step t q k l from to r.stands fits in
      let w : View = help_view v l from to n H in
      let all : H ≡ H ++ [] = sym (append-nil H) in
      let top : slice_index words 0 ≡ slice_index s.words 0 = set_else s.words i (suc row) 0 (omega arith) in
      let off : (j : ℕ) (x : DraftWord) → j < shape.rows → slice_index words (draft_of j x) ≡ slice_index s.words (draft_of j x) = λ j x less. set_else s.words i (suc row) (draft_of j x) (omega (arith, draft_high j x)) in
      let sums = sum_views allowance s.views id v w at in
      let allowed : sum_by allowance s.views + entries q ≤ 524288 = r.allowed in
      let reached : v.reached ≤ slice_index s.words 0 = r.reaches id v at in
      by_found load shape s id i (pack_node from) (suc row) m (helped l from to m n) (looked step m n) (helped l from to m)
      (λ u e told. told)
      (λ u e told.
      let same : tail_after n from to ≡ n = cond-false (n == pack_node from) (suc row) n (ne_eqb n (pack_node from) e) in
      (told.0, told.1, told.3 ∙ ap (λ (z : ℕ). record v { told = []; seen = u.0.seen; shown = v.shown ++ entry step n z u.0.seen ∷ [] }) (sym same)))
      (λ e. (
        w,
        keeps,
        tt,
        (
          v.opening,
          plain load shape s id v h ended is at r [] w words reserved r.enders all (record { shape = refl; opening = refl; callers = refl; made = refl; alone = refl; consumers = refl }) refl refl refl (r.held id v at) refl reached tt (λ j ne. refl) (λ c ne. refl) (subst (AllEnd r.enders) all r.ends)
              top (set_else s.words i (suc row) 1 (omega arith)) off stands r.cargoes (omega (arith, sums, allowed))
              (watches_set shape q [] s.words words s.views id v w at refl (links_off shape q s.words i (suc row) (λ m less. omega arith) (λ j less. omega arith)) r.watches),
        ),
        (refl, went load shape s id v h ended is at r w [] words r.drawer reserved all tt refl (λ j ne. refl) stands (omega arith) (omega (arith, reached, top)), refl),
      ))
      (λ e. miss_owes load shape s id i step m h ended (λ ws. refl) is at r)

  pub helps_allowed : (slots id l : ℕ) (from to : Node) (m : Me (Option C) View) (h : ℕ) (ended : List ℕ) → m.0.callers ≡ h ∷ ended → m.0.slot ≡ None → HelpableTo (after m.0.opening m.0.seen) l from to
      → Allows (Ruled load shape) slots id m (tail_of shape.rows l) (λ n. either (eqb n (pack_node from)) (pack_node to) n) (helped l from to m)
  helps_allowed slots id l from (nodes.Head x) m h ended is idle can = absurd can
  helps_allowed slots id l from (nodes.Row row) m h ended is idle can = helps_row slots id l row from m h ended is idle can

  -- the same, for numbers and nodes that are given by equations
  pub helps_at : (slots id i old new l : ℕ) (from to : Node) (k : ℕ) (a b : Node) (m : Me (Option C) View) (h : ℕ) (ended : List ℕ) → i ≡ tail_of shape.rows l → old ≡ pack_node from → new ≡ pack_node to → k ≡ l → a ≡ from → b ≡ to → m.0.callers ≡ h ∷ ended → m.0.slot ≡ None
      → HelpableTo (after m.0.opening m.0.seen) l from to → Allows (Ruled load shape) slots id m i (λ n. either (eqb n old) new n) (helped k a b m)
  helps_at slots id i old new l from to k a b m h ended ei eo en ek ea eb is idle can =
      subst (λ (z : ℕ × Node × Node). Allows (Ruled load shape) slots id m i (λ n. either (eqb n old) new n) (helped z.0 z.1 z.2 m)) (λ j. (sym ek j, sym ea j, sym eb j))
      (subst (λ (z : ℕ × ℕ × ℕ). Allows (Ruled load shape) slots id m z.0 (λ n. either (eqb n z.1) z.2 n) (helped l from to m)) (λ j. (sym ei j, sym eo j, sym en j))
      (helps_allowed slots id l from to m h ended is idle can))

-- a node that is known packs into a word
pub node_small : (shape : Shape) (q : Queue) (node : Node) → Within shape q → IsKnown q node → pack_node node ≤ shape.rows
node_small shape q (nodes.Head l) w known = omega arith
node_small shape q (nodes.Row a) w known = let lt = w.low a known.0 known.1 in omega (arith, lt)

-- and so does a row to which a tail is helped
pub target_small : (shape : Shape) (q : Queue) (l : ℕ) (from to : Node) → Within shape q → HelpableTo q l from to → pack_node to ≤ shape.rows
target_small shape q l from (nodes.Head x) w can = absurd can
target_small shape q l from (nodes.Row r) w can = let lt = w.low r can.there.0 can.there.1 in omega (arith, lt)

-- what a help asks for
pub help_known : (q : Queue) (l : ℕ) (from to : Node) → HelpableTo q l from to → IsKnown q from
help_known q l from (nodes.Head x) can = absurd can
help_known q l from (nodes.Row r) can = can.known

pub help_list : (q : Queue) (l : ℕ) (from to : Node) → HelpableTo q l from to → l < q.lists
help_list q l from (nodes.Head x) can = absurd can
help_list q l from (nodes.Row r) can = can.list
