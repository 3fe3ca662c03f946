-- a link that moves on past deleted rows
use Rattle.std.proofs.Common.{◌≡◌, ◌≢◌, ℕ, suc, Some, refl, sym, ◌∙◌, subst, ⊎_elim, arith}
use Rattle.std.specs.Prelude.{slice_index}
use Rattle.std.proofs.lemmas.Bool.{cases_eq}
use Rattle.queue_model.specs.declared.queues.Queue.{Queue}
use Rattle.queue_model.specs.declared.rows.Row.{Row}
use Rattle.queue_model.specs.declared.rows.RowState.TheVariants.{Deleted}
use Rattle.queue_model.specs.declared.steps.Node.{Node}
use Rattle.queue_model.specs.declared.steps.Step.TheVariants.{Unlink}
use Rattle.queue_model.specs.Sound.{same_number}
use Rattle.queue_model.specs.State.{is_of_list, row_at, rows_of}
use Rattle.queue_model.proofs.KeyedLemmas.{apart-filter}
use Rattle.link_core.specs.Layout.{link_of, head_of}
use Rattle.link_core.specs.Stands.{Stands}
use Rattle.link_core.specs.Steps.{IsBetween, IsGone, FitsUnlink, changed_by}
use Rattle.link_core.specs.Table.{Table, IsLinked, list_of_node}
use Rattle.link_core.proofs.Chaining.{others_numbered}
use Rattle.link_core.proofs.Changing.{linked_row}
use Rattle.link_core.proofs.Frames.{but_same, states_else, drafts_else, tails_else, marks_else, bells_else, depth_else, draws_else, shaped_set, stands_low}
use Rattle.link_core.proofs.InLists.{found_there, row_of_list}
use Rattle.link_core.proofs.Linking.{node_facts}
use Rattle.link_core.proofs.Packing.{pack_same}
use Rattle.link_core.proofs.Skipping.{Leads, leads_none, leads_to, chain_past}

-- The link of a node may move from row a to row b.
module _ (t : Table) (q : Queue) (at : Node) (a b : ℕ) (s : Stands t q) (fits : FitsUnlink t at a b) where
  -- a row of the queue is linked
  linked_of : (r : ℕ) (x : Row) → row_at q r ≡ Some x → IsLinked t r
  linked_of r x found = record { drawn = s.draws.below r x found; free = s.draws.free r x found }

  -- whose state word is that of a deleted row is deleted
  gone_of : (r : ℕ) (x : Row) → row_at q r ≡ Some x → IsGone t r → x.state ≡ Deleted
  gone_of r x found gone = pack_same x.state Deleted (sym (s.states r x found) ∙ gone)

  -- in the list of the two the link leads on from the first to the second
  leads_own : (x y : Row) → row_at q a ≡ Some x → row_at q b ≡ Some y → Leads a (suc b) (rows_of q x.slip.list)
  leads_own x y out next =
      let l : ℕ = x.slip.list in
      let da = s.drafted a x out in
      let db = s.drafted b y next in
      let list : y.slip.list ≡ l = sym db.list ∙ fits.list ∙ da.list in
      let first = found_there q l a x out refl in
      let last = found_there q l b y next list in
      leads_to a b (rows_of q l) x y (apart-filter same_number (is_of_list l) q.rows s.sound.rows_apart) first.0 (gone_of a x out fits.gone) last.0
      (omega (arith, first.1, last.1, da.place, db.place, fits.later))
      (λ r z found low high.
      let mine = row_of_list l r q.rows z s.sound.rows_apart found in
      let here = found_there q l r z mine.0 mine.1 in
      let dr = s.drafted r z mine.0 in
      let between : IsBetween t a b r = record {
        list = dr.list ∙ mine.1 ∙ sym da.list;
        behind = omega (arith, first.1, here.1, da.place, dr.place, low);
        before = omega (arith, last.1, here.1, db.place, dr.place, high);
      } in
      gone_of r z mine.0 (fits.between r (linked_of r z mine.0) between))

  -- in another list there is nothing to lead on from
  leads : (l : ℕ) → Leads a (suc b) (rows_of q l)
  leads l =
      let out = linked_row t q a s fits.out in
      let next = linked_row t q b s fits.next in ⊎_elim
      (λ (same : out.0.slip.list ≡ l). subst (λ (m : ℕ). Leads a (suc b) (rows_of q m)) same (leads_own out.0 next.0 out.1 next.1))
      (λ (other : out.0.slip.list ≢ l). leads_none a (suc b) (rows_of q l) (others_numbered a l q.rows out.0 s.sound.rows_apart out.1 other))
      (cases_eq out.0.slip.list l)

  -- an exchange that shows the first row
  pub unlink_step : (h : ℕ) → slice_index t.words (link_of t.rows at) ≡ suc a → Stands (changed_by t h (Unlink at a b)) q
  unlink_step h here =
      let i : ℕ = link_of t.rows at in
      let off = node_facts t q at (list_of_node t at) s fits.node refl in record {
        sound = s.sound;
        shaped = shaped_set t q i (suc b) _ _ s.shaped;
        states = states_else t.rows t.words i (suc b) q (stands_low t q s) off.states s.states;
        drafted = drafts_else t.rows t.words i (suc b) q (λ r x found w. off.drafted r (stands_low t q s r x found) w) s.drafted;
        links = λ l lt. chain_past t.words i a (suc b) off.long (λ e. omega (arith, e)) here (rows_of q l) (head_of t.rows l) (leads l) (s.links l lt);
        tails = tails_else t.rows t.words i (suc b) t.lists q off.tails s.tails;
        marks = marks_else t.rows t.words i (suc b) t.lists q off.marks s.marks;
        bells = bells_else t.rows t.words i (suc b) t.consumers t.lists q off.bells s.bells;
        rung = s.rung;
        depth = depth_else t.rows t.words i (suc b) q off.depth s.depth;
        draws = draws_else t.rows t.words i (suc b) t.drawer q off.first (λ r less none. off.states r less) off.new s.draws;
        reserved = λ k. s.reserved k ∙ sym (but_same t.reserved h k);
      }
