-- reservations, and what is given back
use Rattle.std.proofs.Common.{◌≡◌, ℕ, ◌+◌, ◌-◌, ◌*◌, ◌/◌, ◌%◌, ◌^◌, ◌<◌, ◌≤◌, List, [], ◌∷◌, ◌++◌, set, Option, None, refl, sym, ap, ap₂, ◌∙◌, subst, arith, get_or-set_other}
use Rattle.std.specs.Prelude.{slice_index}
use Rattle.std.specs.List.{sum_by}
use mathlib.Core.Option as maybe
use Rattle.atomic_table.specs.Table.{Me, step, keeps, carried_after, Allows}
use Rattle.queue_model.specs.declared.deeds.Act.{Act}
use Rattle.queue_model.specs.declared.deeds.Act.TheVariants as acts
use Rattle.queue_model.specs.declared.deeds.Deed.{Deed}
use Rattle.queue_model.specs.declared.queues.Queue.{Queue}
use Rattle.queue_model.specs.declared.queues.Reservation.{Reservation}
use Rattle.queue_model.specs.declared.steps.Step.{Step}
use Rattle.queue_model.specs.declared.steps.Step.TheVariants as steps
use Rattle.queue_model.specs.History.{after, deed}
use Rattle.acts_core.specs.Load.{Load}
use Rattle.queue_model.specs.State.{entries, bytes, reserved_by}
use Rattle.queue_model.specs.Table.{CanGive, with_more, with_less}
use Rattle.queue_model.proofs.Depths.{depth_reserving, depth_giving}
use Rattle.queue_model.proofs.Histories.{own-mine}
use Rattle.link_core.specs.Layout.{draft_of}
use Rattle.queue_model.specs.Packing.{entry_worth}
use Rattle.link_core.specs.Table.{but}
use Rattle.link_core.proofs.Bounds.{depth_bounds}
use Rattle.link_core.proofs.Frames.{draft_low}
use Rattle.link_core.proofs.Reserving.{entries_shown, few_bytes, reserve_kept, give_back_kept}
use Rattle.entry_table.specs.declared.view.Shape.{Shape}
use Rattle.entry_table.specs.declared.view.View.{View}
use Rattle.entry_table.specs.Views.{caller_of, EndsBy, AllEnd, entry}
use Rattle.entry_table.specs.Rule.{table_at, RuledAt, Ruled, allowance}
use Rattle.entry_table.specs.Plays.{DepthShown, by_me, Deepens, depth_view, reserved, reserves, gave_back}
use Rattle.entry_table.proofs.Frames.{sum_views, in_sum, holds_idle}
use Rattle.entry_table.proofs.Keeping.{opened, now, me, knows_me, went, mine_alone, reserved_now}
use Rattle.entry_table.proofs.Onwards.{links_off, watches_set}
use Rattle.entry_table.proofs.Looking.{plain}

-- one deed more
pub ends_more : (enders : ℕ → ℕ) (ds : List Deed) (d : Deed) → AllEnd enders ds → EndsBy enders d.caller d.act → AllEnd enders (ds ++ d ∷ [])
ends_more enders [] d all new = (new, tt)
ends_more enders (e ∷ es) d all new = (all.0, ends_more enders es d all.1 new)

module _ {C : Type 0} (load : C → Load) (shape : Shape) where
  -- an act that changes no row leaves the cargoes
  pub reserves_allowed : (slots id size : ℕ) (m : Me (Option C) View) (h : ℕ) (ended : List ℕ) → m.0.callers ≡ h ∷ ended → m.0.slot ≡ None → 1 ≤ m.0.allowance → size ≤ 1048576
      → Allows (Ruled load shape) slots id m 2 (λ n. (n + (entry_worth + size)) % 2 ^ 64) (reserved size m)
  reserves_allowed slots id size m h ended is idle room small s ruled len at low =
      let v : View = m.0 in
      let r = opened load shape s id v h ended is at ruled in
      let H : List Deed = r.history in
      let q : Queue = now load shape s id v h ended is at r in
      let k : ℕ = me load shape s id v h ended is at r in
      let n : ℕ = slice_index s.words 2 in
      let a : Act = acts.Reserve size in
      let w : View = depth_view v (steps.Reserve size) a (v.allowance - 1) n (n + (entry_worth + size)) H in
      let sums = sum_views allowance s.views id v w at in
      let part : v.allowance ≤ sum_by allowance s.views = in_sum allowance s.views id v at in
      let allowed : sum_by allowance s.views + entries q ≤ 524288 = r.allowed in
      let told : n / entry_worth ≡ entries q = entries_shown s.words q r.stands.sound r.stands.depth in
      let kept = reserve_kept (table_at shape s.words r.drawer r.reserved) q k size r.stands small (omega (arith, told, allowed, part, room)) in
      let more = depth_reserving q k size in
      let depth : n ≡ entries q * entry_worth + bytes q = r.stands.depth in
      let few = few_bytes q r.stands.sound in
      let fits : (n + (entry_worth + size)) % 2 ^ 64 ≡ n + (entry_worth + size) = omega (arith, depth, few, small, allowed, part, room) in
      let words : List ℕ = set s.words 2 (n + (entry_worth + size)) in
      let rule : RuledAt load shape v.opening record { words = words; homes = s.homes; views = set s.views id w } =
      plain load shape s id v h ended is at r (by_me v a ∷ []) w words (but r.reserved k (with_more (r.reserved k) size)) r.enders refl (record { shape = refl; opening = refl; callers = refl; made = refl; alone = refl; consumers = refl }) refl refl (sym idle) (holds_idle (after q (by_me v a ∷ [])) id w refl) refl (r.reaches id v at)
      (kept.0, tt) (mine_alone load shape s id v h ended is at r a) (λ c ne. refl) (ends_more r.enders H (by_me v a) r.ends tt)
      (get_or-set_other s.words 2 0 (n + (entry_worth + size)) 0 (λ e. omega arith)) (get_or-set_other s.words 2 1 (n + (entry_worth + size)) 0 (λ e. omega arith))
      (λ i x less. get_or-set_other s.words 2 (draft_of i x) (n + (entry_worth + size)) 0 (λ e. omega (arith, draft_low i x)))
      kept.1 (record { rows = r.cargoes.rows; others = r.cargoes.others }) (omega (arith, sums, allowed, more.0, part, room))
      (watches_set shape q (by_me v a ∷ []) s.words words s.views id v w at refl (links_off shape q s.words 2 (n + (entry_worth + size)) (λ l lt. omega arith) (λ i less. omega arith)) r.watches) in (
        w,
        keeps,
        tt,
        (v.opening, subst (λ (x : ℕ). RuledAt load shape v.opening record { words = set s.words 2 x; homes = s.homes; views = set s.views id w }) (sym fits) rule),
        (refl, record { went = went load shape s id v h ended is at r w (by_me v a ∷ []) words r.drawer (but r.reserved k (with_more (r.reserved k) size)) refl (kept.0, tt) (own-mine (by_me v a)) (mine_alone load shape s id v h ended is at r a) kept.1 (omega arith) (let t0 = get_or-set_other s.words 2 0 (n + (entry_worth + size)) 0 (λ e. omega arith) in omega (arith, t0, r.reaches id v at)); before = H; prefix = (knows_me load shape s id v h ended is at r).prefix; depth = depth; few = few; view = refl }),
      )

  pub gives_allowed : (slots id size : ℕ) (m : Me (Option C) View) (h : ℕ) (ended : List ℕ) → m.0.callers ≡ h ∷ ended → m.0.slot ≡ None → CanGive (reserved_by (after m.0.opening m.0.seen) (caller_of m.0.callers)) size
      → Allows (Ruled load shape) slots id m 2 (λ n. (n + (2 ^ 64 - (entry_worth + size))) % 2 ^ 64) (gave_back size m)
  gives_allowed slots id size m h ended is idle give s ruled len at low =
      let v : View = m.0 in
      let r = opened load shape s id v h ended is at ruled in
      let H : List Deed = r.history in
      let q : Queue = now load shape s id v h ended is at r in
      let k : ℕ = me load shape s id v h ended is at r in
      let n : ℕ = slice_index s.words 2 in
      let a : Act = acts.GiveBack size in
      let w : View = depth_view v (steps.GiveBack size) a (v.allowance + 1) n (n - (entry_worth + size)) H in
      let sums = sum_views allowance s.views id v w at in
      let allowed : sum_by allowance s.views + entries q ≤ 524288 = r.allowed in
      let can : CanGive (reserved_by q k) size = subst (λ (x : Reservation). CanGive x size) (sym (reserved_now load shape s id v h ended is at r)) give in
      let can' : CanGive (r.reserved k) size = subst (λ (x : Reservation). CanGive x size) (r.stands.reserved k) can in
      let kept = give_back_kept (table_at shape s.words r.drawer r.reserved) q k size r.stands can' in
      let less = depth_giving q k size can in
      let depth : n ≡ entries q * entry_worth + bytes q = r.stands.depth in
      let few = few_bytes q r.stands.sound in
      let bounds : (entry_worth + size ≤ n) × (n < 2 ^ 64) = depth_bounds (table_at shape s.words r.drawer r.reserved) q k size r.stands can' in
      let fits : (n + (2 ^ 64 - (entry_worth + size))) % 2 ^ 64 ≡ n - (entry_worth + size) = omega (arith, bounds.0, bounds.1) in
      let words : List ℕ = set s.words 2 (n - (entry_worth + size)) in
      let rule : RuledAt load shape v.opening record { words = words; homes = s.homes; views = set s.views id w } =
      plain load shape s id v h ended is at r (by_me v a ∷ []) w words (but r.reserved k (with_less (r.reserved k) size)) r.enders refl (record { shape = refl; opening = refl; callers = refl; made = refl; alone = refl; consumers = refl }) refl refl (sym idle) (holds_idle (after q (by_me v a ∷ [])) id w refl) refl (r.reaches id v at)
      (kept.0, tt) (mine_alone load shape s id v h ended is at r a) (λ c ne. refl) (ends_more r.enders H (by_me v a) r.ends tt)
      (get_or-set_other s.words 2 0 (n - (entry_worth + size)) 0 (λ e. omega arith)) (get_or-set_other s.words 2 1 (n - (entry_worth + size)) 0 (λ e. omega arith))
      (λ i x less. get_or-set_other s.words 2 (draft_of i x) (n - (entry_worth + size)) 0 (λ e. omega (arith, draft_low i x)))
      kept.1 (record { rows = r.cargoes.rows; others = r.cargoes.others }) (omega (arith, sums, allowed, less.0))
      (watches_set shape q (by_me v a ∷ []) s.words words s.views id v w at refl (links_off shape q s.words 2 (n - (entry_worth + size)) (λ l lt. omega arith) (λ i less. omega arith)) r.watches) in (
        w,
        keeps,
        tt,
        (v.opening, subst (λ (x : ℕ). RuledAt load shape v.opening record { words = set s.words 2 x; homes = s.homes; views = set s.views id w }) (sym fits) rule),
        (refl, record { went = went load shape s id v h ended is at r w (by_me v a ∷ []) words r.drawer (but r.reserved k (with_less (r.reserved k) size)) refl (kept.0, tt) (own-mine (by_me v a)) (mine_alone load shape s id v h ended is at r a) kept.1 (omega arith) (let t0 = get_or-set_other s.words 2 0 (n - (entry_worth + size)) 0 (λ e. omega arith) in omega (arith, t0, r.reaches id v at)); before = H; prefix = (knows_me load shape s id v h ended is at r).prefix; depth = depth; few = few; view = refl }),
      )

  -- the same, told by the operand
  pub reserves_told : (slots id size : ℕ) (m : Me (Option C) View) (h : ℕ) (ended : List ℕ) → m.0.callers ≡ h ∷ ended → m.0.slot ≡ None → 1 ≤ m.0.allowance → size ≤ 1048576
      → Allows (Ruled load shape) slots id m 2 (λ n. (n + (entry_worth + size)) % 2 ^ 64) (reserves (step slots 2 (entry_worth + size) 0 maybe.none) m)
  reserves_told slots id size m h ended is idle room small s ruled len at low =
      let o = reserves_allowed slots id size m h ended is idle room small s ruled len at low in
      (o.0, o.1, o.2, o.3, λ size' e. let same : size ≡ size' = omega (arith, e) in subst (λ (z : ℕ). reserved {S = Option C} z m (slice_index s.words 2) (o.0, carried_after m.1 o.1)) same o.4)

-- the depth by its word
pub told_depth : (h : ℕ) (v w : View) (step : Step) (a : Act) (room n n' m : ℕ) → caller_of v.callers ≡ h → n' ≡ m → Deepens v w step a room n n' → DepthShown h v w step a m (record { entries = n / entry_worth; bytes = n % entry_worth })
told_depth h v w step a room n n' m is late d =
    let q : Queue = after v.opening d.before in
    let e : n ≡ entries q * entry_worth + bytes q = d.depth in
    let few : bytes q < entry_worth = d.few in
    let mine : by_me v a ≡ deed h a = ap (λ (k : ℕ). deed k a) is in
    let es : n / entry_worth ≡ entries q = omega (arith, e, few) in
    let bs : n % entry_worth ≡ bytes q = omega (arith, e, few) in
    let word : n ≡ n / entry_worth * entry_worth + n % entry_worth = omega (arith) in record {
      before = d.before;
      prefix = d.prefix;
      seen_is = ap (λ (z : View). z.seen) d.view ∙ ap (λ (z : Deed). d.before ++ z ∷ []) mine;
      depth_is = λ i. record { entries = es i; bytes = bs i };
      shown_is = ap (λ (z : View). z.shown) d.view ∙ ap₂ (λ (z : ℕ) (l : List Deed). v.shown ++ entry step z n' l ∷ []) word (sym (ap (λ (z : View). z.seen) d.view)) ∙ ap (λ (z : ℕ). v.shown ++ entry step (n / entry_worth * entry_worth + n % entry_worth) z w.seen ∷ []) late;
    }
