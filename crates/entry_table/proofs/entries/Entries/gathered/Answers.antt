use Rattle.std.proofs.Common.{◌≡◌, ℕ, ◌∙◌, sym, ap, subst, arith, List, ◌∷◌}
use Rattle.std.specs.Slots.{slots_items, slots_len, slots_counts}
use Rattle.atomic_table.specs.Table.{Final, Seen}
use Rattle.queue_model.specs.declared.queues.Queue.{Queue}
use Rattle.entry_table.specs.declared.view.Shape.{Shape}
use Rattle.entry_table.specs.declared.view.View.{View}
use Rattle.entry_table.specs.Rule.{Ruled}
use Rattle.entry_table.specs.Views.{view_in, rest_of}
use Rattle.entry_table.specs.Resting.{Legible}
use Rattle.entry_table.specs.Passes.{view, state}
use Rattle.entry_table.proofs.Remaining.{no_keys}
use Rattle.entry_table.proofs.Leaving.{leaves, callers_made, rests_fit, none_long, starts, finishes}
use Rattle.entry_table.proofs.entries.Entries.gathered.Goals as goal

pub gather_all-requires-clause-words : goal.gather_all-requires-clause-words
gather_all-requires-clause-words g c =
    (c.close_with-closed.ensures.values.0, c.close_with-closed.ensures.counts.0 ∙ c.args.self.wide)

pub gather_all-requires-clause-at : goal.gather_all-requires-clause-at
gather_all-requires-clause-at g c =
    let goods = g.C.Freight.goods in
    let key = c.args.self.table.shared.key in
    let v : View = view c.args.boss in
    let q : Queue = state c.args.boss in
    let ws = slots_items c.close_with-closed.result.words in
    let xs = slots_items c.close_with-closed.result.slots in
    let ps = xs in
    let fin = subst (λ (z : View). Final (Seen (Ruled goods key) c.into_seat.result.id z) ws xs) (ap view_in (sym c.into_seat.ensures.2)) c.close_with-closed.ensures.values.2 in
    let is : v.callers ≡ 0 ∷ rest_of v.callers = c.args.boss.speaks ∙ ap (λ (k : ℕ). k ∷ rest_of v.callers) c.requires.boss in
    let x = leaves goods key c.into_seat.result.id v (rest_of v.callers) ws xs ps is c.requires.every c.requires.settled fin (λ k y e. e) in
    let readable = subst (λ (z : List ℕ × ℕ). Legible z.0 z.1 q) (λ i. (ws, ap (λ (s : Shape). s.rows) c.args.self.keyed i)) x.0 in
    let lists : c.args.self.shape.lists ≡ q.lists = sym (c.args.boss.within.lists ∙ ap (λ (s : Shape). s.lists) c.requires.table.shape) in
    let rested = starts goods q c.args.self.shape.lists c.args.self.rest.items ps (none_long c.args.self.rest.items (let a = c.args.self.rest.ok in let b = c.args.self.room.0 in omega (arith, a, b))) lists x.1 in
    let fit = rests_fit goods ps _ x.1 in let long = (slots_counts c.close_with-closed.result.slots).0 in let count = c.close_with-closed.ensures.counts.1 in let slots = c.args.self.slots in let room = c.args.self.room.1 in
    (q, readable, lists, rested, omega (arith, fit, long, count, slots, room))

pub returns-clause-rest : goal.returns-clause-rest
returns-clause-rest g c =
    let goods = g.C.Freight.goods in
    let key = c.args.self.table.shared.key in
    let v : View = view c.args.boss in
    let q : Queue = state c.args.boss in
    let ws = slots_items c.close_with-closed.result.words in
    let xs = slots_items c.close_with-closed.result.slots in
    let ps = xs in
    let fin = subst (λ (z : View). Final (Seen (Ruled goods key) c.into_seat.result.id z) ws xs) (ap view_in (sym c.into_seat.ensures.2)) c.close_with-closed.ensures.values.2 in
    let is : v.callers ≡ 0 ∷ rest_of v.callers = c.args.boss.speaks ∙ ap (λ (k : ℕ). k ∷ rest_of v.callers) c.requires.boss in
    let x = leaves goods key c.into_seat.result.id v (rest_of v.callers) ws xs ps is c.requires.every c.requires.settled fin (λ k y e. e) in
    let readable = subst (λ (z : List ℕ × ℕ). Legible z.0 z.1 q) (λ i. (ws, ap (λ (s : Shape). s.rows) c.args.self.keyed i)) x.0 in
    let lists : c.args.self.shape.lists ≡ q.lists = sym (c.args.boss.within.lists ∙ ap (λ (s : Shape). s.lists) c.requires.table.shape) in
    let rested = starts goods q c.args.self.shape.lists c.args.self.rest.items ps (none_long c.args.self.rest.items (let a = c.args.self.rest.ok in let b = c.args.self.room.0 in omega (arith, a, b))) lists x.1 in
    finishes goods q c.gather_all.new.rest.items (slots_items c.gather_all.new.closed.slots) (c.gather_all.ensures.rested q readable lists rested)

pub returns-clause-keys : goal.returns-clause-keys
returns-clause-keys g c =
    let goods = g.C.Freight.goods in
    let key = c.args.self.table.shared.key in
    let v : View = view c.args.boss in
    let q : Queue = state c.args.boss in
    let ws = slots_items c.close_with-closed.result.words in
    let xs = slots_items c.close_with-closed.result.slots in
    let ps = xs in
    let fin = subst (λ (z : View). Final (Seen (Ruled goods key) c.into_seat.result.id z) ws xs) (ap view_in (sym c.into_seat.ensures.2)) c.close_with-closed.ensures.values.2 in
    let is : v.callers ≡ 0 ∷ rest_of v.callers = c.args.boss.speaks ∙ ap (λ (k : ℕ). k ∷ rest_of v.callers) c.requires.boss in
    let x = leaves goods key c.into_seat.result.id v (rest_of v.callers) ws xs ps is c.requires.every c.requires.settled fin (λ k y e. e) in
    let readable = subst (λ (z : List ℕ × ℕ). Legible z.0 z.1 q) (λ i. (ws, ap (λ (s : Shape). s.rows) c.args.self.keyed i)) x.0 in
    let lists : c.args.self.shape.lists ≡ q.lists = sym (c.args.boss.within.lists ∙ ap (λ (s : Shape). s.lists) c.requires.table.shape) in
    let rested = starts goods q c.args.self.shape.lists c.args.self.rest.items ps (none_long c.args.self.rest.items (let a = c.args.self.rest.ok in let b = c.args.self.room.0 in omega (arith, a, b))) lists x.1 in
    no_keys goods q ws q.lists c.gather_all.new.rest.items readable.apart readable.drafted
    (finishes goods q c.gather_all.new.rest.items (slots_items c.gather_all.new.closed.slots) (c.gather_all.ensures.rested q readable lists rested))

pub returns-clause-callers : goal.returns-clause-callers
returns-clause-callers g c =
    let goods = g.C.Freight.goods in
    let key = c.args.self.table.shared.key in
    let v : View = view c.args.boss in
    let q : Queue = state c.args.boss in
    let ws = slots_items c.close_with-closed.result.words in
    let xs = slots_items c.close_with-closed.result.slots in
    let ps = xs in
    let fin = subst (λ (z : View). Final (Seen (Ruled goods key) c.into_seat.result.id z) ws xs) (ap view_in (sym c.into_seat.ensures.2)) c.close_with-closed.ensures.values.2 in
    let is : v.callers ≡ 0 ∷ rest_of v.callers = c.args.boss.speaks ∙ ap (λ (k : ℕ). k ∷ rest_of v.callers) c.requires.boss in
    callers_made goods key c.into_seat.result.id v (rest_of v.callers) ws xs is fin
