use Rattle.std.proofs.Common.{ap, sym, ◌∙◌, subst, refl, ◌≤◌, ℕ}
use Rattle.queue_model.specs.declared.deeds.Deed.{Deed}
use Rattle.history_lock.specs.declared.view.View.{View}
use Rattle.history_lock.specs.Views.{Has}
use Rattle.held_table.specs.declared.view.Outset.{Outset}
use Rattle.held_table.specs.Views.{outset_in, rest_of}
use Rattle.held_table.proofs.Parting.{speaks_two, apart_two, some, opening_two, parted}
use Rattle.held_table.proofs.table.Held.split_at.Goals as goal

pub number-drawn-requires-clause-live : goal.number-drawn-requires-clause-live
number-drawn-requires-clause-live g c = let v = c.args.seat.now.me.0 in (outset_in v, record { opening = c.requires.live.0; caller = 0; ended = rest_of v.callers; speaks = c.requires.live.1 }, refl)

pub cut_by-part-requires-clause-live : goal.cut_by-part-requires-clause-live
cut_by-part-requires-clause-live g c =
    let v = c.args.seat.now.me.0 in
    let d = (c.number-drawn.ensures.told (outset_in v) c.requires.live.0).1 in
    (opening_two g.Q.BareCore.keeps v c.number-drawn.new.seat.me.0 v v c.args.consumers.now c.args.amount c.number-drawn.result c.requires.live.0 c.requires.live.1 d, ap (λ (x : View Outset Deed). x.holding) d.view ∙ c.requires.idle.1)

pub cut_by-part-requires-clause-callers : goal.cut_by-part-requires-clause-callers
cut_by-part-requires-clause-callers g c =
    let v = c.args.seat.now.me.0 in
    let m = c.number-drawn.new.seat.me.0 in
    let keeps = g.Q.BareCore.keeps in
    let d = (c.number-drawn.ensures.told (outset_in v) c.requires.live.0).1 in (
      speaks_two keeps v m v v c.args.consumers.now c.args.amount c.number-drawn.result c.requires.live.0 c.requires.live.1 d,
      apart_two keeps v m v v c.args.consumers.now c.args.amount c.number-drawn.result c.requires.live.0 c.requires.live.1 d,
      some keeps v m v v c.args.consumers.now c.args.amount c.number-drawn.result c.requires.live.0 c.requires.live.1 d,
    )

pub cut_by-part-requires-clause-has : goal.cut_by-part-requires-clause-has
cut_by-part-requires-clause-has g c k x =
    let v = c.args.seat.now.me.0 in
    let d = (c.number-drawn.ensures.told (outset_in v) c.requires.live.0).1 in
    subst (Has k) (sym (ap (λ (x : View Outset Deed). x.consumers) d.view)) (c.requires.has k x)

pub cut_by-part-requires-clause-enough : goal.cut_by-part-requires-clause-enough
cut_by-part-requires-clause-enough g c =
    let v = c.args.seat.now.me.0 in
    let d = (c.number-drawn.ensures.told (outset_in v) c.requires.live.0).1 in (
      subst (λ (n : ℕ). c.args.amount ≤ n) (sym (ap (λ (x : View Outset Deed). x.allowance) d.view)) c.requires.enough.0,
      subst (λ (n : ℕ). c.args.amount ≤ n) (sym (ap (λ (x : View Outset Deed). x.share) d.view)) c.requires.enough.1,
    )

pub returns-clause-carried : goal.returns-clause-carried
returns-clause-carried g c =
    let v = c.args.seat.now.me.0 in
    let t = c.number-drawn.ensures.told (outset_in v) c.requires.live.0 in
    (ap (λ m. m.1) c.cut_by-part.ensures.views.0 ∙ t.0 ∙ c.requires.idle.0, ap (λ m. m.1) c.cut_by-part.ensures.views.1)

pub returns-clause-parted : goal.returns-clause-parted
returns-clause-parted g c =
    let v = c.args.seat.now.me.0 in
    let d = (c.number-drawn.ensures.told (outset_in v) c.requires.live.0).1 in
    parted g.Q.BareCore.keeps v c.number-drawn.new.seat.me.0 c.cut_by-part.new.seat.me.0 c.cut_by-part.result.me.0 c.args.consumers.now c.args.amount c.number-drawn.result c.requires.live.0 c.requires.live.1 d
    (ap (λ m. m.0) c.cut_by-part.ensures.views.0) (ap (λ m. m.0) c.cut_by-part.ensures.views.1) c.requires.idle.1
