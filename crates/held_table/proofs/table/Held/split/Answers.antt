use Rattle.std.proofs.Common.{◌≡◌, ◌∷◌, ℕ, ap, sym, ◌∙◌, subst, length}
use Rattle.atomic_table.specs.declared.badge.Badge.{Badge}
use Rattle.queue_model.specs.declared.deeds.Deed.{Deed}
use Rattle.history_lock.specs.declared.view.View.{View}
use Rattle.history_lock.specs.Views.{Has}
use Rattle.held_table.specs.declared.view.Outset.{Outset}
use Rattle.held_table.specs.Parts.{IsSplit}
use Rattle.held_table.specs.Seats.{Parted}
use Rattle.held_table.specs.Sights.{view, sight_by}
use Rattle.held_table.specs.Views.{view_in, outset_in, rest_of}
use Rattle.held_table.proofs.Members.{mem_has, has_mem}
use Rattle.held_table.proofs.Parting.{is_split, sits_boss, sits_new}
use Rattle.held_table.proofs.table.Held.split.Goals as goal

pub split_at-caller-requires-clause-has : goal.split_at-caller-requires-clause-has
split_at-caller-requires-clause-has g c k x =
    let before : c.into_seat-seat.result.me.0 ≡ view c.args.boss.now = ap view_in (sym c.into_seat-seat.ensures.2) ∙ ap (λ (b : Badge (View Outset Deed)). view_in b.views) c.replace.ensures.value in
    subst (λ (z : View Outset Deed). Has k z.consumers) (sym before) (mem_has k (view c.args.boss.now).consumers (c.requires.may.has k (has_mem k c.args.consumers.now x)))

pub returns-clause-serves : goal.returns-clause-serves
returns-clause-serves g c =
    let v = view c.args.boss.now in
    let w = view_in c.into_badge.result.views in
    let u = view_in c.into_badge-badge.result.views in
    let cs = c.args.consumers.now in
    let n = c.args.allowance in
    let before : c.into_seat-seat.result.me.0 ≡ v = ap view_in (sym c.into_seat-seat.ensures.2) ∙ ap (λ (b : Badge (View Outset Deed)). view_in b.views) c.replace.ensures.value in
    let later : w ≡ c.split_at-caller.new.seat.me.0 = ap view_in c.into_badge.ensures.2 in
    let new : u ≡ c.split_at-caller.result.1.me.0 = ap view_in c.into_badge-badge.ensures.2 in
    let p : Parted g.Q.BareCore.keeps v w u cs n c.split_at-caller.result.0 = subst (λ (z : View Outset Deed × View Outset Deed × View Outset Deed). Parted g.Q.BareCore.keeps z.0 z.1 z.2 cs n c.split_at-caller.result.0) (λ i. (before i, sym later i, sym new i)) c.split_at-caller.ensures.parted in
    let is : v.callers ≡ 0 ∷ rest_of v.callers = c.args.boss.now.speaks ∙ ap (λ (k : ℕ). k ∷ rest_of v.callers) c.requires.may.boss in
    let home = c.into_seat-seat.ensures.0 ∙ ap (λ (b : Badge (View Outset Deed)). b.table_id) c.replace.ensures.value ∙ c.requires.serves.table in (
      record {
        table = c.into_badge.ensures.0 ∙ c.split_at-caller.ensures.table.0 ∙ home;
        rows = ap (λ (z : View Outset Deed). (outset_in z).rows) p.boss ∙ c.requires.serves.rows;
        entries = ap (λ (z : View Outset Deed). length (outset_in z).opening.rows) p.boss ∙ c.requires.serves.entries;
        sits = sits_boss g.Q.BareCore.keeps v w u cs n c.split_at-caller.result.0 p is c.requires.serves.sits;
      },
      record {
        table = c.into_badge-badge.ensures.0 ∙ c.split_at-caller.ensures.table.2 ∙ home;
        rows = ap (λ (z : View Outset Deed). (outset_in z).rows) p.new ∙ c.requires.serves.rows;
        entries = ap (λ (z : View Outset Deed). length (outset_in z).opening.rows) p.new ∙ c.requires.serves.entries;
        sits = sits_new g.Q.BareCore.keeps v w u cs n c.split_at-caller.result.0 p is c.requires.serves.sits c.requires.may.has;
      },
    )

pub returns-clause-split : goal.returns-clause-split
returns-clause-split g c =
    let v = view c.args.boss.now in
    let w = view_in c.into_badge.result.views in
    let u = view_in c.into_badge-badge.result.views in
    let cs = c.args.consumers.now in
    let n = c.args.allowance in
    let before : c.into_seat-seat.result.me.0 ≡ v = ap view_in (sym c.into_seat-seat.ensures.2) ∙ ap (λ (b : Badge (View Outset Deed)). view_in b.views) c.replace.ensures.value in
    let later : w ≡ c.split_at-caller.new.seat.me.0 = ap view_in c.into_badge.ensures.2 in
    let new : u ≡ c.split_at-caller.result.1.me.0 = ap view_in c.into_badge-badge.ensures.2 in
    let p : Parted g.Q.BareCore.keeps v w u cs n c.split_at-caller.result.0 = subst (λ (z : View Outset Deed × View Outset Deed × View Outset Deed). Parted g.Q.BareCore.keeps z.0 z.1 z.2 cs n c.split_at-caller.result.0) (λ i. (before i, sym later i, sym new i)) c.split_at-caller.ensures.parted in
    let is : v.callers ≡ 0 ∷ rest_of v.callers = c.args.boss.now.speaks ∙ ap (λ (k : ℕ). k ∷ rest_of v.callers) c.requires.may.boss in
    subst (λ (h : ℕ). IsSplit (sight_by h v) (sight_by h w) (sight_by c.split_at-caller.result.0 u) cs n) (sym c.requires.may.boss)
    (is_split g.Q.BareCore.keeps v w u cs n c.split_at-caller.result.0 p is c.requires.serves.sits)
