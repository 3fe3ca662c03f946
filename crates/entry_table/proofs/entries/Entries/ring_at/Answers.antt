use Rattle.std.proofs.Common.{arith, ◌≡◌, ◌+◌, ◌*◌, ℕ, sym, ap, ◌∙◌, subst}
use Rattle.queue_model.specs.declared.deeds.Act.TheVariants as acts
use Rattle.queue_model.specs.declared.limits.TheConstants.{PLACE_WORTH}
use Rattle.queue_model.specs.declared.steps.Step.TheVariants as steps
use Rattle.link_core.specs.Layout.{bell_of}
use Rattle.entry_table.specs.declared.view.Shape.{Shape}
use Rattle.entry_table.specs.Bells.{at_bell}
use Rattle.entry_table.specs.Views.{caller_of, rest_of}
use Rattle.entry_table.proofs.Belled.{ring_at, acts_at_bell}
use Rattle.entry_table.proofs.entries.Entries.ring_at.Goals as goal

pub fetch_min-requires : goal.fetch_min-requires
fetch_min-requires g c =
    let e = c.args.self.now in
    let low = c.requires.low in let wide = e.wide in let is = c.bell_place-word.ensures in let fewer = e.consumers in let less = c.requires.consumer in
    let keyed = ap (λ (s : Shape). s.consumers) e.keyed in (
      c.requires.table,
      omega (arith, low.0, wide, is, fewer, less),
      ring_at g.C.Freight.goods e.table.shared.key _ _ _ c.args.consumer c.args.row g.J.Belling.along g.J.Belling.consumer g.J.Belling.number _ c.args.seat.now.me c.args.caller (rest_of c.args.seat.now.me.0.callers)
          (is ∙ ap (λ (s : Shape). bell_of s.rows c.args.consumer c.args.list) (sym e.keyed) ∙ ap (bell_of e.table.shared.key.rows c.args.consumer) (sym c.requires.picked.1)) c.requires.picked.0 c.requires.picked.2 (c.requires.picked.1 ∙ c.requires.list)
          (ap (λ (n : ℕ). n * PLACE_WORTH + c.args.row) c.requires.place) c.requires.caller c.requires.idle (omega (arith, less, keyed)) c.requires.known.0 c.requires.known.1,
    )

pub returns-clause-told : goal.returns-clause-told
returns-clause-told g c =
    subst (λ (z : ℕ × ℕ × ℕ). at_bell (steps.Ring z.0 z.2) (acts.Bell z.2 z.0) z.0 z.1 c.args.seat.now.me c.fetch_min.result c.fetch_min.new.seat.me) (λ j. (c.requires.picked.0 j, c.requires.picked.1 j, c.requires.picked.2 j)) c.fetch_min.ensures.2

pub returns-clause-rings : goal.returns-clause-rings
returns-clause-rings g c = acts_at_bell c.args.caller _ _ _ _ c.args.consumer c.args.list _ (ap caller_of c.requires.caller) (returns-clause-told g c).1
