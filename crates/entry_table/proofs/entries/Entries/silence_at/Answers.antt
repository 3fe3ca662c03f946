use Rattle.std.proofs.Common.{arith, ◌≡◌, ◌%◌, ℕ, sym, ap, ◌∙◌, subst}
use Rattle.queue_model.specs.declared.deeds.Act.TheVariants as acts
use Rattle.queue_model.specs.declared.steps.Step.TheVariants as steps
use Rattle.link_core.specs.declared.places.TheConstants.{LIST_BELLS}
use Rattle.link_core.specs.Layout.{bell_of}
use Rattle.entry_table.specs.declared.view.Shape.{Shape}
use Rattle.entry_table.specs.Bells.{at_bell}
use Rattle.entry_table.specs.Views.{rest_of}
use Rattle.entry_table.proofs.Belled.{mem_has, take_at}
use Rattle.entry_table.proofs.entries.Entries.silence_at.Goals as goal

pub swap-requires : goal.swap-requires
swap-requires g c =
    let e = c.args.self.now in
    let low = c.requires.list in let wide = e.wide in let is = c.bell_place-word.ensures in let fewer = e.consumers in
    let lists = ap (λ (s : Shape). s.lists) e.keyed in let consumers = ap (λ (s : Shape). s.consumers) e.keyed in (
      c.requires.table,
      omega (arith, low, wide, is),
      take_at g.C.Freight.goods e.table.shared.key _ _ _ c.args.consumer c.args.list (c.args.consumer % LIST_BELLS) g.J.Belling.consumer g.J.Belling.along c.args.seat.now.me c.args.caller (rest_of c.args.seat.now.me.0.callers)
          (is ∙ ap (λ (s : Shape). bell_of s.rows (c.args.consumer % LIST_BELLS) c.args.list) (sym e.keyed)) (λ less. omega (arith, less, fewer, consumers)) c.requires.picked.0 c.requires.picked.1 c.requires.caller c.requires.idle (mem_has c.args.consumer c.args.seat.now.me.0.consumers c.requires.consumer) (omega (arith, low, lists)),
    )

pub returns-clause-told : goal.returns-clause-told
returns-clause-told g c =
    subst (λ (z : ℕ × ℕ). at_bell (steps.TakeBell z.0 z.1) (acts.Take z.0 z.1) z.0 z.1 c.args.seat.now.me c.swap.result c.swap.new.seat.me) (λ j. (c.requires.picked.0 j, c.requires.picked.1 j)) c.swap.ensures.2
