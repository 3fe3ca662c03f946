use Rattle.std.proofs.Common.{rules, arith, sym, ap, ◌∙◌, subst}
use Rattle.queue_model.specs.declared.steps.Step.{Step}
use Rattle.link_core.specs.Steps.{place_of_step}
use Rattle.entry_table.specs.declared.view.Shape.{Shape}
use Rattle.entry_table.specs.Plays.{looked}
use Rattle.entry_table.specs.Views.{rest_of}
use Rattle.entry_table.proofs.Looking.{looks_allowed}
use Rattle.entry_table.proofs.Places.{word_low}
use Rattle.entry_table.proofs.entries.Entries.look_at.Goals as goal

pub word_place-place-requires : goal.word_place-place-requires
word_place-place-requires g c = let e = c.args.self.now in let low = word_low e.shape c.args.word e.consumers c.requires.word in let rows = e.rows in let lists = e.lists in omega (arith, low, rows, lists)

pub load-requires : goal.load-requires
load-requires g c =
    let e = c.args.self.now in
    let low = word_low e.shape c.args.word e.consumers c.requires.word in
    let wide = e.wide in
    let is = c.word_place-place.ensures in (
      search rules,
      omega (arith, low, wide, is),
      looks_allowed g.C.Freight.goods e.table.shared.key _ _ _ g.J.Trying.step c.args.seat.now.me c.args.caller (rest_of c.args.seat.now.me.0.callers) (λ ws. is ∙ ap (place_of_step e.shape.rows ws) (sym c.requires.step) ∙ ap (λ (z : Shape). place_of_step z.rows ws g.J.Trying.step) (sym e.keyed)) c.requires.caller,
    )

pub returns-clause-told : goal.returns-clause-told
returns-clause-told g c = subst (λ (s : Step). looked s c.args.seat.now.me c.load.result c.load.new.seat.me) c.requires.step c.load.ensures.2
