use Rattle.std.proofs.Common.{◌∙◌, ◌<◌, ℕ, Option, None, length, refl, sym, subst, arith}
use Rattle.acts_core.specs.Calls.{CallNext}
use Rattle.acts_core.specs.Meaning.{Called}
use Rattle.acts_core.specs.Replies.{of_next}
use Rattle.entry_table.specs.Sights.{build_of, sight}
use Rattle.cursor_core.specs.declared.cursor.Cursor.{Cursor}
use Rattle.cursor_core.specs.Holding.{GoesOn}
use Rattle.cursor_core.proofs.Slots.{any_default, below_places, first_own, true_next, walks_on}
use Rattle.cursor_core.proofs.handing.next_in.Goals as goal

pub returns-clause-called : goal.returns-clause-called
returns-clause-called g c =
    let old = sight c.args.pass.now in
    let new = sight c.next_at.new.pass in
    let slots = c.args.slots.now in
    let low = below_places old slots 64 c.args.consumer c.requires.truth c.requires.places c.requires.consumer in
    let places = c.requires.places in
    let within : c.args.consumer < length slots = omega (arith, low, places) in
    let here = any_default slots c.args.consumer c.index-slots-consumer.result None within in
    let goes = c.next_at.ensures.goes in
    subst (λ (n : ℕ). (list : ℕ) × Called (build_of c.args.entries.now) old new (CallNext n) (of_next g.C.Freight.goods list c.next_at.result))
    (first_own old c.args.consumer slots goes.first (c.requires.truth.own c.args.consumer c.requires.consumer) (sym here ∙ goes.from)) goes.called

pub returns-clause-truth : goal.returns-clause-truth
returns-clause-truth g c =
    let old = sight c.args.pass.now in
    let new = sight c.next_at.new.pass in
    let slots = c.args.slots.now in
    let low = below_places old slots 64 c.args.consumer c.requires.truth c.requires.places c.requires.consumer in
    let places = c.requires.places in
    let within : c.args.consumer < length slots = omega (arith, low, places) in
    let here = any_default slots c.args.consumer c.index-slots-consumer.result None within in
    true_next g.C.Freight.goods (build_of c.args.entries.now) old new c.args.consumer slots _ c.next_at.new.slot c.next_at.result within (λ d. refl) c.next_at.ensures.kept.consumers c.requires.consumer c.requires.truth
    (subst (λ (o : Option Cursor). GoesOn g.C.Freight.goods (build_of c.args.entries.now) old new o c.next_at.new.slot c.next_at.result) here c.next_at.ensures.goes)

pub returns-clause-walks : goal.returns-clause-walks
returns-clause-walks g c =
    let old = sight c.args.pass.now in
    let new = sight c.next_at.new.pass in
    let slots = c.args.slots.now in
    let low = below_places old slots 64 c.args.consumer c.requires.truth c.requires.places c.requires.consumer in
    let places = c.requires.places in
    let within : c.args.consumer < length slots = omega (arith, low, places) in
    let here = any_default slots c.args.consumer c.index-slots-consumer.result None within in
    walks_on g.C.Freight.goods (build_of c.args.entries.now) old new c.args.consumer slots _ c.next_at.new.slot c.next_at.result within (λ d. refl)
    (subst (λ (o : Option Cursor). GoesOn g.C.Freight.goods (build_of c.args.entries.now) old new o c.next_at.new.slot c.next_at.result) here c.next_at.ensures.goes)
