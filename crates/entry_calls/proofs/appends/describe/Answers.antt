use Rattle.std.proofs.Common.{rules, refl, sym, ◌∙◌, ℕ, subst, []}
use Rattle.queue_model.specs.declared.steps.DraftWord.TheVariants as drafts
use Rattle.entry_table.specs.declared.view.Drawing.{Drawing}
use Rattle.entry_table.specs.Views.{blank_drawing, with_word}
use Rattle.entry_calls.specs.Appends.{Drafts}
use Rattle.entry_calls.proofs.Running.{ran_then, describes}
use Rattle.entry_calls.proofs.appends.describe.Goals as goal

pub returns-clause-described : goal.returns-clause-described
returns-clause-described g c =
    let row : ℕ = c.args.draft.now.row in
    let p1 = c.write_down.new.pass in let p2 = c.write_down-2.new.pass in let p3 = c.write_down-3.new.pass in let p4 = c.write_down-4.new.pass in
    let e1 = c.write_down.ensures.same.0 in
    let e2 = c.write_down-2.ensures.same.0 ∙ e1 in
    let e3 = c.write_down-3.ensures.same.0 ∙ e2 in
    let d1 : Drawing = with_word drafts.Mask c.args.slip.now.mask (blank_drawing row) in
    let d2 : Drawing = with_word drafts.Ident c.args.slip.now.id d1 in
    let d3 : Drawing = with_word drafts.Size c.args.slip.now.size d2 in
    let w1 : Drafts p1 row d1 = c.write_down.ensures.written (blank_drawing row) c.requires.blank refl in
    let w2 : Drafts p2 row d2 = subst (λ (k : ℕ). Drafts p2 k d2) e1 (c.write_down-2.ensures.written d1 (subst (λ (k : ℕ). Drafts p1 k d1) (sym e1) w1) refl) in
    let w3 : Drafts p3 row d3 = subst (λ (k : ℕ). Drafts p3 k d3) e2 (c.write_down-3.ensures.written d2 (subst (λ (k : ℕ). Drafts p2 k d2) (sym e2) w2) refl) in
    let w4 = subst (λ (k : ℕ). Drafts p4 k (with_word drafts.List c.from.result d3)) e3 (c.write_down-4.ensures.written d3 (subst (λ (k : ℕ). Drafts p3 k d3) (sym e3) w3) refl) in
    describes p4 row c.args.slip.now _ (search rules) w4
