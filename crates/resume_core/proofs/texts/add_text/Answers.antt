use Rattle.std.proofs.Common.{◌≡◌, ℕ, List, Bool, true, cond, not, Some, ap, sym, ◌∙◌}
use Rattle.std.specs.Prelude.{◌||◌}
use Rattle.std.specs.Str.{bytes_eq}
use Rattle.std.proofs.lemmas.Map.Text.{is_eq-slice_cmp}
use Rattle.resume_core.specs.Keeping.{has_key}
use Rattle.resume_core.specs.Steps.{has_text}
use Rattle.defs_read.specs.declared.defs.QueueKind.TheVariants.{LastValue}
use Rattle.resume_core.proofs.Filing.{not_not, or_cond, swapped_text, text_is}
use Rattle.resume_core.proofs.texts.add_text.Goals as goal
use Rattle.resume_core.proofs.texts.add_text.Goals.{in-Ok, in-Err}

pub returns-clause-met : goal.returns-clause-met
returns-clause-met c = λ name ks has.
    let copy = c.into_vec.result in
    let is : copy.items ≡ c.args.text.now = c.into_vec.ensures ∙ c.in_ok-copy.ensures ∙ c.as_slice.ensures in
    elim c.match-insert.branch [
      | in-Ok w ↦ rw w.result-is (
          not_not w.in-Ok.new (has_key (LastValue name) (Some c.args.text.now) ks)
          (w.in-Ok.ensures.added ∙ ap not (text_is copy.items c.args.texts.now.keys ∙ has copy ∙ ap (λ (t : List ℕ). has_key (LastValue name) (Some t) ks) is)))
      | in-Err w ↦ rw w.result-is tt
    ]

pub returns-clause-added : goal.returns-clause-added
returns-clause-added c =
    let copy = c.into_vec.result in
    let is : copy.items ≡ c.args.text.now = c.into_vec.ensures ∙ c.in_ok-copy.ensures ∙ c.as_slice.ensures in
    elim c.match-insert.branch [
      | in-Ok w ↦ rw w.result-is (λ other.
          sym (text_is other.items c.insert.new.self.keys)
          ∙ w.in-Ok.ensures.updates.0 other
          ∙ (λ i. cond (is_eq-slice_cmp copy.items other.items i) true (text_is other.items c.args.texts.now.keys i))
          ∙ or_cond (bytes_eq copy.items other.items) (has_text c.args.texts.now other.items)
          ∙ ap (λ (b : Bool). b || has_text c.args.texts.now other.items) (swapped_text copy.items other.items ∙ ap (bytes_eq other.items) is))
      | in-Err w ↦ rw w.result-is tt
    ]
