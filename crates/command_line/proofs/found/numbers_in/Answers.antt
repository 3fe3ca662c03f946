use Rattle.std.proofs.Common.{◌≡◌, ◌∙◌, List, ℕ, Some, ap, ap₂, is_some, subst, sym, true}
use Rattle.command_line.specs.Found.{HasNumbers}
use Rattle.command_line.specs.Numbers.{is_numeral, number_of}
use Rattle.command_line.specs.declared.asked.Asked.TheVariants.{Generate}
use Rattle.command_line.proofs.Numbering.{count_is_numeral}
use Rattle.command_line.proofs.found.numbers_in.Goals as goal

pub operand_in-number-requires : goal.operand_in-number-requires
operand_in-number-requires c = ap is_some c.requires.2.number_found

pub operand_in-count-requires : goal.operand_in-count-requires
operand_in-count-requires c = ap is_some c.requires.2.count_found

pub number_of-requires : goal.number_of-requires
number_of-requires c =
    let h = c.requires.2 in
    let both_are : Some c.operand_in-number.result.now ≡ Some h.number_text = sym c.operand_in-number.ensures ∙ h.number_found in
    let same : h.number_text ≡ c.operand_in-number.result.now = cc in
    subst (λ (text : List ℕ). is_numeral 19 text ≡ true) (same ∙ sym c.as_bytes.ensures.value) h.number_shape

pub number_of-requires-2 : goal.number_of-requires-2
number_of-requires-2 c =
    let h = c.requires.2 in
    let both_are : Some c.operand_in-count.result.now ≡ Some h.count_text = sym c.operand_in-count.ensures ∙ h.count_found in
    let same : h.count_text ≡ c.operand_in-count.result.now = cc in
    subst (λ (text : List ℕ). is_numeral 19 text ≡ true) (same ∙ sym c.as_bytes-2.ensures.value) (count_is_numeral h.count_text h.count_shape)

pub returns : goal.returns
returns c = λ number count h.
    let numbers_are : Some c.operand_in-number.result.now ≡ Some h.number_text = sym c.operand_in-number.ensures ∙ h.number_found in
    let number_same : h.number_text ≡ c.operand_in-number.result.now = cc in
    let counts_are : Some c.operand_in-count.result.now ≡ Some h.count_text = sym c.operand_in-count.ensures ∙ h.count_found in
    let count_same : h.count_text ≡ c.operand_in-count.result.now = cc in
    sym (ap₂ (λ (n m : ℕ). Generate n m)
    (h.number_is ∙ ap number_of (number_same ∙ sym c.as_bytes.ensures.value) ∙ sym c.number_of.ensures)
    (h.count_is ∙ ap number_of (count_same ∙ sym c.as_bytes-2.ensures.value) ∙ sym c.number_of-2.ensures))
