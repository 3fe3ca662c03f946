use Rattle.std.proofs.Common.{◌≡◌, eqb, true, get_or, ◌∙◌, sym, eq-eqb}
use Rattle.std.proofs.lemmas.List.{take_rest}
use Rattle.selector_tokens.specs.Lexing.{first_token}
use Rattle.selector_tokens.proofs.first.first_of.Goals as goal

pub returns-then-first-eq39 : goal.returns-then-first-eq39
unfolding first_token
returns-then-first-eq39 c =
    let text = c.args.text.now in
    let no_name = sym c.begins_name.ensures ∙ c.if-begins_name.false in
    let no_digit = sym c.is_ascii_digit.ensures.value ∙ c.if-is_ascii_digit.false in
    let quote : eqb (get_or text 0 0) 39 ≡ true = eq-eqb _ _ c.if-first-eq39.true in
    let found = rw (take_rest text 1) at c.string_of.ensures in
    rw (no_name, no_digit, quote) found
