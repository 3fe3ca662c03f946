use Rattle.std.proofs.Common.{◌∙◌, ap, ◌∷◌, ◌++◌, ◌≡◌, sym, encode_utf8}
use Rattle.std.specs.Str.{chars}
use Rattle.std.proofs.lemmas.Str.{chars_past_char}
use Rattle.selector_eval.proofs.patterns.split_first.Goals as goal

pub returns-clause-some : goal.returns-clause-some
returns-clause-some c =
    let spelled : c.args.text.now ≡ encode_utf8 c.in_ok-first.first ++ c.next.new.self.rest.now = sym c.chars-rest.ensures.rest ∙ c.in_ok-first.ensures.steps.0 in
    chars_past_char c.args.text.now _ c.in_ok-first.first c.utf8.text spelled ∙ ap (λ rest. c.in_ok-first.first ∷ chars rest) (sym c.as_str.ensures)
