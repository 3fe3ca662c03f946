use Rattle.std.proofs.Common.{ap₂, ◌∙◌}
use Rattle.std.proofs.lemmas.Result.{IfOk-weaker}
use Rattle.clap.specs.Simple.{with_rule}
use Rattle.command_line.proofs.reading.generate_words.Goals as goal

pub returns : goal.returns
returns c =
    let first = c.in_ok-command.ensures in
    let one = first.shape c.required.ensures.own ∙ ap₂ with_rule c.new.ensures.app c.required.ensures.rule in
    let none = rw (c.new.ensures.local, c.required.ensures.own) at first.globals in
    record {
      shape = IfOk-weaker c.arg-2.result _ _ (λ command added. added.shape c.required-2.ensures.own ∙ ap₂ with_rule one c.required-2.ensures.rule) c.arg-2.ensures;
      keeps = IfOk-weaker c.arg-2.result _ _ (λ command added. record { own = rw (none, c.required-2.ensures.own) at added.globals }) c.arg-2.ensures;
    }
