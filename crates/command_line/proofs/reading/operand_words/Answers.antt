use Rattle.std.proofs.Common.{ap₂, ◌∙◌}
use Rattle.std.proofs.lemmas.Result.{IfOk-weaker}
use Rattle.clap.specs.Simple.{with_rule}
use Rattle.command_line.proofs.reading.operand_words.Goals as goal

pub returns : goal.returns
returns c = record {
  shape = IfOk-weaker c.arg.result _ _ (λ command added. added.shape c.required.ensures.own ∙ ap₂ with_rule c.new.ensures.app c.required.ensures.rule) c.arg.ensures;
  keeps = IfOk-weaker c.arg.result _ _ (λ command added. record { own = rw (c.new.ensures.local, c.required.ensures.own) at added.globals }) c.arg.ensures;
}
