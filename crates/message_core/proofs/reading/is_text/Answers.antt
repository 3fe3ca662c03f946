use Rattle.std.proofs.Common.{◌∙◌}
use Rattle.message_core.proofs.Texts.{text_tested}
use Rattle.message_core.proofs.reading.is_text.Goals as goal

pub returns : goal.returns
returns c = c.is_ok.ensures.value ∙ text_tested _ _ _ _ c.args.bytes.now c.from_utf8.result c.from_utf8.ensures.cases
