use Rattle.std.proofs.Common.{subst, sym, ap, ◌∙◌}
use Rattle.std.specs.Str.{IsUtf8}
use Rattle.std.proofs.lemmas.Str.{IsUtf8-string_bytes}
use Rattle.script_read.proofs.messages.bytes_of.Goals as goal

pub returns-clause-utf8 : goal.returns-clause-utf8
returns-clause-utf8 c = subst IsUtf8 (ap (λ v. v.items) (sym c.into_bytes.ensures.value) ∙ sym c.from_vec.ensures) (IsUtf8-string_bytes c.args.text)
