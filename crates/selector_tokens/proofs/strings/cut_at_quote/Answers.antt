use Rattle.std.proofs.Common.{arith}
use Rattle.selector_tokens.proofs.Quotes.{plain_within}
use Rattle.selector_tokens.proofs.strings.cut_at_quote.Goals as goal

pub split_at-requires : goal.split_at-requires
split_at-requires c = omega (arith, c.plain_len.ensures, plain_within c.args.text.now)
