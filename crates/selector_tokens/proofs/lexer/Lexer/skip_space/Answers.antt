use Rattle.std.proofs.lemmas.List.{take_rest}
use Rattle.selector_tokens.proofs.Lexed.{behind_space, space_ends}
use Rattle.selector_tokens.proofs.lexer.Lexer.skip_space.Goals as goal

pub returns-then-space-gt0-clause-ahead : goal.returns-then-space-gt0-clause-ahead
returns-then-space-gt0-clause-ahead c =
    let old = c.args.self.now in
    let space = rw (take_rest old.text.now old.at) at c.space_len-space.ensures in
    behind_space old.text.now old.at c.space_len-space.result old.within space old.close c.if-space-gt0.true

pub returns-then-space-gt0-clause-passed : goal.returns-then-space-gt0-clause-passed
returns-then-space-gt0-clause-passed c =
    let old = c.args.self.now in
    let space = rw (take_rest old.text.now old.at) at c.space_len-space.ensures in
    space_ends old.text.now old.at c.space_len-space.result old.within space
