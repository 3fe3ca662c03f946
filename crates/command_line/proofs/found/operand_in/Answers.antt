use Rattle.std.proofs.Common.{ap, is_some, sym, true≢false, ◌∙◌}
use Rattle.clap.proofs.WalkLemmas.{first_value-rows}
use Rattle.clap.specs.Matches.{found_of}
use Rattle.command_line.proofs.found.operand_in.Goals as goal

pub unreachable-requires : goal.unreachable-requires
unreachable-requires c =
    let found = found_of c.args.matches.now in
    absurd (true≢false (sym c.requires ∙ ap is_some (sym (c.in_default.ensures ∙ first_value-rows found c.args.id.now))))

pub returns : goal.returns
returns c =
    let found = found_of c.args.matches.now in
    sym (c.in-Some.ensures ∙ first_value-rows found c.args.id.now)
