use Rattle.std.proofs.Common.{◌≡◌, ◌∙◌, List, ℕ, Some, ap, codes, is_some, refl, subst, sym, true≢false}
use Rattle.clap.specs.Matches.{found_of}
use Rattle.clap.specs.Simple.{subcommand_rows_of}
use Rattle.clap.specs.Walk.{rows_of}
use Rattle.clap.specs.declared.parser.matches.ArgMatches.TheViews.{out-ArgMatches}
use Rattle.command_line.specs.JournalTasks.{asked_journal, init, recover}
use Rattle.command_line.specs.Tasks.{asked, gen, select}
use Rattle.command_line.specs.Wanted.{Asks}
use Rattle.command_line.proofs.CommandLines.{counted, generates, inits, name_found, recovers, runs, selects}
use Rattle.command_line.proofs.found.asked_in.Goals as goal

pub operand_in-requires : goal.operand_in-requires
operand_in-requires c =
    let m = c.args.matches.now in
    ap is_some (selects c.requires.0 (subcommand_rows_of m) c.requires.1 (rows_of (found_of c.in-Some.select.now)) c.in-Some.ensures.rows (name_found (out-ArgMatches m).subcommand ∙ c.in-Some.ensures.found.0 refl)).3

pub returns-in-Some-subcommand_matches : goal.returns-in-Some-subcommand_matches
returns-in-Some-subcommand_matches c = λ words f.
    let m = c.args.matches.now in
    let w = inits words (subcommand_rows_of m) f (rows_of (found_of c.in-Some-subcommand_matches.init.now)) c.in-Some-subcommand_matches.ensures.rows (name_found (out-ArgMatches m).subcommand ∙ c.in-Some-subcommand_matches.ensures.found.0 refl) in
    let both_are : Some w.0 ≡ Some c.operand_in-in-Some-subcommand_matches.result.now = sym w.3 ∙ c.operand_in-in-Some-subcommand_matches.ensures in
    let same : w.0 ≡ c.operand_in-in-Some-subcommand_matches.result.now = cc in
    (w.1, w.2 ∙ ap (λ (path : List ℕ). Some (init path)) same)

pub returns-in-Some-subcommand_matches-2 : goal.returns-in-Some-subcommand_matches-2
returns-in-Some-subcommand_matches-2 c = λ words f.
    let m = c.args.matches.now in
    let w = recovers words (subcommand_rows_of m) f (rows_of (found_of c.in-Some-subcommand_matches-2.recover.now)) c.in-Some-subcommand_matches-2.ensures.rows (name_found (out-ArgMatches m).subcommand ∙ c.in-Some-subcommand_matches-2.ensures.found.0 refl) in
    let both_are : Some w.0 ≡ Some c.operand_in-in-Some-subcommand_matches-2.result.now = sym w.3 ∙ c.operand_in-in-Some-subcommand_matches-2.ensures in
    let same : w.0 ≡ c.operand_in-in-Some-subcommand_matches-2.result.now = cc in
    (w.1, w.2 ∙ ap (λ (path : List ℕ). Some (recover path)) same)

pub returns-in-Some-subcommand_matches-3 : goal.returns-in-Some-subcommand_matches-3
returns-in-Some-subcommand_matches-3 c = λ words f.
    let m = c.args.matches.now in
    let rows = rows_of (found_of c.in-Some-subcommand_matches-3.generate.now) in
    let w = generates words (subcommand_rows_of m) f rows c.in-Some-subcommand_matches-3.ensures.rows (name_found (out-ArgMatches m).subcommand ∙ c.in-Some-subcommand_matches-3.ensures.found.0 refl) in
    let limits = counted w.0 w.1 rows w.4 in
    subst (λ a. Asks a (asked words) (asked_journal words)) (sym (c.numbers_in.ensures w.0 w.1 w.4)) (w.2, w.3, limits.0, limits.1)

pub returns-in-None : goal.returns-in-None
returns-in-None c = λ words f.
    let m = c.args.matches.now in
    let name = name_found (out-ArgMatches m).subcommand in
    runs words (subcommand_rows_of m) f (λ is. true≢false (sym (c.in_default.ensures.found.1 (sym name ∙ is)))) (λ is. true≢false (sym (c.in_default-subcommand_matches.ensures.found.1 (sym name ∙ is)))) (λ is. true≢false (sym (c.in_default-subcommand_matches-2.ensures.found.1 (sym name ∙ is)))) (λ is. true≢false (sym (c.in-None.ensures.found.1 (sym name ∙ is))))
