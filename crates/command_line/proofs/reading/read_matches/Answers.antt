use Rattle.std.proofs.Common.{◌≡◌, ◌∙◌, ap, ap₂, map, string_bytes, subst, sym, true, List}
use Rattle.std.specs.Prelude.{Option}
use Rattle.std.proofs.lemmas.Result.{IfErr-weaker, IfOk-weaker}
use Rattle.clap.specs.Walk.{Row, Text}
use Rattle.clap.specs.Simple.{App, Shape, app_of, app_of_fields, is_simple, subcommand_of, with_subcommand}
use Rattle.clap.specs.Takes.{takes}
use Rattle.command_line.specs.Found.{IsFound}
use Rattle.command_line.proofs.CommandLines.{is_read, program, program_is_simple, bare}
use Rattle.command_line.proofs.reading.read_matches.Goals as goal

pub returns : goal.returns
returns c =
    let top : App → Shape = λ a. a.top in
    let bare_is : app_of c.no_binary_name.result ≡ bare = ap app_of_fields c.no_binary_name.ensures ∙ ap (λ (a : App). record { top = record a.top { no_binary_name = true }; subs = a.subs }) c.new.ensures.app in
    let with_run = c.in_ok-subcommand.ensures.shape c.new-run.ensures.local ∙ ap₂ with_subcommand bare_is (ap top c.new-run.ensures.app) in
    let with_select = c.in_ok-subcommand-2.ensures.shape c.in_ok-select.ensures.keeps.own ∙ ap₂ with_subcommand with_run (ap top c.in_ok-select.ensures.shape) in
    let with_generate = c.in_ok-subcommand-3.ensures.shape c.in_ok-generate.ensures.keeps.own ∙ ap₂ with_subcommand with_select (ap top c.in_ok-generate.ensures.shape) in
    let with_init = c.in_ok-subcommand-4.ensures.shape c.in_ok-init.ensures.keeps.own ∙ ap₂ with_subcommand with_generate (ap top c.in_ok-init.ensures.shape) in
    let program_is : app_of c.in_ok-program.program ≡ program = c.in_ok-program.ensures.shape c.in_ok-recover.ensures.keeps.own ∙ ap₂ with_subcommand with_init (ap top c.in_ok-recover.ensures.shape) in
    let words = map string_bytes c.args.words.now in
    let read = is_read words c.requires in
    let parse = c.try_get_matches_from in
    record {
      found = IfOk-weaker parse.result _ _
          (λ m h. subst (λ (found : Option (Text × List Row)). IsFound words found) (sym ((h (ap is_simple program_is ∙ program_is_simple)).1 ∙ ap (λ (a : App). subcommand_of a words) program_is))
          (record { listed = c.requires; task = read.holds; journal = read.path }))
          parse.ensures.matches;
      memory = IfErr-weaker parse.result _ _ (λ e h. h (ap (λ (a : App). takes a words) program_is ∙ read.taken)) parse.ensures.passes;
    }
