use Rattle.std.proofs.Common.{ℕ, ◌<◌, sym, subst}
use Rattle.acts_core.specs.Calls.{CallDepth, IsDepth}
use Rattle.acts_core.specs.Sight.{plan_of}
use Rattle.acts_core.proofs.Passes.{same_pass}
use Rattle.entry_table.specs.Passes.{opening}
use Rattle.entry_table.specs.Sights.{build_of, sight}
use Rattle.entry_table.specs.Views.{Has}
use Rattle.entry_calls.proofs.Working.{same_callers}
use Rattle.entry_calls.proofs.closing_tests.entries_in.Goals as goal

pub returns-clause-every : goal.returns-clause-every
returns-clause-every c k less =
    let old = c.args.boss.now in
    let new = c.depth.new.pass in
    let same = same_pass (plan_of (build_of c.args.entries.now) (opening old)) (sight old) (sight new) CallDepth (IsDepth c.depth.result) c.depth.ensures.called in
    subst (Has k) (sym (same_callers old new same)) (c.requires.every k (subst (λ (n : ℕ). k < n) same.made less))
