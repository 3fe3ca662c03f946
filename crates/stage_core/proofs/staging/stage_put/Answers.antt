use Rattle.std.proofs.Common.{ap, sym, subst, ◌∙◌, ◌++◌, List, ℕ}
use Rattle.txn_core.specs.declared.staging.Staged.{Staged}
use Rattle.txn_core.specs.declared.staging.Staged.TheVariants.{Put}
use Rattle.stage_core.specs.Items.{Stages, place_within, put_items}
use Rattle.stage_core.proofs.Staged.{stages_more}
use Rattle.stage_core.proofs.staging.stage_put.Goals as goal

pub returns-in-Ok-clause-stages : goal.returns-in-Ok-clause-stages
returns-in-Ok-clause-stages c = λ names named staged.
    let s : Staged = Put c.args.queue c.args.slip c.args.message c.in-Ok.within c.args.flowed in
    let items = c.args.txn.now.items in
    let more = c.in-Ok.ensures.adds.all ∙ ap (λ (name : List ℕ). items ++ put_items name c.args.message) (sym named) in
    let within = c.in-Ok.ensures.within ∙ ap (λ (name : List ℕ). place_within items name c.args.message) (sym named) in
    subst (λ (ss : List Staged). Stages names ss c.enter.new.txn.items) (sym c.push.ensures.list) (stages_more names c.args.staging.now.list s items c.enter.new.txn.items staged more within)
