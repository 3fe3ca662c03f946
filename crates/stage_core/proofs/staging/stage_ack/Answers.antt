use Rattle.std.proofs.Common.{ap, sym, subst, ◌∙◌, ◌++◌, List, ℕ}
use Rattle.txn_core.specs.declared.staging.Staged.{Staged}
use Rattle.txn_core.specs.declared.staging.Staged.TheVariants.{Ack}
use Rattle.txn_core.specs.Parcels.{shown}
use Rattle.stage_core.specs.Items.{Stages, ack_items}
use Rattle.stage_core.proofs.Staged.{stages_more}
use Rattle.stage_core.proofs.staging.stage_ack.Goals as goal

pub returns-in-Ok-clause-stages : goal.returns-in-Ok-clause-stages
returns-in-Ok-clause-stages c = λ names named staged.
    let s : Staged = Ack c.args.queue c.args.row c.args.parcel in
    let items = c.args.txn.now.items in
    let more = c.in-Ok.ensures.adds.all ∙ ap (λ (name : List ℕ). items ++ ack_items name (shown c.args.parcel).message) (sym named) in
    subst (λ (ss : List Staged). Stages names ss c.go.new.txn.items) (sym c.push.ensures.list) (stages_more names c.args.staging.now.list s items c.go.new.txn.items staged more tt)
