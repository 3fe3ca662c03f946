use Rattle.std.proofs.Common.{◌≡◌, ◌≤◌, ◌∙◌, ℕ, [], sym, ap, subst}
use Rattle.journal_format.specs.declared.events.Event.{Event}
use Rattle.history_lock.specs.declared.view.View.{View}
use Rattle.commit_table.specs.declared.begun.Begun.{Begun}
use Rattle.commit_table.specs.Outcomes.{own}
use Rattle.commit_table.specs.Passes.{view_in, begun_in}
use Rattle.commit_table.proofs.table.CommitTable.close.Goals as goal

pub returns-clause-callers : goal.returns-clause-callers
returns-clause-callers g c =
    let v = view_in c.args.boss.badge.views in
    let before : c.into_seat.result.me.0 ≡ v = ap view_in (sym c.into_seat.ensures.2) in
    let closes = c.in-Some.ensures (begun_in v) (ap (λ (x : View Begun Event). x.opening) before ∙ c.args.boss.begins) in
    subst (λ (x : View Begun Event). (k : ℕ) → x.made ≤ k → own k x.seen ≡ []) before closes.2
