use Rattle.std.proofs.Common.{rules, ◌≡◌, ◌≢◌, ◌<◌, ◌≤◌, ◌+◌, ◌-◌, ℕ, Bool, true, false, Option, Some, None, List, [], ◌∷◌, ◌++◌, length, get_or, set, sym, ap, ◌∙◌, subst, refl, arith}
use Rattle.queue_model.specs.declared.rows.RowState.TheVariants.{Available, Locked, Unlocked, Dequeued, Deleted}
use Rattle.acts_core.specs.Kept.{Kept}
use Rattle.kept_rows.specs.Rows.{with_new}
use Rattle.kept_rows.proofs.rows.KeptRows.enter.Goals as goal

pub raise-requires : goal.raise-requires
raise-requires g c = record { few = c.requires.few; small = c.requires.small; size = c.requires.start.fits.size }

pub push-requires : goal.push-requires
push-requires g c = record { spare = rw c.raise.ensures c.requires.spare; fits = (refl, c.requires.start.id, c.requires.start.size) }

pub returns : goal.returns
returns g c =
    let less = c.push.ensures.spare in
    let same : c.raise.new.self.spare ≡ c.args.self.now.spare = ap (λ (k : Kept). k.spare) c.raise.ensures in
    let some = c.requires.spare in
    let spare : c.push.new.self.spare ≡ c.args.self.now.spare - 1 = omega arith in
    c.push.ensures.kept ∙ λ i. with_new (c.raise.ensures i) (spare i) c.args.slip (g.C.Freight.goods c.args.cargo)
