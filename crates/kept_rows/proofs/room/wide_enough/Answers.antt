use Rattle.std.proofs.Common.{rules, ◌≡◌, ◌<◌, ◌≤◌, ◌*◌, ◌^◌, ◌+◌, ◌-◌, ◌⊎◌, inl, inr, ⊎_elim, ℕ, suc, sym, ap, ◌∙◌, arith}
use Rattle.std.proofs.Math.Nat.{pow-succ'}
use Rattle.kept_rows.proofs.room.wide_enough.Goals as goal

pub doubling-preserved : goal.doubling-preserved
doubling-preserved c =
    let i = c.doubling.invariant in
    let small : c.doubling.wide * 2 ≤ 9223372036854775807 = search rules in
    let p = i.power in
    let twice = pow-succ' 2 p.0 in
    let half = p.1 in
    record {
      long = omega arith;
      power = (suc p.0, omega arith);
      wider = ⊎_elim (λ (e : c.doubling.wide ≡ c.args.width). inr (omega arith)) (λ (e : 2 * c.args.width ≤ c.doubling.wide). inr (omega arith)) i.wider;
    }

pub returns : goal.returns
returns c = let i = c.doubling.invariant in record { rows = c.doubling-test.false; long = i.long; power = i.power; wider = i.wider }
