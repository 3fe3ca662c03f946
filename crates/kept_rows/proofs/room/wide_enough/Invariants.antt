use Rattle.std.proofs.Common.{◌≡◌, ◌<◌, ◌≤◌, ◌*◌, ◌^◌, ◌-◌, ◌⊎◌, ℕ}
use Rattle.kept_rows.proofs.room.wide_enough.Given as goal

abbrev pub invariant-doubling : goal.invariant-doubling
invariant-doubling l = record {
  long : 2 * l.wide < 2 ^ 64;
  power : (k : ℕ) × (l.wide ≡ 2 ^ k);
  wider : (l.wide ≡ l.width) ⊎ (2 * l.width ≤ l.wide);
}

abbrev pub decreases-doubling : goal.decreases-doubling
decreases-doubling l = l.rows - l.wide
