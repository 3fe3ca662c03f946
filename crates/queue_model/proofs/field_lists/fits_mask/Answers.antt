use Rattle.std.proofs.Common.{ℕ, ◌^◌, ◌<◌, ◌≤◌, ◌/◌, ◌≡◌, arith, eq-eqb}
use Rattle.std.proofs.lemmas.Bool.{eqb-true, le-leb}
use Rattle.std.proofs.Math.Nat.{div-eq_of_lt, lt-div-mul-add}
use Rattle.std.proofs.Math.Pow.{pow_mono, pow_pos}
use Rattle.queue_model.proofs.field_lists.fits_mask.Goals as goal

below_power : (a b : ℕ) → 0 < b → a / b ≡ 0 → a < b
below_power a b pos e = omega (arith, rw e at (lt-div-mul-add {a = a} {b = b} pos))

pub returns-then-consumers-ge64 : goal.returns-then-consumers-ge64
returns-then-consumers-ge64 c =
    let wide : 2 ^ 64 ≤ 2 ^ c.args.consumers = pow_mono c.if-consumers-ge64.true in
    (λ _. omega (arith, c.ranges.mask.fits), λ _. le-leb _ _ c.if-consumers-ge64.true)

pub returns-else-consumers-ge64 : goal.returns-else-consumers-ge64
returns-else-consumers-ge64 c = (λ e. below_power c.args.mask (2 ^ c.args.consumers) (pow_pos c.args.consumers) (eqb-true _ _ e), λ below. eq-eqb _ _ (div-eq_of_lt below))
