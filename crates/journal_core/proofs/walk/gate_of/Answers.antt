use Rattle.std.proofs.Common.{◌++◌, subst, sym}
use Rattle.journal_core.specs.Opening.{GateFits}
use Rattle.journal_core.proofs.Gates.{next_front, damaged_fits, gate_found}
use Rattle.journal_core.proofs.walk.gate_of.Goals as goal

pub loop-gate-preserved : goal.loop-gate-preserved
loop-gate-preserved c =
    let inv = c.loop-gate.invariant in
    let b = c.in-Ok.ensures.found in
    (b.gate, (inv.1.0 ++ _, next_front c.args.bytes.now c.loop-gate.gate _ _ inv.1.0 inv.0 c.loop-gate-test.true inv.1.1 b))

pub returns-in-Err-clause-refused : goal.returns-in-Err-clause-refused
returns-in-Err-clause-refused c =
    let inv = c.loop-gate.invariant in
    subst (λ e. GateFits e c.args.bytes.now) (sym c.open_fault.ensures) (damaged_fits c.args.bytes.now c.loop-gate.gate inv.1.0 c.in-Err.fault inv.0 c.loop-gate-test.true inv.1.1 c.in-Err.ensures.exact)

pub returns-clause-found : goal.returns-clause-found
returns-clause-found c =
    let inv = c.loop-gate.invariant in
    gate_found c.args.bytes.now c.loop-gate.gate inv.1.0 inv.0 c.loop-gate-test.false inv.1.1
