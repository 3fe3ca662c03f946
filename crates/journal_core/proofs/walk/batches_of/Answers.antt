use Rattle.std.proofs.Common.{◌+◌, ◌++◌, ◌∷◌, [], length, refl, sym, subst, arith}
use Rattle.std.specs.Prelude.{List}
use Rattle.journal_format.specs.declared.batches.Batch.{Batch}
use Rattle.journal_core.specs.Opening.{GateFits}
use Rattle.journal_core.proofs.Gates.{damaged_fits}
use Rattle.journal_core.proofs.ReadTo.{ReadTo, read_first, read_more, read_gate, all_read}
use Rattle.journal_core.proofs.walk.batches_of.Goals as goal

pub gates-init : goal.gates-init
gates-init c = subst (λ (read : List Batch). ReadTo c.args.bytes.now 16 0 read) (sym c.new-read.ensures.items) (read_first c.args.bytes.now (c.if-not-is_headed.ensures.0 refl))

pub returns-in-Err-clause-refused : goal.returns-in-Err-clause-refused
returns-in-Err-clause-refused c =
    let was = c.gates.invariant in
    subst (λ e. GateFits e c.args.bytes.now) (sym c.open_fault.ensures) (damaged_fits c.args.bytes.now c.gates.gate was.txns c.in-Err.fault was.within c.gates-test.true was.front c.in-Err.ensures.exact)

pub gates-preserved : goal.gates-preserved
gates-preserved c =
    let more = read_more c.args.bytes.now c.gates.gate c.gates.commits c.gates.read.items c.in-Ok.batch c.gates.invariant c.gates-test.true c.in-Ok.ensures.found in
    subst (λ (read : List Batch). ReadTo c.args.bytes.now c.in-Ok.batch.next (c.gates.commits + c.len.result) read) (sym c.in-Ok-push.ensures.items)
    (subst (λ n. ReadTo c.args.bytes.now c.in-Ok.batch.next (c.gates.commits + n) (c.gates.read.items ++ c.in-Ok.batch ∷ [])) (sym c.len.ensures) more)

pub returns-clause-gate : goal.returns-clause-gate
returns-clause-gate c = read_gate c.args.bytes.now c.gates.gate c.gates.commits c.gates.read.items c.gates.invariant c.gates-test.false

pub returns-clause-batches : goal.returns-clause-batches
returns-clause-batches c = all_read c.args.bytes.now c.gates.gate c.gates.commits c.gates.read.items c.gates.invariant c.gates-test.false
