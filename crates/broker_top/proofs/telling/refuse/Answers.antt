use Rattle.std.proofs.Common.{◌≡◌, ◌∙◌, inl, sym, true≢false}
use Rattle.broker_top.specs.declared.faults.InputFault.TheVariants.{NoMemory}
use Rattle.broker_top.proofs.telling.refuse.Goals as goal
use Rattle.broker_top.proofs.telling.refuse.Goals.{in-NoMemory, in_default}

pub returns-in-Ok : goal.returns-in-Ok
returns-in-Ok g c =
    let other : c.args.fault ≡ NoMemory → ⊥ =
    (elim c.match-matches.branch [
      | in-NoMemory w ↦ λ same. true≢false (sym w.matches-is ∙ c.if-matches.false)
      | in_default w ↦ λ same. w.in_default.not-NoMemory same
    ])
    in
    inl (other, rw (c.as_bytes.ensures.value, c.in-Ok.ensures) at c.tell.ensures)
