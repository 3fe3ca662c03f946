use Rattle.std.proofs.Common.{◌≡◌, ℕ, ◌+◌, ◌∙◌, ap, List, sym, take, get_or, arith}
use Rattle.std.specs.Prelude.{Vec}
use Rattle.std.specs.declared.alloc.Global.{Global}
use Rattle.std.specs.List.{sum_by}
use Rattle.std.proofs.lemmas.List.{take_all}
use Rattle.std.proofs.lemmas.List.Sums.{sum_by_more, sum_by_more_le}
use Rattle.script_read.specs.declared.lines.Op.{Op}
use Rattle.workers_core.specs.Made.{puts_in}
use Rattle.phase_core.proofs.Sums.{all_lines}
use Rattle.phase_core.proofs.counting.puts_to.Goals as goal

-- what the lines of one more actor put
one : (c : goal.After-puts_in-puts) → c.puts_in-puts.result ≡ puts_in c.args.queue (get_or c.args.actors.now c.actors.actor-index c.actor-item.result).1.items
one c = c.puts_in-puts.ensures ∙ ap (puts_in c.args.queue) (c.deref.ensures.value ∙ ap (λ a. a.1.items) c.actor-item.is)

pub overflow_add-puts : goal.overflow_add-puts
overflow_add-puts c =
    let f : List ℕ × Vec Op Global → ℕ = λ a. puts_in c.args.queue a.1.items in
    let more = sum_by_more_le f c.args.actors.now c.actors.actor-index c.actor-item.result c.actors-test.true in
    let all = all_lines c.args.queue c.args.actors.now in
    let it = one c in
    let so_far = c.actors.invariant in
    omega (arith, more, all, it, so_far, c.requires)

pub actors-preserved : goal.actors-preserved
actors-preserved c =
    let f : List ℕ × Vec Op Global → ℕ = λ a. puts_in c.args.queue a.1.items in
    ap (λ (n : ℕ). n + c.puts_in-puts.result) c.actors.invariant
    ∙ ap (λ (n : ℕ). sum_by f (take c.actors.actor-index c.args.actors.now) + n) (one c)
    ∙ sym (sum_by_more f c.args.actors.now c.actors.actor-index c.actor-item.result c.actors-test.true)

pub returns : goal.returns
returns c =
    let f : List ℕ × Vec Op Global → ℕ = λ a. puts_in c.args.queue a.1.items in
    c.actors.invariant ∙ ap (sum_by f) (take_all c.actors.actor-index c.args.actors.now c.actors-test.false) ∙ all_lines c.args.queue c.args.actors.now
