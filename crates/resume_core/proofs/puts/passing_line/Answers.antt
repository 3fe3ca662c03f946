use Rattle.std.proofs.Common.{◌+◌, ◌-◌, ◌<◌, ◌≤◌, arith, ap, length, Some, subst, sym, ◌∙◌, List, ℕ}
use Rattle.std.proofs.lemmas.Grind.{get_or_default_zero}
use Rattle.std.specs.List.Sorted.{IsPermutation}
use Rattle.queue_model.specs.Table.{most_entries}
use Rattle.script_read.specs.Allowed.{all_ops}
use Rattle.script_read.specs.Phases.{phases_in}
use Rattle.resume_core.specs.Lines.{all_puts}
use Rattle.resume_core.proofs.Passing.{most_is, none_passes, passes}
use Rattle.resume_core.proofs.puts.passing_line.Goals as goal

pub returns-then-len-room : goal.returns-then-len-room
returns-then-len-room c =
    let ops = all_ops (phases_in c.args.script.now) in
    let few : c.args.live + all_puts ops ≤ most_entries =
    (let long = ap length c.in_ok-lines.ensures in omega (arith, most_is, c.requires, c.len.ensures, c.if-len-room.true, long, c.in_ok-lines.lines.ok)) in
    sym (none_passes c.args.live ops few)

pub returns : goal.returns
returns c =
    let ops = all_ops (phases_in c.args.script.now) in
    let lines = c.sort_unstable.new.self.items in
    let room : ℕ = 524288 - c.args.live in
    let permuted = subst (λ (xs : List ℕ). IsPermutation xs lines) c.in_ok-lines.ensures c.sort_unstable.ensures.permutation in
    let long : room < length lines = omega (arith, c.len.ensures, c.if-len-room.false, c.sort_unstable.ensures.len) in
    let first = passes c.args.live room ops lines (omega (arith, most_is, c.requires)) permuted c.sort_unstable.ensures.sorted long in
    ap (λ (n : ℕ). Some n) (c.index.ensures ∙ get_or_default_zero lines room c.index.result.now long) ∙ sym first
