use Rattle.std.proofs.Common.{◌<◌, arith, get_or, length, subst, sym, ◌∙◌, List, ℕ}
use Rattle.std.proofs.lemmas.Grind.{get_or_default_zero}
use Rattle.std.specs.List.Sorted.{IsPermutation}
use Rattle.queue_model.specs.Table.{most_entries}
use Rattle.script_read.specs.Allowed.{all_ops}
use Rattle.script_read.specs.Phases.{phases_in}
use Rattle.broker_top.specs.Puts.{PassesAt}
use Rattle.broker_top.proofs.Putting.{most_is, passes_at}
use Rattle.broker_top.proofs.puts.too_many.Goals as goal

pub returns : goal.returns
returns c =
    let ops = all_ops (phases_in c.args.script.now) in
    let lines = c.sort_unstable.new.self.items in
    let permuted = subst (λ (xs : List ℕ). IsPermutation xs lines) c.in_ok-lines.ensures c.sort_unstable.ensures.permutation in
    let long : most_entries < length lines = omega (arith, most_is, c.len.ensures, c.if-len-le-MOST_ENTRIES.false, c.sort_unstable.ensures.len) in
    let first : PassesAt (get_or lines 524288 0) ops = subst (λ (n : ℕ). PassesAt (get_or lines n 0) ops) most_is (passes_at ops lines permuted c.sort_unstable.ensures.sorted long) in
    subst (λ (n : ℕ). PassesAt n ops) (sym (c.index.ensures ∙ get_or_default_zero lines 524288 c.index.result.now (omega (arith, long, most_is)))) first
