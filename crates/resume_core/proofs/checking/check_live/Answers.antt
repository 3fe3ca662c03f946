use Rattle.std.proofs.Common.{◌≡◌, Bool, true, false, nat_lt, ap, arith, length, sym, ◌∙◌}
use Rattle.std.specs.List.{list_all}
use Rattle.std.proofs.lemmas.Bool.{le-ltb}
use Rattle.queue_model.specs.Table.{most_entries}
use Rattle.defs_read.specs.Defined.{queues_in}
use Rattle.script_read.specs.Allowed.{all_ops}
use Rattle.script_read.specs.Phases.{phases_in}
use Rattle.script_read.specs.declared.lines.Op.{Op}
use Rattle.resume_core.specs.Faults.{doubling_line, put_fault}
use Rattle.resume_core.specs.Lines.{first_line, passing_line}
use Rattle.resume_core.specs.Live.{has_queue}
use Rattle.resume_core.proofs.Doubling.{key_live}
use Rattle.resume_core.proofs.Lawful.{at_puts, is_first}
use Rattle.resume_core.proofs.Passing.{most_is}
use Rattle.resume_core.proofs.checking.check_live.Goals as goal

pub returns : goal.returns
returns c =
    let defs = queues_in c.args.defs.now in
    let live = c.args.live.now in
    let ops = all_ops (phases_in c.args.script.now) in
    let defined : list_all (has_queue defs) live ≡ true = sym c.are_defined.ensures ∙ c.if-not-are_defined.false in
    let keys = rw c.in-Some.is at c.in_ok-keys.ensures in
    let few : nat_lt most_entries (length live) ≡ false = le-ltb most_entries (length live) (omega (arith, most_is, c.if-live-gt-MOST_ENTRIES.false)) in
    let doubling : c.doubling_line.result ≡ doubling_line defs live ops = c.doubling_line.ensures ∙ ap (λ (test : Op → Bool). first_line test ops) (λ i op. key_live defs live c.in-Some.keys op.what keys.1 i) in
    record {
      first = c.put_fault.ensures ∙ (λ i. put_fault (c.in_ok-passing.ensures i) (doubling i))
          ∙ sym (is_first defs live ops true false false defined keys.0 few ∙ at_puts (passing_line (length live) ops) (doubling_line defs live ops));
    }
