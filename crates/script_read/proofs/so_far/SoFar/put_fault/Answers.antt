use Rattle.std.proofs.Common.{◌≡◌, ◌∙◌, ap, sym, not, ◌&&◌, false, true}
use Rattle.std.specs.List.{list_any}
use Rattle.std.specs.BTreeSet.{contains}
use Rattle.script_read.specs.Scripts.{puts_this}
use Rattle.script_read.specs.SoFar.{put_cmp}
use Rattle.script_read.proofs.FirstCauses.{double_id, no_put_cause, journal_there, not_persistent}
use Rattle.script_read.proofs.so_far.SoFar.put_fault.Goals as goal
use Rattle.script_read.proofs.so_far.SoFar.put_fault.Goals.{else-persistent-via-then-persistent+else-not-journal, else-persistent-via-else-persistent}

pub returns-then-contains : goal.returns-then-contains
returns-then-contains c = λ before t.
    let passes : (c.in-Put.message.persistent && not c.args.journal) ≡ false = elim c.else-persistent.branch [
      | else-persistent-via-then-persistent+else-not-journal w ↦ journal_there _ _ w.if-not-journal.false
      | else-persistent-via-else-persistent w ↦ not_persistent _ _ (sym c.persistent.ensures ∙ w.if-persistent.false)
    ] in
    let is_double : list_any (puts_this c.in-Put.queue c.in-Put.message.id) before ≡ true =
    sym (t.puts.has c.in-Put.queue c.in-Put.message.id) ∙ ap (λ id. contains put_cmp c.args.self.now.puts (c.in-Put.queue, id)) (sym c.id.ensures) ∙ sym c.contains.ensures ∙ c.if-contains.true in
    rw c.in-Put.is (double_id _ _ passes is_double)

pub returns : goal.returns
returns c = λ before t.
    let passes : (c.in-Put.message.persistent && not c.args.journal) ≡ false = elim c.else-persistent.branch [
      | else-persistent-via-then-persistent+else-not-journal w ↦ journal_there _ _ w.if-not-journal.false
      | else-persistent-via-else-persistent w ↦ not_persistent _ _ (sym c.persistent.ensures ∙ w.if-persistent.false)
    ] in
    let is_new : list_any (puts_this c.in-Put.queue c.in-Put.message.id) before ≡ false =
    sym (t.puts.has c.in-Put.queue c.in-Put.message.id) ∙ ap (λ id. contains put_cmp c.args.self.now.puts (c.in-Put.queue, id)) (sym c.id.ensures) ∙ sym c.contains.ensures ∙ c.if-contains.false in
    rw c.in-Put.is (no_put_cause _ _ passes is_new)
