use Rattle.std.proofs.Common.{◌≡◌, ℕ, List, Some, ap, cond, subst, sym, ◌∙◌, take, true, false}
use Rattle.std.specs.BTreeSet.{contains}
use Rattle.std.specs.Ordering.{is_eq}
use Rattle.std.proofs.lemmas.Bool.{not-false, not-true}
use Rattle.defs_read.specs.Defined.{queues_in}
use Rattle.script_read.specs.SoFar.{put_cmp}
use Rattle.recover_core.specs.declared.kept.Kept.{Kept}
use Rattle.resume_core.specs.Live.{number_from, number_of}
use Rattle.resume_core.specs.Steps.{HasKeys}
use Rattle.resume_core.proofs.Doubling.{double_found, double_later, keys_more, taken_more}
use Rattle.resume_core.proofs.keys.live_keys.Goals as goal

pub returns-in-Ok-false : goal.returns-in-Ok-false
returns-in-Ok-false c =
    let defs = queues_in c.args.defs.now in
    let k = c.entry-item.result in
    let i = c.entries.invariant in
    let number : number_of defs k ≡ Some c.in-Some.queue = ap (λ (name : List ℕ). number_from 0 name defs) (sym c.as_slice.ensures) ∙ sym c.number_of.ensures.number ∙ c.in-Some.is in
    let found : contains put_cmp c.entries.keys (c.in-Some.queue, c.id.result) ≡ true = not-false (contains put_cmp c.entries.keys (c.in-Some.queue, c.id.result)) (sym c.in-Ok-false.ensures.added ∙ c.in-Ok-false.field-0-test) in
    double_found defs c.args.live.now c.entries.entry-index k c.in-Some.queue c.entries.keys c.entries-test.true c.entry-item.is number i.has i.same
    (ap (λ (id : ℕ). contains put_cmp c.entries.keys (c.in-Some.queue, id)) (sym c.id.ensures) ∙ found)

pub entries-preserved : goal.entries-preserved
entries-preserved c =
    let defs = queues_in c.args.defs.now in
    let k = c.entry-item.result in
    let i = c.entries.invariant in
    let q = c.in-Some.queue in
    let number : number_of defs k ≡ Some q = ap (λ (name : List ℕ). number_from 0 name defs) (sym c.as_slice.ensures) ∙ sym c.number_of.ensures.number ∙ c.in-Some.is in
    let new : contains put_cmp c.entries.keys (q, c.id.result) ≡ false = not-true (contains put_cmp c.entries.keys (q, c.id.result)) (sym c.in-Ok-true.ensures.added ∙ c.in-Ok-true.field-0-test) in
    let updates : (x : ℕ × ℕ) → contains put_cmp c.insert.new.self x ≡ cond (is_eq (put_cmp (q, k.message.id) x)) true (contains put_cmp c.entries.keys x) =
    subst (λ (id : ℕ). (x : ℕ × ℕ) → contains put_cmp c.insert.new.self x ≡ cond (is_eq (put_cmp (q, id) x)) true (contains put_cmp c.entries.keys x)) c.id.ensures c.in-Ok-true.ensures.updates.0 in
    record {
      same = double_later defs c.args.live.now c.entries.entry-index k q c.entries.keys c.entries-test.true c.entry-item.is number i.has i.same
          (ap (λ (id : ℕ). contains put_cmp c.entries.keys (q, id)) (sym c.id.ensures) ∙ new);
      has = subst (λ (ks : List Kept). HasKeys defs ks c.insert.new.self)
          (sym (taken_more defs c.args.live.now c.entries.entry-index k q c.entries.keys c.entries-test.true c.entry-item.is number i.has i.same))
          (keys_more defs (take c.entries.entry-index c.args.live.now) k q c.entries.keys c.insert.new.self number i.has updates);
    }
