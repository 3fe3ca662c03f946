-- what is counted of the accounts of phases, by the lines of their actors
use Rattle.std.proofs.Common.{◌≡◌, ℕ, suc, ◌+◌, Bool, cond, Some, List, [], ◌∷◌, length, map, slice_get, refl, sym, ap, ap₂, ◌∙◌}
use Rattle.std.specs.List.{flat_map, sum_by}
use Rattle.std.proofs.lemmas.List.Sums.{sum_by-append, sum_by-cons}
use Rattle.queue_model.specs.declared.queues.Depth.{Depth}
use Rattle.queue_model.specs.declared.queues.Limits.{Limits}
use Rattle.queue_model.specs.declared.queues.Policy.{Policy}
use Rattle.queue_model.specs.declared.queues.Policy.TheVariants as policy
use Rattle.queue_model.specs.declared.rows.Row.{Row}
use Rattle.defs_read.specs.Defined.{Defined}
use Rattle.script_read.specs.Allowed.{all_ops, ops_in}
use Rattle.script_read.specs.Phases.{Actors}
use Rattle.script_read.specs.declared.lines.Op.{Op}
use Rattle.script_read.specs.declared.lines.What.{What}
use Rattle.script_read.specs.declared.lines.What.TheVariants.{Put, Take, Close, Ack, Release, Lock, Unlock, Steal, Begin, Commit, Rollback}
use Rattle.report_core.specs.declared.answers.Answer.{Answer}
use Rattle.report_core.specs.declared.answers.Answer.TheVariants as say
use Rattle.target_core.specs.Seats.{Seats}
use Rattle.gen_core.specs.Laws.{bytes_put as body_of, is_put}
use Rattle.message_core.specs.Spelling.{Content}
use Rattle.overflow_core.specs.Limits.{is_over, is_still_full, judged, judged_by}
use Rattle.overflow_core.specs.declared.verdicts.Verdict.{Verdict}
use Rattle.overflow_core.specs.declared.verdicts.Verdict.TheVariants as verdict
use Rattle.line_core.specs.Fits.{Did, LineFits, LinesFit, Refuses, Standing}
use Rattle.account_core.specs.Accounts.{Account}
use Rattle.account_core.specs.Carry.{handed_on}
use Rattle.account_core.specs.Phases.{ArePhases}
use Rattle.account_core.specs.Stories.{IsStory, Story, told}
use Rattle.broker_top.specs.Summary.{all_answers, all_bytes, answered, answers_in, bytes_in, bytes_of, bytes_put, is_ok}

-- Queues of no policy

-- no queue has a policy
abbrev pub NoPolicies : List Defined → Type 0
NoPolicies defs = (q : ℕ) (def : Defined) → slice_get defs q ≡ Some def → def.limits.policy ≡ policy.None

-- then no put is refused
none_judges : (limits : Limits) (was persistent : Bool) (size : ℕ) (d : Depth) → limits.policy ≡ policy.None → judged limits was persistent size d ≡ (verdict.Admitted, was)
none_judges limits was persistent size d none = ap (λ (p : Policy). judged_by p (is_over limits size d) (is_still_full limits d) was persistent d) none

refuses_none : (defs : List Defined) (s : Standing) (q : ℕ) (m : Content) (v : Verdict) (dids : List Did) (s' : Standing) → NoPolicies defs → Refuses defs s q m v dids s' → v ≡ verdict.Admitted
refuses_none defs s q m v dids s' none refuses =
    let asks = refuses.asks in
    ap (λ (x : Verdict × Bool). x.0) (asks.verdict ∙ none_judges asks.def.limits asks.was m.persistent asks.slip.size asks.depth (none q asks.def asks.defined))

-- Lines: those that put something are answered by ok, and no others

module _ (defs : List Defined) (no_policies : NoPolicies defs) (s s' : Standing) (dids : List Did) where
  ok_is_put : (w : What) (a : Answer) → LineFits defs s w a dids s' → is_ok a ≡ is_put w
  ok_is_put (Put q m) (say.Accepted id flowed dropped) fits = refl
  ok_is_put (Put q m) (say.Staged id flowed) fits = absurd fits
  ok_is_put (Put q m) (say.Rejected depth) fits = let e : verdict.Rejected depth ≡ verdict.Admitted = refuses_none defs s q m (verdict.Rejected depth) dids s' no_policies fits in absurd (cc)
  ok_is_put (Put q m) (say.Blocked depth) fits = let e : verdict.Blocked depth ≡ verdict.Admitted = refuses_none defs s q m (verdict.Blocked depth) dids s' no_policies fits in absurd (cc)
  ok_is_put (Put q m) say.Failed fits = absurd fits
  ok_is_put (Put q m) say.TooLong fits = absurd fits
  ok_is_put (Put q m) (say.Got id n) fits = absurd fits
  ok_is_put (Put q m) say.Empty fits = absurd fits
  ok_is_put (Put q m) say.NoCredit fits = absurd fits
  ok_is_put (Put q m) say.Closed fits = absurd fits
  ok_is_put (Put q m) (say.FailedId id held) fits = absurd fits
  ok_is_put (Put q m) (say.Acked id) fits = absurd fits
  ok_is_put (Put q m) say.NotHeld fits = absurd fits
  ok_is_put (Put q m) (say.Stolen state) fits = absurd fits
  ok_is_put (Put q m) (say.Released id) fits = absurd fits
  ok_is_put (Put q m) (say.Outdated id) fits = absurd fits
  ok_is_put (Put q m) (say.Unlocked id) fits = absurd fits
  ok_is_put (Put q m) (say.Locked id) fits = absurd fits
  ok_is_put (Put q m) (say.Stole id) fits = absurd fits
  ok_is_put (Put q m) (say.NotStealable state) fits = absurd fits
  ok_is_put (Put q m) (say.Moved state) fits = absurd fits
  ok_is_put (Put q m) say.Absent fits = absurd fits
  ok_is_put (Put q m) say.Begun fits = absurd fits
  ok_is_put (Put q m) say.Already fits = absurd fits
  ok_is_put (Put q m) (say.Committed dropped) fits = absurd fits
  ok_is_put (Put q m) say.NoTransaction fits = absurd fits
  ok_is_put (Put q m) say.RolledBack fits = absurd fits
  ok_is_put (Take c) (say.Accepted id flowed dropped) fits = absurd fits
  ok_is_put (Take c) (say.Staged id flowed) fits = refl
  ok_is_put (Take c) (say.Rejected depth) fits = refl
  ok_is_put (Take c) (say.Blocked depth) fits = refl
  ok_is_put (Take c) say.Failed fits = refl
  ok_is_put (Take c) say.TooLong fits = refl
  ok_is_put (Take c) (say.Got id n) fits = refl
  ok_is_put (Take c) say.Empty fits = refl
  ok_is_put (Take c) say.NoCredit fits = refl
  ok_is_put (Take c) say.Closed fits = refl
  ok_is_put (Take c) (say.FailedId id held) fits = refl
  ok_is_put (Take c) (say.Acked id) fits = refl
  ok_is_put (Take c) say.NotHeld fits = refl
  ok_is_put (Take c) (say.Stolen state) fits = refl
  ok_is_put (Take c) (say.Released id) fits = refl
  ok_is_put (Take c) (say.Outdated id) fits = refl
  ok_is_put (Take c) (say.Unlocked id) fits = refl
  ok_is_put (Take c) (say.Locked id) fits = refl
  ok_is_put (Take c) (say.Stole id) fits = refl
  ok_is_put (Take c) (say.NotStealable state) fits = refl
  ok_is_put (Take c) (say.Moved state) fits = refl
  ok_is_put (Take c) say.Absent fits = refl
  ok_is_put (Take c) say.Begun fits = refl
  ok_is_put (Take c) say.Already fits = refl
  ok_is_put (Take c) (say.Committed dropped) fits = refl
  ok_is_put (Take c) say.NoTransaction fits = refl
  ok_is_put (Take c) say.RolledBack fits = refl
  ok_is_put (Close c) (say.Accepted id flowed dropped) fits = absurd fits
  ok_is_put (Close c) (say.Staged id flowed) fits = refl
  ok_is_put (Close c) (say.Rejected depth) fits = refl
  ok_is_put (Close c) (say.Blocked depth) fits = refl
  ok_is_put (Close c) say.Failed fits = refl
  ok_is_put (Close c) say.TooLong fits = refl
  ok_is_put (Close c) (say.Got id n) fits = refl
  ok_is_put (Close c) say.Empty fits = refl
  ok_is_put (Close c) say.NoCredit fits = refl
  ok_is_put (Close c) say.Closed fits = refl
  ok_is_put (Close c) (say.FailedId id held) fits = refl
  ok_is_put (Close c) (say.Acked id) fits = refl
  ok_is_put (Close c) say.NotHeld fits = refl
  ok_is_put (Close c) (say.Stolen state) fits = refl
  ok_is_put (Close c) (say.Released id) fits = refl
  ok_is_put (Close c) (say.Outdated id) fits = refl
  ok_is_put (Close c) (say.Unlocked id) fits = refl
  ok_is_put (Close c) (say.Locked id) fits = refl
  ok_is_put (Close c) (say.Stole id) fits = refl
  ok_is_put (Close c) (say.NotStealable state) fits = refl
  ok_is_put (Close c) (say.Moved state) fits = refl
  ok_is_put (Close c) say.Absent fits = refl
  ok_is_put (Close c) say.Begun fits = refl
  ok_is_put (Close c) say.Already fits = refl
  ok_is_put (Close c) (say.Committed dropped) fits = refl
  ok_is_put (Close c) say.NoTransaction fits = refl
  ok_is_put (Close c) say.RolledBack fits = refl
  ok_is_put (Ack r named) (say.Accepted id flowed dropped) fits = absurd fits
  ok_is_put (Ack r named) (say.Staged id flowed) fits = refl
  ok_is_put (Ack r named) (say.Rejected depth) fits = refl
  ok_is_put (Ack r named) (say.Blocked depth) fits = refl
  ok_is_put (Ack r named) say.Failed fits = refl
  ok_is_put (Ack r named) say.TooLong fits = refl
  ok_is_put (Ack r named) (say.Got id n) fits = refl
  ok_is_put (Ack r named) say.Empty fits = refl
  ok_is_put (Ack r named) say.NoCredit fits = refl
  ok_is_put (Ack r named) say.Closed fits = refl
  ok_is_put (Ack r named) (say.FailedId id held) fits = refl
  ok_is_put (Ack r named) (say.Acked id) fits = refl
  ok_is_put (Ack r named) say.NotHeld fits = refl
  ok_is_put (Ack r named) (say.Stolen state) fits = refl
  ok_is_put (Ack r named) (say.Released id) fits = refl
  ok_is_put (Ack r named) (say.Outdated id) fits = refl
  ok_is_put (Ack r named) (say.Unlocked id) fits = refl
  ok_is_put (Ack r named) (say.Locked id) fits = refl
  ok_is_put (Ack r named) (say.Stole id) fits = refl
  ok_is_put (Ack r named) (say.NotStealable state) fits = refl
  ok_is_put (Ack r named) (say.Moved state) fits = refl
  ok_is_put (Ack r named) say.Absent fits = refl
  ok_is_put (Ack r named) say.Begun fits = refl
  ok_is_put (Ack r named) say.Already fits = refl
  ok_is_put (Ack r named) (say.Committed dropped) fits = refl
  ok_is_put (Ack r named) say.NoTransaction fits = refl
  ok_is_put (Ack r named) say.RolledBack fits = refl
  ok_is_put (Release r named) (say.Accepted id flowed dropped) fits = absurd fits
  ok_is_put (Release r named) (say.Staged id flowed) fits = refl
  ok_is_put (Release r named) (say.Rejected depth) fits = refl
  ok_is_put (Release r named) (say.Blocked depth) fits = refl
  ok_is_put (Release r named) say.Failed fits = refl
  ok_is_put (Release r named) say.TooLong fits = refl
  ok_is_put (Release r named) (say.Got id n) fits = refl
  ok_is_put (Release r named) say.Empty fits = refl
  ok_is_put (Release r named) say.NoCredit fits = refl
  ok_is_put (Release r named) say.Closed fits = refl
  ok_is_put (Release r named) (say.FailedId id held) fits = refl
  ok_is_put (Release r named) (say.Acked id) fits = refl
  ok_is_put (Release r named) say.NotHeld fits = refl
  ok_is_put (Release r named) (say.Stolen state) fits = refl
  ok_is_put (Release r named) (say.Released id) fits = refl
  ok_is_put (Release r named) (say.Outdated id) fits = refl
  ok_is_put (Release r named) (say.Unlocked id) fits = refl
  ok_is_put (Release r named) (say.Locked id) fits = refl
  ok_is_put (Release r named) (say.Stole id) fits = refl
  ok_is_put (Release r named) (say.NotStealable state) fits = refl
  ok_is_put (Release r named) (say.Moved state) fits = refl
  ok_is_put (Release r named) say.Absent fits = refl
  ok_is_put (Release r named) say.Begun fits = refl
  ok_is_put (Release r named) say.Already fits = refl
  ok_is_put (Release r named) (say.Committed dropped) fits = refl
  ok_is_put (Release r named) say.NoTransaction fits = refl
  ok_is_put (Release r named) say.RolledBack fits = refl
  ok_is_put (Lock r named) (say.Accepted id flowed dropped) fits = absurd fits
  ok_is_put (Lock r named) (say.Staged id flowed) fits = refl
  ok_is_put (Lock r named) (say.Rejected depth) fits = refl
  ok_is_put (Lock r named) (say.Blocked depth) fits = refl
  ok_is_put (Lock r named) say.Failed fits = refl
  ok_is_put (Lock r named) say.TooLong fits = refl
  ok_is_put (Lock r named) (say.Got id n) fits = refl
  ok_is_put (Lock r named) say.Empty fits = refl
  ok_is_put (Lock r named) say.NoCredit fits = refl
  ok_is_put (Lock r named) say.Closed fits = refl
  ok_is_put (Lock r named) (say.FailedId id held) fits = refl
  ok_is_put (Lock r named) (say.Acked id) fits = refl
  ok_is_put (Lock r named) say.NotHeld fits = refl
  ok_is_put (Lock r named) (say.Stolen state) fits = refl
  ok_is_put (Lock r named) (say.Released id) fits = refl
  ok_is_put (Lock r named) (say.Outdated id) fits = refl
  ok_is_put (Lock r named) (say.Unlocked id) fits = refl
  ok_is_put (Lock r named) (say.Locked id) fits = refl
  ok_is_put (Lock r named) (say.Stole id) fits = refl
  ok_is_put (Lock r named) (say.NotStealable state) fits = refl
  ok_is_put (Lock r named) (say.Moved state) fits = refl
  ok_is_put (Lock r named) say.Absent fits = refl
  ok_is_put (Lock r named) say.Begun fits = refl
  ok_is_put (Lock r named) say.Already fits = refl
  ok_is_put (Lock r named) (say.Committed dropped) fits = refl
  ok_is_put (Lock r named) say.NoTransaction fits = refl
  ok_is_put (Lock r named) say.RolledBack fits = refl
  ok_is_put (Unlock r named) (say.Accepted id flowed dropped) fits = absurd fits
  ok_is_put (Unlock r named) (say.Staged id flowed) fits = refl
  ok_is_put (Unlock r named) (say.Rejected depth) fits = refl
  ok_is_put (Unlock r named) (say.Blocked depth) fits = refl
  ok_is_put (Unlock r named) say.Failed fits = refl
  ok_is_put (Unlock r named) say.TooLong fits = refl
  ok_is_put (Unlock r named) (say.Got id n) fits = refl
  ok_is_put (Unlock r named) say.Empty fits = refl
  ok_is_put (Unlock r named) say.NoCredit fits = refl
  ok_is_put (Unlock r named) say.Closed fits = refl
  ok_is_put (Unlock r named) (say.FailedId id held) fits = refl
  ok_is_put (Unlock r named) (say.Acked id) fits = refl
  ok_is_put (Unlock r named) say.NotHeld fits = refl
  ok_is_put (Unlock r named) (say.Stolen state) fits = refl
  ok_is_put (Unlock r named) (say.Released id) fits = refl
  ok_is_put (Unlock r named) (say.Outdated id) fits = refl
  ok_is_put (Unlock r named) (say.Unlocked id) fits = refl
  ok_is_put (Unlock r named) (say.Locked id) fits = refl
  ok_is_put (Unlock r named) (say.Stole id) fits = refl
  ok_is_put (Unlock r named) (say.NotStealable state) fits = refl
  ok_is_put (Unlock r named) (say.Moved state) fits = refl
  ok_is_put (Unlock r named) say.Absent fits = refl
  ok_is_put (Unlock r named) say.Begun fits = refl
  ok_is_put (Unlock r named) say.Already fits = refl
  ok_is_put (Unlock r named) (say.Committed dropped) fits = refl
  ok_is_put (Unlock r named) say.NoTransaction fits = refl
  ok_is_put (Unlock r named) say.RolledBack fits = refl
  ok_is_put (Steal r i) (say.Accepted id flowed dropped) fits = absurd fits
  ok_is_put (Steal r i) (say.Staged id flowed) fits = refl
  ok_is_put (Steal r i) (say.Rejected depth) fits = refl
  ok_is_put (Steal r i) (say.Blocked depth) fits = refl
  ok_is_put (Steal r i) say.Failed fits = refl
  ok_is_put (Steal r i) say.TooLong fits = refl
  ok_is_put (Steal r i) (say.Got id n) fits = refl
  ok_is_put (Steal r i) say.Empty fits = refl
  ok_is_put (Steal r i) say.NoCredit fits = refl
  ok_is_put (Steal r i) say.Closed fits = refl
  ok_is_put (Steal r i) (say.FailedId id held) fits = refl
  ok_is_put (Steal r i) (say.Acked id) fits = refl
  ok_is_put (Steal r i) say.NotHeld fits = refl
  ok_is_put (Steal r i) (say.Stolen state) fits = refl
  ok_is_put (Steal r i) (say.Released id) fits = refl
  ok_is_put (Steal r i) (say.Outdated id) fits = refl
  ok_is_put (Steal r i) (say.Unlocked id) fits = refl
  ok_is_put (Steal r i) (say.Locked id) fits = refl
  ok_is_put (Steal r i) (say.Stole id) fits = refl
  ok_is_put (Steal r i) (say.NotStealable state) fits = refl
  ok_is_put (Steal r i) (say.Moved state) fits = refl
  ok_is_put (Steal r i) say.Absent fits = refl
  ok_is_put (Steal r i) say.Begun fits = refl
  ok_is_put (Steal r i) say.Already fits = refl
  ok_is_put (Steal r i) (say.Committed dropped) fits = refl
  ok_is_put (Steal r i) say.NoTransaction fits = refl
  ok_is_put (Steal r i) say.RolledBack fits = refl
  ok_is_put Begin (say.Accepted id flowed dropped) fits = absurd fits
  ok_is_put Begin (say.Staged id flowed) fits = refl
  ok_is_put Begin (say.Rejected depth) fits = refl
  ok_is_put Begin (say.Blocked depth) fits = refl
  ok_is_put Begin say.Failed fits = refl
  ok_is_put Begin say.TooLong fits = refl
  ok_is_put Begin (say.Got id n) fits = refl
  ok_is_put Begin say.Empty fits = refl
  ok_is_put Begin say.NoCredit fits = refl
  ok_is_put Begin say.Closed fits = refl
  ok_is_put Begin (say.FailedId id held) fits = refl
  ok_is_put Begin (say.Acked id) fits = refl
  ok_is_put Begin say.NotHeld fits = refl
  ok_is_put Begin (say.Stolen state) fits = refl
  ok_is_put Begin (say.Released id) fits = refl
  ok_is_put Begin (say.Outdated id) fits = refl
  ok_is_put Begin (say.Unlocked id) fits = refl
  ok_is_put Begin (say.Locked id) fits = refl
  ok_is_put Begin (say.Stole id) fits = refl
  ok_is_put Begin (say.NotStealable state) fits = refl
  ok_is_put Begin (say.Moved state) fits = refl
  ok_is_put Begin say.Absent fits = refl
  ok_is_put Begin say.Begun fits = refl
  ok_is_put Begin say.Already fits = refl
  ok_is_put Begin (say.Committed dropped) fits = refl
  ok_is_put Begin say.NoTransaction fits = refl
  ok_is_put Begin say.RolledBack fits = refl
  ok_is_put Commit (say.Accepted id flowed dropped) fits = absurd fits
  ok_is_put Commit (say.Staged id flowed) fits = refl
  ok_is_put Commit (say.Rejected depth) fits = refl
  ok_is_put Commit (say.Blocked depth) fits = refl
  ok_is_put Commit say.Failed fits = refl
  ok_is_put Commit say.TooLong fits = refl
  ok_is_put Commit (say.Got id n) fits = refl
  ok_is_put Commit say.Empty fits = refl
  ok_is_put Commit say.NoCredit fits = refl
  ok_is_put Commit say.Closed fits = refl
  ok_is_put Commit (say.FailedId id held) fits = refl
  ok_is_put Commit (say.Acked id) fits = refl
  ok_is_put Commit say.NotHeld fits = refl
  ok_is_put Commit (say.Stolen state) fits = refl
  ok_is_put Commit (say.Released id) fits = refl
  ok_is_put Commit (say.Outdated id) fits = refl
  ok_is_put Commit (say.Unlocked id) fits = refl
  ok_is_put Commit (say.Locked id) fits = refl
  ok_is_put Commit (say.Stole id) fits = refl
  ok_is_put Commit (say.NotStealable state) fits = refl
  ok_is_put Commit (say.Moved state) fits = refl
  ok_is_put Commit say.Absent fits = refl
  ok_is_put Commit say.Begun fits = refl
  ok_is_put Commit say.Already fits = refl
  ok_is_put Commit (say.Committed dropped) fits = refl
  ok_is_put Commit say.NoTransaction fits = refl
  ok_is_put Commit say.RolledBack fits = refl
  ok_is_put Rollback (say.Accepted id flowed dropped) fits = absurd fits
  ok_is_put Rollback (say.Staged id flowed) fits = refl
  ok_is_put Rollback (say.Rejected depth) fits = refl
  ok_is_put Rollback (say.Blocked depth) fits = refl
  ok_is_put Rollback say.Failed fits = refl
  ok_is_put Rollback say.TooLong fits = refl
  ok_is_put Rollback (say.Got id n) fits = refl
  ok_is_put Rollback say.Empty fits = refl
  ok_is_put Rollback say.NoCredit fits = refl
  ok_is_put Rollback say.Closed fits = refl
  ok_is_put Rollback (say.FailedId id held) fits = refl
  ok_is_put Rollback (say.Acked id) fits = refl
  ok_is_put Rollback say.NotHeld fits = refl
  ok_is_put Rollback (say.Stolen state) fits = refl
  ok_is_put Rollback (say.Released id) fits = refl
  ok_is_put Rollback (say.Outdated id) fits = refl
  ok_is_put Rollback (say.Unlocked id) fits = refl
  ok_is_put Rollback (say.Locked id) fits = refl
  ok_is_put Rollback (say.Stole id) fits = refl
  ok_is_put Rollback (say.NotStealable state) fits = refl
  ok_is_put Rollback (say.Moved state) fits = refl
  ok_is_put Rollback say.Absent fits = refl
  ok_is_put Rollback say.Begun fits = refl
  ok_is_put Rollback say.Already fits = refl
  ok_is_put Rollback (say.Committed dropped) fits = refl
  ok_is_put Rollback say.NoTransaction fits = refl
  ok_is_put Rollback say.RolledBack fits = refl

  bytes_are : (w : What) (a : Answer) → LineFits defs s w a dids s' → bytes_of w a ≡ body_of w
  bytes_are (Put q m) a fits = ap (λ (b : Bool). cond b (length m.body) 0) (ok_is_put (Put q m) a fits)
  bytes_are (Take c) a fits = refl
  bytes_are (Close c) a fits = refl
  bytes_are (Ack r named) a fits = refl
  bytes_are (Release r named) a fits = refl
  bytes_are (Lock r named) a fits = refl
  bytes_are (Unlock r named) a fits = refl
  bytes_are (Steal r i) a fits = refl
  bytes_are Begin a fits = refl
  bytes_are Commit a fits = refl
  bytes_are Rollback a fits = refl

-- Actors

abbrev body : Op → ℕ
body op = body_of op.what

abbrev one_put : Op → ℕ
one_put op = cond (is_put op.what) 1 0

lines_bytes : (defs : List Defined) (no_policies : NoPolicies defs) (s s' : Standing) (dids : List Did) (ops : List Op) (answers : List Answer) → LinesFit defs s ops answers dids s' → bytes_put ops answers ≡ sum_by body ops
lines_bytes defs no_policies s s' dids [] [] fits = refl
lines_bytes defs no_policies s s' dids [] (a ∷ answers) fits = absurd fits
lines_bytes defs no_policies s s' dids (op ∷ ops) [] fits = absurd fits
lines_bytes defs no_policies s s' dids (op ∷ ops) (a ∷ answers) fits =
    ap₂ (λ (m n : ℕ). m + n) (bytes_are defs no_policies s fits.1 fits.0 op.what a fits.3) (lines_bytes defs no_policies fits.1 s' fits.2 ops answers fits.4)
    ∙ sym (sum_by-cons body op ops)

abbrev one_ok : ℕ × Answer → ℕ
one_ok line = cond (is_ok line.1) 1 0

lines_ok : (defs : List Defined) (no_policies : NoPolicies defs) (s s' : Standing) (dids : List Did) (ops : List Op) (answers : List Answer) → LinesFit defs s ops answers dids s' → sum_by one_ok (told ops answers) ≡ sum_by one_put ops
lines_ok defs no_policies s s' dids [] [] fits = refl
lines_ok defs no_policies s s' dids [] (a ∷ answers) fits = absurd fits
lines_ok defs no_policies s s' dids (op ∷ ops) [] fits = absurd fits
lines_ok defs no_policies s s' dids (op ∷ ops) (a ∷ answers) fits =
    sum_by-cons one_ok (op.line, a) (told ops answers)
    ∙ ap₂ (λ (b : Bool) (n : ℕ). cond b 1 0 + n) (ok_is_put defs no_policies s fits.1 fits.0 op.what a fits.3) (lines_ok defs no_policies fits.1 s' fits.2 ops answers fits.4)
    ∙ sym (sum_by-cons one_put op ops)

-- Phases

module _ (defs : List Defined) (no_policies : NoPolicies defs) where
  abbrev Stories : List Story → Type 0
  Stories stories = (i : ℕ) (s : Story) → slice_get stories i ≡ Some s → IsStory defs s

  abbrev lines_of : List Story → Actors
  lines_of stories = map (λ (s : Story). (s.name, s.ops)) stories

  stories_bytes : (stories : List Story) → Stories stories → sum_by (λ (s : Story). bytes_put s.ops s.answers) stories ≡ sum_by body (ops_in (lines_of stories))
  stories_bytes [] are = refl
  stories_bytes (s ∷ stories) are =
      sum_by-cons (λ (x : Story). bytes_put x.ops x.answers) s stories
      ∙ ap₂ (λ (m n : ℕ). m + n) (lines_bytes defs no_policies _ s.end s.dids s.ops s.answers (are 0 s refl)) (stories_bytes stories (λ i x e. are (suc i) x e))
      ∙ sym (sum_by-append body s.ops (ops_in (lines_of stories)))

  stories_ok : (stories : List Story) → Stories stories → sum_by one_ok (flat_map (λ (s : Story). told s.ops s.answers) stories) ≡ sum_by one_put (ops_in (lines_of stories))
  stories_ok [] are = refl
  stories_ok (s ∷ stories) are =
      sum_by-append one_ok (told s.ops s.answers) (flat_map (λ (x : Story). told x.ops x.answers) stories)
      ∙ ap₂ (λ (m n : ℕ). m + n) (lines_ok defs no_policies _ s.end s.dids s.ops s.answers (are 0 s refl)) (stories_ok stories (λ i x e. are (suc i) x e))
      ∙ sym (sum_by-append one_put s.ops (ops_in (lines_of stories)))

  -- the bytes of what was put are those of what the lines put
  pub phases_bytes : (rows : List (List Row)) (seats seats' : Seats) (phases : List Actors) (accounts : List Account) → ArePhases defs rows seats phases accounts seats' → all_bytes accounts ≡ sum_by body (all_ops phases)
  phases_bytes rows seats seats' [] [] are = refl
  phases_bytes rows seats seats' [] (a ∷ accounts) are = absurd are
  phases_bytes rows seats seats' (p ∷ phases) [] are = absurd are
  phases_bytes rows seats seats' (p ∷ phases) (a ∷ accounts) are =
      sum_by-cons bytes_in a accounts
      ∙ ap₂ (λ (m n : ℕ). m + n)
      (stories_bytes a.stories are.1.stories ∙ ap (λ (actors : Actors). sum_by body (ops_in actors)) are.1.lines)
      (phases_bytes (map handed_on a.queues) are.0 seats' phases accounts are.2)
      ∙ sym (sum_by-append body (ops_in p) (all_ops phases))

  -- as many lines are answered by ok as put something
  pub phases_ok : (rows : List (List Row)) (seats seats' : Seats) (phases : List Actors) (accounts : List Account) → ArePhases defs rows seats phases accounts seats' → answered is_ok (all_answers accounts) ≡ sum_by one_put (all_ops phases)
  phases_ok rows seats seats' [] [] are = refl
  phases_ok rows seats seats' [] (a ∷ accounts) are = absurd are
  phases_ok rows seats seats' (p ∷ phases) [] are = absurd are
  phases_ok rows seats seats' (p ∷ phases) (a ∷ accounts) are =
      sum_by-append one_ok (answers_in a) (all_answers accounts)
      ∙ ap₂ (λ (m n : ℕ). m + n)
      (stories_ok a.stories are.1.stories ∙ ap (λ (actors : Actors). sum_by one_put (ops_in actors)) are.1.lines)
      (phases_ok (map handed_on a.queues) are.0 seats' phases accounts are.2)
      ∙ sym (sum_by-append one_put (ops_in p) (all_ops phases))
