use Rattle.std.proofs.Common.{◌≡◌, ◌+◌, ◌⊎◌, ◌++◌, min, length, List, ℕ, inl, inr, subst}
use Rattle.std.specs.List.{flat_map}
use Rattle.outside_io.specs.Counts.{last_count}
use Rattle.journal_format.specs.Spelling.{txn_bytes, batch_bytes}
use Rattle.std.specs.Prelude.{is_ok, false, OnOk, OnErr, IfOk, IfSome}
use Rattle.journal_format.specs.Batches.{lists_of}
use Rattle.journal_core.specs.Stands.{IsEither, KeepsFront, Gives}
use Rattle.journal_core.specs.History.{after}
use Rattle.journal_core.proofs.Moments.{over_as, over_then, on_ok_at, on_err_at, extends_then}
use Rattle.journal_core.proofs.Torn.{keeps_then}
use Rattle.journal_core.proofs.Committing.{doubted, agrees_failed, agrees_appended, commit_keeps}
use Rattle.journal_core.proofs.journal.Journal.commit.Goals as goal

pub returns-in-Err-clause-agrees : goal.returns-in-Err-clause-agrees
returns-in-Err-clause-agrees g c C J waits a =
    let d = doubted _ _ _ C J (lists_of c.args.txns.now) a in
    agrees_failed _ _ _ C (lists_of c.args.txns.now) J _ _ _ d.failed waits d.why (c.repair_if_due.ensures.stands _ _ d.whole)

pub returns-in-Err-clause-kept : goal.returns-in-Err-clause-kept
returns-in-Err-clause-kept g c t0 C J waits a began kept =
    let disk = g.met.D.Disk g.world.𝓛 g.world.𝓜 g.world.𝓡 ((λ s x. x), (λ x. x), (λ x. x), λ x. x) in
    let B = lists_of c.args.txns.now in
    let d = doubted _ _ _ C J B a in
    let over = over_as g.D.Disk.moment g.D.Disk.since c.args.self.now.disk c.repair_if_due.new.self.disk _ (λ x. IsEither (C ++ (after J).stored) d.failed x ⊎ IsEither (C ++ (after J).stored) B x) (c.repair_if_due.ensures.moments _ _ d.whole) (λ x p. inl p) in
    commit_keeps g.D.Disk.moment g.D.Disk.since g.D.Disk.images disk.only_now disk.from_later t0 c.args.self.now.disk c.repair_if_due.new.self.disk _ _ _ _ C B J false _ _ d.failed waits began kept a d.why over
    (agrees_failed _ _ _ C B J _ _ _ d.failed waits d.why (c.repair_if_due.ensures.stands _ _ d.whole))

pub returns-in-Ok-clause-agrees : goal.returns-in-Ok-clause-agrees
returns-in-Ok-clause-agrees g c C J waits a =
    let B = lists_of c.args.txns.now in
    let d = doubted _ _ _ C J B a in
    let whole = c.repair_if_due.ensures.stands _ _ d.whole in
    agrees_appended c.append.result _ _ _ C B J _ _ _ waits (on_ok_at c.append.result _ _ (λ h. h _ _ whole) c.append.ensures.ok) (on_err_at c.append.result _ _ (λ h. h _ _ whole) c.append.ensures.err) c.append.ensures.clean

pub returns-in-Ok-clause-kept : goal.returns-in-Ok-clause-kept
returns-in-Ok-clause-kept g c t0 C J waits a began kept =
    let disk = g.met.D.Disk g.world.𝓛 g.world.𝓜 g.world.𝓡 ((λ s x. x), (λ x. x), (λ x. x), λ x. x) in
    let B = lists_of c.args.txns.now in
    let d = doubted _ _ _ C J B a in
    let whole = c.repair_if_due.ensures.stands _ _ d.whole in
    let P : List ℕ → Type 0 = λ x. IsEither (C ++ (after J).stored) d.failed x ⊎ IsEither (C ++ (after J).stored) B x in
    let first = over_as g.D.Disk.moment g.D.Disk.since c.args.self.now.disk c.repair_if_due.new.self.disk _ P (c.repair_if_due.ensures.moments _ _ d.whole) (λ x p. inl p) in
    let second = over_as g.D.Disk.moment g.D.Disk.since c.repair_if_due.new.self.disk c.append.new.self.disk _ P (c.append.ensures.moments _ _ whole) (λ x p. inr p) in
    commit_keeps g.D.Disk.moment g.D.Disk.since g.D.Disk.images disk.only_now disk.from_later t0 c.args.self.now.disk c.append.new.self.disk _ _ _ _ C B J (is_ok c.append.result) _ _ d.failed waits began kept a d.why
    (over_then g.D.Disk.moment g.D.Disk.since c.args.self.now.disk c.repair_if_due.new.self.disk c.append.new.self.disk P first second)
    (agrees_appended c.append.result _ _ _ C B J _ _ _ waits (on_ok_at c.append.result _ _ (λ h. h _ _ whole) c.append.ensures.ok) (on_err_at c.append.result _ _ (λ h. h _ _ whole) c.append.ensures.err) c.append.ensures.clean)

pub returns-in-Ok-clause-trail : goal.returns-in-Ok-clause-trail
returns-in-Ok-clause-trail g c = extends_then _ _ _ c.repair_if_due.ensures.trail c.append.ensures.trail

pub returns-in-Ok-clause-front : goal.returns-in-Ok-clause-front
returns-in-Ok-clause-front g c =
    keeps_then _ _ _ _ c.repair_if_due.ensures.front (subst (λ n. KeepsFront n (g.D.Disk.seen c.repair_if_due.new.self.disk) (g.D.Disk.seen c.append.new.self.disk)) c.repair_if_due.ensures.gate c.append.ensures.front)

pub returns-in-Ok-clause-gives : goal.returns-in-Ok-clause-gives
returns-in-Ok-clause-gives g c =
    subst (λ n. OnOk c.append.result (IfSome (g.D.Disk.seen c.append.new.self.disk) (Gives (n + 13) (flat_map txn_bytes (lists_of c.args.txns.now))))) c.repair_if_due.ensures.gate c.append.ensures.gives

pub returns-in-Ok-clause-place : goal.returns-in-Ok-clause-place
returns-in-Ok-clause-place g c = subst (λ n. IfOk c.append.result (λ at. at ≡ min (n + 13) last_count)) c.repair_if_due.ensures.gate c.append.ensures.place

pub returns-in-Ok-clause-gate : goal.returns-in-Ok-clause-gate
returns-in-Ok-clause-gate g c =
    subst (λ n. OnOk c.append.result (c.append.new.self.gate ≡ min (n + (length (batch_bytes (lists_of c.args.txns.now)) + 1)) last_count)) c.repair_if_due.ensures.gate c.append.ensures.gate

pub returns-in-Ok-clause-stays : goal.returns-in-Ok-clause-stays
returns-in-Ok-clause-stays g c =
    subst (λ n. OnErr c.append.result (c.append.new.self.gate ≡ n)) c.repair_if_due.ensures.gate c.append.ensures.stays
