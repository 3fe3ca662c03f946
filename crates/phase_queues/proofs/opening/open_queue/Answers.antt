use Rattle.std.proofs.Common.{◌≡◌, ℕ, ◌∙◌, length, ap, subst, arith, vec_len}
use Rattle.txn_core.specs.Parcels.{load_of}
use Rattle.defs_read.specs.Defined.{defined}
use Rattle.defs_read.specs.Slips.{lists_of}
use Rattle.any_queue.specs.Kinds.{build_in, sight_in, ServesAny}
use Rattle.any_queue.specs.Parting.{AllMayStart, IsFresh, kind_of}
use Rattle.phase_queues.specs.Opened.{IsOpened, rows_for}
use Rattle.phase_queues.proofs.Starting.{is_opened, may_start, ok_both, start_apart, start_long}
use Rattle.phase_queues.proofs.opening.open_queue.Goals as goal

pub make-requires-clause-room : goal.make-requires-clause-room
make-requires-clause-room g c κs within =
    let same = start_long c.args.entries.items c.in_ok-start.start.items c.in_ok-start.ensures in
    let rows = c.rows_for-rows.ensures in
    let n = c.len.ensures in
    let a = c.args.entries.ok in
    let b = c.in_ok-start.start.ok in
    omega (arith, same, rows, n, a, b)

pub make-requires-clause-start : goal.make-requires-clause-start
make-requires-clause-start g c κs within =
    let ok = c.args.def.now.consumers.ok in
    let many : length c.args.def.now.consumers.items ≡ vec_len c.args.def.now.consumers = omega (arith, ok) in
    subst (λ (n : ℕ). AllMayStart load_of (kind_of c.args.def.now.kind) (lists_of c.args.def.now.kind) n c.in_ok-start.start.items) many
    (may_start (defined c.args.def.now) c.args.entries.items c.in_ok-start.start.items c.in_ok-start.ensures c.requires.stay)

pub make-requires-clause-apart : goal.make-requires-clause-apart
make-requires-clause-apart g c κs within = start_apart (defined c.args.def.now) c.args.entries.items c.in_ok-start.start.items c.in_ok-start.ensures c.requires.stay

pub returns-in-Ok : goal.returns-in-Ok
returns-in-Ok g c =
    let ok = c.args.def.now.consumers.ok in
    let many : vec_len c.args.def.now.consumers ≡ length c.args.def.now.consumers.items = omega (arith, ok) in
    let n = c.len.ensures in
    let a = c.args.entries.ok in
    let same : c.len.result ≡ length c.args.entries.items = omega (arith, n, a) in
    let rows : c.rows_for-rows.result ≡ rows_for (length c.args.entries.items) c.args.puts = c.rows_for-rows.ensures ∙ ap (λ (k : ℕ). rows_for k c.args.puts) same in
    let kind = c.args.def.now.kind in
    let start = c.in_ok-start.start.items in
    ok_both (λ r. ServesAny r.0 r.1)
    (λ r. IsFresh load_of (kind_of kind) (lists_of kind) c.rows_for-rows.result (vec_len c.args.def.now.consumers) start (build_in r.0) (sight_in r.1))
    (λ r. IsOpened (defined c.args.def.now) c.args.entries.items c.args.puts r.0 r.1)
    c.make.result
    (λ r serves fresh. is_opened (defined c.args.def.now) c.args.entries.items start c.args.puts r.0 r.1 c.requires.room c.in_ok-start.ensures serves
    (subst (λ (z : ℕ × ℕ). IsFresh load_of (kind_of kind) (lists_of kind) z.0 z.1 start (build_in r.0) (sight_in r.1)) (λ i. (rows i, many i)) fresh))
    c.make.ensures.serves c.make.ensures.fresh
