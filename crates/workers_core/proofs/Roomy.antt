-- room for what lines drop
use Rattle.std.proofs.Common.{◌≡◌, ◌≤◌, ◌<◌, ◌+◌, ◌^◌, ◌||◌, ℕ, zero, suc, Bool, true, false, cond, Some, List, [], ◌∷◌, ◌++◌, slice_get, slice_set, refl, sym, ap, ◌∙◌, subst, arith}
use Rattle.std.specs.List.{list_any, sum_by}
use Rattle.std.proofs.lemmas.List.Sums.{sum_by-cons}
use Rattle.acts_core.specs.Sight.{Build, Sight}
use Rattle.defs_read.specs.Defined.{Defined}
use Rattle.script_read.specs.declared.lines.Op.{Op}
use Rattle.script_read.specs.declared.lines.What.{What}
use Rattle.script_read.specs.declared.lines.What.TheVariants.{Put}
use Rattle.message_core.specs.Spelling.{Content}
use Rattle.overflow_core.specs.Limits.{is_ring}
use Rattle.report_core.specs.declared.answers.Answer as report
use Rattle.line_core.specs.Fits.{Standing}
use Rattle.line_core.specs.Places.{kind_of}
use Rattle.line_core.specs.Runs.{DidOn, calls_on}
use Rattle.workers_core.specs.Drops.{HasRoom, all_drops, all_left, all_rows, displaced_at, displaced_by, displaces, droppable, is_ring_at, left_to, puts_to_ring}
use Rattle.workers_core.specs.Jobs.{is_put}
use Rattle.workers_core.specs.Phases.{lines_of}
use Rattle.workers_core.specs.declared.jobs.Job.{Job}
use Rattle.workers_core.proofs.Deletions.{left_less}
use Rattle.workers_core.proofs.Served.{lines_more}

-- Rows that are left

left_one : (builds : List Build) (sights : List Sight) (q : ℕ) (b : Build) (t : Sight) → slice_get builds q ≡ Some b → slice_get sights q ≡ Some t → left_to b t ≤ all_left builds sights
left_one [] sights q b t built seen = absurd (cc)
left_one (x ∷ builds) [] q b t built seen = absurd (cc)
left_one (x ∷ builds) (y ∷ sights) zero b t built seen =
    let bx : x ≡ b = cc in let ty : y ≡ t = cc in
    subst (λ (z : Build). left_to z t ≤ left_to x y + all_left builds sights) bx (subst (λ (z : Sight). left_to x z ≤ left_to x y + all_left builds sights) ty (omega arith))
left_one (x ∷ builds) (y ∷ sights) (suc q) b t built seen = omega (arith, left_one builds sights q b t built seen)

pub left_set : (builds : List Build) (sights : List Sight) (q : ℕ) (b : Build) (t u : Sight) → slice_get builds q ≡ Some b → slice_get sights q ≡ Some t → all_left builds (slice_set sights q u) + left_to b t ≡ all_left builds sights + left_to b u
left_set [] sights q b t u built seen = absurd (cc)
left_set (x ∷ builds) [] q b t u built seen = absurd (cc)
left_set (x ∷ builds) (y ∷ sights) zero b t u built seen =
    let bx : x ≡ b = cc in let ty : y ≡ t = cc in
    subst (λ (z : Build). left_to x u + all_left builds sights + left_to z t ≡ left_to x y + all_left builds sights + left_to z u) bx
    (subst (λ (z : Sight). left_to x u + all_left builds sights + left_to x z ≡ left_to x y + all_left builds sights + left_to x u) ty (omega arith))
left_set (x ∷ builds) (y ∷ sights) (suc q) b t u built seen = omega (arith, left_set builds sights q b t u built seen)

left_rows : (builds : List Build) (sights : List Sight) → all_left builds sights ≤ all_rows builds
left_rows [] sights = omega arith
left_rows (b ∷ builds) [] = omega arith
left_rows (b ∷ builds) (t ∷ sights) = omega (arith, left_rows builds sights, sum_by-cons (λ (x : Build). x.rows) b builds)

-- after a line by one pass
pub left_job : (builds : List Build) (olds : List Sight) (q : ℕ) (b : Build) (old new : Sight) (n n' : ℕ) → slice_get builds q ≡ Some b → slice_get olds q ≡ Some old → n' + left_to b new ≤ n + left_to b old → n' + all_left builds (slice_set olds q new) ≤ n + all_left builds olds
left_job builds olds q b old new n n' built there less = omega (arith, less, left_set builds olds q b old new built there)

pub left_line : (defs : List Defined) (build : Build) (q : ℕ) (old new : Sight) (s s' : Standing) (w : What) (a : report.Answer) (n n' : ℕ) → DidOn defs build q old s w a new s' → (is_put w ≡ true → n' + left_to build new ≤ n + left_to build old) → (is_put w ≡ false → n' ≡ n) → n' + left_to build new ≤ n + left_to build old
left_line defs build q old new s s' w a n n' did put other = by_test (is_put w) put other where
  by_test : (b : Bool) → (b ≡ true → n' + left_to build new ≤ n + left_to build old) → (b ≡ false → n' ≡ n) → n' + left_to build new ≤ n + left_to build old
  by_test true is_one other_one = is_one refl
  by_test false is_one other_one = omega (arith, other_one refl, left_less build (calls_on q did.dids) old new did.here)

-- Lines

-- whether one of the lines puts to a ring
abbrev any_ring : List Defined → List Op → Bool
any_ring defs ops = list_any (λ op. puts_to_ring defs op.what) ops

abbrev all_displaced : List Defined → List Op → ℕ
all_displaced defs ops = sum_by (λ op. displaces defs op.what) ops

first_displaced : (defs : List Defined) (op : Op) (ops : List Op) → all_displaced defs (op ∷ ops) ≡ displaces defs op.what + all_displaced defs ops
first_displaced defs op ops = sum_by-cons (λ (o : Op). displaces defs o.what) op ops

-- room for lines is room for the first one
pub room_first : (defs : List Defined) (left n cap : ℕ) (op : Op) (ops : List Op) → HasRoom (all_drops defs left (op ∷ ops)) n cap → HasRoom (all_drops defs left (op ∷ [])) n cap
room_first defs left n cap op ops room = by_test (puts_to_ring defs op.what) (any_ring defs ops) room.within room.numbered where
  d : ℕ
  d = displaces defs op.what

  by_test : (r s : Bool) → n + (all_displaced defs (op ∷ ops) + cond (r || s) left 0) ≤ cap → n + (all_displaced defs (op ∷ ops) + cond (r || s) left 0) < 2 ^ 32 → HasRoom (all_displaced defs (op ∷ []) + cond (r || false) left 0) n cap
  by_test true s fits few = record {
    within = omega (arith, fits, first_displaced defs op ops, first_displaced defs op []);
    numbered = omega (arith, few, first_displaced defs op ops, first_displaced defs op []);
  }
  by_test false s fits few = record {
    within = omega (arith, fits, first_displaced defs op ops, first_displaced defs op []);
    numbered = omega (arith, few, first_displaced defs op ops, first_displaced defs op []);
  }

-- and after it there is room for the others
pub room_others : (defs : List Defined) (left left' n n' cap : ℕ) (op : Op) (ops : List Op) → n' + left' ≤ n + left → (puts_to_ring defs op.what ≡ false → n' ≤ n + displaces defs op.what) → HasRoom (all_drops defs left (op ∷ ops)) n cap → HasRoom (all_drops defs left' ops) n' cap
room_others defs left left' n n' cap op ops less few room = by_test (puts_to_ring defs op.what) (any_ring defs ops) few room.within room.numbered where
  by_test : (r s : Bool) → (r ≡ false → n' ≤ n + displaces defs op.what) → n + (all_displaced defs (op ∷ ops) + cond (r || s) left 0) ≤ cap → n + (all_displaced defs (op ∷ ops) + cond (r || s) left 0) < 2 ^ 32 → HasRoom (all_displaced defs ops + cond s left' 0) n' cap
  by_test true true plain fits small = record { within = omega (arith, fits, less, first_displaced defs op ops); numbered = omega (arith, small, less, first_displaced defs op ops) }
  by_test true false plain fits small = record { within = omega (arith, fits, less, first_displaced defs op ops); numbered = omega (arith, small, less, first_displaced defs op ops) }
  by_test false true plain fits small = record { within = omega (arith, fits, less, first_displaced defs op ops); numbered = omega (arith, small, less, first_displaced defs op ops) }
  by_test false false plain fits small = record { within = omega (arith, fits, plain refl, first_displaced defs op ops); numbered = omega (arith, small, plain refl, first_displaced defs op ops) }

-- of the lines that are kept with the first one last
pub room_job : (defs : List Defined) (left n cap : ℕ) (jobs rest : List Job) (job : Job) → jobs ≡ rest ++ job ∷ [] → HasRoom (all_drops defs left (lines_of jobs)) n cap → HasRoom (all_drops defs left (job.op ∷ [])) n cap
room_job defs left n cap jobs rest job is room =
    room_first defs left n cap job.op (lines_of rest) (subst (λ (ops : List Op). HasRoom (all_drops defs left ops) n cap) (ap lines_of is ∙ lines_more rest job) room)

pub room_rest : (defs : List Defined) (left left' n n' cap cap' : ℕ) (jobs rest : List Job) (job : Job) → jobs ≡ rest ++ job ∷ [] → cap' ≡ cap → n' + left' ≤ n + left → (puts_to_ring defs job.op.what ≡ false → n' ≤ n + displaces defs job.op.what)
    → HasRoom (all_drops defs left (lines_of jobs)) n cap → HasRoom (all_drops defs left' (lines_of rest)) n' cap'
room_rest defs left left' n n' cap cap' jobs rest job is same less few room =
    let first : HasRoom (all_drops defs left (job.op ∷ lines_of rest)) n cap = subst (λ (ops : List Op). HasRoom (all_drops defs left ops) n cap) (ap lines_of is ∙ lines_more rest job) room in
    subst (HasRoom (all_drops defs left' (lines_of rest)) n') (sym same) (room_others defs left left' n n' cap job.op (lines_of rest) less few first)

-- where there is room for as many rows as queues have, there is room for those that are left
pub room_left : (defs : List Defined) (builds : List Build) (sights : List Sight) (n cap : ℕ) (ops : List Op) → n ≡ 0 → HasRoom (all_drops defs (all_rows builds) ops) 0 cap → HasRoom (all_drops defs (all_left builds sights) ops) n cap
room_left defs builds sights n cap ops none room = by_test (any_ring defs ops) room.within room.numbered where
  by_test : (r : Bool) → 0 + (all_displaced defs ops + cond r (all_rows builds) 0) ≤ cap → 0 + (all_displaced defs ops + cond r (all_rows builds) 0) < 2 ^ 32 → HasRoom (all_displaced defs ops + cond r (all_left builds sights) 0) n cap
  by_test true fits few = record { within = omega (arith, fits, none, left_rows builds sights); numbered = omega (arith, few, none, left_rows builds sights) }
  by_test false fits few = record { within = omega (arith, fits, none); numbered = omega (arith, few, none) }

-- One put

-- there is room for what a put can drop
pub room_put : (defs : List Defined) (builds : List Build) (sights : List Sight) (q n cap : ℕ) (b : Build) (t : Sight) (def : Defined) (op : Op) (r : ℕ) (m : Content)
    → slice_get builds q ≡ Some b → slice_get sights q ≡ Some t → slice_get defs q ≡ Some def → b.kind ≡ kind_of def.kind → op.what ≡ Put r m → r ≡ q → HasRoom (all_drops defs (all_left builds sights) (op ∷ [])) n cap → HasRoom (droppable def.limits b t) n cap
room_put defs builds sights q n cap b t def op r m built seen there kind is same room =
    by_ring (is_ring def.limits) (subst (λ (x : Bool). n + (all_displaced defs (op ∷ []) + cond (x || false) (all_left builds sights) 0) ≤ cap) ring room.within)
    (subst (λ (x : Bool). n + (all_displaced defs (op ∷ []) + cond (x || false) (all_left builds sights) 0) < 2 ^ 32) ring room.numbered)
  where
    at : slice_get defs r ≡ Some def
    at = ap (slice_get defs) same ∙ there

    ring : puts_to_ring defs op.what ≡ is_ring def.limits
    ring = ap (puts_to_ring defs) is ∙ ap is_ring_at at

    one : displaces defs op.what ≡ displaced_by b.kind
    one = ap (displaces defs) is ∙ ap displaced_at at ∙ ap displaced_by (sym kind)

    by_ring : (x : Bool) → n + (all_displaced defs (op ∷ []) + cond (x || false) (all_left builds sights) 0) ≤ cap → n + (all_displaced defs (op ∷ []) + cond (x || false) (all_left builds sights) 0) < 2 ^ 32 → HasRoom (cond x (left_to b t) (displaced_by b.kind)) n cap
    by_ring true fits few = record { within = omega (arith, fits, left_one builds sights q b t built seen); numbered = omega (arith, few, left_one builds sights q b t built seen) }
    by_ring false fits few = record { within = omega (arith, fits, one, first_displaced defs op []); numbered = omega (arith, few, one, first_displaced defs op []) }
