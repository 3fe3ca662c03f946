-- the calls of a put that drop entries, and the entries that it drops
use Rattle.std.proofs.Common.{◌≡◌, ℕ, ◌+◌, ◌-◌, Bool, true, false, Option, Some, None, List, [], ◌∷◌, ◌++◌, drop as skip, flat_map, length, slice_range, take, refl, sym, ap, ap₂, ◌∙◌, subst, ⊎_elim, append-nil, append_assoc, arith}
use Rattle.std.proofs.Math.Seq.{drop-append_seam, take-append_seam}
use Rattle.std.specs.List.{AllByRecursion}
use Rattle.queue_model.specs.declared.queues.Depth.{Depth}
use Rattle.queue_model.specs.declared.queues.Limits.{Limits}
use Rattle.acts_core.specs.Calls.{CallDepth, CallOldest, CallDequeue, CallDelete, IsDepth, IsGot, IsEmpty, IsFreed, IsDone}
use Rattle.acts_core.specs.Load.{Load}
use Rattle.message_core.specs.Spelling.{Content}
use Rattle.defs_read.specs.Defined.{Defined}
use Rattle.script_read.specs.declared.lines.Op.{Op}
use Rattle.script_read.specs.declared.lines.What.{What}
use Rattle.script_read.specs.declared.lines.What.TheVariants.{Put, Take, Close, Ack, Release, Lock, Unlock, Steal}
use Rattle.report_core.specs.declared.answers.Answer as report
use Rattle.report_core.specs.declared.answers.Answer.TheVariants.{Accepted, Rejected, Blocked, Got, Empty, NoCredit, Closed, Acked, NotHeld, Stolen, Released, Outdated, Unlocked, Locked, Stole, NotStealable, Moved, Absent}
use Rattle.report_core.specs.declared.answers.Dropped.{Dropped}
use Rattle.report_core.specs.declared.answers.Span.{Span}
use Rattle.overflow_core.specs.Limits.{is_ring}
use Rattle.line_core.specs.Fits.{Did, On, Standing, DropsNoMore, DropsOlder, LineFits, LinesFit, Puts, Trims, TrimsRing, span_of}
use Rattle.account_core.specs.Dropping.{named_in}

-- what holds of two lists in a row holds of each
pub all_parts : {X : Type 0} (P : X → Type 0) (xs ys : List X) → AllByRecursion P (xs ++ ys) → AllByRecursion P xs × AllByRecursion P ys
all_parts P [] ys all = (tt, all)
all_parts P (x ∷ xs) ys all = let rest = all_parts P xs ys all.1 in ((all.0, rest.0), rest.1)

-- what holds of each of two lists holds of both
pub all_join : {X : Type 0} (P : X → Type 0) (xs ys : List X) → AllByRecursion P xs → AllByRecursion P ys → AllByRecursion P (xs ++ ys)
all_join P [] ys here rest = rest
all_join P (x ∷ xs) ys here rest = (here.0, all_join P xs ys here.1 rest)

-- what holds of each kind of call with which a put to queue q drops entries
module _ (P : Did → Type 0) (q : ℕ) (looked : (d : Depth) → P (On q CallDepth (IsDepth d))) (got : (r l : ℕ) (load : Load) → P (On q CallOldest (IsGot r l load))) (none : P (On q CallOldest IsEmpty))
    (freed : (r size : ℕ) → P (On q (CallDequeue r) (IsFreed size))) (deleted : (r : ℕ) → P (On q (CallDelete r) IsDone)) where
  older_each : (displaced : Option (ℕ × Load)) (xs : List Dropped) (dids : List Did) → DropsOlder q displaced xs dids → AllByRecursion P dids
  older_each None xs dids drops = subst (AllByRecursion P) (sym drops.1) tt
  older_each (Some d) xs dids drops = subst (AllByRecursion P) (sym drops.2) (freed d.0 drops.0, (deleted d.0, tt))

  none_each : (limits : Limits) (dids : List Did) → DropsNoMore limits q dids → AllByRecursion P dids
  none_each limits dids drops = ⊎_elim
      (λ within. subst (AllByRecursion P) (sym within.1) (looked drops.0, tt))
      (λ beyond. subst (AllByRecursion P) (sym beyond.1) (looked drops.0, (none, tt)))
      drops.1

  trims_each : (limits : Limits) (xs : List Dropped) (dids : List Did) → Trims limits q xs dids → AllByRecursion P dids
  trims_each limits [] dids trims = none_each limits dids trims
  trims_each limits (x ∷ xs) dids trims =
      let one = trims.2 in
      let first : AllByRecursion P trims.0 = subst (AllByRecursion P) (sym one.did) (looked one.depth, (got one.row one.list one.load, (freed one.row one.size, (deleted one.row, tt)))) in
      subst (AllByRecursion P) (sym trims.4) (all_join P trims.0 trims.1 first (trims_each limits xs trims.1 trims.3))

  ring_each : (ring : Bool) (limits : Limits) (xs : List Dropped) (dids : List Did) → TrimsRing ring limits q xs dids → AllByRecursion P dids
  ring_each true limits xs dids trims = trims_each limits xs dids trims
  ring_each false limits xs dids trims = subst (AllByRecursion P) (sym trims.1) tt

  -- of all calls of a put behind that which put the message
  pub drops_each : (defs : List Defined) (s : Standing) (m : Content) (own : List Dropped) (dids : List Did) (s' : Standing) (puts : Puts defs s q m own dids s') → AllByRecursion P (puts.older_dids ++ puts.oldest_dids)
  drops_each defs s m own dids s' puts = all_join P puts.older_dids puts.oldest_dids
      (older_each puts.displaced puts.older puts.older_dids puts.drops_older)
      (ring_each (is_ring puts.asks.def.limits) puts.asks.def.limits puts.oldest puts.oldest_dids puts.trims)

-- Queues

-- the entry is of queue q
abbrev pub IsFrom : ℕ → Dropped → Type 0
IsFrom q x = x.queue ≡ q

older_from : (q : ℕ) (displaced : Option (ℕ × Load)) (xs : List Dropped) (dids : List Did) → DropsOlder q displaced xs dids → AllByRecursion (IsFrom q) xs
older_from q None xs dids drops = subst (AllByRecursion (IsFrom q)) (sym drops.0) tt
older_from q (Some d) xs dids drops = subst (AllByRecursion (IsFrom q)) (sym drops.1) (refl, tt)

trims_from : (q : ℕ) (limits : Limits) (xs : List Dropped) (dids : List Did) → Trims limits q xs dids → AllByRecursion (IsFrom q) xs
trims_from q limits [] dids trims = tt
trims_from q limits (x ∷ xs) dids trims = (ap (λ (y : Dropped). y.queue) trims.2.named, trims_from q limits xs trims.1 trims.3)

ring_from : (q : ℕ) (ring : Bool) (limits : Limits) (xs : List Dropped) (dids : List Did) → TrimsRing ring limits q xs dids → AllByRecursion (IsFrom q) xs
ring_from q true limits xs dids trims = trims_from q limits xs dids trims
ring_from q false limits xs dids trims = subst (AllByRecursion (IsFrom q)) (sym trims.0) tt

-- what a put drops is of its queue
pub puts_from : (defs : List Defined) (s : Standing) (q : ℕ) (m : Content) (own : List Dropped) (dids : List Did) (s' : Standing) → Puts defs s q m own dids s' → AllByRecursion (IsFrom q) own
puts_from defs s q m own dids s' puts =
    subst (AllByRecursion (IsFrom q)) (sym puts.all)
    (all_join (IsFrom q) puts.older puts.oldest
    (older_from q puts.displaced puts.older puts.older_dids puts.drops_older)
    (ring_from q (is_ring puts.asks.def.limits) puts.asks.def.limits puts.oldest puts.oldest_dids puts.trims))

-- Standings

-- What a line with this answer drops: it stands behind what was dropped before, and is what the answer names among all
-- drops in the end.
pub record DropsMore (P : Dropped → Type 0) (answer : report.Answer) (old new : List Dropped) : Type 0 where
  pub own : List Dropped
  pub all : new ≡ old ++ own
  pub each : AllByRecursion P own
  pub told : (drops rest : List Dropped) → new ++ rest ≡ drops → named_in drops answer ≡ own

-- a line that drops nothing
drops_none : (P : Dropped → Type 0) (answer : report.Answer) (s s' t : Standing) → s' ≡ t → t.drops ≡ s.drops → ((drops : List Dropped) → named_in drops answer ≡ []) → DropsMore P answer s.drops s'.drops
drops_none P answer s s' t is same none = record { own = []; all = ap (λ (z : Standing). z.drops) is ∙ same ∙ sym (append-nil s.drops); each = tt; told = λ drops rest e. none drops }

-- the part of a list that a span names
own_part : (old own rest drops : List Dropped) (span : Span) → span ≡ span_of old own → (old ++ own) ++ rest ≡ drops → slice_range drops span.from span.to ≡ own
own_part old own rest drops span is whole =
    let many : length old + length own - length old ≡ length own = omega arith in
    let behind : (old ++ own) ++ rest ≡ old ++ (own ++ rest) = append_assoc old own rest in
    ap (λ (z : Span). slice_range drops z.from z.to) is
    ∙ ap (λ (xs : List Dropped). slice_range xs (length old) (length old + length own)) (sym whole ∙ behind)
    ∙ ap (λ (n : ℕ). take n (skip (length old) (old ++ (own ++ rest)))) many
    ∙ ap (λ (xs : List Dropped). take (length own) xs) (drop-append_seam old (own ++ rest))
    ∙ take-append_seam own rest

-- a put
put_drops : (P : Dropped → Type 0) (id : ℕ) (flowed : Bool) (s s' : Standing) (own : List Dropped) (span : Span) → span ≡ span_of s.drops own → s'.drops ≡ s.drops ++ own → AllByRecursion P own → DropsMore P (Accepted id flowed span) s.drops s'.drops
put_drops P id flowed s s' own span is all each = record {
  own = own;
  all = all;
  each = each;
  told = λ drops rest e. own_part s.drops own rest drops span is (ap (λ (xs : List Dropped). xs ++ rest) (sym all) ∙ e);
}

-- what each line drops, where this holds of what a put drops
pub line_drops : (P : Dropped → Type 0) (defs : List Defined) (s : Standing) (what : What) (answer : report.Answer) (dids : List Did) (s' : Standing) → LineFits defs s what answer dids s'
    → ((q : ℕ) (m : Content) (own : List Dropped) → what ≡ Put q m → Puts defs s q m own dids s' → AllByRecursion P own) → DropsMore P answer s.drops s'.drops
line_drops P defs s (Put q m) (Accepted id flowed acquired) dids s' fits each = put_drops P id flowed s s' fits.2.0 acquired fits.2.1 (ap (λ (z : Standing). z.drops) fits.2.2.leaves) (each q m fits.2.0 refl fits.2.2)
line_drops P defs s (Put q m) (Rejected depth) dids s' fits each = drops_none P _ s s' _ fits.leaves refl (λ all. refl)
line_drops P defs s (Put q m) (Blocked depth) dids s' fits each = drops_none P _ s s' _ fits.leaves refl (λ all. refl)
line_drops P defs s (Take c) Closed dids s' fits each = drops_none P _ s s' s fits.1.same refl (λ all. refl)
line_drops P defs s (Take c) NoCredit dids s' fits each = drops_none P _ s s' s fits.1.same refl (λ all. refl)
line_drops P defs s (Take c) Empty dids s' fits each = drops_none P _ s s' s fits.same refl (λ all. refl)
line_drops P defs s (Take c) (Got id d) dids s' fits each = drops_none P _ s s' _ fits.leaves refl (λ all. refl)
line_drops P defs s (Close c) Closed dids s' fits each = drops_none P _ s s' _ fits.1 refl (λ all. refl)
line_drops P defs s (Ack q named) (Acked id) dids s' fits each = drops_none P _ s s' _ fits.fact.does.leaves refl (λ all. refl)
line_drops P defs s (Ack q named) (Stolen state) dids s' fits each = drops_none P _ s s' _ fits.fact.1.leaves refl (λ all. refl)
line_drops P defs s (Ack q named) NotHeld dids s' fits each = drops_none P _ s s' s fits.1.same refl (λ all. refl)
line_drops P defs s (Release q named) (Released id) dids s' fits each = drops_none P _ s s' _ fits.fact.does.leaves refl (λ all. refl)
line_drops P defs s (Release q named) (Outdated id) dids s' fits each = drops_none P _ s s' _ fits.fact.does.leaves refl (λ all. refl)
line_drops P defs s (Release q named) (Stolen state) dids s' fits each = drops_none P _ s s' _ fits.fact.1.leaves refl (λ all. refl)
line_drops P defs s (Release q named) NotHeld dids s' fits each = drops_none P _ s s' s fits.1.same refl (λ all. refl)
line_drops P defs s (Lock q named) (Locked id) dids s' fits each = drops_none P _ s s' _ fits.fact.does.leaves refl (λ all. refl)
line_drops P defs s (Lock q named) (Stolen state) dids s' fits each = drops_none P _ s s' _ fits.fact.1.leaves refl (λ all. refl)
line_drops P defs s (Lock q named) NotHeld dids s' fits each = drops_none P _ s s' s fits.1.same refl (λ all. refl)
line_drops P defs s (Unlock q named) (Unlocked id) dids s' fits each = drops_none P _ s s' _ fits.fact.does.leaves refl (λ all. refl)
line_drops P defs s (Unlock q named) NotHeld dids s' fits each = drops_none P _ s s' s fits.1.same refl (λ all. refl)
line_drops P defs s (Steal q id) (Stole stolen) dids s' fits each = drops_none P _ s s' _ fits.1.does.leaves refl (λ all. refl)
line_drops P defs s (Steal q id) (NotStealable state) dids s' fits each = drops_none P _ s s' _ fits.1.leaves refl (λ all. refl)
line_drops P defs s (Steal q id) (Moved state) dids s' fits each = drops_none P _ s s' _ fits.1.leaves refl (λ all. refl)
line_drops P defs s (Steal q id) Absent dids s' fits each = drops_none P _ s s' _ fits.leaves refl (λ all. refl)
line_drops P defs s what answer dids s' fits each = absurd fits

-- and what many do
pub record DropMore (P : Dropped → Type 0) (answers : List report.Answer) (old new : List Dropped) : Type 0 where
  pub own : List Dropped
  pub all : new ≡ old ++ own
  pub each : AllByRecursion P own
  pub told : (drops rest : List Dropped) → new ++ rest ≡ drops → flat_map (named_in drops) answers ≡ own

pub lines_drop : (P : Dropped → Type 0) (O : Op → Type 0) (D : Did → Type 0) (defs : List Defined)
    (each : (op : Op) (q : ℕ) (m : Content) (own : List Dropped) (s : Standing) (dids : List Did) (s' : Standing) → O op → AllByRecursion D dids → op.what ≡ Put q m → Puts defs s q m own dids s' → AllByRecursion P own)
    (s : Standing) (ops : List Op) (answers : List report.Answer) (dids : List Did) (s' : Standing) → LinesFit defs s ops answers dids s' → AllByRecursion O ops → AllByRecursion D dids → DropMore P answers s.drops s'.drops
lines_drop P O D defs each s [] [] dids s' fits of_ops of_dids = record { own = []; all = ap (λ (z : Standing). z.drops) fits.1 ∙ sym (append-nil s.drops); each = tt; told = λ drops rest e. refl }
lines_drop P O D defs each s [] (a ∷ answers) dids s' fits of_ops of_dids = absurd fits
lines_drop P O D defs each s (op ∷ ops) [] dids s' fits of_ops of_dids = absurd fits
lines_drop P O D defs each s (op ∷ ops) (a ∷ answers) dids s' fits of_ops of_dids =
    let parts = all_parts D fits.0 fits.2 (subst (AllByRecursion D) fits.5 of_dids) in
    let first = line_drops P defs s op.what a fits.0 fits.1 fits.3 (λ q m own is puts. each op q m own s fits.0 fits.1 of_ops.0 parts.0 is puts) in
    let rest = lines_drop P O D defs each fits.1 ops answers fits.2 s' fits.4 of_ops.1 parts.1 in
    record {
      own = first.own ++ rest.own;
      all = rest.all ∙ ap (λ (xs : List Dropped). xs ++ rest.own) first.all ∙ append_assoc s.drops first.own rest.own;
      each = all_join P first.own rest.own first.each rest.each;
      told = λ drops more e.
          ap₂ (λ (x y : List Dropped). x ++ y)
          (first.told drops (rest.own ++ more) (sym (append_assoc fits.1.drops rest.own more) ∙ ap (λ (xs : List Dropped). xs ++ more) (sym rest.all) ∙ e))
          (rest.told drops more e);
    }
