-- lines that are served by passes: the places of consumers, and lists of lines
use Rattle.std.proofs.Common.{◌≡◌, ◌⊎◌, inl, inr, ◌<◌, ◌≤◌, ◌+◌, ◌-◌, ℕ, zero, suc, Bool, true, false, cond, nat_lt, Option, Some, None, List, [], ◌∷◌, ◌++◌, length, map, reverse, take, drop, slice_get, refl, sym, ap, ◌∙◌, subst, arith, add-one}
use Rattle.std.specs.List.{AllByRecursion, count_by}
use Rattle.std.specs.Prelude.{All, IsSomeAnd, get_or}
use Rattle.std.specs.Option.{option_map}
use Rattle.std.proofs.lemmas.Bool.Decides.{nat_tests}
use Rattle.std.proofs.lemmas.List.{length-append, map-append, reverse-append}
use Rattle.std.proofs.lemmas.List.Sums.{sum_by-append, sum_by-cons, sum_by_more}
use Rattle.std.proofs.lemmas.Option.{get_or_from_slice_get, none-some, slice_get-map, slice_get_read, slice_get_within, some_pair_parts}
use Rattle.queue_model.specs.Table.{FitsQueue}
use Rattle.queue_model.specs.declared.rows.Slip.{Slip}
use Rattle.acts_core.specs.Sight.{Sight}
use Rattle.defs_read.specs.Defined.{Defined, consumers_in, defined, queues_in}
use Rattle.defs_read.specs.declared.defs.Defs.{Defs}
use Rattle.defs_read.specs.declared.defs.QueueDef.{QueueDef}
use Rattle.defs_read.specs.Slips.{IsSlip, lists_of}
use Rattle.defs_read.specs.declared.defs.ConsumerDef.{ConsumerDef}
use Rattle.message_core.specs.Spelling.{Content}
use Rattle.script_read.specs.Allowed.{HasConsumer, IsDefined, IsOpOf}
use Rattle.script_read.specs.declared.lines.Op.{Op}
use Rattle.script_read.specs.declared.lines.What.{What}
use Rattle.script_read.specs.declared.lines.What.TheVariants.{Put, Take, Close, Ack, Release, Lock, Unlock, Steal, Begin, Commit, Rollback}
use Rattle.line_core.specs.Places.{place_from, place_of}
use Rattle.workers_core.specs.Jobs.{JobFits, gains, puts_to, takes_for}
use Rattle.workers_core.specs.Made.{ArePassesFor, IsOwnLine, IsPassFor, IsServed, MayPutLines, TakesWithin, puts_in}
use Rattle.workers_core.specs.Phases.{lines_of}
use Rattle.workers_core.specs.Ready.{MayPutAll, Serves, all_gains}
use Rattle.workers_core.specs.declared.jobs.Aid.{Aid}
use Rattle.workers_core.specs.declared.jobs.Aid.TheVariants as aid
use Rattle.workers_core.specs.declared.jobs.Job.{Job}
use Rattle.workers_core.proofs.OneJob.{map_length}
use Rattle.workers_core.proofs.Onward.{all_with, reverse_last}

-- Consumers and their places

-- the element at a place of two lists
get_left : {X : Type 0} (xs ys : List X) (i : ℕ) → i < length xs → slice_get (xs ++ ys) i ≡ slice_get xs i
get_left [] ys i within = absurd (omega arith)
get_left (x ∷ xs) ys zero within = refl
get_left (x ∷ xs) ys (suc i) within = let w : i < length xs = omega arith in get_left xs ys i w

get_right : {X : Type 0} (xs ys : List X) (i : ℕ) → length xs ≤ i → slice_get (xs ++ ys) i ≡ slice_get ys (i - length xs)
get_right [] ys i past = let e : i ≡ i - 0 = omega arith in ap (slice_get ys) e
get_right (x ∷ xs) ys zero past = absurd (omega arith)
get_right (x ∷ xs) ys (suc i) past =
    let w : length xs ≤ i = omega arith in
    let e : i - length xs ≡ suc i - length (x ∷ xs) = omega arith in
    get_right xs ys i w ∙ ap (slice_get ys) e

-- consumer c is at this place, counted from queue q on
pub record Placed (q : ℕ) (defs : List Defined) (c : ℕ) (x : ConsumerDef) : Type 0 where
  pub at : ℕ
  pub place : ℕ
  pub def : Defined
  pub found : place_from q defs c ≡ Some (q + at, place)
  pub there : slice_get defs at ≡ Some def
  pub own : slice_get def.consumers place ≡ Some x

-- a consumer that is defined has a place
pub placed : (q : ℕ) (defs : List Defined) (c : ℕ) (x : ConsumerDef) → slice_get (consumers_in defs) c ≡ Some x → Placed q defs c x
placed q [] c x at = absurd (cc)
placed q (d ∷ ds) c x at = by_test (nat_lt c (length d.consumers)) refl (placed (q + 1) ds (c - length d.consumers) x)
  where
    by_test : (b : Bool) → nat_lt c (length d.consumers) ≡ b → (slice_get (consumers_in ds) (c - length d.consumers) ≡ Some x → Placed (q + 1) ds (c - length d.consumers) x) → Placed q (d ∷ ds) c x
    by_test true is later =
        let within : c < length d.consumers = grind (arith, nat_tests) in
        let none : q ≡ q + 0 = omega arith in
        let first : ◌≡◌ {A = Option (ℕ × ℕ)} (Some (q, c)) (Some (q + 0, c)) = ap (λ (n : ℕ). Some (n, c)) none in
        record { at = 0; place = c; def = d; found = rw is first; there = refl; own = sym (get_left d.consumers (consumers_in ds) c within) ∙ at }
    by_test false is later =
        let past : length d.consumers ≤ c = grind (arith, nat_tests) in
        let p = later (sym (get_right d.consumers (consumers_in ds) c past) ∙ at) in
        let next : (q + 1) + p.at ≡ q + suc p.at = omega arith in
        let found : ◌≡◌ {A = Option (ℕ × ℕ)} (place_from (q + 1) ds (c - length d.consumers)) (Some (q + suc p.at, p.place)) = p.found ∙ ap (λ (n : ℕ). Some (n, p.place)) next in
        record { at = suc p.at; place = p.place; def = p.def; found = rw is found; there = p.there; own = p.own }

-- and a consumer that has a place is defined
pub place_within : (q : ℕ) (defs : List Defined) (c : ℕ) (p : ℕ × ℕ) → place_from q defs c ≡ Some p → c < length (consumers_in defs)
place_within q [] c p at = absurd (cc)
place_within q (d ∷ ds) c p at = by_test (nat_lt c (length d.consumers)) refl (place_within (q + 1) ds (c - length d.consumers) p)
  where
    both : length (d.consumers ++ consumers_in ds) ≡ length d.consumers + length (consumers_in ds)
    both = length-append d.consumers (consumers_in ds)

    by_test : (b : Bool) → nat_lt c (length d.consumers) ≡ b → (place_from (q + 1) ds (c - length d.consumers) ≡ Some p → c - length d.consumers < length (consumers_in ds)) → c < length (d.consumers ++ consumers_in ds)
    by_test true is later = let within : c < length d.consumers = grind (arith, nat_tests) in omega (arith, both, within)
    by_test false is later =
        let past : length d.consumers ≤ c = grind (arith, nat_tests) in
        omega (arith, both, past, later (rw is at at))

-- the queues from one on
drop_at : {X : Type 0} (xs : List X) (i : ℕ) (x : X) → slice_get xs i ≡ Some x → drop i xs ≡ x ∷ drop (suc i) xs
drop_at [] i x at = absurd (cc)
drop_at {X = X} (y ∷ ys) zero x at = let same : y ≡ x = cc in ap (λ (z : X). z ∷ ys) same
drop_at (y ∷ ys) (suc i) x at = drop_at ys i x at

-- the consumer is of this queue
pub place_here : (defs : List Defined) (q c : ℕ) (def : Defined) → slice_get defs q ≡ Some def → c < length def.consumers → place_from q (drop q defs) c ≡ Some (q, c)
place_here defs q c def at within =
    let is : nat_lt c (length def.consumers) ≡ true = grind (arith, nat_tests) in
    ap (λ (ds : List Defined). place_from q ds c) (drop_at defs q def at) ∙ rw is refl

-- or of a later one
pub place_later : (defs : List Defined) (q c : ℕ) (def : Defined) → slice_get defs q ≡ Some def → length def.consumers ≤ c → place_from q (drop q defs) c ≡ place_from (q + 1) (drop (q + 1) defs) (c - length def.consumers)
place_later defs q c def at past =
    let is : nat_lt c (length def.consumers) ≡ false = grind (arith, nat_tests) in
    ap (λ (ds : List Defined). place_from q ds c) (drop_at defs q def at) ∙ rw is (ap (λ (n : ℕ). place_from (q + 1) (drop n defs) (c - length def.consumers)) (sym (add-one q)))

-- Lists of lines

reverse_first : {X : Type 0} (x : X) (xs : List X) → reverse (x ∷ xs) ≡ reverse xs ++ x ∷ []
reverse_first x xs = reverse-append (x ∷ []) xs

lines_first : (job : Job) (jobs : List Job) → lines_of (job ∷ jobs) ≡ lines_of jobs ++ job.op ∷ []
lines_first job jobs = ap (map (λ (j : Job). j.op)) (reverse_first job jobs) ∙ map-append (λ (j : Job). j.op) (reverse jobs) (job ∷ [])

-- one line more, before those that are in the list
pub lines_more : (jobs : List Job) (job : Job) → lines_of (jobs ++ job ∷ []) ≡ job.op ∷ lines_of jobs
lines_more jobs job = ap (map (λ (j : Job). j.op)) (reverse_last jobs job)

count_lines : (p : Op → Bool) (jobs : List Job) → count_by p (lines_of jobs) ≡ count_by (λ (j : Job). p j.op) jobs
count_lines p [] = refl
count_lines p (job ∷ jobs) =
    ap (count_by p) (lines_first job jobs)
    ∙ omega (arith, sum_by-append (λ (op : Op). cond (p op) 1 0) (lines_of jobs) (job.op ∷ []), sum_by-cons (λ (j : Job). cond (p j.op) 1 0) job jobs, count_lines p jobs)

-- what may be put of the lines may be put of the jobs
pub rights_of : (sights : List Sight) (ops : List Op) (jobs : List Job) → lines_of jobs ≡ ops → MayPutLines sights ops → MayPutAll sights jobs
rights_of sights ops jobs same may q t at =
    let m = may q t at in
    let e : puts_in q ops ≡ count_by (λ (j : Job). puts_to q j.op.what) jobs = ap (puts_in q) (sym same) ∙ count_lines (λ (op : Op). puts_to q op.what) jobs in
    (omega (arith, m.0, e), omega (arith, m.1, e))

gains_one : (w : What) → gains w ≤ 1
gains_one (Put q m) = omega arith
gains_one (Take c) = omega arith
gains_one (Close c) = omega arith
gains_one (Ack q id) = omega arith
gains_one (Release q id) = omega arith
gains_one (Lock q id) = omega arith
gains_one (Unlock q id) = omega arith
gains_one (Steal q id) = omega arith
gains_one Begin = omega arith
gains_one Commit = omega arith
gains_one Rollback = omega arith

pub gain_within : (n : ℕ) (w : What) → n ≡ gains w → n ≤ 1
gain_within n w is = omega (arith, is, gains_one w)

-- the gains of one line more
pub gains_more : (jobs : List Job) (i : ℕ) (job : Job) (all n : ℕ) → job ≡ get_or jobs i job → i < length jobs → all ≡ all_gains (take i jobs) → n ≡ gains job.op.what → all + n ≡ all_gains (take (i + 1) jobs)
gains_more jobs i job all n read within sum is =
    let same : gains job.op.what ≡ gains (get_or jobs i job).op.what = ap (λ (j : Job). gains j.op.what) read in
    omega (arith, sum, is, same, sum_by_more (λ (j : Job). gains j.op.what) jobs i job within)

pub gains_within : (jobs : List Job) → all_gains jobs ≤ length jobs
gains_within [] = omega arith
gains_within (job ∷ jobs) = omega (arith, sum_by-cons (λ (j : Job). gains j.op.what) job jobs, gains_one job.op.what, gains_within jobs)

-- Takes

within_line : (defs : List Defined) → length (consumers_in defs) ≤ 64 → (w : What) (a : Aid) → JobFits defs w a → TakesWithin w
within_line defs few (Take c) (aid.Place q k) fits = omega (arith, few, place_within 0 defs c (q, k) fits)
within_line defs few (Take c) (aid.Slip s) fits = absurd fits
within_line defs few (Take c) aid.Nothing fits = absurd fits
within_line defs few (Put q m) a fits = tt
within_line defs few (Close c) a fits = tt
within_line defs few (Ack q id) a fits = tt
within_line defs few (Release q id) a fits = tt
within_line defs few (Lock q id) a fits = tt
within_line defs few (Unlock q id) a fits = tt
within_line defs few (Steal q id) a fits = tt
within_line defs few Begin a fits = tt
within_line defs few Commit a fits = tt
within_line defs few Rollback a fits = tt

pub takes_within : (defs : List Defined) (jobs : List Job) → length (consumers_in defs) ≤ 64 → AllByRecursion (λ (j : Job). JobFits defs j.op.what j.aid) jobs → AllByRecursion (λ (j : Job). TakesWithin j.op.what) jobs
takes_within defs jobs few fits = all_with (λ (j : Job). JobFits defs j.op.what j.aid) (λ (j : Job). TakesWithin j.op.what) jobs (λ j. within_line defs few j.op.what j.aid) fits

past_line : (c : ℕ) → 64 ≤ c → (w : What) → TakesWithin w → takes_for c w ≡ false
past_line c past (Take d) within = grind (arith, nat_tests)
past_line c past (Put q m) within = refl
past_line c past (Close d) within = refl
past_line c past (Ack q id) within = refl
past_line c past (Release q id) within = refl
past_line c past (Lock q id) within = refl
past_line c past (Unlock q id) within = refl
past_line c past (Steal q id) within = refl
past_line c past Begin within = refl
past_line c past Commit within = refl
past_line c past Rollback within = refl

-- no take is for a consumer that a roster has no place for
pub none_past : (c : ℕ) → 64 ≤ c → (jobs : List Job) → AllByRecursion (λ (j : Job). TakesWithin j.op.what) jobs → count_by (λ (j : Job). takes_for c j.op.what) jobs ≡ 0
none_past c past [] within = refl
none_past c past (job ∷ jobs) within =
    let no : cond (takes_for c job.op.what) 1 0 ≡ cond {A = ℕ} false 1 0 = ap (λ (b : Bool). cond {A = ℕ} b 1 0) (past_line c past job.op.what within.0) in
    omega (arith, sum_by-cons (λ (j : Job). cond (takes_for c j.op.what) 1 0) job jobs, no, none_past c past jobs within.1)

-- Passes

get_within : {X : Type 0} (xs : List X) (i : ℕ) → i < length xs → (x : X) × (slice_get xs i ≡ Some x)
get_within [] i within = absurd (omega arith)
get_within (x ∷ xs) zero within = (x, refl)
get_within (x ∷ xs) (suc i) within = let w : i < length xs = omega arith in get_within xs i w

some_and : {X : Type 0} {P : X → Type 0} (o : Option X) → IsSomeAnd o P → (x : X) × (o ≡ Some x) × P x
some_and None and = absurd and
some_and (Some x) and = (x, refl, and)

-- the definition of the queue that a put names
pub def_at : (defs : Defs) (q : ℕ) (def : QueueDef) (name : List ℕ) (w : What) (m : Content) → w ≡ Put q m → IsDefined (queues_in defs) name w → def ≡ get_or defs.queues.items q def → slice_get (queues_in defs) q ≡ Some (defined def)
def_at defs q def name w m is own read =
    let items : List QueueDef = defs.queues.items in
    let below : q < length (map defined items) = subst (IsDefined (queues_in defs) name) is own in
    let within : q < length items = subst (λ (n : ℕ). q < n) (map_length defined items) below in
    slice_get-map defined items q ∙ ap (option_map defined) (slice_get_read items (length items) q def refl within read)

-- the line needs nothing beside its words
abbrev pub NeedsNothing : What → Type 0
NeedsNothing (Put q m) = ⊥
NeedsNothing (Take c) = ⊥
NeedsNothing what = Unit {0}

-- these lines don't
pub needs_nothing : (w : What)
    → ((c : ℕ) × (w ≡ Close c))
    ⊎ (((q : ℕ) × (id : Option ℕ) × (w ≡ Ack q id))
    ⊎ (((q : ℕ) × (id : Option ℕ) × (w ≡ Release q id))
    ⊎ (((q : ℕ) × (id : Option ℕ) × (w ≡ Lock q id))
    ⊎ (((q : ℕ) × (id : Option ℕ) × (w ≡ Unlock q id))
    ⊎ (((q : ℕ) × (id : ℕ) × (w ≡ Steal q id))
    ⊎ ((w ≡ Begin) ⊎ ((w ≡ Commit) ⊎ (w ≡ Rollback))))))))
    → NeedsNothing w
needs_nothing w (inl (c, is)) = subst NeedsNothing (sym is) tt
needs_nothing w (inr (inl (q, id, is))) = subst NeedsNothing (sym is) tt
needs_nothing w (inr (inr (inl (q, id, is)))) = subst NeedsNothing (sym is) tt
needs_nothing w (inr (inr (inr (inl (q, id, is))))) = subst NeedsNothing (sym is) tt
needs_nothing w (inr (inr (inr (inr (inl (q, id, is)))))) = subst NeedsNothing (sym is) tt
needs_nothing w (inr (inr (inr (inr (inr (inl (q, id, is))))))) = subst NeedsNothing (sym is) tt
needs_nothing w (inr (inr (inr (inr (inr (inr (inl is))))))) = subst NeedsNothing (sym is) tt
needs_nothing w (inr (inr (inr (inr (inr (inr (inr (inl is)))))))) = subst NeedsNothing (sym is) tt
needs_nothing w (inr (inr (inr (inr (inr (inr (inr (inr is)))))))) = subst NeedsNothing (sym is) tt

-- a consumer that a take names has a place
pub no_place : (defs : List Defined) (name : List ℕ) (c : ℕ) (w : What) → w ≡ Take c → IsDefined defs name w → place_of defs c ≡ None → ⊥
no_place defs name c w is def none =
    let x = some_and (slice_get (consumers_in defs) c) (subst (IsDefined defs name) is def) in
    let p = placed 0 defs c x.0 x.1 in
    none-some (0 + p.at, p.place) (sym none ∙ p.found)

module _ (name : List ℕ) (defs : List Defined) (sights : List Sight) (passes : ArePassesFor name defs sights) where
  -- a queue has its pass
  pass_within : (q : ℕ) → q < length defs → q < length sights
  pass_within q within = omega (arith, within, passes.as_many)

  -- a put has the slip of its message
  pub serves_put : (q : ℕ) (m : Content) (def : Defined) (slip : Slip) → slice_get defs q ≡ Some def → IsSlip def m slip → FitsQueue (lists_of def.kind) (length def.consumers) slip → Serves sights (Put q m) (aid.Slip slip)
  serves_put q m def slip there is fits =
      let at = get_within sights q (pass_within q (slice_get_within defs q def there)) in
      let t : Sight = at.0 in
      let pass : IsPassFor name def t = passes.each q def t there at.1 in (
        t,
        at.1,
        record {
          fits = subst (λ (n : ℕ). FitsQueue t.opening.lists n slip) (sym pass.consumers) (subst (λ (n : ℕ). FitsQueue n (length def.consumers) slip) (sym pass.lists) fits);
          id = is.id;
          size = is.size;
        },
      )

  -- a take has its consumer's place
  pub serves_take : (c q k : ℕ) (w : What) → length (consumers_in defs) ≤ 64 → w ≡ Take c → IsDefined defs name w → place_of defs c ≡ Some (q, k) → Serves sights w (aid.Place q k)
  serves_take c q k w few is def found =
      let x = some_and (slice_get (consumers_in defs) c) (subst (IsDefined defs name) is def) in
      let p = placed 0 defs c x.0 x.1 in
      let both : ◌≡◌ {A = Option (ℕ × ℕ)} (Some (q, k)) (Some (0 + p.at, p.place)) = sym found ∙ p.found in
      let parts = some_pair_parts q (0 + p.at) k p.place both in
      let queue : q ≡ p.at = omega (arith, parts.0) in
      let place : k ≡ p.place = parts.1 in
      let at = get_within sights q (pass_within q (subst (λ (n : ℕ). n < length defs) (sym queue) (slice_get_within defs p.at p.def p.there))) in
      let t : Sight = at.0 in
      let pass : IsPassFor name p.def t = passes.each q p.def t (ap (slice_get defs) queue ∙ p.there) at.1 in
      let within : c < 64 = omega (arith, few, slice_get_within (consumers_in defs) c x.0 x.1) in
      subst (λ (v : What). Serves sights v (aid.Place q k)) (sym is) (t, at.1, within, pass.own k x.0 (ap (slice_get p.def.consumers) place ∙ p.own) x.2)

  consumer_within : (c : ℕ) → length (consumers_in defs) ≤ 64 → HasConsumer defs name c → c < 64
  consumer_within c few has = let x = some_and (slice_get (consumers_in defs) c) has in omega (arith, few, slice_get_within (consumers_in defs) c x.0 x.1)

  -- any other line needs nothing
  pub serves_other : (w : What) (a : Aid) → length (consumers_in defs) ≤ 64 → IsDefined defs name w → IsServed w → NeedsNothing w → Serves sights w a
  serves_other (Put q m) a few def served none = absurd none
  serves_other (Take c) a few def served none = absurd none
  serves_other (Close c) a few def served none = consumer_within c few def
  serves_other (Ack q id) a few def served none = pass_within q def
  serves_other (Release q id) a few def served none = pass_within q def
  serves_other (Lock q id) a few def served none = pass_within q def
  serves_other (Unlock q id) a few def served none = pass_within q def
  serves_other (Steal q id) a few def served none = pass_within q def
  serves_other Begin a few def served none = absurd served
  serves_other Commit a few def served none = absurd served
  serves_other Rollback a few def served none = absurd served

-- An actor's lines

own_line : (defs : List Defined) (name : List ℕ) (op : Op) → IsOpOf defs false name op → IsServed op.what → IsOwnLine defs op
own_line defs name op is served = (subst (λ (n : List ℕ). IsDefined defs n op.what) (sym is.actor) is.defined, served)

pub own_lines : (defs : List Defined) (name : List ℕ) (ops : List Op) → AllByRecursion (IsOpOf defs false name) ops → AllByRecursion (λ (op : Op). IsServed op.what) ops → AllByRecursion (IsOwnLine defs) ops
own_lines defs name [] own served = tt
own_lines defs name (op ∷ ops) own served = (own_line defs name op own.0 served.0, own_lines defs name ops own.1 served.1)

pub passes_each : (defs : List Defined) (name : List ℕ) (sights : List Sight) (ops : List Op) → AllByRecursion (IsOpOf defs false name) ops → ArePassesFor name defs sights → AllByRecursion (λ (op : Op). ArePassesFor op.actor defs sights) ops
passes_each defs name sights ops own passes = all_with (IsOpOf defs false name) (λ (op : Op). ArePassesFor op.actor defs sights) ops (λ op is. subst (λ (n : List ℕ). ArePassesFor n defs sights) (sym is.actor) passes) own

-- of two lists, the first
pub all_left : {X : Type 0} (P : X → Type 0) (xs ys : List X) → AllByRecursion P (xs ++ ys) → AllByRecursion P xs
all_left P [] ys each = tt
all_left P (x ∷ xs) ys each = (each.0, all_left P xs ys each.1)

pub all_join : {X : Type 0} (P : X → Type 0) (xs ys : List X) → AllByRecursion P xs → AllByRecursion P ys → AllByRecursion P (xs ++ ys)
all_join P [] ys left right = right
all_join P (x ∷ xs) ys left right = (left.0, all_join P xs ys left.1 right)

-- what holds of each holds of one
pub all_at : {X : Type 0} (P : X → Type 0) (xs : List X) (i : ℕ) (x : X) → All P xs → slice_get xs i ≡ Some x → P x
all_at P xs i x each at = subst P (get_or_from_slice_get xs i x x at) (each i x (slice_get_within xs i x at))

pub all_got : {X : Type 0} (P : X → Type 0) (xs : List X) (i : ℕ) (x : X) → AllByRecursion P xs → slice_get xs i ≡ Some x → P x
all_got P [] i x each at = absurd (cc)
all_got P (y ∷ ys) zero x each at = let same : y ≡ x = cc in subst P same each.0
all_got P (y ∷ ys) (suc i) x each at = all_got P ys i x each.1 at
