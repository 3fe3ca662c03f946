-- queues that are opened with what was left
use Rattle.std.proofs.Common.{◌≡◌, ◌≢◌, ℕ, zero, suc, ◌+◌, ◌<◌, ◌≤◌, Option, List, [], ◌∷◌, ◌++◌, length, length-append, map, take, get_or, Some, None, Result, Ok, Err, IfOk, refl, sym, ap, ◌∙◌, subst, ⊎_elim, arith}
use Rattle.std.specs.Prelude.{slice_get, slice_index, vec_capacity}
use Rattle.std.specs.List.{AllByRecursion}
use Rattle.std.proofs.lemmas.List.{length-map, take_more}
use Rattle.std.proofs.lemmas.Option.{get_or_from_slice_get}
use Rattle.queue_model.specs.declared.rows.Row.{Row}
use Rattle.queue_model.specs.declared.rows.Slip.{Slip}
use Rattle.queue_model.specs.Table.{FitsQueue, most_entries}
use Rattle.acts_core.specs.Load.{Load}
use Rattle.acts_core.specs.Asked.{KeyFits}
use Rattle.acts_core.specs.Sight as kinds
use Rattle.acts_core.specs.Sight.{Build, Kind, Sight}
use Rattle.acts_core.specs.declared.cargoes.RestEntry.{RestEntry}
use Rattle.txn_core.specs.declared.parcels.Parcel.{Parcel}
use Rattle.txn_core.specs.Parcels.{load_of, shown}
use Rattle.txn_core.specs.Shown.{load}
use Rattle.defs_read.specs.Allowed.{AreAllowed, HasPriorities, IsAllowed}
use Rattle.defs_read.specs.Causes.{most_consumers}
use Rattle.defs_read.specs.Defined.{Defined, defined}
use Rattle.defs_read.specs.declared.defs.QueueDef.{QueueDef}
use Rattle.defs_read.specs.Slips.{lists_of}
use Rattle.defs_read.specs.declared.defs.QueueKind.{QueueKind}
use Rattle.defs_read.specs.declared.defs.QueueKind.TheVariants.{Standard, Priority, Sorted, LastValue}
use Rattle.entry_table.specs.Starting.{AreStarted, IsStarted}
use Rattle.lastval_core.specs.Fronts.{KeysApart, keys_of}
use Rattle.any_queue.specs.declared.kinds.AnyPass.{AnyPass}
use Rattle.any_queue.specs.declared.kinds.AnyQueue.{AnyQueue}
use Rattle.any_queue.specs.Kinds.{build_in, rings, sight_in, ServesAny}
use Rattle.any_queue.specs.Parting.{AllMayStart, IsFresh, StartsApart, kind_of}
use Rattle.phase_text.specs.declared.logs.Rest.{Rest}
use Rattle.line_core.specs.Places as lines
use Rattle.account_core.specs.Carry.{Opens, unnumbered, uses_bells}
use Rattle.account_core.specs.Phases.{AllOpen}
use Rattle.account_core.specs.Texts.{queue_names}
use Rattle.phase_queues.specs.Left.{Remains, AllMayStay, AreCarried, MayGoOn, MayStay, goods_left, left_in, many_left, row_left, rows_left}
use Rattle.phase_queues.specs.Opened.{AreOpened, HoldRows, IsOpened, OpenedSoFar, RestsHold, TellNothing, all_played, played, rows_for}
use Rattle.phase_queues.proofs.Places.{get_low, get_mid, get_push}

-- One queue

pub start_long : (es : List (RestEntry Parcel)) (start : List (Slip × Parcel)) → AreCarried es start → length start ≡ length es
start_long [] [] c = refl
start_long [] (s ∷ start) c = absurd c
start_long (e ∷ es) [] c = absurd c
start_long (e ∷ es) (s ∷ start) c = ap suc (start_long es start c.2)

-- the keys of what starts again are those of what was left
same_keys : (es : List (RestEntry Parcel)) (start : List (Slip × Parcel)) → AreCarried es start → keys_of start ≡ keys_of (goods_left es)
same_keys [] [] c = refl
same_keys [] (s ∷ start) c = absurd c
same_keys (e ∷ es) [] c = absurd c
same_keys (e ∷ es) (s ∷ start) c = let first = ap (λ (z : Slip). z.key) c.0 in let rest = same_keys es start c.2 in λ i. first i ∷ rest i

apart_again : (es : List (RestEntry Parcel)) (start : List (Slip × Parcel)) → AreCarried es start → KeysApart (goods_left es) → KeysApart start
apart_again es start c apart i j less low =
    let same = same_keys es start c in
    let long = length-map start (λ (e : Slip × Parcel). e.0.key) in
    let many = length-map (goods_left es) (λ (e : Slip × Parcel). e.0.key) in
    let also = ap length same in
    subst (λ (ks : List (Option (List ℕ))). get_or ks i None ≢ None → get_or ks i None ≢ get_or ks j None) (sym same) (apart i j less (omega (arith, low, long, many, also)))

-- what stands apart stands apart where it starts again
pub start_apart : (def : Defined) (es : List (RestEntry Parcel)) (start : List (Slip × Parcel)) → AreCarried es start → MayGoOn def es → StartsApart (kind_of def.kind) start
start_apart def es start c may = by_kind (kind_of def.kind) may.apart where
  by_kind : (kind : Kind) → StartsApart kind (goods_left es) → StartsApart kind start
  by_kind kinds.Listed apart = tt
  by_kind kinds.Sorted apart = tt
  by_kind kinds.LastValue apart = apart_again es start c apart

-- what may stay may start again
all_start : (def : Defined) (es : List (RestEntry Parcel)) (start : List (Slip × Parcel)) → AreCarried es start → AllByRecursion (MayStay def) es → AllMayStart load_of (kind_of def.kind) (lists_of def.kind) (length def.consumers) start
all_start def [] [] c m = tt
all_start def [] (s ∷ start) c m = absurd c
all_start def (e ∷ es) [] c m = absurd c
all_start def (e ∷ es) (s ∷ start) c m =
    let slip : s.0 ≡ e.slip = c.0 in
    let same : load_of s.1 ≡ load (record (shown e.cargo) { receipt = None }) = ap load c.1 in (
      record {
        fits = subst (FitsQueue (lists_of def.kind) (length def.consumers)) (sym slip) m.0.fits;
        key = subst (λ (z : Slip). KeyFits (kind_of def.kind) z.key) (sym slip) m.0.key;
        id = ap (λ (z : Load). z.id) same ∙ m.0.id ∙ ap (λ (z : Slip). z.id) (sym slip);
        size = ap (λ (z : Load). z.size) same ∙ m.0.size ∙ ap (λ (z : Slip). z.size) (sym slip);
      },
      all_start def es start c.2 m.1,
    )

-- what may go on may start again
pub may_start : (def : Defined) (es : List (RestEntry Parcel)) (start : List (Slip × Parcel)) → AreCarried es start → MayGoOn def es → AllMayStart load_of (kind_of def.kind) (lists_of def.kind) (length def.consumers) start
may_start def es start c may = all_start def es start c may.each

-- rows that are started with what was left are what was left
start_rows : (es : List (RestEntry Parcel)) (start : List (Slip × Parcel)) (xs : List Row) → AreCarried es start → AreStarted load_of start xs → map unnumbered xs ≡ map row_left es
start_rows [] [] [] c a = refl
start_rows [] [] (x ∷ xs) c a = absurd a
start_rows [] (s ∷ start) xs c a = absurd c
start_rows (e ∷ es) [] xs c a = absurd c
start_rows (e ∷ es) (s ∷ start) [] c a = absurd a
start_rows (e ∷ es) (s ∷ start) (x ∷ xs) c a =
    let is : IsStarted load_of s.0 s.1 x = a.0 in
    let same : load_of s.1 ≡ load (record (shown e.cargo) { receipt = None }) = ap load c.1 in
    let slip : x.slip ≡ e.slip = is.slip_is ∙ c.0 in
    let content = sym is.same.content ∙ ap (λ (z : Load). z.content) same in
    let origin = sym is.same.origin ∙ ap (λ (z : Load). z.origin) same in
    let count = sym is.same.count ∙ ap (λ (z : Load). z.count) same in
    let first : unnumbered x ≡ row_left e = λ i. record { number = 0; slip = slip i; state = is.state i; content = content i; origin = origin i; count = count i } in
    let rest = start_rows es start xs c.2 a.1 in
    λ i. first i ∷ rest i

-- a definition makes the same kind of queue everywhere
pub of_kind : (k : QueueKind) → kind_of k ≡ lines.kind_of k
of_kind Standard = refl
of_kind (Priority n) = refl
of_kind (Sorted key) = refl
of_kind (LastValue key) = refl

rings_alike : (kind : Kind) → rings kind ≡ uses_bells kind
rings_alike kinds.Listed = refl
rings_alike kinds.Sorted = refl
rings_alike kinds.LastValue = refl

pub is_opened : {R : Type 0} (def : Defined) (es : List (RestEntry Parcel)) (start : List (Slip × Parcel)) (puts : ℕ) (queue : AnyQueue Parcel R) (boss : AnyPass)
    → length es + puts ≤ most_entries → AreCarried es start → ServesAny queue boss
    → IsFresh load_of (kind_of def.kind) (lists_of def.kind) (rows_for (length es) puts) (length def.consumers) start (build_in queue) (sight_in boss)
    → IsOpened def es puts queue boss
is_opened def es start puts queue boss few c serves f =
    let long = start_long es start c in
    let allowance = f.allowance in
    let share = f.share in
    record {
      serves = serves;
      build = f.build_is;
      opens = record {
        kind = ap (λ (b : Build). b.kind) f.build_is ∙ of_kind def.kind;
        rings = ap (λ (b : Build). b.bells) f.build_is ∙ rings_alike (kind_of def.kind) ∙ sym (ap (λ (b : Build). uses_bells b.kind) f.build_is);
        lists = f.lists_is;
        consumers = f.consumers_is;
        kept = start_rows es start (sight_in boss).opening.rows c f.started;
        fits = f.opened;
      };
      new = record {
        caller = ap (λ (s : Sight). s.caller) f.sight;
        consumers = ap (λ (s : Sight). s.consumers) f.sight;
        ended = ap (λ (s : Sight). s.ended) f.sight;
        made = ap (λ (s : Sight). s.made) f.sight;
        seen = ap (λ (s : Sight). s.seen) f.sight;
        allowance = omega (arith, long, allowance, few);
        share = omega (arith, long, share);
      };
    }

-- All queues

pub get_some : {X : Type 0} (xs : List X) (q : ℕ) → q < length xs → (x : X) × (slice_get xs q ≡ Some x)
get_some [] q low = absurd (omega (arith, low))
get_some (x ∷ xs) zero low = (x, refl)
get_some (x ∷ xs) (suc q) low = get_some xs q (omega (arith, low))

pub all_get : {X : Type 0} (P : X → Type 0) (xs : List X) (q : ℕ) (x : X) → AllByRecursion P xs → slice_get xs q ≡ Some x → P x
all_get P [] q x all e = absurd (cc)
all_get P (y ∷ xs) zero x all e = let is : y ≡ x = cc in subst P is all.0
all_get P (y ∷ xs) (suc q) x all e = all_get P xs q x all.1 e

pub as_many_left : (defs : List Defined) (lefts : List Remains) → AllMayStay defs lefts → length lefts ≡ length defs
as_many_left [] [] m = refl
as_many_left [] (es ∷ lefts) m = absurd m
as_many_left (def ∷ defs) [] m = absurd m
as_many_left (def ∷ defs) (es ∷ lefts) m = ap suc (as_many_left defs lefts m.1)

pub stay_at : (defs : List Defined) (lefts : List Remains) (q : ℕ) (def : Defined) → AllMayStay defs lefts → slice_get defs q ≡ Some def → MayGoOn def (left_in q lefts)
stay_at [] lefts q def m e = absurd (cc)
stay_at (d ∷ defs) [] q def m e = absurd m
stay_at (d ∷ defs) (es ∷ lefts) zero def m e = let is : d ≡ def = cc in subst (λ (z : Defined). MayGoOn z es.items) is m.0
stay_at (d ∷ defs) (es ∷ lefts) (suc q) def m e = stay_at defs lefts q def m.1 e

module _ {R : Type 0} (defs : List Defined) (lefts : List Remains) (puts : List ℕ) where
  pub none_opened : OpenedSoFar {R = R} 0 defs lefts puts [] []
  none_opened = record { as_many = refl; passes = refl; each = λ q def queue boss d e f. absurd (cc) }

  pub one_more_opened : (n : ℕ) (queues : List (AnyQueue Parcel R)) (bosses : List AnyPass) (def : Defined) (queue : AnyQueue Parcel R) (boss : AnyPass)
      → OpenedSoFar n defs lefts puts queues bosses → slice_get defs n ≡ Some def → IsOpened def (left_in n lefts) (slice_index puts n) queue boss
      → OpenedSoFar (suc n) defs lefts puts (queues ++ queue ∷ []) (bosses ++ boss ∷ [])
  one_more_opened n queues bosses def queue boss o here is = record {
    as_many = let a = length-append queues (queue ∷ []) in let b = o.as_many in omega (arith, a, b);
    passes = let a = length-append bosses (boss ∷ []) in let b = o.passes in omega (arith, a, b);
    each = each;
  } where
    new : (q : ℕ) (d : Defined) (u : AnyQueue Parcel R) (b : AnyPass) → q ≡ n → slice_get defs q ≡ Some d → u ≡ queue → b ≡ boss → IsOpened d (left_in q lefts) (slice_index puts q) u b
    new q d u b at e same also =
        let two : Some def ≡ Some d = sym here ∙ ap (slice_get defs) (sym at) ∙ e in
        let def_is : def ≡ d = cc in
        subst (λ (t : Defined × ℕ × AnyQueue Parcel R × AnyPass). IsOpened t.0 (left_in t.1 lefts) (slice_index puts t.1) t.2 t.3) (λ i. (def_is i, sym at i, sym same i, sym also i)) is

    each : (q : ℕ) (d : Defined) (u : AnyQueue Parcel R) (b : AnyPass) → slice_get defs q ≡ Some d → slice_get (queues ++ queue ∷ []) q ≡ Some u → slice_get (bosses ++ boss ∷ []) q ≡ Some b → IsOpened d (left_in q lefts) (slice_index puts q) u b
    each q d u b e f g =
        let long = o.as_many in
        let also = o.passes in
        ⊎_elim
        (λ (old : slice_get queues q ≡ Some u). ⊎_elim
        (λ (mine : slice_get bosses q ≡ Some b). o.each q d u b e old mine)
        (λ (t : (q ≡ length bosses) × (b ≡ boss)). let low = get_low queues q u old in let at = t.0 in absurd (omega (arith, low, at, long, also)))
        (get_push bosses boss b q g))
        (λ (t : (q ≡ length queues) × (u ≡ queue)). ⊎_elim
        (λ (mine : slice_get bosses q ≡ Some b). let low = get_low bosses q b mine in let at = t.0 in absurd (omega (arith, low, at, long, also)))
        (λ (s : (q ≡ length bosses) × (b ≡ boss)). new q d u b (t.0 ∙ long) e t.1 s.1)
        (get_push bosses boss b q g))
        (get_push queues queue u q f)

all_open : {R : Type 0} (defs : List Defined) (lefts : List Remains) (queues : List (AnyQueue Parcel R)) (bosses : List AnyPass) → length lefts ≡ length defs → length queues ≡ length defs → length bosses ≡ length defs
    → ((q : ℕ) (def : Defined) (queue : AnyQueue Parcel R) (boss : AnyPass) → slice_get defs q ≡ Some def → slice_get queues q ≡ Some queue → slice_get bosses q ≡ Some boss → Opens def (map row_left ((left_in q lefts))) (played queue boss).plan)
    → AllOpen defs (rows_left lefts) (all_played queues bosses)
all_open [] [] [] bosses a b c each = tt
all_open [] [] (queue ∷ queues) bosses a b c each = absurd (omega (arith, b))
all_open [] (es ∷ lefts) queues bosses a b c each = absurd (omega (arith, a))
all_open (def ∷ defs) [] queues bosses a b c each = absurd (omega (arith, a))
all_open (def ∷ defs) (es ∷ lefts) [] bosses a b c each = absurd (omega (arith, b))
all_open (def ∷ defs) (es ∷ lefts) (queue ∷ queues) [] a b c each = absurd (omega (arith, c))
all_open (def ∷ defs) (es ∷ lefts) (queue ∷ queues) (boss ∷ bosses) a b c each =
    (each 0 def queue boss refl refl refl, all_open defs lefts queues bosses (omega (arith, a)) (omega (arith, b)) (omega (arith, c)) (λ q. each (suc q)))

module _ {R : Type 0} (defs : List Defined) (lefts : List Remains) (puts : List ℕ) (queues : List (AnyQueue Parcel R)) (bosses : List AnyPass) (same : length lefts ≡ length defs) (o : OpenedSoFar (length lefts) defs lefts puts queues bosses) where
  pub all_opens : AllOpen defs (rows_left lefts) (all_played queues bosses)
  all_opens = all_open defs lefts queues bosses same (o.as_many ∙ same) (o.passes ∙ same) (λ q def queue boss d e f. (o.each q def queue boss d e f).opens)

  opened_at : (q : ℕ) (queue : AnyQueue Parcel R) (boss : AnyPass) → slice_get queues q ≡ Some queue → slice_get bosses q ≡ Some boss → (def : Defined) × IsOpened def (left_in q lefts) (slice_index puts q) queue boss
  opened_at q queue boss e f =
      let low = get_low queues q queue e in
      let long = o.as_many in
      let def = get_some defs q (omega (arith, low, long, same)) in
      (def.0, o.each q def.0 queue boss def.1 e f)

  pub are_opened : AreOpened defs lefts puts queues bosses
  are_opened = record {
    as_many = o.as_many ∙ same;
    passes = o.passes ∙ same;
    serves = λ q queue boss e f. (opened_at q queue boss e f).1.serves;
    builds = λ q def queue d e.
        let low = get_low queues q queue e in
        let long = o.as_many in
        let also = o.passes in
        let boss = get_some bosses q (omega (arith, low, long, also)) in
        (o.each q def queue boss.0 d e boss.1).build;
    new = λ q def boss d f.
        let low = get_low bosses q boss f in
        let long = o.as_many in
        let also = o.passes in
        let queue = get_some queues q (omega (arith, low, long, also)) in
        (o.each q def queue.0 boss d queue.1 f).new;
  }

  -- where there is room for so many rows, there is room for those of the queues
  pub hold_rests : (rests : List Rest) → HoldRows lefts puts rests → RestsHold rests queues
  hold_rests rests hold q rest queue r e =
      let low = get_low queues q queue e in
      let long = o.as_many in
      let def = get_some defs q (omega (arith, low, long, same)) in
      let rows : (build_in queue).rows ≡ rows_for (many_left q lefts) (slice_index puts q) = ap (λ (b : Build). b.rows) (are_opened.builds q def.0 queue def.1 e) in
      let room = hold q rest r in
      omega (arith, rows, room)

-- Turns of the loops

-- what a turn takes of a list stands behind what was taken
pub taken_at : {X : Type 0} (all done rest : List X) (x : X) → done ++ x ∷ rest ≡ all → slice_get all (length done) ≡ Some x
taken_at all done rest x e = ap (λ (l : List _). slice_get l (length done)) (sym e) ∙ get_mid done x rest

pub one_more_carried : (es : List (RestEntry Parcel)) (start : List (Slip × Parcel)) (e : RestEntry Parcel) (s : Slip × Parcel)
    → AreCarried es start → s.0 ≡ e.slip → shown s.1 ≡ record (shown e.cargo) { receipt = None } → AreCarried (es ++ e ∷ []) (start ++ s ∷ [])
one_more_carried [] [] e s c slip same = (slip, same, tt)
one_more_carried [] (t ∷ start) e s c slip same = absurd c
one_more_carried (d ∷ es) [] e s c slip same = absurd c
one_more_carried (d ∷ es) (t ∷ start) e s c slip same = (c.0, c.1, one_more_carried es start e s c.2 slip same)

pub ok_both : {X E : Type 0} (A B C : X → Type 0) (r : Result X E) → ((x : X) → A x → B x → C x) → IfOk r A → IfOk r B → IfOk r C
ok_both A B C (Ok x) f a b = f x a b
ok_both A B C (Err e) f a b = tt

-- the definition at a place
pub defined_at : (items : List QueueDef) (i : ℕ) (def : QueueDef) → i < length items → def ≡ get_or items i def → slice_get (map defined items) i ≡ Some (defined def)
defined_at [] i def low e = absurd (omega (arith, low))
defined_at (x ∷ items) zero def low e = ap (λ (d : QueueDef). Some (defined d)) (sym e)
defined_at (x ∷ items) (suc i) def low e = defined_at items i def (omega (arith, low)) e

-- the names of one queue more
pub name_at : (items : List QueueDef) (i : ℕ) (def : QueueDef) → i < length items → def ≡ get_or items i def
    → take (i + 1) (queue_names (map defined items)) ≡ take i (queue_names (map defined items)) ++ def.name ∷ []
name_at items i def low e =
    let names = queue_names (map defined items) in
    let long : length names ≡ length items = length-map (map defined items) (λ d. d.name) ∙ length-map items defined in
    take_more names i def.name (omega (arith, low, long))
    ∙ ap (λ (n : List ℕ). take i names ++ n ∷ []) (get_or_from_slice_get names i def.name def.name (got items i def low e))
  where
    got : (items : List QueueDef) (i : ℕ) (def : QueueDef) → i < length items → def ≡ get_or items i def → slice_get (queue_names (map defined items)) i ≡ Some def.name
    got [] i def low e = absurd (omega (arith, low))
    got (x ∷ items) zero def low e = ap (λ (d : QueueDef). Some d.name) (sym e)
    got (x ∷ items) (suc i) def low e = got items i def (omega (arith, low)) e

-- a rest more with no entries
pub one_more_nothing : (rests : List Rest) (rest : Rest) → TellNothing rests → rest.entries.items ≡ [] → TellNothing (rests ++ rest ∷ [])
one_more_nothing rests rest none e q r at = ⊎_elim
    (λ (old : slice_get rests q ≡ Some r). none q r old)
    (λ (t : (q ≡ length rests) × (r ≡ rest)). ap (λ (z : Rest). z.entries.items) t.1 ∙ e)
    (get_push rests rest r q at)

-- a rest more with room
pub one_more_holds : (lefts : List Remains) (puts : List ℕ) (rests : List Rest) (rest : Rest) → HoldRows lefts puts rests
    → rows_for (many_left (length rests) lefts) (slice_index puts (length rests)) ≤ vec_capacity rest.entries → HoldRows lefts puts (rests ++ rest ∷ [])
one_more_holds lefts puts rests rest hold room q r at = ⊎_elim
    (λ (old : slice_get rests q ≡ Some r). hold q r old)
    (λ (t : (q ≡ length rests) × (r ≡ rest)).
    subst (λ (z : ℕ × Rest). rows_for (many_left z.0 lefts) (slice_index puts z.0) ≤ vec_capacity z.1.entries) (λ i. (sym t.0 i, sym t.1 i)) room)
    (get_push rests rest r q at)

-- a turn over what was left comes to a place that there is
pub turn_low : {A B : Type 0} (defs : List A) (lefts done rest : List B) (x : B) (n : ℕ) → length lefts ≡ length defs → done ++ x ∷ rest ≡ lefts → n ≡ length done → n < length defs
turn_low defs lefts done rest x n same all at =
    let a = ap length all in
    let b = length-append done (x ∷ rest) in
    omega (arith, same, at, a, b)

pub turn_here : {B : Type 0} (lefts done rest : List B) (x : B) (n : ℕ) → done ++ x ∷ rest ≡ lefts → n ≡ length done → slice_get lefts n ≡ Some x
turn_here lefts done rest x n all at = ap (slice_get lefts) at ∙ taken_at lefts done rest x all

-- of queues that are within their limits each has so few consumers that a mask has a bit for each
pub few_consumers : (defs : List Defined) (n : ℕ) (def : Defined) → AreAllowed defs → slice_get defs n ≡ Some def → length def.consumers ≤ most_consumers
few_consumers defs n def a e = (subst IsAllowed (get_or_from_slice_get defs n def def e) (a.each n def (get_low defs n def e))).slips.consumers

-- and each priority queue has 1 to 10 priorities
pub few_priorities : (defs : List Defined) (n : ℕ) (def : Defined) → AreAllowed defs → slice_get defs n ≡ Some def → HasPriorities def.kind
few_priorities defs n def a e = (subst IsAllowed (get_or_from_slice_get defs n def def e) (a.each n def (get_low defs n def e))).slips.priorities
