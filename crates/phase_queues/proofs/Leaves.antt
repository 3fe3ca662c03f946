-- what all queues of a phase leave
use Rattle.std.proofs.Common.{◌≡◌, ◌≢◌, ℕ, zero, suc, ◌+◌, ◌<◌, ◌≤◌, Bool, List, [], ◌∷◌, ◌++◌, length, length-append, append-nil, append_assoc, map, reverse, set, ⊎_elim, Option, Some, refl, sym, ap, ◌∙◌, subst, arith}
use Rattle.std.specs.Prelude.{slice_get}
use Rattle.std.specs.List.{AllByRecursion, count_by}
use Rattle.std.proofs.lemmas.List.{reverse-append}
use Rattle.queue_model.specs.declared.rows.Row.{Row}
use Rattle.queue_model.specs.History.{Legal, own}
use Rattle.queue_model.specs.Sound.{Sound}
use Rattle.queue_model.proofs.SoundSteps.{sound_after, sound_opening}
use Rattle.acts_core.specs.Asked.{IsSightOf}
use Rattle.acts_core.specs.Sight.{known}
use Rattle.acts_core.specs.declared.cargoes.RestEntry.{RestEntry}
use Rattle.acts_core.proofs.Running.{lists_stay}
use Rattle.txn_core.specs.declared.parcels.Parcel.{Parcel}
use Rattle.defs_read.specs.Defined.{Defined}
use Rattle.report_core.specs.declared.answers.Resting.{Resting}
use Rattle.any_queue.specs.declared.kinds.AnyPass.{AnyPass}
use Rattle.any_queue.specs.declared.kinds.AnyQueue.{AnyQueue}
use Rattle.any_queue.specs.Kinds.{build_in, sight_in, ServesAny, any_opens}
use Rattle.any_queue.specs.Parting.{IsLast}
use Rattle.phase_text.specs.declared.logs.Rest.{Rest}
use Rattle.account_core.specs.Carry.{Opens, entries_of, handed_on}
use Rattle.account_core.specs.Counting.{with_ids}
use Rattle.account_core.specs.Phases.{AllOpen}
use Rattle.account_core.specs.Played.{Played, rest_of}
use Rattle.account_core.specs.Texts.{RestsTell, queue_names, resting}
use Rattle.phase_queues.specs.Left.{Remains, AllMayStay, MayGoOn, ids_left, lasting_in, left_in, many_left, resting_left, row_left, rows_left}
use Rattle.phase_queues.specs.Opened.{AllServed, RestsHold, TellNothing, all_played, played, rest_names}
use Rattle.phase_queues.specs.Closed.{AllLasting, AllLeave, AreLast, AreOfRows, LastingBelow, Leaves, NoOthers, RestsFit, TellsMore, ToldBelow}
use Rattle.phase_queues.proofs.Leaving.{few_lasting, few_lasting_ids, few_left, may_stay, one_list, rows_left-is, told-is}
use Rattle.phase_queues.proofs.Places.{get_low, get_mid, get_set, set_past}

-- One queue

-- the pass knows a sound state
abbrev pub Knows : AnyPass → Type 0
Knows boss = Sound (known (sight_in boss))

knows : {R : Type 0} (queue : AnyQueue Parcel R) (boss : AnyPass) → IsSightOf (build_in queue) (sight_in boss) → Legal (sight_in boss).opening (sight_in boss).seen → Knows boss
knows queue boss s legal = sound_after (sight_in boss).opening (sight_in boss).seen (sound_opening (sight_in boss).opening s.opening) legal

module _ {R : Type 0} (queue : AnyQueue Parcel R) (boss : AnyPass) (es : List (RestEntry Parcel)) (l : Leaves queue boss es) (sound : Knows boss) where
  left_rows : (def : Defined) (rows : List Row) → Opens def rows (played queue boss).plan → map row_left (lasting_in es) ≡ handed_on (played queue boss)
  left_rows def rows o =
      let same = lists_stay (sight_in boss).opening (sight_in boss).seen in
      rows_left-is (build_in queue).kind (known (sight_in boss)) sound es l.closed.rests (λ last. same.0 ∙ o.lists ∙ one_list def.kind (sym o.kind ∙ last))

  left_told : map resting_left es ≡ map resting (entries_of (build_in queue).kind (known (sight_in boss)))
  left_told = told-is (build_in queue).kind (known (sight_in boss)) sound es l.closed.rests

  left_few : length es ≤ length (known (sight_in boss)).rows
  left_few = few_left (build_in queue).kind (known (sight_in boss)) sound es l.closed.rests

  lasting_few : length (lasting_in es) ≤ length (known (sight_in boss)).rows
  lasting_few = few_lasting (build_in queue).kind (known (sight_in boss)) sound es l.closed.rests

  lasting_ids : (test : ℕ → Bool) → count_by (λ e. test e.slip.id) (lasting_in es) ≤ with_ids test (known (sight_in boss)).rows
  lasting_ids = few_lasting_ids (build_in queue).kind (known (sight_in boss)) sound es l.closed.rests

  left_stay : (def : Defined) (rows : List Row) → Opens def rows (played queue boss).plan → MayGoOn def (lasting_in es)
  left_stay def rows o =
      let same = lists_stay (sight_in boss).opening (sight_in boss).seen in
      may_stay (build_in queue).kind (known (sight_in boss)) sound es l.closed.rests def (sym o.kind) (same.0 ∙ o.lists) (same.1 ∙ o.consumers) l.keys

-- All queues

pub all_sound : {R : Type 0} (queues : List (AnyQueue Parcel R)) (bosses : List AnyPass) → length bosses ≡ length queues → AllServed queues bosses → AreLast bosses → AllByRecursion Knows bosses
all_sound queues [] same serves last = tt
all_sound [] (boss ∷ bosses) same serves last = absurd (omega (arith, same))
all_sound (queue ∷ queues) (boss ∷ bosses) same serves last = (
  knows queue boss (any_opens queue boss (serves 0 queue boss refl refl)) (last.legal 0 boss refl),
  all_sound queues bosses (omega (arith, same)) (λ q. serves (suc q)) (record { last = λ q. last.last (suc q); legal = λ q. last.legal (suc q) }),
)

pub all_rows : {R : Type 0} (queues : List (AnyQueue Parcel R)) (bosses : List AnyPass) (lefts news : List Remains) (defs : List Defined) (rows : List (List Row)) → AllLeave queues bosses lefts → AllByRecursion Knows bosses → AllLasting lefts news → AllOpen defs rows (all_played queues bosses) → rows_left news ≡ map handed_on (all_played queues bosses)
all_rows [] [] [] [] defs rows l sound a o = refl
all_rows [] [] [] (new ∷ news) defs rows l sound a o = absurd a
all_rows [] [] (es ∷ lefts) news defs rows l sound a o = absurd l
all_rows [] (boss ∷ bosses) lefts news defs rows l sound a o = absurd l
all_rows (queue ∷ queues) [] lefts news defs rows l sound a o = absurd l
all_rows (queue ∷ queues) (boss ∷ bosses) [] news defs rows l sound a o = absurd l
all_rows (queue ∷ queues) (boss ∷ bosses) (es ∷ lefts) [] defs rows l sound a o = absurd a
all_rows (queue ∷ queues) (boss ∷ bosses) (es ∷ lefts) (new ∷ news) [] [] l sound a o = absurd o
all_rows (queue ∷ queues) (boss ∷ bosses) (es ∷ lefts) (new ∷ news) [] (r ∷ rows) l sound a o = absurd o
all_rows (queue ∷ queues) (boss ∷ bosses) (es ∷ lefts) (new ∷ news) (def ∷ defs) [] l sound a o = absurd o
all_rows (queue ∷ queues) (boss ∷ bosses) (es ∷ lefts) (new ∷ news) (def ∷ defs) (r ∷ rows) l sound a o =
    let first = ap (map row_left) a.0 ∙ left_rows queue boss es.items l.0 sound.0 def r o.0 in
    let rest = all_rows queues bosses lefts news defs rows l.1 sound.1 a.1 o.1 in
    λ i. first i ∷ rest i

pub all_stay : {R : Type 0} (queues : List (AnyQueue Parcel R)) (bosses : List AnyPass) (lefts news : List Remains) (defs : List Defined) (rows : List (List Row)) → AllLeave queues bosses lefts → AllByRecursion Knows bosses → AllLasting lefts news → AllOpen defs rows (all_played queues bosses) → AllMayStay defs news
all_stay [] [] [] [] [] rows l sound a o = tt
all_stay [] [] [] [] (def ∷ defs) [] l sound a o = absurd o
all_stay [] [] [] [] (def ∷ defs) (r ∷ rows) l sound a o = absurd o
all_stay [] [] [] (new ∷ news) defs rows l sound a o = absurd a
all_stay [] [] (es ∷ lefts) news defs rows l sound a o = absurd l
all_stay [] (boss ∷ bosses) lefts news defs rows l sound a o = absurd l
all_stay (queue ∷ queues) [] lefts news defs rows l sound a o = absurd l
all_stay (queue ∷ queues) (boss ∷ bosses) [] news defs rows l sound a o = absurd l
all_stay (queue ∷ queues) (boss ∷ bosses) (es ∷ lefts) [] defs rows l sound a o = absurd a
all_stay (queue ∷ queues) (boss ∷ bosses) (es ∷ lefts) (new ∷ news) [] [] l sound a o = absurd o
all_stay (queue ∷ queues) (boss ∷ bosses) (es ∷ lefts) (new ∷ news) [] (r ∷ rows) l sound a o = absurd o
all_stay (queue ∷ queues) (boss ∷ bosses) (es ∷ lefts) (new ∷ news) (def ∷ defs) [] l sound a o = absurd o
all_stay (queue ∷ queues) (boss ∷ bosses) (es ∷ lefts) (new ∷ news) (def ∷ defs) (r ∷ rows) l sound a o =
    (subst (MayGoOn def) (sym a.0) (left_stay queue boss es.items l.0 sound.0 def r o.0), all_stay queues bosses lefts news defs rows l.1 sound.1 a.1 o.1)

-- Queue q of all

-- a queue, its boss and its entries, where one of the three is found
pub record Found {R : Type 0} (queues : List (AnyQueue Parcel R)) (bosses : List AnyPass) (lefts : List Remains) (q : ℕ) : Type 0 where
  pub queue : AnyQueue Parcel R
  pub boss : AnyPass
  pub es : Remains
  pub queue_is : slice_get queues q ≡ Some queue
  pub boss_is : slice_get bosses q ≡ Some boss
  pub es_is : slice_get lefts q ≡ Some es
  pub leaves : Leaves queue boss es.items
  pub sound : Knows boss
  pub played_is : slice_get (all_played queues bosses) q ≡ Some (played queue boss)

pub found : {R : Type 0} (queues : List (AnyQueue Parcel R)) (bosses : List AnyPass) (lefts : List Remains) (q : ℕ) → AllLeave queues bosses lefts → AllByRecursion Knows bosses → q < length queues → Found queues bosses lefts q
found [] bosses lefts q l sound low = absurd (omega (arith, low))
found (queue ∷ queues) [] lefts q l sound low = absurd l
found (queue ∷ queues) (boss ∷ bosses) [] q l sound low = absurd l
found (queue ∷ queues) (boss ∷ bosses) (es ∷ lefts) zero l sound low =
    record { queue = queue; boss = boss; es = es; queue_is = refl; boss_is = refl; es_is = refl; leaves = l.0; sound = sound.0; played_is = refl }
found (queue ∷ queues) (boss ∷ bosses) (es ∷ lefts) (suc q) l sound low =
    let f = found queues bosses lefts q l.1 sound.1 (omega (arith, low)) in
    record { queue = f.queue; boss = f.boss; es = f.es; queue_is = f.queue_is; boss_is = f.boss_is; es_is = f.es_is; leaves = f.leaves; sound = f.sound; played_is = f.played_is }

-- there are as many of each
pub as_many : {R : Type 0} (queues : List (AnyQueue Parcel R)) (bosses : List AnyPass) (lefts : List Remains) → AllLeave queues bosses lefts → (length bosses ≡ length queues) × (length lefts ≡ length queues) × (length (all_played queues bosses) ≡ length queues)
as_many [] [] [] l = (refl, refl, refl)
as_many [] [] (es ∷ lefts) l = absurd l
as_many [] (boss ∷ bosses) lefts l = absurd l
as_many (queue ∷ queues) [] lefts l = absurd l
as_many (queue ∷ queues) (boss ∷ bosses) [] l = absurd l
as_many (queue ∷ queues) (boss ∷ bosses) (es ∷ lefts) l = let t = as_many queues bosses lefts l.1 in (ap suc t.0, ap suc t.1, ap suc t.2)

one : {X : Type 0} (a b : X) (o : Option X) → o ≡ Some a → o ≡ Some b → a ≡ b
one a b o e f = let same : Some a ≡ Some b = sym e ∙ f in cc

-- what goes on of queue q
lasts_at : (lefts news : List Remains) → AllLasting lefts news → (q : ℕ) (es : Remains) → slice_get lefts q ≡ Some es → left_in q news ≡ lasting_in es.items
lasts_at [] news a q es e = absurd (cc)
lasts_at (old ∷ olds) [] a q es e = absurd a
lasts_at (old ∷ olds) (new ∷ news) a zero es e = let is : old ≡ es = cc in a.0 ∙ ap (λ (z : Remains). lasting_in z.items) is
lasts_at (old ∷ olds) (new ∷ news) a (suc q) es e = lasts_at olds news a.1 q es e

module _ {R : Type 0} (qs : List (AnyQueue Parcel R)) (bosses : List AnyPass) (lefts : List Remains) (l : AllLeave qs bosses lefts) (sound : AllByRecursion Knows bosses) where
  at_played : (q : ℕ) (p : Played) → slice_get (all_played qs bosses) q ≡ Some p → Found qs bosses lefts q
  at_played q p e =
      let low = get_low (all_played qs bosses) q p e in
      let same = (as_many qs bosses lefts l).2 in
      found qs bosses lefts q l sound (omega (arith, low, same))

  at_boss : (q : ℕ) (boss : AnyPass) → slice_get bosses q ≡ Some boss → Found qs bosses lefts q
  at_boss q boss e =
      let low = get_low bosses q boss e in
      let same = (as_many qs bosses lefts l).0 in
      found qs bosses lefts q l sound (omega (arith, low, same))

  at_left : (q : ℕ) (es : Remains) → slice_get lefts q ≡ Some es → Found qs bosses lefts q
  at_left q es e =
      let low = get_low lefts q es e in
      let same = (as_many qs bosses lefts l).1 in
      found qs bosses lefts q l sound (omega (arith, low, same))

  pub of_rows : (news : List Remains) → AllLasting lefts news → AreOfRows (all_played qs bosses) news
  of_rows news lasts = record { many = many; ids = ids } where
    many : (q : ℕ) (p : Played) → slice_get (all_played qs bosses) q ≡ Some p → many_left q news ≤ length (rest_of p).rows
    many q p e =
        let f = at_played q p e in
        let is : played f.queue f.boss ≡ p = one (played f.queue f.boss) p (slice_get (all_played qs bosses) q) f.played_is e in
        let few = lasting_few f.queue f.boss f.es.items f.leaves f.sound in
        let here = ap (λ (es : List (RestEntry Parcel)). length es) (lasts_at lefts news lasts q f.es f.es_is) in
        let rows : length (known (sight_in f.boss)).rows ≡ length (rest_of p).rows = ap (λ (z : Played). length (rest_of z).rows) is in
        omega (arith, few, here, rows)

    ids : (q : ℕ) (test : ℕ → Bool) (p : Played) → slice_get (all_played qs bosses) q ≡ Some p → ids_left q test news ≤ with_ids test (rest_of p).rows
    ids q test p e =
        let f = at_played q p e in
        let is : played f.queue f.boss ≡ p = one (played f.queue f.boss) p (slice_get (all_played qs bosses) q) f.played_is e in
        let few = lasting_ids f.queue f.boss f.es.items f.leaves f.sound test in
        let here = ap (λ (es : List (RestEntry Parcel)). count_by (λ (z : RestEntry Parcel). test z.slip.id) es) (lasts_at lefts news lasts q f.es f.es_is) in
        let rows : with_ids test (known (sight_in f.boss)).rows ≡ with_ids test (rest_of p).rows = ap (λ (z : Played). with_ids test (rest_of z).rows) is in
        omega (arith, few, here, rows)

  pub no_others : NoOthers bosses
  no_others q k boss e high =
      let f = at_boss q boss e in
      let is : f.boss ≡ boss = one f.boss boss (slice_get bosses q) f.boss_is e in
      let callers : (b : AnyPass) → f.boss ≡ b → (sight_in b).made ≤ k → own k (sight_in b).seen ≡ [] =
      λ b same. subst (λ (z : AnyPass). (sight_in z).made ≤ k → own k (sight_in z).seen ≡ []) same (f.leaves.closed.callers k)
      in
      callers boss is high

  -- where there is room for all rows, there is room to tell of what is left
  pub rests_fit : (rests : List Rest) → AllServed qs bosses → TellNothing rests → RestsHold rests qs → RestsFit rests lefts
  rests_fit rests serves none hold q rest es r e =
      let f = at_left q es e in
      let is : f.es ≡ es = one f.es es (slice_get lefts q) f.es_is e in
      let few = left_few f.queue f.boss f.es.items f.leaves f.sound in
      let same : length f.es.items ≡ length es.items = ap (λ (z : Remains). length z.items) is in
      let rows = (any_opens f.queue f.boss (serves q f.queue f.boss f.queue_is f.boss_is)).rows in
      let room = hold q rest f.queue r f.queue_is in
      let empty : length rest.entries.items ≡ 0 = ap length (none q rest r) in
      omega (arith, few, same, rows, room, empty)

-- Told

pub all_told : {R : Type 0} (queues : List (AnyQueue Parcel R)) (bosses : List AnyPass) (lefts : List Remains) (olds news : List Rest) (defs : List Defined) → AllLeave queues bosses lefts → AllByRecursion Knows bosses
    → length olds ≡ length queues → length news ≡ length olds → rest_names olds ≡ queue_names defs → TellNothing olds → TellsMore olds lefts news → RestsTell news defs (all_played queues bosses)
all_told [] [] [] [] [] [] l sound long same names none more = tt
all_told [] [] [] [] [] (def ∷ defs) l sound long same names none more = absurd (cc)
all_told [] [] [] [] (new ∷ news) defs l sound long same names none more = absurd (omega (arith, same))
all_told [] [] [] (old ∷ olds) news defs l sound long same names none more = absurd (omega (arith, long))
all_told [] [] (es ∷ lefts) olds news defs l sound long same names none more = absurd l
all_told [] (boss ∷ bosses) lefts olds news defs l sound long same names none more = absurd l
all_told (queue ∷ queues) [] lefts olds news defs l sound long same names none more = absurd l
all_told (queue ∷ queues) (boss ∷ bosses) [] olds news defs l sound long same names none more = absurd l
all_told (queue ∷ queues) (boss ∷ bosses) (es ∷ lefts) [] news defs l sound long same names none more = absurd (omega (arith, long))
all_told (queue ∷ queues) (boss ∷ bosses) (es ∷ lefts) (old ∷ olds) [] defs l sound long same names none more = absurd (omega (arith, same))
all_told (queue ∷ queues) (boss ∷ bosses) (es ∷ lefts) (old ∷ olds) (new ∷ news) [] l sound long same names none more = absurd (cc)
all_told (queue ∷ queues) (boss ∷ bosses) (es ∷ lefts) (old ∷ olds) (new ∷ news) (def ∷ defs) l sound long same names none more =
    let t = more 0 old new es refl refl refl in
    let name : old.name ≡ def.name = cc in
    let others : rest_names olds ≡ queue_names defs = cc in (
      t.0 ∙ name,
      t.1 ∙ ap (λ (xs : List Resting). xs ++ map resting_left es.items) (none 0 old refl) ∙ left_told queue boss es.items l.0 sound.0,
      all_told queues bosses lefts olds news defs l.1 sound.1 (omega (arith, long)) (omega (arith, same)) others (λ q. none (suc q)) (λ q. more (suc q)),
    )

-- Closing from the last queue on

-- The queues from some place on are closed, and have left this, the last one first.
pub record Leaving {R : Type 0} (queues : List (AnyQueue Parcel R)) (bosses : List AnyPass) (staying : List (AnyQueue Parcel R)) (passes : List AnyPass) (lefts : List Remains) : Type 0 where
  pub closed : List (AnyQueue Parcel R)
  pub gone : List AnyPass
  pub queues_are : queues ≡ staying ++ closed
  pub bosses_are : bosses ≡ passes ++ gone
  pub same : length passes ≡ length staying
  pub leave : AllLeave closed gone (reverse lefts)

pub leaving_begins : {R : Type 0} (queues : List (AnyQueue Parcel R)) (bosses : List AnyPass) (lefts : List Remains) → length bosses ≡ length queues → lefts ≡ [] → Leaving queues bosses queues bosses lefts
leaving_begins {R} queues bosses lefts same none = record {
  closed = [];
  gone = [];
  queues_are = sym (append-nil queues);
  bosses_are = sym (append-nil bosses);
  same = same;
  leave = subst (λ (z : List Remains). AllLeave {R = R} [] [] (reverse z)) (sym none) tt;
}

pub leaving_ends : {R : Type 0} (queues : List (AnyQueue Parcel R)) (bosses : List AnyPass) (passes : List AnyPass) (lefts : List Remains) → Leaving queues bosses [] passes lefts → AllLeave queues bosses (reverse lefts)
leaving_ends {R} queues bosses [] lefts l = subst (λ (t : List (AnyQueue Parcel R) × List AnyPass). AllLeave t.0 t.1 (reverse lefts)) (λ i. (sym l.queues_are i, sym l.bosses_are i)) l.leave
leaving_ends queues bosses (b ∷ passes) lefts l = let same = l.same in absurd (omega (arith, same))

module _ {R : Type 0} (queues : List (AnyQueue Parcel R)) (bosses : List AnyPass) (staying : List (AnyQueue Parcel R)) (passes : List AnyPass) (queue : AnyQueue Parcel R) (boss : AnyPass) (lefts : List Remains) (l : Leaving queues bosses (staying ++ queue ∷ []) (passes ++ boss ∷ []) lefts) where
  both : length passes ≡ length staying
  both =
      let same = l.same in
      let a = length-append passes (boss ∷ []) in
      let b = length-append staying (queue ∷ []) in
      omega (arith, same, a, b)

  queues_split : queues ≡ staying ++ queue ∷ l.closed
  queues_split = l.queues_are ∙ append_assoc staying (queue ∷ []) l.closed

  bosses_split : bosses ≡ passes ++ boss ∷ l.gone
  bosses_split = l.bosses_are ∙ append_assoc passes (boss ∷ []) l.gone

  -- the last queue that is open stands where the last boss stands
  queue_at : slice_get queues (length staying) ≡ Some queue
  queue_at = ap (λ (z : List (AnyQueue Parcel R)). slice_get z (length staying)) queues_split ∙ get_mid staying queue l.closed

  boss_at : slice_get bosses (length staying) ≡ Some boss
  boss_at = ap (λ (z : List AnyPass). slice_get z (length staying)) bosses_split ∙ ap (slice_get (passes ++ boss ∷ l.gone)) (sym both) ∙ get_mid passes boss l.gone

  pub serves_last : AllServed queues bosses → ServesAny queue boss
  serves_last serves = serves (length staying) queue boss queue_at boss_at

  pub is_last : AreLast bosses → IsLast (sight_in boss)
  is_last last = last.last (length staying) boss boss_at

  pub leaves_one : (es : Remains) → Leaves queue boss es.items → Leaving queues bosses staying passes (lefts ++ es ∷ [])
  leaves_one es leaves = record {
    closed = queue ∷ l.closed;
    gone = boss ∷ l.gone;
    queues_are = queues_split;
    bosses_are = bosses_split;
    same = both;
    leave = subst (AllLeave (queue ∷ l.closed) (boss ∷ l.gone)) (sym (reverse-append lefts (es ∷ []))) (leaves, l.leave);
  }

-- Telling

pub none_told : (olds : List Rest) (lefts : List Remains) → ToldBelow 0 olds lefts olds
none_told olds lefts = record { told = λ q old new es low. absurd (omega (arith, low)); others = λ q high. refl }

pub one_more_told : (n : ℕ) (olds : List Rest) (lefts : List Remains) (news : List Rest) (was : Rest) (es : Remains) (now : Rest)
    → slice_get news n ≡ Some was → slice_get lefts n ≡ Some es → now.name ≡ was.name → now.entries.items ≡ was.entries.items ++ map resting_left es.items
    → ToldBelow n olds lefts news → ToldBelow (n + 1) olds lefts (set news n now)
one_more_told n olds lefts news was es now here left name told t = record { told = each; others = others } where
  first : slice_get olds n ≡ Some was
  first = sym (t.others n (omega arith)) ∙ here

  each : (q : ℕ) (old new : Rest) (e : Remains) → q < n + 1 → slice_get olds q ≡ Some old → slice_get lefts q ≡ Some e → slice_get (set news n now) q ≡ Some new
      → (new.name ≡ old.name) × (new.entries.items ≡ old.entries.items ++ map resting_left e.items)
  each q old new e low o l at = ⊎_elim
      (λ (s : (q ≡ n) × (new ≡ now)).
      let old_is : was ≡ old = one was old (slice_get olds n) first (ap (slice_get olds) (sym s.0) ∙ o) in
      let es_is : es ≡ e = one es e (slice_get lefts n) left (ap (slice_get lefts) (sym s.0) ∙ l) in
      subst (λ (z : Rest × Rest × Remains). (z.0.name ≡ z.1.name) × (z.0.entries.items ≡ z.1.entries.items ++ map resting_left z.2.items)) (λ i. (sym s.1 i, old_is i, es_is i)) (name, told))
      (λ (s : (q ≢ n) × (slice_get news q ≡ Some new)). let ne = s.0 in t.told q old new e (omega (arith, low, ne)) o l s.1)
      (get_set news n now new q at)

  others : (q : ℕ) → n + 1 ≤ q → slice_get (set news n now) q ≡ slice_get olds q
  others q high = set_past news n now q (omega (arith, high)) ∙ t.others q (omega (arith, high))

pub all_told_below : (n : ℕ) (olds : List Rest) (lefts : List Remains) (news : List Rest) → length lefts ≤ n → ToldBelow n olds lefts news → TellsMore olds lefts news
all_told_below n olds lefts news long t q old new es o l at =
    let low = get_low lefts q es l in
    t.told q old new es (omega (arith, low, long)) o l at

-- Leaving out

pub none_lasting : (olds : List Remains) → LastingBelow 0 olds olds
none_lasting olds = record { left = λ q old new low. absurd (omega (arith, low)); others = λ q high. refl }

pub one_more_lasting : (n : ℕ) (olds news : List Remains) (was now : Remains) → slice_get news n ≡ Some was → now.items ≡ lasting_in was.items → LastingBelow n olds news → LastingBelow (n + 1) olds (set news n now)
one_more_lasting n olds news was now here is t = record { left = each; others = others } where
  first : slice_get olds n ≡ Some was
  first = sym (t.others n (omega arith)) ∙ here

  each : (q : ℕ) (old new : Remains) → q < n + 1 → slice_get olds q ≡ Some old → slice_get (set news n now) q ≡ Some new → new.items ≡ lasting_in old.items
  each q old new low o at = ⊎_elim
      (λ (s : (q ≡ n) × (new ≡ now)).
      let old_is : was ≡ old = one was old (slice_get olds n) first (ap (slice_get olds) (sym s.0) ∙ o) in
      subst (λ (z : Remains × Remains). z.0.items ≡ lasting_in z.1.items) (λ i. (sym s.1 i, old_is i)) is)
      (λ (s : (q ≢ n) × (slice_get news q ≡ Some new)). let ne = s.0 in t.left q old new (omega (arith, low, ne)) o s.1)
      (get_set news n now new q at)

  others : (q : ℕ) → n + 1 ≤ q → slice_get (set news n now) q ≡ slice_get olds q
  others q high = set_past news n now q (omega (arith, high)) ∙ t.others q (omega (arith, high))

pub all_lasting : (olds news : List Remains) → length news ≡ length olds → ((q : ℕ) (old new : Remains) → slice_get olds q ≡ Some old → slice_get news q ≡ Some new → new.items ≡ lasting_in old.items) → AllLasting olds news
all_lasting [] [] long each = tt
all_lasting [] (new ∷ news) long each = absurd (omega (arith, long))
all_lasting (old ∷ olds) [] long each = absurd (omega (arith, long))
all_lasting (old ∷ olds) (new ∷ news) long each = (each 0 old new refl refl, all_lasting olds news (omega (arith, long)) (λ q. each (suc q)))

pub all_lasting_below : (n : ℕ) (olds news : List Remains) → length news ≡ length olds → length olds ≤ n → LastingBelow n olds news → AllLasting olds news
all_lasting_below n olds news long all t = all_lasting olds news long (λ q old new o e. let low = get_low olds q old o in t.left q old new (omega (arith, low, all)) o e)
