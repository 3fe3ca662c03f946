-- passes that are split off the bosses'
use Rattle.std.proofs.Common.{◌≡◌, ℕ, zero, suc, ◌+◌, ◌<◌, Bool, true, false, cond, not, Some, List, [], ◌∷◌, ◌++◌, length, map, slice_get, refl, sym, ap, ◌∙◌, subst, arith, inl, inr, ⊎_elim}
use Rattle.std.specs.List.{IsDistinct}
use Rattle.std.specs.Option.{option_map}
use Rattle.std.specs.Str.{bytes_eq}
use Rattle.std.proofs.lemmas.Bool.{cases_Bool, cond-true}
use Rattle.std.proofs.lemmas.List.Sums.{sum_by-append}
use Rattle.std.proofs.lemmas.Map.Keys.{IsDistinct-head}
use Rattle.std.proofs.lemmas.Option.{slice_get-map}
use Rattle.std.proofs.lemmas.Slice.Eq.{bytes_eq-Decides}
use mathlib.Core.List.{Mem}
use Rattle.queue_model.specs.declared.queues.Queue.{Queue}
use Rattle.queue_model.specs.History.{Legal, own}
use Rattle.acts_core.specs.Sight.{Sight}
use Rattle.entry_table.specs.Plays.{not_in}
use Rattle.entry_table.specs.Views.{Has, is_in}
use Rattle.entry_table.proofs.Concerning.{in_has}
use Rattle.any_queue.specs.Parting.{IsSplit, MayPart}
use Rattle.any_queue.proofs.Parting.{has_mem, mem_has}
use Rattle.defs_read.specs.Defined.{Defined}
use Rattle.defs_read.specs.declared.defs.ConsumerDef.{ConsumerDef}
use Rattle.script_read.specs.Allowed.{ops_in}
use Rattle.script_read.specs.Phases.{Actors}
use Rattle.script_read.specs.declared.lines.Op.{Op}
use Rattle.workers_core.specs.Jobs.{puts_to}
use Rattle.workers_core.proofs.Holds.{all_get}
use Rattle.workers_core.specs.Made.{IsPassFor, ArePassesFor, MayPutLines, puts_in}
use Rattle.phase_actors.specs.Passes.{AllMayCast, AllMayPart, AreBosses, AreSplit, IsFreshPass, MayCast, places_of}
use Rattle.phase_actors.proofs.Lists.{was}
use Rattle.phase_actors.proofs.Places.{IsOwn, of_place, own_place}

-- Names

-- equal names are the same by the test
pub same_names : (m n : List ℕ) → m ≡ n → bytes_eq m n ≡ true
same_names m n e = (bytes_eq-Decides m n).1 e

-- Puts

pub puts_append : (q : ℕ) (xs ys : List Op) → puts_in q (xs ++ ys) ≡ puts_in q xs + puts_in q ys
puts_append q xs ys = sum_by-append (λ (op : Op). cond (puts_to q op.what) 1 0) xs ys

-- One queue

-- a number that isn't among those stays
stays_in : (k : ℕ) (cs xs : List ℕ) → is_in k cs ≡ false → Has k xs → Has k (not_in cs xs)
stays_in k cs [] out has = absurd has
stays_in k cs (x ∷ xs) out has = ⊎_elim
    (λ (e : x ≡ k).
    let keep : not (is_in x cs) ≡ true = ap not (subst (λ (n : ℕ). is_in n cs ≡ false) (sym e) out) in
    subst (Has k) (sym (cond-true (not (is_in x cs)) (x ∷ not_in cs xs) (not_in cs xs) keep)) (inl e))
    (λ (h : Has k xs). behind (not (is_in x cs)) (stays_in k cs xs out h))
    has
  where
    behind : (b : Bool) → Has k (not_in cs xs) → Has k (cond b (x ∷ not_in cs xs) (not_in cs xs))
    behind true h = inr h
    behind false h = h

-- a place of another actor's consumer isn't one of this actor's
other_place : (k : ℕ) (name : List ℕ) (cs : List ConsumerDef) (c : ConsumerDef) → slice_get cs k ≡ Some c → bytes_eq c.actor name ≡ false → is_in k (places_of name cs) ≡ false
other_place k name cs c at other = ⊎_elim
    (λ (yes : is_in k (places_of name cs) ≡ true).
    let p : IsOwn k name cs = of_place k name cs (in_has k (places_of name cs) yes) in
    let both : Some c ≡ Some p.c = sym at ∙ p.there in
    let e : c ≡ p.c = cc in
    let bad : true ≡ false = sym p.same ∙ sym (ap (λ (z : ConsumerDef). bytes_eq z.actor name) e) ∙ other in
    absurd (cc))
    (λ (no : is_in k (places_of name cs) ≡ false). no)
    (cases_Bool (is_in k (places_of name cs)))

-- the pass of the first of the actors may be split off
pub may_part : (def : Defined) (q : ℕ) (name : List ℕ) (ops : List Op) (rest : Actors) (made : ℕ) (s : Sight) → made < 64 → MayCast def q ((name, ops) ∷ rest) made s → MayPart s (places_of name def.consumers) (puts_in q ops)
may_part def q name ops rest made s few may =
    let puts = puts_append q ops (ops_in rest) in record {
      boss = may.boss.caller;
      made = omega (arith, may.boss.made, few);
      has = λ k m.
          let p : IsOwn k name def.consumers = of_place k name def.consumers (mem_has k (places_of name def.consumers) m) in
          may.consumers k 0 p.c (name, ops) p.there refl ((bytes_eq-Decides p.c.actor name).0 p.same);
      allowance = omega (arith, may.allowance, puts);
      share = omega (arith, may.share, puts);
    }

-- the other passes may then be split off
pub cast_on : (def : Defined) (q : ℕ) (name : List ℕ) (ops : List Op) (rest : Actors) (made : ℕ) (s b t : Sight)
    → IsDistinct bytes_eq (map (λ a. a.0) ((name, ops) ∷ rest)) → MayCast def q ((name, ops) ∷ rest) made s
    → IsSplit s b t (places_of name def.consumers) (puts_in q ops) → MayCast def q rest (made + 1) b × (b.opening ≡ s.opening)
cast_on def q name ops rest made s b t apart may d = (
  record {
    lists = ap (λ (o : Queue). o.lists) same ∙ may.lists;
    as_many = ap (λ (o : Queue). o.consumers) same ∙ may.as_many;
    boss = record {
      opening = refl;
      caller = ap (λ (z : Sight). z.caller) d.boss_is ∙ may.boss.caller;
      made = ap (λ (z : Sight). z.made) d.boss_is ∙ ap (λ (n : ℕ). n + 1) may.boss.made;
      ended = ap (λ (z : Sight). z.ended) d.boss_is ∙ may.boss.ended;
      legal = subst (λ (o : Queue). Legal o b.seen) (sym same) d.legal;
      idle = sym (ap (λ (h : ℕ). own h b.seen) may.boss.caller) ∙ d.own_acts ∙ ap (λ (h : ℕ). own h s.seen) may.boss.caller ∙ may.boss.idle;
      unmade = λ k high. d.unmade k (omega (arith, high, may.boss.made));
    };
    consumers = λ k i c a at who is.
        let differs : bytes_eq name a.0 ≡ false = all_get (λ y. bytes_eq name y ≡ false) (map (λ z. z.0) rest) i a.0 (IsDistinct-head bytes_eq name (map (λ z. z.0) rest) apart) (slice_get-map (λ z. z.0) rest i ∙ ap (option_map (λ z. z.0)) who) in
        let other : bytes_eq c.actor name ≡ false = other_name c.actor name a.0 is differs in
        let before : Mem k s.consumers = may.consumers k (suc i) c a at who is in
        let out = other_place k name def.consumers c at other in
        let stays = stays_in k (places_of name def.consumers) s.consumers out (mem_has k s.consumers before) in
        subst (Mem k) (sym (ap (λ (z : Sight). z.consumers) d.boss_is)) (has_mem k (not_in (places_of name def.consumers) s.consumers) stays);
    allowance = omega (arith, may.allowance, puts, ap (λ (z : Sight). z.allowance) d.boss_is);
    share = omega (arith, may.share, puts, ap (λ (z : Sight). z.share) d.boss_is);
  },
  same,
)
  where
    same : b.opening ≡ s.opening
    same = ap (λ (z : Sight). z.opening) d.boss_is

    puts : puts_in q (ops ++ ops_in rest) ≡ puts_in q ops + puts_in q (ops_in rest)
    puts = puts_append q ops (ops_in rest)

    other_name : (m n p : List ℕ) → m ≡ p → bytes_eq n p ≡ false → bytes_eq m n ≡ false
    other_name m n p e differs = ⊎_elim
        (λ (yes : bytes_eq m n ≡ true).
        let back : n ≡ p = sym ((bytes_eq-Decides m n).0 yes) ∙ e in
        let bad : true ≡ false = sym (same_names n p back) ∙ differs in
        absurd (cc))
        (λ (no : bytes_eq m n ≡ false). no)
        (cases_Bool (bytes_eq m n))

-- what was split off is a fresh pass
pub is_fresh_pass : (def : Defined) (q : ℕ) (name : List ℕ) (ops : List Op) (rest : Actors) (made : ℕ) (s b t : Sight) → MayCast def q ((name, ops) ∷ rest) made s
    → IsSplit s b t (places_of name def.consumers) (puts_in q ops) → IsFreshPass s.opening made (places_of name def.consumers) (puts_in q ops) t
is_fresh_pass def q name ops rest made s b t may d = record {
  sight = d.new_is ∙ (λ i. record {
    opening = s.opening;
    caller = may.boss.made i;
    consumers = places_of name def.consumers;
    allowance = puts_in q ops;
    share = puts_in q ops;
    ended = [];
    made = 0;
    seen = back i;
    shown = [];
    turns = 0;
  });
  legal = subst (Legal s.opening) (sym seen) d.legal;
  idle = ap (own made) seen ∙ d.unmade made (omega (arith, may.boss.made));
} where
  seen : t.seen ≡ b.seen
  seen = ap (λ (z : Sight). z.seen) d.new_is

  back : b.seen ≡ t.seen
  back = sym seen

-- All queues

pub all_may_part : (defs : List Defined) (name : List ℕ) (ops : List Op) (rest : Actors) (made : ℕ) (olds : List Sight) → made < 64 → AllMayCast defs ((name, ops) ∷ rest) made olds → AllMayPart defs name ops olds
all_may_part defs name ops rest made olds few may q def s at_def at_s = may_part def q name ops rest made s few (may q def s at_def at_s)

module _ (defs : List Defined) (name : List ℕ) (ops : List Op) (rest : Actors) (made : ℕ) (olds news passes : List Sight) (as_many : length olds ≡ length defs) (split : AreSplit defs name ops olds news passes) where
  split_at : (q : ℕ) (def : Defined) (b : Sight) → slice_get defs q ≡ Some def → slice_get news q ≡ Some b
      → (s : Sight) × (t : Sight) × (slice_get olds q ≡ Some s) × (slice_get passes q ≡ Some t) × IsSplit s b t (places_of name def.consumers) (puts_in q ops)
  split_at q def b at_def at_b =
      let old = was olds news q b split.bosses at_b in
      let long : length olds ≡ length passes = as_many ∙ sym split.as_many in
      let new = was passes olds q old.0 long old.1 in
      (old.0, new.0, old.1, new.1, split.each q def old.0 b new.0 at_def old.1 at_b new.1)

  pub all_cast_on : IsDistinct bytes_eq (map (λ a. a.0) ((name, ops) ∷ rest)) → AllMayCast defs ((name, ops) ∷ rest) made olds → AllMayCast defs rest (made + 1) news
  all_cast_on apart may q def b at_def at_b =
      let x = split_at q def b at_def at_b in
      (cast_on def q name ops rest made x.0 b x.1 apart (may q def x.0 at_def x.2) x.4).0

  -- the openings stay
  pub openings_stay : map (λ s. s.opening) news ≡ map (λ s. s.opening) olds
  openings_stay = same_all news olds split.bosses (λ q b s at_b at_s.
      let def = was defs olds q s as_many at_s in
      let x = split_at q def.0 b def.1 at_b in
      let both : Some s ≡ Some x.0 = sym at_s ∙ x.2 in
      let e : s ≡ x.0 = cc in
      ap (λ (z : Sight). z.opening) x.4.boss_is ∙ ap (λ (z : Sight). z.opening) (sym e))
    where
      same_all : (bs ss : List Sight) → length bs ≡ length ss → ((q : ℕ) (b s : Sight) → slice_get bs q ≡ Some b → slice_get ss q ≡ Some s → b.opening ≡ s.opening)
          → map (λ s. s.opening) bs ≡ map (λ s. s.opening) ss
      same_all [] [] long each = refl
      same_all [] (s ∷ ss) long each = absurd (omega (arith, long))
      same_all (b ∷ bs) [] long each = absurd (omega (arith, long))
      same_all (b ∷ bs) (s ∷ ss) long each =
          let less : length bs ≡ length ss = omega (arith, long) in
          ap (λ (o : Queue). o ∷ map (λ z. z.opening) bs) (each 0 b s refl refl)
          ∙ ap (λ (os : List Queue). s.opening ∷ os) (same_all bs ss less (λ q x y at_x at_y. each (suc q) x y at_x at_y))

  pub fresh_passes : AllMayCast defs ((name, ops) ∷ rest) made olds → (q : ℕ) (def : Defined) (s t : Sight)
      → slice_get defs q ≡ Some def → slice_get olds q ≡ Some s → slice_get passes q ≡ Some t
      → IsFreshPass s.opening made (places_of name def.consumers) (puts_in q ops) t
  fresh_passes may q def s t at_def at_s at_t =
      let new = was news olds q s (sym split.bosses) at_s in
      is_fresh_pass def q name ops rest made s new.0 t (may q def s at_def at_s) (split.each q def s new.0 t at_def at_s new.1 at_t)

  -- the passes are right for the actor and its lines
  pub passes_for : AllMayCast defs ((name, ops) ∷ rest) made olds → ArePassesFor name defs passes
  passes_for may = record { as_many = split.as_many; each = each } where
    each : (q : ℕ) (def : Defined) (t : Sight) → slice_get defs q ≡ Some def → slice_get passes q ≡ Some t → IsPassFor name def t
    each q def t at_def at_t =
        let old = was olds passes q t (split.as_many ∙ sym as_many) at_t in
        let s : Sight = old.0 in
        let cast = may q def s at_def old.1 in
        let fresh = fresh_passes may q def s t at_def old.1 at_t in
        let opening : t.opening ≡ s.opening = ap (λ (z : Sight). z.opening) fresh.sight in record {
          lists = ap (λ (o : Queue). o.lists) opening ∙ cast.lists;
          consumers = ap (λ (o : Queue). o.consumers) opening ∙ cast.as_many;
          own = λ k c at is. subst (Mem k) (sym (ap (λ (z : Sight). z.consumers) fresh.sight)) (own_place k name def.consumers c at (same_names c.actor name is));
        }

  pub may_put : AllMayCast defs ((name, ops) ∷ rest) made olds → MayPutLines passes ops
  may_put may q t at_t =
      let old = was olds passes q t (split.as_many ∙ sym as_many) at_t in
      let def = was defs olds q old.0 as_many old.1 in
      let fresh = fresh_passes may q def.0 old.0 t def.1 old.1 at_t in
      (omega (arith, ap (λ (z : Sight). z.allowance) fresh.sight), omega (arith, ap (λ (z : Sight). z.share) fresh.sight))

-- the first actor's passes may be split off alone
pub cast_first : (defs : List Defined) (name : List ℕ) (ops : List Op) (rest : Actors) (made : ℕ) (bosses : List Sight) → AllMayCast defs ((name, ops) ∷ rest) made bosses → AllMayCast defs ((name, ops) ∷ []) made bosses
cast_first defs name ops rest made bosses may q def s at_def at_s =
    let m = may q def s at_def at_s in
    let all = puts_append q ops (ops_in rest) in
    let one = puts_append q ops [] in
    record {
      lists = m.lists;
      as_many = m.as_many;
      boss = m.boss;
      consumers = first m;
      allowance = omega (arith, m.allowance, all, one);
      share = omega (arith, m.share, all, one);
    }
  where
    first : MayCast def q ((name, ops) ∷ rest) made s → (k i : ℕ) (c : ConsumerDef) (a : List ℕ × List Op)
        → slice_get def.consumers k ≡ Some c → slice_get ((name, ops) ∷ []) i ≡ Some a → c.actor ≡ a.0 → Mem k s.consumers
    first m k zero c a at who is = m.consumers k 0 c a at who is
    first m k (suc i) c a at who is = absurd (cc)

-- when all are split off
pub are_bosses : (defs : List Defined) (made : ℕ) (olds news : List Sight) → length news ≡ length defs → map (λ s. s.opening) news ≡ map (λ s. s.opening) olds → AllMayCast defs [] made news → AreBosses olds made news
are_bosses defs made olds news as_many openings may = record {
  openings = openings;
  each = λ q s at. let def = was defs news q s as_many at in (may q def.0 s def.1 at).boss;
}
