-- passes that are split off one queue after the other
use Rattle.std.proofs.Common.{◌≡◌, ◌≢◌, ◌<◌, ◌≤◌, ℕ, ◌+◌, Some, List, [], ◌∷◌, ◌++◌, length, map, slice_get, slice_set, refl, sym, ap, ◌∙◌, subst, arith}
use Rattle.std.specs.Option.{option_map}
use Rattle.std.proofs.lemmas.List.{length_push}
use Rattle.std.proofs.lemmas.Option.{slice_get-map, slice_get_within}
use Rattle.acts_core.specs.Sight.{Sight}
use Rattle.any_queue.specs.Parting.{IsSplit}
use Rattle.defs_read.specs.Allowed.{AreAllowed}
use Rattle.defs_read.specs.Defined.{Defined, defined}
use Rattle.defs_read.specs.declared.defs.QueueDef.{QueueDef}
use Rattle.defs_read.proofs.Bounds.{allowed_at}
use Rattle.script_read.specs.declared.lines.Op.{Op}
use Rattle.workers_core.specs.Made.{puts_in}
use Rattle.workers_core.specs.Ready.{AllServe}
use Rattle.workers_core.proofs.Ones.{set_here, set_length, set_other}
use Rattle.phase_actors.specs.Passes.{AreSplit, places_of}
use Rattle.phase_actors.proofs.Lists.{at_last, same_some}

-- of some queues, from the first on, an actor's passes were split off
pub record Splitting (defs : List Defined) (name : List ℕ) (ops : List Op) (olds news passes : List Sight) : Type 0 where
  pub bosses : length news ≡ length olds
  pub still : (q : ℕ) → length passes ≤ q → slice_get news q ≡ slice_get olds q
  pub each : (q : ℕ) (def : Defined) (s b t : Sight)
      → slice_get defs q ≡ Some def → slice_get olds q ≡ Some s → slice_get news q ≡ Some b → slice_get passes q ≡ Some t
      → IsSplit s b t (places_of name def.consumers) (puts_in q ops)

pub none_split : (defs : List Defined) (name : List ℕ) (ops : List Op) (olds passes : List Sight) → passes ≡ [] → Splitting defs name ops olds olds passes
none_split defs name ops olds passes none = subst (Splitting defs name ops olds olds) (sym none) (record {
  bosses = refl;
  still = λ q low. refl;
  each = λ q def s b t at_def at_s at_b at_t. absurd (let bad = at_t in cc);
})

module _ (defs : List Defined) (name : List ℕ) (ops : List Op) (olds news passes : List Sight) (def : Defined) (s b t : Sight) where
  abbrev i : ℕ
  i = length passes

  abbrev IsOne : ℕ → Sight → Type 0
  IsOne q t' = (def' : Defined) (s' b' : Sight) → slice_get defs q ≡ Some def' → slice_get olds q ≡ Some s' → slice_get (slice_set news i b) q ≡ Some b'
      → IsSplit s' b' t' (places_of name def'.consumers) (puts_in q ops)

  pub one_split : slice_get defs i ≡ Some def → slice_get news i ≡ Some s → IsSplit s b t (places_of name def.consumers) (puts_in i ops)
      → Splitting defs name ops olds news passes → Splitting defs name ops olds (slice_set news i b) (passes ++ t ∷ [])
  one_split at_def at_s split x = record {
    bosses = set_length news i b ∙ x.bosses;
    still = λ q high.
        let long : length (passes ++ t ∷ []) ≡ i + 1 = length_push passes t in
        let apart : q ≢ i = (λ e. omega (arith, high, long, e)) in
        set_other news i q b apart ∙ x.still q (omega (arith, high, long));
    each = λ q def' s' b' t' at_def' at_s' at_b' at_t'. at_last IsOne passes t before here q t' at_t' def' s' b' at_def' at_s' at_b';
  } where
    before : (q : ℕ) (t' : Sight) → slice_get passes q ≡ Some t' → IsOne q t'
    before q t' at def' s' b' at_def' at_s' at_b' =
        let low : q < i = slice_get_within passes q t' at in
        let apart : q ≢ i = (λ e. omega (arith, low, e)) in
        x.each q def' s' b' t' at_def' at_s' (sym (set_other news i q b apart) ∙ at_b') at

    here : IsOne i t
    here def' s' b' at_def' at_s' at_b' =
        let ed : def ≡ def' = same_some def def' (sym at_def ∙ at_def') in
        let old : slice_get news i ≡ slice_get olds i = x.still i (omega arith) in
        let es : s ≡ s' = same_some s s' (sym at_s ∙ old ∙ at_s') in
        let eb : b ≡ b' = same_some b b' (sym (set_here news i b s at_s) ∙ at_b') in
        subst (λ (d : Defined). IsSplit s' b' t (places_of name d.consumers) (puts_in i ops)) ed
        (subst (λ (z : Sight). IsSplit z b' t (places_of name def.consumers) (puts_in i ops)) es
        (subst (λ (z : Sight). IsSplit s z t (places_of name def.consumers) (puts_in i ops)) eb split))

pub all_split : (defs : List Defined) (name : List ℕ) (ops : List Op) (olds news passes : List Sight) → length passes ≡ length defs → Splitting defs name ops olds news passes → AreSplit defs name ops olds news passes
all_split defs name ops olds news passes long x = record { as_many = long; bosses = x.bosses; each = x.each }

-- one pass more serves its queue
pub serve_more : {Q P : Type 0} (serves : Q → P → Type 0) (queues : List Q) (passes : List P) (queue : Q) (p : P) → AllServe serves queues passes → slice_get queues (length passes) ≡ Some queue → serves queue p → AllServe serves queues (passes ++ p ∷ [])
serve_more serves queues passes queue p each at now k q x at_q at_x =
    at_last (λ n y. (z : _) → slice_get queues n ≡ Some z → serves z y) passes p (λ n y at_y z at_z. each n z y at_z at_y)
    (λ z at_z. subst (λ w. serves w p) (same_some queue z (sym at ∙ at_z)) now) k x at_x q at_q

-- the definition in a place
pub def_at : (queues : List QueueDef) (i : ℕ) (q : QueueDef) → slice_get queues i ≡ Some q → slice_get (map defined queues) i ≡ Some (defined q)
def_at queues i q at = slice_get-map defined queues i ∙ ap (option_map defined) at

pub few_consumers : (queues : List QueueDef) (i : ℕ) (q : QueueDef) → AreAllowed (map defined queues) → slice_get queues i ≡ Some q → length q.consumers.items ≤ 64
few_consumers queues i q allowed at = (allowed_at queues i q allowed at).slips.consumers
