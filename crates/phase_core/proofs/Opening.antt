-- the queues as they were opened, and the actors as they were made over them
use Rattle.std.proofs.Common.{◌≡◌, inl, inr, ℕ, zero, suc, ◌<◌, Some, List, [], ◌∷◌, length, map, slice_get, refl, sym, ap, ◌∙◌, subst, ⊎_elim, arith}
use Rattle.std.specs.Prelude.{slice_index}
use Rattle.std.specs.Option.{option_map}
use Rattle.std.proofs.lemmas.Bool.{cases_eq}
use Rattle.std.proofs.lemmas.List.{get_or_past, length-map}
use Rattle.std.proofs.lemmas.Option.{same_Some, slice_get-map, slice_get_cases, slice_get_within}
use mathlib.Core.List.{Mem, mem-append_left, mem-append_right, mem-cons_self}
use Rattle.queue_model.specs.declared.queues.Queue.{Queue}
use Rattle.queue_model.specs.declared.deeds.Deed.{Deed}
use Rattle.queue_model.specs.declared.rows.Row.{Row}
use Rattle.queue_model.specs.History.{Legal, own}
use Rattle.acts_core.specs.Sight.{Build, Sight}
use Rattle.txn_core.specs.declared.parcels.Parcel.{Parcel}
use Rattle.defs_read.specs.Defined.{Defined}
use Rattle.defs_read.specs.Slips.{lists_of}
use Rattle.script_read.specs.Allowed.{ops_in}
use Rattle.script_read.specs.Phases.{Actors}
use Rattle.script_read.specs.declared.lines.Op.{Op}
use Rattle.target_core.specs.Seats.{Seats}
use Rattle.entry_table.specs.Rule.{below}
use Rattle.any_queue.specs.declared.kinds.AnyPass.{AnyPass}
use Rattle.any_queue.specs.declared.kinds.AnyQueue.{AnyQueue}
use Rattle.any_queue.specs.Kinds.{build_in, sight_in}
use Rattle.line_core.specs.Places.{AreOfKinds, kind_of}
use Rattle.workers_core.specs.Made.{puts_in}
use Rattle.account_core.specs.Phases.{AllOpen}
use Rattle.phase_queues.specs.Opened.{AreOpened, HasRoom, all_played, played}
use Rattle.phase_actors.specs.Cast.{IsCast}
use Rattle.phase_actors.specs.Passes.{AllMayCast, AreBosses, IsFreshPass, MayCast, places_of}
use Rattle.phase_core.specs.Phased.{FewEntries, Lefts}
use Rattle.phase_core.specs.Playing.{AreUnused}
use Rattle.phase_core.specs.Joining.{IsOfCaller}
use Rattle.phase_core.proofs.Places.{there}
use Rattle.phase_core.proofs.Queues.{opens_at, played_at}

-- Counts

-- what was counted of each queue that is there
abbrev pub Counted : ℕ → List Op → List ℕ → Type 0
Counted n ops puts = (q : ℕ) → q < n → slice_index puts q ≡ puts_in q ops

pub has_room : (lefts : Lefts) (ops : List Op) (puts : List ℕ) (n : ℕ) → length puts ≡ n → Counted n ops puts → FewEntries lefts ops → HasRoom lefts puts
has_room lefts ops puts n long counted few q = elim (slice_get_cases puts q).1 [
  | inl (x, within, at, read) ↦ let is = counted q (omega (arith, within, long)) in let all = few q in omega (arith, is, all)
  | inr (past, at) ↦ let none : slice_index puts q ≡ 0 = get_or_past puts q 0 past in let all = few q in omega (arith, none, all)
]

-- Bosses

mem_below : (n k : ℕ) → k < n → Mem k (below n)
mem_below zero k less = absurd (omega (arith, less))
mem_below (suc n) k less = ⊎_elim
    (λ (same : k ≡ n). mem-append_right (below n) (subst (λ (m : ℕ). Mem k (m ∷ [])) same mem-cons_self))
    (λ other. mem-append_left (n ∷ []) (mem_below n k (omega (arith, less, other))))
    (cases_eq k n)

module _ {R : Type 0} (defs : List Defined) (lefts : Lefts) (puts : List ℕ) (queues : List (AnyQueue Parcel R)) (bosses : List AnyPass) (opened : AreOpened defs lefts puts queues bosses) where
  -- each is of the kind that its definition asks for
  pub are_of_kinds : (rows : List (List Row)) → AllOpen defs rows (all_played queues bosses) → AreOfKinds defs (map build_in queues)
  are_of_kinds rows opens q def b at_def at_b =
      let within = slice_get_within defs q def at_def in
      let queue = there queues q (omega (arith, within, opened.as_many)) in
      let boss = there bosses q (omega (arith, within, opened.passes)) in
      let o = opens_at defs rows (all_played queues bosses) q (played queue.0 boss.0) opens (played_at queues bosses q queue.0 boss.0 queue.1 boss.1) in
      let same : o.def ≡ def = same_Some o.def def (sym o.def_at ∙ at_def) in
      let at : slice_get (map build_in queues) q ≡ Some (build_in queue.0) = slice_get-map build_in queues q ∙ ap (option_map build_in) queue.1 in
      let built : build_in queue.0 ≡ b = same_Some (build_in queue.0) b (sym at ∙ at_b) in
      ap (λ (z : Build). z.kind) (sym built) ∙ o.opens.kind ∙ ap (λ (d : Defined). kind_of d.kind) same

  module _ (rows : List (List Row)) (actors : Actors) (opens : AllOpen defs rows (all_played queues bosses)) (counted : Counted (length defs) (ops_in actors) puts) where
    may_one : (q : ℕ) (def : Defined) (boss : AnyPass) → slice_get defs q ≡ Some def → slice_get bosses q ≡ Some boss → MayCast def q actors 1 (sight_in boss)
    may_one q def boss at_def at_boss =
        let within = slice_get_within defs q def at_def in
        let queue = there queues q (omega (arith, within, opened.as_many)) in
        let o = opens_at defs rows (all_played queues bosses) q (played queue.0 boss) opens (played_at queues bosses q queue.0 boss queue.1 at_boss) in
        let same : o.def ≡ def = same_Some o.def def (sym o.def_at ∙ at_def) in
        let new = opened.new q def boss at_def at_boss in
        let count = counted q within in
        record {
          lists = o.opens.lists ∙ ap (λ (d : Defined). lists_of d.kind) same;
          as_many = o.opens.consumers ∙ ap (λ (d : Defined). length d.consumers) same;
          boss = record {
            opening = refl;
            caller = new.caller;
            made = new.made;
            ended = new.ended;
            legal = subst (λ (ds : List Deed). Legal (sight_in boss).opening ds) (sym new.seen) tt;
            idle = ap (own 0) new.seen;
            unmade = λ k high. ap (own k) new.seen;
          };
          consumers = λ k i c a at_c at_a mine. subst (Mem k) (sym new.consumers) (mem_below (length def.consumers) k (slice_get_within def.consumers k c at_c));
          allowance = let few = new.allowance in omega (arith, few, count);
          share = let few = new.share in omega (arith, few, count);
        }

    pub may_cast : AllMayCast defs actors 1 (map sight_in bosses)
    may_cast q def s at_def at_s =
        let within = slice_get_within (map sight_in bosses) q s at_s in
        let boss = there bosses q (omega (arith, within, length-map bosses sight_in)) in
        let at : slice_get (map sight_in bosses) q ≡ Some (sight_in boss.0) = slice_get-map sight_in bosses q ∙ ap (option_map sight_in) boss.1 in
        subst (MayCast def q actors 1) (same_Some (sight_in boss.0) s (sym at ∙ at_s)) (may_one q def boss.0 at_def boss.1)

-- Actors

-- an actor's passes were not used, as those see them that know which queues they are of
pub unused_of : (defs : List Defined) (olds news : List Sight) (seats : Seats) (made h : ℕ) (name : List ℕ) (ops : List Op) (sights : List Sight) (mine : Seats)
    → length olds ≡ length defs → AreBosses olds made news → IsCast defs olds seats h name ops sights mine → AreUnused news h sights
unused_of defs olds news seats made h name ops sights mine long bosses cast = record { as_many = cast.as_many ∙ sym long ∙ sym many; each = each; idle = idle } where
  many : length news ≡ length olds
  many = sym (length-map news (λ (s : Sight). s.opening)) ∙ ap length bosses.openings ∙ length-map olds (λ (s : Sight). s.opening)

  fresh : (q : ℕ) (t : Sight) → slice_get sights q ≡ Some t → (def : Defined) × (s : Sight) × (slice_get olds q ≡ Some s) × IsFreshPass s.opening h (places_of name def.consumers) (puts_in q ops) t
  fresh q t at =
      let within = slice_get_within sights q t at in
      let def = there defs q (omega (arith, within, cast.as_many)) in
      let s = there olds q (omega (arith, within, cast.as_many, long)) in
      (def.0, s.0, s.1, cast.passes q def.0 s.0 t def.1 s.1 at)

  idle : (q : ℕ) (t : Sight) → slice_get sights q ≡ Some t → own h t.seen ≡ []
  idle q t at = (fresh q t at).3.idle

  same_opening : (q : ℕ) (s z : Sight) → slice_get olds q ≡ Some s → slice_get news q ≡ Some z → s.opening ≡ z.opening
  same_opening q s z at_s at_z =
      let was : slice_get (map (λ (x : Sight). x.opening) olds) q ≡ Some s.opening = slice_get-map (λ (x : Sight). x.opening) olds q ∙ ap (option_map (λ (x : Sight). x.opening)) at_s in
      let is : slice_get (map (λ (x : Sight). x.opening) news) q ≡ Some z.opening = slice_get-map (λ (x : Sight). x.opening) news q ∙ ap (option_map (λ (x : Sight). x.opening)) at_z in
      same_Some s.opening z.opening (sym was ∙ ap (λ (os : List Queue). slice_get os q) (sym bosses.openings) ∙ is)

  each : (q : ℕ) (z t : Sight) → slice_get news q ≡ Some z → slice_get sights q ≡ Some t → IsOfCaller z.opening h t
  each q z t at_z at_t =
      let f = fresh q t at_t in
      let sight = f.3.sight in
      record {
        opening = ap (λ (x : Sight). x.opening) sight ∙ same_opening q f.1 z f.2 at_z;
        caller = ap (λ (x : Sight). x.caller) sight;
        ended = ap (λ (x : Sight). x.ended) sight;
      }

-- there are as many bosses as before
pub bosses_many : (olds news : List AnyPass) (made : ℕ) → AreBosses (map sight_in olds) made (map sight_in news) → length news ≡ length olds
bosses_many olds news made bosses =
    let same = ap length bosses.openings in
    omega (arith, same, length-map (map sight_in news) (λ (s : Sight). s.opening), length-map (map sight_in olds) (λ (s : Sight). s.opening), length-map news sight_in, length-map olds sight_in)
