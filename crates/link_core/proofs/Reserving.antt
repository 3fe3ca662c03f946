-- reservations, and what is given back
use Rattle.std.proofs.Common.{◌≡◌, ◌≢◌, ℕ, ◌+◌, ◌-◌, ◌*◌, ◌/◌, ◌<◌, ◌≤◌, List, sym, ap, ◌∙◌, subst, ⊎_elim, arith}
use Rattle.std.specs.Prelude.{slice_index, slice_set}
use Rattle.std.proofs.lemmas.Bool.{cases_eq}
use Rattle.queue_model.specs.declared.deeds.Act.{Act}
use Rattle.queue_model.specs.declared.deeds.Act.TheVariants as acts
use Rattle.queue_model.specs.declared.queues.Queue.{Queue}
use Rattle.queue_model.specs.declared.queues.Reservation.{Reservation}
use Rattle.queue_model.specs.declared.steps.Step.TheVariants.{Reserve, GiveBack}
use Rattle.queue_model.specs.Sound.{Sound}
use Rattle.queue_model.specs.State.{reserved_by, entries, bytes}
use Rattle.queue_model.specs.Table.{CanGive, Can, acted, most_bytes, most_entries, with_more, with_less}
use Rattle.queue_model.proofs.Depths.{depth_low, depth_reserving, depth_giving}
use Rattle.queue_model.proofs.Owns.{own_reserving, own_giving}
use Rattle.queue_model.proofs.SoundSteps.{sound_step}
use Rattle.queue_model.proofs.Stable.{reserved_step}
use Rattle.queue_model.specs.Packing.{pack_depth, entry_worth}
use Rattle.link_core.specs.Stands.{IsDepth, Stands}
use Rattle.link_core.specs.Steps.{changed_by}
use Rattle.link_core.specs.Table.{Table, but}
use Rattle.link_core.proofs.Frames.{but_here, but_else, set_here, states_else, drafts_else, links_else, tails_else, marks_else, bells_else, draws_else, shaped_set, stands_low, draft_low}

-- an act changes its own caller's reservation alone
pub reserved_after_act : (t : Table) (q : Queue) (h : ℕ) (a : Act) (v : Reservation) → ((k : ℕ) → reserved_by q k ≡ t.reserved k) → reserved_by (acted q h a) h ≡ v → (k : ℕ) → reserved_by (acted q h a) k ≡ but t.reserved h v k
reserved_after_act t q h a v same own k = ⊎_elim
    (λ (e : k ≡ h). subst (λ (n : ℕ). reserved_by (acted q h a) n ≡ but t.reserved h v n) (sym e) (own ∙ sym (but_here t.reserved h v)))
    (λ (ne : k ≢ h). reserved_step q h k a (λ e. ne (sym e)) ∙ same k ∙ sym (but_else t.reserved h v k ne))
    (cases_eq k h)

-- the depth never has so many bytes that they reach an entry's worth
pub few_bytes : (q : Queue) → Sound q → bytes q < entry_worth
few_bytes q sound = omega (arith, depth_low q sound, sound.small)

-- the word of the depth tells the entries
pub entries_shown : (words : List ℕ) (q : Queue) → Sound q → IsDepth words q → slice_index words 2 / entry_worth ≡ entries q
entries_shown words q sound depth = let low = few_bytes q sound in let e : slice_index words 2 ≡ entries q * entry_worth + bytes q = depth in omega (arith, low, e)

-- The word of the depth is written where a caller's reservation changes, and nothing else.
depth_word_kept : (t : Table) (q : Queue) (h n : ℕ) (v : Reservation) (others : List Reservation) → Stands t q
    → Sound (record q { reserved = others })
    → n ≡ pack_depth (entries (record q { reserved = others })) (bytes (record q { reserved = others }))
    → ((k : ℕ) → reserved_by (record q { reserved = others }) k ≡ but t.reserved h v k)
    → Stands (record t { words = slice_set t.words 2 n; reserved = but t.reserved h v }) (record q { reserved = others })
depth_word_kept t q h n v others s sound depth reserved =
    let shape = shaped_set t q 2 n t.drawer t.reserved s.shaped in
    record {
      sound = sound;
      shaped = record { lists = shape.lists; consumers = shape.consumers; few_consumers = shape.few_consumers; few_rows = shape.few_rows; few_callers = shape.few_callers; long = shape.long };
      states = states_else t.rows t.words 2 n q (stands_low t q s) (λ r less. omega arith) s.states;
      drafted = drafts_else t.rows t.words 2 n q (λ r x found w. omega (arith, draft_low r w)) s.drafted;
      links = links_else t.rows t.words 2 n t.lists q (stands_low t q s) (λ l lt. omega arith) (λ r less. omega arith) s.links;
      tails = tails_else t.rows t.words 2 n t.lists q (λ l lt. omega arith) s.tails;
      marks = marks_else t.rows t.words 2 n t.lists q (λ l lt. omega arith) s.marks;
      bells = bells_else t.rows t.words 2 n t.consumers t.lists q (λ c l fewer lt. omega arith) s.bells;
      rung = λ c l b e. let of = s.rung c l b e in record { rung = of.rung; found = of.found; list = of.list; place = of.place };
      depth = let long = s.shaped.long in set_here t.words 2 n (omega (arith, long)) ∙ depth;
      draws = draws_else t.rows t.words 2 n t.drawer q (omega arith) (λ r less none. omega arith) (λ r less none. omega arith) s.draws;
      reserved = reserved;
    }

-- a reservation
pub reserve_kept : (t : Table) (q : Queue) (h size : ℕ) → Stands t q → size ≤ most_bytes → slice_index t.words 2 / entry_worth < most_entries
    → Can q h (acts.Reserve size) × Stands (changed_by t h (Reserve size)) (acted q h (acts.Reserve size))
reserve_kept t q h size s small few =
    let can : Can q h (acts.Reserve size) = (small, let e = entries_shown t.words q s.sound s.depth in omega (arith, e, few)) in
    let more = depth_reserving q h size in
    let depth : slice_index t.words 2 ≡ entries q * entry_worth + bytes q = s.depth in (
      can,
      depth_word_kept t q h (slice_index t.words 2 + (entry_worth + size)) (with_more (t.reserved h) size) (acted q h (acts.Reserve size)).reserved s
          (sound_step q h (acts.Reserve size) can s.sound)
          (omega (arith, depth, more.0, more.1))
          (reserved_after_act t q h (acts.Reserve size) (with_more (t.reserved h) size) s.reserved (own_reserving q h size ∙ ap (λ (v : Reservation). with_more v size) (s.reserved h))),
    )

-- what is given back
pub give_back_kept : (t : Table) (q : Queue) (h size : ℕ) → Stands t q → CanGive (t.reserved h) size
    → Can q h (acts.GiveBack size) × Stands (changed_by t h (GiveBack size)) (acted q h (acts.GiveBack size))
give_back_kept t q h size s give =
    let can : Can q h (acts.GiveBack size) = subst (λ (v : Reservation). CanGive v size) (sym (s.reserved h)) give in
    let less = depth_giving q h size can in
    let depth : slice_index t.words 2 ≡ entries q * entry_worth + bytes q = s.depth in (
      can,
      depth_word_kept t q h (slice_index t.words 2 - (entry_worth + size)) (with_less (t.reserved h) size) (acted q h (acts.GiveBack size)).reserved s
          (sound_step q h (acts.GiveBack size) can s.sound)
          (omega (arith, depth, less.0, less.1))
          (reserved_after_act t q h (acts.GiveBack size) (with_less (t.reserved h) size) s.reserved (own_giving q h size s.sound can ∙ ap (λ (v : Reservation). with_less v size) (s.reserved h))),
    )
