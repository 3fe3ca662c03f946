-- what steps do to bells
use Rattle.std.proofs.Common.{◌≡◌, ◌≢◌, ℕ, true, false, not, nat_lt, Option, Some, None, List, [], ◌∷◌, refl, sym, ap, ◌∙◌, ⊎_elim}
use Rattle.std.proofs.lemmas.Bool.{cases_Bool, cond-true, cond-false, not_from_false}
use Rattle.queue_model.specs.declared.deeds.Act.{Act}
use Rattle.queue_model.specs.declared.deeds.Act.TheVariants.{Acq, Lock, Unlock, Steal, Rel, Deq, Del, Reserve, GiveBack, Enq, Bell, Take}
use Rattle.queue_model.specs.declared.deeds.Deed.{Deed}
use Rattle.queue_model.specs.declared.queues.Bell as ring
use Rattle.queue_model.specs.declared.queues.Queue.{Queue}
use Rattle.queue_model.specs.History.{after}
use Rattle.queue_model.specs.Laws.{LeavesBell, LeaveBell}
use Rattle.queue_model.specs.State.{list_at, place_at, is_bell, bell_at}
use Rattle.queue_model.specs.Table.{earlier, acted}
use Rattle.queue_model.proofs.KeyedLemmas.{find_passes, find-alter, find-alter_other, find-filter_other, find-filter_not}
use Rattle.queue_model.proofs.SoundSteps.{bell_key, bell_from_key, earlier_is}

-- a bell of one place is none of another
pub other_bell : (d m c l : ℕ) (b : ring.Bell) → (d ≡ c → m ≢ l) → is_bell d m b ≡ true → is_bell c l b ≡ false
other_bell d m c l b other here = ⊎_elim
    (λ (both : is_bell c l b ≡ true).
    let s = bell_key d m b here in
    let t = bell_key c l b both in
    absurd (other (sym s.0 ∙ t.0) (sym s.1 ∙ t.1)))
    (λ (out : is_bell c l b ≡ false). out)
    (cases_Bool (is_bell c l b))

-- the earlier of a bell that was found and a new one is at the same place
pub earlier_here : (q : Queue) (b : ring.Bell) (d : ring.Bell) → earlier b (bell_at q b.consumer b.list) ≡ Some d → is_bell b.consumer b.list d ≡ true
earlier_here q b d e = ⊎_elim
    (λ (new : d ≡ b). bell_from_key b.consumer b.list d (ap (λ (a : ring.Bell). a.consumer) new) (ap (λ (a : ring.Bell). a.list) new))
    (λ (old : bell_at q b.consumer b.list ≡ Some d). find_passes (is_bell b.consumer b.list) q.bells d old)
    (earlier_is b (bell_at q b.consumer b.list) d e)

-- there always is one
earlier_some : (b : ring.Bell) (o : Option ring.Bell) → (d : ring.Bell) × (earlier b o ≡ Some d)
earlier_some b None = (b, refl)
earlier_some b (Some a) = ⊎_elim
    (λ (first : nat_lt b.place a.place ≡ true). (b, cond-true (nat_lt b.place a.place) (Some b) (Some a) first))
    (λ (second : nat_lt b.place a.place ≡ false). (a, cond-false (nat_lt b.place a.place) (Some b) (Some a) second))
    (cases_Bool (nat_lt b.place a.place))

-- a bell changes only where it is rung or taken
pub bell_step : (q : Queue) (h : ℕ) (a : Act) (c l : ℕ) → LeavesBell q c l a → bell_at (acted q h a) c l ≡ bell_at q c l
bell_step q h (Acq s) c l leaves = refl
bell_step q h (Lock s) c l leaves = refl
bell_step q h (Unlock s n) c l leaves = refl
bell_step q h (Steal s) c l leaves = refl
bell_step q h (Rel s n) c l leaves = refl
bell_step q h (Deq s) c l leaves = refl
bell_step q h (Del s) c l leaves = refl
bell_step q h (Reserve size) c l leaves = refl
bell_step q h (GiveBack size) c l leaves = refl
bell_step q h (Enq s slip content origin n) c l leaves = refl
bell_step q h (Bell s d) c l leaves =
    find-alter_other (is_bell d (list_at q s)) (is_bell c l) (earlier (record { consumer = d; list = list_at q s; place = place_at q s; row = s })) q.bells
    (λ b here. other_bell d (list_at q s) c l b leaves here)
    (λ b e. other_bell d (list_at q s) c l b leaves (earlier_here q (record { consumer = d; list = list_at q s; place = place_at q s; row = s }) b e))
bell_step q h (Take d m) c l leaves =
    find-filter_other (is_bell c l) (λ b. not (is_bell d m b)) q.bells
    (λ b here. not_from_false (is_bell d m b) (other_bell c l d m b (λ e f. leaves (sym e) (sym f)) here))

-- the same of a history
pub bell_stays : (q : Queue) (ds : List Deed) (c l : ℕ) → LeaveBell q c l ds → bell_at (after q ds) c l ≡ bell_at q c l
bell_stays q [] c l leave = refl
bell_stays q (d ∷ ds) c l leave = bell_stays (acted q d.caller d.act) ds c l leave.1 ∙ bell_step q d.caller d.act c l leave.0

-- a bell that is rung is the earlier of what was there and the new one
pub bell_rung : (q : Queue) (h r c : ℕ) → bell_at (acted q h (Bell r c)) c (list_at q r) ≡ earlier (record { consumer = c; list = list_at q r; place = place_at q r; row = r }) (bell_at q c (list_at q r))
bell_rung q h r c =
    let b : ring.Bell = record { consumer = c; list = list_at q r; place = place_at q r; row = r } in
    let d = earlier_some b (bell_at q c (list_at q r)) in
    find-alter (is_bell c (list_at q r)) (earlier b) q.bells d.0 d.1 (earlier_here q b d.0 d.1) ∙ sym d.1

-- a bell that is taken is there no more
pub bell_taken : (q : Queue) (h c l : ℕ) → bell_at (acted q h (Take c l)) c l ≡ None
bell_taken q h c l = find-filter_not (is_bell c l) q.bells
