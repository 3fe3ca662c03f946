-- a step keeps a state sound, in the form in which the code makes it
use Rattle.std.proofs.Common.{◌≡◌, ℕ, ◌+◌, ◌^◌, ◌<◌, ◌≤◌, Bool, true, false, cond, List, [], ◌∷◌, Option, Some, None, sym, subst, ap, ◌∙◌, arith, sum_by, find}
use Rattle.std.specs.Option.{option_map_or}
use Rattle.std.proofs.lemmas.List.Sums.{sum_by-cons}
use Rattle.queue_model.specs.declared.deeds.Act.{Act}
use Rattle.queue_model.specs.declared.deeds.Act.TheVariants.{Bell}
use Rattle.queue_model.specs.declared.queues.Queue.{Queue}
use Rattle.queue_model.specs.declared.queues.Bell as ring
use Rattle.queue_model.specs.declared.queues.Reservation.{Reservation}
use Rattle.queue_model.specs.declared.rows.Row.{Row}
use Rattle.queue_model.specs.Keyed.{alter}
use Rattle.queue_model.specs.State.{is_row, is_holder, is_bell, list_at, place_at, size_at, row_at}
use Rattle.queue_model.specs.Table.{Can, acted, earlier, most_bytes}
use Rattle.queue_model.specs.Sound.{Sound, IsSized, RowFits}
use Rattle.queue_model.proofs.KeyedLemmas.{all-find}
use Rattle.queue_model.proofs.SoundSteps.{sound_step}

pub can_at : (q now : Queue) (h : ℕ) (a b : Act) → q ≡ now → b ≡ a → Can now h b → Can q h a
can_at q now h a b same is can = subst (λ (p : Queue). Can p h a) (sym same) (subst (λ (x : Act). Can now h x) is can)

pub kept : (q now : Queue) (h : ℕ) (a b : Act) (new : Queue) → q ≡ now → b ≡ a → Can now h b → Sound q → new ≡ acted q h a → Sound new
kept q now h a b new same is can sound e = subst Sound (sym e) (sound_step q h a (can_at q now h a b same is can) sound)

-- a part is at most the sum
part-le-sum : {X : Type 0} (w : X → ℕ) (p : X → Bool) (xs : List X) (x : X) → find p xs ≡ Some x → w x ≤ sum_by w xs
part-le-sum w p [] x e = absurd (cc)
part-le-sum w p (y ∷ ys) x e = by_test (p y) (λ t. ap (λ b. cond b (Some y) (find p ys)) t) (λ i. p y) (part-le-sum w p ys x)
  where
    by_test : (b : Bool) → (p y ≡ b → cond (p y) (Some y) (find p ys) ≡ cond b (Some y) (find p ys)) → p y ≡ b → (find p ys ≡ Some x → w x ≤ sum_by w ys) → w x ≤ sum_by w (y ∷ ys)
    by_test true at t rest = let s : Some y ≡ Some x = sym (at t) ∙ e in let same : y ≡ x = cc in omega (arith, sum_by-cons w y ys, ap w same)
    by_test false at t rest = omega (arith, sum_by-cons w y ys, rest (sym (at t) ∙ e))

-- one more entry of a message's size fits what a caller has reserved
pub more_fits : (q : Queue) (h size : ℕ) → Sound q → size ≤ most_bytes → (v : Reservation) → find (is_holder h) q.reserved ≡ Some v → (v.entries + 1 < 2 ^ 64) × (v.bytes + size < 2 ^ 64)
more_fits q h size sound small v e =
    let sized : IsSized v = all-find IsSized (is_holder h) q.reserved v sound.reserved_sized e in
    let few : v.entries ≤ sum_by (λ (w : Reservation). w.entries) q.reserved = part-le-sum (λ (w : Reservation). w.entries) (is_holder h) q.reserved v e in
    (omega (arith, sound.small), omega (arith, sound.small, sized.bytes))

pub size_fits : (q : Queue) (r : ℕ) → Sound q → size_at q r ≤ most_bytes
size_fits q r sound = by_row (row_at q r) (λ i. row_at q r)
  where
    by_row : (o : Option Row) → row_at q r ≡ o → option_map_or (λ (x : Row). x.slip.size) o 0 ≤ most_bytes
    by_row None e = omega arith
    by_row (Some x) e = (all-find (RowFits q.lists q.consumers) (is_row r) q.rows x sound.rows_fit e).size

-- ringing for a row is the act
pub rung : (q : Queue) (h r c : ℕ) (bell : ring.Bell) (new : List ring.Bell) → bell ≡ record { consumer = c; list = list_at q r; place = place_at q r; row = r } → new ≡ alter (is_bell bell.consumer bell.list) (earlier bell) q.bells → record q { bells = new } ≡ acted q h (Bell r c)
rung q h r c bell new e n = ap (λ bells. record q { bells = bells }) (n ∙ ap (λ (x : ring.Bell). alter (is_bell x.consumer x.list) (earlier x) q.bells) e)

pub acted_at : (q now : Queue) (h : ℕ) (a b : Act) → q ≡ now → b ≡ a → acted q h a ≡ acted now h b
acted_at q now h a b same is = ap (λ (p : Queue). acted p h a) same ∙ ap (acted now h) (sym is)
