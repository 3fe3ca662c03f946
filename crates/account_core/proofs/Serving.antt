-- what the takes of a story handed to a consumer
use Rattle.std.proofs.Common.{◌≡◌, ◌≢◌, ◌⊎◌, inl, inr, ℕ, zero, suc, ◌+◌, ◌==◌, if◌then◌else◌, Option, Some, None, List, [], ◌∷◌, ◌++◌, slice_set, refl, sym, ap, ap₂, ◌∙◌, subst, append-nil, append_assoc, eq-eqb, ne_eqb}
use Rattle.std.specs.List.{AllByRecursion}
use Rattle.std.proofs.lemmas.Bool.{cases_eq}
use Rattle.std.proofs.lemmas.List.{length-append}
use Rattle.defs_read.specs.Defined.{Defined}
use Rattle.script_read.specs.declared.lines.Op.{Op}
use Rattle.script_read.specs.declared.lines.What.{What}
use Rattle.script_read.specs.declared.lines.What.TheVariants.{Put, Take, Close, Ack, Release, Lock, Unlock, Steal}
use Rattle.report_core.specs.declared.answers.Answer.{Answer}
use Rattle.report_core.specs.declared.answers.Answer.TheVariants.{Accepted, Rejected, Blocked, Got, Empty, NoCredit, Closed, Acked, NotHeld, Stolen, Released, Outdated, Unlocked, Locked, Stole, NotStealable, Moved, Absent}
use Rattle.target_core.specs.Seats.{Seat, Seats, seat_at, served}
use Rattle.target_core.specs.declared.deliveries.Delivery.{Delivery}
use Rattle.line_core.specs.Fits.{Did, Standing, Gets, LineFits, LinesFit, begins}
use Rattle.account_core.specs.Served.{Grew, served_by, served_in}
use Rattle.account_core.specs.Stories.{Story, IsStory}

-- Growing

grew_none : (c : ℕ) (o : Option Seat) → Grew c 0 o o
grew_none c None = tt
grew_none c (Some s) = ([], sym (append-nil s.deliveries), refl, tt, refl)

all_append : (c : ℕ) (ds es : List Delivery) → AllByRecursion (λ d. d.consumer ≡ c) ds → AllByRecursion (λ d. d.consumer ≡ c) es → AllByRecursion (λ d. d.consumer ≡ c) (ds ++ es)
all_append c [] es of_ds of_es = of_es
all_append c (d ∷ ds) es of_ds of_es = (of_ds.0, all_append c ds es of_ds.1 of_es)

grew_then : (c n m : ℕ) (a b e : Option Seat) → Grew c n a b → Grew c m b e → Grew c (n + m) a e
grew_then c n m a b None p q = tt
grew_then c n m a None (Some t) p q = absurd q
grew_then c n m None (Some s) (Some t) p q = absurd p
grew_then c n m (Some r) (Some s) (Some t) p q = (
  p.0 ++ q.0,
  q.1 ∙ ap (λ (xs : List Delivery). xs ++ q.0) p.1 ∙ append_assoc r.deliveries p.0 q.0,
  length-append p.0 q.0 ∙ ap₂ (λ (x y : ℕ). x + y) p.2 q.2,
  all_append c p.0 q.0 p.3 q.3,
  q.4 ∙ p.4,
)

same_seats : (c : ℕ) (old new : Seats) → new ≡ old → Grew c 0 (seat_at old c) (seat_at new c)
same_seats c old new same = subst (λ (x : Seats). Grew c 0 (seat_at old c) (seat_at x c)) (sym same) (grew_none c (seat_at old c))

-- Writing a place

set_here : (seats : Seats) (d : ℕ) (x : Seat) (o : Option Seat) → seat_at seats d ≡ Some x → seat_at (slice_set seats d o) d ≡ o
set_here [] d x o there = absurd (cc)
set_here (s ∷ seats) zero x o there = refl
set_here (s ∷ seats) (suc d) x o there = set_here seats d x o there

set_other : (seats : Seats) (d c : ℕ) (o : Option Seat) → d ≢ c → seat_at (slice_set seats d o) c ≡ seat_at seats c
set_other [] d c o other = refl
set_other (s ∷ seats) zero zero o other = absurd (other refl)
set_other (s ∷ seats) zero (suc c) o other = refl
set_other (s ∷ seats) (suc d) zero o other = refl
set_other (s ∷ seats) (suc d) (suc c) o other = set_other seats d c o (λ e. other (ap suc e))

closed_grew : (k : ℕ) (seats : Seats) (d c : ℕ) → Grew k 0 (seat_at seats c) (seat_at (slice_set seats d None) c)
closed_grew k [] d c = grew_none k (seat_at [] c)
closed_grew k (s ∷ seats) zero zero = tt
closed_grew k (s ∷ seats) zero (suc c) = grew_none k (seat_at seats c)
closed_grew k (s ∷ seats) (suc d) zero = grew_none k s
closed_grew k (s ∷ seats) (suc d) (suc c) = closed_grew k seats d c

handed_grew : (seats : Seats) (d c : ℕ) (x : Seat) (del : Delivery) → seat_at seats d ≡ Some x → del.consumer ≡ d → Grew c (if d == c then 1 else 0) (seat_at seats c) (seat_at (slice_set seats d (Some (served x del))) c)
handed_grew seats d c x del there to = by_consumer (cases_eq d c) where
  at_d : Grew d 1 (seat_at seats d) (seat_at (slice_set seats d (Some (served x del))) d)
  at_d = subst (λ (o : Option Seat). Grew d 1 o (seat_at (slice_set seats d (Some (served x del))) d)) (sym there)
      (subst (λ (o : Option Seat). Grew d 1 (Some x) o) (sym (set_here seats d x (Some (served x del)) there)) (del ∷ [], refl, refl, (to, tt), refl))

  here : Grew d (if d == d then 1 else 0) (seat_at seats d) (seat_at (slice_set seats d (Some (served x del))) d)
  here = rw (eq-eqb d d refl) at_d

  by_consumer : (d ≡ c) ⊎ (d ≢ c) → Grew c (if d == c then 1 else 0) (seat_at seats c) (seat_at (slice_set seats d (Some (served x del))) c)
  by_consumer (inl e) = subst (λ (k : ℕ). Grew k (if d == k then 1 else 0) (seat_at seats k) (seat_at (slice_set seats d (Some (served x del))) k)) e here
  by_consumer (inr other) = rw (ne_eqb d c other) (subst (λ (o : Option Seat). Grew c 0 (seat_at seats c) o) (sym (set_other seats d c (Some (served x del)) other)) (grew_none c (seat_at seats c)))

-- Lines

got_grew : (defs : List Defined) (s s' : Standing) (d id n : ℕ) (dids : List Did) → Gets defs s d id n dids s' → (c : ℕ) → Grew c (if d == c then 1 else 0) (seat_at s.seats c) (seat_at s'.seats c)
got_grew defs s s' d id n dids gets c =
    subst (λ (x : Seats). Grew c (if d == c then 1 else 0) (seat_at s.seats c) (seat_at x c)) (sym (ap (λ (z : Standing). z.seats) gets.leaves))
    (handed_grew s.seats d c gets.seat gets.delivery gets.serves.there (ap (λ (z : Delivery). z.consumer) gets.told.told))

stays : (c : ℕ) (s s' t : Standing) → s' ≡ t → t.seats ≡ s.seats → Grew c 0 (seat_at s.seats c) (seat_at s'.seats c)
stays c s s' t is same = same_seats c s.seats s'.seats (ap (λ (z : Standing). z.seats) is ∙ same)

line_serves : (defs : List Defined) (s : Standing) (what : What) (answer : Answer) (dids : List Did) (s' : Standing) → LineFits defs s what answer dids s' → (c : ℕ) → Grew c (served_by c what answer) (seat_at s.seats c) (seat_at s'.seats c)
line_serves defs s (Put q m) (Accepted id flowed acquired) dids s' fits c = stays c s s' _ fits.2.2.leaves refl
line_serves defs s (Put q m) (Rejected depth) dids s' fits c = stays c s s' _ fits.leaves refl
line_serves defs s (Put q m) (Blocked depth) dids s' fits c = stays c s s' _ fits.leaves refl
line_serves defs s (Take d) Closed dids s' fits c = stays c s s' s fits.1.same refl
line_serves defs s (Take d) NoCredit dids s' fits c = stays c s s' s fits.1.same refl
line_serves defs s (Take d) Empty dids s' fits c = stays c s s' s fits.same refl
line_serves defs s (Take d) (Got id n) dids s' fits c = got_grew defs s s' d id n dids fits c
line_serves defs s (Close d) Closed dids s' fits c =
    subst (λ (x : Seats). Grew c 0 (seat_at s.seats c) (seat_at x c)) (sym (ap (λ (z : Standing). z.seats) fits.1)) (closed_grew c s.seats d c)
line_serves defs s (Ack q named) (Acked id) dids s' fits c = stays c s s' _ fits.fact.does.leaves refl
line_serves defs s (Ack q named) (Stolen state) dids s' fits c = stays c s s' _ fits.fact.1.leaves refl
line_serves defs s (Ack q named) NotHeld dids s' fits c = stays c s s' s fits.1.same refl
line_serves defs s (Release q named) (Released id) dids s' fits c = stays c s s' _ fits.fact.does.leaves refl
line_serves defs s (Release q named) (Outdated id) dids s' fits c = stays c s s' _ fits.fact.does.leaves refl
line_serves defs s (Release q named) (Stolen state) dids s' fits c = stays c s s' _ fits.fact.1.leaves refl
line_serves defs s (Release q named) NotHeld dids s' fits c = stays c s s' s fits.1.same refl
line_serves defs s (Lock q named) (Locked id) dids s' fits c = stays c s s' _ fits.fact.does.leaves refl
line_serves defs s (Lock q named) (Stolen state) dids s' fits c = stays c s s' _ fits.fact.1.leaves refl
line_serves defs s (Lock q named) NotHeld dids s' fits c = stays c s s' s fits.1.same refl
line_serves defs s (Unlock q named) (Unlocked id) dids s' fits c = stays c s s' _ fits.fact.does.leaves refl
line_serves defs s (Unlock q named) NotHeld dids s' fits c = stays c s s' s fits.1.same refl
line_serves defs s (Steal q id) (Stole told) dids s' fits c = stays c s s' _ fits.1.does.leaves refl
line_serves defs s (Steal q id) (NotStealable state) dids s' fits c = stays c s s' _ fits.1.leaves refl
line_serves defs s (Steal q id) (Moved state) dids s' fits c = stays c s s' _ fits.1.leaves refl
line_serves defs s (Steal q id) Absent dids s' fits c = stays c s s' _ fits.leaves refl
line_serves defs s what answer dids s' fits c = absurd fits

lines_serve : (defs : List Defined) (s : Standing) (ops : List Op) (answers : List Answer) (dids : List Did) (s' : Standing) → LinesFit defs s ops answers dids s' → (c : ℕ) → Grew c (served_in c ops answers) (seat_at s.seats c) (seat_at s'.seats c)
lines_serve defs s [] [] dids s' fits c = stays c s s' s fits.1 refl
lines_serve defs s [] (a ∷ answers) dids s' fits c = absurd fits
lines_serve defs s (op ∷ ops) [] dids s' fits c = absurd fits
lines_serve defs s (op ∷ ops) (a ∷ answers) dids s' fits c =
    grew_then c (served_by c op.what a) (served_in c ops answers) (seat_at s.seats c) (seat_at fits.1.seats c) (seat_at s'.seats c)
    (line_serves defs s op.what a fits.0 fits.1 fits.3 c)
    (lines_serve defs fits.1 ops answers fits.2 s' fits.4 c)

pub story_serves : (defs : List Defined) (s : Story) → IsStory defs s → (c : ℕ) → Grew c (served_in c s.ops s.answers) (seat_at s.seats c) (seat_at s.end.seats c)
story_serves defs s is c = lines_serve defs (begins defs s.seats) s.ops s.answers s.dids s.end is c
