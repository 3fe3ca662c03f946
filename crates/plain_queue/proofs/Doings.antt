-- the calls of a one-thread queue, as acts on the state that its rows stand for
use Rattle.std.proofs.Common.{◌≡◌, ℕ, ◌+◌, ◌-◌, ◌<◌, ◌≤◌, Bool, true, false, ◌&&◌, cond, List, [], ◌∷◌, ◌++◌, length, get_or, set, refl, sym, ap, subst, ◌∙◌, arith, Option, Some, None, eq-eqb, find}
use Rattle.std.proofs.lemmas.List.{length-set, get_or-set_same}
use Rattle.std.proofs.lemmas.List.Sums.{sum_by-set, sum_by_push}
use Rattle.std.proofs.lemmas.Bool.{eqb-true}
use Rattle.std.proofs.Math.Seq.{set-set}
use Rattle.std.specs.Option.{option_map, option_map_or, option_to_list, unwrap_or}
use Rattle.queue_model.specs.declared.deeds.Act.{Act}
use Rattle.queue_model.specs.declared.deeds.Act.TheVariants.{Acq, Rel, Deq, Del, Reserve, GiveBack, Enq}
use Rattle.queue_model.specs.declared.queues.Queue.{Queue}
use Rattle.queue_model.specs.declared.queues.Reservation.{Reservation}
use Rattle.queue_model.specs.declared.rows.Row.{Row}
use Rattle.queue_model.specs.declared.rows.RowState.{RowState}
use Rattle.queue_model.specs.declared.rows.RowState.TheVariants.{Available, Locked, Unlocked, Dequeued, Deleted}
use Rattle.queue_model.specs.Keyed.{alter}
use Rattle.queue_model.specs.State.{is_row, is_holder, nothing, size_at, entries, row_entries, row_bytes, counts}
use Rattle.queue_model.specs.Table.{Can, CanGive, acted, in_state, left_in, less, reserving, most_bytes, most_entries}
use Rattle.queue_model.specs.History.{Does, deeds_of}
use Rattle.plain_queue.specs.Calls.{put_acts, take_acts, release_acts, ack_acts, plain_slip, is_available, is_locked_by}
use Rattle.queue_model.specs.Sound.{Sound}
use Rattle.queue_model.proofs.RowFacts.{first_entry}
use Rattle.queue_model.proofs.SoundSteps.{sound_after}
use Rattle.plain_queue.specs.Rows.{one_list, NumberedFrom, Keeps}
use Rattle.plain_queue.proofs.Numbered.{found_by_number, changed_by_number, next_is_new, numbered_set, numbered_push}

-- Acts one after the other

does_none : (q : Queue) (h : ℕ) → Does q h [] q
does_none q h = record { legal = tt; state = refl }

does_first : (q mid new : Queue) (h : ℕ) (a : Act) (acts : List Act) → Can q h a → acted q h a ≡ mid → Does mid h acts new → Does q h (a ∷ acts) new
does_first q mid new h a acts can e rest =
    let from : Does (acted q h a) h acts new = subst (λ (p : Queue). Does p h acts new) (sym e) rest in
    record { legal = (can, from.legal); state = from.state }

-- Reservations of one entry

-- the first entry that is reserved is all that is
first_reserved : (rows : List Row) (h size : ℕ) → reserving (one_list rows) h size ≡ record { lists = 1; consumers = 0; rows = rows; reserved = record { holder = h; entries = 1; bytes = size } ∷ []; bells = [] }
first_reserved rows h size = ap (λ (v : Reservation). record { lists = 1; consumers = 0; rows = rows; reserved = v ∷ []; bells = [] }) (sym (first_entry h size))

-- what a caller has reserved where it alone has reserved, one entry
one_reserved : (h size : ℕ) → unwrap_or (find (is_holder h) (record { holder = h; entries = 1; bytes = size } ∷ [])) (nothing h) ≡ record { holder = h; entries = 1; bytes = size }
one_reserved h size = let v : Reservation = record { holder = h; entries = 1; bytes = size } in ap (λ b. unwrap_or (cond b (Some v) None) (nothing h)) (eq-eqb h h refl)

-- and is given back
none_reserved : (h size : ℕ) → alter (is_holder h) (less size) (record { holder = h; entries = 1; bytes = size } ∷ []) ≡ []
none_reserved h size =
    let v : Reservation = record { holder = h; entries = 1; bytes = size } in
    ap (λ b. cond b (option_to_list (less size (Some v)) ++ []) (v ∷ [])) (eq-eqb h h refl)

gives_one : (v : Reservation) (h size : ℕ) → v ≡ record { holder = h; entries = 1; bytes = size } → CanGive v size
gives_one v h size e = subst (λ (w : Reservation). CanGive w size) (sym e) (record { entry = omega arith; bytes = omega arith; rest = omega arith })

-- Put

-- the row that a put appends
abbrev pub new_row : ℕ → ℕ → List ℕ → Row
new_row n id content = record { number = n; slip = plain_slip id content; state = Available; content = content; origin = []; count = 0 }

pub put_does : (rows : List Row) (id : ℕ) (content : List ℕ) (h : ℕ) → NumberedFrom 0 rows → length content ≤ most_bytes → entries (one_list rows) < most_entries → Does (one_list rows) h (put_acts (one_list rows) id content) (one_list (rows ++ new_row (length rows) id content ∷ []))
put_does rows id content h numbered small room =
    let size = length content in
    let mid : Queue = record { lists = 1; consumers = 0; rows = rows; reserved = record { holder = h; entries = 1; bytes = size } ∷ []; bells = [] } in
    does_first (one_list rows) mid _ h (Reserve size) _ (small, room) (first_reserved rows h size)
    (does_first mid _ _ h (Enq (length rows) (plain_slip id content) content [] 0) [] (record { new = next_is_new 0 (length rows) rows numbered (omega arith); fits = record { size = small; list = omega arith; mask = omega arith }; reserved = gives_one _ h size (one_reserved h size) })
    (ap (λ rs. record { lists = 1; consumers = 0; rows = rows ++ new_row (length rows) id content ∷ []; reserved = rs; bells = [] }) (none_reserved h size))
    (does_none _ h))

-- Take, release, acknowledge: the row x stands at i

module _ (rows : List Row) (i : ℕ) (x : Row) (h : ℕ) (numbered : NumberedFrom 0 rows) (inside : i < length rows) (here : x ≡ get_or rows i x) where
  changed_here : (f : Row → Row) → record (one_list rows) { rows = alter (is_row x.number) (option_map f) rows } ≡ one_list (set rows i (f x))
  changed_here f = ap one_list (changed_by_number f i rows x numbered inside here)

  pub take_does : x.state ≡ Available → Does (one_list rows) h (take_acts x) (one_list (set rows i (in_state (Locked h) x)))
  take_does s =
      does_first (one_list rows) (one_list (set rows i (in_state (Locked h) x))) _ h (Acq x.number) [] (x, found_by_number i rows x numbered inside here, s) (changed_here (in_state (Locked h))) (does_none _ h)

  pub release_does : x.state ≡ Locked h → Does (one_list rows) h (release_acts x) (one_list (set rows i (left_in Available 0 x)))
  release_does s =
      does_first (one_list rows) (one_list (set rows i (left_in Available 0 x))) _ h (Rel x.number 0) [] (x, found_by_number i rows x numbered inside here, s) (changed_here (left_in Available 0)) (does_none _ h)

  pub ack_does : x.state ≡ Locked h → Does (one_list rows) h (ack_acts x) (one_list (set rows i (in_state Deleted x)))
  ack_does s =
      let y : Row = in_state Dequeued x in
      let v : Reservation = record { holder = h; entries = 1; bytes = x.slip.size } in
      let found = found_by_number i rows x numbered inside here in
      let out : List Row = set rows i y in
      let out_numbered : NumberedFrom 0 out = numbered_set 0 i rows x y numbered (ap (λ (z : Row). z.number) here) in
      let out_inside : i < length out = omega (arith, length-set rows i y) in
      let out_here : y ≡ get_or out i y = sym (get_or-set_same rows i y y inside) in
      let held : Queue = record { lists = 1; consumers = 0; rows = out; reserved = v ∷ []; bells = [] } in
      does_first (one_list rows) held _ h (Deq x.number) _ (x, found, s)
      (first_reserved (alter (is_row x.number) (option_map (in_state Dequeued)) rows) h (size_at (one_list rows) x.number)
      ∙ ap (λ (xs : List Row). record { lists = 1; consumers = 0; rows = xs; reserved = record { holder = h; entries = 1; bytes = size_at (one_list rows) x.number } ∷ []; bells = [] }) (changed_by_number (in_state Dequeued) i rows x numbered inside here)
      ∙ ap (λ (o : Option Row). record { lists = 1; consumers = 0; rows = out; reserved = record { holder = h; entries = 1; bytes = option_map_or (λ (z : Row). z.slip.size) o 0 } ∷ []; bells = [] }) found)
      (does_first held (one_list out) _ h (GiveBack x.slip.size) _ (gives_one _ h x.slip.size (one_reserved h x.slip.size))
      (ap (λ rs. record { lists = 1; consumers = 0; rows = out; reserved = rs; bells = [] }) (none_reserved h x.slip.size))
      (does_first (one_list out) (one_list (set rows i (in_state Deleted x))) _ h (Del x.number) [] (y, found_by_number i out y out_numbered out_inside out_here, refl)
      (ap one_list (changed_by_number (in_state Deleted) i out y out_numbered out_inside out_here ∙ set-set rows i y (in_state Deleted x)))
      (does_none _ h)))

-- What the calls keep

sound_does : (q new : Queue) (h : ℕ) (acts : List Act) → Sound q → Does q h acts new → Sound new
sound_does q new h acts s d = subst Sound (sym d.state) (sound_after q (deeds_of h acts) s d.legal)

pub keeps_put : (rows : List Row) (n b id : ℕ) (content : List ℕ) → Keeps rows n b → length content ≤ most_bytes → entries (one_list rows) < most_entries → Keeps (rows ++ new_row (length rows) id content ∷ []) (n + 1) (b + length content)
keeps_put rows n b id content k small room = record {
  sound = sound_does _ _ 0 _ k.sound (put_does rows id content 0 k.numbered small room);
  numbered = numbered_push 0 rows _ k.numbered (omega arith);
  entries_counted = omega (arith, k.entries_counted, sum_by_push row_entries rows (new_row (length rows) id content));
  bytes_counted = omega (arith, k.bytes_counted, sum_by_push row_bytes rows (new_row (length rows) id content));
}

pub keeps_changed : (rows : List Row) (n b i h : ℕ) (x y : Row) (acts : List Act) → Keeps rows n b → i < length rows → x ≡ get_or rows i x → y.number ≡ x.number → row_entries y ≡ row_entries x → row_bytes y ≡ row_bytes x → Does (one_list rows) h acts (one_list (set rows i y)) → Keeps (set rows i y) n b
keeps_changed rows n b i h x y acts k l here same e f d = record {
  sound = sound_does _ _ h acts k.sound d;
  numbered = numbered_set 0 i rows x y k.numbered (same ∙ ap (λ (z : Row). z.number) here);
  entries_counted = omega (arith, k.entries_counted, e, sum_by-set row_entries rows i y x l, ap row_entries here);
  bytes_counted = omega (arith, k.bytes_counted, f, sum_by-set row_bytes rows i y x l, ap row_bytes here);
}

-- a row that counts is within the counters
pub counted_row : (rows : List Row) (n b i : ℕ) (x : Row) → Keeps rows n b → i < length rows → x ≡ get_or rows i x → (row_entries x ≤ n) × (row_bytes x ≤ b)
counted_row rows n b i x k l here =
    let y : Row = in_state Deleted x in
    (omega (arith, k.entries_counted, sum_by-set row_entries rows i y x l, ap row_entries here), omega (arith, k.bytes_counted, sum_by-set row_bytes rows i y x l, ap row_bytes here))

pub keeps_deleted : (rows : List Row) (n b i h : ℕ) (x : Row) → Keeps rows n b → i < length rows → x ≡ get_or rows i x → x.state ≡ Locked h → Keeps (set rows i (in_state Deleted x)) (n - 1) (b - x.slip.size)
keeps_deleted rows n b i h x k l here s =
    let y : Row = in_state Deleted x in
    let one : row_entries x ≡ 1 = ap (λ t. cond (counts t) 1 0) s in
    let size : row_bytes x ≡ x.slip.size = ap (λ t. cond (counts t) x.slip.size 0) s in
    record {
      sound = sound_does _ _ h _ k.sound (ack_does rows i x h k.numbered l here s);
      numbered = numbered_set 0 i rows x y k.numbered (ap (λ (z : Row). z.number) here);
      entries_counted = omega (arith, k.entries_counted, one, sum_by-set row_entries rows i y x l, ap row_entries here);
      bytes_counted = omega (arith, k.bytes_counted, size, sum_by-set row_bytes rows i y x l, ap row_bytes here);
    }

-- What the tests say

pub available_is : (s : RowState) → is_available s ≡ true → s ≡ Available
available_is Available e = refl
available_is (Locked k) e = absurd (cc)
available_is (Unlocked k) e = absurd (cc)
available_is Dequeued e = absurd (cc)
available_is Deleted e = absurd (cc)

pub locked_is : (h : ℕ) (s : RowState) → is_locked_by h s ≡ true → s ≡ Locked h
locked_is h Available e = absurd (cc)
locked_is h (Locked k) e = ap Locked (eqb-true k h e)
locked_is h (Unlocked k) e = absurd (cc)
locked_is h Dequeued e = absurd (cc)
locked_is h Deleted e = absurd (cc)

pub both_first : (a b : Bool) → (a && b) ≡ true → a ≡ true
both_first true b e = refl
both_first false b e = absurd (cc)
