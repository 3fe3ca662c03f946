-- counts of lines, part by part
use Rattle.std.proofs.Common.{◌≡◌, ℕ, ◌+◌, ◌<◌, ◌≤◌, arith, Bool, true, false, cond, List, [], ◌∷◌, ◌++◌, length, map, refl, sym, ap, ap₂, ◌∙◌, subst, suc, zero, drop, drop-cons, get_or, ◌*◌}
use Rattle.std.specs.List.{flat_map}
use Rattle.std.proofs.lemmas.List.{length-append, length-map}
use Rattle.std.proofs.lemmas.List.Sums.{sum_by-append, sum_by-cons}
use Rattle.script_read.specs.Allowed.{ops_in}
use Rattle.script_read.specs.declared.lines.Op.{Op}
use Rattle.report_core.specs.declared.answers.Answer.{Answer}
use Rattle.phase_text.specs.declared.logs.Log.{Log}
use Rattle.account_core.specs.Accounts.{Account}
use Rattle.account_core.specs.Stories.{Story, told}
use Rattle.account_core.specs.Texts.{LogsTell}
use Rattle.defs_read.specs.Defined.{Defined}
use Rattle.phase_core.specs.Phased.{Lefts}
use Rattle.phase_queues.specs.Left.{AllMayStay, Remains, many_left, row_left, rows_left}
use Rattle.queue_model.specs.Table.{most_entries}
use Rattle.queue_model.specs.declared.rows.Row.{Row}
use Rattle.broker_top.specs.Summary.{HasRoom, answered, answers_in, counted, entries_in, is_acked, is_got, is_ok, nothing_counted, plus}
use Rattle.broker_top.specs.declared.tally.Tally.{Tally}

abbrev Lines : Type 0
Lines = List (ℕ × Answer)

pub same_tally : (s t : Tally) → s.put ≡ t.put → s.got ≡ t.got → s.acked ≡ t.acked → s ≡ t
same_tally s t a b c =
    ap (λ (n : ℕ). record { put = n; got = s.got; acked = s.acked }) a
    ∙ ap (λ (n : ℕ). record { put = t.put; got = n; acked = s.acked }) b
    ∙ ap (λ (n : ℕ). record { put = t.put; got = t.got; acked = n }) c

answered_append : (sort : Answer → Bool) (xs ys : Lines) → answered sort (xs ++ ys) ≡ answered sort xs + answered sort ys
answered_append sort xs ys = sum_by-append (λ (line : ℕ × Answer). cond (sort line.1) 1 0) xs ys

one_or_none : (b : Bool) (n m : ℕ) → n ≤ m → cond b 1 0 + n ≤ m + 1
one_or_none true n m h = omega (arith, h)
one_or_none false n m h = omega (arith, h)

answered_few : (sort : Answer → Bool) (lines : Lines) → answered sort lines ≤ length lines
answered_few sort [] = omega arith
answered_few sort (line ∷ lines) =
    omega (arith, sum_by-cons (λ (l : ℕ × Answer). cond (sort l.1) 1 0) line lines, one_or_none (sort line.1) (answered sort lines) (length lines) (answered_few sort lines))

pub plus_nothing : (t : Tally) → plus nothing_counted t ≡ t
plus_nothing t = same_tally (plus nothing_counted t) t (omega arith) (omega arith) (omega arith)

-- Lines in front of others

pub counted_append : (xs ys : Lines) → counted (xs ++ ys) ≡ plus (counted xs) (counted ys)
counted_append xs ys = same_tally (counted (xs ++ ys)) (plus (counted xs) (counted ys)) (answered_append is_ok xs ys) (answered_append is_got xs ys) (answered_append is_acked xs ys)

plus_assoc : (s t u : Tally) → plus (plus s t) u ≡ plus s (plus t u)
plus_assoc s t u = same_tally (plus (plus s t) u) (plus s (plus t u)) (omega arith) (omega arith) (omega arith)

module _ (t t' : Tally) (front rest : Lines) (is : t' ≡ plus t (counted front)) where
  pub counts_on : plus t' (counted rest) ≡ plus t (counted (front ++ rest))
  counts_on = ap (λ (s : Tally). plus s (counted rest)) is ∙ plus_assoc t (counted front) (counted rest) ∙ sym (ap (plus t) (counted_append front rest))

  pub room_on : (many : ℕ) → HasRoom t (length front + many) → HasRoom t' many
  room_on many room = record {
    put = omega (arith, ap (λ (s : Tally). s.put) is, answered_few is_ok front, room.put);
    got = omega (arith, ap (λ (s : Tally). s.got) is, answered_few is_got front, room.got);
    acked = omega (arith, ap (λ (s : Tally). s.acked) is, answered_few is_acked front, room.acked);
  }

pub less_room : (t : Tally) (few many : ℕ) → few ≤ many → HasRoom t many → HasRoom t few
less_room t few many le room = record { put = omega (arith, le, room.put); got = omega (arith, le, room.got); acked = omega (arith, le, room.acked) }

-- Logs

pub logs_tell : (logs : List Log) (stories : List Story) → LogsTell logs stories → flat_map (λ log. log.lines.items) logs ≡ flat_map (λ s. told s.ops s.answers) stories
logs_tell [] [] tell = refl
logs_tell [] (s ∷ stories) tell = absurd tell
logs_tell (log ∷ logs) [] tell = absurd tell
logs_tell (log ∷ logs) (s ∷ stories) tell = ap₂ (λ (xs ys : Lines). xs ++ ys) tell.1 (logs_tell logs stories tell.3)

told_few : (ops : List Op) (answers : List Answer) → length (told ops answers) ≤ length ops
told_few [] answers = omega arith
told_few (op ∷ ops) [] = omega arith
told_few (op ∷ ops) (a ∷ answers) = omega (arith, told_few ops answers)

all_told_few : (stories : List Story) → length (flat_map (λ (s : Story). told s.ops s.answers) stories) ≤ length (ops_in (map (λ (s : Story). (s.name, s.ops)) stories))
all_told_few [] = omega arith
all_told_few (s ∷ stories) =
    omega (
      arith,
      length-append (told s.ops s.answers) (flat_map (λ (s : Story). told s.ops s.answers) stories),
      length-append s.ops (ops_in (map (λ (s : Story). (s.name, s.ops)) stories)),
      told_few s.ops s.answers,
      all_told_few stories,
    )

-- no more lines were answered than the actors have
pub answers_few : (a : Account) (actors : List (List ℕ × List Op)) → map (λ s. (s.name, s.ops)) a.stories ≡ actors → length (answers_in a) ≤ length (ops_in actors)
answers_few a actors lines = subst (λ (xs : List (List ℕ × List Op)). length (answers_in a) ≤ length (ops_in xs)) lines (all_told_few a.stories)

-- Turns of loops

next : (i : ℕ) → suc i ≡ i + 1
next i = omega arith

cut : {A : Type 0} (xs : List A) (i : ℕ) (x : A) → i < length xs → x ≡ get_or xs i x → drop i xs ≡ x ∷ drop (i + 1) xs
cut {A} xs i x within is = drop-cons xs i x within ∙ ap₂ (λ (y : A) (ys : List A). y ∷ ys) (sym is) (ap (λ (n : ℕ). drop n xs) (next i))

abbrev lines_in : List Log → Lines
lines_in logs = flat_map (λ (log : Log). log.lines.items) logs

module _ (first t t' : Tally) (logs : List Log) (i : ℕ) (log : Log) (within : i < length logs) (here : log ≡ get_or logs i log) (is : t' ≡ plus t (counted log.lines.items)) where
  parts : lines_in (drop i logs) ≡ log.lines.items ++ lines_in (drop (i + 1) logs)
  parts = ap lines_in (cut logs i log within here)

  pub logs_count_on : plus t (counted (lines_in (drop i logs))) ≡ plus first (counted (lines_in logs)) → plus t' (counted (lines_in (drop (i + 1) logs))) ≡ plus first (counted (lines_in logs))
  logs_count_on h =
      counts_on t t' log.lines.items (lines_in (drop (i + 1) logs)) is
      ∙ sym (ap (λ (xs : Lines). plus t (counted xs)) parts) ∙ h

  pub logs_room_on : HasRoom t (length (lines_in (drop i logs))) → HasRoom t' (length (lines_in (drop (i + 1) logs)))
  logs_room_on room =
      room_on t t' log.lines.items [] is (length (lines_in (drop (i + 1) logs)))
      (subst (HasRoom t) (ap (λ (xs : Lines). length xs) parts ∙ length-append log.lines.items (lines_in (drop (i + 1) logs))) room)

many_at : (lefts : Lefts) (i : ℕ) (es : Remains) → i < length lefts → es ≡ get_or lefts i es → many_left i lefts ≡ length es.items
many_at [] i es within is = absurd (omega (arith, within))
many_at (l ∷ lefts) zero es within is = ap (λ (r : Remains). length r.items) (sym is)
many_at (l ∷ lefts) (suc i) es within is = many_at lefts i es (omega (arith, within)) is

module _ (lefts : Lefts) (i sum n : ℕ) (es : Remains) (within : i < length lefts) (here : es ≡ get_or lefts i es) (many : n ≡ length es.items) where
  pub entries_on : sum + entries_in (rows_left (drop i lefts)) ≡ entries_in (rows_left lefts) → sum + n + entries_in (rows_left (drop (i + 1) lefts)) ≡ entries_in (rows_left lefts)
  entries_on h =
      omega (
        arith,
        h,
        many,
        ap (λ (ls : Lefts). entries_in (rows_left ls)) (cut lefts i es within here),
        sum_by-cons (λ (queue : List Row). length queue) (map row_left es.items) (rows_left (drop (i + 1) lefts)),
        length-map es.items row_left,
      )

  pub entries_low : ((q : ℕ) → many_left q lefts ≤ most_entries) → sum ≤ i * most_entries → sum + n ≤ (i + 1) * most_entries
  entries_low few low = omega (arith, many, many_at lefts i es within here, few i, low)

pub as_many_lefts : (defs : List Defined) (lefts : Lefts) → AllMayStay defs lefts → length lefts ≡ length defs
as_many_lefts [] [] stay = refl
as_many_lefts [] (l ∷ lefts) stay = absurd stay
as_many_lefts (d ∷ defs) [] stay = absurd stay
as_many_lefts (d ∷ defs) (l ∷ lefts) stay = omega (arith, as_many_lefts defs lefts stay.1)
