-- the account of a phase that was played
use Rattle.std.proofs.Common.{◌≡◌, inl, inr, ℕ, ◌+◌, ◌≤◌, ◌==◌, Bool, true, false, Some, List, length, map, slice_get, sym, ap, ◌∙◌, subst, arith}
use Rattle.std.specs.Option.{option_map}
use Rattle.std.proofs.lemmas.List.{length-map}
use Rattle.std.proofs.lemmas.Option.{slice_get-map, slice_get_cases, slice_get_past, slice_get_within}
use Rattle.queue_model.specs.declared.rows.Row.{Row}
use Rattle.queue_model.specs.History.{after}
use Rattle.queue_model.specs.State.{row_at}
use Rattle.acts_core.specs.Rest.{Rests}
use Rattle.acts_core.specs.Sight.{Sight}
use Rattle.txn_core.specs.declared.parcels.Parcel.{Parcel}
use Rattle.defs_read.specs.Defined.{Defined}
use Rattle.script_read.specs.Allowed.{IsAllowedPhase, ops_in}
use Rattle.script_read.specs.Phases.{Actors}
use Rattle.target_core.specs.Seats.{Seats}
use Rattle.phase_text.specs.declared.logs.Log.{Log}
use Rattle.any_queue.specs.declared.kinds.AnyPass.{AnyPass}
use Rattle.any_queue.specs.declared.kinds.AnyQueue.{AnyQueue}
use Rattle.any_queue.specs.Kinds.{build_in, sight_in}
use Rattle.any_queue.specs.Parting.{IsLast}
use Rattle.account_core.specs.Accounts.{Account, SeatsGo}
use Rattle.account_core.specs.Carry.{handed_on}
use Rattle.account_core.specs.Counting.{puts_among, puts_by, with_ids}
use Rattle.account_core.specs.Laws.{ClosedPlayed}
use Rattle.account_core.specs.Phases.{AllOpen, IsPhase}
use Rattle.account_core.specs.Played.{IsGathered, IsPlayed, Played, rest_of}
use Rattle.account_core.specs.Settling.{FewEntered, OpensCount, PutsOnce, RowsCount, Settles, StatesNamed}
use Rattle.account_core.specs.Stories.{Story}
use Rattle.account_core.specs.Texts.{LogsTell, RestsTell}
use Rattle.phase_queues.specs.Closed.{AreLast, AreOfRows}
use Rattle.phase_queues.specs.Left.{AllMayStay, ids_left, rows_left}
use Rattle.phase_queues.specs.Opened.{all_played, played}
use Rattle.phase_core.specs.Phased.{GainsPuts, IdsOnce, Lefts, PlaysPhase}
use Rattle.phase_core.specs.Playing.{HavePlayed}
use Rattle.phase_core.specs.declared.phases.PhaseEnd.{PhaseEnd}
use Rattle.phase_core.proofs.Entries.{all_puts, many_ids, none_left, rows_ids}
use Rattle.phase_core.proofs.Histories.{is_last}
use Rattle.phase_core.proofs.Places.{same_maps, there}
use Rattle.phase_core.proofs.Queues.{OpensAt, open_later, opens_at, played_at, played_by}

-- A phase whose actors have played, over queues that opened with these entries.
module _ {R : Type 0} (defs : List Defined) (lefts : Lefts) (actors : Actors) (owns : List Seats) (queues : List (AnyQueue Parcel R)) (opened begun lasts : List AnyPass) (left back : Seats) (logs : List Log)
    (as_many : length lasts ≡ length queues)
    (opens : AllOpen defs (rows_left lefts) (all_played queues opened))
    (split : map (λ s. s.opening) (map sight_in begun) ≡ map (λ s. s.opening) (map sight_in opened))
    (made : (q : ℕ) (s : Sight) → slice_get (map sight_in begun) q ≡ Some s → s.made ≡ length actors + 1)
    (once : IdsOnce lefts (ops_in actors))
    (played_it : HavePlayed defs (map build_in queues) actors owns (map sight_in begun) (map sight_in lasts) left back logs)
    (settles : Settles) (counts_rows : RowsCount) (few_entered : FewEntered) (counts_opens : OpensCount) where
  stories : List Story
  stories = played_it.stories

  -- the openings are those of the queues as they were made
  openings : map (λ s. s.opening) (map sight_in lasts) ≡ map (λ s. s.opening) (map sight_in opened)
  openings = same_maps (λ (s : Sight). s.opening) (map sight_in begun) (map sight_in lasts) played_it.joined.as_many (λ q s t at_s at_t. (played_it.joined.each q s t at_s at_t).boss.opening) ∙ split

  pub opens_now : AllOpen defs (rows_left lefts) (all_played queues lasts)
  opens_now = open_later defs (rows_left lefts) queues opened lasts openings opens

  -- what is known of queue q
  module _ (q : ℕ) (queue : AnyQueue Parcel R) (boss : AnyPass) (queue_at : slice_get queues q ≡ Some queue) (boss_at : slice_get lasts q ≡ Some boss) where
    gathered_at : IsGathered q played_it.stories (build_in queue) (sight_in boss).opening (sight_in boss).seen
    gathered_at = played_it.gathered q (build_in queue) (sight_in boss) (slice_get-map build_in queues q ∙ ap (option_map build_in) queue_at) (slice_get-map sight_in lasts q ∙ ap (option_map sight_in) boss_at)

    opened_at : OpensAt defs (rows_left lefts) q (played queue boss)
    opened_at = opens_at defs (rows_left lefts) (all_played queues lasts) q (played queue boss) opens_now (played_at queues lasts q queue boss queue_at boss_at)

    -- how many rows with such ids the queue began with, and were put to it
    began_with : (test : ℕ → Bool) → with_ids test (sight_in boss).opening.rows ≡ ids_left q test lefts
    began_with test = counts_opens opened_at.def opened_at.row (played queue boss) test opened_at.opens ∙ rows_ids lefts q opened_at.row test opened_at.row_at

    put_by : (test : ℕ → Bool) → puts_by q test played_it.stories ≡ puts_among q test (ops_in actors)
    put_by test = ap (λ (zs : Actors). puts_among q test (ops_in zs)) played_it.lines

    puts_once : PutsOnce q played_it.stories (sight_in boss).opening
    puts_once id = let a = began_with (λ i. i == id) in let b = put_by (λ i. i == id) in let c = once q id in omega (arith, a, b, c)

    rests_at : (r : ℕ) (x : Row) → row_at (after (sight_in boss).opening (sight_in boss).seen) r ≡ Some x → Rests x.state
    rests_at r x = settles defs q played_it.stories (build_in queue) (sight_in boss).opening (sight_in boss).seen r x opened_at.opens.fits played_it.fit gathered_at puts_once

    rows_now : (test : ℕ → Bool) → with_ids test (rest_of (played queue boss)).rows ≤ ids_left q test lefts + puts_among q test (ops_in actors)
    rows_now test =
        let a = began_with test in
        let b = put_by test in
        let c = counts_rows defs q played_it.stories (build_in queue) (sight_in boss).opening (sight_in boss).seen test played_it.fit gathered_at in
        let d = few_entered q test played_it.stories in
        omega (arith, a, b, c, d)

    last_at : IsLast (sight_in boss)
    last_at =
        let at_t : slice_get (map sight_in lasts) q ≡ Some (sight_in boss) = slice_get-map sight_in lasts q ∙ ap (option_map sight_in) boss_at in
        let within = slice_get_within (map sight_in lasts) q (sight_in boss) at_t in
        let s = there (map sight_in begun) q (omega (arith, within, played_it.joined.as_many)) in
        let many : length played_it.passes ≡ length actors = played_it.as_many ∙ sym (length-map played_it.stories (λ (z : Story). (z.name, z.ops))) ∙ ap length played_it.lines in
        is_last q (length actors) played_it.passes s.0 (sight_in boss) (played_it.joined.each q s.0 (sight_in boss) s.1 at_t) (made q s.0 s.1) many rests_at

    played_here : ClosedPlayed → IsPlayed q played_it.stories (played queue boss)
    played_here law = law q played_it.stories (build_in queue) (sight_in boss).opening (sight_in boss).seen (record { gathered = gathered_at; rests = rests_at })

  queue_of : (q : ℕ) (boss : AnyPass) → slice_get lasts q ≡ Some boss → (queue : AnyQueue Parcel R) × (slice_get queues q ≡ Some queue)
  queue_of q boss at = let within = slice_get_within lasts q boss at in there queues q (omega (arith, within, as_many))

  -- each boss's pass is the last of its queue
  pub are_last : AreLast lasts
  are_last = record {
    last = λ q boss at. let e = queue_of q boss at in last_at q e.0 boss e.1 at;
    legal = λ q boss at. let e = queue_of q boss at in (gathered_at q e.0 boss e.1 at).legal;
  }

  -- each queue is one of the account
  pub are_played : ClosedPlayed → (q : ℕ) (p : Played) → slice_get (all_played queues lasts) q ≡ Some p → IsPlayed q played_it.stories p
  are_played law q p at =
      let e = played_by queues lasts q p at in
      subst (IsPlayed q played_it.stories) e.is (played_here q e.queue e.boss e.queue_at e.boss_at law)

  -- how many entries are left
  ids_after : (lefts' : Lefts) → length lefts' ≡ length (all_played queues lasts) → AreOfRows (all_played queues lasts) lefts' → (q : ℕ) (test : ℕ → Bool) → ids_left q test lefts' ≤ ids_left q test lefts + puts_among q test (ops_in actors)
  ids_after lefts' long of q test = elim (slice_get_cases (all_played queues lasts) q).1 [
    | inl (p, within, at, read) ↦
        let e = played_by queues lasts q p at in
        let now : with_ids test (rest_of p).rows ≤ ids_left q test lefts + puts_among q test (ops_in actors) = subst (λ (z : Played). with_ids test (rest_of z).rows ≤ ids_left q test lefts + puts_among q test (ops_in actors)) e.is (rows_now q e.queue e.boss e.queue_at e.boss_at test) in
        let few = of.ids q test p at in
        omega (arith, now, few)
    | inr (past, none) ↦
        let gone : ids_left q test lefts' ≡ 0 = none_left q test lefts' (slice_get_past lefts' q (omega (arith, past, long))) in
        omega (arith, gone)
  ]

  gains : (lefts' : Lefts) → length lefts' ≡ length (all_played queues lasts) → AreOfRows (all_played queues lasts) lefts' → GainsPuts lefts (ops_in actors) lefts'
  gains lefts' long of = record {
    ids = ids_after lefts' long of;
    many = λ q.
        let all = ids_after lefts' long of q (λ i. true) in
        let now = many_ids q lefts' in
        let was = many_ids q lefts in
        let puts = all_puts q (ops_in actors) in
        omega (arith, all, now, was, puts);
  }

  -- and all of it
  pub plays_phase : ClosedPlayed → StatesNamed → (seats : Seats) (e : PhaseEnd)
      → e.logs.items ≡ logs
      → IsAllowedPhase defs false actors
      → SeatsGo seats played_it.stories back
      → RestsTell e.rests.items defs (all_played queues lasts)
      → rows_left e.left.items ≡ map handed_on (all_played queues lasts)
      → AllMayStay defs e.left.items
      → AreOfRows (all_played queues lasts) e.left.items
      → PlaysPhase defs lefts actors seats back e
  plays_phase closed named seats e logs_are phase go rests_tell handed stay of =
      let account : Account = record { queues = all_played queues lasts; stories = played_it.stories } in
      let is : IsPhase defs (rows_left lefts) actors account seats back = record {
        lines = played_it.lines;
        opens = opens_now;
        stories = played_it.fit;
        queues = are_played closed;
        targets = go;
      } in
      let tell : LogsTell e.logs.items played_it.stories = subst (λ (zs : List Log). LogsTell zs played_it.stories) (sym logs_are) played_it.tells in
      let words = named defs (rows_left lefts) actors false account seats back e.logs.items e.rests.items phase is tell rests_tell in
      let long : length e.left.items ≡ length (all_played queues lasts) = sym (length-map e.left.items _) ∙ ap length handed ∙ length-map (all_played queues lasts) handed_on in
      record {
        account = account;
        is_phase = is;
        logs = tell;
        rests = rests_tell;
        left = handed;
        stay = stay;
        gains = gains e.left.items long of;
        named_logs = words.0;
        named_rests = words.1;
      }
