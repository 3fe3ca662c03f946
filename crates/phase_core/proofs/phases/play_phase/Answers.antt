use Rattle.std.proofs.Common.{rules, ◌≡◌, ◌+◌, ◌≤◌, ℕ, false, Some, length, map, slice_get, vec_len, refl, sym, ap, ◌∙◌, arith}
use Rattle.std.specs.Option.{option_map}
use Rattle.std.proofs.lemmas.List.{length-map}
use Rattle.acts_core.specs.Sight.{Sight}
use Rattle.defs_read.specs.Defined.{Defined, queues_in}
use Rattle.script_read.specs.Allowed.{ops_in}
use Rattle.script_read.specs.Phases.{actors_in}
use Rattle.phase_text.specs.declared.logs.Rest.{Rest}
use Rattle.any_queue.specs.Kinds.{build_in, sight_in}
use Rattle.workers_core.specs.Drops.{all_rows}
use Rattle.workers_core.specs.Phases.{lines_of}
use Rattle.phase_queues.specs.Left.{rows_left}
use Rattle.phase_core.proofs.Accounts.{are_last, opens_now, plays_phase}
use Rattle.account_core.proofs.Closing.{closed_played}
use Rattle.account_core.proofs.EntryCounts.{opens_count}
use Rattle.account_core.proofs.Printing.{states_named}
use Rattle.account_core.proofs.Putting.{few_entered, rows_count}
use Rattle.account_core.proofs.Serving.{story_serves}
use Rattle.account_core.proofs.Settled.{settles}
use Rattle.phase_core.proofs.Opening.{are_of_kinds, bosses_many, has_room, may_cast, unused_of}
use Rattle.phase_core.proofs.Places.{on_err}
use Rattle.phase_core.proofs.Rows.{lefts_many, opened_rows}
use Rattle.phase_core.proofs.Seating.{has_for, same_seats, same_target, seats_go}
use Rattle.phase_core.proofs.phases.play_phase.Goals as goal

-- Openings

pub puts_of-requires-clause-queues : goal.puts_of-requires-clause-queues
puts_of-requires-clause-queues g c = c.requires.allowed.few

pub puts_of-requires-clause-few : goal.puts_of-requires-clause-few
puts_of-requires-clause-few g c = λ q. let few = c.requires.few q in omega (arith, few)

pub returns-in_err-puts-clause-kept : goal.returns-in_err-puts-clause-kept
returns-in_err-puts-clause-kept g c = search (rules, on_err, same_seats)

pub returns-in_default-clause-kept : goal.returns-in_default-clause-kept
returns-in_default-clause-kept g c = λ p. same_target _

pub open_queues-requires-clause-allowed : goal.open_queues-requires-clause-allowed
open_queues-requires-clause-allowed g c = c.requires.allowed

pub open_queues-requires-clause-stay : goal.open_queues-requires-clause-stay
open_queues-requires-clause-stay g c = c.requires.stay

pub open_queues-requires-clause-puts : goal.open_queues-requires-clause-puts
open_queues-requires-clause-puts g c = omega (arith, c.deref.ensures.len, c.in_ok-puts.ensures.as_many)

pub open_queues-requires-clause-room : goal.open_queues-requires-clause-room
open_queues-requires-clause-room g c =
    let long : length c.deref.result.now ≡ length (queues_in c.args.defs.now) = omega (arith, c.deref.ensures.len, c.in_ok-puts.ensures.as_many) in
    has_room c.args.left.items (ops_in (actors_in c.args.phase)) c.deref.result.now (length (queues_in c.args.defs.now)) long (rw c.deref.ensures.value c.in_ok-puts.ensures.each) c.requires.few

pub returns-in_err-opened-clause-kept : goal.returns-in_err-opened-clause-kept
returns-in_err-opened-clause-kept g c = search (rules, on_err, same_seats)

-- Actors

pub make_actors-requires-clause-allowed : goal.make_actors-requires-clause-allowed
make_actors-requires-clause-allowed g c κs within = c.requires.allowed

pub make_actors-requires-clause-phase : goal.make_actors-requires-clause-phase
make_actors-requires-clause-phase g c κs within = c.requires.phase

pub make_actors-requires-clause-served : goal.make_actors-requires-clause-served
make_actors-requires-clause-served g c κs within = c.requires.served

pub make_actors-requires-clause-queues : goal.make_actors-requires-clause-queues
make_actors-requires-clause-queues g c κs within = ap length c.deref-2.ensures.value ∙ c.in_ok-opened.ensures.opened.as_many

pub make_actors-requires-clause-bosses : goal.make_actors-requires-clause-bosses
make_actors-requires-clause-bosses g c κs within = omega (arith, c.in_ok-opened.ensures.opened.passes, c.in_ok-opened.opened.bosses.ok.0)

pub make_actors-requires-clause-serve : goal.make_actors-requires-clause-serve
make_actors-requires-clause-serve g c κs within = rw c.deref-2.ensures.value c.in_ok-opened.ensures.opened.serves

pub make_actors-requires-clause-may : goal.make_actors-requires-clause-may
make_actors-requires-clause-may g c κs within =
    may_cast (queues_in c.args.defs.now) c.args.left.items c.deref.result.now c.in_ok-opened.opened.queues.items c.in_ok-opened.opened.bosses.items c.in_ok-opened.ensures.opened
    (rows_left c.args.left.items) (actors_in c.args.phase) c.in_ok-opened.ensures.opens (rw c.deref.ensures.value c.in_ok-puts.ensures.each)

pub rows_of-rows-requires-clause-queues : goal.rows_of-rows-requires-clause-queues
rows_of-rows-requires-clause-queues g c =
    let many = lefts_many (queues_in c.args.defs.now) c.args.left.items c.requires.stay in
    rw c.as_slice.ensures.value (omega (arith, many, c.requires.allowed.few))

pub rows_of-rows-requires-clause-as_many : goal.rows_of-rows-requires-clause-as_many
rows_of-rows-requires-clause-as_many g c =
    let many = lefts_many (queues_in c.args.defs.now) c.args.left.items c.requires.stay in
    let counted : length c.in_ok-puts.puts.items ≡ length c.args.left.items = omega (arith, many, c.in_ok-puts.ensures.as_many, c.in_ok-puts.puts.ok.0) in
    ap length c.as_slice-2.ensures.value ∙ counted ∙ sym (ap length c.as_slice.ensures.value)

pub rows_of-rows-requires-clause-room : goal.rows_of-rows-requires-clause-room
rows_of-rows-requires-clause-room g c =
    let long : length c.in_ok-puts.puts.items ≡ length (queues_in c.args.defs.now) = omega (arith, c.in_ok-puts.ensures.as_many, c.in_ok-puts.puts.ok.0) in
    let room = has_room c.args.left.items (ops_in (actors_in c.args.phase)) c.in_ok-puts.puts.items (length (queues_in c.args.defs.now)) long c.in_ok-puts.ensures.each c.requires.few in
    rw c.as_slice.ensures.value (rw c.as_slice-2.ensures.value room)

pub make_actors-requires-clause-rows : goal.make_actors-requires-clause-rows
make_actors-requires-clause-rows g c κs within =
    let many = lefts_many (queues_in c.args.defs.now) c.args.left.items c.requires.stay in
    let all = rw c.deref.ensures.value at (opened_rows (queues_in c.args.defs.now) c.args.left.items c.deref.result.now c.in_ok-opened.opened.queues.items c.in_ok-opened.opened.bosses.items c.in_ok-opened.ensures.opened many) in
    let counted = rw c.as_slice.ensures.value at (rw c.as_slice-2.ensures.value at c.rows_of-rows.ensures) in
    let few : all_rows (map build_in c.in_ok-opened.opened.queues.items) ≤ c.rows_of-rows.result = omega (arith, all, counted) in
    rw c.deref-2.ensures.value few

pub returns-in_err-actors-clause-kept : goal.returns-in_err-actors-clause-kept
returns-in_err-actors-clause-kept g c = search (rules, on_err, c.in_err-actors.ensures.kept)

pub play_actors-requires-clause-as_many : goal.play_actors-requires-clause-as_many
play_actors-requires-clause-as_many g c κs within =
    let split = bosses_many c.in_ok-opened.opened.bosses.items c.make_actors.new.bosses.items (vec_len c.in_ok-actors.actors + 1) c.in_ok-actors.ensures.bosses in
    ap length c.deref-3.ensures.value ∙ omega (arith, split, c.in_ok-opened.ensures.opened.as_many, c.in_ok-opened.ensures.opened.passes, c.make_actors.new.bosses.ok.0)

pub play_actors-requires-clause-kinds : goal.play_actors-requires-clause-kinds
play_actors-requires-clause-kinds g c κs within =
    rw c.deref-3.ensures.value (are_of_kinds (queues_in c.args.defs.now) c.args.left.items c.deref.result.now c.in_ok-opened.opened.queues.items c.in_ok-opened.opened.bosses.items c.in_ok-opened.ensures.opened
    (rows_left c.args.left.items) c.in_ok-opened.ensures.opens)

pub play_actors-requires-clause-policies : goal.play_actors-requires-clause-policies
play_actors-requires-clause-policies g c κs within = c.requires.policies

pub play_actors-requires-clause-serve : goal.play_actors-requires-clause-serve
play_actors-requires-clause-serve g c κs within = rw c.deref-3.ensures.value (rw c.deref-2.ensures.value at c.in_ok-actors.ensures.serve)

pub play_actors-requires-clause-bosses : goal.play_actors-requires-clause-bosses
play_actors-requires-clause-bosses g c κs within = c.in_ok-actors.ensures.bosses.each

pub play_actors-requires-clause-unused : goal.play_actors-requires-clause-unused
play_actors-requires-clause-unused g c κs within = λ i a at.
    let long : length (map sight_in c.in_ok-opened.opened.bosses.items) ≡ length (queues_in c.args.defs.now) = length-map c.in_ok-opened.opened.bosses.items sight_in ∙ c.in_ok-opened.ensures.opened.passes in
    unused_of (queues_in c.args.defs.now) (map sight_in c.in_ok-opened.opened.bosses.items) (map sight_in c.make_actors.new.bosses.items) _ (vec_len c.in_ok-actors.actors + 1) (i + 1) _ _ (map sight_in a.passes.items) _
    long c.in_ok-actors.ensures.bosses (c.in_ok-actors.ensures.cast i a at).1

pub play_actors-requires-clause-may : goal.play_actors-requires-clause-may
play_actors-requires-clause-may g c κs within = rw c.deref-3.ensures.value (rw c.deref-2.ensures.value at c.in_ok-actors.ensures.may)

pub play_actors-requires-clause-logs : goal.play_actors-requires-clause-logs
play_actors-requires-clause-logs g c κs within =
    let count : length c.in_ok-actors.actors.items ≡ length (actors_in c.args.phase) = sym (length-map c.in_ok-actors.actors.items _) ∙ ap length c.in_ok-actors.ensures.lines in
    let all : length (actors_in c.args.phase) ≡ length c.args.phase.actors.items = length-map c.args.phase.actors.items _ in
    (c.in-Ok.ensures.items, omega (arith, count, all, c.in-Ok.ensures.exact, c.len.ensures, c.in_ok-actors.actors.ok.0, c.args.phase.actors.ok.0))

-- Ends

pub close_queues-requires-clause-bosses : goal.close_queues-requires-clause-bosses
close_queues-requires-clause-bosses g c =
    let defs = queues_in c.args.defs.now in
    let actors = actors_in c.args.phase in
    let queues = c.in_ok-opened.opened.queues.items in
    let opened = c.in_ok-opened.opened.bosses.items in
    let begun = c.make_actors.new.bosses.items in
    let lasts = c.play_actors.new.bosses.items in
    let made = c.in_ok-actors.ensures in
    let ready = c.in_ok-opened.ensures in
    let count : length c.in_ok-actors.actors.items ≡ length actors = sym (length-map c.in_ok-actors.actors.items _) ∙ ap length made.lines in
    let played = rw made.lines at (rw c.deref-3.ensures.value at c.play_actors.ensures.played) in
    let split = bosses_many opened begun (vec_len c.in_ok-actors.actors + 1) made.bosses in
    let many : length lasts ≡ length queues = omega (arith, played.joined.as_many, length-map lasts sight_in, length-map begun sight_in, split, ready.opened.passes, ready.opened.as_many) in
    let numbered : (q : ℕ) (s : Sight) → slice_get (map sight_in begun) q ≡ Some s → s.made ≡ length actors + 1 = λ q s at. (made.bosses.each q s at).made ∙ omega (arith, count, c.in_ok-actors.actors.ok.0) in
    omega (arith, many, c.play_actors.new.bosses.ok.0, c.in_ok-opened.opened.queues.ok.0)

pub close_queues-requires-clause-serves : goal.close_queues-requires-clause-serves
close_queues-requires-clause-serves g c = rw c.deref-3.ensures.value at c.play_actors.ensures.serve

pub close_queues-requires-clause-last : goal.close_queues-requires-clause-last
close_queues-requires-clause-last g c =
    let defs = queues_in c.args.defs.now in
    let actors = actors_in c.args.phase in
    let queues = c.in_ok-opened.opened.queues.items in
    let opened = c.in_ok-opened.opened.bosses.items in
    let begun = c.make_actors.new.bosses.items in
    let lasts = c.play_actors.new.bosses.items in
    let made = c.in_ok-actors.ensures in
    let ready = c.in_ok-opened.ensures in
    let count : length c.in_ok-actors.actors.items ≡ length actors = sym (length-map c.in_ok-actors.actors.items _) ∙ ap length made.lines in
    let played = rw made.lines at (rw c.deref-3.ensures.value at c.play_actors.ensures.played) in
    let split = bosses_many opened begun (vec_len c.in_ok-actors.actors + 1) made.bosses in
    let many : length lasts ≡ length queues = omega (arith, played.joined.as_many, length-map lasts sight_in, length-map begun sight_in, split, ready.opened.passes, ready.opened.as_many) in
    let numbered : (q : ℕ) (s : Sight) → slice_get (map sight_in begun) q ≡ Some s → s.made ≡ length actors + 1 = λ q s at. (made.bosses.each q s at).made ∙ omega (arith, count, c.in_ok-actors.actors.ok.0) in
    are_last defs c.args.left.items actors _ queues opened begun lasts _ _ _ many ready.opens made.bosses.openings numbered c.requires.once played settles rows_count few_entered opens_count

pub close_queues-requires-clause-rests : goal.close_queues-requires-clause-rests
close_queues-requires-clause-rests g c =
    let told : length c.in_ok-opened.opened.rests.items ≡ length (queues_in c.args.defs.now) =
    sym (length-map c.in_ok-opened.opened.rests.items (λ (r : Rest). r.name)) ∙ ap length c.in_ok-opened.ensures.names ∙ length-map (queues_in c.args.defs.now) (λ (d : Defined). d.name) in
    omega (arith, told, c.in_ok-opened.ensures.opened.as_many, c.in_ok-opened.opened.rests.ok.0, c.in_ok-opened.opened.queues.ok.0)

pub close_queues-requires-clause-none : goal.close_queues-requires-clause-none
close_queues-requires-clause-none g c = c.in_ok-opened.ensures.none

pub close_queues-requires-clause-entries : goal.close_queues-requires-clause-entries
close_queues-requires-clause-entries g c = c.in_ok-opened.ensures.room

pub close_queues-requires-clause-left : goal.close_queues-requires-clause-left
close_queues-requires-clause-left g c =
    (c.in_ok-opened.ensures.left.0, omega (arith, c.in_ok-opened.ensures.left.1, c.in_ok-opened.ensures.opened.as_many, c.in_ok-opened.opened.queues.ok.0))

pub returns-clause-plays : goal.returns-clause-plays
returns-clause-plays g c =
    let defs = queues_in c.args.defs.now in
    let actors = actors_in c.args.phase in
    let queues = c.in_ok-opened.opened.queues.items in
    let opened = c.in_ok-opened.opened.bosses.items in
    let begun = c.make_actors.new.bosses.items in
    let lasts = c.play_actors.new.bosses.items in
    let made = c.in_ok-actors.ensures in
    let ready = c.in_ok-opened.ensures in
    let count : length c.in_ok-actors.actors.items ≡ length actors = sym (length-map c.in_ok-actors.actors.items _) ∙ ap length made.lines in
    let played = rw made.lines at (rw c.deref-3.ensures.value at c.play_actors.ensures.played) in
    let split = bosses_many opened begun (vec_len c.in_ok-actors.actors + 1) made.bosses in
    let many : length lasts ≡ length queues = omega (arith, played.joined.as_many, length-map lasts sight_in, length-map begun sight_in, split, ready.opened.passes, ready.opened.as_many) in
    let numbered : (q : ℕ) (s : Sight) → slice_get (map sight_in begun) q ≡ Some s → s.made ≡ length actors + 1 = λ q s at. (made.bosses.each q s at).made ∙ omega (arith, count, c.in_ok-actors.actors.ok.0) in
    let has = has_for c.in_ok-actors.actors.items (λ a. a.name) (λ a. lines_of a.jobs.items) (λ a. map (option_map (λ b. (goal.Target-dyn g (b.vtable, b.value)).seat b.value)) a.roster.slots) _ played.stories
    (played.lines ∙ sym made.lines) played.begun (λ i a at. (made.cast i a at).1.targets) in
    let go = seats_go defs false actors played.stories _ _ _ story_serves c.requires.phase played.lines played.fit has made.roster played.returned in
    plays_phase defs c.args.left.items actors _ queues opened begun lasts _ _ _ many ready.opens made.bosses.openings numbered c.requires.once played settles rows_count few_entered opens_count closed_played states_named _ _ refl c.requires.phase go
    (c.close_queues.ensures.told defs ready.names)
    (c.close_queues.ensures.left defs (rows_left c.args.left.items) (opens_now defs c.args.left.items actors _ queues opened begun lasts _ _ _ many ready.opens made.bosses.openings numbered c.requires.once played settles rows_count few_entered opens_count))
    (c.close_queues.ensures.stay defs (rows_left c.args.left.items) (opens_now defs c.args.left.items actors _ queues opened begun lasts _ _ _ many ready.opens made.bosses.openings numbered c.requires.once played settles rows_count few_entered opens_count))
    c.close_queues.ensures.rows
