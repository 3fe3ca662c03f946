use Rattle.std.proofs.Common.{◌≡◌, ◌<◌, ◌≤◌, ℕ, Some, refl, sym, ap, ◌∙◌, subst, arith}
use Rattle.std.proofs.lemmas.Bool.Decides.{nat_tests}
use Rattle.acts_core.specs.Load.{Load}
use Rattle.target_core.specs.Seats.{HasRoomWithin}
use Rattle.txn_core.specs.Parcels.{load_of}
use Rattle.txn_core.specs.Shown.{Shown, load, number_after}
use Rattle.line_core.specs.Fits.{delivered}
use Rattle.line_core.specs.Hands.{Hand, gained, hand}
use Rattle.workers_core.specs.Held.{hands_of}
use Rattle.workers_core.specs.Hold.{KeepsOthers}
use Rattle.line_core.specs.Places.{IsReady}
use Rattle.workers_core.proofs.Holds.{others_gained}
use Rattle.workers_core.proofs.Seated.{entry_of, full, got, missed, no_credit, not_full, some_seat, told_of}
use Rattle.workers_core.proofs.TakeLines.{missed_hold, took_hold}
use Rattle.workers_core.proofs.takes.take_line.Goals as goal

pub hand_over-requires-clause-room : goal.hand_over-requires-clause-room
hand_over-requires-clause-room g c =
    let x = some_seat _ c.in-Some.field-0 c.in-Some.ensures.room in
    let some : 0 < x.0.room = grind (arith, nat_tests, x.2, c.in-Some.field-0-test, c.in-Some.field-0-is) in
    (x.0, x.1, some)

pub returns-in-Some-eq0-clause-did : goal.returns-in-Some-eq0-clause-did
returns-in-Some-eq0-clause-did g c = λ defs stopped drops place.
    let x = some_seat _ c.in-Some-eq0.field-0 c.in-Some-eq0.ensures.room in
    let none : x.0.room ≡ 0 = grind (arith, nat_tests, x.2, c.in-Some-eq0.field-0-test, c.in-Some-eq0.field-0-is) in
    no_credit (g.Q.SharedQueue.build c.args.queue.now) (g.Q.SharedQueue.sight c.args.pass.now) c.args.number c.args.place c.args.consumer _ _ stopped drops x.0 x.1 (full x.0 (subst (IsReady 1) x.1 c.requires.ready) none) defs

pub returns-in-Empty-clause-hold : goal.returns-in-Empty-clause-hold
returns-in-Empty-clause-hold g c =
    missed_hold (g.Q.SharedQueue.build c.args.queue.now) (g.Q.SharedQueue.sight c.args.pass.now) (g.Q.SharedQueue.sight c.next.new.pass) c.args.number c.args.place (hands_of c.args.held.now.items) c.in-Empty.ensures.called.1 c.requires.hold

pub returns-in-Empty-clause-did : goal.returns-in-Empty-clause-did
returns-in-Empty-clause-did g c = λ defs stopped drops place.
    let x = some_seat _ c.in-Some.field-0 c.in-Some.ensures.room in
    let some : 0 < x.0.room = grind (arith, nat_tests, x.2, c.in-Some.field-0-test, c.in-Some.field-0-is) in
    missed (g.Q.SharedQueue.build c.args.queue.now) (g.Q.SharedQueue.sight c.args.pass.now) c.args.number c.args.place c.args.consumer _ _ stopped drops (g.Q.SharedQueue.sight c.next.new.pass) x.0 x.1 (not_full x.0 (subst HasRoomWithin x.1 c.room.ensures.within) some) c.in-Empty.ensures.called.1 defs place

pub returns-in-Got-clause-hold : goal.returns-in-Got-clause-hold
returns-in-Got-clause-hold g c =
    let old = load_of c.in-Got.cargo in
    let raised : load_of c.raise.new.self ≡ delivered (number_after old.count) old = ap (λ (s : Shown). load s) c.raise.ensures.raised in
    let id : c.id-id.result ≡ old.id = c.id-id.ensures ∙ ap (λ (l : Load). l.id) raised in
    let number : c.count-count.result ≡ number_after old.count = c.count-count.ensures ∙ ap (λ (l : Load). l.count) raised in
    let after = c.gain.ensures.gained ∙ ap (λ (k : Hand). gained k (hands_of c.args.held.now.items)) (entry_of c.args.number c.in-Got.row c.id-id.result c.count-count.result old (load_of c.raise.new.self) id raised number) in
    took_hold (g.Q.SharedQueue.build c.args.queue.now) (g.Q.SharedQueue.sight c.args.pass.now) (g.Q.SharedQueue.sight c.next.new.pass) c.args.number c.args.place c.in-Got.row c.in-Got.ensures.called.0 c.count-count.result old (hands_of c.args.held.now.items) (hands_of c.gain.new.held.items) c.in-Got.ensures.called.1
    (subst (λ (n : ℕ). old.count ≤ n) (sym c.count-count.ensures) c.raise.ensures.up) after c.requires.hold

pub returns-in-Got-clause-others : goal.returns-in-Got-clause-others
returns-in-Got-clause-others g c =
    subst (KeepsOthers c.args.number (hands_of c.args.held.now.items)) (sym c.gain.ensures.gained) (others_gained c.args.number (hand c.args.number c.in-Got.row c.id-id.result (Some (load_of c.raise.new.self))) (hands_of c.args.held.now.items) refl)

pub returns-in-Got-clause-did : goal.returns-in-Got-clause-did
returns-in-Got-clause-did g c = λ defs stopped drops place.
    let old = load_of c.in-Got.cargo in
    let raised : load_of c.raise.new.self ≡ delivered (number_after old.count) old = ap (λ (s : Shown). load s) c.raise.ensures.raised in
    let id : c.id-id.result ≡ old.id = c.id-id.ensures ∙ ap (λ (l : Load). l.id) raised in
    let number : c.count-count.result ≡ number_after old.count = c.count-count.ensures ∙ ap (λ (l : Load). l.count) raised in
    let after = c.gain.ensures.gained ∙ ap (λ (k : Hand). gained k (hands_of c.args.held.now.items)) (entry_of c.args.number c.in-Got.row c.id-id.result c.count-count.result old (load_of c.raise.new.self) id raised number) in
    let x = some_seat _ c.in-Some.field-0 c.in-Some.ensures.room in
    let some : 0 < x.0.room = grind (arith, nat_tests, x.2, c.in-Some.field-0-test, c.in-Some.field-0-is) in
    let handed = c.hand_over.ensures.handed x.0 x.1 in
    got (g.Q.SharedQueue.build c.args.queue.now) (g.Q.SharedQueue.sight c.args.pass.now) c.args.number c.args.place c.args.consumer _ _ stopped drops (g.Q.SharedQueue.sight c.next.new.pass) x.0 c.in-Got.row c.in-Got.ensures.called.0 c.id-id.result c.count-count.result old handed.0 (hands_of c.gain.new.held.items) _
    x.1 (not_full x.0 (subst HasRoomWithin x.1 c.room.ensures.within) some) c.in-Got.ensures.called.1 id number
    (told_of c.args.consumer c.args.number c.count-count.result (number_after old.count) old (load_of c.raise.new.self) handed.0 raised c.count-count.ensures handed.1) after handed.2 defs place
