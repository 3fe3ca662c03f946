use Rattle.std.proofs.Common.{◌≡◌, ◌+◌, ◌≤◌, ◌∷◌, ◌∙◌, List, [], Some, refl, sym, ap, subst, arith, false}
use Rattle.std.specs.Prelude.{IfSome}
use Rattle.journal_format.specs.Journal.{IsJournal}
use Rattle.journal_format.specs.declared.events.Event.{Event}
use Rattle.history_lock.specs.declared.view.View.{View}
use Rattle.history_lock.specs.Plays.{opened}
use Rattle.commit_table.specs.declared.begun.Begun.{Begun}
use Rattle.commit_table.specs.Passes.{view_in, begun_in, rest_of, begun_of}
use Rattle.commit_table.proofs.Beginning.{journal_told}
use Rattle.commit_table.proofs.Parting.{begins_desk}
use Rattle.commit_table.proofs.table.CommitTable.make.Goals as goal

pub begin-requires-clause-begins : goal.begin-requires-clause-begins
begin-requires-clause-begins g c κs within =
    let D = g.D.Disk in
    let disk = g.met.D.Disk g.world.𝓛 g.world.𝓜 g.world.𝓡 ((λ s x. x), (λ x. x), (λ x. x), λ x. x) in
    let j = c.args.journal in
    let s = c.is_clean-clean.ensures.stands in
    let room : c.args.bytes_each + 13 ≤ c.in-Ok.scratch.room = (let a = c.in-Some.ensures in let b = c.in-Ok.ensures.room in omega (arith, a, b)) in (
      begun_of D.seen D.moment D.trail D.faults D.syncs j c.args.callers c.args.tickets c.args.bytes_each,
      refl,
      begins_desk D.seen D.images D.moment D.since D.trail D.faults D.syncs disk.only_now disk.from_later (record { journal = j; scratch = c.in-Ok.scratch; count = 0 }) s.0 s.1 c.args.callers c.args.tickets c.args.bytes_each c.requires.clean s.2 (disk.reads j.disk) (disk.tells j.disk) refl room c.requires.tickets,
    )

pub into_badge-requires : goal.into_badge-requires
into_badge-requires g c =
    let D = g.D.Disk in
    let b = begun_of D.seen D.moment D.trail D.faults D.syncs c.args.journal c.args.callers c.args.tickets c.args.bytes_each in
    ap (λ m. m.1) (c.begin.ensures.me b refl)

pub invariant_of-pass : goal.invariant_of-pass
invariant_of-pass g c =
    let D = g.D.Disk in
    let b = begun_of D.seen D.moment D.trail D.faults D.syncs c.args.journal c.args.callers c.args.tickets c.args.bytes_each in
    let v : View Begun Event = opened b 0 c.args.tickets [] in
    let is : c.into_badge.result.views ≡ v ∷ [] = c.into_badge.ensures.2 ∙ ap (λ m. m.0 ∷ []) (c.begin.ensures.me b refl) in
    let callers = c.ranges.callers.fits in
    record {
      known = is ∙ ap (λ (l : List (View Begun Event)). view_in l ∷ []) (sym is);
      begins = subst (λ (l : List (View Begun Event)). (view_in l).opening ≡ Some (begun_in (view_in l))) (sym is) refl;
      speaks = subst (λ (l : List (View Begun Event)). (view_in l).callers ≡ 0 ∷ rest_of (view_in l).callers) (sym is) refl;
      idle = subst (λ (l : List (View Begun Event)). (view_in l).holding ≡ false) (sym is) refl;
      shares = subst (λ (l : List (View Begun Event)). c.args.tickets ≡ (view_in l).share) (sym is) refl;
      within = subst (λ (l : List (View Begun Event)). c.args.tickets ≤ (begun_in (view_in l)).tickets) (sym is) (omega arith);
      few = subst (λ (l : List (View Begun Event)). ((begun_in (view_in l)).callers ≤ 4294967295) × ((begun_in (view_in l)).tickets ≤ 4294967295)) (sym is) (omega (arith, callers), c.requires.tickets);
    }

pub returns-clause-commits : goal.returns-clause-commits
returns-clause-commits g c =
    let D = g.D.Disk in
    let disk = g.met.D.Disk g.world.𝓛 g.world.𝓜 g.world.𝓡 ((λ s x. x), (λ x. x), (λ x. x), λ x. x) in
    let j = c.args.journal in
    let s = c.is_clean-clean.ensures.stands in
    let b = begun_of D.seen D.moment D.trail D.faults D.syncs j c.args.callers c.args.tickets c.args.bytes_each in
    let v : View Begun Event = opened b 0 c.args.tickets [] in
    let is : c.into_badge.result.views ≡ v ∷ [] = c.into_badge.ensures.2 ∙ ap (λ m. m.0 ∷ []) (c.begin.ensures.me b refl) in
    subst (λ (l : List (View Begun Event)). IfSome (D.seen j.disk) (λ x. IsJournal x (begun_in (view_in l)).commits)) (sym is)
    (journal_told (D.seen j.disk) (D.images j.disk) j.gate j.trust s.0 s.1 (disk.reads j.disk) c.requires.clean s.2)
