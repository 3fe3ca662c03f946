use Rattle.std.proofs.Common.{⊎_elim, inl, inr, arith}
use Rattle.journal_format.specs.Journal.{IsJournal}
use Rattle.journal_core.proofs.Sessions.{sessions, linked}
use Rattle.journal_core.proofs.laws.sessions.Goals as goal

pub returns : goal.returns
returns g c t0 d1 d2 d3 C J1 J2 began none one end between two extends later =
    let disk = g.met.D.Disk g.world.𝓛 g.world.𝓜 g.world.𝓡 ((λ s x. x), (λ x. x), (λ x. x), λ x. x) in
    sessions g.D.Disk.moment g.D.Disk.since g.D.Disk.images disk.only_now disk.from_later IsJournal t0 d1 d2 d3 C J1 J2 began none one end between two
    (record {
      later = later;
      adds = λ t x le s. ⊎_elim (λ was. inl (disk.tracing d2 t x was)) (λ now. inr (two.each (g.D.Disk.moment d2) x (omega arith) later (disk.tracing d3 (g.D.Disk.moment d2) x now)))
          (linked t (g.D.Disk.moment d2) (g.D.Disk.trail d2) (g.D.Disk.trail d3) x extends (disk.counted d2) (disk.traced d3 t x s));
    })
