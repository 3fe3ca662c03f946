use Rattle.std.proofs.Common.{codes, refl, subst, sym}
use Rattle.journal_commands.specs.Disks.{medium}
use Rattle.journal_commands.specs.JournalEnds.{InitEnds}
use Rattle.command_status.specs.declared.status.Status.TheVariants.{Done}
use Rattle.journal_commands.proofs.Journals.{has_none, is_made}
use Rattle.journal_commands.proofs.making.initialize.Goals as goal

pub returns-in-Ok : goal.returns-in-Ok
returns-in-Ok g c =
    let disk = g.D.Disk in
    let seen = medium disk.seen disk.images disk.moment disk.since disk.trail disk.faults disk.syncs in
    let j = c.in-Ok.journal in
    let made = c.in-Ok.ensures in
    subst (λ d. InitEnds c.tell.result (seen c.args.disk) (seen d) (g.K.Sink.written c.args.out.now) (g.K.Sink.written c.tell.new.out) (g.K.Sink.faults c.args.out.now) (g.K.Sink.faults c.tell.new.out))
    (sym c.into_disk.ensures)
    (record {
      status = Done;
      text = codes "created\n";
      comes = (
        refl,
        record { empty = has_none (disk.seen c.args.disk) made.empty; journal = is_made (disk.images j.disk) j.gate j.trust made.clean.0 made.made },
        made.faults,
      );
      goes_on = record { trail = made.trail; later = made.later; no_fewer = made.syncs.0; one_at_most = made.syncs.1 };
      tells = c.tell.ensures;
    })
