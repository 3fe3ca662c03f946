use Rattle.std.proofs.Common.{subst, sym}
use Rattle.journal_commands.specs.Disks.{medium}
use Rattle.journal_commands.specs.JournalEnds.{RecoverEnds}
use Rattle.journal_commands.specs.Recovered.{recovered_text}
use Rattle.command_status.specs.declared.status.Status.TheVariants.{Done}
use Rattle.journal_commands.proofs.Journals.{is_told}
use Rattle.journal_commands.proofs.recovering.tell_journal.Goals as goal

pub returns-in-Ok : goal.returns-in-Ok
returns-in-Ok g c =
    let disk = g.D.Disk in
    let seen = medium disk.seen disk.images disk.moment disk.since disk.trail disk.faults disk.syncs in
    let found = c.in-Ok.recovered in
    let made = c.in-Ok.ensures in
    let with = made.opened in
    subst (λ d. RecoverEnds c.tell_recovered.result (seen c.args.disk) (seen d) (g.K.Sink.written c.args.out.now) (g.K.Sink.written c.tell_recovered.new.out) (g.K.Sink.faults c.args.out.now) (g.K.Sink.faults c.tell_recovered.new.out))
    (sym c.into_disk.ensures)
    (record {
      status = Done;
      text = recovered_text found.commits found.entries;
      comes = (
        record {
          bytes = with.bytes;
          read = with.told;
          txns = with.recovered.txns;
          journal = with.recovered.journal;
          told = is_told with.bytes found.commits found.entries with.recovered;
        },
        made.faults,
      );
      looked = record {
        goes_on = record { trail = made.trail; later = made.moments.later; no_fewer = made.syncs.0; one_at_most = made.syncs.1 };
        spared = record { still = made.still; none = made.images };
        adds = made.moments.adds;
      };
      tells = c.tell_recovered.ensures;
    })
