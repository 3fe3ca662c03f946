use Rattle.std.proofs.Common.{[], ◌∷◌}
use Rattle.entry_table.proofs.Later.{known_later}
use Rattle.scavenge_core.proofs.Lasting.{tried}
use Rattle.scavenge_core.proofs.Visiting.{place_shown}
use Rattle.scavenge_core.proofs.skips.place_of.Goals as goal

pub returns-clause-knows : goal.returns-clause-knows
returns-clause-knows g c =
    let old = c.args.pass.now in let new = c.look.new.pass in
    let k = c.look.ensures in
    let there = known_later old new c.args.row k.kept k.did c.requires.known in record {
      tries = tried old new (_ ∷ []) k.kept k.rights k.did k.shown;
      watched = k.watched;
      place = place_shown _ c.args.row c.look.result there.0 k.shows there.1;
    }
