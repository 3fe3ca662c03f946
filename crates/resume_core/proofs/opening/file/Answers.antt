use Rattle.std.proofs.Common.{◌≡◌, ◌∷◌, ℕ, List, Option, false, ap, subst, sym, ◌∙◌}
use Rattle.acts_core.specs.declared.cargoes.RestEntry.{RestEntry}
use Rattle.txn_core.specs.declared.parcels.Parcel.{Parcel}
use Rattle.defs_read.specs.Defined.{defined}
use Rattle.defs_read.specs.Slips.{key_of}
use Rattle.resume_core.specs.Keeping.{gives_way}
use Rattle.resume_core.specs.Steps.{Files}
use Rattle.resume_core.proofs.Filing.{files_stay}
use Rattle.resume_core.proofs.opening.file.Goals as goal
use Rattle.resume_core.proofs.opening.file.Goals.{in-Ok-push, in-Err-push}

pub returns : goal.returns
returns c = λ ks files.
    let def = defined c.args.def.now in
    let slip = c.in_ok-slip.slip in
    let key : slip.key ≡ key_of def.kind c.args.entry.message = c.in_ok-slip.ensures.slip.key in
    let stays : gives_way def.kind (key_of def.kind c.args.entry.message) ks ≡ false =
    ap (λ (k : Option (List ℕ)). gives_way def.kind k ks) (sym key) ∙ sym (c.in_ok-meet_key.ensures.gives_way ks files.met) ∙ c.if-branch.false in
    elim c.match-push-3.branch [
      | in-Ok-push w ↦ rw w.result-is (
          subst (λ (es : List (RestEntry Parcel)). Files def (c.args.entry ∷ ks) es c.args.outdated.now.items c.meet_key.new.texts) (sym w.in-Ok-push.ensures.items)
          (files_stay def ks c.args.entry c.available.result c.args.left.now.items c.args.outdated.now.items c.args.texts.now c.meet_key.new.texts stays
          (c.available.ensures def c.in_ok-slip.ensures.slip c.in_ok-slip.ensures.fits c.in_ok-slip.ensures.key)
          (c.in_ok-meet_key.ensures.met ks c.args.entry (sym key) files.met) files))
      | in-Err-push w ↦ rw w.result-is tt
    ]
