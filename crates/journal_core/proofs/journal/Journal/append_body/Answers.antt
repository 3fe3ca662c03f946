use Rattle.std.proofs.Common.{◌≡◌, ◌+◌, ◌++◌, ◌∙◌, sym, ap, subst}
use Rattle.std.specs.Prelude.{IfSome}
use Rattle.std.specs.List.{flat_map}
use Rattle.journal_format.specs.Spelling.{txn_bytes}
use Rattle.disk_core.specs.Images.{Over}
use Rattle.journal_core.specs.declared.journal.Trust.TheVariants.{Clean}
use Rattle.journal_core.specs.Stands.{Stands, IsEither, Gives}
use Rattle.journal_core.proofs.journal.Journal.append_body.Goals as goal

pub returns-in-Ok-clause-moments : goal.returns-in-Ok-clause-moments
returns-in-Ok-clause-moments g c C A B s is =
    let now = c.args.self.now in
    let clean = subst (λ t. Stands (g.D.Disk.images now.disk) now.gate t C A) c.requires.clean s in
    subst (λ v. Stands (g.D.Disk.images v.disk) v.gate Clean C A → Over g.D.Disk.moment g.D.Disk.since v.disk c.write_behind.new.disk (IsEither C B)) c.self.view_is
    (λ q. c.in-Ok.ensures.moments C A B q is) clean

pub returns-in-Err-clause-moments : goal.returns-in-Err-clause-moments
returns-in-Err-clause-moments g c C A B s is =
    let now = c.args.self.now in
    let clean = subst (λ t. Stands (g.D.Disk.images now.disk) now.gate t C A) c.requires.clean s in
    subst (λ v. Stands (g.D.Disk.images v.disk) v.gate Clean C A → Over g.D.Disk.moment g.D.Disk.since v.disk c.write_behind.new.disk (IsEither C B)) c.self.view_is
    (λ q. c.in-Err.ensures.moments C A B q is) clean

-- the journal that is left stands for some commits
pub invariant_of-self : goal.invariant_of-self
invariant_of-self g c =
    let inv = c.self.invariant in
    let b = c.requires.batch in
    let clean : c.self.inside.trust ≡ Clean = ap (λ v. v.trust) c.self.view_is ∙ c.requires.clean in
    let s = subst (λ t. Stands (g.D.Disk.images c.self.inside.disk) c.self.inside.gate t inv.0 inv.1) clean inv.2 in
    (inv.0 ++ b.0, b.0, subst (λ t. Stands (g.D.Disk.images c.write_behind.new.disk) c.in-Ok.next t (inv.0 ++ b.0) b.0) (sym clean) (c.in-Ok.ensures.ok inv.0 inv.1 b.0 s b.1))

pub invariant_of-self-in-Err : goal.invariant_of-self-in-Err
invariant_of-self-in-Err g c =
    let inv = c.self.invariant in
    let b = c.requires.batch in
    let clean : c.self.inside.trust ≡ Clean = ap (λ v. v.trust) c.self.view_is ∙ c.requires.clean in
    let s = subst (λ t. Stands (g.D.Disk.images c.self.inside.disk) c.self.inside.gate t inv.0 inv.1) clean inv.2 in
    (inv.0, b.0, c.in-Err.ensures.err inv.0 inv.1 b.0 s b.1)

pub returns-in-Ok-clause-gives : goal.returns-in-Ok-clause-gives
returns-in-Ok-clause-gives g c B is =
    let inv = c.self.invariant in
    let clean : c.self.inside.trust ≡ Clean = ap (λ v. v.trust) c.self.view_is ∙ c.requires.clean in
    let s = subst (λ t. Stands (g.D.Disk.images c.self.inside.disk) c.self.inside.gate t inv.0 inv.1) clean inv.2 in
    subst (λ v. IfSome (g.D.Disk.seen c.write_behind.new.disk) (Gives (v.gate + 13) (flat_map txn_bytes B))) c.self.view_is (c.in-Ok.ensures.gives inv.0 inv.1 B s is)
