use Rattle.std.proofs.Common.{◌<◌, arith}
use Rattle.kept_rows.proofs.Handing.{acquired_hand, hand_stays}
use Rattle.sorted_core.proofs.tests.take.Goals as goal

pub returns-in-Got-clause-held : goal.returns-in-Got-clause-held
returns-in-Got-clause-held g c =
    let s = c.in-Got.ensures.serves.1 in
    let q = c.requires.stands in
    let can : 0 < 64 = omega arith in
    (_, s.stands q.0 q.1 can, acquired_hand q.0 c.args.caller c.in-Got.row _ (s.means q.0 q.1 can).hands)

pub returns-in-Got-clause-others : goal.returns-in-Got-clause-others
returns-in-Got-clause-others g c = λ h r load apart may.
    let s = c.in-Got.ensures.serves.1 in
    let can : 0 < 64 = omega arith in
    (_, s.stands may.0 may.1 can, hand_stays _ _ _ c.args.caller _ _ may.0 h r load s may.1 can apart may.2)
