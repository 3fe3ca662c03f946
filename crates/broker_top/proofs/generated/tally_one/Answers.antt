use Rattle.broker_top.proofs.Tallying.{answers_few, less_room, logs_tell}
use Rattle.broker_top.proofs.generated.tally_one.Goals as goal

pub add_logs-requires : goal.add_logs-requires
add_logs-requires g c =
    let plays = c.in_ok-end.ensures.plays in
    let told = logs_tell c.in_ok-end.end.logs.items plays.account.stories plays.logs in
    let room = less_room c.args.tally.now _ _ (answers_few plays.account _ plays.is_phase.lines) c.requires.room in
    rw (c.deref.ensures.value, told) room

pub returns : goal.returns
returns g c =
    let plays = c.in_ok-end.ensures.plays in
    let told = logs_tell c.in_ok-end.end.logs.items plays.account.stories plays.logs in
    let counts = rw (c.deref.ensures.value, told) at c.add_logs.ensures in
    (plays.account, record { is_phase = plays.is_phase; left = plays.left; stay = plays.stay; gains = plays.gains }, counts)
