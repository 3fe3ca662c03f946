use Rattle.std.proofs.Common.{sym, ap, ◌∙◌, ℕ, subst, []}
use Rattle.acts_core.specs.Asked.{Enters}
use Rattle.entry_table.specs.Passes.{state}
use Rattle.entry_calls.specs.Appends.{Described}
use Rattle.entry_calls.proofs.Running.{enters_later, ran_then, stop_ran}
use Rattle.entry_calls.proofs.Putting.{appended_after, turn_smaller, turn_past, turn_tries}
use Rattle.entry_calls.proofs.appends.link_behind.Goals as goal

pub turn-requires-clause-enters : goal.turn-requires-clause-enters
turn-requires-clause-enters g c =
    let i = c.turns.invariant in
    subst (λ (z : g.row.C.Denot). Enters (state c.turns.pass) c.turns.pass.caller c.args.slip.now (g.C.Freight.goods z)) (sym i.same_cargo)
    (enters_later c.args.pass.now c.turns.pass c.args.slip.now (g.C.Freight.goods c.args.draft.cargo) i.ran c.requires.enters)

pub returns-in-Linked-clause-appended : goal.returns-in-Linked-clause-appended
returns-in-Linked-clause-appended g c =
    let i = c.turns.invariant in
    appended_after c.args.pass.now c.turns.pass c.turn.new.pass c.args.draft.row c.turns.draft.row c.args.tail c.turns.stop c.args.slip.now (g.C.Freight.goods c.args.draft.cargo) (g.C.Freight.goods c.turns.draft.cargo) i.ran i.same_row (ap g.C.Freight.goods i.same_cargo) i.began i.stands i.past i.tried c.in-Linked.ensures.turned

pub turns-smaller : goal.turns-smaller
turns-smaller g c = let i = c.turns.invariant in turn_smaller c.args.pass.now c.turns.pass c.turn.new.pass c.turns.draft c.in-Behind.back c.args.tail c.turns.stop c.in-Behind.next c.args.slip.now i.ran i.stands c.in-Behind.ensures.turned

pub turns-preserved : goal.turns-preserved
turns-preserved g c =
    let i = c.turns.invariant in
    let b = c.in-Behind.ensures.turned in record {
      serves = c.turn.ensures.serves;
      ran = ran_then c.args.pass.now c.turns.pass c.turn.new.pass [] i.ran b.ran;
      same_row = b.same_row ∙ i.same_row;
      same_cargo = b.same_cargo ∙ i.same_cargo;
      described = subst (λ (k : ℕ). Described c.turn.new.pass k c.args.slip.now) (sym b.same_row) b.described;
      stands = b.stands;
      began = (stop_ran c.turns.pass c.turn.new.pass c.args.slip.now.list c.args.tail b.ran.keeps.kept.opening b.ran.did.prefix i.began).0;
      past = turn_past c.args.pass.now c.turns.pass c.turn.new.pass c.turns.draft c.in-Behind.back c.args.tail c.turns.stop c.in-Behind.next c.args.slip.now i.ran i.stands b i.began i.past;
      tried = turn_tries c.args.pass.now c.turns.pass c.turn.new.pass c.turns.draft c.in-Behind.back c.args.tail c.turns.stop c.in-Behind.next c.args.slip.now i.ran i.stands b i.began i.tried;
    }
