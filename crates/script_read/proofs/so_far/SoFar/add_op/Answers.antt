use Rattle.std.proofs.Common.{◌∙◌, sym, subst}
use Rattle.script_read.specs.declared.so_far.SoFar.{SoFar}
use Rattle.script_read.proofs.Puts.{put_more, no_put_more}
use Rattle.script_read.proofs.Tracked.{Noted, from_ok, on_ok, op_more}
use Rattle.script_read.proofs.so_far.SoFar.add_op.Goals as goal
use Rattle.script_read.proofs.so_far.SoFar.add_op.Goals.{in-Put+else-is_err, in_default}

pub returns : goal.returns
returns c = λ before t.
    let noted : Noted c.match-op.self before c.args.op = elim c.match-op.branch [
      | in-Put+else-is_err w ↦
          let updates = from_ok w.insert.result (sym w.is_err.ensures.value ∙ w.if-is_err.false) w.insert.ensures.updates in
          subst (λ (s : SoFar). Noted s before c.args.op) (sym w.self-is) (record { ended = t.ended; phase = t.phase; puts = put_more c.args.self.now.puts w.insert.new.self before c.args.op w.in-Put.queue w.id.result w.in-Put.message w.in-Put.is w.id.ensures updates.0 t.puts })
      | in_default w ↦ subst (λ (s : SoFar). Noted s before c.args.op) (sym w.self-is) (record { ended = t.ended; phase = t.phase; puts = no_put_more c.args.self.now.puts before c.args.op w.in_default.not-Put t.puts })
    ] in
    on_ok c.file.result c.file.ensures (op_more c.match-op.self c.file.new.self before c.args.op noted)
