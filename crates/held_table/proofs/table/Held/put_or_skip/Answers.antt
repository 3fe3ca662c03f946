use Rattle.std.proofs.Common.{◌+◌, ℕ, sym, ◌∙◌, subst}
use Rattle.acts_core.specs.Calls.{CallPut, IsSpent}
use Rattle.acts_core.specs.Meaning.{Called}
use Rattle.held_table.specs.Sights.{build_by, sight, sight_by, view}
use Rattle.held_table.proofs.Calling.{called_spent}
use Rattle.held_table.proofs.table.Held.put_or_skip.Goals as goal

pub returns-then-pass-eq0-clause-called : goal.returns-then-pass-eq0-clause-called
returns-then-pass-eq0-clause-called g c =
    let kind = g.Q.BareCore.kind_of in
    let load = g.C.Freight.goods c.args.cargo in
    let old = c.args.pass.now in
    let new = c.skip.new.pass in
    subst (λ (n : ℕ). Called (build_by kind c.args.self.now) (sight old) (sight_by n (view new)) (CallPut c.args.slip load) (IsSpent load)) (sym c.skip.ensures.caller)
    (called_spent g.Q.BareCore.keeps kind g.met.Q.BareCore.is_held (c.args.self.now.spare + c.args.self.now.entries) old.caller (view old) (view new) old.speaks c.requires.serves.sits c.skip.ensures.passed c.args.slip load (sym old.shares ∙ c.if-pass-eq0.true))
