use Rattle.std.proofs.Common.{◌≡◌, ◌+◌, ◌++◌, ◌∷◌, [], ℕ, suc, refl, sym, ap, ◌∙◌, subst, arith}
use Rattle.acts_core.specs.Walks.{IsStop, FollowsTo}
use Rattle.entry_table.specs.Passes.{seen, shown, state}
use Rattle.entry_table.specs.Sights.{sight}
use Rattle.entry_table.specs.Skips.{link_word}
use Rattle.entry_table.specs.Views.{entry}
use Rattle.entry_table.proofs.Later.{pass_of}
use Rattle.scavenge_core.proofs.Lasting.{row_on, place_on, deleted_on, stop_on}
use Rattle.scavenge_core.proofs.Stepping.{hop, hopped, past, stop_past, gone_past, next_row, end_row, follow_later, row_later, moved_past, moved_up, stop_moved, may_still, row_low}
use Rattle.scavenge_core.proofs.skips.go_on.Goals as goal

pub overflow_add-row : goal.overflow_add-row
overflow_add-row g c =
    let e = c.args.entries.now in
    let low = (row_low e c.args.pass.now c.args.list c.args.row c.requires.table c.requires.may.to).0 in
    let rows = e.rows in record { fits = omega (arith, low, rows) }

pub follow-requires-clause-stop : goal.follow-requires-clause-stop
follow-requires-clause-stop g c =
    let next : suc c.args.row ≡ c.args.row + 1 = omega arith in
    subst (λ (i : ℕ). IsStop (state c.args.pass.now) c.args.list i) next c.requires.may.to

pub returns-in-Some-clause-goes : goal.returns-in-Some-clause-goes
returns-in-Some-clause-goes g c =
    let now = c.args.pass.now in let new = c.follow.new.pass in
    let l = c.args.list in let w = c.args.stop in let r = c.args.row in
    let f = c.follow.ensures in
    let next : r + 1 ≡ suc r = omega arith in
    let follows = subst (λ (i : ℕ). FollowsTo (sight now) (sight new) l i c.follow.result) next f.follows in
    let log = subst (λ (i : ℕ). shown new ≡ shown now ++ entry (hop l i) (link_word c.follow.result) (link_word c.follow.result) (seen new) ∷ []) next f.shown in
    λ old begins x. next_row old now new l w c.args.first r (link_word c.follow.result) c.follow.result begins c.requires.may.stop x c.requires.gone f.kept f.did f.watched log follows c.in-Some.next c.in-Some.is

pub returns-then-first-row-clause-goes : goal.returns-then-first-row-clause-goes
returns-then-first-row-clause-goes g c =
    let now = c.args.pass.now in let new = c.follow.new.pass in
    let l = c.args.list in let w = c.args.stop in let r = c.args.row in
    let f = c.follow.ensures in
    let next : r + 1 ≡ suc r = omega arith in
    let follows = subst (λ (i : ℕ). FollowsTo (sight now) (sight new) l i c.follow.result) next f.follows in
    let log = subst (λ (i : ℕ). shown new ≡ shown now ++ entry (hop l i) (link_word c.follow.result) (link_word c.follow.result) (seen new) ∷ []) next f.shown in
    λ old begins x. end_row old now new l w c.args.first r (link_word c.follow.result) c.follow.result begins c.requires.may.stop x c.requires.gone f.kept f.did f.watched log follows c.in_default.is (ap link_word c.in_default.is) c.if-first-row.true

pub move_on-named-requires-clause-may : goal.move_on-named-requires-clause-may
move_on-named-requires-clause-may g c =
    let now = c.args.pass.now in let new = c.follow.new.pass in
    let l = c.args.list in let w = c.args.stop in let r = c.args.row in
    let f = c.follow.ensures in
    let next : r + 1 ≡ suc r = omega arith in
    let follows = subst (λ (i : ℕ). FollowsTo (sight now) (sight new) l i c.follow.result) next f.follows in
    let log = subst (λ (i : ℕ). shown new ≡ shown now ++ entry (hop l i) (link_word c.follow.result) (link_word c.follow.result) (seen new) ∷ []) next f.shown in
    may_still now new l w c.args.first r _ (hopped now new l (suc r) (link_word c.follow.result) c.follow.result f.kept f.did log follows) f.watched c.requires.may

pub returns-then-named-row-clause-goes : goal.returns-then-named-row-clause-goes
returns-then-named-row-clause-goes g c =
    let now = c.args.pass.now in let new = c.follow.new.pass in
    let l = c.args.list in let w = c.args.stop in let r = c.args.row in
    let f = c.follow.ensures in
    let next : r + 1 ≡ suc r = omega arith in
    let follows = subst (λ (i : ℕ). FollowsTo (sight now) (sight new) l i c.follow.result) next f.follows in
    let log = subst (λ (i : ℕ). shown new ≡ shown now ++ entry (hop l i) (link_word c.follow.result) (link_word c.follow.result) (seen new) ∷ []) next f.shown in
    let mid = c.move_on-named.new.pass in let m = c.move_on-named.ensures.moved in
    λ old begins x. moved_past old new mid l w c.args.first r c.move_on-named.result 1 2 (stop_past old now new l w c.args.first r (link_word c.follow.result) c.follow.result begins c.requires.may.stop x c.requires.gone f.kept f.did f.watched log follows) (past old now new l w c.args.first r (link_word c.follow.result) c.follow.result begins c.requires.may.stop x c.requires.gone f.kept f.did f.watched log follows) m c.if-named-row.true (omega arith) (omega arith)

pub overflow_add-row-2 : goal.overflow_add-row-2
overflow_add-row-2 g c =
    let e = c.args.entries.now in
    let low = (row_low e c.args.pass.now c.args.list c.args.row c.requires.table c.requires.may.to).0 in
    let rows = e.rows in record { fits = omega (arith, low, rows) }

pub follow-requires-2-clause-stop : goal.follow-requires-2-clause-stop
follow-requires-2-clause-stop g c =
    let now = c.args.pass.now in let new = c.follow.new.pass in
    let l = c.args.list in let w = c.args.stop in let r = c.args.row in
    let f = c.follow.ensures in
    let next : r + 1 ≡ suc r = omega arith in
    let follows = subst (λ (i : ℕ). FollowsTo (sight now) (sight new) l i c.follow.result) next f.follows in
    let log = subst (λ (i : ℕ). shown new ≡ shown now ++ entry (hop l i) (link_word c.follow.result) (link_word c.follow.result) (seen new) ∷ []) next f.shown in
    let mid = c.move_on-named.new.pass in let m = c.move_on-named.ensures.moved in
    let there = row_on now new _ (hopped now new l (suc r) (link_word c.follow.result) c.follow.result f.kept f.did log follows) l r c.requires.may.to in
    subst (λ (i : ℕ). IsStop (state mid) l i) (let z : suc r ≡ r + 1 = omega arith in z) (row_on new mid m.added m.tries l r there)

pub returns-in-Some-follow-clause-goes : goal.returns-in-Some-follow-clause-goes
returns-in-Some-follow-clause-goes g c =
    let now = c.args.pass.now in let new = c.follow.new.pass in
    let l = c.args.list in let w = c.args.stop in let r = c.args.row in
    let f = c.follow.ensures in
    let next : r + 1 ≡ suc r = omega arith in
    let follows = subst (λ (i : ℕ). FollowsTo (sight now) (sight new) l i c.follow.result) next f.follows in
    let log = subst (λ (i : ℕ). shown new ≡ shown now ++ entry (hop l i) (link_word c.follow.result) (link_word c.follow.result) (seen new) ∷ []) next f.shown in
    let mid = c.move_on-named.new.pass in let m = c.move_on-named.ensures.moved in
    let last = c.follow-2.new.pass in
    let f2 = c.follow-2.ensures in
    let follows2 = subst (λ (i : ℕ). FollowsTo (sight mid) (sight last) l i c.follow-2.result) next f2.follows in
    let log2 = subst (λ (i : ℕ). shown last ≡ shown mid ++ entry (hop l i) (link_word c.follow-2.result) (link_word c.follow-2.result) (seen last) ∷ []) next f2.shown in
    λ old begins x. next_row old mid last l w r r (link_word c.follow-2.result) c.follow-2.result begins (stop_on new mid m.added m.tries l w (stop_past old now new l w c.args.first r (link_word c.follow.result) c.follow.result begins c.requires.may.stop x c.requires.gone f.kept f.did f.watched log follows)) (moved_up old new mid l w c.args.first r c.move_on-named.result (stop_past old now new l w c.args.first r (link_word c.follow.result) c.follow.result begins c.requires.may.stop x c.requires.gone f.kept f.did f.watched log follows) (past old now new l w c.args.first r (link_word c.follow.result) c.follow.result begins c.requires.may.stop x c.requires.gone f.kept f.did f.watched log follows) m c.if-first-row.false c.if-named-row.false) (deleted_on new mid m.added m.tries r (gone_past old now new l w c.args.first r (link_word c.follow.result) c.follow.result begins c.requires.may.stop x c.requires.gone f.kept f.did f.watched log follows)) f2.kept f2.did f2.watched log2 follows2 c.in-Some-follow.next c.in-Some-follow.is

pub returns-in-None-clause-goes : goal.returns-in-None-clause-goes
returns-in-None-clause-goes g c =
    let now = c.args.pass.now in let new = c.follow.new.pass in
    let l = c.args.list in let w = c.args.stop in let r = c.args.row in
    let f = c.follow.ensures in
    let next : r + 1 ≡ suc r = omega arith in
    let follows = subst (λ (i : ℕ). FollowsTo (sight now) (sight new) l i c.follow.result) next f.follows in
    let log = subst (λ (i : ℕ). shown new ≡ shown now ++ entry (hop l i) (link_word c.follow.result) (link_word c.follow.result) (seen new) ∷ []) next f.shown in
    let mid = c.move_on-named.new.pass in let m = c.move_on-named.ensures.moved in
    let last = c.follow-2.new.pass in
    let f2 = c.follow-2.ensures in
    let follows2 = subst (λ (i : ℕ). FollowsTo (sight mid) (sight last) l i c.follow-2.result) next f2.follows in
    let log2 = subst (λ (i : ℕ). shown last ≡ shown mid ++ entry (hop l i) (link_word c.follow-2.result) (link_word c.follow-2.result) (seen last) ∷ []) next f2.shown in
    λ old begins x. end_row old mid last l w r r (link_word c.follow-2.result) c.follow-2.result begins (stop_on new mid m.added m.tries l w (stop_past old now new l w c.args.first r (link_word c.follow.result) c.follow.result begins c.requires.may.stop x c.requires.gone f.kept f.did f.watched log follows)) (moved_up old new mid l w c.args.first r c.move_on-named.result (stop_past old now new l w c.args.first r (link_word c.follow.result) c.follow.result begins c.requires.may.stop x c.requires.gone f.kept f.did f.watched log follows) (past old now new l w c.args.first r (link_word c.follow.result) c.follow.result begins c.requires.may.stop x c.requires.gone f.kept f.did f.watched log follows) m c.if-first-row.false c.if-named-row.false) (deleted_on new mid m.added m.tries r (gone_past old now new l w c.args.first r (link_word c.follow.result) c.follow.result begins c.requires.may.stop x c.requires.gone f.kept f.did f.watched log follows)) f2.kept f2.did f2.watched log2 follows2 c.in-None.is (ap link_word c.in-None.is) refl

pub returns-in-Some-clause-later : goal.returns-in-Some-clause-later
returns-in-Some-clause-later g c =
    let now = c.args.pass.now in let new = c.follow.new.pass in
    let l = c.args.list in let w = c.args.stop in let r = c.args.row in
    let f = c.follow.ensures in
    let next : r + 1 ≡ suc r = omega arith in
    let follows = subst (λ (i : ℕ). FollowsTo (sight now) (sight new) l i c.follow.result) next f.follows in
    let log = subst (λ (i : ℕ). shown new ≡ shown now ++ entry (hop l i) (link_word c.follow.result) (link_word c.follow.result) (seen new) ∷ []) next f.shown in
    let p1 = place_on now new _ (hopped now new l (suc r) (link_word c.follow.result) c.follow.result f.kept f.did log follows) r c.requires.may.to.0 c.requires.may.to.1 in
    let less = follow_later now new l r c.in-Some.next (link_word c.follow.result) c.follow.result f.kept f.did log follows c.in-Some.is in omega (arith, less, p1)

pub returns-then-named-row-clause-later : goal.returns-then-named-row-clause-later
returns-then-named-row-clause-later g c =
    let now = c.args.pass.now in let new = c.follow.new.pass in
    let l = c.args.list in let w = c.args.stop in let r = c.args.row in
    let f = c.follow.ensures in
    let next : r + 1 ≡ suc r = omega arith in
    let follows = subst (λ (i : ℕ). FollowsTo (sight now) (sight new) l i c.follow.result) next f.follows in
    let log = subst (λ (i : ℕ). shown new ≡ shown now ++ entry (hop l i) (link_word c.follow.result) (link_word c.follow.result) (seen new) ∷ []) next f.shown in
    let mid = c.move_on-named.new.pass in let m = c.move_on-named.ensures.moved in
    let there = row_on now new _ (hopped now new l (suc r) (link_word c.follow.result) c.follow.result f.kept f.did log follows) l r c.requires.may.to in
    let p1 = place_on now new _ (hopped now new l (suc r) (link_word c.follow.result) c.follow.result f.kept f.did log follows) r c.requires.may.to.0 c.requires.may.to.1 in
    let p2 = place_on new mid m.added m.tries r there.0 there.1 in
    let less = row_later mid l r c.move_on-named.result (row_on new mid m.added m.tries l r there) m.there m.onward c.if-named-row.true in omega (arith, less, p1, p2)

pub returns-in-Some-follow-clause-later : goal.returns-in-Some-follow-clause-later
returns-in-Some-follow-clause-later g c =
    let now = c.args.pass.now in let new = c.follow.new.pass in
    let l = c.args.list in let w = c.args.stop in let r = c.args.row in
    let f = c.follow.ensures in
    let next : r + 1 ≡ suc r = omega arith in
    let follows = subst (λ (i : ℕ). FollowsTo (sight now) (sight new) l i c.follow.result) next f.follows in
    let log = subst (λ (i : ℕ). shown new ≡ shown now ++ entry (hop l i) (link_word c.follow.result) (link_word c.follow.result) (seen new) ∷ []) next f.shown in
    let mid = c.move_on-named.new.pass in let m = c.move_on-named.ensures.moved in
    let last = c.follow-2.new.pass in
    let f2 = c.follow-2.ensures in
    let follows2 = subst (λ (i : ℕ). FollowsTo (sight mid) (sight last) l i c.follow-2.result) next f2.follows in
    let log2 = subst (λ (i : ℕ). shown last ≡ shown mid ++ entry (hop l i) (link_word c.follow-2.result) (link_word c.follow-2.result) (seen last) ∷ []) next f2.shown in
    let there = row_on now new _ (hopped now new l (suc r) (link_word c.follow.result) c.follow.result f.kept f.did log follows) l r c.requires.may.to in
    let late = row_on new mid m.added m.tries l r there in
    let p1 = place_on now new _ (hopped now new l (suc r) (link_word c.follow.result) c.follow.result f.kept f.did log follows) r c.requires.may.to.0 c.requires.may.to.1 in
    let p2 = place_on new mid m.added m.tries r there.0 there.1 in
    let p3 = place_on mid last _ (hopped mid last l (suc r) (link_word c.follow-2.result) c.follow-2.result f2.kept f2.did log2 follows2) r late.0 late.1 in
    let less = follow_later mid last l r c.in-Some-follow.next (link_word c.follow-2.result) c.follow-2.result f2.kept f2.did log2 follows2 c.in-Some-follow.is in omega (arith, less, p1, p2, p3)
