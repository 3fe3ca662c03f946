use Rattle.std.proofs.Common.{rules, ◌≡◌, ◌+◌, ◌∷◌, Some, [], List, length, refl, sym, ap, ◌∙◌, subst, arith, false}
use Rattle.queue_model.specs.declared.deeds.Deed.{Deed}
use Rattle.history_lock.specs.declared.view.View.{View}
use Rattle.history_lock.specs.Plays.{opened}
use Rattle.held_table.specs.declared.view.Outset.{Outset}
use Rattle.held_table.specs.Views.{view_in, outset_in, rest_of, below}
use Rattle.held_table.specs.Openings.{outset_of, allowance_of}
use Rattle.held_table.proofs.Opening.{begins, sits_first, is_fresh, opens_still, spare_still, tells, long_still, long}
use Rattle.held_table.proofs.table.Held.make.Goals as goal

pub begin-requires-clause-begins : goal.begin-requires-clause-begins
begin-requires-clause-begins g c =
    let n = c.args.consumers in
    let keeps = g.Q.BareCore.keeps in
    let o = c.requires.opening in
    let still = opens_still n g.Q.BareCore.kind_of (keeps c.args.core) (keeps c.bare_depth-entries.new.self) o.0 o.1 c.bare_depth-entries.result c.bare_depth-entries.ensures.serves in
    (outset_of n (keeps c.bare_depth-entries.new.self), refl, begins n (keeps c.bare_depth-entries.new.self) o.0 still keeps c.bare_depth-entries.new.self refl)

pub into_badge-requires : goal.into_badge-requires
into_badge-requires g c = ap (λ m. m.1) (c.begin.ensures.me (outset_of c.args.consumers (g.Q.BareCore.keeps c.bare_depth-entries.new.self)) refl)

pub invariant_of-pass : goal.invariant_of-pass
invariant_of-pass g c =
    let n = c.args.consumers in
    let keeps = g.Q.BareCore.keeps in
    let k = keeps c.bare_depth-entries.new.self in
    let o = c.requires.opening in
    let v : View Outset Deed = opened (outset_of n k) (allowance_of k) k.spare (below n) in
    let is : c.into_badge.result.views ≡ v ∷ [] = c.into_badge.ensures.2 ∙ ap (λ m. m.0 ∷ []) (c.begin.ensures.me (outset_of n k) refl) in
    record {
      known = is ∙ ap (λ (l : List (View Outset Deed)). view_in l ∷ []) (sym is);
      begun = subst (λ (l : List (View Outset Deed)). (view_in l).opening ≡ Some (outset_in (view_in l))) (sym is) refl;
      speaks = subst (λ (l : List (View Outset Deed)). (view_in l).callers ≡ 0 ∷ rest_of (view_in l).callers) (sym is) refl;
      low = omega arith;
      idle = subst (λ (l : List (View Outset Deed)). (view_in l).holding ≡ false) (sym is) refl;
      shares = c.bare_spare-spare.ensures ∙ sym (spare_still n g.Q.BareCore.kind_of (keeps c.args.core) k o.0 o.1 c.bare_depth-entries.result c.bare_depth-entries.ensures.serves) ∙ sym (ap (λ (l : List (View Outset Deed)). (view_in l).share) is);
    }

pub returns-clause-serves : goal.returns-clause-serves
returns-clause-serves g c =
    let n = c.args.consumers in
    let kind = g.Q.BareCore.kind_of in
    let keeps = g.Q.BareCore.keeps in
    let was = keeps c.args.core in
    let k = keeps c.bare_depth-entries.new.self in
    let o = c.requires.opening in
    let s = c.bare_depth-entries.ensures.serves in
    let still = opens_still n kind was k o.0 o.1 c.bare_depth-entries.result s in
    let v : View Outset Deed = opened (outset_of n k) (allowance_of k) k.spare (below n) in
    let is : view_in c.into_badge.result.views ≡ v = ap view_in (c.into_badge.ensures.2 ∙ ap (λ m. m.0 ∷ []) (c.begin.ensures.me (outset_of n k) refl)) in
    let a = c.bare_spare-spare.ensures in
    let b = spare_still n kind was k o.0 o.1 c.bare_depth-entries.result s in
    let d = tells n kind was k o.0 o.1 c.bare_depth-entries.result s in
    let e = long_still n kind was k o.0 o.1 c.bare_depth-entries.result s in
    record {
      table = c.into_badge.ensures.0 ∙ c.begin.ensures.table.0 ∙ search rules;
      rows = ap (λ (z : View Outset Deed). (outset_in z).rows) is ∙ omega (arith, a, b, d, e);
      entries = ap (λ (z : View Outset Deed). length (outset_in z).opening.rows) is ∙ long n k o.0 still ∙ sym e ∙ sym d;
      sits = sits_first n k o.0 still (view_in c.into_badge.result.views) c.requires.consumers is;
    }

pub returns-clause-fresh : goal.returns-clause-fresh
returns-clause-fresh g c =
    let n = c.args.consumers in
    let kind = g.Q.BareCore.kind_of in
    let keeps = g.Q.BareCore.keeps in
    let was = keeps c.args.core in
    let k = keeps c.bare_depth-entries.new.self in
    let o = c.requires.opening in
    let s = c.bare_depth-entries.ensures.serves in
    let still = opens_still n kind was k o.0 o.1 c.bare_depth-entries.result s in
    let v : View Outset Deed = opened (outset_of n k) (allowance_of k) k.spare (below n) in
    let is : view_in c.into_badge.result.views ≡ v = ap view_in (c.into_badge.ensures.2 ∙ ap (λ m. m.0 ∷ []) (c.begin.ensures.me (outset_of n k) refl)) in
    let a = c.bare_spare-spare.ensures in
    let b = spare_still n kind was k o.0 o.1 c.bare_depth-entries.result s in
    let d = tells n kind was k o.0 o.1 c.bare_depth-entries.result s in
    let e = long_still n kind was k o.0 o.1 c.bare_depth-entries.result s in
    is_fresh n k o.0 still kind was (c.bare_spare-spare.result + c.bare_depth-entries.result.entries) (view_in c.into_badge.result.views) o.1 b (omega (arith, a, b, d, e)) is e
