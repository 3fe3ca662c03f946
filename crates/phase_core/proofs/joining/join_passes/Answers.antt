use Rattle.std.proofs.Common.{◌≡◌, ◌≢◌, ◌<◌, length, map, slice_get, vec_len, sym, ap, ◌∙◌, subst, ⊎_elim, arith}
use Rattle.std.proofs.lemmas.Bool.{cases_eq}
use Rattle.std.proofs.lemmas.List.{length-map}
use Rattle.std.proofs.lemmas.Option.{same_Some}
use Rattle.acts_core.specs.Sight.{Sight}
use Rattle.any_queue.specs.Kinds.{sight_in}
use Rattle.any_queue.specs.Parting.{IsJoined}
use Rattle.workers_core.proofs.OneJob.{map_at}
use Rattle.phase_core.proofs.Places.{popped_at, rest_at}
use Rattle.phase_core.proofs.joining.join_passes.Goals as goal

pub join_pass-requires-clause-opening : goal.join_pass-requires-clause-opening
join_pass-requires-clause-opening g c κs within = λ s at.
    let number = c.len.result in
    let is : number ≡ length c.pop.new.self.items = omega (arith, c.len.ensures, c.pop.new.self.ok.0) in
    let here = c.passes.invariant.left number c.in-Some.pass (popped_at c.passes.passes.items c.pop.new.self.items c.in-Some.pass number c.in-Some.ensures.items is) in
    let less : number < vec_len c.passes.passes = omega (arith, c.len.ensures, c.in-Some.ensures.len) in
    c.requires.openings number s (sight_in c.in-Some.pass) (sym (c.passes.invariant.kept number less) ∙ at) (map_at sight_in c.args.passes.items number c.in-Some.pass here)

pub join_pass-requires-clause-serves : goal.join_pass-requires-clause-serves
join_pass-requires-clause-serves g c κs within = λ queue at.
    let number = c.len.result in
    let is : number ≡ length c.pop.new.self.items = omega (arith, c.len.ensures, c.pop.new.self.ok.0) in
    c.requires.serves number queue c.in-Some.pass at (c.passes.invariant.left number c.in-Some.pass (popped_at c.passes.passes.items c.pop.new.self.items c.in-Some.pass number c.in-Some.ensures.items is))

pub passes-preserved : goal.passes-preserved
passes-preserved g c =
    let i = c.passes.invariant in
    let number = c.len.result in
    let pass = c.in-Some.pass in
    let is : number ≡ length c.pop.new.self.items = omega (arith, c.len.ensures, c.pop.new.self.ok.0) in
    let here = i.left number pass (popped_at c.passes.passes.items c.pop.new.self.items pass number c.in-Some.ensures.items is) in
    let less : number < vec_len c.passes.passes = omega (arith, c.len.ensures, c.in-Some.ensures.len) in
    record {
      as_many = i.as_many ∙ sym c.join_pass.ensures.as_many;
      many = c.join_pass.ensures.as_many ∙ i.many;
      serve = c.join_pass.ensures.serve;
      fewer = omega (arith, i.fewer, c.in-Some.ensures.len);
      left = λ q one at. i.left q one (rest_at c.passes.passes.items c.pop.new.self.items pass one q c.in-Some.ensures.items at);
      kept = λ q low. c.join_pass.ensures.others q (λ same. omega (arith, low, same, c.len.ensures)) ∙ i.kept q (omega (arith, low, c.in-Some.ensures.len));
      joined = λ q s g t past at_s at_g at_t. ⊎_elim
          (λ (e : q ≡ number).
          let to_s = i.kept number less ∙ ap (slice_get (map sight_in c.args.bosses.now.items)) (sym e) ∙ at_s in
          let to_t = ap (slice_get (map sight_in c.join_pass.new.bosses.items)) (sym e) ∙ at_t in
          let gone = same_Some (sight_in pass) g (sym (map_at sight_in c.args.passes.items number pass here) ∙ ap (slice_get (map sight_in c.args.passes.items)) (sym e) ∙ at_g) in
          subst (λ (z : Sight). IsJoined s z t) gone (c.join_pass.ensures.joined s t to_s to_t))
          (λ (other : q ≢ number). i.joined q s g t (omega (arith, past, other, c.len.ensures, c.in-Some.ensures.len)) at_s at_g (sym (c.join_pass.ensures.others q other) ∙ at_t))
          (cases_eq q number);
    }

pub returns-clause-joined : goal.returns-clause-joined
returns-clause-joined g c =
    let i = c.passes.invariant in
    let none : vec_len c.passes.passes ≡ 0 = c.in_default.ensures.cases.0 in
    record {
      as_many = length-map c.passes.bosses.items sight_in ∙ (omega (arith, i.many, c.passes.bosses.ok.0, c.args.bosses.now.ok.0)) ∙ sym (length-map c.args.bosses.now.items sight_in);
      each = λ q s g t at_s at_g at_t. i.joined q s g t (omega (arith, none)) at_s at_g at_t;
    }
