use Rattle.std.proofs.Common.{◌≡◌, ◌+◌, suc, [], ◌∷◌, ◌++◌, length, map, reverse, vec_len, sym, ap, ap₂, ◌∙◌, arith}
use Rattle.std.specs.Option.{option_map}
use Rattle.std.proofs.lemmas.List.{length-map, map-append, reverse-reverse}
use Rattle.any_queue.specs.Kinds.{sight_in}
use Rattle.phase_text.specs.declared.logs.Log.{Log}
use Rattle.phase_core.proofs.Passes.{join_next, join_none, openings_so_far}
use Rattle.phase_core.proofs.Places.{at_next, left_one, next_of, shown_one}
use Rattle.phase_core.proofs.Targets.{return_next, return_none}
use Rattle.phase_core.proofs.joining.join_actors.Goals as goal

pub actors-init : goal.actors-init
actors-init g c = record {
  done = 0;
  left = ap reverse c.reverse.ensures.items ∙ reverse-reverse c.args.actors.items;
  as_many = c.requires.as_many;
  serve = c.requires.serve;
  joined = join_none (vec_len c.args.actors + 1) (map sight_in c.args.bosses.now.items) c.requires.bosses;
  targets = return_none _;
  names = ap (map (λ (x : Log). x.name)) c.requires.logs.0;
  logs = ap (map (λ (x : Log). x.lines.items)) c.requires.logs.0;
  drops = ap (map (λ (x : Log). x.drops.items)) c.requires.logs.0;
  room = let none : length c.args.logs.now.items ≡ 0 = ap length c.requires.logs.0 in omega (arith, none, c.args.logs.now.ok.0, c.requires.logs.1, c.reverse.ensures.len);
}

pub join_actor-log-requires-clause-one_each : goal.join_actor-log-requires-clause-one_each
join_actor-log-requires-clause-one_each g c κs within =
    let i = c.actors.invariant in
    let actor = c.in-Some.actor in
    let at = at_next c.args.actors.items (reverse c.pop.new.self.items) i.done actor (next_of c.args.actors.items c.actors.actors.items c.pop.new.self.items i.done actor i.left c.in-Some.ensures.items) in
    let of = c.requires.passes i.done actor at in
    omega (arith, of.as_many, length-map actor.passes.items sight_in, length-map c.args.bosses.now.items sight_in, actor.passes.ok.0, c.args.bosses.now.ok.0, c.requires.as_many)

pub join_actor-log-requires-clause-serves : goal.join_actor-log-requires-clause-serves
join_actor-log-requires-clause-serves g c κs within =
    let i = c.actors.invariant in
    let actor = c.in-Some.actor in
    c.requires.serves i.done actor (at_next c.args.actors.items (reverse c.pop.new.self.items) i.done actor (next_of c.args.actors.items c.actors.actors.items c.pop.new.self.items i.done actor i.left c.in-Some.ensures.items))

pub join_actor-log-requires-clause-openings : goal.join_actor-log-requires-clause-openings
join_actor-log-requires-clause-openings g c κs within =
    let i = c.actors.invariant in
    let actor = c.in-Some.actor in
    let at = at_next c.args.actors.items (reverse c.pop.new.self.items) i.done actor (next_of c.args.actors.items c.actors.actors.items c.pop.new.self.items i.done actor i.left c.in-Some.ensures.items) in
    openings_so_far _ (map sight_in c.args.bosses.now.items) (map sight_in c.actors.bosses.items) (map sight_in actor.passes.items) (i.done + 1) i.joined (c.requires.passes i.done actor at)

pub actors-preserved : goal.actors-preserved
actors-preserved g c =
    let i = c.actors.invariant in
    let actor = c.in-Some.actor in
    let all = c.args.actors.items in
    let rest = reverse c.pop.new.self.items in
    let next = next_of all c.actors.actors.items c.pop.new.self.items i.done actor i.left c.in-Some.ensures.items in
    let it = c.join_actor-log.ensures in
    record {
      done = suc i.done;
      left = left_one all rest i.done actor next;
      as_many = omega (arith, i.as_many, it.joined.as_many, length-map c.join_actor-log.new.bosses.items sight_in, length-map c.actors.bosses.items sight_in, c.join_actor-log.new.bosses.ok.0, c.actors.bosses.ok.0);
      serve = it.serve;
      joined = join_next all rest i.done actor next (λ a. map sight_in a.passes.items) (map sight_in c.args.bosses.now.items) (map sight_in c.actors.bosses.items) (map sight_in c.join_actor-log.new.bosses.items) i.joined
          (c.requires.passes i.done actor (at_next all rest i.done actor next)) it.joined;
      targets = return_next all rest i.done actor next (λ a. map (option_map (λ b. (goal.Target-dyn g (b.vtable, b.value)).seat b.value)) a.roster.slots) _ _ _ i.targets it.targets;
      names =
          ap (map (λ (x : Log). x.name)) c.push_reserved.ensures.items
          ∙ map-append (λ (x : Log). x.name) c.actors.logs.items (c.join_actor-log.result ∷ [])
          ∙ ap₂ (λ xs x. xs ++ x ∷ []) i.names it.log.0
          ∙ sym (shown_one all rest i.done actor next (λ a. a.name));
      logs =
          ap (map (λ (x : Log). x.lines.items)) c.push_reserved.ensures.items
          ∙ map-append (λ (x : Log). x.lines.items) c.actors.logs.items (c.join_actor-log.result ∷ [])
          ∙ ap₂ (λ xs x. xs ++ x ∷ []) i.logs it.log.1
          ∙ sym (shown_one all rest i.done actor next (λ a. a.log.items));
      drops =
          ap (map (λ (x : Log). x.drops.items)) c.push_reserved.ensures.items
          ∙ map-append (λ (x : Log). x.drops.items) c.actors.logs.items (c.join_actor-log.result ∷ [])
          ∙ ap₂ (λ xs x. xs ++ x ∷ []) i.drops it.log.2
          ∙ sym (shown_one all rest i.done actor next (λ a. a.drops.items));
      room = omega (arith, i.room, c.in-Some.ensures.len, c.push_reserved.ensures.len, c.push_reserved.ensures.capacity);
    }
