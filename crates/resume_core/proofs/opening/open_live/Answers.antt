use Rattle.std.proofs.Common.{◌≡◌, ◌∷◌, [], ◌++◌, ◌∙◌, ℕ, ◌+◌, List, length, length-append, append_assoc, sym, ap, subst, arith}
use Rattle.std.specs.Prelude.{Vec}
use Rattle.std.specs.declared.alloc.Global.{Global}
use Rattle.std.specs.Vec.Iter.{into_iter_items}
use Rattle.std.proofs.lemmas.List.{length-map}
use Rattle.defs_read.specs.Defined.{defined, queues_in}
use Rattle.recover_core.specs.declared.kept.Kept.{Kept}
use Rattle.resume_core.specs.Keeping.{giving_way, staying}
use Rattle.resume_core.specs.Resumed.{AreResumed, Remains}
use Rattle.resume_core.specs.Steps.{ResumesSoFar}
use Rattle.resume_core.proofs.Filing.{defined_at, gives_slips, so_far_more, turn_here, turn_low}
use Rattle.resume_core.proofs.opening.open_live.Goals as goal

pub resume_queue-requires : goal.resume_queue-requires
resume_queue-requires c =
    let i = c.loop-entries.invariant in
    let is = c.len-at.ensures in
    let ok = c.loop-entries.left.ok in
    let long = i.so_far.as_many in
    let at : c.len-at.result ≡ length c.loop-entries.yielded = omega (arith, is, ok, long) in
    let all = ap (λ (l : List (Vec Kept Global)). c.loop-entries.yielded ++ l) (sym c.in-Some.ensures.steps.0) ∙ i.all ∙ c.into_iter-entries-iterator.ensures.into_iter_gives.0 in
    let low = turn_low (queues_in c.args.defs.now) c.in_ok-lists.lists.items c.loop-entries.yielded (into_iter_items c.next.new.self) c.in-Some.entries c.len-at.result c.in_ok-lists.ensures.as_many all at in
    let defs = length-map c.args.defs.now.queues.items defined in
    let def = defined_at c.args.defs.now.queues.items c.len-at.result c.index.result.now (omega (arith, low, defs)) c.index.ensures in
    gives_slips (queues_in c.args.defs.now) c.len-at.result (defined c.index.result.now) c.requires def

pub loop-entries-preserved : goal.loop-entries-preserved
loop-entries-preserved c =
    let i = c.loop-entries.invariant in
    let is = c.len-at.ensures in
    let ok = c.loop-entries.left.ok in
    let long = i.so_far.as_many in
    let at : c.len-at.result ≡ length c.loop-entries.yielded = omega (arith, is, ok, long) in
    let lists = c.in_ok-lists.lists.items in
    let all = ap (λ (l : List (Vec Kept Global)). c.loop-entries.yielded ++ l) (sym c.in-Some.ensures.steps.0) ∙ i.all ∙ c.into_iter-entries-iterator.ensures.into_iter_gives.0 in
    let low = turn_low (queues_in c.args.defs.now) lists c.loop-entries.yielded (into_iter_items c.next.new.self) c.in-Some.entries c.len-at.result c.in_ok-lists.ensures.as_many all at in
    let defs = length-map c.args.defs.now.queues.items defined in
    let def = defined_at c.args.defs.now.queues.items c.len-at.result c.index.result.now (omega (arith, low, defs)) c.index.ensures in
    let here = turn_here lists c.loop-entries.yielded (into_iter_items c.next.new.self) c.in-Some.entries c.len-at.result all at in
    let dealt = c.in_ok-lists.ensures.each c.len-at.result c.in-Some.entries here in
    let kind = c.index.result.now.kind in
    let stay = subst (λ (ks : List Kept). AreResumed (defined c.index.result.now) (staying kind ks) c.in_ok-stay.stay.items) dealt c.in_ok-stay.ensures.left in
    let gone : c.in_ok-stay.gone.items ≡ giving_way kind _ = c.in_ok-stay.ensures.outdated ∙ ap (giving_way kind) dealt in
    let so_far = subst (λ (n : ℕ). ResumesSoFar n (queues_in c.args.defs.now) c.args.live c.loop-entries.left.items c.loop-entries.outdated.items) (sym at) i.so_far in
    let more = so_far_more c.len-at.result (queues_in c.args.defs.now) c.args.live c.loop-entries.left.items c.loop-entries.outdated.items (defined c.index.result.now) c.in_ok-stay.stay c.in_ok-stay.gone def stay gone so_far in
    let split = length-append c.loop-entries.yielded (c.in-Some.entries ∷ []) in
    let next : c.len-at.result + 1 ≡ length (c.loop-entries.yielded ++ c.in-Some.entries ∷ []) = omega (arith, split, at) in
    record {
      all = append_assoc c.loop-entries.yielded (c.in-Some.entries ∷ []) (into_iter_items c.next.new.self) ∙ ap (λ (l : List (Vec Kept Global)). c.loop-entries.yielded ++ l) (sym c.in-Some.ensures.steps.0) ∙ i.all;
      long = let was = i.long in let gone = c.in-Some.ensures.steps.1 in let short = ap length c.in-Some.ensures.steps.0 in omega (arith, was, gone, short);
      so_far = subst (λ (z : ℕ × Remains × List (Vec Kept Global)). ResumesSoFar z.0 (queues_in c.args.defs.now) c.args.live z.1 z.2)
          (λ j. (next j, sym c.push_reserved.ensures.items j, sym c.push_reserved-in-loop-entries.ensures.items j)) more;
      room = let room = i.room in let same = c.push_reserved.ensures.capacity in omega (arith, room, same);
      also = let room = i.also in let same = c.push_reserved-in-loop-entries.ensures.capacity in omega (arith, room, same);
    }
