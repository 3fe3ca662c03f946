-- calls on the depth
use Rattle.std.proofs.Common.{◌≡◌, ℕ, ◌+◌, ◌/◌, ◌%◌, ◌<◌, [], ◌∷◌, ◌++◌, refl, sym, ap, ◌∙◌, subst, append-nil, arith}
use mathlib.Core.List.{mem-cons_self}
use Rattle.queue_model.specs.declared.deeds.Act.TheVariants as acts
use Rattle.queue_model.specs.declared.queues.Depth.{Depth}
use Rattle.queue_model.specs.declared.queues.Queue.{Queue}
use Rattle.queue_model.specs.declared.steps.Step.TheVariants as steps
use Rattle.queue_model.specs.declared.steps.Tried.{Tried}
use Rattle.queue_model.specs.declared.steps.WordName.TheVariants as names
use Rattle.queue_model.specs.History.{after, deed}
use Rattle.queue_model.specs.Packing.{pack_depth, entry_worth}
use Rattle.queue_model.specs.State.{entries, bytes, depth}
use Rattle.queue_model.proofs.Depths.{depth_low}
use Rattle.queue_model.proofs.Prefixes.{prefix_self}
use Rattle.acts_core.specs.Calls.{CallDepth, CallReserve, CallGiveBack, IsDepth, IsDone}
use Rattle.acts_core.specs.Meaning.{Called}
use Rattle.acts_core.proofs.Stepping.{called_by}
use Rattle.entry_table.specs.declared.entries.Entries.{Entries}
use Rattle.entry_table.specs.declared.pass.Pass.{Pass}
use Rattle.entry_table.specs.Passes.{Kept, Did, ShowsDepth, seen, shown, allowance, share, state}
use Rattle.entry_table.specs.Plays.{Shows}
use Rattle.entry_table.specs.Sights.{sight, build_of}
use Rattle.entry_table.specs.Views.{entry}
use Rattle.entry_table.proofs.Sighting.{stepped}

-- the word of the depth, and what it is packed of
depth_word : (q : Queue) (n : ℕ) → Shows (steps.Load names.Depth) n q → (n ≡ pack_depth (entries q) (bytes q)) × (bytes q < entry_worth)
depth_word q n s =
    let low = depth_low q s.1.sound in
    let small = s.1.sound.small in
    (sym s.2 ∙ s.1.depth, omega (arith, low, small))

unpacked : (n e b : ℕ) → n ≡ pack_depth e b → b < entry_worth → (n / entry_worth ≡ e) × (n % entry_worth ≡ b)
unpacked n e b is small = (omega (arith, is, small), omega (arith, is, small))

same_depth : (n : ℕ) (q : Queue) → Shows (steps.Load names.Depth) n q → record { entries = n / entry_worth; bytes = n % entry_worth } ≡ depth q
same_depth n q s =
    let w = depth_word q n s in
    let u = unpacked n (entries q) (bytes q) w.0 w.1 in
    ap (λ (x : ℕ). record { entries = x; bytes = n % entry_worth }) u.0 ∙ ap (λ (y : ℕ). record { entries = entries q; bytes = y }) u.1

pub looks_depth : {C : Type 0} (e : Entries C) (old new : Pass) (n : ℕ) → Kept old new → allowance new ≡ allowance old → share new ≡ share old → Did old new [] → Shows (steps.Load names.Depth) n (state new) → shown new ≡ shown old ++ entry (steps.Load names.Depth) n n (seen new) ∷ []
    → Called (build_of e) (sight old) (sight new) CallDepth (IsDepth (record { entries = n / entry_worth; bytes = n % entry_worth }))
looks_depth {C} e old new n k a s d shows log =
    let q = state new in
    let w = depth_word q n shows in
    let u = unpacked n (entries q) (bytes q) w.0 w.1 in
    let one : Tried = entry (steps.Load names.Depth) n n (seen new) in
    let told : n ≡ pack_depth (n / entry_worth) (n % entry_worth) = omega (arith, w.0, u.0, u.1) in
    called_by (build_of e) (sight old) (sight new) CallDepth (IsDepth (record { entries = n / entry_worth; bytes = n % entry_worth })) (one ∷ []) refl (stepped old new [] (one ∷ []) k d log)
    (record {
      moment = seen new;
      between = record { later = d.prefix; early = prefix_self (seen new) };
      state = subst (λ (o : Queue). record { entries = n / entry_worth; bytes = n % entry_worth } ≡ depth (after o (seen new))) k.opening (same_depth n q shows);
      told = (one, mem-cons_self, refl, told, refl);
    })
    tt a s

pub reserves : {C : Type 0} (e : Entries C) (old new : Pass) (size n : ℕ) (d : Depth) → Kept old new → allowance old ≡ allowance new + 1 → share new ≡ share old → Did old new (acts.Reserve size ∷ []) → ShowsDepth old new (steps.Reserve size) (acts.Reserve size) n d → Called (build_of e) (sight old) (sight new) (CallReserve size) (IsDepth d)
reserves {C} e old new size n d k a s did t =
    let one : Tried = entry (steps.Reserve size) (pack_depth d.entries d.bytes) n (seen new) in
    called_by (build_of e) (sight old) (sight new) (CallReserve size) (IsDepth d) (one ∷ []) refl (stepped old new (acts.Reserve size ∷ []) (one ∷ []) k did t.shown_is)
    (record {
      moment = t.before;
      before = record { later = t.prefix; early = ([], append-nil (t.before ++ deed old.caller (acts.Reserve size) ∷ []) ∙ sym t.seen_is) };
      state = t.depth_is;
    })
    tt (omega (arith, a)) s

pub gives_back : {C : Type 0} (e : Entries C) (old new : Pass) (size n n' : ℕ) → Kept old new → allowance new ≡ allowance old + 1 → share new ≡ share old → Did old new (acts.GiveBack size ∷ []) → shown new ≡ shown old ++ entry (steps.GiveBack size) n n' (seen new) ∷ [] → Called (build_of e) (sight old) (sight new) (CallGiveBack size) IsDone
gives_back {C} e old new size n n' k a s did log =
    let one : Tried = entry (steps.GiveBack size) n n' (seen new) in
    called_by (build_of e) (sight old) (sight new) (CallGiveBack size) IsDone (one ∷ []) refl (stepped old new (acts.GiveBack size ∷ []) (one ∷ []) k did log) tt tt a s
