-- a walk of one list acquires the row that it has come to
use Rattle.std.proofs.Common.{◌≡◌, ℕ, Option, Some, [], ◌∷◌, ◌++◌, sym, ap, ◌∙◌, subst, append-nil}
use Rattle.queue_model.specs.declared.deeds.Act.TheVariants.{Acq}
use Rattle.queue_model.specs.declared.queues.Queue.{Queue}
use Rattle.queue_model.specs.declared.rows.Row.{Row}
use Rattle.queue_model.specs.declared.rows.RowState.TheVariants.{Available}
use Rattle.queue_model.specs.History.{after, deed}
use Rattle.queue_model.specs.State.{row_at}
use Rattle.queue_model.proofs.Prefixes.{prefix_trans}
use Rattle.acts_core.specs.Lists.{Gets}
use Rattle.acts_core.specs.Load.{Load}
use Rattle.acts_core.specs.Sight.{Sight}
use Rattle.acts_core.specs.Walks.{Ask, Ready, Facing, Faces}
use Rattle.acts_core.proofs.Coming.{facing, opening_of, caller_of}
use Rattle.acts_core.proofs.Walking.{walk_got, list_later}
use Rattle.cursor_core.specs.Takes.{Acquires, GotReady}

gets_row : (old now new : Sight) (ask : Ask) (l r : ℕ) (load : Load) (Fits : Row → Type 0) (k : Facing old now ask l r) (a : Acquires now new r load) → Fits a.hands.row → Gets old.opening old.caller old.seen new.seen r l load Fits
gets_row old now new ask l r load Fits k a fits =
    let o = old.opening in
    let opening = opening_of old now ask l r k in
    let caller = caller_of old now ask l r k in
    let whole : a.moment ++ deed old.caller (Acq r) ∷ [] ≡ new.seen = subst (λ (h : ℕ). a.moment ++ deed h (Acq r) ∷ [] ≡ new.seen) caller a.whole in
    let found : row_at (after o a.moment) r ≡ Some a.hands.row = subst (λ (p : Queue). row_at (after p a.moment) r ≡ Some a.hands.row) opening a.hands.found in
    let t = list_later o now.seen a.moment l r a.later k.there in
    let both : Some t.0 ≡ Some a.hands.row = sym t.1 ∙ found in
    let same : t.0 ≡ a.hands.row = cc in
    record {
      moment = a.moment;
      before = record { later = prefix_trans old.seen now.seen a.moment k.walking.steps.grows a.later; early = ([], append-nil (a.moment ++ deed old.caller (Acq r) ∷ []) ∙ whole) };
      hands = record { row = a.hands.row; found = found; same = a.hands.same };
      list = ap (λ (x : Row). x.slip.list) (sym same) ∙ t.2;
      fits = fits;
    }

pub got_ready : (old now new : Sight) (l r : ℕ) (load : Load) (next : Option ℕ) → Faces old now Ready l next → next ≡ Some r → Acquires now new r load → GotReady old new l r load
got_ready old now new l r load next f is a =
    let k = facing old now Ready l r next f is in
    record {
      reached = walk_got old now new Ready l r (Acq r ∷ []) a.added k a.steps a.rights a.heads;
      gets = gets_row old now new Ready l r load (λ x. x.state ≡ Available) k a a.ready;
    }
