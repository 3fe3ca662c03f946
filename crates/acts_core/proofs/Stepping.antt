-- steps of a pass, one after the other, and the call that they are
use Rattle.std.proofs.Common.{◌≡◌, ◌≢◌, ℕ, Bool, None, List, [], ◌∷◌, ◌++◌, find, filter, refl, sym, ap, ap₂, ◌∙◌, subst, append_assoc, append-nil}
use Rattle.std.proofs.lemmas.List.Elements.{filter-append}
use mathlib.Core.List.{IsPrefix, Mem}
use Rattle.queue_model.specs.declared.deeds.Act.{Act}
use Rattle.queue_model.specs.declared.deeds.Deed.{Deed}
use Rattle.queue_model.specs.declared.queues.Queue.{Queue}
use Rattle.queue_model.specs.declared.steps.Tried.{Tried}
use Rattle.queue_model.specs.History.{Legal, own, deeds_of}
use Rattle.queue_model.proofs.KeyedLemmas.{find_none-head, find_none-tail, find_none-cons}
use Rattle.queue_model.proofs.Prefixes.{prefix_self, prefix_trans}
use Rattle.acts_core.specs.Calls.{Call, Answer, acts_of}
use Rattle.acts_core.specs.Meaning.{Besides, MeetsSight, Called, Shares, allowance_after, share_after, turns_after}
use Rattle.acts_core.specs.Owed.{takes_any, taken_any}
use Rattle.acts_core.specs.Sight.{Kind, Listed, Build, plan_of, Sight, Showed, on_head}
use Rattle.acts_core.specs.Steps.{Stepped, SameRights, NoHead}
use Rattle.acts_core.proofs.Chaining.{deeds_append}

-- the takes of two histories in a row
pub taken-append : (c : ℕ) (ds es : List Deed) → taken_any c (ds ++ es) ≡ taken_any c ds ++ taken_any c es
taken-append c ds es = filter-append (λ (d : Deed). takes_any c d.act) ds es

-- no step at all
pub stepped_none : (s : Sight) → Legal s.opening s.seen → Stepped s s [] []
stepped_none s legal = record {
  grows = prefix_self s.seen;
  legal = legal;
  own_acts = sym (append-nil (own s.caller s.seen));
  takes = λ c mine. sym (append-nil (taken_any c s.seen));
  ended = λ k gone other. refl;
  rest = ap (λ (l : List Tried). record s { shown = l }) (sym (append-nil s.shown));
}

same_rest : (a b c : Sight) (us vs : List Tried) → b ≡ record a { seen = b.seen; shown = a.shown ++ us; allowance = b.allowance; share = b.share } → c ≡ record b { seen = c.seen; shown = b.shown ++ vs; allowance = c.allowance; share = c.share }
    → c ≡ record a { seen = c.seen; shown = a.shown ++ (us ++ vs); allowance = c.allowance; share = c.share }
same_rest a b c us vs e f =
    f
    ∙ ap (λ (s : Sight). record s { seen = c.seen; shown = s.shown ++ vs; allowance = c.allowance; share = c.share }) e
    ∙ ap (λ (l : List Tried). record a { seen = c.seen; shown = l; allowance = c.allowance; share = c.share }) (append_assoc a.shown us vs)

-- what a caller or a consumer did is counted on
counted : (f : List Deed → List Deed) → ((ds es : List Deed) → f (ds ++ es) ≡ f ds ++ f es) → (h : ℕ) (a b c : List Deed) (xs ys : List Act) → f b ≡ f a ++ f (deeds_of h xs) → f c ≡ f b ++ f (deeds_of h ys) → f c ≡ f a ++ f (deeds_of h (xs ++ ys))
counted f append h a b c xs ys e g =
    g
    ∙ ap (λ (l : List Deed). l ++ f (deeds_of h ys)) e
    ∙ append_assoc (f a) (f (deeds_of h xs)) (f (deeds_of h ys))
    ∙ ap (λ (l : List Deed). f a ++ l) (sym (append (deeds_of h xs) (deeds_of h ys)) ∙ ap f (sym (deeds_append h xs ys)))

-- steps, and then others
pub stepped_trans : (a b c : Sight) (xs ys : List Act) (us vs : List Tried) → Stepped a b xs us → Stepped b c ys vs → Stepped a c (xs ++ ys) (us ++ vs)
stepped_trans a b c xs ys us vs s t =
    let caller : b.caller ≡ a.caller = ap (λ (v : Sight). v.caller) s.rest in
    let opening : b.opening ≡ a.opening = ap (λ (v : Sight). v.opening) s.rest in
    let consumers : b.consumers ≡ a.consumers = ap (λ (v : Sight). v.consumers) s.rest in
    let gone : b.ended ≡ a.ended = ap (λ (v : Sight). v.ended) s.rest in
    let mine : own a.caller c.seen ≡ own a.caller b.seen ++ deeds_of a.caller ys = subst (λ (h : ℕ). own h c.seen ≡ own h b.seen ++ deeds_of h ys) caller t.own_acts in
    record {
      grows = prefix_trans a.seen b.seen c.seen s.grows t.grows;
      legal = subst (λ (o : Queue). Legal o c.seen) opening t.legal;
      own_acts =
          mine
          ∙ ap (λ (l : List Deed). l ++ deeds_of a.caller ys) s.own_acts
          ∙ append_assoc (own a.caller a.seen) (deeds_of a.caller xs) (deeds_of a.caller ys)
          ∙ ap (λ (l : List Deed). own a.caller a.seen ++ l) (sym (deeds_append a.caller xs ys));
      takes = λ k has.
          let later : taken_any k c.seen ≡ taken_any k b.seen ++ taken_any k (deeds_of a.caller ys) =
          subst (λ (h : ℕ). taken_any k c.seen ≡ taken_any k b.seen ++ taken_any k (deeds_of h ys)) caller (t.takes k (subst (Mem k) (sym consumers) has))
          in
          counted (taken_any k) (taken-append k) a.caller a.seen b.seen c.seen xs ys (s.takes k has) later;
      ended = λ k over other. t.ended k (subst (Mem k) (sym gone) over) (λ e. other (e ∙ caller)) ∙ s.ended k over other;
      rest = same_rest a b c us vs s.rest t.rest;
    }

pub rights_trans : (a b c : Sight) → SameRights a b → SameRights b c → SameRights a c
rights_trans a b c s t = record { allowance = t.allowance ∙ s.allowance; share = t.share ∙ s.share }

pub rights_same : (s : Sight) → SameRights s s
rights_same s = record { allowance = refl; share = refl }

-- no step on a head link, in two lists in a row
pub no_head-append : (l : ℕ) (us vs : List Tried) → NoHead l us → NoHead l vs → NoHead l (us ++ vs)
no_head-append l [] vs e f = f
no_head-append l (t ∷ us) vs e f =
    let p : Tried → Bool = λ x. on_head l x.step in
    find_none-cons p t (us ++ vs) (find_none-head p t us e) (no_head-append l us vs (find_none-tail p t us e) f)

-- the steps of a call on a listed queue are the call
pub called_by : (build : Build) (old new : Sight) (call : Call) (answer : Answer) (added : List Tried) → build.kind ≡ Listed → Stepped old new (acts_of (plan_of build old.opening) call answer) added
    → Besides (Showed added) (plan_of build old.opening) old.caller old.seen new.seen call answer Listed → Shares answer old.share → new.allowance ≡ allowance_after call old.allowance → new.share ≡ share_after call answer old.share
    → Called build old new call answer
called_by build old new call answer added listed s besides shares allowance share =
    let p = plan_of build old.opening in
    let turns : old.turns ≡ turns_after p.kind old.turns = ap (λ (k : Kind). turns_after k old.turns) (sym listed) in
    record {
      added = added;
      meets = record {
        grows = s.grows;
        legal = s.legal;
        own_acts = s.own_acts;
        besides = subst (λ (k : Kind). Besides (Showed added) p old.caller old.seen new.seen call answer k) (sym listed) besides;
      };
      shares = shares;
      takes = s.takes;
      ended = s.ended;
      rest =
          s.rest
          ∙ ap₂ (λ (n m : ℕ). record old { seen = new.seen; shown = old.shown ++ added; allowance = n; share = m }) allowance share
          ∙ ap (λ (n : ℕ). record old { seen = new.seen; shown = old.shown ++ added; turns = n; allowance = allowance_after call old.allowance; share = share_after call answer old.share }) turns;
    }
