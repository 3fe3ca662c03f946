-- looking for a row by its id
use Rattle.std.proofs.Common.{◌≡◌, ◌≢◌, ℕ, suc, ◌-◌, ◌<◌, ◌≤◌, Bool, Option, Some, None, [], ◌∷◌, ◌++◌, refl, sym, ap, ◌∙◌, subst, ⊎_elim, not, nat_eq, eq-eqb, ne_eqb, arith}
use Rattle.std.proofs.lemmas.Bool.{cases_eq}
use Rattle.queue_model.specs.declared.queues.Queue.{Queue}
use Rattle.queue_model.specs.declared.rows.Row.{Row}
use Rattle.queue_model.specs.declared.rows.Slip.{Slip}
use Rattle.queue_model.specs.declared.steps.DraftWord.TheVariants as drafts
use Rattle.queue_model.specs.declared.steps.Step.TheVariants as steps
use Rattle.queue_model.specs.declared.steps.WordName.{WordName}
use Rattle.queue_model.specs.declared.steps.WordName.TheVariants as names
use Rattle.queue_model.specs.History.{after}
use Rattle.queue_model.specs.Packing.{pack_state}
use Rattle.queue_model.specs.State.{row_at}
use Rattle.queue_model.proofs.Prefixes.{prefix_self}
use Rattle.queue_model.proofs.Stable.{row_stays}
use Rattle.acts_core.specs.Calls.{CallFind, IsFound}
use Rattle.acts_core.specs.Meaning.{Called}
use Rattle.acts_core.specs.Sight.{Build, Listed, Sight}
use Rattle.acts_core.specs.Steps.{Stepped, SameRights}
use Rattle.acts_core.specs.Walks.{Named, Misses, Faces, Done}
use Rattle.acts_core.proofs.Answering.{find_none, find_some}
use Rattle.acts_core.proofs.Coming.{facing, opening_of, from_pred}
use Rattle.acts_core.proofs.Sparing.{after_rest}
use Rattle.acts_core.proofs.Stepping.{stepped_trans, rights_trans}
use Rattle.acts_core.proofs.Walking.{walk_got, list_later, done_got}
use Rattle.entry_table.specs.declared.pass.Pass.{Pass}
use Rattle.entry_table.specs.Passes.{Kept, Did, opening, seen, shown, allowance, share}
use Rattle.entry_table.specs.Plays.{Shows}
use Rattle.entry_table.specs.Sights.{sight}
use Rattle.entry_table.specs.Views.{entry}
use Rattle.entry_table.proofs.Closing.{gone_word}
use Rattle.entry_table.proofs.Sighting.{stepped, same_rights}
use Rattle.entry_calls.specs.Found.{Spotted, Spots, Comes}

-- the steps of one load
one_load : (old new : Pass) (word : WordName) (n : ℕ) → Kept old new → Did old new [] → shown new ≡ shown old ++ entry (steps.Load word) n n (seen new) ∷ [] → Stepped (sight old) (sight new) [] (entry (steps.Load word) n n (seen new) ∷ [])
one_load old new word n k d e = stepped old new [] (entry (steps.Load word) n n (seen new) ∷ []) k d e

-- the identity word of a row shows its slip's id
id_told : (q : Queue) (row n : ℕ) (x : Row) → Shows (steps.Load (names.Draft row drafts.Ident)) n q → row_at q row ≡ Some x → x.slip.id ≡ n
id_told q row n x s found = sym (s.1.drafted row x found).ident ∙ s.2

state_told : (q : Queue) (row n : ℕ) (x : Row) → Shows (steps.Load (names.State row)) n q → row_at q row ≡ Some x → n ≡ pack_state x.state
state_told q row n x s found = sym s.2 ∙ s.1.states row x found

-- a row of another id
pub other_id : (old new : Pass) (id row n : ℕ) → Kept old new → allowance new ≡ allowance old → share new ≡ share old → Did old new [] → Shows (steps.Load (names.Draft row drafts.Ident)) n (after (opening new) (seen new)) → shown new ≡ shown old ++ entry (steps.Load (names.Draft row drafts.Ident)) n n (seen new) ∷ []
    → n ≢ id → Misses (sight old) (sight new) (Named id) row
other_id old new id row n k a s d shows e other = record {
  added = entry (steps.Load (names.Draft row drafts.Ident)) n n (seen new) ∷ [];
  steps = one_load old new (names.Draft row drafts.Ident) n k d e;
  rights = same_rights old new a s;
  heads = λ m. refl;
  fails = λ x found same.
      let here : row_at (after (opening new) (seen new)) row ≡ Some x = subst (λ (o : Queue). row_at (after o (seen new)) row ≡ Some x) (sym k.opening) found in
      absurd (other (sym (id_told (after (opening new) (seen new)) row n x shows here) ∙ same));
}

-- the id of a row is what it was when loaded
id_later : (old mid new : Pass) (id row : ℕ) (x y : Row) → Kept old mid → Kept mid new → Did mid new [] → Shows (steps.Load (names.Draft row drafts.Ident)) id (after (opening mid) (seen mid)) → row_at (after (opening mid) (seen mid)) row ≡ Some y → row_at (after (opening old) (seen new)) row ≡ Some x → x.slip.id ≡ id
id_later old mid new id row x y k l d shows there found =
    let t = row_stays (after (opening mid) (seen mid)) d.prefix.0 row y there in
    let here : row_at (after (opening mid) (seen new)) row ≡ Some t.0 = subst (λ (q : Queue). row_at q row ≡ Some t.0) (after_rest (opening mid) (seen mid) (seen new) d.prefix) t.1 in
    let both : Some t.0 ≡ Some x = sym here ∙ subst (λ (o : Queue). row_at (after o (seen new)) row ≡ Some x) (sym k.opening) found in
    let same : t.0 ≡ x = cc in
    ap (λ (z : Row). z.slip.id) (sym same) ∙ ap (λ (z : Slip). z.id) t.2.slip ∙ id_told (after (opening mid) (seen mid)) row id y shows there

-- a row of the id, by its state
module _ (old mid new : Pass) (id row n : ℕ) (y : Row) (k : Kept old mid) (a : allowance mid ≡ allowance old) (s : share mid ≡ share old) (d : Did old mid []) (shows : Shows (steps.Load (names.Draft row drafts.Ident)) id (after (opening mid) (seen mid)))
    (e : shown mid ≡ shown old ++ entry (steps.Load (names.Draft row drafts.Ident)) id id (seen mid) ∷ []) (there : row_at (after (opening mid) (seen mid)) row ≡ Some y) (k' : Kept mid new) (a' : allowance new ≡ allowance mid) (s' : share new ≡ share mid) (d' : Did mid new [])
    (shows' : Shows (steps.Load (names.State row)) n (after (opening new) (seen new))) (e' : shown new ≡ shown mid ++ entry (steps.Load (names.State row)) n n (seen new) ∷ []) where
  both_steps : Stepped (sight old) (sight new) [] (entry (steps.Load (names.Draft row drafts.Ident)) id id (seen mid) ∷ entry (steps.Load (names.State row)) n n (seen new) ∷ [])
  both_steps =
      stepped_trans (sight old) (sight mid) (sight new) [] [] (entry (steps.Load (names.Draft row drafts.Ident)) id id (seen mid) ∷ []) (entry (steps.Load (names.State row)) n n (seen new) ∷ [])
      (one_load old mid (names.Draft row drafts.Ident) id k d e) (one_load mid new (names.State row) n k' d' e')

  both_rights : SameRights (sight old) (sight new)
  both_rights = rights_trans (sight old) (sight mid) (sight new) (same_rights old mid a s) (same_rights mid new a' s')

  -- the row, as it is at the end
  row_now : (x : Row) × (row_at (after (opening new) (seen new)) row ≡ Some x) × (row_at (after (opening old) (seen new)) row ≡ Some x)
  row_now =
      let t = row_stays (after (opening mid) (seen mid)) d'.prefix.0 row y there in
      let here : row_at (after (opening mid) (seen new)) row ≡ Some t.0 = subst (λ (q : Queue). row_at q row ≡ Some t.0) (after_rest (opening mid) (seen mid) (seen new) d'.prefix) t.1 in (
        t.0,
        subst (λ (o : Queue). row_at (after o (seen new)) row ≡ Some t.0) (sym k'.opening) here,
        subst (λ (o : Queue). row_at (after o (seen new)) row ≡ Some t.0) k.opening here,
      )

  pub deleted_row : n ≡ 3 → Misses (sight old) (sight new) (Named id) row
  deleted_row gone = record {
    added = entry (steps.Load (names.Draft row drafts.Ident)) id id (seen mid) ∷ entry (steps.Load (names.State row)) n n (seen new) ∷ [];
    steps = both_steps;
    rights = both_rights;
    heads = λ m. refl;
    fails = λ x found same.
        let here : row_at (after (opening new) (seen new)) row ≡ Some x = subst (λ (o : Queue). row_at (after o (seen new)) row ≡ Some x) (sym k'.opening) (subst (λ (o : Queue). row_at (after o (seen new)) row ≡ Some x) (sym k.opening) found) in
        gone_word x.state n (state_told (after (opening new) (seen new)) row n x shows' here) gone;
  }

  pub spotted_row : n ≢ 3 → Spotted (sight old) (sight new) id row
  spotted_row live =
      let r = row_now in
      record {
        added = entry (steps.Load (names.Draft row drafts.Ident)) id id (seen mid) ∷ entry (steps.Load (names.State row)) n n (seen new) ∷ [];
        steps = both_steps;
        rights = both_rights;
        heads = λ m. refl;
        named = record {
          row = r.0;
          found = r.2;
          same = id_later old mid new id row r.0 y k k' d' shows there r.2;
          there = λ gone. live (state_told (after (opening new) (seen new)) row n r.0 shows' r.1 ∙ ap pack_state gone);
        };
      }

-- by the state word that was shown
pub named_by : (old new : Sight) (id row n w : ℕ) → w ≡ 3 → (n ≡ 3 → Misses old new (Named id) row) → (n ≢ 3 → Spotted old new id row) → Spots old new id row (not (nat_eq n w))
named_by old new id row n w e miss hit = ⊎_elim
    (λ (same : n ≡ w). subst (λ (b : Bool). Spots old new id row (not b)) (sym (eq-eqb n w same)) (miss (same ∙ e)))
    (λ (other : n ≢ w). subst (λ (b : Bool). Spots old new id row (not b)) (sym (ne_eqb n w other)) (hit (λ k. other (k ∙ sym e))))
    (cases_eq n w)

-- A walk comes to the row

pub comes : (old now new : Sight) (id l r : ℕ) (next : Option ℕ) → Faces old now (Named id) l next → next ≡ Some r → Spotted now new id r → Comes old new id l r
comes old now new id l r next f is s =
    let k = facing old now (Named id) l r next f is in
    let opening : now.opening ≡ old.opening = opening_of old now (Named id) l r k in
    let found : row_at (after old.opening new.seen) r ≡ Some s.named.row = subst (λ (o : Queue). row_at (after o new.seen) r ≡ Some s.named.row) opening s.named.found in
    let t = list_later old.opening now.seen new.seen l r s.steps.grows k.there in
    let both : Some t.0 ≡ Some s.named.row = sym t.1 ∙ found in
    let same : t.0 ≡ s.named.row = cc in
    record {
      reached = walk_got old now new (Named id) l r [] s.added k s.steps s.rights s.heads;
      named = record { row = s.named.row; found = found; same = s.named.same; there = s.named.there };
      list = ap (λ (x : Row). x.slip.list) (sym same) ∙ t.2;
    }

-- Over all lists

pub finds_some : (build : Build) (id l r : ℕ) (old now new : Sight) → build.kind ≡ Listed → 0 < l → Done old now (Named id) l old.opening.lists → Comes now new id (l - 1) r → Called build old new (CallFind id) (IsFound (Some r))
finds_some build id l r old now new listed some d c =
    let from : suc (l - 1) ≡ l = from_pred l some in
    let d' : Done old now (Named id) (suc (l - 1)) old.opening.lists = subst (λ (n : ℕ). Done old now (Named id) n old.opening.lists) (sym from) d in
    let s = done_got old now new (Named id) (suc (l - 1)) old.opening.lists (l - 1) r [] d' (d'.lower (l - 1) (omega arith)) c.reached in
    let opening : now.opening ≡ old.opening = ap (λ (v : Sight). v.opening) d.steps.rest in
    let found : row_at (after old.opening new.seen) r ≡ Some c.named.row = subst (λ (o : Queue). row_at (after o new.seen) r ≡ Some c.named.row) opening c.named.found in
    find_some build id (l - 1) r old new new.seen c.named.row listed s (record { later = s.steps.grows; early = prefix_self new.seen }) found c.list c.named.same c.named.there

pub finds_none : (build : Build) (id l : ℕ) (old new : Sight) → build.kind ≡ Listed → l ≤ 0 → Done old new (Named id) l old.opening.lists → Called build old new (CallFind id) (IsFound None)
finds_none build id l old new listed low d =
    let e : l ≡ 0 = omega (arith, low) in
    find_none build id old new listed (subst (λ (n : ℕ). Done old new (Named id) n old.opening.lists) e d)
