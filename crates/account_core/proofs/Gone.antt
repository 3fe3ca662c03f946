-- entries that were dropped are gone
use Rattle.std.proofs.Common.{◌≡◌, ◌≢◌, ℕ, ◌+◌, Bool, true, false, Option, Some, None, List, [], ◌∷◌, flat_map, map, slice_get, refl, sym, ap, ◌∙◌, subst, ⊎_elim, append-nil}
use Rattle.std.proofs.lemmas.Bool.{cases_eq}
use Rattle.std.specs.List.{AllByRecursion}
use mathlib.Core.List.{IsPrefix}
use Rattle.queue_model.specs.declared.deeds.Act.TheVariants.{Del}
use Rattle.queue_model.specs.declared.deeds.Deed.{Deed}
use Rattle.queue_model.specs.declared.queues.Queue.{Queue}
use Rattle.queue_model.specs.declared.queues.Limits.{Limits}
use Rattle.queue_model.specs.declared.rows.RowState.TheVariants.{Deleted}
use Rattle.queue_model.specs.declared.rows.Slip.{Slip}
use Rattle.queue_model.specs.History.{after, Legal, deed, own}
use Rattle.queue_model.specs.State.{IsIn}
use Rattle.queue_model.specs.Table.{acted, Can}
use Rattle.queue_model.proofs.Histories.{after-append, legal_rest, own-cons_other}
use Rattle.queue_model.proofs.Owns.{own_deleted, own_rest}
use Rattle.queue_model.proofs.Stable.{deleted_stays}
use Rattle.acts_core.specs.Calls.{Call, CallReserve, CallPut, CallDelete, Answer, IsDepth, IsAt}
use Rattle.acts_core.specs.Chains.{Made, Chain}
use Rattle.acts_core.specs.Load.{Load}
use Rattle.acts_core.specs.Meaning.{Meets}
use Rattle.acts_core.specs.Sight.{Plan}
use Rattle.acts_core.proofs.Chaining.{chain_grows}
use Rattle.acts_core.proofs.Sparing.{mine_first}
use Rattle.message_core.specs.Spelling.{Content}
use Rattle.defs_read.specs.Defined.{Defined}
use Rattle.script_read.specs.declared.lines.Op.{Op}
use Rattle.report_core.specs.declared.answers.Dropped.{Dropped}
use Rattle.overflow_core.specs.Limits.{is_ring}
use Rattle.line_core.specs.Fits.{Did, On, Standing, DropsOlder, Puts, Trims, TrimsRing, begins, fresh, unlocks}
use Rattle.account_core.specs.Dropping.{IsGone, named_in}
use Rattle.account_core.specs.Played.{IsPlayed, Played, rest_of}
use Rattle.account_core.specs.Stories.{Story, IsStory, calls_of}
use Rattle.account_core.proofs.Dropping.{DropMore, all_join, all_parts, lines_drop}
use Rattle.account_core.proofs.LineTracks.{DidIs, Known, dids_each}
use Rattle.account_core.proofs.Once.{one_state}
use Rattle.account_core.proofs.Settled.{chain_known}
use Rattle.account_core.proofs.Tracking.{HasRow}

-- Deletions

-- over acts of which the caller's own is a deletion
mine_deleted : (q : Queue) (ds : List Deed) (h r : ℕ) → Legal q ds → own h ds ≡ deed h (Del r) ∷ [] → IsIn (after q ds) r Deleted
mine_deleted q [] h r legal mine = absurd (cc)
mine_deleted q (d ∷ ds) h r legal mine = ⊎_elim
    (λ (same : d.caller ≡ h).
    let is = (mine_first h d ds [] (Del r) same mine).0 in
    let can : Can q h (Del r) = subst (λ (e : Deed). Can q e.caller e.act) is legal.0 in
    let here : IsIn (acted q d.caller d.act) r Deleted = subst (λ (e : Deed). IsIn (acted q e.caller e.act) r Deleted) (sym is) (own_deleted q h r can) in
    deleted_stays (acted q d.caller d.act) ds r legal.1 here)
    (λ (other : d.caller ≢ h). mine_deleted (acted q d.caller d.act) ds h r legal.1 (sym (own-cons_other h d ds other) ∙ mine))
    (cases_eq d.caller h)

-- the state after a history, by what it goes on from
after_rest : (o : Queue) (ds es : List Deed) (p : IsPrefix ds es) → after (after o ds) p.0 ≡ after o es
after_rest o ds es p = sym (after-append o ds p.0) ∙ ap (after o) p.1

-- what a history's rest may do
rest_legal : (o : Queue) (ds es : List Deed) (p : IsPrefix ds es) → Legal o es → Legal (after o ds) p.0
rest_legal o ds es p legal = legal_rest o ds p.0 (subst (Legal o) (sym p.1) legal)

-- a row that the call deleted is deleted in this state
abbrev Deletes : Queue → Call → Type 0
Deletes all (CallDelete r) = IsIn all r Deleted
Deletes all call = Unit {0}

call_deletes : (p : Plan) (h : ℕ) (s0 s1 to : List Deed) (call : Call) (answer : Answer) → Meets p h s0 s1 call answer → IsPrefix s1 to → Legal p.opening to → Deletes (after p.opening to) call
call_deletes p h s0 s1 to (CallDelete r) answer meets later legal =
    let grows : IsPrefix s0 s1 = meets.grows in
    let mine = own_rest h s0 s1 (deed h (Del r) ∷ []) grows meets.own_acts in
    let here : IsIn (after p.opening s1) r Deleted = subst (λ (q : Queue). IsIn q r Deleted) (after_rest p.opening s0 s1 grows) (mine_deleted (after p.opening s0) grows.0 h r (rest_legal p.opening s0 s1 grows meets.legal) mine) in
    subst (λ (q : Queue). IsIn q r Deleted) (after_rest p.opening s1 to later) (deleted_stays (after p.opening s1) later.0 r (rest_legal p.opening s1 to later legal) here)
call_deletes p h s0 s1 to call answer meets later legal = tt

chain_deletes : (p : Plan) (h : ℕ) (from : List Deed) (ms : List Made) (to : List Deed) → Chain p h from ms to → Legal p.opening to → AllByRecursion (λ (c : Call × Answer). Deletes (after p.opening to) c.0) (map (λ m. (m.call, m.answer)) ms)
chain_deletes p h from [] to chain legal = tt
chain_deletes p h from (m ∷ ms) to chain legal =
    (call_deletes p h m.before m.later to m.call m.answer chain.1 (chain_grows p h m.later ms to chain.2) legal, chain_deletes p h m.later ms to chain.2 legal)

-- Drops

-- what is known of a call: which row it gained, and which it deleted
record CallTells (all : Queue) (call : Call) (answer : Answer) : Type 0 where
  known : Known all call answer
  deletes : Deletes all call

both_tell : (all : Queue) (cs : List (Call × Answer)) → AllByRecursion (λ (c : Call × Answer). Known all c.0 c.1) cs → AllByRecursion (λ (c : Call × Answer). Deletes all c.0) cs → AllByRecursion (λ (c : Call × Answer). CallTells all c.0 c.1) cs
both_tell all [] known deletes = tt
both_tell all (c ∷ cs) known deletes = (record { known = known.0; deletes = deletes.0 }, both_tell all cs known.1 deletes.1)

-- a row of this id that is deleted
gone_row : (all : Queue) (r id : ℕ) → HasRow all r id → IsIn all r Deleted → IsGone all id
gone_row all r id has deleted = record {
  number = r;
  row = has.0;
  found = has.1;
  same_id = has.2;
  deleted = one_state all r has.0.state Deleted (has.0, has.1, refl) deleted;
}

module _ (q : ℕ) (all : Queue) where
  -- the entry, if it is of queue q, is gone
  abbrev GoneFrom : Dropped → Type 0
  GoneFrom x = x.queue ≡ q → IsGone all x.id

  trims_gone : (p : ℕ) (limits : Limits) (xs : List Dropped) (dids : List Did) → Trims limits p xs dids → AllByRecursion (DidIs q (CallTells all)) dids → AllByRecursion GoneFrom xs
  trims_gone p limits [] dids trims tells = tt
  trims_gone p limits (x ∷ xs) dids trims tells =
      let one = trims.2 in
      let parts = all_parts (DidIs q (CallTells all)) trims.0 trims.1 (subst (AllByRecursion (DidIs q (CallTells all))) trims.4 tells) in
      let first = subst (AllByRecursion (DidIs q (CallTells all))) one.did parts.0 in
      let gone : p ≡ q → IsGone all one.load.id = λ e. gone_row all one.row one.load.id ((first.1.0 e).known one.row one.load refl) (first.1.1.1.0 e).deletes in
      let named : GoneFrom x = subst GoneFrom (sym one.named) gone in
      (named, trims_gone p limits xs trims.1 trims.3 parts.1)

  ring_gone : (p : ℕ) (ring : Bool) (limits : Limits) (xs : List Dropped) (dids : List Did) → TrimsRing ring limits p xs dids → AllByRecursion (DidIs q (CallTells all)) dids → AllByRecursion GoneFrom xs
  ring_gone p true limits xs dids trims tells = trims_gone p limits xs dids trims tells
  ring_gone p false limits xs dids trims tells = subst (AllByRecursion GoneFrom) (sym trims.0) tt

  -- the call that put, and the drop of what it displaced
  older_gone : (p row : ℕ) (reserve : Did) (slip : Slip) (load : Load) (displaced : Option (ℕ × Load)) (xs : List Dropped) (dids : List Did) → DropsOlder p displaced xs dids
      → AllByRecursion (DidIs q (CallTells all)) (reserve ∷ (On p (CallPut slip load) (IsAt row displaced) ∷ dids)) → AllByRecursion GoneFrom xs
  older_gone p row reserve slip load None xs dids older tells = subst (AllByRecursion GoneFrom) (sym older.0) tt
  older_gone p row reserve slip load (Some d) xs dids older tells =
      let behind = subst (AllByRecursion (DidIs q (CallTells all))) older.2 tells.1.1 in
      subst (AllByRecursion GoneFrom) (sym older.1) ((λ e. gone_row all d.0 d.1.id ((tells.1.0 e).known d.0 d.1 refl) (behind.1.0 e).deletes), tt)

  -- what a put dropped
  puts_gone : (defs : List Defined) (s : Standing) (p : ℕ) (m : Content) (own : List Dropped) (dids : List Did) (s' : Standing) → Puts defs s p m own dids s' → AllByRecursion (DidIs q (CallTells all)) dids → AllByRecursion GoneFrom own
  puts_gone defs s p m own dids s' puts tells =
      let front : List Did = On p (CallReserve puts.asks.slip.size) (IsDepth puts.asks.depth) ∷ (On p (CallPut puts.asks.slip (fresh m)) (IsAt puts.row puts.displaced) ∷ puts.older_dids) in
      let parts = all_parts (DidIs q (CallTells all)) front puts.oldest_dids (subst (AllByRecursion (DidIs q (CallTells all))) puts.did tells) in
      subst (AllByRecursion GoneFrom) (sym puts.all)
      (all_join GoneFrom puts.older puts.oldest
      (older_gone p puts.row (On p (CallReserve puts.asks.slip.size) (IsDepth puts.asks.depth)) puts.asks.slip (fresh m) puts.displaced puts.older puts.older_dids puts.drops_older parts.0)
      (ring_gone p (is_ring puts.asks.def.limits) puts.asks.def.limits puts.oldest puts.oldest_dids puts.trims parts.1))

-- Stories

-- nothing is asked of lines
all_free : (ops : List Op) → AllByRecursion (λ op. Unit {0}) ops
all_free [] = tt
all_free (op ∷ ops) = (tt, all_free ops)

-- the drops of a story, where this is known of its calls on queue q in the end
story_drops : (q : ℕ) (all : Queue) (defs : List Defined) (s : Story) → IsStory defs s → AllByRecursion (DidIs q (CallTells all)) s.dids → DropMore (GoneFrom q all) s.answers [] s.end.drops
story_drops q all defs s is tells = lines_drop (GoneFrom q all) (λ op. Unit {0}) (DidIs q (CallTells all)) defs
    (λ op p m own t ds t' free told what puts. puts_gone q all defs t p m own ds t' puts told)
    (begins defs s.seats) s.ops s.answers s.dids s.end is (all_free s.ops) tells

pub drops_gone : (defs : List Defined) (q i : ℕ) (stories : List Story) (p : Played) (s : Story) → IsStory defs s → slice_get stories i ≡ Some s → IsPlayed q stories p → AllByRecursion (λ x. x.queue ≡ q → IsGone (rest_of p) x.id) s.end.drops
drops_gone defs q i stories p s is there played =
    let all : Queue = rest_of p in
    let makes = played.makes i s there in
    let calls = both_tell all (map (λ m. (m.call, m.answer)) makes.made) (chain_known p.plan (i + 1) [] makes.made p.history makes.chain) (chain_deletes p.plan (i + 1) [] makes.made p.history makes.chain played.legal) in
    let dids = dids_each q (CallTells all) (calls_of s) (subst (AllByRecursion (λ (c : Call × Answer). CallTells all c.0 c.1)) makes.same calls) in
    let drops = story_drops q all defs s is (all_parts (DidIs q (CallTells all)) s.dids (unlocks s.end.hands) dids).0 in
    subst (AllByRecursion (GoneFrom q all)) (sym drops.all) drops.each

-- the answers name all of them
pub drops_told : (defs : List Defined) (s : Story) → IsStory defs s → flat_map (named_in s.end.drops) s.answers ≡ s.end.drops
drops_told defs s is =
    let drops = lines_drop (λ (x : Dropped). Unit {0}) (λ op. Unit {0}) (λ d. Unit {0}) defs (λ op p m own t ds t' free told what puts. every own) (begins defs s.seats) s.ops s.answers s.dids s.end is (all_free s.ops) (free s.dids) in
    drops.told s.end.drops [] (append-nil s.end.drops) ∙ sym drops.all
  where
    every : (xs : List Dropped) → AllByRecursion (λ x. Unit {0}) xs
    every [] = tt
    every (x ∷ xs) = (tt, every xs)

    free : (ds : List Did) → AllByRecursion (λ d. Unit {0}) ds
    free [] = tt
    free (d ∷ ds) = (tt, free ds)
