-- a line by the pass that it is on
use Rattle.std.proofs.Common.{◌≡◌, ◌≢◌, ◌<◌, ◌≤◌, ◌+◌, ℕ, zero, suc, Bool, true, false, cond, Some, None, List, [], ◌∷◌, length, map, slice_get, slice_set, refl, sym, ap, ◌∙◌, subst, ⊎_elim, eq-eqb, arith}
use Rattle.std.proofs.lemmas.Bool.{cases_eq}
use Rattle.std.proofs.lemmas.Option.{slice_get_within, slice_get-get_or}
use Rattle.std.specs.Prelude.{get_or}
use mathlib.Core.List.{Mem}
use Rattle.acts_core.specs.Sight.{Build, Sight}
use Rattle.defs_read.specs.Defined.{Defined}
use Rattle.message_core.specs.Spelling.{Content}
use Rattle.script_read.specs.declared.lines.What.{What}
use Rattle.script_read.specs.declared.lines.What.TheVariants.{Put, Take, Close, Ack, Release, Lock, Unlock, Steal, Begin, Commit, Rollback}
use Rattle.report_core.specs.declared.answers.Answer as report
use Rattle.report_core.specs.declared.answers.Answer.TheVariants.{Closed}
use Rattle.script_read.specs.declared.lines.Op.{Op}
use Rattle.line_core.specs.Fits.{LineFits, Standing}
use Rattle.workers_core.specs.Jobs.{MayDo, is_put, puts_to, queue_of}
use Rattle.workers_core.specs.Ready.{IsSlipFor, MayPutAll, Serves, Spends}
use Rattle.line_core.specs.Runs.{DidLines, DidOn, calls_on}
use Rattle.workers_core.specs.declared.jobs.Aid.{Aid}
use Rattle.workers_core.specs.declared.jobs.Aid.TheVariants as aid
use Rattle.workers_core.specs.declared.jobs.Job.{Job}
use Rattle.workers_core.proofs.Frugal.{allowance_least, frugal, put_spends, share_least}
use Rattle.workers_core.proofs.Leaves.{ran_nothing}
use Rattle.workers_core.proofs.Ones.{set_here, set_length, set_other}

same_some : (r q : ℕ) → Some r ≡ Some q → r ≡ q
same_some r q is = cc

-- the pass that a line is by is there
pub by_pass : (sights : List Sight) (w : What) (a : Aid) (q : ℕ) → Serves sights w a → queue_of w a ≡ Some q → q < length sights
by_pass sights (Put r m) (aid.Slip slip) q serves is = subst (λ (n : ℕ). n < length sights) (same_some r q is) (slice_get_within sights r serves.0 serves.1)
by_pass sights (Put r m) aid.Nothing q serves is = absurd serves
by_pass sights (Put r m) (aid.Place p k) q serves is = absurd serves
by_pass sights (Take c) (aid.Place r k) q serves is = subst (λ (n : ℕ). n < length sights) (same_some r q is) (slice_get_within sights r serves.0 serves.1)
by_pass sights (Take c) aid.Nothing q serves is = absurd serves
by_pass sights (Take c) (aid.Slip slip) q serves is = absurd serves
by_pass sights (Close c) a q serves is = absurd (cc)
by_pass sights (Ack r id) a q serves is = subst (λ (n : ℕ). n < length sights) (same_some r q is) serves
by_pass sights (Release r id) a q serves is = subst (λ (n : ℕ). n < length sights) (same_some r q is) serves
by_pass sights (Lock r id) a q serves is = subst (λ (n : ℕ). n < length sights) (same_some r q is) serves
by_pass sights (Unlock r id) a q serves is = subst (λ (n : ℕ). n < length sights) (same_some r q is) serves
by_pass sights (Steal r id) a q serves is = subst (λ (n : ℕ). n < length sights) (same_some r q is) serves
by_pass sights Begin a q serves is = absurd serves
by_pass sights Commit a q serves is = absurd serves
by_pass sights Rollback a q serves is = absurd serves

-- a pass may reserve and draw what a put needs
rights_one : (sights : List Sight) (job : Job) (q : ℕ) (t : Sight) → slice_get sights q ≡ Some t → MayPutAll sights (job ∷ []) → puts_to q job.op.what ≡ true → (0 < t.allowance) × (0 < t.share)
rights_one sights job q t at may puts =
    let one : cond (puts_to q job.op.what) 1 0 ≡ cond true 1 0 = ap (λ (b : Bool). cond {A = ℕ} b 1 0) puts in
    (omega (arith, (may q t at).0, one), omega (arith, (may q t at).1, one))

at_place : (sights : List Sight) (r q : ℕ) (s t : Sight) → slice_get sights r ≡ Some s → r ≡ q → slice_get sights q ≡ Some t → s ≡ t
at_place sights r q s t at_r same at_q = let both : Some s ≡ Some t = sym at_r ∙ ap (slice_get sights) same ∙ at_q in cc

may_what : (sights : List Sight) (w : What) (a : Aid) (q : ℕ) (t : Sight) → Serves sights w a → queue_of w a ≡ Some q → slice_get sights q ≡ Some t → (puts_to q w ≡ true → (0 < t.allowance) × (0 < t.share)) → MayDo q t w a
may_what sights (Put r m) (aid.Slip slip) q t serves is at rights =
    let same : r ≡ q = same_some r q is in
    let fit : IsSlipFor t m slip = subst (λ (z : Sight). IsSlipFor z m slip) (at_place sights r q serves.0 t serves.1 same at) serves.2 in
    let may = rights (eq-eqb r q same) in
    (same, record { fits = fit.fits; id = fit.id; size = fit.size; allowed = may.0; share = may.1 })
may_what sights (Put r m) aid.Nothing q t serves is at rights = absurd serves
may_what sights (Put r m) (aid.Place p k) q t serves is at rights = absurd serves
may_what sights (Take c) (aid.Place r k) q t serves is at rights =
    let same : r ≡ q = same_some r q is in
    (same, serves.2, subst (λ (z : Sight). Mem k z.consumers) (at_place sights r q serves.0 t serves.1 same at) serves.3)
may_what sights (Take c) aid.Nothing q t serves is at rights = absurd serves
may_what sights (Take c) (aid.Slip slip) q t serves is at rights = absurd serves
may_what sights (Close c) a q t serves is at rights = absurd (cc)
may_what sights (Ack r id) a q t serves is at rights = same_some r q is
may_what sights (Release r id) a q t serves is at rights = same_some r q is
may_what sights (Lock r id) a q t serves is at rights = same_some r q is
may_what sights (Unlock r id) a q t serves is at rights = same_some r q is
may_what sights (Steal r id) a q t serves is at rights = same_some r q is
may_what sights Begin a q t serves is at rights = absurd serves
may_what sights Commit a q t serves is at rights = absurd serves
may_what sights Rollback a q t serves is at rights = absurd serves

pub may_do : (sights : List Sight) (job : Job) (q : ℕ) (t : Sight) → Serves sights job.op.what job.aid → queue_of job.op.what job.aid ≡ Some q → slice_get sights q ≡ Some t → MayPutAll sights (job ∷ []) → MayDo q t job.op.what job.aid
may_do sights job q t serves is at rights = may_what sights job.op.what job.aid q t serves is at (rights_one sights job q t at rights)

-- a put that a pass may do is to its queue
own_put : (w : What) (a : Aid) (q : ℕ) (t : Sight) → MayDo q t w a → is_put w ≡ true → puts_to q w ≡ true
own_put (Put r m) (aid.Slip slip) q t may is = eq-eqb r q may.0
own_put (Put r m) aid.Nothing q t may is = absurd may
own_put (Put r m) (aid.Place p k) q t may is = absurd may
own_put (Take c) a q t may is = cc
own_put (Close c) a q t may is = cc
own_put (Ack r id) a q t may is = cc
own_put (Release r id) a q t may is = cc
own_put (Lock r id) a q t may is = cc
own_put (Unlock r id) a q t may is = cc
own_put (Steal r id) a q t may is = cc
own_put Begin a q t may is = cc
own_put Commit a q t may is = cc
own_put Rollback a q t may is = cc

-- what holds of one pass that changed, and of each that didn't, holds of all
each_pass : (olds : List Sight) (q : ℕ) (old new : Sight) (P : ℕ → Sight → Sight → Type 0) → slice_get olds q ≡ Some old → P q old new → ((r : ℕ) (s : Sight) → P r s s)
    → (r : ℕ) (s t : Sight) → slice_get olds r ≡ Some s → slice_get (slice_set olds q new) r ≡ Some t → P r s t
each_pass olds q old new P there here idle r s t at_s at_t = ⊎_elim
    (λ (e : r ≡ q).
    let ss : Some s ≡ Some old = sym at_s ∙ ap (slice_get olds) e ∙ there in
    let ts : Some t ≡ Some new = sym at_t ∙ ap (slice_get (slice_set olds q new)) e ∙ set_here olds q new old there in
    let se : old ≡ s = cc in let te : new ≡ t = cc in
    subst (λ (n : ℕ). P n s t) (sym e) (subst (λ (z : Sight). P q z t) se (subst (λ (z : Sight). P q old z) te here)))
    (λ (other : r ≢ q).
    let both : Some s ≡ Some t = sym at_s ∙ sym (set_other olds q r new other) ∙ at_t in
    let same : s ≡ t = cc in
    subst (λ (z : Sight). P r s z) same (idle r s))
    (cases_eq r q)

-- what one line leaves of its pass
least : (defs : List Defined) (build : Build) (q : ℕ) (old new : Sight) (s s' : Standing) (w : What) (a : report.Answer) (b : Bool) → is_put w ≡ b → (is_put w ≡ true → puts_to q w ≡ true) → DidOn defs build q old s w a new s'
    → (old.allowance ≤ new.allowance + cond (puts_to q w) 1 0) × (old.share ≤ new.share + cond (puts_to q w) 1 0)
least defs build q old new s s' w a false is own did =
    let calls = calls_on q did.dids in
    let f = frugal defs s w a did.dids s' is did.fits in
    (omega (arith, allowance_least calls old.allowance, f.reserved q, did.here.allowance), omega (arith, share_least calls old.share, f.put q, did.here.share))
least defs build q old new s s' w a true is own did =
    let calls = calls_on q did.dids in
    let f = put_spends defs s q w a did.dids s' is did.fits in
    let one : cond (puts_to q w) 1 0 ≡ cond true 1 0 = ap (λ (b : Bool). cond {A = ℕ} b 1 0) (own is) in
    (omega (arith, allowance_least calls old.allowance, f.0, did.here.allowance, one), omega (arith, share_least calls old.share, f.1, did.here.share, one))

pub spends_one : (defs : List Defined) (build : Build) (olds : List Sight) (q : ℕ) (old new : Sight) (s s' : Standing) (w : What) (a : report.Answer) (aid : Aid) → slice_get olds q ≡ Some old → MayDo q old w aid → DidOn defs build q old s w a new s' → Spends w olds (slice_set olds q new)
spends_one defs build olds q old new s s' w a aid there may did =
    let rest = least defs build q old new s s' w a (is_put w) refl (own_put w aid q old may) did in
    record {
      as_many = set_length olds q new;
      opening = each_pass olds q old new (λ r x y. y.opening ≡ x.opening) there did.here.opening (λ r x. refl);
      caller = each_pass olds q old new (λ r x y. y.caller ≡ x.caller) there did.here.caller (λ r x. refl);
      consumers = each_pass olds q old new (λ r x y. y.consumers ≡ x.consumers) there did.here.consumers (λ r x. refl);
      allowance = each_pass olds q old new (λ r x y. x.allowance ≤ y.allowance + cond (puts_to r w) 1 0) there rest.0 (λ r x. omega arith);
      share = each_pass olds q old new (λ r x y. x.share ≤ y.share + cond (puts_to r w) 1 0) there rest.1 (λ r x. omega arith);
    }

-- a line that is by no pass
pub spends_none : (w : What) (sights : List Sight) → Spends w sights sights
spends_none w sights = record {
  as_many = refl;
  opening = idle (λ r x y. y.opening ≡ x.opening) (λ r x. refl);
  caller = idle (λ r x y. y.caller ≡ x.caller) (λ r x. refl);
  consumers = idle (λ r x y. y.consumers ≡ x.consumers) (λ r x. refl);
  allowance = idle (λ r x y. x.allowance ≤ y.allowance + cond (puts_to r w) 1 0) (λ r x. omega arith);
  share = idle (λ r x y. x.share ≤ y.share + cond (puts_to r w) 1 0) (λ r x. omega arith);
}
  where
    idle : (P : ℕ → Sight → Sight → Type 0) → ((r : ℕ) (s : Sight) → P r s s) → (r : ℕ) (s t : Sight) → slice_get sights r ≡ Some s → slice_get sights r ≡ Some t → P r s t
    idle P each r s t at_s at_t = let both : Some s ≡ Some t = sym at_s ∙ at_t in let same : s ≡ t = cc in subst (λ (z : Sight). P r s z) same (each r s)

-- lists that a function was mapped over
pub map_set : {A B : Type 0} (f : A → B) (xs : List A) (i : ℕ) (x : A) → map f (slice_set xs i x) ≡ slice_set (map f xs) i (f x)
map_set f [] zero x = refl
map_set f [] (suc i) x = refl
map_set f (y ∷ xs) zero x = refl
map_set {A} {B} f (y ∷ xs) (suc i) x = ap (λ (zs : List B). f y ∷ zs) (map_set f xs i x)

pub map_at : {A B : Type 0} (f : A → B) (xs : List A) (i : ℕ) (x : A) → slice_get xs i ≡ Some x → slice_get (map f xs) i ≡ Some (f x)
map_at f [] i x at = cc
map_at f (y ∷ xs) zero x at = let same : y ≡ x = cc in ap (λ z. Some (f z)) same
map_at f (y ∷ xs) (suc i) x at = map_at f xs i x at

pub map_length : {A B : Type 0} (f : A → B) (xs : List A) → length (map f xs) ≡ length xs
map_length f [] = refl
map_length f (y ∷ xs) = ap suc (map_length f xs)

pub read_at : {X : Type 0} (xs : List X) (i : ℕ) (x : X) → i < length xs → x ≡ get_or xs i x → slice_get xs i ≡ Some x
read_at xs i x within read = slice_get-get_or xs i x within ∙ ap Some (sym read)

pub set_back : {X : Type 0} (xs : List X) (i : ℕ) (x : X) → slice_get xs i ≡ Some x → slice_set xs i x ≡ xs
set_back [] zero x at = refl
set_back [] (suc i) x at = refl
set_back {X} (y ∷ xs) zero x at = let same : y ≡ x = cc in ap (λ (z : X). z ∷ xs) (sym same)
set_back {X} (y ∷ xs) (suc i) x at = ap (λ (zs : List X). y ∷ zs) (set_back xs i x at)

-- a close
pub closed_line : (defs : List Defined) (builds : List Build) (olds : List Sight) (s s' : Standing) (op : Op) (c : ℕ) → op.what ≡ Close c → s' ≡ record s { seats = slice_set s.seats c None } → DidLines defs builds olds s (op ∷ []) (Closed ∷ []) olds s'
closed_line defs builds olds s s' op c is same = record {
  dids = [];
  fits = ([], s', [], subst (λ (w : What). LineFits defs s w Closed [] s') (sym is) (refl, same), (refl, refl), refl);
  ran = ran_nothing builds olds;
}

-- the passes after it by another name
pub did_to : (defs : List Defined) (builds : List Build) (olds news news' : List Sight) (s s' : Standing) (ops : List Op) (answers : List report.Answer) → news' ≡ news → DidLines defs builds olds s ops answers news s' → DidLines defs builds olds s ops answers news' s'
did_to defs builds olds news news' s s' ops answers same did = subst (λ (ss : List Sight). DidLines defs builds olds s ops answers ss s') (sym same) did

-- the message of a put, and its queue
pub put_of : (w : What) (a : Aid) (q : ℕ) → is_put w ≡ true → queue_of w a ≡ Some q → (m : Content) × (w ≡ Put q m)
put_of (Put r m) a q is named = (m, ap (λ (n : ℕ). Put n m) (same_some r q named))
put_of (Take c) a q is named = absurd (cc)
put_of (Close c) a q is named = absurd (cc)
put_of (Ack r id) a q is named = absurd (cc)
put_of (Release r id) a q is named = absurd (cc)
put_of (Lock r id) a q is named = absurd (cc)
put_of (Unlock r id) a q is named = absurd (cc)
put_of (Steal r id) a q is named = absurd (cc)
put_of Begin a q is named = absurd (cc)
put_of Commit a q is named = absurd (cc)
put_of Rollback a q is named = absurd (cc)
