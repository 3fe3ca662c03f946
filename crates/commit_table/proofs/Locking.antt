-- What a pass owes that gives the journal back, and what it has then done.
use Rattle.std.proofs.Common.{◌≡◌, ◌≤◌, ◌<◌, ◌+◌, ◌-◌, ℕ, List, [], ◌∷◌, ◌++◌, length, drop, refl, sym, ap, ◌∙◌, subst, arith, append-nil, Some, None}
use Rattle.std.specs.Prelude.{Option, Bool, true, false, sum_by, min, slice_get, Result, Ok, Err, OnOk, IfSome}
use Rattle.std.proofs.lemmas.List.Sums.{sum_by-append, sum_by-cons}
use Rattle.std.proofs.lemmas.Option.{slice_get_read, slice_get-get_or}
use Rattle.std.proofs.Math.Seq.{get_or-append_seam}
use Rattle.outside_io.specs.Counts.{last_count}
use Rattle.disk_core.specs.declared.trails.Trail.{Trail}
use Rattle.journal_format.specs.Spelling.{Txn}
use Rattle.journal_format.specs.declared.events.Event.{Event}
use Rattle.journal_format.specs.declared.events.Event.TheVariants.{Sub, Settle, Lost}
use Rattle.journal_format.specs.declared.faults.DeviceFault.{DeviceFault}
use Rattle.journal_core.specs.declared.journal.Trust.TheVariants.{Clean}
use Rattle.journal_core.specs.History.{after}
use Rattle.journal_core.specs.Reading.{padded}
use Rattle.history_lock.specs.declared.view.View.{View}
use Rattle.history_lock.specs.Plays.{Later, Live, Took, Owes, given}
use Rattle.commit_table.specs.declared.answers.Settled.{Settled}
use Rattle.commit_table.specs.declared.answers.Settled.TheVariants.{Stored, Failed}
use Rattle.commit_table.specs.declared.begun.Begun.{Begun}
use Rattle.commit_table.specs.declared.desk.Desk.{Desk}
use Rattle.commit_table.specs.Outcomes.{Outcome, book, outcome_of, capped, one_ticket, Legal}
use Rattle.commit_table.specs.Deskwork.{IsReceipt}
use Rattle.commit_table.specs.Tale.{AtDesk, Carries, commit_tale}
use Rattle.commit_table.specs.Turns.{commit_events, read_events, is_stored, IsAnswered, Goes, Wrote, Told, DidCommit, DidLook, DidRead, IsRead}
use Rattle.commit_table.proofs.Books.{other_sub, other_lost}
use Rattle.commit_table.specs.Passes.{begun_in, rest_of}
use Rattle.history_lock.specs.Views.{Has}
use Rattle.history_lock.proofs.Prefixes.{prefix_self, prefix_trans}
use Rattle.commit_table.proofs.Carrying.{book_commit, counted, no_tickets}

-- ---- outcomes

last_of : {X : Type 0} (xs : List X) (n : ℕ) (x : X) → n ≡ length xs → slice_get (xs ++ x ∷ []) n ≡ Some x
last_of xs n x is =
    ap (slice_get (xs ++ x ∷ [])) is
    ∙ slice_get_read (xs ++ x ∷ []) (length (xs ++ x ∷ [])) (length xs) x refl (omega (arith, Rattle.std.proofs.lemmas.List.length-append xs (x ∷ []))) (sym (get_or-append_seam xs x [] x))

pub answered_of : (settled : Settled) (g : ℕ) (J : List Event) (h : ℕ) (t : Txn) (m s f count gate : ℕ) → (after J).waiting ≡ [] → count ≡ sum_by one_ticket J → gate ≡ (book g J).gate → IsReceipt settled count gate
    → IsAnswered settled t (sum_by one_ticket J) (outcome_of g (J ++ commit_events h t (is_stored settled) m s f) (sum_by one_ticket J))
answered_of (Stored r) g J h t m s f count gate none is at p =
    let n : ℕ = sum_by one_ticket J in
    let k = book g J in (
      p.0 ∙ is,
      ap (λ b. slice_get b.outcomes n) (book_commit g J h t true m s f none)
          ∙ last_of k.outcomes n (record { txn = t; place = Some (capped (k.gate + 13)) }) (sym (counted g J none))
          ∙ ap (λ (a : ℕ). Some (record { txn = t; place = Some a })) (sym (p.1 ∙ ap (λ (a : ℕ). min (a + 13) last_count) at)),
    )
answered_of Failed g J h t m s f count gate none is at p =
    let n : ℕ = sum_by one_ticket J in
    let k = book g J in
    ap (λ b. slice_get b.outcomes n) (book_commit g J h t false m s f none) ∙ last_of k.outcomes n (record { txn = t; place = None }) (sym (counted g J none))

pub has_outcome : (g : ℕ) (J : List Event) (ticket count : ℕ) → (after J).waiting ≡ [] → count ≡ sum_by one_ticket J → ticket < count → (o : Outcome) × (outcome_of g J ticket ≡ Some o)
has_outcome g J ticket count none is less = (
  _,
  slice_get-get_or (book g J).outcomes ticket (record { txn = []; place = None }) (omega (arith, is, less, counted g J none)),
)

module _ {D : Type 0} (seen : D → Option (List ℕ)) (images : D → List ℕ → Type 0) (moment : D → ℕ) (since : D → ℕ → List ℕ → Type 0) (trail : D → Option Trail) (faults syncs : D → ℕ) where
  -- ---- what is owed

  pub owes_commit : (b : Begun) (v w : View Begun Event) (old new : Desk D) (h : ℕ) (t : Txn) (ok : Bool) (m s f : ℕ) → Took (commit_tale seen images moment since trail faults syncs) b v w old → 1 ≤ w.share
      → Goes seen images moment since trail faults syncs old new (commit_events h t ok m s f) → Owes (commit_tale seen images moment since trail faults syncs) b h w new (commit_events h t ok m s f) w.allowance (w.share - 1)
  owes_commit b v w old new h t ok m s f took share goes =
      let g = goes b w.seen took.legal took.stands in
      let es = commit_events h t ok m s f in
      record {
        mine = λ k off. other_sub k h t 1 ok m s f off;
        legal = g.0;
        stands = g.1;
        allowed = omega arith;
        shared = omega (arith, share, sum_by-append one_ticket w.seen es, sum_by-cons one_ticket (Sub h t) (Settle 1 ok m s f ∷ []), sum_by-cons one_ticket (Settle 1 ok m s f) []);
      }

  pub owes_read : {T E : Type 0} (b : Begun) (v w : View Begun Event) (old new : Desk D) (h : ℕ) (r : Result T E) (f : ℕ) → Took (commit_tale seen images moment since trail faults syncs) b v w old
      → Goes seen images moment since trail faults syncs old new (read_events h r f) → Owes (commit_tale seen images moment since trail faults syncs) b h w new (read_events h r f) w.allowance w.share
  owes_read b v w old new h (Ok x) f took goes =
      let g = goes b w.seen took.legal took.stands in
      record { mine = λ k off. refl; legal = g.0; stands = g.1; allowed = omega arith; shared = omega (arith, sum_by-append one_ticket w.seen []) }
  owes_read b v w old new h (Err e) f took goes =
      let g = goes b w.seen took.legal took.stands in
      record { mine = λ k off. other_lost k h f off; legal = g.0; stands = g.1; allowed = omega arith; shared = omega (arith, sum_by-append one_ticket w.seen (Lost h f ∷ []), sum_by-cons one_ticket (Lost h f) []) }

  pub owes_nothing : (b : Begun) (v w : View Begun Event) (desk : Desk D) (h : ℕ) → Took (commit_tale seen images moment since trail faults syncs) b v w desk → Owes (commit_tale seen images moment since trail faults syncs) b h w desk [] w.allowance w.share
  owes_nothing b v w desk h took = record {
    mine = λ k off. refl;
    legal = subst Legal (sym (append-nil w.seen)) took.legal;
    stands = subst (AtDesk seen images moment since trail faults syncs b desk) (sym (append-nil w.seen)) took.stands;
    allowed = omega arith;
    shared = omega (arith, sum_by-append one_ticket w.seen []);
  }

  -- ---- what was done

  -- a view after a turn, by what it was before
  turned : (v w u : View Begun Event) (es : List Event) (share : ℕ) → v.holding ≡ false → w ≡ record v { holding = true; seen = w.seen } → u ≡ given es w.allowance share w → u ≡ record v { share = u.share; turns = v.turns + 1; told = []; seen = u.seen }
  turned v w u es share idle took gave =
      let allowance : w.allowance ≡ v.allowance = ap (λ (x : View Begun Event). x.allowance) took in
      let left : share ≡ u.share = sym (ap (λ (x : View Begun Event). x.share) gave) in
      let saw : w.seen ++ es ≡ u.seen = sym (ap (λ (x : View Begun Event). x.seen) gave) in
      gave ∙ (ap (given es w.allowance share) took ∙ (λ i. record v { allowance = allowance i; share = left i; turns = v.turns + 1; holding = sym idle i; told = []; seen = saw i }))

  pub did_commit : (v w u : View Begun Event) (desk : Desk D) (h : ℕ) (t : Txn) (settled : Settled) → v.holding ≡ false → 1 ≤ v.share → Took (commit_tale seen images moment since trail faults syncs) (begun_in v) v w desk → Wrote (begun_in w) h t settled w u
      → DidCommit seen images moment since trail faults syncs (begun_in v) h t settled v u
  did_commit v w u desk h t settled idle share took wrote_then =
      let wrote : Wrote (begun_in v) h t settled w u = subst (λ (b : Begun). Wrote b h t settled w u) (ap begun_in took.view) wrote_then in
      let same : w.share ≡ v.share = ap (λ (x : View Begun Event). x.share) took.view in
      let left : u.share ≡ w.share - 1 = ap (λ (x : View Begun Event). x.share) wrote.gave in
      record {
        before = w.seen;
        later = took.later;
        moment_then = wrote.moment_then;
        rise_of_syncs = wrote.rise_of_syncs;
        rise_of_faults = wrote.rise_of_faults;
        adds = ap (λ (x : View Begun Event). x.seen) wrote.gave;
        few_syncs = wrote.few_syncs;
        quick = wrote.quick;
        legal = wrote.legal;
        answered = wrote.answered;
        share = omega (arith, same, left, share);
        within = (
            let es = commit_events h t (is_stored settled) wrote.moment_then wrote.rise_of_syncs wrote.rise_of_faults in
            let saw : sum_by one_ticket u.seen ≡ sum_by one_ticket (w.seen ++ es) = ap (λ (x : View Begun Event). sum_by one_ticket x.seen) wrote.gave in
            let most : (begun_in u).tickets ≡ (begun_in v).tickets = ap (λ (x : View Begun Event). (begun_in x).tickets) wrote.gave ∙ ap (λ (x : View Begun Event). (begun_in x).tickets) took.view in
            let shared = took.shared in
            omega (arith, same, left, share, saw, most, shared, sum_by-append one_ticket w.seen es, sum_by-cons one_ticket (Sub h t) (Settle 1 (is_stored settled) wrote.moment_then wrote.rise_of_syncs wrote.rise_of_faults ∷ []), sum_by-cons one_ticket (Settle 1 (is_stored settled) wrote.moment_then wrote.rise_of_syncs wrote.rise_of_faults) [])
            );
        view = turned v w u _ (w.share - 1) idle took.view wrote.gave;
      }

  pub did_read : (v w u : View Begun Event) (desk : Desk D) (h at len : ℕ) (r : Result Unit DeviceFault) (bytes : List ℕ) → v.holding ≡ false → Took (commit_tale seen images moment since trail faults syncs) (begun_in v) v w desk → Told h r w u
      → OnOk r (IsRead seen images moment since trail faults syncs (begun_in w) w.seen at len bytes) → DidRead seen images moment since trail faults syncs (begun_in v) h at len r bytes v u
  did_read v w u desk h at len r bytes idle took told read =
      let same : w.share ≡ v.share = ap (λ (x : View Begun Event). x.share) took.view in
      record {
        before = w.seen;
        later = took.later;
        rise_of_faults = told.rise_of_faults;
        adds = ap (λ (x : View Begun Event). x.seen) told.gave;
        legal = told.legal;
        within = (
            let es = read_events h r told.rise_of_faults in
            let left : u.share ≡ w.share = ap (λ (x : View Begun Event). x.share) told.gave in
            let saw : sum_by one_ticket u.seen ≡ sum_by one_ticket (w.seen ++ es) = ap (λ (x : View Begun Event). sum_by one_ticket x.seen) told.gave in
            let most : (begun_in u).tickets ≡ (begun_in v).tickets = ap (λ (x : View Begun Event). (begun_in x).tickets) told.gave ∙ ap (λ (x : View Begun Event). (begun_in x).tickets) took.view in
            let shared = took.shared in
            omega (arith, same, left, saw, most, shared, sum_by-append one_ticket w.seen es, no_tickets h r told.rise_of_faults)
            );
        read = subst (λ (b : Begun). OnOk r (IsRead seen images moment since trail faults syncs b w.seen at len bytes)) (ap begun_in took.view) read;
        view = turned v w u _ w.share idle took.view told.gave ∙ ap (λ (s : ℕ). record v { share = s; turns = v.turns + 1; told = []; seen = u.seen }) (ap (λ (x : View Begun Event). x.share) told.gave ∙ same);
      }

  pub did_look : (v w u : View Begun Event) (desk : Desk D) → v.holding ≡ false → Took (commit_tale seen images moment since trail faults syncs) (begun_in v) v w desk → u ≡ given [] w.allowance w.share w → DidLook seen images moment since trail faults syncs v u
  did_look v w u desk idle took gave =
      let saw : w.seen ≡ u.seen = sym (append-nil w.seen) ∙ sym (ap (λ (x : View Begun Event). x.seen) gave) in
      let same : w.share ≡ v.share = ap (λ (x : View Begun Event). x.share) took.view in
      let left : u.share ≡ v.share = ap (λ (x : View Begun Event). x.share) gave ∙ same in
      let turns : v.turns + 1 ≡ u.turns = sym (ap (λ (x : View Begun Event). x.turns) (turned v w u [] w.share idle took.view gave)) in
      record {
        later = subst (Later (commit_tale seen images moment since trail faults syncs) v) saw took.later;
        legal = subst Legal saw took.legal;
        within = (
            let seen_now : sum_by one_ticket u.seen ≡ sum_by one_ticket w.seen = ap (sum_by one_ticket) (sym saw) in
            let most : (begun_in u).tickets ≡ (begun_in v).tickets = ap (λ (x : View Begun Event). (begun_in x).tickets) gave ∙ ap (λ (x : View Begun Event). (begun_in x).tickets) took.view in
            let shared = took.shared in
            omega (arith, left, seen_now, most, shared)
            );
        view = turned v w u [] w.share idle took.view gave ∙ (λ i. record v { share = left i; turns = turns i; told = []; seen = u.seen });
      }

  -- looks one after the other: what was seen is longer, and else the pass is the same
  pub record Followed (v w : View Begun Event) : Type 0 where
    pub later : Later (commit_tale seen images moment since trail faults syncs) v w.seen
    pub view : w ≡ record v { turns = w.turns; told = w.told; seen = w.seen }

  pub follows_self : (v : View Begun Event) → Followed v v
  follows_self v = record { later = record { prefix = prefix_self v.seen; same = λ k has. refl }; view = refl }

  pub looked_then : (v w u : View Begun Event) → Followed v w → DidLook seen images moment since trail faults syncs w u → DidLook seen images moment since trail faults syncs v u
  looked_then v w u f d =
      let callers : w.callers ≡ v.callers = ap (λ (x : View Begun Event). x.callers) f.view in
      record {
        later = record {
          prefix = prefix_trans v.seen w.seen u.seen f.later.prefix d.later.prefix;
          same = λ k has. d.later.same k (subst (Has k) (sym callers) has) ∙ f.later.same k has;
        };
        legal = d.legal;
        within = d.within;
        view = d.view ∙ ap (λ (x : View Begun Event). record x { turns = u.turns; told = []; seen = u.seen }) f.view;
      }

  pub follows_look : (v w : View Begun Event) → DidLook seen images moment since trail faults syncs v w → Followed v w
  follows_look v w d =
      let none : [] ≡ w.told = sym (ap (λ (x : View Begun Event). x.told) d.view) in
      record { later = d.later; view = d.view ∙ (λ i. record v { turns = w.turns; told = none i; seen = w.seen }) }

  -- a live pass stays one
  pub live_after : (v w : View Begun Event) (caller : ℕ) → Followed v w → (v.opening ≡ Some (begun_in v)) × (v.callers ≡ caller ∷ rest_of v.callers) → (w.opening ≡ Some (begun_in w)) × (w.callers ≡ caller ∷ rest_of w.callers)
  live_after v w caller f l = subst (λ (x : View Begun Event). (x.opening ≡ Some (begun_in x)) × (x.callers ≡ caller ∷ rest_of x.callers)) (sym f.view) l

  -- ---- with the journal in hand

  pub live_took : (v w : View Begun Event) (desk : Desk D) (caller : ℕ) → (v.opening ≡ Some (begun_in v)) × (v.callers ≡ caller ∷ rest_of v.callers) → Took (commit_tale seen images moment since trail faults syncs) (begun_in v) v w desk
      → (w.opening ≡ Some (begun_in w)) × (w.callers ≡ caller ∷ rest_of w.callers)
  live_took v w desk caller l t = subst (λ (x : View Begun Event). (x.opening ≡ Some (begun_in x)) × (x.callers ≡ caller ∷ rest_of x.callers)) (sym t.view) l

  pub took_in : (v w : View Begun Event) (desk : Desk D) → Took (commit_tale seen images moment since trail faults syncs) (begun_in v) v w desk → Took (commit_tale seen images moment since trail faults syncs) (begun_in w) v w desk
  took_in v w desk t = subst (λ (b : Begun). Took (commit_tale seen images moment since trail faults syncs) b v w desk) (sym (ap begun_in t.view)) t

  pub owed_by : (v : View Begun Event) (h : ℕ) (new : Desk D) (es : List Event) (allowance share : ℕ) → (v.opening ≡ Some (begun_in v)) × (v.callers ≡ h ∷ rest_of v.callers) → Owes (commit_tale seen images moment since trail faults syncs) (begun_in v) h v new es allowance share
      → (b : Begun) × (l : Live b v) × Owes (commit_tale seen images moment since trail faults syncs) b l.caller v new es allowance share
  owed_by v h new es allowance share l owes = (begun_in v, record { opening = l.0; caller = h; ended = rest_of v.callers; speaks = l.1 }, owes)

  pub wrote_of : (v w u : View Begun Event) (old new : Desk D) (h : ℕ) (t : Txn) (settled : Settled) (m s f : ℕ) → Took (commit_tale seen images moment since trail faults syncs) (begun_in w) v w old → s ≤ 3 → (old.journal.trust ≡ Clean → s ≤ 2)
      → Goes seen images moment since trail faults syncs old new (commit_events h t (is_stored settled) m s f) → IsReceipt settled old.count old.journal.gate → u ≡ given (commit_events h t (is_stored settled) m s f) w.allowance (w.share - 1) w
      → Wrote (begun_in w) h t settled w u
  wrote_of v w u old new h t settled m s f took few quick goes receipt gave =
      let g = goes (begun_in w) w.seen took.legal took.stands in
      let saw : w.seen ++ commit_events h t (is_stored settled) m s f ≡ u.seen = sym (ap (λ (x : View Begun Event). x.seen) gave) in
      let a = took.stands in
      record {
        moment_then = m;
        rise_of_syncs = s;
        rise_of_faults = f;
        few_syncs = few;
        quick = λ sound. quick (a.carries.clean.1 sound);
        gave = gave;
        legal = subst Legal saw g.0;
        answered = subst (λ (l : List Event). IsAnswered settled t (sum_by one_ticket w.seen) (outcome_of (begun_in w).gate l (sum_by one_ticket w.seen))) saw
            (answered_of settled (begun_in w).gate w.seen h t m s f old.count old.journal.gate a.carries.settled a.count a.carries.gate receipt);
      }

  pub told_by : (v w u : View Begun Event) (old new : Desk D) (h : ℕ) (r : Result Unit DeviceFault) (f : ℕ) → Took (commit_tale seen images moment since trail faults syncs) (begun_in w) v w old
      → Goes seen images moment since trail faults syncs old new (read_events h r f) → u ≡ given (read_events h r f) w.allowance w.share w → Told h r w u
  told_by v w u old new h r f took goes gave =
      let g = goes (begun_in w) w.seen took.legal took.stands in
      record { rise_of_faults = f; gave = gave; legal = subst Legal (sym (ap (λ (x : View Begun Event). x.seen) gave)) g.0 }

  pub is_read : (v w : View Begun Event) (old new : Desk D) (h at len : ℕ) (r : Result Unit DeviceFault) (f : ℕ) (bytes : List ℕ) → Took (commit_tale seen images moment since trail faults syncs) (begun_in w) v w old
      → Goes seen images moment since trail faults syncs old new (read_events h r f) → OnOk r (IfSome (seen new.journal.disk) (λ x. bytes ≡ padded len (drop at x))) → OnOk r (IsRead seen images moment since trail faults syncs (begun_in w) w.seen at len bytes)
  is_read v w old new h at len (Ok x) f bytes took goes given =
      let g = goes (begun_in w) w.seen took.legal took.stands in
      record { journal = new.journal; carries = subst (Carries seen images moment since trail faults syncs (begun_in w) new.journal) (append-nil w.seen) g.1.carries; are = given }
  is_read v w old new h at len (Err e) f bytes took goes given = tt

  -- the counts from before, as the caller picked them
  pub goes_as : (old new : Desk D) (h : ℕ) (t : Txn) (ok : Bool) (m s f a b x y : ℕ) → a ≡ x → b ≡ y → Goes seen images moment since trail faults syncs old new (commit_events h t ok m (s - x) (f - y)) → Goes seen images moment since trail faults syncs old new (commit_events h t ok m (s - a) (f - b))
  goes_as old new h t ok m s f a b x y is same goes = subst (λ (z : ℕ × ℕ). Goes seen images moment since trail faults syncs old new (commit_events h t ok m (s - z.0) (f - z.1))) (λ i. (sym is i, sym same i)) goes

  pub reads_as : (old new : Desk D) (h : ℕ) (r : Result Unit DeviceFault) (f b y : ℕ) → b ≡ y → Goes seen images moment since trail faults syncs old new (read_events h r (f - y)) → Goes seen images moment since trail faults syncs old new (read_events h r (f - b))
  reads_as old new h r f b y same goes = subst (λ (z : ℕ). Goes seen images moment since trail faults syncs old new (read_events h r (f - z))) (sym same) goes

  -- a ticket below the count has its outcome in what a look has seen
  pub looked_outcome : (v w u : View Begun Event) (desk : Desk D) (ticket : ℕ) → Took (commit_tale seen images moment since trail faults syncs) (begun_in v) v w desk → u ≡ given [] w.allowance w.share w → ticket < desk.count
      → (o : Outcome) × (outcome_of (begun_in u).gate u.seen ticket ≡ Some o)
  looked_outcome v w u desk ticket took gave less =
      let a = took.stands in
      let saw : w.seen ≡ u.seen = sym (append-nil w.seen) ∙ sym (ap (λ (x : View Begun Event). x.seen) gave) in
      let same : begun_in v ≡ begun_in u = sym (ap begun_in took.view) ∙ sym (ap begun_in gave) in
      subst (λ (z : Begun × List Event). (o : Outcome) × (outcome_of z.0.gate z.1 ticket ≡ Some o)) (λ i. (same i, saw i)) (has_outcome (begun_in v).gate w.seen ticket desk.count a.carries.settled a.count less)
