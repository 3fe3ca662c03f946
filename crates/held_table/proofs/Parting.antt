-- passes that are split off, joined and told
use Rattle.std.proofs.Common.{⊎_elim, inl, ◌≡◌, ◌≢◌, ℕ, zero, suc, ◌+◌, ◌-◌, ◌<◌, ◌≤◌, false, List, [], ◌∷◌, ◌++◌, refl, sym, ap, ◌∙◌, subst, arith, Some}
use mathlib.Core.List.{IsPrefix, Mem}
use Rattle.queue_model.specs.declared.deeds.Deed.{Deed}
use Rattle.queue_model.specs.declared.queues.Queue.{Queue}
use Rattle.queue_model.specs.History.{Legal, own}
use Rattle.acts_core.specs.Kept.{Kept}
use Rattle.acts_core.specs.Sight.{Sight}
use Rattle.history_lock.specs.declared.view.View.{View}
use Rattle.history_lock.specs.Plays.{Later, Looked, Numbered, Cuts, Live, Unmade, behind, cut_left, cut_right, drop_second, second_of, merged, told}
use Rattle.history_lock.specs.Views.{Has, Leads}
use Rattle.held_table.specs.declared.view.Outset.{Outset}
use Rattle.held_table.specs.Parts.{IsSplit, Grew, IsJoined, IsMet}
use Rattle.held_table.specs.Seats.{Parted, Knows, Merged, Told}
use Rattle.held_table.specs.Sights.{Sits, sight_by}
use Rattle.held_table.specs.Tales.{core_tale, IsHistory}
use Rattle.held_table.specs.Views.{is_in, not_in, outset_in, outset_or, rest_of}
use Rattle.held_table.proofs.Calling.{sits_on}
use Rattle.held_table.proofs.Members.{mem_has, has_mem, kept_has, has_append, ended_has, has_in}

-- a joined or told view is alive
pub live_merged : (v w m : View Outset Deed) (h : ℕ) → v.opening ≡ Some (outset_in v) → v.callers ≡ h ∷ rest_of v.callers → m ≡ merged v w → (O : Outset) × Live O m
live_merged v w m h begun is e = (
  outset_in v,
  record {
    opening = ap (λ (x : View Outset Deed). x.opening) e ∙ begun;
    caller = h;
    ended = rest_of v.callers ++ w.callers;
    speaks = ap (λ (x : View Outset Deed). x.callers) e ∙ ap (λ (l : List ℕ). l ++ w.callers) is;
  },
)

pub live_told : (v w m : View Outset Deed) (h : ℕ) → v.opening ≡ Some (outset_in v) → v.callers ≡ h ∷ rest_of v.callers → m ≡ told v w → (O : Outset) × Live O m
live_told v w m h begun is e = (
  outset_in v,
  record { opening = ap (λ (x : View Outset Deed). x.opening) e ∙ begun; caller = h; ended = rest_of v.callers; speaks = ap (λ (x : View Outset Deed). x.callers) e ∙ is },
)

module _ {Q : Type 0} (keeps : Q → Kept) where
  -- Splitting

  module _ (v m w u : View Outset Deed) (cs : List ℕ) (n number : ℕ) (begun : v.opening ≡ Some (outset_in v)) (is : v.callers ≡ 0 ∷ rest_of v.callers) (d : Numbered (core_tale keeps) (outset_in v) v m number) where
    -- after the draw
    callers_now : m.callers ≡ 0 ∷ number ∷ rest_of v.callers
    callers_now = ap (λ (x : View Outset Deed). x.callers) d.view ∙ ap (behind number) is

    pub speaks_two : m.callers ≡ 0 ∷ number ∷ rest_of (rest_of m.callers)
    speaks_two = callers_now ∙ ap (λ (l : List ℕ). 0 ∷ number ∷ rest_of (rest_of l)) (sym callers_now)

    apart_old : ¬ (Has number (0 ∷ rest_of v.callers))
    apart_old has = d.apart number (subst (Has number) (sym is) has) refl

    pub apart_two : ¬ (Has number (0 ∷ rest_of (rest_of m.callers)))
    apart_two has = apart_old (subst (λ (l : List ℕ). Has number (0 ∷ rest_of (rest_of l))) callers_now has)

    pub some : 0 < number
    some = positive number (d.apart 0 (subst (Has 0) (sym is) (inl refl)))
      where
        positive : (k : ℕ) → 0 ≢ k → 0 < k
        positive zero off = absurd (off refl)
        positive (suc k) off = omega arith

    pub opening_two : m.opening ≡ Some (outset_in m)
    opening_two = let e : m.opening ≡ v.opening = ap (λ (x : View Outset Deed). x.opening) d.view in e ∙ begun ∙ ap (λ (o : _). Some (outset_or o)) (sym e)

    pub parted : w ≡ cut_left n n (not_in cs m.consumers) m → u ≡ cut_right n n cs m → v.holding ≡ false → Parted keeps v w u cs n number
    parted left right idle =
        let seen : w.seen ≡ m.seen = ap (λ (x : View Outset Deed). x.seen) left in record {
          drawn = d.number;
          later = subst (Later (core_tale keeps) v) (sym seen) d.later;
          history = subst (IsHistory (outset_in v)) (sym seen) d.legal;
          unmade = subst (Unmade (core_tale keeps) v) (sym seen) d.unmade;
          boss = λ i. record {
            opening = (ap (λ (x : View Outset Deed). x.opening) left ∙ ap (λ (x : View Outset Deed). x.opening) d.view) i;
            callers = (ap (λ (x : View Outset Deed). x.callers) left ∙ ap drop_second callers_now ∙ sym is) i;
            made = (ap (λ (x : View Outset Deed). x.made) left ∙ ap (λ (x : View Outset Deed). x.made) d.view ∙ ap (λ (k : ℕ). k + 1) d.number) i;
            consumers = (ap (λ (x : View Outset Deed). x.consumers) left ∙ ap (λ (x : View Outset Deed). not_in cs x.consumers) d.view) i;
            allowance = (ap (λ (x : View Outset Deed). x.allowance) left ∙ ap (λ (x : View Outset Deed). x.allowance - n) d.view) i;
            share = (ap (λ (x : View Outset Deed). x.share) left ∙ ap (λ (x : View Outset Deed). x.share - n) d.view) i;
            turns = (ap (λ (x : View Outset Deed). x.turns) left ∙ ap (λ (x : View Outset Deed). x.turns) d.view) i;
            holding = (ap (λ (x : View Outset Deed). x.holding) left ∙ ap (λ (x : View Outset Deed). x.holding) d.view) i;
            told = ap (λ (x : View Outset Deed). x.told) left i;
            seen = w.seen;
          };
          new = λ i. record {
            opening = (ap (λ (x : View Outset Deed). x.opening) right ∙ ap (λ (x : View Outset Deed). x.opening) d.view) i;
            callers = (ap (λ (x : View Outset Deed). x.callers) right ∙ ap (λ (l : List ℕ). second_of l ∷ []) callers_now ∙ ap (λ (k : ℕ). k ∷ []) d.number) i;
            made = ap (λ (x : View Outset Deed). x.made) right i;
            consumers = ap (λ (x : View Outset Deed). x.consumers) right i;
            allowance = ap (λ (x : View Outset Deed). x.allowance) right i;
            share = ap (λ (x : View Outset Deed). x.share) right i;
            turns = ap (λ (x : View Outset Deed). x.turns) right i;
            holding = ap (λ (x : View Outset Deed). x.holding) right i;
            told = ap (λ (x : View Outset Deed). x.told) right i;
            seen = (ap (λ (x : View Outset Deed). x.seen) right ∙ sym seen) i;
          };
        }

  -- what is cut off
  pub cuts : (v : View Outset Deed) (cs : List ℕ) (n drawn : ℕ) → v.callers ≡ 0 ∷ drawn ∷ rest_of (rest_of v.callers) → ¬ (Has drawn (0 ∷ rest_of (rest_of v.callers))) → 0 < drawn → ((c : ℕ) → Has c cs → Has c v.consumers) → n ≤ v.allowance → n ≤ v.share
      → (ended : List ℕ) × Cuts v 0 drawn n n ended (not_in cs v.consumers) cs (λ c. is_in c cs)
  cuts v cs n drawn is apart some has a b = (
    rest_of (rest_of v.callers),
    record { speaks = is; apart = apart; allowance = a; share = b; number = some; keeps = λ c x. kept_has c cs v.consumers x; moves = λ c x. (has c x, has_in c cs x) },
  )

  module _ (v w u : View Outset Deed) (cs : List ℕ) (n number : ℕ) (p : Parted keeps v w u cs n number) (is : v.callers ≡ 0 ∷ rest_of v.callers) (sits : Sits v) where
    pub is_split : IsSplit (sight_by 0 v) (sight_by 0 w) (sight_by number u) cs n
    is_split = record {
      grows = p.later.prefix;
      legal = p.history.legal;
      own_acts = p.later.same 0 (subst (Has 0) (sym is) (inl refl));
      unmade = p.unmade (subst Leads (sym is) refl);
      boss_is = λ i. record {
        opening = (outset_in (p.boss i)).opening;
        caller = 0;
        consumers = (p.boss i).consumers;
        allowance = (p.boss i).allowance;
        share = (p.boss i).share;
        ended = rest_of (p.boss i).callers;
        made = (p.boss i).made;
        seen = w.seen;
        shown = [];
        turns = (p.boss i).turns;
      };
      new_is = λ i. record {
        opening = (outset_in (p.new i)).opening;
        caller = p.drawn i;
        consumers = (p.new i).consumers;
        allowance = (p.new i).allowance;
        share = (p.new i).share;
        ended = rest_of (p.new i).callers;
        made = (p.new i).made;
        seen = (p.new i).seen;
        shown = [];
        turns = (p.new i).turns;
      };
    }

    pub sits_boss : Sits w
    sits_boss = sits_on v w (ap (λ (x : View Outset Deed). x.opening) p.boss)
        (λ c m. sits.consumers c (has_mem c v.consumers (kept_has c cs v.consumers (mem_has c (not_in cs v.consumers) (subst (Mem c) (ap (λ (x : View Outset Deed). x.consumers) p.boss) m))).0))
        p.history sits

    pub sits_new : ((c : ℕ) → Mem c cs → Mem c v.consumers) → Sits u
    sits_new has = sits_on v u (ap (λ (x : View Outset Deed). x.opening) p.new)
        (λ c m. sits.consumers c (has c (subst (Mem c) (ap (λ (x : View Outset Deed). x.consumers) p.new) m)))
        (subst (IsHistory (outset_in v)) (sym (ap (λ (x : View Outset Deed). x.seen) p.new)) p.history) sits

  -- Joining

  leads_front : (h : ℕ) (xs ys : List ℕ) → xs ≡ h ∷ rest_of xs → Leads xs → Leads (xs ++ ys)
  leads_front h xs ys is leads = subst (λ (l : List ℕ). Leads (l ++ ys)) (sym is) (subst Leads is leads)

  pub merged_of : (v w m u : View Outset Deed) (h : ℕ) → v.opening ≡ Some (outset_in v) → v.callers ≡ h ∷ rest_of v.callers → m ≡ merged v w → Looked (core_tale keeps) (outset_in v) m u → Merged keeps v w u
  merged_of v w m u h begun is e looked = from_merged (subst (λ (z : View Outset Deed). Looked (core_tale keeps) (outset_in v) z u) e looked)
    where
      from_merged : Looked (core_tale keeps) (outset_in v) (merged v w) u → Merged keeps v w u
      from_merged l = record {
        knows = record {
          history = l.legal;
          mine = l.learned.0;
          theirs = l.learned.1.0;
          unmade = λ leads k high. l.unmade (leads_front h v.callers w.callers is leads) k high;
        };
        shared = l.shared;
        view = l.waited.view;
      }

  pub told_by : (v w m u : View Outset Deed) → m ≡ told v w → Looked (core_tale keeps) (outset_in v) m u → Told keeps v w u
  told_by v w m u e looked = from_told (subst (λ (z : View Outset Deed). Looked (core_tale keeps) (outset_in v) z u) e looked)
    where
      from_told : Looked (core_tale keeps) (outset_in v) (told v w) u → Told keeps v w u
      from_told l = record {
        knows = record { history = l.legal; mine = l.learned.0; theirs = l.learned.1.0; unmade = λ leads k high. l.unmade leads k high };
        view = l.waited.view;
      }

  -- what a pass knows then
  grew : (v w u : View Outset Deed) (h : ℕ) (new : Sight) → v.callers ≡ h ∷ rest_of v.callers → Knows keeps v w u.seen → new.seen ≡ u.seen → Grew (sight_by h v) new
  grew v w u h new is k e = record {
    grows = subst (IsPrefix v.seen) (sym e) k.mine.prefix;
    legal = subst (Legal (outset_in v).opening) (sym e) k.history.legal;
    own_acts = ap (own h) e ∙ k.mine.same h (subst (Has h) (sym is) (inl refl));
    ended_acts = λ j m. ap (own j) e ∙ k.mine.same j (ended_has j h v.callers is m);
    unmade = λ zero_me j high. ap (own j) e ∙ k.unmade (subst Leads (sym is) zero_me) j high;
  }

  module _ (v w u : View Outset Deed) (h j : ℕ) (is : v.callers ≡ h ∷ rest_of v.callers) (are : w.callers ≡ j ∷ rest_of w.callers) (m : Merged keeps v w u) where
    pub is_joined : IsJoined (sight_by h v) (sight_by j w) (sight_by h u)
    is_joined = record {
      grew = grew v w u h (sight_by h u) is m.knows refl;
      tells = m.knows.theirs.prefix;
      gone_acts = λ k x. m.knows.theirs.same k (subst (Has k) (sym are) (mem_has k (j ∷ rest_of w.callers) x));
      sight = λ i. record {
        opening = (outset_in (m.view i)).opening;
        caller = h;
        consumers = (m.view i).consumers;
        allowance = (m.view i).allowance;
        share = (m.view i).share;
        ended = (ap (λ (x : View Outset Deed). rest_of x.callers) m.view ∙ ap (λ (l : List ℕ). rest_of (l ++ w.callers)) is ∙ ap (λ (l : List ℕ). rest_of v.callers ++ l) are) i;
        made = (m.view i).made;
        seen = u.seen;
        shown = [];
        turns = (m.view i).turns;
      };
    }

    pub sits_merged : Sits v → Sits w → (outset_in w).opening ≡ (outset_in v).opening → Sits u
    sits_merged sv sw same = sits_on v u (ap (λ (x : View Outset Deed). x.opening) m.view)
        (λ c x. ⊎_elim
        (λ (a : Has c v.consumers). sv.consumers c (has_mem c v.consumers a))
        (λ (b : Has c w.consumers). subst (λ (o : Queue). c < o.consumers) same (sw.consumers c (has_mem c w.consumers b)))
        (has_append c v.consumers w.consumers (mem_has c (v.consumers ++ w.consumers) (subst (Mem c) (ap (λ (z : View Outset Deed). z.consumers) m.view) x))))
        m.knows.history sv

  module _ (v w u : View Outset Deed) (h : ℕ) (is : v.callers ≡ h ∷ rest_of v.callers) (m : Told keeps v w u) where
    pub is_met : (from : Sight) → from.seen ≡ w.seen → IsMet (sight_by h v) from (sight_by h u)
    is_met from e = record {
      grew = grew v w u h (sight_by h u) is m.knows refl;
      tells = subst (λ (l : List Deed). IsPrefix l u.seen) (sym e) m.knows.theirs.prefix;
      sight = λ i. record {
        opening = (outset_in (m.view i)).opening;
        caller = h;
        consumers = (m.view i).consumers;
        allowance = (m.view i).allowance;
        share = (m.view i).share;
        ended = rest_of (m.view i).callers;
        made = (m.view i).made;
        seen = u.seen;
        shown = [];
        turns = (m.view i).turns;
      };
    }

    pub sits_told : Sits v → Sits u
    sits_told sv = sits_on v u (ap (λ (x : View Outset Deed). x.opening) m.view)
        (λ c x. sv.consumers c (subst (Mem c) (ap (λ (z : View Outset Deed). z.consumers) m.view) x)) m.knows.history sv
