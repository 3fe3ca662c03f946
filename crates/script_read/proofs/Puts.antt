-- the set of puts beside the lines
use Rattle.std.proofs.Common.{◌≡◌, ℕ, Bool, true, false, cond, ◌&&◌, ◌||◌, nat_eq, List, [], ◌∷◌, ◌++◌, refl, sym, ap, ◌∙◌}
use Rattle.std.specs.List.{list_any}
use Rattle.std.specs.Ordering.{nat_cmp, is_eq}
use Rattle.std.specs.BTreeSet.{BTreeSet, contains}
use Rattle.std.specs.Cmp.{unsigned_tied, both_tied}
use Rattle.std.proofs.lemmas.List.Folds.{list_any-append}
use Rattle.message_core.specs.Spelling.{Content}
use Rattle.script_read.specs.Scripts.{is_put_of, puts_this}
use Rattle.script_read.specs.SoFar.{HasPuts, put_cmp}
use Rattle.script_read.specs.declared.lines.Line.{Line}
use Rattle.script_read.specs.declared.lines.Line.TheVariants.{Rest, Doing}
use Rattle.script_read.specs.declared.lines.Op.{Op}
use Rattle.script_read.specs.declared.lines.What.{What}
use Rattle.script_read.specs.declared.lines.What.TheVariants.{Put, Take, Close, Ack, Release, Lock, Unlock, Steal, Begin, Commit, Rollback}

or_nothing : (b : Bool) → b ≡ (b || (false || false))
or_nothing true = refl
or_nothing false = refl

or_last : (a b : Bool) → cond a true b ≡ (b || (a || false))
or_last true true = refl
or_last true false = refl
or_last false true = refl
or_last false false = refl

any_more : (queue id : ℕ) (before : List Line) (l : Line) → list_any (puts_this queue id) (before ++ l ∷ []) ≡ (list_any (puts_this queue id) before || (puts_this queue id l || false))
any_more queue id before l = list_any-append (puts_this queue id) before (l ∷ [])

-- a line that puts nothing
other_more : (puts : BTreeSet (ℕ × ℕ)) (before : List Line) (l : Line) → ((queue id : ℕ) → puts_this queue id l ≡ false) → HasPuts puts before → HasPuts puts (before ++ l ∷ [])
other_more puts before l none h = record {
  has = λ queue id.
      h.has queue id ∙ or_nothing (list_any (puts_this queue id) before)
      ∙ ap (λ b. list_any (puts_this queue id) before || (b || false)) (sym (none queue id)) ∙ sym (any_more queue id before l);
}

pub rest_more : (puts : BTreeSet (ℕ × ℕ)) (before : List Line) → HasPuts puts before → HasPuts puts (before ++ Rest ∷ [])
rest_more puts before h = other_more puts before Rest (λ queue id. refl) h

puts_none : (w : What) → ((q : ℕ) (m : Content) → w ≡ Put q m → ⊥) → (queue id : ℕ) → is_put_of queue id w ≡ false
puts_none (Put q m) none queue id = absurd (none q m refl)
puts_none (Take c) none queue id = refl
puts_none (Close c) none queue id = refl
puts_none (Ack q i) none queue id = refl
puts_none (Release q i) none queue id = refl
puts_none (Lock q i) none queue id = refl
puts_none (Unlock q i) none queue id = refl
puts_none (Steal q i) none queue id = refl
puts_none Begin none queue id = refl
puts_none Commit none queue id = refl
puts_none Rollback none queue id = refl

pub no_put_more : (puts : BTreeSet (ℕ × ℕ)) (before : List Line) (op : Op) → ((q : ℕ) (m : Content) → op.what ≡ Put q m → ⊥) → HasPuts puts before → HasPuts puts (before ++ Doing op ∷ [])
no_put_more puts before op none h = other_more puts before (Doing op) (puts_none op.what none) h

-- a put is in the set
same_put : (q i queue id : ℕ) → is_eq (put_cmp (q, i) (queue, id)) ≡ (nat_eq q queue && nat_eq i id)
same_put q i queue id = sym (both_tied (nat_eq q queue) (nat_eq i id) (nat_cmp q queue) (nat_cmp i id) (sym (unsigned_tied q queue)) (sym (unsigned_tied i id)))

pub put_more : (puts new : BTreeSet (ℕ × ℕ)) (before : List Line) (op : Op) (q i : ℕ) (m : Content) → op.what ≡ Put q m → i ≡ m.id → ((k : ℕ × ℕ) → contains put_cmp new k ≡ cond (is_eq (put_cmp (q, i) k)) true (contains put_cmp puts k)) → HasPuts puts before → HasPuts new (before ++ Doing op ∷ [])
put_more puts new before op q i m is same more h = record {
  has = λ queue id.
      more (queue, id) ∙ ap (λ b. cond b true (contains put_cmp puts (queue, id))) (same_put q i queue id ∙ ap (λ j. nat_eq q queue && nat_eq j id) same)
      ∙ ap (λ b. cond (nat_eq q queue && nat_eq m.id id) true b) (h.has queue id)
      ∙ or_last (nat_eq q queue && nat_eq m.id id) (list_any (puts_this queue id) before)
      ∙ ap (λ (w : What). list_any (puts_this queue id) before || (is_put_of queue id w || false)) (sym is)
      ∙ sym (any_more queue id before (Doing op));
}
