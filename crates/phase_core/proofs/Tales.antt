-- the stories of actors that have run
use Rattle.std.proofs.Common.{◌≡◌, ℕ, zero, suc, ◌+◌, ◌<◌, ◌≤◌, Some, List, [], ◌∷◌, length, map, get_or, slice_get, refl, sym, ap, ap₂, ◌∙◌, subst, arith}
use Rattle.std.proofs.lemmas.List.{length-map}
use Rattle.std.proofs.lemmas.Option.{same_Some, slice_get-map, slice_get_within}
use Rattle.std.specs.Option.{option_map}
use Rattle.queue_model.specs.declared.queues.Queue.{Queue}
use Rattle.queue_model.specs.History.{Legal}
use Rattle.acts_core.specs.Sight.{Build, Sight}
use Rattle.defs_read.specs.Defined.{Defined}
use Rattle.script_read.specs.declared.lines.Op.{Op}
use Rattle.report_core.specs.declared.answers.Answer.{Answer}
use Rattle.report_core.specs.declared.answers.Dropped.{Dropped}
use Rattle.target_core.specs.Seats.{Seats}
use Rattle.line_core.specs.Runs.{Ran, calls_on}
use Rattle.workers_core.specs.Phases.{HasRun}
use Rattle.phase_text.specs.declared.logs.Log.{Log}
use Rattle.account_core.specs.Laws.{LogTold}
use Rattle.account_core.specs.Played.{IsGathered, Joined}
use Rattle.account_core.specs.Settling.{AreStories}
use Rattle.account_core.specs.Stories.{Story, IsStory, calls_of}
use Rattle.account_core.specs.Texts.{LogsTell}
use Rattle.phase_core.specs.Joining.{AreOfCaller, HasJoined, HaveJoined, HaveReturned, IsOfCaller}
use Rattle.phase_core.specs.Playing.{AreUnused, HavePlayed}
use Rattle.phase_core.proofs.Histories.{by_actors}
use Rattle.phase_core.proofs.Places.{there}

-- Actors as what is seen of them: their names and lines, the numbers and answers in their logs, what they dropped, their passes and targets.
module _ {A : Type 0} (name : A → List ℕ) (ops : A → List Op) (log : A → List (ℕ × Answer)) (drops : A → List Dropped) (sights : A → List Sight) (seats : A → Seats) (defs : List Defined) (builds : List Build) where
  -- what the run of one is
  abbrev pub Run : A → A → Type 0
  Run a b = (name b ≡ name a) × HasRun defs builds (sights a) (seats a) (ops a) (log b) (drops b) (sights b) (seats b)

  -- its story
  abbrev story_of : (a b : A) → Run a b → Story
  story_of a b run = record { name = name a; ops = ops a; answers = map (λ e. e.1) (log b); dids = run.1.dids; seats = seats a; end = run.1.end }

  -- the story is of that run
  pub record Tells (a b : A) (s : Story) : Type 0 where
    pub ran : Ran builds (sights a) (calls_of s) (sights b)

  -- these are the stories of all, in order
  pub record Told (olds news : List A) : Type 0 where
    pub stories : List Story
    pub lines : map {B = List ℕ × List Op} (λ s. (s.name, s.ops)) stories ≡ map {B = List ℕ × List Op} (λ a. (name a, ops a)) olds
    pub begun : map (λ s. s.seats) stories ≡ map seats olds
    pub ended : map (λ s. s.end.seats) stories ≡ map seats news
    pub fit : AreStories defs stories
    pub as_many : length stories ≡ length news
    pub each : (i : ℕ) (s : Story) → slice_get stories i ≡ Some s → (a : A) × (b : A) × (slice_get olds i ≡ Some a) × (slice_get news i ≡ Some b) × Tells a b s
    pub tell : LogTold → (logs : List Log) → map (λ l. l.name) logs ≡ map name news → map (λ l. l.lines.items) logs ≡ map log news → map (λ l. l.drops.items) logs ≡ map drops news → LogsTell logs stories

  -- one story before the others
  told_more : (a b : A) (olds news : List A) → Run a b → Told olds news → Told (a ∷ olds) (b ∷ news)
  told_more a b olds news run told =
      let s = story_of a b run in
      record {
        stories = s ∷ told.stories;
        lines = ap (λ (xs : List (List ℕ × List Op)). (name a, ops a) ∷ xs) told.lines;
        begun = ap (λ (xs : List Seats). seats a ∷ xs) told.begun;
        ended = ap₂ (λ (x : Seats) (xs : List Seats). x ∷ xs) run.1.targets told.ended;
        fit = fit;
        as_many = ap suc told.as_many;
        each = each;
        tell = tell;
      } where
        fit : AreStories defs (story_of a b run ∷ told.stories)
        fit zero s at = subst (λ (z : Story). IsStory defs z) (same_Some (story_of a b run) s at) run.1.fits
        fit (suc i) s at = told.fit i s at

        each : (i : ℕ) (s : Story) → slice_get (story_of a b run ∷ told.stories) i ≡ Some s → (x : A) × (y : A) × (slice_get (a ∷ olds) i ≡ Some x) × (slice_get (b ∷ news) i ≡ Some y) × Tells x y s
        each zero s at = (a, b, refl, refl, subst (Tells a b) (same_Some (story_of a b run) s at) (record { ran = run.1.ran }))
        each (suc i) s at = told.each i s at

        tell : LogTold → (logs : List Log) → map (λ l. l.name) logs ≡ map name (b ∷ news) → map (λ l. l.lines.items) logs ≡ map log (b ∷ news) → map (λ l. l.drops.items) logs ≡ map drops (b ∷ news) → LogsTell logs (story_of a b run ∷ told.stories)
        tell law [] named lined gone = absurd (cc)
        tell law (l ∷ logs) named lined gone =
            let first : l.name ≡ name b = (cc) in
            let lines : l.lines.items ≡ log b = (cc) in
            let names : map (λ x. x.name) logs ≡ map name news = (cc) in
            let dropped : l.drops.items ≡ drops b = (cc) in
            let others : map (λ x. x.lines.items) logs ≡ map log news = (cc) in
            let more : map (λ x. x.drops.items) logs ≡ map drops news = (cc) in
            (first ∙ run.0, lines ∙ law (ops a) (map (λ e. e.1) (log b)) (log b) run.1.numbers refl, dropped ∙ sym run.1.dropped, told.tell law logs names others more)

  -- the stories of all, where each has run
  pub tales : (olds news : List A) → length news ≡ length olds
      → ((i : ℕ) (d : A) → i < length olds → Run (get_or olds i d) (get_or news i d)) → Told olds news
  tales [] [] long run = record {
    stories = [];
    lines = refl;
    begun = refl;
    ended = refl;
    fit = λ i s at. absurd (cc);
    as_many = refl;
    each = λ i s at. absurd (cc);
    tell = tell_none;
  } where
    tell_none : LogTold → (logs : List Log) → map (λ l. l.name) logs ≡ [] → map (λ l. l.lines.items) logs ≡ [] → map (λ l. l.drops.items) logs ≡ [] → LogsTell logs []
    tell_none law [] named lined gone = tt
    tell_none law (l ∷ logs) named lined gone = absurd (cc)
  tales [] (b ∷ news) long run = absurd (omega (arith, long))
  tales (a ∷ olds) [] long run = absurd (omega (arith, long))
  tales (a ∷ olds) (b ∷ news) long run =
      let less : length news ≡ length olds = omega arith in
      told_more a b olds news (run zero a (omega arith)) (tales olds news less (λ i d low. run (suc i) d (omega (arith, low))))

  -- the passes of an actor on queue q, before it ran and after
  gathers : (olds news : List A) (told : Told olds news) (before after : List Sight) (unused : (i : ℕ) (a : A) → slice_get olds i ≡ Some a → AreUnused before (i + 1) (sights a))
      (joined : HaveJoined (map sights news) before after) (made : (q : ℕ) (s : Sight) → slice_get before q ≡ Some s → s.made ≡ length news + 1)
      (q : ℕ) (b : Build) (t : Sight) → slice_get builds q ≡ Some b → slice_get after q ≡ Some t → IsGathered q told.stories b t.opening t.seen
  gathers olds news told before after unused joined made q b t at_b at_t =
      let within : q < length after = slice_get_within after q t at_t in
      let many = joined.as_many in
      let was = there before q (omega (arith, within, many)) in
      let j = joined.each q was.0 t was.1 at_t in
      let count : was.0.made ≡ length told.stories + 1 = made q was.0 was.1 ∙ ap (λ (n : ℕ). n + 1) (sym told.as_many) in
      record {
        legal = subst (λ (o : Queue). Legal o t.seen) (sym j.boss.opening) j.boss.legal;
        callers = by_actors (length told.stories) t.seen j.boss.idle (λ k high. j.boss.unmade k (subst (λ (n : ℕ). n ≤ k) (sym count) high));
        passes = passes was.0 was.1 j;
      } where
        passes : (s : Sight) → slice_get before q ≡ Some s → HasJoined q (map sights news) s t → (i : ℕ) (story : Story) → slice_get told.stories i ≡ Some story → Joined b t.opening (i + 1) t.seen (calls_on q (calls_of story))
        passes s at_s j i story at =
            let e = told.each i story at in
            let x = e.0 in
            let y = e.1 in
            let free = unused i x e.2 in
            let within : q < length before = slice_get_within before q s at_s in
            let mine = there (sights x) q (omega (arith, within, free.as_many)) in
            let after_it = there (sights y) q (omega (arith, within, free.as_many, e.4.ran.as_many)) in
            let of = free.each q s mine.0 at_s mine.1 in
            let at_y : slice_get (map sights news) i ≡ Some (sights y) = slice_get-map sights news i ∙ ap (option_map sights) e.3 in
            record {
              old = mine.0;
              new = after_it.0;
              opens = of.opening ∙ sym j.boss.opening;
              caller = of.caller;
              fresh = free.idle q mine.0 mine.1;
              ran = e.4.ran.on_each q b mine.0 after_it.0 at_b mine.1 after_it.1;
              joined = j.tells i (sights y) after_it.0 at_y after_it.1;
              whole = j.whole i (sights y) after_it.0 at_y after_it.1;
            }

  -- all that is to be told of a phase that was played
  pub have_played : LogTold → (olds news : List A) (before after : List Sight) (given back : Seats) (logs : List Log)
      → length news ≡ length olds
      → ((i : ℕ) (d : A) → i < length olds → Run (get_or olds i d) (get_or news i d))
      → ((i : ℕ) (a : A) → slice_get olds i ≡ Some a → AreUnused before (i + 1) (sights a))
      → ((q : ℕ) (s : Sight) → slice_get before q ≡ Some s → s.made ≡ length news + 1)
      → HaveJoined (map sights news) before after
      → HaveReturned given (map seats news) back
      → map (λ l. l.name) logs ≡ map name news
      → map (λ l. l.lines.items) logs ≡ map log news
      → map (λ l. l.drops.items) logs ≡ map drops news
      → HavePlayed defs builds (map {B = List ℕ × List Op} (λ a. (name a, ops a)) olds) (map seats olds) before after given back logs
  have_played law olds news before after given back logs long run unused made joined returned named lined gone =
      let told = tales olds news long run in
      record {
        stories = told.stories;
        lines = told.lines;
        begun = told.begun;
        fit = told.fit;
        passes = map sights news;
        as_many = length-map news sights ∙ sym told.as_many;
        joined = joined;
        gathered = gathers olds news told before after unused joined made;
        returned = subst (λ (xs : List Seats). HaveReturned given xs back) (sym told.ended) returned;
        tells = told.tell law logs named lined gone;
      }

-- the same, of actors that are given first
pub played_of : {A : Type 0} (olds news : List A) (name : A → List ℕ) (ops : A → List Op) (log : A → List (ℕ × Answer)) (drops : A → List Dropped) (sights : A → List Sight) (seats : A → Seats) (defs : List Defined) (builds : List Build)
    (before after : List Sight) (given back : Seats) (logs : List Log) → LogTold
    → length news ≡ length olds
    → ((i : ℕ) (d : A) → i < length olds → (name (get_or news i d) ≡ name (get_or olds i d))
    × HasRun defs builds (sights (get_or olds i d)) (seats (get_or olds i d)) (ops (get_or olds i d)) (log (get_or news i d)) (drops (get_or news i d)) (sights (get_or news i d)) (seats (get_or news i d)))
    → ((i : ℕ) (a : A) → slice_get olds i ≡ Some a → AreUnused before (i + 1) (sights a))
    → ((q : ℕ) (s : Sight) → slice_get before q ≡ Some s → s.made ≡ length news + 1)
    → HaveJoined (map sights news) before after
    → HaveReturned given (map seats news) back
    → map (λ l. l.name) logs ≡ map name news
    → map (λ l. l.lines.items) logs ≡ map log news
    → map (λ l. l.drops.items) logs ≡ map drops news
    → HavePlayed defs builds (map (λ a. (name a, ops a)) olds) (map seats olds) before after given back logs
played_of olds news name ops log drops sights seats defs builds before after given back logs law = have_played name ops log drops sights seats defs builds law olds news before after given back logs

-- an actor's passes after it ran are the caller's of the same queues
pub after_run : (defs : List Defined) (builds : List Build) (before olds news : List Sight) (h : ℕ) (seats seats' : Seats) (ops : List Op) (log : List (ℕ × Answer)) (drops : List Dropped) → length builds ≡ length before
    → AreUnused before h olds → HasRun defs builds olds seats ops log drops news seats' → AreOfCaller before h news
after_run defs builds before olds news h seats seats' ops log drops long unused run = record { as_many = run.ran.as_many ∙ unused.as_many; each = each } where
  each : (q : ℕ) (s t : Sight) → slice_get before q ≡ Some s → slice_get news q ≡ Some t → IsOfCaller s.opening h t
  each q s t at_s at_t =
      let within = slice_get_within before q s at_s in
      let b = there builds q (omega (arith, within, long)) in
      let o = there olds q (omega (arith, within, unused.as_many)) in
      let was = unused.each q s o.0 at_s o.1 in
      let did = run.ran.on_each q b.0 o.0 t b.1 o.1 at_t in
      record { opening = did.opening ∙ was.opening; caller = did.caller ∙ was.caller; ended = did.ended ∙ was.ended }
