-- a line on the queue that it names
use Rattle.std.proofs.Common.{◌≡◌, ◌≤◌, ◌+◌, ℕ, false, Some, List, slice_get, refl, sym, ap, ◌∙◌, subst, arith}
use Rattle.acts_core.specs.Sight.{Build, Sight}
use Rattle.defs_read.specs.Defined.{Defined}
use Rattle.defs_read.specs.Slips.{IsSlip}
use Rattle.message_core.specs.Spelling.{Content}
use Rattle.overflow_core.specs.Limits.{is_ring}
use Rattle.queue_model.specs.declared.rows.Slip.{Slip}
use Rattle.script_read.specs.declared.lines.What.{What}
use Rattle.script_read.specs.declared.lines.What.TheVariants.{Put, Take}
use Rattle.report_core.specs.declared.answers.Answer as report
use Rattle.line_core.specs.Fits.{Standing}
use Rattle.line_core.specs.Hands.{Hand}
use Rattle.line_core.specs.Places.{kind_of}
use Rattle.workers_core.specs.Drops.{displaced_at, displaced_by, displaces, is_ring_at, puts_to_ring}
use Rattle.workers_core.specs.Lines.{DidHands, IsSlipOn}
use Rattle.line_core.specs.Runs.{DidOn}

pub same_line : (defs : List Defined) (build : Build) (number r : ℕ) (old new : Sight) (s : Standing) (hands' : List Hand) (what : What) (make : ℕ → What) (a : report.Answer)
    → what ≡ make r → r ≡ number → DidHands build number old s.hands (make number) a new hands' → DidOn defs build number old s what a new (record s { hands = hands' })
same_line defs build number r old new s hands' what make a is same did =
    subst (λ (w : What). DidOn defs build number old s w a new (record s { hands = hands' })) (sym (is ∙ ap make same)) (did defs s refl)

-- a put to the queue that it names
pub same_put : (defs : List Defined) (build : Build) (number r : ℕ) (old new : Sight) (s s' : Standing) (what : What) (m : Content) (a : report.Answer) → what ≡ Put r m → r ≡ number → DidOn defs build number old s (Put number m) a new s' → DidOn defs build number old s what a new s'
same_put defs build number r old new s s' what m a is same did = subst (λ (w : What). DidOn defs build number old s w a new s') (sym (is ∙ ap (λ (n : ℕ). Put n m) same)) did

-- its slip is the message's there
pub slip_on : (defs : List Defined) (build : Build) (number r : ℕ) (m : Content) (slip : Slip) → r ≡ number → (def : Defined) × (slice_get defs r ≡ Some def) × IsSlip def m slip → ((def : Defined) → slice_get defs number ≡ Some def → build.kind ≡ kind_of def.kind) → IsSlipOn defs build number m slip
slip_on defs build number r m slip same fits kind =
    let there : slice_get defs number ≡ Some fits.0 = ap (slice_get defs) (sym same) ∙ fits.1 in
    record { def = fits.0; defined = there; fits = fits.2; kind = kind fits.0 there }

-- and it drops what it displaces, where the queue is no ring
pub few_put : (defs : List Defined) (number r : ℕ) (m : Content) (what : What) (def : Defined) (n n' : ℕ) → what ≡ Put r m → r ≡ number → slice_get defs r ≡ Some def → ((d : Defined) → slice_get defs number ≡ Some d → is_ring d.limits ≡ false → n' ≤ n + displaced_by (kind_of d.kind))
    → puts_to_ring defs what ≡ false → n' ≤ n + displaces defs what
few_put defs number r m what def n n' is same at few plain =
    let there : slice_get defs number ≡ Some def = ap (slice_get defs) (sym same) ∙ at in
    let ring : is_ring def.limits ≡ false = sym (ap (puts_to_ring defs) is ∙ ap is_ring_at at) ∙ plain in
    let one : displaces defs what ≡ displaced_by (kind_of def.kind) = ap (displaces defs) is ∙ ap displaced_at at in
    omega (arith, few def there ring, one)

-- a take for the consumer that it names
pub same_take : (defs : List Defined) (build : Build) (number c : ℕ) (old new : Sight) (s s' : Standing) (what : What) (a : report.Answer) → what ≡ Take c → DidOn defs build number old s (Take c) a new s' → DidOn defs build number old s what a new s'
same_take defs build number c old new s s' what a is did = subst (λ (w : What). DidOn defs build number old s w a new s') (sym is) did
