-- what a queue knows of a message without reading it
use Rattle.std.specs.Prelude.{◌≡◌, ℕ, ◌+◌, ◌-◌, ◌/◌, min, List, length, Option, Some, None, IsSomeAnd, slice_get, ◌↔◌}
use Rattle.std.specs.Int.{bit_at}
use Rattle.queue_model.specs.declared.rows.Slip.{Slip}
use Rattle.message_core.specs.declared.headers.HeaderValue.{HeaderValue}
use Rattle.message_core.specs.declared.headers.HeaderValue.TheVariants as header
use Rattle.message_core.specs.Spelling.{Content, content, value_of}
use Rattle.selector_read.specs.Trees.{Tree}
use Rattle.selector_eval.specs.Evaluation.{truth_of}
use Rattle.selector_eval.specs.declared.truths.Truth.TheVariants.{True}
use Rattle.defs_read.specs.Defined.{Defined}
use Rattle.defs_read.specs.declared.defs.ConsumerDef.{ConsumerDef}
use Rattle.defs_read.specs.declared.defs.QueueKind.{QueueKind}
use Rattle.defs_read.specs.declared.defs.QueueKind.TheVariants.{Standard, Priority, Sorted, LastValue}

-- who has no selector wants every message, and who has one wants those of which it is true
abbrev pub Wants : Option Tree → Content → Type 0
Wants None m = Unit {0}
Wants (Some selector) m = truth_of selector m ≡ True

-- bit c is set exactly where there is a consumer c and it wants the message
abbrev pub IsMask : ℕ → List ConsumerDef → Content → Type 0
IsMask mask consumers m = (c : ℕ) → (bit_at mask c ≡ 1) ↔ IsSomeAnd (slice_get consumers c) (λ consumer. Wants consumer.selector m)

-- Of n lists the one for this priority. The middle one is for 4, the usual priority; whatever lies beyond the lowest or the highest goes there.
abbrev pub list_among : ℕ → ℕ → ℕ
list_among n priority = min (priority - (5 - (n + 1) / 2)) (n - 1)

-- how many lists a queue of this kind has
abbrev pub lists_of : QueueKind → ℕ
lists_of Standard = 1
lists_of (Priority n) = n
lists_of (Sorted key) = 1
lists_of (LastValue key) = 1

-- the list that a message of this priority goes into
abbrev pub list_of : QueueKind → ℕ → ℕ
list_of Standard priority = 0
list_of (Priority n) priority = list_among n priority
list_of (Sorted key) priority = 0
list_of (LastValue key) priority = 0

-- the value of a header where there is one and it is a text
abbrev pub text_in : Option HeaderValue → Option (List ℕ)
text_in None = None
text_in (Some (header.Bool b)) = None
text_in (Some (header.Int n)) = None
text_in (Some (header.Text s)) = Some s

-- the text that the queue goes by: that of its header, where the message has it and it is a text
abbrev pub key_of : QueueKind → Content → Option (List ℕ)
key_of Standard m = None
key_of (Priority n) m = None
key_of (Sorted key) m = text_in (value_of key m.headers)
key_of (LastValue key) m = text_in (value_of key m.headers)

-- where a queue goes by no header, its slips have no key
abbrev pub HasNoKey : QueueKind → Option (List ℕ) → Type 0
HasNoKey Standard key = key ≡ None
HasNoKey (Priority n) key = key ≡ None
HasNoKey (Sorted name) key = Unit {0}
HasNoKey (LastValue name) key = Unit {0}

-- the slip of the message in this queue
pub record IsSlip (queue : Defined) (m : Content) (slip : Slip) : Type 0 where
  pub id : slip.id ≡ m.id
  pub size : slip.size ≡ length (content m)
  pub mask : IsMask slip.mask queue.consumers m
  pub list : slip.list ≡ list_of queue.kind m.priority
  pub key : slip.key ≡ key_of queue.kind m
