-- an account of two phases with a rest between them: put 7, take; rest; take
use Rattle.std.specs.Prelude.{◌≡◌, ℕ, true, false, Some, None, List, [], ◌∷◌, codes}
use Rattle.queue_model.specs.declared.deeds.Act.TheVariants as acts
use Rattle.queue_model.specs.declared.deeds.Act.TheVariants.{Reserve, Enq, Acq, Unlock}
use Rattle.queue_model.specs.declared.queues.Policy.TheVariants as policy
use Rattle.queue_model.specs.declared.rows.Row.{Row}
use Rattle.queue_model.specs.declared.rows.RowState.TheVariants.{Available}
use Rattle.queue_model.specs.declared.rows.Slip.{Slip}
use Rattle.queue_model.specs.History.{deeds_of}
use Rattle.queue_model.specs.State.{empty}
use Rattle.acts_core.specs.Calls.{CallReserve, CallPut, CallNext, IsDepth, IsAt, IsGot}
use Rattle.acts_core.specs.Load.{Load}
use Rattle.acts_core.specs.Sight.{Listed}
use Rattle.message_core.specs.Spelling.{Content, content}
use Rattle.defs_read.specs.Defined.{Defined}
use Rattle.defs_read.specs.declared.defs.ConsumerDef.{ConsumerDef}
use Rattle.defs_read.specs.declared.defs.QueueKind.TheVariants.{Standard}
use Rattle.script_read.specs.declared.lines.What.TheVariants.{Put, Take}
use Rattle.report_core.specs.declared.answers.Answer.TheVariants as say
use Rattle.target_core.specs.Seats.{Seat, Seats}
use Rattle.target_core.specs.declared.deliveries.Delivery.{Delivery}
use Rattle.line_core.specs.Fits.{On, Standing, delivered, fresh, in_hands, span_of}
use Rattle.account_core.specs.Accounts.{Account}
use Rattle.account_core.specs.Phases.{ArePhases, nothing}
use Rattle.account_core.specs.Played.{Played}
use Rattle.account_core.specs.Stories.{Story}
use Rattle.account_core.specs.Texts.{run_text}

-- one standard queue with one consumer
abbrev pub consumer_c : ConsumerDef
consumer_c = record { name = codes "c"; actor = codes "a"; number = 0; selector = None }

abbrev pub queue_q : Defined
queue_q = record {
  name = codes "q";
  kind = Standard;
  limits = record { policy = policy.None; entries = None; bytes = None };
  consumers = consumer_c ∷ [];
}

abbrev pub one_queue : List Defined
one_queue = queue_q ∷ []

-- a message with no headers and no body
abbrev pub message : Content
message = record { id = 7; persistent = false; priority = 4; headers = []; body = [] }

abbrev pub slip : Slip
slip = record { id = 7; size = 16; mask = 1; list = 0; key = None }

abbrev pub load : Load
load = fresh message

abbrev pub delivery : ℕ → Delivery
delivery n = record { consumer = 0; queue = 0; id = 7; delivered = n; length = 0; sum = 0 }

abbrev pub seat_of : ℕ → List Delivery → Seat
seat_of room ds = record { deliveries = ds; room = room; limit = None }

abbrev pub seat : ℕ → List Delivery → Seats
seat room ds = Some (seat_of room ds) ∷ []

abbrev pub leaves : ℕ → List Delivery → Standing
leaves n ds =
    record { hands = in_hands 0 0 (delivered n load) ∷ []; seats = seat 0 ds; stopped = false ∷ []; drops = [] }

-- the first phase: the target was prepared for one delivery
abbrev pub first : Story
first = record {
  name = codes "a";
  ops = record { line = 2; actor = codes "a"; what = Put 0 message }
      ∷ (record { line = 3; actor = codes "a"; what = Take 0 } ∷ []);
  answers = say.Accepted 7 false (span_of [] []) ∷ (say.Got 7 1 ∷ []);
  dids = On 0 (CallReserve 16) (IsDepth (record { entries = 0; bytes = 0 }))
      ∷ (On 0 (CallPut slip load) (IsAt 0 None) ∷ (On 0 (CallNext 0) (IsGot 0 0 load) ∷ []));
  seats = seat 1 [];
  end = leaves 1 (delivery 1 ∷ []);
}

abbrev pub played_first : Played
played_first = record {
  plan = record { opening = empty 1 1; kind = Listed; bells = true };
  history = deeds_of 1
      (Reserve 16 ∷ (Enq 0 slip (content message) (0 ∷ []) 0 ∷ (acts.Take 0 0 ∷ (Acq 0 ∷ (Unlock 0 1 ∷ [])))));
}

-- the second, which opens with the entry, available, and with its count
abbrev pub second : Story
second = record {
  name = codes "a";
  ops = record { line = 5; actor = codes "a"; what = Take 0 } ∷ [];
  answers = say.Got 7 2 ∷ [];
  dids = On 0 (CallNext 0) (IsGot 0 0 (delivered 1 load)) ∷ [];
  seats = seat 1 (delivery 1 ∷ []);
  end = leaves 2 (delivery 1 ∷ (delivery 2 ∷ []));
}

abbrev pub carried_row : Row
carried_row =
    record { number = 0; slip = slip; state = Available; content = content message; origin = 0 ∷ []; count = 1 }

abbrev pub played_second : Played
played_second = record {
  plan = record { opening = record (empty 1 1) { rows = carried_row ∷ [] }; kind = Listed; bells = true };
  history = deeds_of 1 (acts.Take 0 0 ∷ (Acq 0 ∷ (Unlock 0 2 ∷ [])));
}

abbrev pub accounts : List Account
accounts =
    record { queues = played_first ∷ []; stories = first ∷ [] }
    ∷ (record { queues = played_second ∷ []; stories = second ∷ [] } ∷ [])

-- what is written
abbrev pub TwoPhasesText : Type 0
TwoPhasesText =
    run_text one_queue accounts
    ≡ codes "a 2 ok 7\na 3 got 7 1\nqueue q 1 16\nentry 7 held a\na 5 got 7 2\nqueue q 1 16\nentry 7 held a\n"

-- they are accounts of the two phases
abbrev pub TwoPhasesRuns : Type 0
TwoPhasesRuns = ArePhases
    one_queue (nothing one_queue) (seat 0 [])
    (((codes "a", first.ops) ∷ []) ∷ (((codes "a", second.ops) ∷ []) ∷ [])) accounts
    (seat 0 (delivery 1 ∷ (delivery 2 ∷ [])))
