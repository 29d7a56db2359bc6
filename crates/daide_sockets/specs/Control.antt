-- The control connections of a run, by which an operator asks for its status, or stops it or one of its sessions, and what a
-- round does with each. (own)
use Rattle.std.specs.Prelude.{◌≡◌, ℕ, ◌+◌, ◌-◌, nat_lt, nat_eq, min, not, Bool, true, false, if◌then◌else◌, List, ◌++◌, length, take, drop}
use Rattle.std.specs.Prelude.{Option, None, Some}
use Rattle.std.specs.Option.{is_some}
use Rattle.std.specs.Io.KnownBytes.{Consumes}
use Rattle.std.specs.declared.time.Instant.{Instant}
use Rattle.daide_io.specs.Ports.{pulled_len}
use Rattle.daide_io.specs.Streams.{StreamCall}
use Rattle.daide_io.specs.declared.ports.Pull.{Pull}
use Rattle.daide_io.specs.declared.ports.Pull.TheVariants.{Got, Idle, Ended}
use Rattle.daide_io.specs.declared.ports.Put.{Put}
use Rattle.daide_io.specs.declared.ports.Put.TheVariants.{Took, Failed}
use Rattle.daide_buffered_io.specs.Calls.{IsPull, IsPut}
use Rattle.daide_buffered_io.specs.Taking.{IsTaken, taken_len}
use Rattle.daide_buffered_io.specs.declared.readiness.Readiness.{Readiness}
use Rattle.daide_status.specs.declared.request.ControlRequest.TheVariants.{Status, Stop, StopNow, StopSession}
use Rattle.daide_status.specs.declared.snapshot.RunStatus.{RunStatus}
use Rattle.daide_status.specs.declared.snapshot.SessionRow.{SessionRow}
use Rattle.daide_status.specs.declared.text.StatusText.{StatusText}
use Rattle.daide_sockets.specs.Clock.{IsAfter, is_past}
use Rattle.daide_sockets.specs.ControlAnswer.{reply_text, ordered_by, waits_by, Begins, Adds, Finishes, SaysNoSession}
use Rattle.daide_sockets.specs.declared.control_answer.Answer.{Answer}
use Rattle.daide_sockets.specs.declared.control_answer.Answer.TheVariants.{UnknownRequest, Stopping, TooManyWait}
use Rattle.daide_sockets.specs.ControlRequest.{request_room, judgement_of, at_end}
use Rattle.daide_sockets.specs.declared.control_connection.ControlConnection.{ControlConnection}
use Rattle.daide_sockets.specs.declared.control_connection.Stage.{Stage}
use Rattle.daide_sockets.specs.declared.control_connection.Stage.TheVariants.{Reads, Confirms, Gathers, Writes, Stays}
use Rattle.daide_sockets.specs.Present.{is_there}
use Rattle.daide_sockets.specs.declared.control_request.Judgement.{Judgement}
use Rattle.daide_sockets.specs.declared.control_request.Judgement.TheVariants.{Requests, Unknown, Unfinished}
use Rattle.daide_sockets.specs.declared.control_request.RequestedStop.{RequestedStop}
use Rattle.daide_sockets.specs.declared.control_request.RequestedStop.TheVariants.{Finish, Now, Session}
use Rattle.daide_sockets.specs.declared.present.Bot.{Bot}

-- ---- a request

-- what a connection does once the bytes received are judged: it gathers a status, or makes sure that the client of a stop is
-- still there, or answers what is no request
abbrev pub stage_after : Judgement → Stage
stage_after (Requests (Status format)) = Gathers
stage_after (Requests Stop) = Confirms Finish
stage_after (Requests StopNow) = Confirms Now
stage_after (Requests (StopSession number)) = Confirms (Session number)
stage_after Unknown = Writes 0
stage_after Unfinished = Reads

-- The status or the answer that begins by what was received. Of a status it is that of the run.
abbrev pub BeginsReply : {A : Type 0} → RunStatus → Judgement → Option (StatusText A) → Answer → Type 0
BeginsReply run (Requests (Status format)) status answer = Begins format run status
BeginsReply run (Requests Stop) status answer = Unit {0}
BeginsReply run (Requests StopNow) status answer = Unit {0}
BeginsReply run (Requests (StopSession number)) status answer = Unit {0}
BeginsReply run Unknown status answer = answer ≡ UnknownRequest
BeginsReply run Unfinished status answer = Unit {0}

abbrev pub is_idle : Pull → Bool
is_idle Idle = true
is_idle (Got count) = false
is_idle Ended = false

-- the bytes of an answer after those that were written
abbrev pub unwritten_of : ℕ → List ℕ → List ℕ
unwritten_of written text = drop (min written (length text)) text

-- the stage after a put that had this many bytes left: more is written, or a stop waits; none if the connection is closed
abbrev pub stage_answered : Option RequestedStop → Option Stage
stage_answered None = None
stage_answered (Some order) = Some (Stays order)

abbrev pub stage_written : Put → ℕ → ℕ → Answer → Option Stage
stage_written (Took count) left written answer =
    if nat_lt count left then Some (Writes (written + count)) else stage_answered (waits_by answer)
stage_written Failed left written answer = None

-- ---- a stop

-- The answer to a stop whose client is there: that its session is not there, or whether one more stop may wait. One that ends
-- all sessions waits in any case.
abbrev pub waits_if : Bool → RequestedStop → Answer
waits_if true order = Stopping order
waits_if false order = TooManyWait order

abbrev pub AnswersEnd : Bool → Bool → ℕ → Answer → Type 0
AnswersEnd true has_room number answer = answer ≡ waits_if has_room (Session number)
AnswersEnd false has_room number answer = SaysNoSession number answer

abbrev pub AnswersStop : List Bot → Bool → RequestedStop → Answer → Type 0
AnswersStop bots has_room Finish answer = answer ≡ waits_if has_room Finish
AnswersStop bots has_room Now answer = answer ≡ Stopping Now
AnswersStop bots has_room (Session number) answer = AnswersEnd (is_there number bots) has_room number answer

-- the session that a stop ends is over; the run is not, as long as it makes rounds
abbrev pub is_session_over : List Bot → RequestedStop → Bool
is_session_over bots Finish = false
is_session_over bots Now = false
is_session_over bots (Session number) = not (is_there number bots)

module _ {S : Type 0} (to_give taken : S → Option (List ℕ)) (calls : S → Option (List StreamCall)) where
  -- One read, of at most the bytes that a request may still have. They are appended to those received so far.
  pub record Hears (old : ControlConnection S) (pull : Pull) (new : ControlConnection S) : Type 0 where
    pub bytes : List ℕ
    pub gives : Consumes (to_give old.stream) (to_give new.stream) bytes
    pub count : length bytes ≡ pulled_len pull
    pub line : new.line.items ≡ old.line.items ++ bytes
    pub pulled : IsPull calls (request_room - length old.line.items) old.readiness old.stream pull new.readiness
        new.stream
    pub rest : new ≡ record old { stream = new.stream; readiness = new.readiness; line = new.line }

  -- One read, after which the bytes received so far are judged.
  pub record Receives (run : RunStatus) (old new : ControlConnection S) : Type 0 where
    pub pull : Pull
    pub heard : ControlConnection S
    pub hears : Hears old pull heard
    pub stage : new.stage ≡ stage_after (at_end (judgement_of heard.line.items) pull)
    pub answer : BeginsReply run (at_end (judgement_of heard.line.items) pull) new.status new.answer
    pub rest : new ≡ record heard { stage = new.stage; status = new.status; answer = new.answer }

  -- One write of the rest of an answer, of which this many bytes were taken before. The connection stays open if some are
  -- left, or if its stop waits, and no write failed. A stop that waits for a session is looked at every tenth of a second.
  pub record WritesOn (now : Option Instant) (old : ControlConnection S) (written : ℕ) (is_open : Bool)
      (new : ControlConnection S) : Type 0 where
    pub put : Put
    pub puts : IsPut calls (take 16384 (unwritten_of written (reply_text old.answer))) old.readiness old.stream put new.readiness
        new.stream
    pub takes : IsTaken (taken old.stream) (unwritten_of written (reply_text old.answer)) put (taken new.stream)
    pub next : Option Stage
    pub by : next ≡ stage_written put (length (unwritten_of written (reply_text old.answer)))
        (min written (length (reply_text old.answer))) old.answer
    pub is_left : is_open ≡ is_some next
    pub stage : is_open ≡ true → next ≡ Some new.stage
    pub looks : (order : RequestedStop) → next ≡ Some (Stays order) → IsAfter now 100000000 new.closes_at
    pub more : (count : ℕ) → next ≡ Some (Writes count) → new.closes_at ≡ old.closes_at
    pub rest : new ≡ record old {
      stream = new.stream;
      readiness = new.readiness;
      stage = new.stage;
      closes_at = new.closes_at;
    }

  -- The rows of a status are gathered: it is finished, and written once.
  pub record Completes (now : Option Instant) (old : ControlConnection S) (is_open : Bool) (new : ControlConnection S) :
      Type 0 where
    pub whole : ControlConnection S
    pub finishes : Finishes old.status whole.answer
    pub others : whole ≡ record old { status = None; answer = whole.answer }
    pub writes : WritesOn now whole 0 is_open new

  -- The first write of an answer: at once if the stop waits, since the run may end with this round; else with the next round.
  abbrev pub WritesFirst : Option RequestedStop → Option Instant → ControlConnection S → Bool → ControlConnection S → Type 0
  WritesFirst (Some order) now answered is_open new = WritesOn now answered 0 is_open new
  WritesFirst None now answered is_open new = (is_open ≡ true) × (new ≡ record answered { stage = Writes 0 })

  -- What a read after a stop says of it. At the end of the stream nobody waits for it any more, so it is not carried out. If there
  -- is nothing to read, its client is there, and it is answered. What a client sends after a request is ignored.
  abbrev pub CountsBy : Pull → Option Instant → List Bot → Bool → RequestedStop → ControlConnection S → Bool → ControlConnection S → Type 0
  CountsBy Ended now bots has_room order heard is_open new = (is_open ≡ false) × (new ≡ heard)
  CountsBy (Got count) now bots has_room order heard is_open new = (is_open ≡ true) × (new ≡ heard)
  CountsBy Idle now bots has_room order heard is_open new = (answered : ControlConnection S)
      × AnswersStop bots has_room order answered.answer × (answered ≡ record heard { answer = answered.answer })
      × WritesFirst (waits_by answered.answer) now answered is_open new

  -- One read after a stop, and what follows from it.
  pub record MakesSure (now : Option Instant) (bots : List Bot) (has_room : Bool) (order : RequestedStop) (old : ControlConnection S)
      (is_open : Bool) (new : ControlConnection S) : Type 0 where
    pub pull : Pull
    pub heard : ControlConnection S
    pub pulled : IsPull calls 1 old.readiness old.stream pull heard.readiness heard.stream
    pub rest : heard ≡ record old { stream = heard.stream; readiness = heard.readiness }
    pub counts : CountsBy pull now bots has_room order heard is_open new

  -- A stop that waits stays open until its client sends something or ends. It is looked at again after a tenth of a second.
  pub record StaysOpen (now : Option Instant) (old : ControlConnection S) (is_open : Bool) (new : ControlConnection S) :
      Type 0 where
    pub pull : Pull
    pub pulled : IsPull calls 1 old.readiness old.stream pull new.readiness new.stream
    pub is_left : is_open ≡ is_idle pull
    pub looks : IsAfter now 100000000 new.closes_at
    pub rest : new ≡ record old { stream = new.stream; readiness = new.readiness; closes_at = new.closes_at }

  abbrev pub StaysFor : Bool → Option Instant → ControlConnection S → Bool → ControlConnection S → Type 0
  StaysFor true now old is_open new = (is_open ≡ false) × (new ≡ old)
  StaysFor false now old is_open new = StaysOpen now old is_open new

  -- Two seconds after it was accepted, a connection is closed, unless its stop waits. That of a session is closed once this is over.
  abbrev pub AdvancesAt : Stage → Bool → RunStatus → List Bot → Bool → Option Instant → ControlConnection S → Bool →
      ControlConnection S → Type 0
  AdvancesAt (Stays order) is_late run bots has_room now old is_open new = StaysFor (is_session_over bots order) now old is_open new
  AdvancesAt Reads true run bots has_room now old is_open new = (is_open ≡ false) × (new ≡ old)
  AdvancesAt Reads false run bots has_room now old is_open new = (is_open ≡ true) × Receives run old new
  AdvancesAt (Confirms order) true run bots has_room now old is_open new = (is_open ≡ false) × (new ≡ old)
  AdvancesAt (Confirms order) false run bots has_room now old is_open new = MakesSure now bots has_room order old is_open new
  AdvancesAt Gathers true run bots has_room now old is_open new = (is_open ≡ false) × (new ≡ old)
  AdvancesAt Gathers false run bots has_room now old is_open new = Completes now old is_open new
  AdvancesAt (Writes written) true run bots has_room now old is_open new = (is_open ≡ false) × (new ≡ old)
  AdvancesAt (Writes written) false run bots has_room now old is_open new = WritesOn now old written is_open new

  -- what a round does with a connection, by the status of the run, the bots that are there, whether one more stop may wait, and
  -- the reading of the clock; and whether it stays open
  abbrev pub Advances : RunStatus → List Bot → Bool → Option Instant → ControlConnection S → Bool → ControlConnection S → Type 0
  Advances run bots has_room now old is_open new =
      AdvancesAt old.stage (is_past now old.closes_at) run bots has_room now old is_open new

-- ---- the status of a session

abbrev pub ShowsAt : {S : Type 0} → Stage → SessionRow → ControlConnection S → ControlConnection S → Type 0
ShowsAt Gathers row old new =
    Adds row old.status new.status × (new ≡ record old { status = new.status })
ShowsAt Reads row old new = new ≡ old
ShowsAt (Confirms order) row old new = new ≡ old
ShowsAt (Writes written) row old new = new ≡ old
ShowsAt (Stays order) row old new = new ≡ old

-- The row of a session is added to the status of a connection that gathers one. No other one changes.
abbrev pub ShowsOn : {S : Type 0} → SessionRow → ControlConnection S → ControlConnection S → Type 0
ShowsOn row old new = ShowsAt old.stage row old new

-- ---- a wait

abbrev pub has_work_at : Stage → Readiness → Bool
has_work_at Reads known = known.may_read
has_work_at (Confirms order) known = true
has_work_at Gathers known = true
has_work_at (Writes written) known = known.may_write
has_work_at (Stays order) known = known.may_read

-- something may be done at once for a control connection
abbrev pub has_control_work : {S : Type 0} → ControlConnection S → Bool
has_control_work connection = has_work_at connection.stage connection.readiness

abbrev pub due_at : Stage → Option Instant → Option Instant
due_at Reads closes_at = closes_at
due_at (Confirms order) closes_at = closes_at
due_at Gathers closes_at = closes_at
due_at (Writes written) closes_at = closes_at
due_at (Stays Finish) closes_at = None
due_at (Stays Now) closes_at = None
due_at (Stays (Session number)) closes_at = closes_at

-- the moment at which it is closed or looked at again at the latest; none if it waits for the end of the run
abbrev pub control_due : {S : Type 0} → ControlConnection S → Option Instant
control_due connection = due_at connection.stage connection.closes_at

-- ---- orders

abbrev pub stops_run : Option RequestedStop → Bool
stops_run None = false
stops_run (Some Finish) = true
stops_run (Some Now) = true
stops_run (Some (Session number)) = false

abbrev pub stops_run_now : Option RequestedStop → Bool
stops_run_now None = false
stops_run_now (Some Finish) = false
stops_run_now (Some Now) = true
stops_run_now (Some (Session number)) = false

-- whether an order stops some session, and the one with this number
abbrev pub is_end : Option RequestedStop → Bool
is_end None = false
is_end (Some Finish) = false
is_end (Some Now) = false
is_end (Some (Session number)) = true

abbrev pub is_end_of : ℕ → Option RequestedStop → Bool
is_end_of number None = false
is_end_of number (Some Finish) = false
is_end_of number (Some Now) = false
is_end_of number (Some (Session ended)) = nat_eq ended number

abbrev pub gathers_at : Stage → Bool
gathers_at Reads = false
gathers_at (Confirms order) = false
gathers_at Gathers = true
gathers_at (Writes written) = false
gathers_at (Stays order) = false
