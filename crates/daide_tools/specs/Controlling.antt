-- What the commands `status` and `stop` send to a run. (own)
use Rattle.std.specs.Prelude.{◌≡◌, ◌≢◌, ◌≤◌, ◌⊎◌, ℕ, ◌++◌, max, nat_lt, codes, Bool, true, false, List, [], ◌∷◌, length, map, Option, Some, None, option_map, unwrap_or, IfSome, Result, Ok}
use Rattle.std.specs.Io.KnownBytes.{Appends}
use Rattle.std.specs.declared.io.ErrorKind.{ErrorKind}
use Rattle.daide_command_line.specs.declared.arguments.StatusOrder.{StatusOrder}
use Rattle.daide_command_line.specs.declared.arguments.StopOrder.{StopOrder}
use Rattle.daide_settings.specs.Settings.{Given}
use Rattle.daide_status.specs.declared.request.ControlRequest.{ControlRequest}
use Rattle.daide_status.specs.declared.request.ControlRequest.TheVariants.{Status}
use Rattle.daide_status.specs.declared.request.Format.{Format}
use Rattle.daide_status.specs.declared.request.Format.TheVariants.{Table, Json, Prometheus}
use Rattle.daide_status.specs.Requests.{request_text}
use Rattle.daide_tools.specs.Checking.{name_line}
use Rattle.daide_tools.specs.Endings.{AreSettingsAt}
use Rattle.daide_tools.specs.declared.controlling.RequestFault.{RequestFault}
use Rattle.daide_tools.specs.declared.controlling.RequestFault.TheVariants.{Unreached, Unaccepted, Unsent, Unread, Silent}
use Rattle.daide_tools.specs.declared.controlling.RequestFault.TheVariants.{Unknown, TooLong, StillRunning, NoSession, Unawaited, NotStopped, Write}

-- a request as it is sent: its text and a line feed
abbrev pub request_line : ControlRequest → List ℕ
request_line request = request_text request ++ 10 ∷ []

-- the line by which a run accepts a stop; the stream ends when what was stopped is over
abbrev pub stopping_line : List ℕ
stopping_line = codes "stopping\n"

-- the most bytes of an answer that is printed
abbrev pub longest_answer : ℕ
longest_answer = 4194304

-- the output got an answer of a run after this title: some bytes, and no more than the most
pub record IsAnswerAfter (title : List ℕ) (old new : Option (List ℕ)) : Type 0 where
  pub answer : List ℕ
  pub some : answer ≢ []
  pub few : length answer ≤ longest_answer
  pub printed : Appends old new (title ++ answer)

-- the title of the answer for the file of this name: as a comment before a table of several, and none otherwise
abbrev pub title_of : Option (List ℕ) → List ℕ
title_of None = []
title_of (Some name) = name_line name

abbrev pub title_for : Bool → Format → List ℕ → List ℕ
title_for true Table name = name_line name
title_for true Json name = []
title_for true Prometheus name = []
title_for false format name = []

-- A request is carried out with status 0, and then this is so; or the status is 1, and nothing is printed.
abbrev pub EndsRequest : Type 0 → Option (List ℕ) → Option (List ℕ) → ℕ → Type 0
EndsRequest Carried old new status = ((status ≡ 0) × Carried) ⊎ ((status ≡ 1) × (new ≡ old))

-- the same, or a write failed
abbrev pub EndsRequestOr : Type 0 → Type 0 → Option (List ℕ) → Option (List ℕ) → Option ℕ → Type 0
EndsRequestOr write Carried old new (Some status) = EndsRequest Carried old new status
EndsRequestOr write Carried old new None = write

-- a status that is not printed: nothing is written, unless a write failed
abbrev pub IsUnanswered : Type 0 → Option (List ℕ) → Option (List ℕ) → RequestFault → Type 0
IsUnanswered write old new (Unreached kind) = new ≡ old
IsUnanswered write old new Unaccepted = new ≡ old
IsUnanswered write old new (Unsent kind) = new ≡ old
IsUnanswered write old new (Unread kind) = new ≡ old
IsUnanswered write old new Silent = new ≡ old
IsUnanswered write old new Unknown = new ≡ old
IsUnanswered write old new TooLong = new ≡ old
IsUnanswered write old new StillRunning = new ≡ old
IsUnanswered write old new (NoSession number) = new ≡ old
IsUnanswered write old new Unawaited = new ≡ old
IsUnanswered write old new (NotStopped number) = new ≡ old
IsUnanswered write old new Write = write

-- The status of each run, in order, by what is so of the run of a name if its answer is printed. `before` and `status` are
-- the status of those before and of all.
abbrev pub EndsStatuses : (List ℕ → Option (List ℕ) → Option (List ℕ) → Type 0) → List (List ℕ) → Option (List ℕ) →
    Option (List ℕ) → ℕ → ℕ → Type 0
EndsStatuses Answers [] old new before status = (new ≡ old) × (status ≡ before)
EndsStatuses Answers (name ∷ names) old new before status =
    (mid : Option (List ℕ)) × (one : ℕ) × EndsRequest (Answers name old mid) old mid one
    × EndsStatuses Answers names mid new (max before one) status

-- The streams by which a request is made: what was written to one, and what is still to be read from it.
module _ {S : Type 0} (contents remaining : S → Option (List ℕ)) (request : ControlRequest) (stream : S) where
  -- the request was sent over the stream, and the output got all bytes received then, after this title
  pub record AnswersOver (title : List ℕ) (old new : Option (List ℕ)) : Type 0 where
    pub sent : S
    pub asked : Appends (contents stream) (contents sent) (request_line request)
    pub printed : IsAnswerAfter title old new
    pub whole : IfSome (remaining sent) (λ all. printed.answer ≡ all)

  -- The request was sent over the stream, and then came the line that accepts a stop, and the end.
  abbrev pub EndsAfter : Type 0
  EndsAfter = (sent : S) × Appends (contents stream) (contents sent) (request_line request)
      × IfSome (remaining sent) (λ rest. rest ≡ stopping_line)

-- A run was reached at this control path, and this is so of the stream to it. `Reaches` relates a path to what was reached
-- at it.
abbrev pub ReachedAt : {S : Type 0} → (List ℕ → Result S ErrorKind → Type 0) → Option (List ℕ) → (S → Type 0) → Type 0
ReachedAt {S} Reaches control Holds =
    (path : List ℕ) × (control ≡ Some path) × (stream : S) × Reaches path (Ok stream) × Holds stream

-- Files by their names and by the bytes that one has left, and runs by their control paths and by the streams to them.
module _ {F S : Type 0} (Opens : List ℕ → Result F ErrorKind → Type 0) (bytes : F → Option (List ℕ))
    (Reaches : List ℕ → Result S ErrorKind → Type 0) (contents remaining : S → Option (List ℕ)) where
  -- the run with the settings of the file of this name was reached at their control path, and this is so of the stream to it
  abbrev pub ReachesRun : List ℕ → (S → Type 0) → Type 0
  ReachesRun name Holds =
      (given : Given) × AreSettingsAt Opens bytes name given × ReachedAt Reaches given.control Holds

  -- that run sent a status of this form, which is printed after the title of one of several or of one alone
  abbrev pub RunAnswers : Bool → Format → List ℕ → Option (List ℕ) → Option (List ℕ) → Type 0
  RunAnswers several format name old new = ReachesRun name
      (λ stream. AnswersOver contents remaining (Status format) stream (title_for several format name) old new)

  -- The status of the runs of these files. Without files there is none.
  abbrev pub StatusEnds : Type 0 → Format → List (List ℕ) → Option (List ℕ) → Option (List ℕ) → ℕ → Type 0
  StatusEnds write format [] old new status = (status ≡ 1) × (new ≡ old)
  StatusEnds write format (name ∷ names) old new status =
      EndsStatuses (RunAnswers (nat_lt 1 (length (name ∷ names))) format) (name ∷ names) old new 0 status
      ⊎ (write × (status ≡ 1))

  -- the same for an order
  abbrev pub StatusRuns : Type 0 → StatusOrder → Option (List ℕ) → Option (List ℕ) → ℕ → Type 0
  StatusRuns write order old new status = StatusEnds write order.format
      (unwrap_or (option_map (λ names. map (λ name. name.now) names.now) order.settings) []) old new status

  -- The request of an order to stop was sent to the run with its settings, whose stream then ended; or the status is 1.
  abbrev pub StopRuns : StopOrder → ℕ → Type 0
  StopRuns order status =
      ((status ≡ 0) × ReachesRun order.settings.now (EndsAfter contents remaining order.request))
      ⊎ (status ≡ 1)
