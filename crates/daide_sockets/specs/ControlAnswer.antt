-- The answer on a control connection. The answer to a status is made row by row: its opening, a row for each session that
-- is shown, and its end. (own)
use Rattle.std.specs.Prelude.{◌≡◌, ◌⊎◌, ℕ, List, ◌++◌, codes, Option, Some, None}
use Rattle.std.specs.Fmt.{decimal}
use Rattle.daide_status.specs.StatusTexts.{status_view, begun, with_row, ended}
use Rattle.daide_status.specs.declared.request.Format.{Format}
use Rattle.daide_status.specs.declared.snapshot.RunStatus.{RunStatus}
use Rattle.daide_status.specs.declared.snapshot.SessionRow.{SessionRow}
use Rattle.daide_status.specs.declared.text.StatusText.{StatusText}
use Rattle.daide_sockets.specs.declared.control_answer.Answer.{Answer}
use Rattle.daide_sockets.specs.declared.control_answer.Answer.TheVariants.{Text, UnknownRequest, OutOfMemory, Stopping, TooManyWait}
use Rattle.daide_sockets.specs.declared.control_request.RequestedStop.{RequestedStop}
use Rattle.daide_sockets.specs.declared.control_request.RequestedStop.TheVariants.{Finish, Now, Session}

-- the bytes of an answer
abbrev pub reply_text : Answer → List ℕ
reply_text (Text text) = text.items
reply_text UnknownRequest = codes "unknown request\n"
reply_text OutOfMemory = codes "out of memory\n"
reply_text (Stopping order) = codes "stopping\n"
reply_text (TooManyWait order) = codes "too many wait\n"

-- the stop that is carried out with an answer: if too many wait, that of the run all the same, and that of a session not
abbrev pub ordered_by : Answer → Option RequestedStop
ordered_by (Text text) = None
ordered_by UnknownRequest = None
ordered_by OutOfMemory = None
ordered_by (Stopping order) = Some order
ordered_by (TooManyWait Finish) = Some Finish
ordered_by (TooManyWait Now) = Some Now
ordered_by (TooManyWait (Session number)) = None

-- the stop that a connection waits for after an answer
abbrev pub waits_by : Answer → Option RequestedStop
waits_by (Text text) = None
waits_by UnknownRequest = None
waits_by OutOfMemory = None
waits_by (Stopping order) = Some order
waits_by (TooManyWait order) = None

-- a status begins with that of the run, unless memory is refused
abbrev pub Begins : {A : Type 0} → Format → RunStatus → Option (StatusText A) → Type 0
Begins format run None = Unit {0}
Begins format run (Some text) = status_view text ≡ begun format run

-- A status gets this row, as its last one, unless memory is refused. Once it was, there is no status.
abbrev pub Adds : {A : Type 0} → SessionRow → Option (StatusText A) → Option (StatusText A) → Type 0
Adds row None new = new ≡ None
Adds row (Some old) None = Unit {0}
Adds row (Some old) (Some new) = status_view new ≡ with_row row (status_view old)

-- the answer has this text
abbrev pub SaysText : List ℕ → Answer → Type 0
SaysText expected (Text text) = text.items ≡ expected
SaysText expected UnknownRequest = ⊥
SaysText expected OutOfMemory = ⊥
SaysText expected (Stopping order) = ⊥
SaysText expected (TooManyWait order) = ⊥

-- The answer is the whole text of the status, or says that memory was refused.
abbrev pub Finishes : {A : Type 0} → Option (StatusText A) → Answer → Type 0
Finishes None answer = answer ≡ OutOfMemory
Finishes (Some text) answer = SaysText (ended (status_view text)) answer ⊎ (answer ≡ OutOfMemory)

-- The answer says that the session with this number is not there, or that memory was refused.
abbrev pub SaysNoSession : ℕ → Answer → Type 0
SaysNoSession number answer =
    SaysText (codes "no session " ++ (decimal number ++ codes "\n")) answer ⊎ (answer ≡ OutOfMemory)
