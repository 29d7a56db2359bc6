-- The end of `check`: the reports of logs, the table after several, and what is said of their faults. (own)
use Rattle.std.specs.Prelude.{◌≡◌, ◌≢◌, ◌⊎◌, ⊤, ℕ, ◌==◌, ◌&&◌, ◌||◌, max, Bool, true, false, if◌then◌else◌}
use Rattle.std.specs.Prelude.{List, [], ◌∷◌, ◌++◌, map, codes, Option, Some, None, Result, Ok, Err, IfErr}
use Rattle.std.specs.Char.{is_ascii_control}
use Rattle.std.specs.Fmt.{decimal}
use Rattle.std.specs.Io.KnownBytes.{Appends}
use Rattle.std.specs.declared.io.ErrorKind.{ErrorKind}
use Rattle.daide_words.specs.declared.word.Word.{Word}
use Rattle.daide_protocol.specs.declared.summary.Summary.{Summary}
use Rattle.daide_protocol.specs.Summary.{is_clean}
use Rattle.daide_log_lines.specs.declared.fault.LogFault.{LogFault}
use Rattle.daide_log_lines.specs.declared.fault.LogFault.TheVariants.{BadLine, LineTooLong, TooManyLines}
use Rattle.daide_log_lines.specs.declared.fault.LogFault.TheVariants.{Read, Write, Memory}
use Rattle.daide_log_lines.specs.Reader.{silent}
use Rattle.daide_log.specs.declared.explained.Explained.{Explained}
use Rattle.daide_log.specs.Explained.{explained}
use Rattle.daide_log.specs.Log.{plain}
use Rattle.daide_log.specs.Progress.{IsAnswered}
use Rattle.daide_tools.specs.declared.faults.RefusedLog.{RefusedLog}
use Rattle.daide_tools.specs.Opened.{ReadsNamed, standard_input}

-- ---- the report of one log

-- the status of a log by whether nothing in it was refused
abbrev pub counts_status : Bool → ℕ
counts_status true = 0
counts_status false = 3

abbrev pub check_result : Result Summary LogFault → Result ℕ LogFault
check_result (Ok counts) = Ok (counts_status (is_clean counts))
check_result (Err fault) = Err fault

-- with explanations an incomplete frame is a fault too
abbrev pub explained_result : Result Explained LogFault → Result ℕ LogFault
explained_result (Ok report) = Ok (counts_status (is_clean report.counts && report.unfinished == 0))
explained_result (Err fault) = Err fault

-- the report of a log was written, with this status or up to this fault; `rest` is the unread rest of the log
abbrev pub ReportsLog : Bool → Option (List ℕ) → Option (List ℕ) → Option (List ℕ) → Option (List ℕ) → Result ℕ LogFault →
    Type 0
ReportsLog false log rest old new result = (answer : Result Summary LogFault)
    × IsAnswered plain (silent log) (silent rest) old new answer × (result ≡ check_result answer)
ReportsLog true log rest old new result = (words : List Word) × (answer : Result Explained LogFault)
    × IsAnswered (explained words) (silent log) (silent rest) old new answer × (result ≡ explained_result answer)

-- the exit status by that result
abbrev pub log_status : Result ℕ LogFault → ℕ
log_status (Ok status) = status
log_status (Err fault) = 1

-- the fault of a log, with the reason why a line of it is none
abbrev pub fault_in : Result ℕ RefusedLog → Result ℕ LogFault
fault_in (Ok status) = Ok status
fault_in (Err refused) = Err refused.fault

-- ---- what is said of a fault

abbrev pub fault_text : LogFault → List ℕ
fault_text (BadLine n) = codes "line " ++ (decimal n ++ codes " is not a log line")
fault_text (LineTooLong n) = codes "line " ++ (decimal n ++ codes " is too long")
fault_text TooManyLines = codes "too many lines"
fault_text Read = codes "input could not be read"
fault_text Write = codes "output could not be written"
fault_text Memory = codes "out of memory"

-- after the name of its log, if there are several
abbrev pub named_fault : Option (List ℕ) → LogFault → List ℕ
named_fault None fault = fault_text fault
named_fault (Some name) fault = name ++ (codes ": " ++ fault_text fault)

-- a line on standard error
abbrev pub error_line : List ℕ → List ℕ
error_line text = codes "daide-gate: " ++ (text ++ codes "\n")

-- What may follow the line of a fault: after that of a line that is not a log line, why it is none, unless standard error
-- failed (`unsaid`).
abbrev pub SaysWhy : Type 0 → LogFault → Option (List ℕ) → Option (List ℕ) → Type 0
SaysWhy unsaid (BadLine n) said new = ((reason : List ℕ) × Appends said new reason) ⊎ unsaid
SaysWhy unsaid (LineTooLong n) said new = new ≡ said
SaysWhy unsaid TooManyLines said new = new ≡ said
SaysWhy unsaid Read said new = new ≡ said
SaysWhy unsaid Write said new = new ≡ said
SaysWhy unsaid Memory said new = new ≡ said

-- the line of this fault is written to standard error, and what may follow it
abbrev pub SaysFault : Type 0 → Option (List ℕ) → LogFault → Option (List ℕ) → Option (List ℕ) → Type 0
SaysFault unsaid name fault old new = (said : Option (List ℕ))
    × Appends old said (error_line (named_fault name fault)) × SaysWhy unsaid fault said new

-- a failed read, refused memory and a failed write happened
abbrev pub IsCheckCause : Type 0 → Type 0 → Type 0 → LogFault → Type 0
IsCheckCause read refused write (BadLine n) = ⊤
IsCheckCause read refused write (LineTooLong n) = ⊤
IsCheckCause read refused write TooManyLines = ⊤
IsCheckCause read refused write Read = read
IsCheckCause read refused write Write = write
IsCheckCause read refused write Memory = refused

-- what is said of a log by its result, on standard error before and after: nothing, or its fault, which has its cause
abbrev pub SaysResult : Type 0 → Type 0 → Type 0 → Type 0 → Option (List ℕ) → Result ℕ LogFault → Option (List ℕ) →
    Option (List ℕ) → Type 0
SaysResult read refused write unsaid label (Ok status) old new = new ≡ old
SaysResult read refused write unsaid label (Err fault) old new =
    IsCheckCause read refused write fault × SaysFault unsaid label fault old new

-- The input of this name could not be read: a read of standard input failed; or the file could not be opened, or a read
-- of a file failed.
abbrev pub CannotRead : {F : Type 0} → (List ℕ → Result F ErrorKind → Type 0) → Type 0 → Type 0 → List ℕ → Type 0
CannotRead Opens input file name = (name ≡ standard_input → input)
    × (name ≢ standard_input → ((cause : ErrorKind) × Opens name (Err cause)) ⊎ file)

-- What is said of a log of some name, with a label before its fault. The first is that memory was refused.
abbrev pub LogSaying : Type 1
LogSaying = Type 0 → Option (List ℕ) → List ℕ → Result ℕ LogFault → Option (List ℕ) → Option (List ℕ) → Type 0

abbrev pub SaysOfNamed : (List ℕ → Type 0) → Type 0 → Type 0 → LogSaying
SaysOfNamed IsUnread write unsaid refused label name result old new =
    SaysResult (IsUnread name) refused write unsaid label result old new

-- of standard error nothing is said, but the fault has its cause
abbrev pub HasCheckCause : (List ℕ → Type 0) → Type 0 → LogSaying
HasCheckCause IsUnread write refused label name result old new =
    IfErr result (IsCheckCause (IsUnread name) refused write)

-- the report of a log alone, and what is said of its fault
abbrev pub ChecksRead : Type 0 → Type 0 → Type 0 → Type 0 → Bool → Option (List ℕ) → Option (List ℕ) → Option (List ℕ) →
    Option (List ℕ) → Option (List ℕ) → Option (List ℕ) → ℕ → Type 0
ChecksRead read refused write unsaid is_explained log rest old new said_before said status = (result : Result ℕ LogFault)
    × ReportsLog is_explained log rest old new result × SaysResult read refused write unsaid None result said_before said
    × (status ≡ log_status result)

-- ---- several logs

-- a name as a comment, with `?` for each control character
abbrev pub shown_byte : ℕ → ℕ
shown_byte byte = if is_ascii_control byte then 63 else byte

abbrev pub name_line : List ℕ → List ℕ
name_line name = codes "# " ++ (map shown_byte name ++ codes "\n")

-- the status of logs by that of those before and that of one more: a fault is more than a refusal
abbrev pub worse : ℕ → ℕ → ℕ
worse before one = if before == 1 || one == 1 then 1 else max before one

-- Files by their names, as `ReadsNamed` takes them.
module _ {F : Type 0} (Opens : List ℕ → Result F ErrorKind → Type 0) (remaining : F → Option (List ℕ))
    (is_explained : Bool) where
  -- the log of this name was reported; if it can't be opened, nothing is written
  abbrev pub ReportsNamed : List ℕ → Option (List ℕ) → Option (List ℕ) → Option (List ℕ) → Option (List ℕ) →
      Result ℕ LogFault → Type 0
  ReportsNamed name known rest old new result = ReadsNamed Opens remaining name
      (λ log left. ReportsLog is_explained log left old new result) ((new ≡ old) × (result ≡ Err Read)) known rest

-- The table after the reports, or no memory for it, or a failed write; by the status of the reports. Of the memory of
-- the table no clause says that it was refused.
abbrev pub EndsWithTable : LogSaying → Option (List ℕ) → Option (List ℕ) → Option (List ℕ) → Option (List ℕ) → ℕ → ℕ → Type 0
EndsWithTable Says old new said_before said before status =
    ((table : List ℕ) × Appends old new table × (said ≡ said_before) × (status ≡ before))
    ⊎ ((new ≡ old) × Says ⊤ None standard_input (Err Memory) said_before said × (status ≡ 1))
    ⊎ (Says ⊤ None standard_input (Err Write) said_before said × (status ≡ 1))

-- What is said of each. The bytes are those of standard input, of the output and of standard error, before and after.
module _ {F : Type 0} (Opens : List ℕ → Result F ErrorKind → Type 0) (remaining : F → Option (List ℕ))
    (is_explained : Bool) (Says : LogSaying) (refused : Type 0) where
  -- one log alone: standard input, or that of a name
  abbrev pub ChecksInput : Option (List ℕ) → Option (List ℕ) → Option (List ℕ) → Option (List ℕ) → Option (List ℕ) →
      Option (List ℕ) → ℕ → Type 0
  ChecksInput known rest old new said_before said status = (result : Result ℕ LogFault)
      × ReportsLog is_explained known rest old new result × Says refused None standard_input result said_before said
      × (status ≡ log_status result)

  abbrev pub ChecksNamed : List ℕ → Option (List ℕ) → Option (List ℕ) → Option (List ℕ) → Option (List ℕ) →
      Option (List ℕ) → Option (List ℕ) → ℕ → Type 0
  ChecksNamed name known rest old new said_before said status = (result : Result ℕ LogFault)
      × ReportsNamed Opens remaining is_explained name known rest old new result × Says refused None name result said_before said
      × (status ≡ log_status result)

  -- one of several: its name, its report, and its fault after its name
  abbrev pub ChecksOne : List ℕ → Option (List ℕ) → Option (List ℕ) → Option (List ℕ) → Option (List ℕ) →
      Option (List ℕ) → Option (List ℕ) → ℕ → Type 0
  ChecksOne name known rest old new said_before said status =
      (named : Option (List ℕ)) × (result : Result ℕ LogFault) × Appends old named (name_line name)
      × ReportsNamed Opens remaining is_explained name known rest named new result
      × Says refused (Some name) name result said_before said × (status ≡ log_status result)

  -- the same, or a write failed, and then nothing is said of it
  abbrev pub EndsOne : Type 0 → List ℕ → Option (List ℕ) → Option (List ℕ) → Option (List ℕ) → Option (List ℕ) →
      Option (List ℕ) → Option (List ℕ) → Option ℕ → Type 0
  EndsOne write name known rest old new said_before said (Some status) =
      ChecksOne name known rest old new said_before said status
  EndsOne write name known rest old new said_before said None = write

  -- each log of these names, in order; `before` and `status` are the status of those before and of all
  abbrev pub ChecksEach : List (List ℕ) → Option (List ℕ) → Option (List ℕ) → Option (List ℕ) → Option (List ℕ) →
      Option (List ℕ) → Option (List ℕ) → ℕ → ℕ → Type 0
  ChecksEach [] known rest old new said_before said before status =
      (rest ≡ known) × (new ≡ old) × (said ≡ said_before) × (status ≡ before)
  ChecksEach (name ∷ names) known rest old new said_before said before status =
      (left : Option (List ℕ)) × (reported : Option (List ℕ)) × (said_then : Option (List ℕ)) × (one : ℕ)
      × ChecksOne name known left old reported said_before said_then one
      × ChecksEach names left rest reported new said_then said (worse before one) status

  -- The reports of several logs, and their table; or a write failed, and then nothing more is said.
  abbrev pub ChecksSeveral : List (List ℕ) → Option (List ℕ) → Option (List ℕ) → Option (List ℕ) → Option (List ℕ) →
      Option (List ℕ) → Option (List ℕ) → ℕ → Type 0
  ChecksSeveral names known rest old new said_before said status =
      ((reported : Option (List ℕ)) × (said_then : Option (List ℕ)) × (all : ℕ)
      × ChecksEach names known rest old reported said_before said_then 0 all
      × EndsWithTable Says reported new said_then said all status)
      ⊎ ((said_then : Option (List ℕ)) × Says refused None standard_input (Err Write) said_then said × (status ≡ 1))

  -- the logs of an order: without names standard input, the one that is named, or several
  abbrev pub ChecksNames : List (List ℕ) → Option (List ℕ) → Option (List ℕ) → Option (List ℕ) → Option (List ℕ) →
      Option (List ℕ) → Option (List ℕ) → ℕ → Type 0
  ChecksNames [] known rest old new said_before said status = ChecksSeveral [] known rest old new said_before said status
  ChecksNames (name ∷ []) known rest old new said_before said status =
      ChecksNamed name known rest old new said_before said status
  ChecksNames (name ∷ other ∷ names) known rest old new said_before said status =
      ChecksSeveral (name ∷ other ∷ names) known rest old new said_before said status

  abbrev pub ChecksLogs : Option (List (List ℕ)) → Option (List ℕ) → Option (List ℕ) → Option (List ℕ) → Option (List ℕ) →
      Option (List ℕ) → Option (List ℕ) → ℕ → Type 0
  ChecksLogs None known rest old new said_before said status = ChecksInput known rest old new said_before said status
  ChecksLogs (Some names) known rest old new said_before said status =
      ChecksNames names known rest old new said_before said status
