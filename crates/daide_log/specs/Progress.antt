-- How far a log was read and reported, also at a fault. (own)
use Rattle.std.specs.Prelude.{◌≡◌, ℕ, ◌+◌, ◌<◌, ◌≤◌, ◌⊎◌, Bool, true, false, List, [], ◌∷◌, ◌++◌, length, map}
use Rattle.std.specs.Prelude.{Option, IfSome, IfOk, IfErr, Result, Ok, Err}
use Rattle.std.specs.Bool.{MatchBool}
use Rattle.std.specs.Io.KnownBytes.{Keeps, Appends, IsAtEnd}
use Rattle.daide_log_lines.specs.Reader.{Reader, Gives}
use Rattle.daide_protocol.specs.Machine.{SessionState}
use Rattle.daide_protocol.specs.Wires.{SessionView}
use Rattle.daide_protocol.specs.declared.summary.Summary.{Summary}
use Rattle.daide_log_lines.specs.declared.fault.LogFault.{LogFault}
use Rattle.daide_log_lines.specs.declared.fault.LogFault.TheVariants.{BadLine, LineTooLong, TooManyLines}
use Rattle.daide_log_lines.specs.declared.fault.LogFault.TheVariants.{Read, Write, Memory}
use Rattle.daide_log.specs.declared.heading.Version.{Version}
use Rattle.daide_log.specs.declared.opening.Opened.{Opened}
use Rattle.daide_log.specs.declared.opening.PreambleProgress.{PreambleProgress}
use Rattle.daide_log.specs.declared.opening.PreambleProgress.TheVariants as Steps
use Rattle.daide_log.specs.Heading.{Preamble}
use Rattle.daide_log.specs.PreambleKnown.{preamble_of, heading_of}
use Rattle.daide_protocol.specs.Summary.{nothing_counted}
use Rattle.daide_words.specs.declared.word.Word.{Word}
use Rattle.daide_words.specs.Words.{words_of}
use Rattle.daide_log.specs.ReportForm.{ReportForm}
use Rattle.daide_log.specs.Report.{texts_of, counted_over, summary_line}
use Rattle.daide_log.specs.Log.{LogState, Opening, Playing, state_after_preamble, GoesOnBy, ReportsBy, ReportsAllBy, IsReport, IsReportBy}
use Rattle.daide_log_lines.specs.LogLine.{IsUnbroken, MayBeginLine, longest_line, most_lines}
use Rattle.daide_log_lines.specs.Lines.{block_size}

-- the states of the sessions
abbrev pub states_of : List SessionView → List SessionState
states_of sessions = map (λ session. session.state) sessions

module _ {Answer : Type 0} (form : ReportForm Answer) where
  -- A read in time. The bytes read before it are complete lines and the beginning of the next line. The writer already
  -- has the report of those lines, after what it had at first.
  pub record IsInTime (before : Option (List ℕ)) (came : List ℕ) (written : Option (List ℕ)) : Type 0 where
    pub bytes : List ℕ
    pub line : List ℕ
    pub whole : came ≡ bytes ++ line
    pub number : ℕ
    pub reported : List form.Entry
    pub stage : LogState
    pub reports : ReportsBy form bytes number reported stage
    pub begun : MayBeginLine number line
    pub appended : Appends before written (texts_of form.text reported)

  -- the reader returned these bytes, by reads in time
  abbrev pub GivesInTime : Option (List ℕ) → Reader → Reader → List ℕ → Type 0
  GivesInTime before old new given = Gives (IsInTime before) old new given

  -- of the bytes read, these lines are reported, and these bytes are still in the block
  pub record HasRead (before : Option (List ℕ)) (old new : Reader) (buffered : List ℕ) (number : ℕ) (reported : List form.Entry)
      (stage : LogState) : Type 0 where
    pub given : List ℕ
    pub gives : GivesInTime before old new given
    pub bytes : List ℕ
    pub whole : given ≡ bytes ++ buffered
    pub reports : ReportsBy form bytes number reported stage

  -- all lines are reported, and no byte is left
  pub record HasReadAll (before : Option (List ℕ)) (old new : Reader) (number : ℕ) (reported : List form.Entry) (stage : LogState) :
      Type 0 where
    pub given : List ℕ
    pub gives : GivesInTime before old new given
    pub ended : IsAtEnd new.remaining
    pub reports : ReportsAllBy form given number reported stage

  -- the reader failed within a line, after these entries were reported
  pub record IsReadTo (before : Option (List ℕ)) (old new : Reader) (reported : List form.Entry) : Type 0 where
    pub given : List ℕ
    pub gives : GivesInTime before old new given
    pub bytes : List ℕ
    pub line : List ℕ
    pub whole : given ≡ bytes ++ line
    pub number : ℕ
    pub stage : LogState
    pub reports : ReportsBy form bytes number reported stage
    pub begun : MayBeginLine number line

  -- the bytes read: `number` lines with this report, `count` bytes of the next line, and less than a block after these
  pub record StopsBehind (before : Option (List ℕ)) (old new : Reader) (reported : List form.Entry) (number count : ℕ) : Type 0 where
    pub given : List ℕ
    pub gives : GivesInTime before old new given
    pub bytes : List ℕ
    pub start : List ℕ
    pub beyond : List ℕ
    pub whole : given ≡ bytes ++ start ++ beyond
    pub started : length start ≡ count
    pub few : length beyond < block_size
    pub stage : LogState
    pub reports : ReportsBy form bytes number reported stage

  -- The bytes read: the lines before line `n`, with this report, that line with its line feed, and less than a block
  -- after it.
  pub record StopsBehindLine (before : Option (List ℕ)) (old new : Reader) (reported : List form.Entry) (n : ℕ) : Type 0 where
    pub given : List ℕ
    pub gives : GivesInTime before old new given
    pub bytes : List ℕ
    pub line : List ℕ
    pub beyond : List ℕ
    pub whole : given ≡ bytes ++ line ++ 10 ∷ beyond
    pub unbroken : IsUnbroken line
    pub few : length beyond < block_size
    pub number : ℕ
    pub next : n ≡ number + 1
    pub stage : LogState
    pub reports : ReportsBy form bytes number reported stage

  -- The whole log was read: the lines before line `n`, with this report, and that line, without a line feed.
  pub record StopsAtLastLine (before : Option (List ℕ)) (old new : Reader) (reported : List form.Entry) (n : ℕ) : Type 0 where
    pub given : List ℕ
    pub gives : GivesInTime before old new given
    pub ended : IsAtEnd new.remaining
    pub bytes : List ℕ
    pub line : List ℕ
    pub whole : given ≡ bytes ++ line
    pub unbroken : IsUnbroken line
    pub number : ℕ
    pub next : n ≡ number + 1
    pub stage : LogState
    pub reports : ReportsBy form bytes number reported stage

  -- the whole log was read, and it ends before line `n`
  abbrev pub StopsBefore : Option (List ℕ) → Reader → Reader → List form.Entry → ℕ → Type 0
  StopsBefore before old new reported n =
      (number : ℕ) × (stage : LogState) × (n ≡ number + 1) × HasReadAll before old new number reported stage

  -- How far the log was read if line `n` has no allowed form, or is missing: less than a block after its line feed, or
  -- to its end if the log ends with it, or to the end of a log without it.
  abbrev pub StopsAtLine : Option (List ℕ) → Reader → Reader → List form.Entry → ℕ → Type 0
  StopsAtLine before old new reported n =
      StopsBehindLine before old new reported n
      ⊎ (StopsAtLastLine before old new reported n ⊎ StopsBefore before old new reported n)

  -- The log has this fault, after these entries. Less than a block was read after the byte that shows it, and no read
  -- began after it. That byte is the line feed of a bad line, the byte that makes a line too long, or the first byte of
  -- a line beyond the limit. A log that ends in a bad line, or before its head is complete, was read to its end.
  abbrev pub IsFaultOf : Option (List ℕ) → Reader → Reader → List form.Entry → LogFault → Type 0
  IsFaultOf before old new reported (BadLine n) =
      IfSome old.remaining (λ log. IsReportBy form log (texts_of form.text reported) (Err (BadLine n))) × StopsAtLine before old new reported n
  IsFaultOf before old new reported (LineTooLong n) =
      IfSome old.remaining (λ log. IsReportBy form log (texts_of form.text reported) (Err (LineTooLong n))) × (number : ℕ)
      × (n ≡ number + 1) × StopsBehind before old new reported number (longest_line + 1)
  IsFaultOf before old new reported TooManyLines =
      IfSome old.remaining (λ log. IsReportBy form log (texts_of form.text reported) (Err TooManyLines))
      × StopsBehind before old new reported most_lines 1
  IsFaultOf before old new reported Read = IsReadTo before old new reported
  IsFaultOf before old new reported Write = (given : List ℕ) × GivesInTime before old new given
  IsFaultOf before old new reported Memory = ⊥

  -- ---- the head

  abbrev pub IsOpenedBy : Bool → Preamble → ℕ → Option (List ℕ) → Reader → Reader → List ℕ → Type 0
  IsOpenedBy true head lines before old new buffered = HasRead before old new buffered lines [] (state_after_preamble head)
  IsOpenedBy false head lines before old new buffered = HasReadAll before old new lines [] (state_after_preamble head)

  -- the head was read, and its last line had a line feed or not
  abbrev pub IsOpened : Opened → Option (List ℕ) → Reader → Reader → List ℕ → Type 0
  IsOpened opened before old new buffered =
      IsOpenedBy opened.is_ended (preamble_of opened.head) opened.lines before old new buffered × (opened.lines ≤ most_lines)

  -- ---- faults

  -- the report before a fault was written
  abbrev pub IsFaultBehind : Reader → Reader → Option (List ℕ) → Option (List ℕ) → LogFault → Type 0
  IsFaultBehind old new before after fault =
      (reported : List form.Entry) × IsFaultOf before old new reported fault × Appends before after (texts_of form.text reported)

  -- What holds at each fault. The log has it, and the report before it was written. After a failed write only this
  -- holds: each read was in time. Memory is refused after the head, with nothing written; in a form that allocates
  -- later, the same holds as after a failed write.
  abbrev pub IsFaultAfter : Reader → Reader → Option (List ℕ) → Option (List ℕ) → LogFault → Type 0
  IsFaultAfter old new before after (BadLine n) = IsFaultBehind old new before after (BadLine n)
  IsFaultAfter old new before after (LineTooLong n) = IsFaultBehind old new before after (LineTooLong n)
  IsFaultAfter old new before after TooManyLines = IsFaultBehind old new before after TooManyLines
  IsFaultAfter old new before after Read = IsFaultBehind old new before after Read
  IsFaultAfter old new before after Write = (given : List ℕ) × GivesInTime before old new given
  IsFaultAfter old new before after Memory =
      MatchBool form.late ((given : List ℕ) × GivesInTime before old new given)
      ((opened : Opened) × (buffered : List ℕ) × IsOpened opened before old new buffered × Keeps before after)

  -- the report of the log was written, and the log was returned by reads in time
  abbrev pub Reported : Reader → Reader → Option (List ℕ) → Option (List ℕ) → Answer → Type 0
  Reported old new before after answer =
      (given : List ℕ) × GivesInTime before old new given
      × IfSome old.remaining (λ log. (text : List ℕ) × IsReportBy form log text (Ok answer) × Appends before after text)

  -- ---- the events

  -- the lines of the head were read, this many, and nothing of the report was written
  abbrev pub StartsReport : Reader → List ℕ → ℕ → Version → List SessionState → Option (List ℕ) → Reader → Option (List ℕ) →
      Type 0
  StartsReport now buffered number version states all origin before =
      HasRead before origin now buffered number [] (Playing version states) × Keeps before all

  -- a line after the head moves the sessions; its entries are counted, and their text written
  abbrev pub Judges : (form.Context → Type 0) → (form.Context → Type 0) → Version → ℕ → List SessionState → List ℕ →
      List SessionState → Summary → Summary → Option (List ℕ) → Option (List ℕ) → Type 0
  Judges knew knows version number old line new before after written_before written_after =
      (context : form.Context) → knew context →
      (reported : List form.Entry) × GoesOnBy form context number (Playing version old) line reported (Playing version new)
      × (after ≡ counted_over form.counted reported before) × Appends written_before written_after (texts_of form.text reported)
      × knows (form.next context reported)

  -- between two lines after the head
  pub record IsPlaying (knows : form.Context → Type 0) (old new : Reader) (buffered : List ℕ) (number : ℕ) (version : Version)
      (sessions : List SessionState) (summary : Summary) (before after : Option (List ℕ)) : Type 0 where
    pub reported : List form.Entry
    pub has_read : HasRead before old new buffered number reported (Playing version sessions)
    pub counts : summary ≡ counted_over form.counted reported nothing_counted
    pub written : Appends before after (texts_of form.text reported)
    pub known : knows (form.next form.fresh reported)

  -- the end of the report was written, and this is the result, by the number of the last line if it is cut
  abbrev pub IsFinished : Option ℕ → Version → List SessionState → Summary → Option (List ℕ) → Option (List ℕ) → Answer →
      Type 0
  IsFinished cut version sessions summary before after answer =
      (answer ≡ form.answer summary cut version sessions)
      × Appends before after (form.closing cut version sessions ++ summary_line summary)

  -- the report of the log was written, or the log has this fault
  abbrev pub IsAnswered : Reader → Reader → Option (List ℕ) → Option (List ℕ) → Result Answer LogFault → Type 0
  IsAnswered old new before after result =
      IfOk result (λ answer. Reported old new before after answer)
      × IfErr result (λ fault. IsFaultAfter old new before after fault)

-- ---- the head, with the words that it adds

-- after this number of lines of the head, one more was read
abbrev pub IsPreambleProgress : {Answer : Type 0} → (List Word → ReportForm Answer) → Option (List ℕ) → Reader → Reader → List ℕ → ℕ → Result PreambleProgress LogFault → Type 0
IsPreambleProgress form before old new buffered number (Ok (Steps.More heading)) =
    ((words : List Word) → HasRead (form words) before old new buffered (number + 1) [] (Opening (heading_of heading)))
    × (number < most_lines)
IsPreambleProgress form before old new buffered number (Ok (Steps.Done opened)) =
    IsOpened (form (words_of opened.head.words)) opened before old new buffered
IsPreambleProgress form before old new buffered number (Err fault) =
    (words : List Word) → IsFaultOf (form words) before old new [] fault

-- all lines of the head were read
abbrev pub AreOpened : {Answer : Type 0} → (List Word → ReportForm Answer) → Option (List ℕ) → Reader → Reader → List ℕ → Result Opened LogFault → Type 0
AreOpened form before old new buffered (Ok opened) =
    IsOpened (form (words_of opened.head.words)) opened before old new buffered
AreOpened form before old new buffered (Err fault) =
    (words : List Word) → IsFaultOf (form words) before old new [] fault

-- ---- the plain report

-- the bytes read have this fault, whatever follows them
abbrev pub HasFault : List ℕ → LogFault → Type 0
HasFault came fault = (more : List ℕ) → (text : List ℕ) × IsReport (came ++ more) text (Err fault)
