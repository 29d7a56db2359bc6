-- The end of `show`, `check`, `frame` and `settings`: the exit status by the result of their libraries, and the output.
-- (own)
use Rattle.std.specs.Prelude.{◌≡◌, ◌≢◌, ◌⊎◌, ⊤, ℕ, Bool, true, false}
use Rattle.std.specs.Prelude.{List, [], ◌∷◌, ◌++◌, map, Option, Some, None, IfSome, option_map, Result, Ok, Err}
use Rattle.std.specs.Prelude.{IfErr, is_ok}
use Rattle.std.specs.List.{join_with_byte}
use Rattle.std.specs.Option.{is_some}
use Rattle.std.specs.Io.KnownBytes.{Appends, Keeps}
use Rattle.std.specs.declared.io.ErrorKind.{ErrorKind}
use Rattle.daide_words.specs.declared.word.Word.{Word}
use Rattle.daide_words.specs.Word.{names_of}
use Rattle.daide_token.specs.Names.{Named}
use Rattle.daide_show.specs.Shown.{ShowRequest, Shows}
use Rattle.daide_show.specs.Shown as shown
use Rattle.daide_show.specs.declared.frame_view.ShowFault.{ShowFault}
use Rattle.daide_show.specs.declared.frame_view.ShowFault.TheVariants as show_faults
use Rattle.daide_text.specs.Frames.{IsTextCause, Writes, WritesUpTo}
use Rattle.daide_text.specs.declared.frames.TextFault.{TextFault}
use Rattle.daide_command_line.specs.declared.arguments.ShowOrder.{ShowOrder}
use Rattle.daide_command_line.specs.declared.arguments.CheckOrder.{CheckOrder}
use Rattle.daide_command_line.specs.declared.arguments.FrameOrder.{FrameOrder}
use Rattle.daide_command_line.specs.declared.arguments.SettingsOrder.{SettingsOrder}
use Rattle.toml.specs.Parse.{parse_document}
use Rattle.daide_settings.specs.Causes.{IsMemoryRefused, IsSettingsCause}
use Rattle.daide_settings.specs.declared.settings.Settings.{Settings}
use Rattle.daide_settings.specs.declared.settings.SettingsError.TheVariants as settings_errors
use Rattle.daide_settings.specs.declared.settings.judged.JudgeFault.TheVariants as judge_faults
use Rattle.daide_settings.specs.Given.{given_of}
use Rattle.daide_settings.specs.Report.{IsSettingsReport}
use Rattle.daide_settings.specs.Settings.{Given, judged_settings}
use Rattle.daide_tools.specs.declared.judging.SettingsFault.{SettingsFault}
use Rattle.daide_tools.specs.declared.judging.SettingsFault.TheVariants as settings_faults
use Rattle.daide_tools.specs.declared.trying.Trials.{Trials}
use Rattle.daide_tools.specs.Checking.{CannotRead, ChecksLogs, HasCheckCause}
use Rattle.daide_tools.specs.Needs.{needs_text}
use Rattle.daide_tools.specs.Opened.{IsTextAt, ReadsNamed}
use Rattle.daide_tools.specs.Trials.{passed_text, trials_status}

-- the arguments as one text, if there are any, with a space between each two; otherwise the bytes of standard input
abbrev pub given_by : Option (List (List ℕ)) → Option (List ℕ) → Option (List ℕ)
given_by None known = known
given_by (Some words) known = Some (join_with_byte 32 words)

-- the same, with the arguments as a line
abbrev pub lines_by : Option (List (List ℕ)) → Option (List ℕ) → Option (List ℕ)
lines_by None known = known
lines_by (Some words) known = Some (join_with_byte 32 words ++ 10 ∷ [])

-- ---- `show`

-- the status by the result of `show_input`: whether the frame would be relayed, or a fault
abbrev pub show_status : Result Bool ShowFault → ℕ
show_status (Ok true) = 0
show_status (Ok false) = 3
show_status (Err fault) = 1

-- the relation of a result to an input, and to the output before and after
abbrev pub IsShowAnswer : ShowRequest → Option (List ℕ) → Option (List ℕ) → Option (List ℕ) → Result Bool ShowFault → Type 0
IsShowAnswer asked input old new (Ok relayed) = IfSome input (λ bytes. Shows asked bytes relayed old new)
IsShowAnswer asked input old new (Err fault) =
    IfSome input (λ bytes. shown.IsFaultAt asked bytes fault) × (fault ≢ show_faults.Write → Keeps old new)

-- the status is that of a result for this input, whose fault has its cause
abbrev pub ShowEnds : (ShowFault → Type 0) → ShowRequest → Option (List ℕ) → Option (List ℕ) → Option (List ℕ) → ℕ →
    Type 0
ShowEnds IsCause asked input old new status =
    (answer : Result Bool ShowFault) × IsShowAnswer asked input old new answer × IfErr answer IsCause
    × (status ≡ show_status answer)

-- ---- `frame`

abbrev pub frame_status : Result (Unit {0}) TextFault → ℕ
frame_status (Ok done) = 0
frame_status (Err fault) = 1

-- the relation of a result to lines of text, and to the output before and after
abbrev pub IsFrameAnswer : List Named → Option (List ℕ) → Option (List ℕ) → Option (List ℕ) → Result (Unit {0}) TextFault →
    Type 0
IsFrameAnswer added input old new (Ok done) = Writes added input old new
IsFrameAnswer added input old new (Err fault) = WritesUpTo added input old new fault

-- the status is that of a result for these lines, whose fault has its cause
abbrev pub FrameEnds : (TextFault → Type 0) → List Named → Option (List ℕ) → Option (List ℕ) → Option (List ℕ) → ℕ →
    Type 0
FrameEnds IsCause added input old new status =
    (answer : Result (Unit {0}) TextFault) × IsFrameAnswer added input old new answer × IfErr answer IsCause
    × (status ≡ frame_status answer)

-- ---- `settings`

-- the judgement of a text: its settings, if it has no fault
abbrev pub IsJudgement : List ℕ → Option Settings → Type 0
IsJudgement text None = is_ok (judged_settings (parse_document text)) ≡ false
IsJudgement text (Some settings) = judged_settings (parse_document text) ≡ Ok (given_of settings)

-- the output got the report of a text, and then what a run of its settings needs
abbrev pub PrintsJudgement : List ℕ → Option Settings → Option (List ℕ) → Option (List ℕ) → Type 0
PrintsJudgement text settings old new = (report : List ℕ) × IsSettingsReport (parse_document text) report
    × Appends old new (report ++ needs_text settings)

-- memory was refused, for the report or for the settings of a text
abbrev pub AreSettingsRefused : (ℕ → Type 0) → (List ℕ → Type 0) → Type 0
AreSettingsRefused Refuses RefusesText =
    IsMemoryRefused Refuses RefusesText ⊎ ((text : List ℕ) × IsSettingsCause RefusesText text settings_errors.Memory)

-- what happened outside, by a fault, and the output: a failed write, or nothing was written. Of a file that cannot be read
-- no clause says why.
abbrev pub IsSettingsFault : Type 0 → Type 0 → Option (List ℕ) → Option (List ℕ) → SettingsFault → Type 0
IsSettingsFault refused write old new (settings_faults.Text fault) = new ≡ old
IsSettingsFault refused write old new (settings_faults.Judge judge_faults.Write) = write
IsSettingsFault refused write old new (settings_faults.Judge judge_faults.Memory) = refused × (new ≡ old)

-- what was read is judged, and the judgement printed; or there is a fault
abbrev pub JudgesText : Type 0 → Type 0 → Option (List ℕ) → Option (List ℕ) → Option (List ℕ) →
    Result (Option Settings) SettingsFault → Type 0
JudgesText refused write known old new (Ok settings) = (text : List ℕ) × IfSome known (λ all. text ≡ all)
    × IsJudgement text settings × PrintsJudgement text settings old new
JudgesText refused write known old new (Err fault) = IsSettingsFault refused write old new fault

-- the trials of settings were made, and those that passed are printed; or a write failed
abbrev pub TriesAddresses : Type 0 → Settings → Option (List ℕ) → Option (List ℕ) → ℕ → Type 0
TriesAddresses write settings old new status =
    ((trials : Trials) × (status ≡ trials_status trials) × Appends old new (passed_text (is_some settings.control) trials))
    ⊎ (write × (status ≡ 1))

-- the status after a judgement, and what `--try` writes then
abbrev pub EndsJudged : Type 0 → Result (Option Settings) SettingsFault → Bool → Option (List ℕ) → Option (List ℕ) → ℕ →
    Type 0
EndsJudged write (Ok (Some settings)) false old new status = (status ≡ 0) × (new ≡ old)
EndsJudged write (Ok (Some settings)) true old new status = TriesAddresses write settings old new status
EndsJudged write (Ok None) tried old new status = (status ≡ 1) × (new ≡ old)
EndsJudged write (Err fault) tried old new status = (status ≡ 1) × (new ≡ old)

-- the status and the output are those of a judgement of what was read
abbrev pub SettingsEnds : Type 0 → Type 0 → Bool → Option (List ℕ) → Option (List ℕ) → Option (List ℕ) → ℕ → Type 0
SettingsEnds refused write tried known old new status =
    (answer : Result (Option Settings) SettingsFault) × (judged : Option (List ℕ))
    × JudgesText refused write known old judged answer × EndsJudged write answer tried judged new status

-- ---- an order

-- of the arguments, which are read too, no clause says that a read failed
abbrev pub read_by : Option (List (List ℕ)) → Type 0 → Type 0
read_by None read = read
read_by (Some words) read = ⊤

-- The same for an order, by the bytes of standard input and by the rest of them that is unread. `Opens` relates a name to
-- what was opened by it, and `remaining` a file to its bytes. `read`, `refused` and `write` say that a read failed, that
-- memory was refused and that a write failed.
module _ {F : Type 0} (Opens : List ℕ → Result F ErrorKind → Type 0) (remaining : F → Option (List ℕ)) where
  -- the settings of the file of this name
  abbrev pub AreSettingsAt : List ℕ → Given → Type 0
  AreSettingsAt name given =
      (text : List ℕ) × IsTextAt Opens remaining name text × (judged_settings (parse_document text) ≡ Ok given)

  -- the words of a command: those of the settings of this name; none without one
  abbrev pub AreWordsAt : Option (List ℕ) → List Word → Type 0
  AreWordsAt None words = words ≡ []
  AreWordsAt (Some name) words = (given : Given) × AreSettingsAt name given × (words ≡ given.words)

  -- if the settings with the words give none, the status is 1, and nothing is written
  abbrev pub ShowRuns : Type 0 → Type 0 → Type 0 → ShowOrder → Option (List ℕ) → Option (List ℕ) → Option (List ℕ) → ℕ →
      Type 0
  ShowRuns read refused write order known old new status =
      ((order.words ≢ None) × (status ≡ 1) × Keeps old new)
      ⊎ ((words : List Word) × AreWordsAt (option_map (λ name. name.now) order.words) words
      × ShowEnds (shown.IsShowCause read refused write)
      (record { words = words; side = order.side; level = order.level; explained = order.is_explained })
      (given_by (option_map (λ typed. map (λ word. word.now) typed.now) order.typed) known) old new status)

  -- The logs of the order are reported, and a fault has its cause, whatever is said on standard error. `file` says that
  -- a read of a file failed.
  abbrev pub CheckRuns : Type 0 → Type 0 → Type 0 → Type 0 → CheckOrder → Option (List ℕ) → Option (List ℕ) →
      Option (List ℕ) → Option (List ℕ) → ℕ → Type 0
  CheckRuns read file refused write order known rest old new status =
      ChecksLogs Opens remaining order.is_explained (HasCheckCause (CannotRead Opens read file) write) refused
      (option_map (λ files. map (λ file. file.now) files.now) order.files) known rest old new None None status

  -- as for `show`
  abbrev pub FrameRuns : Type 0 → Type 0 → Type 0 → FrameOrder → Option (List ℕ) → Option (List ℕ) → Option (List ℕ) → ℕ →
      Type 0
  FrameRuns read refused write order known old new status =
      ((order.words ≢ None) × (status ≡ 1) × Keeps old new)
      ⊎ ((words : List Word) × AreWordsAt (option_map (λ name. name.now) order.words) words
      × FrameEnds
      (IsTextCause (read_by (option_map (λ typed. map (λ word. word.now) typed.now) order.typed) read) refused write)
      (names_of words)
      (lines_by (option_map (λ typed. map (λ word. word.now) typed.now) order.typed) known) old new status)

  -- a text by its name is judged; if it can't be opened, the status is 1, and nothing is written
  abbrev pub SettingsRuns : Type 0 → Type 0 → SettingsOrder → Option (List ℕ) → Option (List ℕ) → Option (List ℕ) →
      Option (List ℕ) → ℕ → Type 0
  SettingsRuns refused write order known rest old new status = ReadsNamed Opens remaining order.path.now
      (λ text left. SettingsEnds refused write order.is_tried text old new status) ((status ≡ 1) × (new ≡ old)) known rest
