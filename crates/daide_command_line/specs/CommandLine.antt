-- The definition of the command line, in the terms of clap's contracts, and the order that arguments give. (own)
use Rattle.std.specs.Prelude.{◌≡◌, ◌≤◌, ◌⊎◌, ◌&&◌, ◌==◌, ℕ, SomeIff, Bool, true, false, if◌then◌else◌, codes}
use Rattle.std.specs.Prelude.{List, [], ◌∷◌, Option, Some, None, Result, Ok, Err, option_map, unwrap_or, map}
use Rattle.std.specs.List.{list_any}
use Rattle.std.specs.Option.{option_map_or}
use Rattle.std.specs.Str.{bytes_eq}
use Rattle.std.specs.Str.Parse.{IsNumeral, digits_value, without_leading_plus}
use Rattle.clap.specs.Words.{App, Row, Rule, Text, all_of, first_of, new_rule, fault_of, subcommand_of, subcommand_rows_of, kind_of}
use Rattle.clap.specs.Kinds.{IsAmong}
use Rattle.clap.specs.declared.error.Error.{Error}
use Rattle.clap.specs.declared.error.kind.ErrorKind.{ErrorKind}
use Rattle.clap.specs.declared.error.kind.ErrorKind.TheVariants.{OutOfMemory}
use Rattle.clap.specs.declared.parser.matches.ArgMatches.{ArgMatches}
use Rattle.clap.specs.Simple.{new_shape}
use Rattle.clap.specs.Lexer.{is_digit, usize_max}
use Rattle.clap.specs.declared.builder.action.ArgAction.TheVariants.{Set, SetTrue, Append}
use Rattle.daide_frame.specs.declared.side.Side.{Side}
use Rattle.daide_frame.specs.declared.side.Side.TheVariants.{Bot, Server}
use Rattle.daide_grammar.specs.declared.level.Level.{Level}
use Rattle.daide_grammar.specs.declared.level.Level.TheVariants.{L0, L10, L20, L30, L40, L50, L60}
use Rattle.daide_command_line.specs.declared.arguments.Order.{Order}
use Rattle.daide_command_line.specs.declared.arguments.Order.TheVariants.{Show, Check, Frame, Settings, Run, BadSide, BadLevel}
use Rattle.daide_command_line.specs.declared.arguments.Order.TheVariants.{Status, Stop, BadFormat, BadTimeout, BadSession, Transcript, BadMessageFormat}
use Rattle.daide_command_line.specs.declared.arguments.ShowOrder.{ShowOrder}
use Rattle.daide_command_line.specs.declared.arguments.CheckOrder.{CheckOrder}
use Rattle.daide_command_line.specs.declared.arguments.TranscriptOrder.{TranscriptOrder}
use Rattle.daide_command_line.specs.declared.arguments.FrameOrder.{FrameOrder}
use Rattle.daide_command_line.specs.declared.arguments.SettingsOrder.{SettingsOrder}
use Rattle.daide_command_line.specs.declared.arguments.RunOrder.{RunOrder}
use Rattle.daide_command_line.specs.declared.arguments.StatusOrder.{StatusOrder}
use Rattle.daide_command_line.specs.declared.arguments.StopOrder.{StopOrder}
use Rattle.daide_status.specs.declared.request.ControlRequest.{ControlRequest}
use Rattle.daide_status.specs.declared.request.ControlRequest.TheVariants as requests
use Rattle.daide_status.specs.declared.request.Format.{Format}
use Rattle.daide_status.specs.declared.request.Format.TheVariants.{Table, Json, Prometheus}

-- ---- the command line

-- an option with a value, a flag, and all words that are not options
abbrev pub option_rule : Text → Rule
option_rule name = record (new_rule name) { long = Some name; action = Some Set; value_names = 1 }

abbrev pub flag_rule : Text → Rule
flag_rule name = record (new_rule name) { long = Some name; action = Some SetTrue }

-- a flag, which a letter gives too
abbrev pub lettered_rule : Text → ℕ → Rule
lettered_rule name letter = record (flag_rule name) { short = Some letter }

abbrev pub words_rule : Text → Rule
words_rule name = record (new_rule name) {
  action = Some Append;
  range = Some (record { start_inclusive = 1; end_inclusive = usize_max });
}

-- the same, of which at least one must be given
abbrev pub required_words_rule : Text → Rule
required_words_rule name = record (words_rule name) { required = true }

-- one word that is not an option
abbrev pub word_rule : Text → Bool → Rule
word_rule name required = record (new_rule name) { action = Some Set; required = required }

-- a command with these arguments
abbrev pub with_rules : Text → List Rule → App
with_rules name rules = record { top = record (new_shape name) { rules = rules }; subs = [] }

abbrev pub show_app : App
show_app = with_rules (codes "show")
    (option_rule (codes "side") ∷ option_rule (codes "level") ∷ option_rule (codes "words")
    ∷ flag_rule (codes "explain") ∷ words_rule (codes "HEX") ∷ [])

abbrev pub check_app : App
check_app = with_rules (codes "check") (flag_rule (codes "explain") ∷ words_rule (codes "FILE") ∷ [])

abbrev pub transcript_app : App
transcript_app = with_rules (codes "transcript") (option_rule (codes "format") ∷ words_rule (codes "RECORD") ∷ [])

abbrev pub frame_app : App
frame_app = with_rules (codes "frame") (option_rule (codes "words") ∷ words_rule (codes "TEXT") ∷ [])

abbrev pub settings_app : App
settings_app = with_rules (codes "settings") (flag_rule (codes "try") ∷ word_rule (codes "FILE") true ∷ [])

abbrev pub run_app : App
run_app = with_rules (codes "run")
    (lettered_rule (codes "verbose") 118 ∷ option_rule (codes "record") ∷ word_rule (codes "SETTINGS") true ∷ [])

abbrev pub status_app : App
status_app = with_rules (codes "status") (option_rule (codes "format") ∷ required_words_rule (codes "SETTINGS") ∷ [])

abbrev pub stop_app : App
stop_app = with_rules (codes "stop")
    (flag_rule (codes "now") ∷ option_rule (codes "session") ∷ option_rule (codes "timeout")
    ∷ word_rule (codes "SETTINGS") true ∷ [])

-- the whole command line, if no argument begins as a negative number
abbrev pub gate_app : App
gate_app = record {
  top = record (new_shape (codes "daide-gate")) { is_leaf = false; has_version = true };
  subs = show_app.top ∷ check_app.top ∷ transcript_app.top ∷ frame_app.top ∷ settings_app.top ∷ run_app.top ∷ status_app.top
      ∷ stop_app.top ∷ [];
}

-- a hyphen, and then a digit
abbrev pub begins_negative : Text → Bool
begins_negative (hyphen ∷ digit ∷ rest) = hyphen == 45 && is_digit digit
begins_negative other = false

-- ---- the order of a subcommand, by the values of its arguments

-- the side with this name, and the level with this name
abbrev pub side_named : Text → Option Side
side_named word =
    if bytes_eq word (codes "bot") then Some Bot
    else if bytes_eq word (codes "server") then Some Server
    else None

abbrev pub level_named : Text → Option Level
level_named word =
    if bytes_eq word (codes "0") then Some L0
    else if bytes_eq word (codes "10") then Some L10
    else if bytes_eq word (codes "20") then Some L20
    else if bytes_eq word (codes "30") then Some L30
    else if bytes_eq word (codes "40") then Some L40
    else if bytes_eq word (codes "50") then Some L50
    else if bytes_eq word (codes "60") then Some L60
    else None

-- the form of a status with this name
abbrev pub format_named : Text → Option Format
format_named word =
    if bytes_eq word (codes "table") then Some Table
    else if bytes_eq word (codes "json") then Some Json
    else if bytes_eq word (codes "prometheus") then Some Prometheus
    else None

-- whether the form of a transcript with this name is JSON
abbrev pub json_named : Text → Option Bool
json_named word =
    if bytes_eq word (codes "text") then Some false
    else if bytes_eq word (codes "json") then Some true
    else None

-- a number from 1 to a greatest one, in decimal digits as std reads them
abbrev pub IsNumberTo : ℕ → Text → Option ℕ → Type 0
IsNumberTo most word named =
    let digits = without_leading_plus word in
    let number = digits_value 10 digits in
    SomeIff named (IsNumeral 10 digits × (1 ≤ number) × (number ≤ most)) number

-- a flag was given
abbrev pub is_set : Text → List Row → Bool
is_set name rows = option_map_or (λ value. bytes_eq value (codes "true")) (first_of name rows) false

-- the order of `run`
abbrev pub IsRunOrder : List Row → RunOrder → Type 0
IsRunOrder rows order =
    (order.settings.now ≡ unwrap_or (first_of (codes "SETTINGS") rows) [])
    × (order.is_verbose ≡ is_set (codes "verbose") rows)
    × (option_map (λ text. text.now) order.record ≡ first_of (codes "record") rows)

-- the order of `check`
abbrev pub IsCheckOrder : List Row → CheckOrder → Type 0
IsCheckOrder rows order =
    (option_map (λ files. map (λ file. file.now) files.now) order.files ≡ all_of (codes "FILE") rows)
    × (order.is_explained ≡ is_set (codes "explain") rows)

-- the order of `transcript`, by the named form
abbrev pub IsTranscriptOrder : Option Bool → List Row → Order → Type 0
IsTranscriptOrder None rows order = order ≡ BadMessageFormat
IsTranscriptOrder (Some is_json) rows order = (transcript : TranscriptOrder) × (order ≡ Transcript transcript)
    × (transcript.is_json ≡ is_json)
    × (option_map (λ records. map (λ record_name. record_name.now) records.now) transcript.records
    ≡ all_of (codes "RECORD") rows)

-- the order of `frame`
abbrev pub IsFrameOrder : List Row → FrameOrder → Type 0
IsFrameOrder rows order =
    (option_map (λ text. text.now) order.words ≡ first_of (codes "words") rows)
    × (option_map (λ typed. map (λ word. word.now) typed.now) order.typed ≡ all_of (codes "TEXT") rows)

-- the order of `settings`
abbrev pub IsSettingsOrder : List Row → SettingsOrder → Type 0
IsSettingsOrder rows order =
    (order.path.now ≡ unwrap_or (first_of (codes "FILE") rows) (codes "-"))
    × (order.is_tried ≡ is_set (codes "try") rows)

-- the order of `show`, by the named side and level; a bad side is refused before a bad level
abbrev pub IsShowOrder : Option Side → Option Level → List Row → Order → Type 0
IsShowOrder None level rows order = order ≡ BadSide
IsShowOrder (Some side) None rows order = order ≡ BadLevel
IsShowOrder (Some side) (Some level) rows order = (show : ShowOrder) × (order ≡ Show show)
    × (show.side ≡ side) × (show.level ≡ level)
    × (show.is_explained ≡ is_set (codes "explain") rows)
    × (option_map (λ text. text.now) show.words ≡ first_of (codes "words") rows)
    × (option_map (λ typed. map (λ word. word.now) typed.now) show.typed ≡ all_of (codes "HEX") rows)

-- the order of `status`, by the named form
abbrev pub IsStatusOrder : Option Format → List Row → Order → Type 0
IsStatusOrder None rows order = order ≡ BadFormat
IsStatusOrder (Some format) rows order = (status : StatusOrder) × (order ≡ Status status) × (status.format ≡ format)
    × (option_map (λ paths. map (λ path. path.now) paths.now) status.settings ≡ all_of (codes "SETTINGS") rows)

-- The request of `stop`, by the word of `--session` and by `--now`: of the run, of the run with its sessions, or of a session
-- from 1 to 4,294,967,295. The two together request nothing.
abbrev pub IsStopRequest : Option Text → Bool → Option ControlRequest → Type 0
IsStopRequest None false request = request ≡ Some requests.Stop
IsStopRequest None true request = request ≡ Some requests.StopNow
IsStopRequest (Some word) false request =
    (number : Option ℕ) × IsNumberTo 4294967295 word number × (request ≡ option_map requests.StopSession number)
IsStopRequest (Some word) true request = request ≡ None

-- the timeout of `stop`, by its word: 1 to 86,400 seconds; without a word there is none
abbrev pub IsStopTimeout : Option Text → Option (Option ℕ) → Type 0
IsStopTimeout None timeout = timeout ≡ Some None
IsStopTimeout (Some word) timeout = (seconds : Option ℕ) × IsNumberTo 86400 word seconds × (timeout ≡ option_map Some seconds)

-- the order of `stop` with this request, by its timeout
abbrev pub IsStopWithin : ControlRequest → Option (Option ℕ) → List Row → Order → Type 0
IsStopWithin request None rows order = order ≡ BadTimeout
IsStopWithin request (Some timeout) rows order = (stop : StopOrder) × (order ≡ Stop stop)
    × (stop.request ≡ request) × (stop.timeout ≡ timeout)
    × (stop.settings.now ≡ unwrap_or (first_of (codes "SETTINGS") rows) [])

-- the order of `stop`, by its request; a bad session is refused before a bad timeout
abbrev pub IsStopFor : Option ControlRequest → List Row → Order → Type 0
IsStopFor None rows order = order ≡ BadSession
IsStopFor (Some request) rows order = (timeout : Option (Option ℕ))
    × IsStopTimeout (first_of (codes "timeout") rows) timeout × IsStopWithin request timeout rows order

abbrev pub IsStopOrder : List Row → Order → Type 0
IsStopOrder rows order = (request : Option ControlRequest)
    × IsStopRequest (first_of (codes "session") rows) (is_set (codes "now") rows) request × IsStopFor request rows order

-- the subcommands; any other name is `show`
pub data Subcommand : Type 0 where
  ForRun : Subcommand
  ForCheck : Subcommand
  ForTranscript : Subcommand
  ForFrame : Subcommand
  ForSettings : Subcommand
  ForStatus : Subcommand
  ForStop : Subcommand
  ForShow : Subcommand

abbrev pub subcommand_named : Text → Subcommand
subcommand_named name =
    if bytes_eq name (codes "run") then ForRun
    else if bytes_eq name (codes "check") then ForCheck
    else if bytes_eq name (codes "transcript") then ForTranscript
    else if bytes_eq name (codes "frame") then ForFrame
    else if bytes_eq name (codes "settings") then ForSettings
    else if bytes_eq name (codes "status") then ForStatus
    else if bytes_eq name (codes "stop") then ForStop
    else ForShow

-- the order of a command with these values
abbrev pub IsOrderFor : Subcommand → List Row → Order → Type 0
IsOrderFor ForRun rows order = (run : RunOrder) × (order ≡ Run run) × IsRunOrder rows run
IsOrderFor ForCheck rows order = (check : CheckOrder) × (order ≡ Check check) × IsCheckOrder rows check
IsOrderFor ForTranscript rows order =
    IsTranscriptOrder (json_named (unwrap_or (first_of (codes "format") rows) (codes "text"))) rows order
IsOrderFor ForFrame rows order = (frame : FrameOrder) × (order ≡ Frame frame) × IsFrameOrder rows frame
IsOrderFor ForSettings rows order = (settings : SettingsOrder) × (order ≡ Settings settings) × IsSettingsOrder rows settings
IsOrderFor ForStatus rows order =
    IsStatusOrder (format_named (unwrap_or (first_of (codes "format") rows) (codes "table"))) rows order
IsOrderFor ForStop rows order = IsStopOrder rows order
IsOrderFor ForShow rows order =
    IsShowOrder (side_named (unwrap_or (first_of (codes "side") rows) (codes "bot")))
    (level_named (unwrap_or (first_of (codes "level") rows) (codes "0"))) rows order

-- the order of a parse: the name of a subcommand, and the values of its arguments; without a subcommand it is `show`
abbrev pub IsOrderOf : Option (Text × List Row) → Order → Type 0
IsOrderOf None order = order ≡ Show (record {
  side = Bot;
  level = L0;
  words = None;
  is_explained = false;
  typed = None;
})
IsOrderOf (Some (name, rows)) order = IsOrderFor (subcommand_named name) rows order

-- ---- the parse of arguments

-- Arguments parse to a subcommand with the values of its arguments, or to none, or to an error. The contracts of clap
-- define the result if no argument begins as a negative number; otherwise they say nothing.
abbrev pub ParsesTo : List Text → Result (Option (Text × List Row)) ErrorKind → Type 0
ParsesTo words (Ok asked) = list_any begins_negative words ≡ false →
    (fault_of gate_app words ≡ []) × (asked ≡ subcommand_of gate_app words)
ParsesTo words (Err why) = list_any begins_negative words ≡ false →
    (why ≡ OutOfMemory) ⊎ IsAmong why (fault_of gate_app words)

-- the parse from clap's result
abbrev pub parsed_by : Result ArgMatches Error → Result (Option (Text × List Row)) ErrorKind
parsed_by (Ok matches) = Ok (subcommand_rows_of matches)
parsed_by (Err why) = Err (kind_of why)
