-- The settings of a TOML document: docs/FORMATS.md, "Settings", as definitions. The crate toml defines what a TOML
-- document is, and which members it has. (own)
use Rattle.std.specs.Prelude.{ℕ, ℤ, pos, negsuc, ◌&&◌, ◌||◌, nat_le, Bool, false, if◌then◌else◌}
use Rattle.std.specs.Prelude.{List, length, codes, Option, Some, None, Result, Ok, Err}
use Rattle.std.specs.Str.{bytes_eq}
use Rattle.toml.specs.Data.{Data, as_str, as_integer, as_bool, Members, get_member}
use Rattle.daide_grammar.specs.Words.{most_words}
use Rattle.daide_protocol.specs.Bounds.{longest_body, most_sessions}
use Rattle.daide_protocol.specs.Config.{is_level, is_body, is_depth}
use Rattle.daide_settings.specs.declared.settings.key.Key.{Key}
use Rattle.daide_settings.specs.declared.settings.key.Key.TheVariants.{Listen, Server, TopLevel, MaxBody, MaxDepth}
use Rattle.daide_settings.specs.declared.settings.key.Key.TheVariants.{ImSeconds, MaxSessions, Sessions, Turns, IdleSeconds}
use Rattle.daide_settings.specs.declared.settings.key.Key.TheVariants.{Words, StallSeconds, Endless, Allow, MaxPerAddress, MaxRefused, Control}
use Rattle.daide_settings.specs.declared.settings.SettingsError.{SettingsError}
use Rattle.daide_settings.specs.declared.settings.SettingsError.TheVariants.{NotToml, Unknown, Missing}
use Rattle.daide_settings.specs.declared.settings.SettingsError.TheVariants.{WrongType, Range}
use Rattle.daide_words.specs.declared.word.Word.{Word}
use Rattle.daide_settings.specs.WordSettings.{has_only, words_judged}
use Rattle.daide_settings.specs.declared.settings.ranges.AddressRange.{AddressRange}
use Rattle.daide_settings.specs.Ranges.{most_ranges, allow_judged}
use Rattle.daide_settings.specs.Addresses.{is_address}

-- ---- the table of keys

-- a key as a document writes it
abbrev pub key_text : Key → List ℕ
key_text Listen = codes "listen"
key_text Server = codes "server"
key_text TopLevel = codes "top_level"
key_text MaxBody = codes "max_body"
key_text MaxDepth = codes "max_depth"
key_text ImSeconds = codes "im_seconds"
key_text MaxSessions = codes "max_sessions"
key_text Sessions = codes "sessions"
key_text Turns = codes "turns"
key_text IdleSeconds = codes "idle_seconds"
key_text Words = codes "words"
key_text StallSeconds = codes "stall_seconds"
key_text Endless = codes "endless"
key_text Allow = codes "allow"
key_text MaxPerAddress = codes "max_per_address"
key_text MaxRefused = codes "max_refused"
key_text Control = codes "control"

abbrev pub is_within : ℕ → ℕ → ℕ → Bool
is_within low high n = nat_le low n && nat_le n high

-- the longest timeout that an operator may set, in seconds: a day
abbrev pub longest_timeout : ℕ
longest_timeout = 86400

-- the range of a key's number; for an address or a path, the number of its bytes, and for words or ranges, the number of
-- them; a flag has no number
abbrev pub is_in_range : Key → ℕ → Bool
is_in_range Listen n = is_within 1 255 n
is_in_range Server n = is_within 1 255 n
is_in_range TopLevel n = is_level n
is_in_range MaxBody n = is_body n
is_in_range MaxDepth n = is_depth n
is_in_range ImSeconds n = is_within 1 3600 n
is_in_range MaxSessions n = is_within 1 most_sessions n
is_in_range Sessions n = is_within 1 1000000 n
is_in_range Turns n = is_within 1 1000000000000 n
is_in_range IdleSeconds n = is_within 0 longest_timeout n
is_in_range Words n = is_within 0 most_words n
is_in_range StallSeconds n = is_within 0 longest_timeout n
is_in_range Endless n = false
is_in_range Allow n = is_within 1 most_ranges n
is_in_range MaxPerAddress n = is_within 0 most_sessions n
is_in_range MaxRefused n = is_within 0 1000000 n
is_in_range Control n = is_within 1 100 n

-- the number of a key that is missing in a document; the two addresses are required and have none, and neither have
-- words, ranges, a flag and a path
abbrev pub default_of : Key → Option ℕ
default_of Listen = None
default_of Server = None
default_of TopLevel = Some 60
default_of MaxBody = Some longest_body
default_of MaxDepth = Some 62
default_of ImSeconds = Some 30
default_of MaxSessions = Some 16
default_of Sessions = Some 1
default_of Turns = Some 1000000000
default_of IdleSeconds = Some 0
default_of Words = None
default_of StallSeconds = Some 60
default_of Endless = None
default_of Allow = None
default_of MaxPerAddress = Some 0
default_of MaxRefused = Some 0
default_of Control = None

-- whether a document may have this key
abbrev pub is_known : List ℕ → Bool
is_known text =
    bytes_eq text (key_text Listen) || bytes_eq text (key_text Server) || bytes_eq text (key_text TopLevel)
    || bytes_eq text (key_text MaxBody) || bytes_eq text (key_text MaxDepth) || bytes_eq text (key_text ImSeconds)
    || bytes_eq text (key_text MaxSessions) || bytes_eq text (key_text Sessions) || bytes_eq text (key_text Turns)
    || bytes_eq text (key_text IdleSeconds) || bytes_eq text (key_text Words)
    || bytes_eq text (key_text StallSeconds) || bytes_eq text (key_text Endless) || bytes_eq text (key_text Allow)
    || bytes_eq text (key_text MaxPerAddress) || bytes_eq text (key_text MaxRefused) || bytes_eq text (key_text Control)

abbrev pub has_only_known : Members → Bool
has_only_known members = has_only is_known members

-- ---- one key

-- the length of a text in bytes must be in range
abbrev pub text_judged : Key → Option (List ℕ) → Result (List ℕ) SettingsError
text_judged key None = Err (WrongType key)
text_judged key (Some text) = if is_in_range key (length text) then Ok text else Err (Range key)

-- the text of an address must have its form, and its length in bytes be in range
abbrev pub address_judged : Key → Option (List ℕ) → Result (List ℕ) SettingsError
address_judged key None = Err (WrongType key)
address_judged key (Some text) =
    if is_in_range key (length text) && is_address text then Ok text else Err (Range key)

-- an address must exist, be a text, and be in range, in this order
abbrev pub address_of : Key → Option Data → Result (List ℕ) SettingsError
address_of key None = Err (Missing key)
address_of key (Some value) = address_judged key (as_str value)

abbrev pub integer_judged : Key → Option ℤ → Result ℕ SettingsError
integer_judged key None = Err (WrongType key)
integer_judged key (Some (pos n)) = if is_in_range key n then Ok n else Err (Range key)
integer_judged key (Some (negsuc n)) = Err (Range key)

abbrev pub absent_judged : Key → Option ℕ → Result ℕ SettingsError
absent_judged key None = Err (Missing key)
absent_judged key (Some n) = Ok n

-- a missing number has its default; otherwise the value must be an integer, and in range, in this order
abbrev pub read_number : Key → Option Data → Result ℕ SettingsError
read_number key None = absent_judged key (default_of key)
read_number key (Some value) = integer_judged key (as_integer value)

abbrev pub flag_judged : Key → Option Bool → Result Bool SettingsError
flag_judged key None = Err (WrongType key)
flag_judged key (Some flag) = Ok flag

-- a missing flag is false; otherwise the value must be a boolean
abbrev pub read_flag : Key → Option Data → Result Bool SettingsError
read_flag key None = Ok false
read_flag key (Some value) = flag_judged key (as_bool value)

abbrev pub found_text : Result (List ℕ) SettingsError → Result (Option (List ℕ)) SettingsError
found_text (Ok text) = Ok (Some text)
found_text (Err fault) = Err fault

-- a missing text is none; otherwise the value must be a text, and in range, in this order
abbrev pub read_text : Key → Option Data → Result (Option (List ℕ)) SettingsError
read_text key None = Ok None
read_text key (Some value) = found_text (text_judged key (as_str value))

-- ---- the document

-- the content of the settings in a document
pub record Given : Type 0 where
  pub listen : List ℕ
  pub server : List ℕ
  pub top_level : ℕ
  pub max_body : ℕ
  pub max_depth : ℕ
  pub im_seconds : ℕ
  pub max_sessions : ℕ
  pub sessions : ℕ
  pub turns : ℕ
  pub idle_seconds : ℕ
  pub words : List Word
  pub stall_seconds : ℕ
  pub endless : Bool
  pub allow : List AddressRange
  pub max_per_address : ℕ
  pub max_refused : ℕ
  pub control : Option (List ℕ)

-- the next check, if the one before it passed
abbrev pub then_with : {A B : Type 0} → Result A SettingsError → (A → Result B SettingsError) → Result B SettingsError
then_with (Ok x) judged = judged x
then_with (Err fault) judged = Err fault

-- the keys in order
abbrev pub keys_judged : Members → Result Given SettingsError
keys_judged members =
    then_with (address_of Listen (get_member (key_text Listen) members)) (λ listen.
    then_with (address_of Server (get_member (key_text Server) members)) (λ server.
    then_with (read_number TopLevel (get_member (key_text TopLevel) members)) (λ top_level.
    then_with (read_number MaxBody (get_member (key_text MaxBody) members)) (λ max_body.
    then_with (read_number MaxDepth (get_member (key_text MaxDepth) members)) (λ max_depth.
    then_with (read_number ImSeconds (get_member (key_text ImSeconds) members)) (λ im_seconds.
    then_with (read_number MaxSessions (get_member (key_text MaxSessions) members)) (λ max_sessions.
    then_with (read_number Sessions (get_member (key_text Sessions) members)) (λ sessions.
    then_with (read_number Turns (get_member (key_text Turns) members)) (λ turns.
    then_with (read_number IdleSeconds (get_member (key_text IdleSeconds) members)) (λ idle_seconds.
    then_with (words_judged (get_member (key_text Words) members)) (λ words.
    then_with (read_number StallSeconds (get_member (key_text StallSeconds) members)) (λ stall_seconds.
    then_with (read_flag Endless (get_member (key_text Endless) members)) (λ endless.
    then_with (allow_judged (get_member (key_text Allow) members)) (λ allow.
    then_with (read_number MaxPerAddress (get_member (key_text MaxPerAddress) members)) (λ max_per_address.
    then_with (read_number MaxRefused (get_member (key_text MaxRefused) members)) (λ max_refused.
    then_with (read_text Control (get_member (key_text Control) members)) (λ control.
    Ok (record {
      listen = listen;
      server = server;
      top_level = top_level;
      max_body = max_body;
      max_depth = max_depth;
      im_seconds = im_seconds;
      max_sessions = max_sessions;
      sessions = sessions;
      turns = turns;
      idle_seconds = idle_seconds;
      words = words;
      stall_seconds = stall_seconds;
      endless = endless;
      allow = allow;
      max_per_address = max_per_address;
      max_refused = max_refused;
      control = control;
    }))))))))))))))))))

-- an unknown key is reported before any key is checked
unfoldable pub judged_members : Members → Result Given SettingsError
judged_members members = if has_only_known members then keys_judged members else Err Unknown

-- a text that is no TOML document has no members
abbrev pub judged_settings : Option Members → Result Given SettingsError
judged_settings None = Err NotToml
judged_settings (Some members) = judged_members members
