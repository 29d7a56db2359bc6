-- The head of a log: the lines before its events. docs/FORMATS.md, "The log" and "The log, version 2". (own)
use Rattle.std.specs.Prelude.{◌≡◌, Ok, ℕ, ◌==◌, ◌<◌, ◌≤◌, Bool, if◌then◌else◌, List, [], ◌∷◌, ◌++◌, length, Option, Some, None}
use Rattle.std.specs.Prelude.{option_map, is_ok}
use Rattle.daide_words.specs.declared.word.Word.{Word}
use Rattle.daide_words.specs.Word.{names_of}
use Rattle.daide_words.specs.Accepted.{word_fault}
use Rattle.daide_protocol.specs.Bounds.{most_sessions}
use Rattle.daide_protocol.specs.Config.{config_fault}
use Rattle.daide_protocol.specs.declared.config.Config.{Config}
use Rattle.daide_log.specs.declared.heading.Version.{Version}
use Rattle.daide_log.specs.declared.heading.Version.TheVariants.{Single, Match}
use Rattle.daide_log.specs.declared.config_line.MatchConfig.{MatchConfig}
use Rattle.daide_log_lines.specs.LogLine.{is_name}
use Rattle.daide_log_lines.specs.MatchLine.{is_match_name}
use Rattle.daide_log_lines.specs.WordLine.{word_of_line}
use Rattle.daide_log.specs.ConfigLine.{config_of_line, match_config_of_line}

-- ---- the contents of a head

-- the version, the limits with the numbers of sessions and words, and the words
pub record Preamble : Type 0 where
  pub version : Version
  pub limits : MatchConfig
  pub words : List Word

-- there is at least one session, and at most the limit, and a session accepts the limits
abbrev pub HasSessions : MatchConfig → Type 0
HasSessions limits =
    (0 < limits.sessions) × (limits.sessions ≤ most_sessions) × (config_fault limits.config ≡ Ok tt)

-- the part of a head that was read so far
pub data Heading : Type 0 where
  Unnamed : Heading  -- no line came
  Named : (version : Version) → Heading  -- the first
  Headed : (head : Preamble) → Heading  -- the second, and words since

-- ---- its lines

-- the version that the first line names
abbrev pub version_of : List ℕ → Option Version
version_of line = if is_name line then Some Single else if is_match_name line then Some Match else None

-- one session with these limits, and no words
abbrev pub single_session : Config → MatchConfig
single_session config = record { config = config; sessions = 1; words = 0 }

-- the contents of the second line
abbrev pub limits_in : Version → List ℕ → Option MatchConfig
limits_in Single line = option_map single_session (config_of_line line)
limits_in Match line = match_config_of_line line

-- the words with one more, if it is accepted after them
abbrev pub append_word : List Word → Option Word → Option (List Word)
append_word words None = None
append_word words (Some word) = if is_ok (word_fault (names_of words) word) then Some (words ++ word ∷ []) else None

-- the head after its next line, if the line has the required form
abbrev pub heading_after : Heading → List ℕ → Option Heading
heading_after Unnamed line = option_map Named (version_of line)
heading_after (Named version) line =
    option_map (λ limits. Headed (record { version = version; limits = limits; words = [] })) (limits_in version line)
heading_after (Headed head) line =
    option_map (λ words. Headed (record { version = head.version; limits = head.limits; words = words }))
    (append_word head.words (word_of_line line))

-- whether all words were read
abbrev pub has_all_words : Preamble → Bool
has_all_words head = length head.words == head.limits.words
