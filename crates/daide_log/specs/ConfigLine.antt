-- The limits in the second line of a log, by its bytes alone: docs/FORMATS.md, "The log" and "The log, version 2".
-- (own)
use Rattle.std.specs.Prelude.{ℕ, List, codes, Option, Some, None, Result, Ok, Err}
use Rattle.daide_grammar.specs.Words.{most_words}
use Rattle.daide_protocol.specs.Bounds.{most_sessions}
use Rattle.daide_protocol.specs.declared.config.Config.{Config}
use Rattle.daide_protocol.specs.declared.config.ConfigError.{ConfigError}
use Rattle.daide_protocol.specs.Config.{config_fault}
use Rattle.daide_log_lines.specs.LogLine.{Parted, strip_prefix, plain_number, parted_at_space}
use Rattle.daide_log_lines.specs.MatchLine.{within}
use Rattle.daide_log.specs.declared.config_line.MatchConfig.{MatchConfig}

-- ---- version 1

abbrev pub right_or_none : Config → Result (Unit {0}) ConfigError → Option Config
right_or_none config (Ok good) = Some config
right_or_none config (Err fault) = None

abbrev pub config_of_numbers : Option ℕ → Option ℕ → Option ℕ → Option Config
config_of_numbers None body depth = None
config_of_numbers (Some level) None depth = None
config_of_numbers (Some level) (Some body) None = None
config_of_numbers (Some level) (Some body) (Some depth) =
    let config : Config = record { top_level = level; max_body = body; max_depth = depth } in
    right_or_none config (config_fault config)

abbrev pub config_of_two : List ℕ → Option Parted → Option Config
config_of_two level None = None
config_of_two level (Some parted) =
    config_of_numbers (plain_number level) (plain_number parted.word) (plain_number parted.rest)

abbrev pub config_of_three : Option Parted → Option Config
config_of_three None = None
config_of_three (Some parted) = config_of_two parted.word (parted_at_space parted.rest)

abbrev pub config_of_rest : Option (List ℕ) → Option Config
config_of_rest None = None
config_of_rest (Some rest) = config_of_three (parted_at_space rest)

-- the limits of a line `config L B D`: three plain numbers that a session accepts as its limits
unfoldable pub config_of_line : List ℕ → Option Config
config_of_line line = config_of_rest (strip_prefix (codes "config ") line)

-- ---- version 2

abbrev pub match_config_of_numbers : Option Config → Option ℕ → Option ℕ → Option MatchConfig
match_config_of_numbers None sessions words = None
match_config_of_numbers (Some config) None words = None
match_config_of_numbers (Some config) (Some sessions) None = None
match_config_of_numbers (Some config) (Some sessions) (Some words) =
    Some (record { config = config; sessions = sessions; words = words })

abbrev pub match_config_of_counts : Option Config → Option Parted → Option MatchConfig
match_config_of_counts config None = None
match_config_of_counts config (Some parted) =
    match_config_of_numbers config (within 1 most_sessions (plain_number parted.word))
    (within 0 most_words (plain_number parted.rest))

abbrev pub match_config_of_depth : List ℕ → List ℕ → Option Parted → Option MatchConfig
match_config_of_depth level body None = None
match_config_of_depth level body (Some parted) =
    match_config_of_counts (config_of_numbers (plain_number level) (plain_number body) (plain_number parted.word))
    (parted_at_space parted.rest)

abbrev pub match_config_of_body : List ℕ → Option Parted → Option MatchConfig
match_config_of_body level None = None
match_config_of_body level (Some parted) = match_config_of_depth level parted.word (parted_at_space parted.rest)

abbrev pub match_config_of_level : Option Parted → Option MatchConfig
match_config_of_level None = None
match_config_of_level (Some parted) = match_config_of_body parted.word (parted_at_space parted.rest)

abbrev pub match_config_of_rest : Option (List ℕ) → Option MatchConfig
match_config_of_rest None = None
match_config_of_rest (Some rest) = match_config_of_level (parted_at_space rest)

-- the contents of a line `config L B D S W`: the limits of each session, as in version 1, the number of sessions, at
-- least one, and the number of words
unfoldable pub match_config_of_line : List ℕ → Option MatchConfig
match_config_of_line line = match_config_of_rest (strip_prefix (codes "config ") line)
