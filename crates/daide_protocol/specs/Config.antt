-- The limits that an operator may set, and the limits of a session. (own)
use Rattle.std.specs.Prelude.{ℕ, ◌%◌, Bool, ◌&&◌, nat_le, List, [], Result, Ok, Err, is_some, if◌then◌else◌, ◌==◌}
use Rattle.std.specs.Option.{unwrap_or}
use Rattle.daide_grammar.specs.declared.level.Level.TheVariants.{L0}
use Rattle.daide_grammar.specs.Level.{level_of_number}
use Rattle.daide_words.specs.declared.word.Word.{Word}
use Rattle.daide_words.specs.Word.{grammar_words}
use Rattle.daide_protocol.specs.Bounds.{longest_body, least_body, greatest_depth, least_depth}
use Rattle.daide_protocol.specs.Machine.{Limits}
use Rattle.daide_protocol.specs.declared.config.Config.{Config}
use Rattle.daide_protocol.specs.declared.config.ConfigError.{ConfigError}
use Rattle.daide_protocol.specs.declared.config.ConfigError.TheVariants.{Level, Body, Depth}

-- a level of press
abbrev pub is_level : ℕ → Bool
is_level n = is_some (level_of_number n)

-- even, since tokens have two bytes
abbrev pub is_body : ℕ → Bool
is_body n = (n % 2 == 0) && (nat_le least_body n && nat_le n longest_body)

-- the number of brackets that may be open at once
abbrev pub is_depth : ℕ → Bool
is_depth n = nat_le least_depth n && nat_le n greatest_depth

-- the first error
abbrev pub config_fault : Config → Result (Unit {0}) ConfigError
config_fault config =
    if is_level config.top_level
    then (if is_body config.max_body then (if is_depth config.max_depth then Ok tt else Err Depth) else Err Body)
    else Err Level

-- ---- the limits of a session

-- the operator's limits, with the words that the operator added
abbrev pub limits_with : Config → List Word → Limits
limits_with config words = record {
  cap = config.max_body;
  top_level = unwrap_or (level_of_number config.top_level) L0;
  max_depth = config.max_depth;
  words = grammar_words words;
}

-- the same without words
abbrev pub limits_of : Config → Limits
limits_of config = limits_with config []
