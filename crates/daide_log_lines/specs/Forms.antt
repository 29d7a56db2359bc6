-- The lines that are accepted, byte for byte, as docs/FORMATS.md writes them: "The log, version 1" and "The log, version
-- 2". The laws state that the forms by which lines are parsed accept no other line.
use Rattle.std.specs.Prelude.{◌≡◌, ℕ, ◌≤◌, ◌⊎◌, List, [], ◌++◌, length, codes, Ok}
use Rattle.std.specs.Fmt.{decimal}
use Rattle.hex.specs.Hex.{decode_of}
use Rattle.daide_frame.specs.declared.side.Side.TheVariants.{Bot, Server}
use Rattle.daide_token.specs.Token.{token_of_bytes}
use Rattle.daide_grammar.specs.Level.{level_number}
use Rattle.daide_words.specs.declared.word.Word.{Word}
use Rattle.daide_words.specs.WordNames.{slot_name, operand_name}
use Rattle.daide_log_lines.specs.LogLine.{LogEvent, Received, EndOf, ImTimerLine, StopLine, Silence}
use Rattle.daide_log_lines.specs.MatchLine.{MatchEvent, Of, Quiet}

-- 2 to 2,048 hexadecimal digits of either case, an even number, with these bytes
abbrev pub AreDigitsOf : List ℕ → List ℕ → Type 0
AreDigitsOf digits bytes = (2 ≤ length digits) × (length digits ≤ 2048) × (decode_of digits ≡ Ok bytes)

-- an empty line, or one that begins with `#`
abbrev pub IsComment : List ℕ → Type 0
IsComment line = (line ≡ []) ⊎ ((rest : List ℕ) × (line ≡ codes "#" ++ rest))

-- the line of an event
abbrev pub IsEventLine : List ℕ → LogEvent → Type 0
IsEventLine line (Received Bot bytes) = (digits : List ℕ) × (line ≡ codes "bot " ++ digits) × AreDigitsOf digits bytes
IsEventLine line (Received Server bytes) =
    (digits : List ℕ) × (line ≡ codes "server " ++ digits) × AreDigitsOf digits bytes
IsEventLine line (EndOf Bot) = line ≡ codes "end bot"
IsEventLine line (EndOf Server) = line ≡ codes "end server"
IsEventLine line ImTimerLine = line ≡ codes "timer"
IsEventLine line StopLine = line ≡ codes "stop"
IsEventLine line Silence = IsComment line

-- the line of an event in the log of a match with this number of sessions
abbrev pub IsMatchEventLine : ℕ → List ℕ → MatchEvent → Type 0
IsMatchEventLine sessions line (Of session event) =
    (text : List ℕ) × (line ≡ decimal session ++ codes " " ++ text) × (1 ≤ session) × (session ≤ sessions)
    × IsEventLine text event × (event ≡ Silence → ⊥)
IsMatchEventLine sessions line Quiet = IsComment line

-- the line of a word; whether the word is accepted after the words before it is judged apart
abbrev pub IsWordLine : List ℕ → Word → Type 0
IsWordLine line word =
    (digits bytes : List ℕ)
    × (line ≡ codes "word " ++ word.name ++ codes " " ++ digits ++ codes " " ++ slot_name word.slot ++ codes " "
    ++ decimal (level_number word.level) ++ codes " " ++ operand_name word.operand)
    × (length word.name ≡ 3) × (length digits ≡ 4) × (decode_of digits ≡ Ok bytes) × (word.code ≡ token_of_bytes bytes)
